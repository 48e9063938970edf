-- The greatest bars do not fall where beds and ceilings grow, and what a school needs is fixed.
use Rattle.std.proofs.Common.{◌≡◌, ◌∙◌, ℕ, ◌<◌, ◌≤◌, List, arith, inl, inr, length, subst, sym}
use Rattle.std.specs.Prelude.{slice_index}
use Rattle.std.proofs.lemmas.Bool.{cases_eq}
use Rattle.admit_core.proofs.ClosedEvenings.{free_at}
use Rattle.admit_core.specs.declared.ranking.CallOrder.{CallOrder}
use Rattle.admit_core.specs.Boarding.{boarding}
use Rattle.admit_core.specs.DossierRows.{beds_of}
use Rattle.admit_core.specs.Falls.{Fits, IsAtMost, IsGreatest}
use Rattle.admit_core.specs.LeastBeds.{IsLeastBeds, with_beds}
use Rattle.admit_core.specs.State.{State}
use Rattle.bar_fixpoint.proofs.RunLaws.{unique_greatest}
use Rattle.bed_need.specs.BedLaws.{GreatestBarsDoNotFall}
use Rattle.bed_need.specs.Figures.{Figures, FiguresAreFixed, lacks}
use Rattle.bed_need.specs.Growing.{with_more_beds}
use Rattle.bed_need.proofs.RoomyBeds.{free_here, free_there}

module _ (s : State) (orders : List CallOrder) (low high : List ℕ) (h n : ℕ) (long : length low
    ≡ length s.dossier.schools) (rise : IsAtMost low high) (more : beds_of s.dossier h ≤ n) where
  more_free : (i : ℕ) → i < length high
      → slice_index (boarding s orders low).free i
      ≤ slice_index (boarding (with_beds s h n) orders high).free i
  more_free i lt =
      let in_low : i < length low = omega (arith, lt, rise.as_many) in
      let high_long : length high ≡ length s.dossier.schools = sym rise.as_many ∙ long in
      let now = free_at s orders low i in_low in
      elim (cases_eq i h) [
        | inl same ↦
            let then = free_here s orders high h n i high_long lt same in
            let beds : beds_of s.dossier i ≤ n = rw same more in
            omega (arith, now, then, beds)
        | inr other ↦ omega (arith, now, free_there s orders high h n i high_long lt other)
      ]

  still_fits : (bars : List ℕ) → Fits (boarding s orders low) bars → Fits (boarding (with_beds s h n) orders high) bars
  still_fits bars fits = record {
    under_ceilings = record {
      as_many = fits.under_ceilings.as_many
          ∙ rise.as_many;
      each = λ i. omega (arith, fits.under_ceilings.each i, rise.each i);
    };
    room = λ i lt. omega (arith, fits.room i (omega (arith, lt, rise.as_many)), more_free i lt);
  }

pub bars_do_not_fall : GreatestBarsDoNotFall
bars_do_not_fall s orders low high bars more_bars h n long rise more greatest then =
    then.greatest bars (still_fits s orders low high h n long rise more bars greatest.fits)

-- the need is one, and so are the bars
one_need : (s : State) (orders : List CallOrder) (ceilings : List ℕ) (h n m : ℕ)
    → IsLeastBeds s orders ceilings h n → IsLeastBeds s orders ceilings h m → n ≡ m
one_need s orders ceilings h n m one other = omega (arith, one.least m other.enough, other.least n one.enough)

pub figures_are_fixed : FiguresAreFixed
figures_are_fixed s orders ceilings h one other is also =
    let need : one.need ≡ other.need = one_need s orders ceilings h one.need other.need is.need also.need in
    let before : one.before ≡ other.before = unique_greatest
    (boarding s orders ceilings) one.before other.before is.growth.before also.growth.before in
    let grown : IsGreatest (with_more_beds s orders ceilings h (lacks s h other.need)) one.after =
    subst (λ (n : ℕ). IsGreatest (with_more_beds s orders ceilings h (lacks s h n)) one.after) need is.growth.after in
    let after : one.after ≡ other.after =
    unique_greatest (with_more_beds s orders ceilings h (lacks s h other.need)) one.after
    other.after grown also.growth.after in
    let figures : ℕ → List ℕ → List ℕ → Figures = λ n b a. record { need = n; before = b; after = a } in
    λ i. figures (need i) (before i) (after i)
