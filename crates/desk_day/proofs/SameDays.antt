-- Days by different picks.
use Rattle.std.proofs.Common.{ℕ, ◌+◌, ◌≡◌, true, not, List, [], ◌∷◌, map, length, refl, sym, ◌∙◌, ap}
use Rattle.std.specs.List.{AllZip, range_with_len}
use Rattle.std.proofs.lemmas.Bool.{not-true, false≢true}
use Rattle.admit_core.specs.declared.ranking.CallOrder.{CallOrder}
use Rattle.admit_core.specs.declared.records.PassEnd.{PassEnd}
use Rattle.admit_core.specs.declared.state.Stamp.{Stamp}
use Rattle.admit_core.specs.State.{State, seats_left, free_beds}
use Rattle.admit_core.specs.Boarding.{boarding}
use Rattle.admit_core.specs.Proposals.{proposed}
use Rattle.admit_core.specs.Days.{IsPassEnd, Passes, closing, offered, changes, freed_after, frees_nothing, morning}
use Rattle.admit_core.specs.Days.{lapsed_on}
use Rattle.bar_fixpoint.proofs.RunLaws.{unique_greatest}
use Rattle.desk_day.specs.DayLaws.{SameButFalls, OnlyFallsDiffer}
use Rattle.desk_day.specs.DayPasses.{stamp_of}

same_pass : (s : State) (orders : List CallOrder) (ceilings : List ℕ) (stamp : Stamp) (one other : PassEnd)
    → IsPassEnd s orders ceilings stamp one → IsPassEnd s orders ceilings stamp other → SameButFalls one other
same_pass s orders ceilings stamp one other a b =
    let bars : one.pass.bars ≡ other.pass.bars =
    unique_greatest (boarding s orders ceilings) one.pass.bars other.pass.bars a.pass.greatest
    b.pass.greatest in
    record {
      bars = bars;
      offers = a.pass.offers ∙ ap (proposed s orders) bars ∙ sym b.pass.offers;
      autos = a.autos ∙ ap (λ bs. changes (offered s orders bs stamp) (closing s orders bs stamp)) bars ∙ sym b.autos;
      freed = a.freed ∙ ap (λ bs. freed_after s orders bs stamp) bars ∙ sym b.freed;
    }

last_and_not : (one other : PassEnd) → SameButFalls one other → frees_nothing one.freed ≡ true
    → not (frees_nothing other.freed) ≡ true → ⊥
last_and_not one other same none some = false≢true (sym (not-true (frees_nothing other.freed) some)
    ∙ ap frees_nothing (sym same.freed)
    ∙ none)

turned : (one other : PassEnd) → SameButFalls one other → SameButFalls other one
turned one other same = record {
  bars = sym same.bars;
  offers = sym same.offers;
  autos = sym same.autos;
  freed = sym same.freed;
}

same_passes : (orders : List CallOrder) (ceilings : List ℕ) (day k : ℕ) (s t : State) (one other : List PassEnd)
    (evening night : State)
    → t ≡ s
    → Passes orders ceilings day k s one evening → Passes orders ceilings day k t other night
    → (evening ≡ night) × AllZip SameButFalls one other
same_passes orders ceilings day k s t [] other evening night e a b = absurd a
same_passes orders ceilings day k s t (p ∷ []) [] evening night e a b = absurd b
same_passes orders ceilings day k s t (p ∷ q ∷ rest) [] evening night e a b = absurd b
same_passes orders ceilings day k s t (p ∷ []) (q ∷ []) evening night e a b =
    let stamp = stamp_of day k in
    let same = same_pass s orders ceilings stamp p q a.0 (rw e at b.0) in (
      a.2 ∙ ap (λ bs. closing s orders bs stamp) same.bars ∙ ap (λ u. closing u orders q.pass.bars stamp) (sym e)
          ∙ sym b.2,
      (same, tt),
    )
same_passes orders ceilings day k s t (p ∷ []) (q ∷ r ∷ rest) evening night e a b =
    let same = same_pass s orders ceilings (stamp_of day k) p q a.0 (rw e at b.0) in
    absurd (last_and_not p q same a.1 b.1)
same_passes orders ceilings day k s t (p ∷ r ∷ rest) (q ∷ []) evening night e a b =
    let same = same_pass s orders ceilings (stamp_of day k) p q a.0 (rw e at b.0) in
    absurd (last_and_not q p (turned p q same) b.1 a.1)
same_passes orders ceilings day k s t (p ∷ r ∷ rest) (q ∷ u ∷ more) evening night e a b =
    let stamp = stamp_of day k in
    let same = same_pass s orders ceilings stamp p q a.0 (rw e at b.0) in
    let next : closing t orders q.pass.bars stamp ≡ closing s orders p.pass.bars stamp =
    ap (λ v. closing v orders q.pass.bars stamp) e
    ∙ ap (λ bs. closing s orders bs stamp) (sym same.bars) in
    let later = same_passes orders ceilings day (k + 1) (closing s orders p.pass.bars stamp)
    (closing t orders q.pass.bars stamp) (r ∷ rest)
    (u ∷ more) evening night next a.2 b.2 in
    (later.0, (same, later.1))

pub only_falls_differ : OnlyFallsDiffer
only_falls_differ terms orders ceilings old one other evening night number a b =
    let passes = same_passes orders ceilings one.day 1 (morning terms one.day old)
    (morning terms one.day old) one.passes other.passes
    evening night refl a.passes (rw (← number) at b.passes) in (
      passes.0,
      record {
        number = number;
        lapsed = a.lapsed ∙ ap (λ d. lapsed_on terms d old) number ∙ sym b.lapsed;
        passes = passes.1;
        left = a.left ∙ ap (λ (s : State). map (seats_left s) (range_with_len 0 (length s.dossier.programmes))) passes.0
            ∙ sym b.left;
        free = a.free ∙ ap (λ (s : State). map (free_beds s) (range_with_len 0 (length s.dossier.schools))) passes.0
            ∙ sym b.free;
      },
    )
