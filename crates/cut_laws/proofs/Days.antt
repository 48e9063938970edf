-- A day from states with equal statuses.
use Rattle.std.proofs.Common.{ℕ, ◌+◌, ◌≡◌, List, [], ◌∷◌, length, map, Option, None, refl, sym, ◌∙◌, ap, subst}
use Rattle.std.specs.List.{range_with_len}
use Rattle.std.proofs.lemmas.List.{length-map}
use Rattle.admit_core.specs.declared.ranking.CallOrder.{CallOrder}
use Rattle.admit_core.specs.declared.records.DayRecord.{DayRecord}
use Rattle.admit_core.specs.declared.records.Lapse.{Lapse}
use Rattle.admit_core.specs.declared.records.PassEnd.{PassEnd}
use Rattle.admit_core.specs.declared.records.Terms.{Terms}
use Rattle.admit_core.specs.declared.state.Stamp.{Stamp}
use Rattle.admit_core.specs.AutoAnswer.{freed}
use Rattle.admit_core.specs.Boarding.{boarding}
use Rattle.admit_core.specs.Days.{IsDay, IsPassEnd, Passes, after_lapse, answers_of, changes, closing, lapsed_on}
use Rattle.admit_core.specs.Days.{morning, offered}
use Rattle.admit_core.specs.Falls.{FallingSystem, IsGreatest, IsRunOfFalls}
use Rattle.admit_core.specs.Proposals.{proposed}
use Rattle.admit_core.specs.State.{State, free_beds, seats_left}
use Rattle.cut_laws.specs.Alike.{HaveEqualStatuses, undated, unstamped, without_ceiling}
use Rattle.cut_laws.specs.StampsDecideNothing.{StampsDecideNothing}
use Rattle.cut_laws.proofs.Unstamped.{same_beds, same_boarding, same_changes, same_freed, same_left, same_offers}
use Rattle.cut_laws.proofs.Steps.{answers_alike, autos_alike, offers_alike, read_alike, unfit_alike}

-- what is read of two states at once
both_alike : {X : Type 0} (read : State → State → X)
    → ((s t : State) → read (unstamped s) (unstamped t) ≡ read s t) → (s t u v : State)
    → HaveEqualStatuses s u → HaveEqualStatuses t v → read s t ≡ read u v
both_alike read same s t u v e f = sym (same s t) ∙ (λ i. read (e i) (f i)) ∙ same u v

-- ---- a pass
pub closed_alike : (s t : State) (orders : List CallOrder) (bars : List ℕ) (one other : Stamp) → HaveEqualStatuses s t
    → HaveEqualStatuses (closing s orders bars one) (closing t orders bars other)
closed_alike s t orders bars one other e =
    autos_alike (offered s orders bars one) (offered t orders bars other) one other
    (offers_alike s t orders bars one other e)

end_alike : (s t : State) (orders : List CallOrder) (ceilings : List ℕ) (one other : Stamp) (end : PassEnd)
    → HaveEqualStatuses s t → IsPassEnd s orders ceilings one end → IsPassEnd t orders ceilings other end
end_alike s t orders ceilings one other end e is =
    let bars = end.pass.bars in
    let system = read_alike (λ u. boarding u orders ceilings) (λ u. same_boarding u orders ceilings) s t e in
    let offers = offers_alike s t orders bars one other e in
    let closed = closed_alike s t orders bars one other e in
    record {
      pass = record {
        greatest = subst (λ (f : FallingSystem). IsGreatest f bars) system is.pass.greatest;
        falls = subst (λ (f : FallingSystem). IsRunOfFalls f end.pass.falls) system is.pass.falls;
        bars = is.pass.bars;
        offers = is.pass.offers
            ∙ read_alike (λ u. proposed u orders bars) (λ u. same_offers u orders bars) s t e;
      };
      autos = is.autos ∙ both_alike changes same_changes (offered s orders bars one) (closing s orders bars one)
          (offered t orders bars other) (closing t orders bars other) offers closed;
      freed = is.freed ∙ both_alike freed same_freed (offered s orders bars one) (closing s orders bars one)
          (offered t orders bars other) (closing t orders bars other) offers closed;
    }

-- ---- the passes of a day and its evening, with what else each pass keeps
module _ (orders : List CallOrder) (ceilings : List ℕ) (day number : ℕ) (R : State → State → Type 0)
    (keeps : (s t : State) (bars : List ℕ) (k : ℕ) → HaveEqualStatuses s t → R s t
    → R (closing s orders bars (record { day = day; pass = k }))
    (closing t orders bars (record { day = number; pass = k })))
  where
    pub passes_alike : (k : ℕ) (s t : State) (passes : List PassEnd) (evening : State)
        → HaveEqualStatuses s t → R s t → Passes orders ceilings day k s passes evening
        → (other : State) × HaveEqualStatuses evening other × R evening other
        × Passes orders ceilings number k t passes other
    passes_alike k s t [] evening e r are = absurd are
    passes_alike k s t (pass ∷ []) evening e r are =
        let bars = pass.pass.bars in
        let one : Stamp = record { day = day; pass = k } in
        let other : Stamp = record { day = number; pass = k } in
        let left = closing t orders bars other in (
          left,
          ap unstamped are.2 ∙ closed_alike s t orders bars one other e,
          subst (λ (v : State). R v left) (sym are.2) (keeps s t bars k e r),
          (end_alike s t orders ceilings one other pass e are.0, are.1, refl),
        )
    passes_alike k s t (pass ∷ (next ∷ rest)) evening e r are =
        let bars = pass.pass.bars in
        let one : Stamp = record { day = day; pass = k } in
        let other : Stamp = record { day = number; pass = k } in
        let later = passes_alike (k + 1) (closing s orders bars one) (closing t orders bars other) (next ∷ rest) evening
        (closed_alike s t orders bars one other e) (keeps s t bars k e r) are.2 in (
          later.0,
          later.1,
          later.2,
          (end_alike s t orders ceilings one other pass e are.0, are.1, later.3),
        )

seats_alike : (s t : State) → HaveEqualStatuses s t
    → map (seats_left s) (range_with_len 0 (length s.dossier.programmes))
    ≡ map (seats_left t) (range_with_len 0 (length t.dossier.programmes))
seats_alike s t e =
    let left : (p : ℕ) → seats_left s p ≡ seats_left t p =
    λ p. read_alike (λ u. seats_left u p) (λ u. same_left u p) s t e in
    λ i. map (λ p. left p i) (range_with_len 0 (length (ap (λ (u : State). u.dossier.programmes) e i)))

beds_alike : (s t : State) → HaveEqualStatuses s t
    → map (free_beds s) (range_with_len 0 (length s.dossier.schools))
    ≡ map (free_beds t) (range_with_len 0 (length t.dossier.schools))
beds_alike s t e =
    let free : (h : ℕ) → free_beds s h ≡ free_beds t h =
    λ h. read_alike (λ u. free_beds u h) (λ u. same_beds u h) s t e in
    let many = read_alike (λ u. length u.dossier.schools) (λ u. length-map u.dossier.schools without_ceiling) s t e in
    λ i. map (λ h. free h i) (range_with_len 0 (many i))

-- ---- a day that begins with equal statuses once offers have lapsed
pub record IsAlikeMorning (terms others : Option Terms) (s t : State) (day number : ℕ) : Type 0 where
  pub statuses : HaveEqualStatuses (after_lapse terms day s) (after_lapse others number t)
  pub answers : undated (answers_of s.dossier day) ≡ undated (answers_of t.dossier number)

module _ (terms others : Option Terms) (orders : List CallOrder) (ceilings : List ℕ) (s t : State) (day : DayRecord)
    (number : ℕ) (alike : IsAlikeMorning terms others s t day.day number) where
  pub dawn_alike : HaveEqualStatuses (morning terms day.day s) (morning others number t)
  dawn_alike = answers_alike (after_lapse terms day.day s) (after_lapse others number t)
      (record { day = day.day; pass = 0 }) (record { day = number; pass = 0 }) (answers_of s.dossier day.day)
      (answers_of t.dossier number) alike.statuses alike.answers

  pub day_alike : (evening other : State) (lapsed : List Lapse) → HaveEqualStatuses evening other
      → lapsed ≡ lapsed_on others number t → IsDay terms orders ceilings s day evening
      → Passes orders ceilings number 1 (morning others number t) day.passes other
      → IsDay others orders ceilings t (record day { day = number; lapsed = lapsed }) other
  day_alike evening other lapsed e are_lapsed is passes = record {
    lapsed = are_lapsed;
    fits = sym (unfit_alike 0 (after_lapse terms day.day s) (after_lapse others number t)
        (record { day = day.day; pass = 0 }) (record { day = number; pass = 0 }) (answers_of s.dossier day.day)
        (answers_of t.dossier number) alike.statuses alike.answers) ∙ is.fits;
    passes = passes;
    left = is.left ∙ seats_alike evening other e;
    free = is.free ∙ beds_alike evening other e;
  }

-- where nothing else is kept
abbrev Nothing : State → State → Type 0
Nothing s t = Unit {0}

pub stamps_decide_nothing : StampsDecideNothing
stamps_decide_nothing orders ceilings s t day number evening e answers is =
    let alike : IsAlikeMorning None None s t day.day number = record { statuses = e; answers = answers } in
    let dawn = dawn_alike None None orders ceilings s t day number alike in
    let there = passes_alike orders ceilings day.day number Nothing (λ u v bars k f r. tt) 1 (morning None day.day s)
    (morning None number t) day.passes evening dawn tt is.passes in (
      there.0,
      there.1,
      day_alike None None orders ceilings s t day number alike evening there.0 day.lapsed there.1 is.lapsed is there.3,
    )
