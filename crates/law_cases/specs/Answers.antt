-- Witnesses of the laws of answers, in person and automatic: two candidates, of whom one ranks both
-- their wishes and has an offer by each.
use Rattle.std.specs.Prelude.{◌≡◌, ◌≢◌, ◌↔◌, ℕ, ◌<◌, true, false, List, [], ◌∷◌, ◌++◌, length, None}
use Rattle.admit_core.specs.declared.dossier.Answer.{Answer}
use Rattle.admit_core.specs.declared.dossier.AnswerKind.TheVariants.{Accept, Quit, Refuse}
use Rattle.admit_core.specs.declared.state.Mark.{Mark}
use Rattle.admit_core.specs.declared.state.Stamp.{Stamp}
use Rattle.admit_core.specs.declared.state.Status.TheVariants.{Offered, Refused, Waiting}
use Rattle.admit_core.specs.Answers.{after_all, candidate_at, first_unfit, is_own_kind, mark_at, own}
use Rattle.admit_core.specs.AutoAnswer.{auto_all, auto_one, freed}
use Rattle.admit_core.specs.Days.{frees_nothing}
use Rattle.admit_core.specs.State.{State}
use Rattle.admit_core.specs.WorkedRows.{first_pass, marked, two_offers}
use Rattle.auto_answer.specs.Laws.{IsMarked, IsRefusedAt, SameOwnMarks}
use Rattle.day_state.specs.Laws.{AreOwn, OwnFit, SameEnd}

-- the wishes of 81 are offered, and that of 82 has this mark
abbrev pub with_other : Mark → State
with_other m =
    record two_offers { marks = marked Offered 1 1 ∷ marked Offered 1 1 ∷ m ∷ [] }

abbrev pub both_offered : State
both_offered = with_other (marked Waiting 0 0)

-- ---- automatic answers
abbrev pub OwnWishesDecideWitness : Type 0
OwnWishesDecideWitness =
    let c : ℕ = 81 in
    let s : State = both_offered in
    let t : State = with_other (marked Refused 2 0) in
    let stamp : Stamp = first_pass in
    IsMarked s × IsMarked t
    × SameOwnMarks c s t × SameOwnMarks c (auto_all s stamp) (auto_all t stamp)

abbrev pub SameOwnMarksEachWitness : Type 0
SameOwnMarksEachWitness =
    let c : ℕ = 81 in
    let s : State = both_offered in
    let t : State = with_other (marked Refused 2 0) in
    let place : ℕ = 1 in
    (place < length s.dossier.wishes) × (candidate_at s place ≡ c)
    × (mark_at s place ≡ mark_at t place)

abbrev pub MayBeExchangedWitness : Type 0
MayBeExchangedWitness =
    let c : ℕ = 81 in
    let d : ℕ = 82 in
    let s : State = both_offered in
    let stamp : Stamp = first_pass in
    IsMarked s × (c ≢ d)
    × (auto_one (auto_one s c stamp) d stamp ≡ auto_one (auto_one s d stamp) c stamp)

abbrev pub AllIsEachAloneWitness : Type 0
AllIsEachAloneWitness =
    let c : ℕ = 81 in
    let s : State = both_offered in
    let stamp : Stamp = first_pass in
    IsMarked s
    × SameOwnMarks c (auto_one s c stamp) (auto_all s stamp)

-- answered for in the first pass of day 1, and again on day 2
abbrev pub OnceIsEnoughWitness : Type 0
OnceIsEnoughWitness =
    let s : State = both_offered in
    let stamp : Stamp = first_pass in
    let again : Stamp = record { day = 2; pass = 1 } in
    IsMarked s
    × (auto_all (auto_all s stamp) again ≡ auto_all s stamp)

abbrev pub FreeingRefusesWitness : Type 0
FreeingRefusesWitness =
    let s : State = both_offered in
    let stamp : Stamp = first_pass in
    IsMarked s × (frees_nothing (freed s (auto_all s stamp)) ≡ false)
    × (place : ℕ) × IsRefusedAt s (auto_all s stamp) place

-- ---- answers in person
abbrev pub accepts_second : Answer
accepts_second = record { day = 2; kind = Accept; target = 1 }

abbrev pub refuses_first : Answer
refuses_first = record { day = 2; kind = Refuse; target = 0 }

abbrev pub quits_other : Answer
quits_other = record { day = 2; kind = Quit; target = 82 }

abbrev pub AnswersStayApartWitness : Type 0
AnswersStayApartWitness =
    let s : State = both_offered in
    let stamp : Stamp = record { day = 2; pass = 0 } in
    let answers : List Answer = quits_other ∷ refuses_first ∷ accepts_second ∷ [] in
    IsMarked s
    × AreOwn s stamp answers (after_all s stamp answers)

abbrev pub AreOwnWitness : Type 0
AreOwnWitness =
    let s : State = both_offered in
    let stamp : Stamp = record { day = 2; pass = 0 } in
    let answers : List Answer = quits_other ∷ refuses_first ∷ accepts_second ∷ [] in
    let t : State = after_all both_offered (record { day = 2; pass = 0 })
    (quits_other ∷ refuses_first ∷ accepts_second ∷ []) in
    let c : ℕ = 81 in
    let place : ℕ = 1 in
    (place < length s.dossier.wishes) × (candidate_at s place ≡ c)
    × (mark_at t place ≡ mark_at (after_all s stamp (own s c answers)) place)

abbrev pub FitsApartWitness : Type 0
FitsApartWitness =
    let s : State = both_offered in
    let stamp : Stamp = record { day = 2; pass = 0 } in
    let answers : List Answer = quits_other ∷ refuses_first ∷ accepts_second ∷ [] in
    IsMarked s
    × ((first_unfit 0 s stamp answers ≡ None) ↔ OwnFit s stamp answers)

-- the one who quits answers last instead of first
abbrev pub OrderIsFreeWitness : Type 0
OrderIsFreeWitness =
    let s : State = both_offered in
    let stamp : Stamp = record { day = 2; pass = 0 } in
    let one : List Answer = quits_other ∷ refuses_first ∷ accepts_second ∷ [] in
    let other : List Answer = refuses_first ∷ accepts_second ∷ quits_other ∷ [] in
    IsMarked s
    × ((c : ℕ) → own s c one ≡ own s c other) × SameEnd s stamp one other

abbrev pub MayExchangeWitness : Type 0
MayExchangeWitness =
    let s : State = both_offered in
    let stamp : Stamp = record { day = 2; pass = 0 } in
    let front : List Answer = refuses_first ∷ [] in
    let a : Answer = quits_other in
    let b : Answer = accepts_second in
    let rest : List Answer = [] in
    IsMarked s
    × ((c : ℕ) → is_own_kind a.kind s c a.target ≡ true
    → is_own_kind b.kind s c b.target ≡ true → ⊥)
    × SameEnd s stamp (front ++ a ∷ b ∷ rest) (front ++ b ∷ a ∷ rest)
