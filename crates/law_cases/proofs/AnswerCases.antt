-- The witnesses of the laws of answers, by computation and by the laws.
use Rattle.std.proofs.Common.{ℕ, zero, suc, ◌<◌, ◌≡◌, true, List, [], ◌∷◌, inl, inr, refl, arith, lit<, length}
use Rattle.std.proofs.lemmas.Bool.{cases_eq, eqb-true, ne_eqb}
use Rattle.admit_core.specs.declared.dossier.Answer.{Answer}
use Rattle.admit_core.specs.declared.state.Stamp.{Stamp}
use Rattle.admit_core.specs.declared.state.Status.TheVariants.{Refused}
use Rattle.admit_core.specs.Answers.{candidate_at, is_own_kind, mark_at, own}
use Rattle.admit_core.specs.State.{State}
use Rattle.admit_core.specs.WorkedRows.{first_pass, marked}
use Rattle.auto_answer.specs.Laws.{SameOwnMarks}
use Rattle.auto_answer.proofs.LawsOfAnswers.{all_is_each_alone, own_wishes_decide}
use Rattle.day_state.proofs.Independence.{answers_stay_apart, fits_apart, may_exchange, order_is_free}
use Rattle.law_cases.specs.Answers.{AllIsEachAloneWitness, AnswersStayApartWitness, AreOwnWitness, FitsApartWitness}
use Rattle.law_cases.specs.Answers.{FreeingRefusesWitness, MayBeExchangedWitness, MayExchangeWitness}
use Rattle.law_cases.specs.Answers.{OnceIsEnoughWitness, OrderIsFreeWitness, OwnWishesDecideWitness}
use Rattle.law_cases.specs.Answers.{SameOwnMarksEachWitness, accepts_second, both_offered, quits_other, refuses_first}
use Rattle.law_cases.specs.Answers.{with_other}

abbrev other : State
other = with_other (marked Refused 2 0)

same_at : (place : ℕ) → place < length both_offered.dossier.wishes → candidate_at both_offered place ≡ 81
    → mark_at both_offered place ≡ mark_at other place
same_at zero lt own = refl
same_at (suc zero) lt own = refl
same_at (suc (suc zero)) lt own = absurd (omega (arith, own))
same_at (suc (suc (suc k))) lt own = absurd (omega (arith, lt))

same_marks : SameOwnMarks 81 both_offered other
same_marks = record { dossier = refl; each = same_at }

pub own_wishes_decide_here : OwnWishesDecideWitness
own_wishes_decide_here = (
  refl,
  refl,
  same_marks,
  own_wishes_decide 81 both_offered other first_pass refl refl
      same_marks,
)

pub same_own_marks : SameOwnMarksEachWitness
same_own_marks = (lit< tt, refl, refl)

pub may_be_exchanged_here : MayBeExchangedWitness
may_be_exchanged_here = (refl, λ e. absurd (omega (arith, e)), refl)

pub all_is_each_alone_here : AllIsEachAloneWitness
all_is_each_alone_here = (refl, all_is_each_alone 81 both_offered first_pass refl)

pub once_is_enough_here : OnceIsEnoughWitness
once_is_enough_here = (refl, refl)

pub freeing_refuses_here : FreeingRefusesWitness
freeing_refuses_here = (refl, refl, 0, record { in_range = lit< tt; lived = refl; refused = refl })

abbrev day_two : Stamp
day_two = record { day = 2; pass = 0 }

abbrev three : List Answer
three = quits_other ∷ refuses_first ∷ accepts_second ∷ []

pub answers_stay_apart_here : AnswersStayApartWitness
answers_stay_apart_here = (refl, answers_stay_apart both_offered day_two three refl)

pub are_own : AreOwnWitness
are_own = (lit< tt, refl, refl)

pub fits_apart_here : FitsApartWitness
fits_apart_here = (refl, fits_apart both_offered day_two three refl)

-- the answers of each candidate stand in the same order
alike : (c : ℕ) → own both_offered c three ≡ own both_offered c (refuses_first ∷ accepts_second ∷ quits_other ∷ [])
alike c =
    elim (cases_eq 82 c) [
      | inl is ↦ rw (← is) refl
      | inr not_82 ↦ elim (cases_eq 81 c) [
        | inl is ↦ rw (← is) refl
        | inr not_81 ↦ rw (ne_eqb 82 c not_82, ne_eqb 81 c not_81) refl
      ]
    ]

pub order_is_free_here : OrderIsFreeWitness
order_is_free_here = (
  refl,
  alike,
  order_is_free both_offered day_two three
      (refuses_first ∷ accepts_second ∷ quits_other ∷ []) refl alike,
)

apart : (c : ℕ) → is_own_kind quits_other.kind both_offered c quits_other.target ≡ true
    → is_own_kind accepts_second.kind both_offered c accepts_second.target ≡ true → ⊥
apart c one two =
    let is : 82 ≡ c = eqb-true 82 c one in
    let was : 81 ≡ c = eqb-true 81 c two in
    absurd (omega (arith, is, was))

pub may_exchange_here : MayExchangeWitness
may_exchange_here = (
  refl,
  apart,
  may_exchange both_offered day_two (refuses_first ∷ []) quits_other accepts_second
      [] refl apart,
)
