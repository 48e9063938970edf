-- What holds after a list of answers that fits.
use Rattle.std.proofs.Common.{ℕ, ◌+◌, ◌≡◌, List, [], ◌∷◌, inl, inr, refl, ◌∙◌, Some, None}
use Rattle.std.specs.Prelude.{◌↔◌, Option, Result, IsOk}
use Rattle.std.proofs.lemmas.Bool.{cases_Bool}
use Rattle.admit_core.specs.declared.dossier.Answer.{Answer}
use Rattle.admit_core.specs.declared.state.Stamp.{Stamp}
use Rattle.admit_core.specs.declared.state.Status.{Status}
use Rattle.admit_core.specs.State.{State}
use Rattle.admit_core.specs.Answers.{status_at, fits, after, after_all, first_unfit}
use Rattle.day_state.specs.declared.day.UnfitAt.{UnfitAt}
use Rattle.day_state.specs.Applied.{refused_at, after_fitting_front}
use Rattle.day_state.specs.Laws.{IsMarked, AreOwn, OwnFit}
use Rattle.day_state.proofs.Independence.{some_not, answers_stay_apart, fits_apart}

pub front_all : (k : ℕ) (s : State) (stamp : Stamp) (answers : List Answer) → first_unfit k s stamp answers ≡ None
    → after_fitting_front s stamp answers ≡ after_all s stamp answers
front_all k s stamp [] e = refl
front_all k s stamp (a ∷ rest) e =
    elim (cases_Bool (fits s a)) [
      | inl fit ↦ rw fit (front_all (k + 1) (after s stamp a) stamp rest (rw fit at e))
      | inr unfit ↦ absurd (some_not (k, status_at s a.target) (rw unfit at e))
    ]

none_if_ok : (o : Option (ℕ × Status)) → IsOk (refused_at o) → o ≡ None
none_if_ok None ok = refl
none_if_ok (Some x) ok = absurd (cc)

ok_if_none : (o : Option (ℕ × Status)) → o ≡ None → IsOk (refused_at o)
ok_if_none None e = refl
ok_if_none (Some x) e = absurd (some_not x e)

-- the list fits where the own answers of each candidate do
pub ok_own_fit : (s : State) (stamp : Stamp) (answers : List Answer) (r : Result (Unit {0}) UnfitAt) → IsMarked s
    → r ≡ refused_at (first_unfit 0 s stamp answers) → IsOk r ↔ OwnFit s stamp answers
ok_own_fit s stamp answers r long is = (
  λ ok. (fits_apart s stamp answers long).0 (none_if_ok (first_unfit 0 s stamp answers) (rw is at ok)),
  λ own. rw is (ok_if_none (first_unfit 0 s stamp answers) ((fits_apart s stamp answers long).1 own)),
)

-- and then the wishes of each candidate come of their own answers alone
pub ok_apart : (s t : State) (stamp : Stamp) (answers : List Answer) (r : Result (Unit {0}) UnfitAt) → IsMarked s
    → r ≡ refused_at (first_unfit 0 s stamp answers) → t ≡ after_fitting_front s stamp answers → IsOk r
    → AreOwn s stamp answers t
ok_apart s t stamp answers r long is end ok =
    let none : first_unfit 0 s stamp answers ≡ None = none_if_ok (first_unfit 0 s stamp answers) (rw is at ok) in
    rw (end ∙ front_all 0 s stamp answers none) (answers_stay_apart s stamp answers long)
