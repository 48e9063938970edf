-- Laws of answers: the candidates are independent of one another.
use Rattle.std.specs.Prelude.{◌≡◌, ◌↔◌, ℕ, ◌<◌, true, List, ◌∷◌, ◌++◌, length, None}
use Rattle.admit_core.specs.declared.dossier.Answer.{Answer}
use Rattle.admit_core.specs.declared.state.Stamp.{Stamp}
use Rattle.admit_core.specs.State.{State}
use Rattle.admit_core.specs.Answers.{mark_at, candidate_at, after_all, first_unfit, is_own_kind, own}

-- each wish has a mark
abbrev pub IsMarked : State → Type 0
IsMarked s = length s.marks ≡ length s.dossier.wishes

-- the wishes of each candidate are in the state t what their own answers alone make of them
abbrev pub AreOwn : State → Stamp → List Answer → State → Type 0
AreOwn s stamp answers t =
    (c place : ℕ) → place < length s.dossier.wishes → candidate_at s place ≡ c
    → mark_at t place ≡ mark_at (after_all s stamp (own s c answers)) place

-- the own answers of each candidate fit
abbrev pub OwnFit : State → Stamp → List Answer → Type 0
OwnFit s stamp answers = (c : ℕ) → first_unfit 0 s stamp (own s c answers) ≡ None

-- two lists lead to the same state, and fit alike
pub record SameEnd (s : State) (stamp : Stamp) (one other : List Answer) : Type 0 where
  pub state : after_all s stamp one ≡ after_all s stamp other
  pub fits : (first_unfit 0 s stamp one ≡ None) ↔ (first_unfit 0 s stamp other ≡ None)

-- after a list of answers, the wishes of each candidate are those after their own answers alone
abbrev pub AnswersStayApart : Type 0
AnswersStayApart =
    (s : State) (stamp : Stamp) (answers : List Answer) → IsMarked s
    → AreOwn s stamp answers (after_all s stamp answers)

-- a list of answers fits exactly where the own answers of each candidate fit
abbrev pub FitsApart : Type 0
FitsApart =
    (s : State) (stamp : Stamp) (answers : List Answer) → IsMarked s
    → (first_unfit 0 s stamp answers ≡ None) ↔ OwnFit s stamp answers

-- nothing but the order of each candidate's own answers counts
abbrev pub OrderIsFree : Type 0
OrderIsFree =
    (s : State) (stamp : Stamp) (one other : List Answer) → IsMarked s
    → ((c : ℕ) → own s c one ≡ own s c other) → SameEnd s stamp one other

-- two answers of different candidates may be exchanged
abbrev pub MayExchange : Type 0
MayExchange =
    (s : State) (stamp : Stamp) (front : List Answer) (a b : Answer) (rest : List Answer)
    → IsMarked s
    → ((c : ℕ) → is_own_kind a.kind s c a.target ≡ true
    → is_own_kind b.kind s c b.target ≡ true → ⊥)
    → SameEnd s stamp (front ++ a ∷ b ∷ rest) (front ++ b ∷ a ∷ rest)
