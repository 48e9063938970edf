-- Laws of automatic answers.
use Rattle.std.specs.Prelude.{◌≡◌, ◌≢◌, ℕ, ◌<◌, List, true, false, length}
use Rattle.admit_core.specs.declared.state.Stamp.{Stamp}
use Rattle.admit_core.specs.declared.state.Status.TheVariants.{AutoRefused}
use Rattle.admit_core.specs.State.{State, is_live}
use Rattle.admit_core.specs.Answers.{mark_at, status_at}
use Rattle.admit_core.specs.AutoAnswer.{auto_one, auto_all, freed}
use Rattle.admit_core.specs.Days.{frees_nothing}
pub use Rattle.day_state.specs.Others.{SameOthers, SameOwnMarks}

-- each wish has a mark
abbrev pub IsMarked : State → Type 0
IsMarked s = length s.marks ≡ length s.dossier.wishes

-- what becomes of a candidate's wishes depends on their own wishes alone
abbrev pub OwnWishesDecide : Type 0
OwnWishesDecide =
    (c : ℕ) (s t : State) (stamp : Stamp) → IsMarked s → IsMarked t
    → SameOwnMarks c s t → SameOwnMarks c (auto_all s stamp) (auto_all t stamp)

-- the automatic answers of two candidates may be exchanged
abbrev pub MayBeExchanged : Type 0
MayBeExchanged =
    (c d : ℕ) (s : State) (stamp : Stamp) → IsMarked s → c ≢ d
    → auto_one (auto_one s c stamp) d stamp ≡ auto_one (auto_one s d stamp) c stamp

-- the automatic answers of all do to each candidate's wishes what their own alone does
abbrev pub AllIsEachAlone : Type 0
AllIsEachAlone = (c : ℕ) (s : State) (stamp : Stamp) → IsMarked s
    → SameOwnMarks c (auto_one s c stamp) (auto_all s stamp)

-- who has been answered for is not answered for again
abbrev pub OnceIsEnough : Type 0
OnceIsEnough =
    (s : State) (stamp again : Stamp) → IsMarked s
    → auto_all (auto_all s stamp) again ≡ auto_all s stamp

-- automatic answers change nothing for whoever has none of the wishes at these places
abbrev pub AreAnsweredBut : List ℕ → State → Stamp → Type 0
AreAnsweredBut places s stamp = SameOthers places s (auto_all s stamp)

-- a live wish that was automatically refused
pub record IsRefusedAt (old new : State) (place : ℕ) : Type 0 where
  pub in_range : place < length old.dossier.wishes
  pub lived : is_live (mark_at old place) ≡ true
  pub refused : status_at new place ≡ AutoRefused

-- automatic answers that free a seat or a bed refuse a live wish
abbrev pub FreeingRefuses : Type 0
FreeingRefuses =
    (s : State) (stamp : Stamp) → IsMarked s → frees_nothing (freed s (auto_all s stamp)) ≡ false
    → (place : ℕ) × IsRefusedAt s (auto_all s stamp) place
