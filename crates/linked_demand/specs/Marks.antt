-- Which wishes become proposed where wishes are closed, and their marks.
use Rattle.std.specs.Prelude.{◌≡◌, ℕ, ◌<◌, Bool, true, false, not, ◌&&◌, List, length, Some, slice_get}
use Rattle.std.specs.Prelude.{slice_index_or}
use Rattle.admit_core.specs.declared.dossier.Wish.{Wish}
use Rattle.admit_core.specs.declared.state.Mark.{Mark}
use Rattle.admit_core.specs.State.{State, entries}
use Rattle.admit_core.specs.Proposals.{is_open}
use Rattle.day_state.specs.Kept.{mark_in, wish_in}
use Rattle.linked_demand.specs.Links.{LinksRow}
use Rattle.linked_demand.specs.Demand.{is_proposed_at}

-- a wish becomes proposed between two links, and is open under bars
abbrev pub is_new : State → List ℕ → LinksRow → LinksRow → ℕ × (Wish × Mark) → Bool
is_new s bars old new x =
    (is_proposed_at new x.0 && not (is_proposed_at old x.0)) && is_open s bars x.1.0 x.1.1

-- the wish at a place is open by its flag and under bars, and is called by its turn alone
abbrev pub is_fresh : State → List ℕ → List Bool → List Bool → ℕ → Bool
is_fresh s bars opens exempt k =
    (slice_index_or opens k false && not (slice_index_or exempt k false)) && is_open s bars
    (wish_in s.dossier.wishes k) (mark_in s.marks k)

-- marks of wishes: those that were set stay, and each wish that passes a test is marked
pub record MarksWishes (s : State) (test : ℕ × (Wish × Mark) → Bool)
    (old new : List Bool) : Type 0 where
  pub as_long : length new ≡ length old
  pub grows : (k : ℕ) → slice_index_or old k false ≡ true → slice_index_or new k false ≡ true
  pub each :
      (k : ℕ) (e : Wish × Mark)
      → slice_get (entries s) k ≡ Some e → test (k, e) ≡ true → k < length old
      → slice_index_or new k false ≡ true
