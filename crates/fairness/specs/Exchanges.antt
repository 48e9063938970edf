-- What a candidate keeps when they change places with the one just before them.
use Rattle.std.specs.Prelude.{◌≡◌, ◌≢◌, ℕ, ◌≤◌, ◌<◌, List, ◌∷◌, ◌++◌, length, map, nat_eq, ◌==◌, if◌then◌else◌}
use Rattle.std.specs.Prelude.{Contains, IsTrue}
use Rattle.std.specs.List.{IsDistinct}
use Rattle.admit_core.specs.declared.dossier.Wish.{Wish}
use Rattle.admit_core.specs.declared.ranking.CallOrder.{CallOrder}
use Rattle.admit_core.specs.declared.state.Mark.{Mark}
use Rattle.admit_core.specs.Boarding.{boarding}
use Rattle.admit_core.specs.DossierRows.{DossierRows}
use Rattle.admit_core.specs.Falls.{IsGreatest}
use Rattle.admit_core.specs.Proposals.{is_proposed, order_of}
use Rattle.admit_core.specs.State.{State, has_school}
use Rattle.admit_core.specs.Validity.{IsValid}

-- call orders that are alike but for that of one programme, in which a candidate changes places with
-- the one just before; the programme has its ranking to itself, since that of no other one changes
pub record IsMovedUp (d : DossierRows) (orders moved : List CallOrder) (p c : ℕ) : Type 0 where
  pub front : List ℕ
  pub passed : ℕ
  pub back : List ℕ
  pub was : order_of d orders p ≡ front ++ passed ∷ c ∷ back
  pub becomes : order_of d moved p ≡ front ++ c ∷ passed ∷ back
  pub once : IsDistinct nat_eq (order_of d orders p)
  pub others : (q : ℕ) → q < length d.programmes → q ≢ p
      → order_of d moved q ≡ order_of d orders q

-- a better position in the call order of a programme that has its ranking to itself costs no offer
-- there
abbrev pub BetterPositionCostsNoOffer : Type 0
BetterPositionCostsNoOffer =
    (s : State) (orders moved : List CallOrder) (ceilings bars moved_bars : List ℕ)
    (w : Wish) (m : Mark)
    → IsValid s.dossier
    → IsMovedUp s.dossier orders moved w.programme w.candidate
    → IsGreatest (boarding s orders ceilings) bars
    → IsGreatest (boarding s moved ceilings) moved_bars
    → IsTrue (is_proposed s orders bars w m) → IsTrue (is_proposed s moved moved_bars w m)

-- a rank where two ranks are exchanged
abbrev pub exchanged : ℕ → ℕ → ℕ → ℕ
exchanged better worse rank =
    if rank == worse then better else if rank == better then worse else rank

-- a wish where two ranks of a school are exchanged
abbrev pub exchanged_in : ℕ → ℕ → ℕ → Wish → Wish
exchanged_in h better worse w =
    record w {
      board_rank = if has_school w h then exchanged better worse w.board_rank
          else w.board_rank;
    }

-- the state over the dossier with these wishes, with the same marks
abbrev pub with_ranks_exchanged : State → ℕ → ℕ → ℕ → State
with_ranks_exchanged s h better worse =
    record s {
      dossier = record s.dossier
          { wishes = map (exchanged_in h better worse) s.dossier.wishes };
    }

-- two ranks of a school between which nobody ranks there
pub record AreNeighbours (s : State) (h better worse : ℕ) : Type 0 where
  pub from_one : 1 ≤ better
  pub below : better < worse
  pub none_between : (v : Wish) → Contains s.dossier.wishes v → IsTrue (has_school v h)
      → better < v.board_rank → v.board_rank < worse → ⊥

-- a better boarding rank costs no offer with that school
abbrev pub BetterBoardingRankCostsNoOffer : Type 0
BetterBoardingRankCostsNoOffer =
    (s : State) (orders : List CallOrder) (ceilings bars moved_bars : List ℕ) (w : Wish)
    (m : Mark) (h better : ℕ)
    → IsValid s.dossier → Contains s.dossier.wishes w → IsTrue (has_school w h)
    → AreNeighbours s h better w.board_rank
    → IsGreatest (boarding s orders ceilings) bars
    → IsGreatest (boarding (with_ranks_exchanged s h better w.board_rank) orders ceilings)
    moved_bars
    → IsTrue (is_proposed s orders bars w m)
    → IsTrue (is_proposed (with_ranks_exchanged s h better w.board_rank) orders moved_bars
    (exchanged_in h better w.board_rank w) m)
