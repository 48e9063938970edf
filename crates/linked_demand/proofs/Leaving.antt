-- How far the seats of a programme reach where a wish is closed.
use Rattle.std.proofs.Common.{ℕ, ◌+◌, ◌-◌, ◌≤◌, ◌<◌, ◌≡◌, Bool, true, false, not, ◌&&◌, List, [], map, length, inl, inr}
use Rattle.std.proofs.Common.{refl, sym, ◌∙◌, ap, arith, nat_lt, get_or, drop, Option, None, Some, subst}
use Rattle.std.proofs.Math.Bool.{and_comm}
use Rattle.std.proofs.Math.ListN.{set}
use Rattle.std.specs.List.{list_any, range_with_len}
use Rattle.std.proofs.lemmas.Bool.{cases_Bool, and_parts, le-ltb, ltb-true, ltb-false, not-true}
use Rattle.std.specs.Prelude.{if◌then◌else◌}
use Rattle.std.proofs.lemmas.List.{get_or_read, set-get_or, map-set, get_or-map, length-map, length-set}
use Rattle.std.proofs.lemmas.Simd.{map-map}
use Rattle.std.proofs.lemmas.List.FromFn.{length-map-range_with_len, get_or-map-range_with_len}
use Rattle.admit_core.proofs.Plain.{and_assoc, and_not}
use Rattle.admit_core.specs.declared.dossier.Wish.{Wish}
use Rattle.admit_core.specs.declared.ranking.CallOrder.{CallOrder}
use Rattle.admit_core.specs.State.{State, entries, holds_seat, seats_left}
use Rattle.linked_demand.specs.Line.{LineRow, reach, next, is_reached, is_answer, last_new}
use Rattle.linked_demand.specs.Opens.{flagged, is_flagged_in, wants_by, line_of, seat_row}
use Rattle.linked_demand.specs.Links.{claim_of, AllOpenWait, IsSeatPlace}
use Rattle.linked_demand.specs.Wants.{wants_along, seat_rows, reach_in, AllNeedSeatAlone, AreBelow, IsReached}
use Rattle.linked_demand.proofs.Closing.{Closes, claim_flagged, fewer, row_is, links_with, lines_set, read_range}
use Rattle.linked_demand.proofs.Closing.{programme_within, claim_right}
use Rattle.linked_demand.proofs.Flagging.{wants_right, row_within}
use Rattle.linked_demand.proofs.Reach.{reach_within, reach_behind, reach_moved, reached_by_count, fresh_none}
use Rattle.linked_demand.proofs.Reach.{fresh_some}
use Rattle.linked_demand.proofs.Waiting.{closed_wait, row_alone}

-- one who leaves their seat wanted one, wants none any more, and was reached
not_before : (wanted wants before : Bool) → (wanted && (not wants && before)) ≡ false → wanted ≡ true
    → wants ≡ false → before ≡ false
not_before wanted wants before e had stopped = rw (had, stopped) at e

module _ {s : State} {orders : List CallOrder} {opens : List Bool} {claims : List (List (List ℕ))}
    {places : List ℕ} {exempt : List Bool} {i : ℕ} {w : Wish}
    (k : Closes s orders opens (seat_rows s orders opens) claims places exempt i w) where
  -- the line of the wish's programme before and after
  abbrev old : LineRow
  old = seat_row s orders opens w.programme

  abbrev new : LineRow
  new = seat_row s orders (set opens i false) w.programme

  -- the claims that are read are those of the programme
  pub claims_right : (row : List (List ℕ)) → row ≡ get_or claims w.programme row
      → row ≡ map (claim_of s.dossier w.programme) (line_of s.dossier orders w.programme)
  claims_right row read =
      read_range (λ p. map (claim_of s.dossier p) (line_of s.dossier orders p))
      (length s.dossier.programmes) w.programme claims row k.links.claims_are (programme_within k) read

  -- so many of them are in the line
  pub in_claims : (row : List (List ℕ)) → row ≡ get_or claims w.programme row
      → length row ≡ length (line_of s.dossier orders w.programme)
  in_claims row read = ap length (claims_right row read)
      ∙ length-map (line_of s.dossier orders w.programme) (claim_of s.dossier w.programme)

  -- the claim at a place is that of the one who stands there
  pub claim_there : (row : List (List ℕ)) → row ≡ get_or claims w.programme row → (at : ℕ) → at < length row
      → (claim : List ℕ) → claim ≡ get_or row at []
      → claim ≡ claim_of s.dossier w.programme (get_or (line_of s.dossier orders w.programme) at 0)
  claim_there row row_read at lt claim read =
      read
      ∙ ap (λ (r : List (List ℕ)). get_or r at []) (claims_right row row_read)
      ∙ get_or-map (claim_of s.dossier w.programme) (line_of s.dossier orders w.programme) at 0 []
      (omega (arith, lt, in_claims row row_read))

  -- whether the wish's candidate wants a seat under flags: one of their claim is open, and they are not live
  pub wants_here : (flags : List Bool) → length flags ≡ length s.dossier.wishes → (claim : List ℕ)
      → claim ≡ claim_of s.dossier w.programme w.candidate → (live : Bool) → live ≡ holds_seat s w.candidate w.programme
      → (found : Bool) → found ≡ (not live && list_any (λ v. get_or flags v false) claim)
      → found ≡ wants_by s flags w.programme w.candidate
  wants_here flags long claim is live live_is found found_is =
      found_is ∙ and_comm (not live) (list_any (λ v. get_or flags v false) claim)
      ∙ ap (λ (ks : List ℕ). list_any (λ v. get_or flags v false) ks && not live) is
      ∙ ap (λ b. b && not live) (claim_flagged s flags w.programme w.candidate long k.links.marks_each)
      ∙ ap (λ b. list_any (is_flagged_in w.programme w.candidate) (flagged s flags) && not b) live_is

  -- and who of the line does
  pub wants_there : (flags : List Bool) → length flags ≡ length s.dossier.wishes → (row : List (List ℕ))
      → row ≡ get_or claims w.programme row
      → wants_along s flags row ≡ (seat_row s orders flags w.programme).flags
  wants_there flags long row read = wants_right s orders flags long k.links.marks_each w.programme row
      (claims_right row read)

  pub reached_each : (reached : List ℕ) → reached ≡ map reach_in (seat_rows s orders opens)
      → length reached ≡ length s.dossier.programmes
  reached_each reached are =
      ap length are
      ∙ length-map (seat_rows s orders opens) reach_in
      ∙ length-map-range_with_len (seat_row s orders opens) 0 (length s.dossier.programmes)

  -- the number that is read is that of the programme
  pub reach_right : (reached : List ℕ) → reached ≡ map reach_in (seat_rows s orders opens) → (before : ℕ)
      → before ≡ get_or reached w.programme before → before ≡ reach_in old
  reach_right reached are before read =
      read_range (λ p. reach_in (seat_row s orders opens p)) (length s.dossier.programmes) w.programme reached before
      (are ∙ map-map reach_in (seat_row s orders opens) (range_with_len 0 (length s.dossier.programmes)))
      (programme_within k) read

  -- the number of the programme is put in its place
  pub reach_put : (reached : List ℕ) → reached ≡ map reach_in (seat_rows s orders opens) → (now : ℕ)
      → now ≡ reach_in new → IsReached s orders (set opens i false) (set reached w.programme now) claims places exempt
  reach_put reached are now is =
      let rows = seat_rows s orders opens in
      record {
        links = links_with k (seat_rows s orders (set opens i false)) refl;
        reached_are =
            ap (λ (ns : List ℕ). set ns w.programme now) are
            ∙ ap (λ n. set (map reach_in rows) w.programme n) is
            ∙ sym (map-set reach_in rows w.programme new)
            ∙ ap (map reach_in) (lines_set k new refl);
      }

  -- a number that stays right stays
  pub reach_kept : (reached : List ℕ) → reached ≡ map reach_in (seat_rows s orders opens) → (before : ℕ)
      → before ≡ get_or reached w.programme before → before ≡ reach_in new
      → IsReached s orders (set opens i false) reached claims places exempt
  reach_kept reached are before read is =
      let lt : w.programme < length reached = omega (arith, programme_within k, reached_each reached are) in
      let same : set reached w.programme before ≡ reached =
      ap (set reached w.programme) (get_or_read reached w.programme before lt read 0)
      ∙ set-get_or reached w.programme 0 in
      let P = λ (ns : List ℕ). IsReached s orders (set opens i false) ns claims places exempt in
      subst P same (reach_put reached are before is)

module _ {s : State} {orders : List CallOrder} {opens : List Bool} {claims : List (List (List ℕ))}
    {places : List ℕ} {exempt : List Bool} {i : ℕ} {w : Wish}
    (k : Closes s orders opens (seat_rows s orders opens) claims places exempt i w) (place : ℕ)
    (at : IsSeatPlace s.dossier orders w place) where
  -- so many places are reached now; of those who want a seat the one at the answer is reached anew, and no other
  pub record Moves (now : ℕ) (answer : Option ℕ) : Type 0 where
    pub reach : now ≡ reach_in (new k)
    pub fresh : (j : ℕ) → j < length (line_of s.dossier orders w.programme) → get_or (new k).flags j false ≡ true
        → (is_reached (new k) j && not (is_reached (old k) j)) ≡ is_answer answer j

  flag_was : get_or (old k).flags place false ≡ wants_by s opens w.programme w.candidate
  flag_was = get_or-map (wants_by s opens w.programme) (line_of s.dossier orders w.programme) place 0 false
      at.within ∙ ap (wants_by s opens w.programme) at.here

  -- nobody wants a seat who wanted none
  wanted_before : wants_by s (set opens i false) w.programme w.candidate ≡ true
      → wants_by s opens w.programme w.candidate ≡ true
  wanted_before t =
      let q = is_flagged_in w.programme w.candidate in
      let parts = and_parts (list_any q (flagged s (set opens i false)))
      (not (holds_seat s w.candidate w.programme)) t in
      let before = fewer q (λ e. refl) (entries s) opens i parts.0 in
      rw (before, parts.1) refl

  same_row : wants_by s (set opens i false) w.programme w.candidate ≡ wants_by s opens w.programme w.candidate
      → new k ≡ old k
  same_row same =
      let flags : set (old k).flags place (wants_by s (set opens i false) w.programme w.candidate) ≡ (old k).flags =
      ap (set (old k).flags place) (same ∙ sym flag_was) ∙ set-get_or (old k).flags place false in
      row_is k place at ∙ ap (λ (fs : List Bool). let r : LineRow =
      record { flags = fs; quota = seats_left s w.programme } in r) flags

  cleared_row : wants_by s (set opens i false) w.programme w.candidate ≡ false
      → new k ≡ record { flags = set (old k).flags place false; quota = seats_left s w.programme }
  cleared_row none = rw none at (row_is k place at)

  none_fresh : new k ≡ old k → (j : ℕ) → (is_reached (new k) j && not (is_reached (old k) j)) ≡ false
  none_fresh same j =
      let P = λ (r : LineRow). (is_reached r j && not (is_reached (old k) j)) ≡ false in
      subst P (sym same) (and_not (is_reached (old k) j))

  stays_same : (before : ℕ) → before ≡ reach_in (old k) → new k ≡ old k → Moves before None
  stays_same before is same = record { reach = is ∙ ap reach_in (sym same); fresh = λ j lt t. none_fresh same j }

  in_flags : (j : ℕ) → j < length (line_of s.dossier orders w.programme) → j < length (old k).flags
  in_flags j lt = omega (arith, lt, length-map (line_of s.dossier orders w.programme) (wants_by s opens w.programme))

  stays_behind : (before : ℕ) → before ≡ reach_in (old k) → before ≤ place
      → wants_by s (set opens i false) w.programme w.candidate ≡ false → Moves before None
  stays_behind before is behind none =
      let row = cleared_row none in
      let quota = seats_left s w.programme in
      let stay : before ≡ reach quota (set (old k).flags place false) = is
      ∙ sym (reach_behind quota (old k).flags place false (omega (arith, is, behind))) in
      record {
        reach = stay ∙ ap reach_in (sym row);
        fresh = λ j lt t.
            let P = λ (r : LineRow). (is_reached r j && not (is_reached (old k) j)) ≡ false in
            subst P (sym row) (fresh_none (old k) quota (old k).flags place before refl is stay j (in_flags j lt));
      }

  -- where none leaves a seat, all stays
  pub nobody_leaves : (wanted wants : Bool) (before : ℕ) → wanted ≡ wants_by s opens w.programme w.candidate
      → wants ≡ wants_by s (set opens i false) w.programme w.candidate
      → before ≡ reach_in (old k) → (wanted && (not wants && nat_lt place before)) ≡ false → Moves before None
  nobody_leaves wanted wants before wanted_is wants_is is stays =
      elim (cases_Bool wants) [
        | inl still ↦ let now = sym wants_is ∙ still in stays_same before is (same_row (now ∙ sym (wanted_before now)))
        | inr stopped ↦ elim (cases_Bool wanted) [
          | inl had ↦ stays_behind before is
              (ltb-false place before (not_before wanted wants (nat_lt place before) stays had stopped))
              (sym wants_is ∙ stopped)
          | inr never ↦ stays_same before is (same_row ((sym wants_is ∙ stopped) ∙ sym (sym wanted_is ∙ never)))
        ]
      ]

  -- where one does, the next who wants it is reached
  pub one_leaves : (wanted wants : Bool) (before now : ℕ) (after : List Bool) (answer : Option ℕ)
      → wanted ≡ wants_by s opens w.programme w.candidate
      → wants ≡ wants_by s (set opens i false) w.programme w.candidate → before ≡ reach_in (old k)
      → (wanted && (not wants && nat_lt place before)) ≡ true
      → after ≡ (new k).flags → now ≡ before + next (drop before after) → answer ≡ last_new after before now
      → Moves now answer
  one_leaves wanted wants before now after answer wanted_is wants_is is leaves after_is now_is answer_is =
      let quota = seats_left s w.programme in
      let parts = and_parts wanted (not wants && nat_lt place before) leaves in
      let rest = and_parts (not wants) (nat_lt place before) parts.1 in
      let row = cleared_row (sym wants_is ∙ not-true wants rest.0) in
      let flags : after ≡ set (old k).flags place false = after_is ∙ ap (λ (r : LineRow). r.flags) row in
      let step : now ≡ before + next (drop before (set (old k).flags place false)) = rw flags at now_is in
      let moved = reach_moved quota (old k).flags place before is (flag_was ∙ sym wanted_is ∙ parts.0)
      (ltb-true place before rest.1) in
      record {
        reach = step ∙ moved ∙ ap reach_in (sym row);
        fresh = λ j lt t.
            let P = λ (r : LineRow). (is_reached r j && not (is_reached (old k) j)) ≡ is_answer answer j in
            let flag : get_or (set (old k).flags place false) j false ≡ true =
            ap (λ (r : LineRow). get_or r.flags j false) (sym row) ∙ t in
            subst P (sym row) (fresh_some (old k) quota (old k).flags place before refl is now step
            (step ∙ moved) after flags answer answer_is j (in_flags j lt) flag);
      }

-- what the calls of a closing read and answer
pub record Reads {s : State} {orders : List CallOrder} {opens : List Bool} {claims : List (List (List ℕ))}
    {places : List ℕ} {exempt : List Bool} {i : ℕ} {w : Wish}
    (k : Closes s orders opens (seat_rows s orders opens) claims places exempt i w) (place : ℕ)
    (row : List (List ℕ)) (claim : List ℕ) (reached : List ℕ) (before : ℕ) (live wanted wants leaves : Bool) :
    Type 0 where
  pub stands : IsSeatPlace s.dossier orders w place
  pub row_read : row ≡ get_or claims w.programme row
  pub claim_read : claim ≡ get_or row place []
  pub reached_are : reached ≡ map reach_in (seat_rows s orders opens)
  pub before_read : before ≡ get_or reached w.programme before
  pub live_is : live ≡ holds_seat s w.candidate w.programme
  pub wanted_is : wanted ≡ (not live && list_any (λ v. get_or opens v false) claim)
  pub wants_is : wants ≡ (not live && list_any (λ v. get_or (set opens i false) v false) claim)
  pub leaves_is : leaves ≡ (nat_lt place before && (wanted && not wants))

module _ {s : State} {orders : List CallOrder} {opens : List Bool} {claims : List (List (List ℕ))}
    {places : List ℕ} {exempt : List Bool} {i : ℕ} {w : Wish}
    {k : Closes s orders opens (seat_rows s orders opens) claims places exempt i w} {place : ℕ}
    {row : List (List ℕ)} {claim : List ℕ} {reached : List ℕ} {before : ℕ} {live wanted wants leaves : Bool}
    (r : Reads k place row claim reached before live wanted wants leaves) where
  leaves_last : leaves ≡ (wanted && (not wants && nat_lt place before))
  leaves_last =
      r.leaves_is
      ∙ and_comm (nat_lt place before) (wanted && not wants)
      ∙ sym (and_assoc wanted (not wants) (nat_lt place before))

  own_claim : claim ≡ claim_of s.dossier w.programme w.candidate
  own_claim = claim_right k place r.stands row r.row_read claim r.claim_read

  long : length (set opens i false) ≡ length s.dossier.wishes
  long = length-set opens i false ∙ k.links.opens_each

  reach_was : before ≡ reach_in (old k)
  reach_was = reach_right k reached r.reached_are before r.before_read

  pub before_within : before ≤ length row
  before_within =
      omega (
        arith,
        reach_was,
        reach_within (seats_left s w.programme) (old k).flags,
        length-map
            (line_of s.dossier orders w.programme) (wants_by s opens w.programme),
        in_claims k row r.row_read,
      )

  pub row_below : AreBelow (length s.dossier.wishes) row
  row_below = row_within s.dossier orders w.programme (length s.dossier.wishes) row (claims_right k row r.row_read) refl

  pub row_still : AllOpenWait s opens → AllNeedSeatAlone s (set opens i false) row
  row_still waits =
      row_alone s k.links.marks_each (set opens i false) (closed_wait s opens i waits) orders w.programme row
      (claims_right k row r.row_read)

  pub stays_closed : leaves ≡ false → Moves k place r.stands before None
  stays_closed stays =
      nobody_leaves k place r.stands wanted wants before
      (wants_here k opens k.links.opens_each claim own_claim live r.live_is wanted r.wanted_is)
      (wants_here k (set opens i false) long claim own_claim live r.live_is wants r.wants_is)
      reach_was (sym leaves_last ∙ stays)

  pub moves_closed : leaves ≡ true → (now : ℕ) (answer : Option ℕ)
      → now ≡ before + next (drop before (wants_along s (set opens i false) row))
      → answer ≡ last_new (wants_along s (set opens i false) row) before now → Moves k place r.stands now answer
  moves_closed goes now answer now_is answer_is =
      one_leaves k place r.stands wanted wants before now (wants_along s (set opens i false) row) answer
      (wants_here k opens k.links.opens_each claim own_claim live r.live_is wanted r.wanted_is)
      (wants_here k (set opens i false) long claim own_claim live r.live_is wants r.wants_is) reach_was
      (sym leaves_last ∙ goes) (wants_there k (set opens i false) long row r.row_read) now_is answer_is

  -- whether one leaves or nobody does
  pub front_moved : (now : ℕ) (answer : Option ℕ)
      → now ≡ (if leaves then before + next (drop before (wants_along s (set opens i false) row)) else before)
      → answer ≡ last_new (wants_along s (set opens i false) row) before now → Moves k place r.stands now answer
  front_moved now answer now_is answer_is =
      let flags = wants_along s (set opens i false) row in
      let moved : Bool → ℕ = λ b. if b then before + next (drop before flags) else before in
      elim (cases_Bool leaves) [
        | inl goes ↦ moves_closed goes now answer (now_is ∙ ap moved goes) answer_is
        | inr stays ↦
            let same : now ≡ before = now_is ∙ ap moved stays in
            let none : answer ≡ None = answer_is ∙ ap (last_new flags before) same
            ∙ ap (λ b. if b && get_or flags (before - 1) false then Some (before - 1) else None)
            (le-ltb before before (omega arith)) in
            subst (λ (a : Option ℕ). Moves k place r.stands now a) (sym none)
            (subst (λ (n : ℕ). Moves k place r.stands n None) (sym same) (stays_closed stays))
      ]

-- whether a place is reached, by the number that is kept
pub reached_is : (s : State) (orders : List CallOrder) (opens : List Bool) (p place : ℕ) (n : ℕ)
    (reached : Bool) → n ≡ reach_in (seat_row s orders opens p)
    → place < length (line_of s.dossier orders p) → reached ≡ nat_lt place n
    → reached ≡ is_reached (seat_row s orders opens p) place
reached_is s orders opens p place n reached is lt by =
    by
    ∙ ap (nat_lt place) is
    ∙ reached_by_count (seats_left s p) (seat_row s orders opens p).flags place
    (omega (arith, lt, length-map (line_of s.dossier orders p) (wants_by s opens p)))

-- the line of a programme stands among all lines
pub row_there : (s : State) (orders : List CallOrder) (opens : List Bool) (p : ℕ) → p < length s.dossier.programmes
    → seat_row s orders opens p ≡ get_or (seat_rows s orders opens) p (seat_row s orders opens p)
row_there s orders opens p lt =
    sym (get_or-map-range_with_len (seat_row s orders opens) 0 (length s.dossier.programmes) p p
    (seat_row s orders opens p) lt (omega arith))
