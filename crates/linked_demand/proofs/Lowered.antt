-- A round after one of its bars fell, and a round that is built.
use Rattle.std.proofs.Common.{ℕ, ◌+◌, ◌≤◌, ◌<◌, ◌≡◌, Bool, false, not, ◌&&◌, List, [], length, nat_le, sym}
use Rattle.std.proofs.Common.{◌∙◌, ap, arith, get_or, inl, inr, nat_lt, Option, Some, None, count_by, subst, take}
use Rattle.std.proofs.Common.{unwrap_or, Vec}
use Rattle.std.specs.declared.alloc.Global.{Global}
use Rattle.std.specs.Prelude.{slice_get, slice_index, replicate}
use Rattle.std.specs.List.{enumerate_from}
use Rattle.std.proofs.Math.ListN.{set}
use Rattle.std.proofs.lemmas.Bool.{and_from, cases_eq, lt-ltb}
use Rattle.std.proofs.lemmas.List.{get_or-set_other, get_or-set_same, length-replicate, length-set, length-take-le}
use Rattle.std.proofs.lemmas.List.{take-take}
use Rattle.std.proofs.lemmas.Option.{slice_get_within}
use Rattle.admit_core.specs.declared.dossier.Wish.{Wish}
use Rattle.admit_core.specs.declared.state.Mark.{Mark}
use Rattle.admit_core.specs.declared.ranking.CallOrder.{CallOrder}
use Rattle.admit_core.specs.State.{State, entries, holds_bed, has_school}
use Rattle.admit_core.specs.Proposals.{is_open, proposed}
use Rattle.admit_core.specs.Boarding.{boarding}
use Rattle.linked_demand.specs.declared.rows.RowWish.{RowWish}
use Rattle.linked_demand.specs.Rungs.{Rung}
use Rattle.linked_demand.specs.Boarders.{AreBySchool}
use Rattle.linked_demand.specs.Lent.{left_of, lent}
use Rattle.linked_demand.specs.Links.{LinksRow}
use Rattle.linked_demand.specs.Opens.{opens_of}
use Rattle.linked_demand.specs.Rows.{row_in, rows_to, AllItems, AreEnds, AreFirst, AreRows, CutsAt, IsRow, StayOpen}
use Rattle.linked_demand.specs.Rounds.{Round, IsRound, IsRoundAlong, IsRoundUnder, SchoolsKept, bar_each}
use Rattle.linked_demand.specs.Housed.{AllHoused, kept, within}
use Rattle.linked_demand.specs.Marks.{is_new, MarksWishes}
use Rattle.linked_demand.specs.Ticks.{changes_between}
use Rattle.linked_demand.proofs.KeptAnswers.{answers_all}
use Rattle.linked_demand.proofs.Falling.{flag_map}
use Rattle.linked_demand.proofs.HousedFalls.{all_fallen}
use Rattle.linked_demand.proofs.OneFall.{open_before, past_is_closed}
use Rattle.linked_demand.proofs.RoundFalls.{round_fallen}
use Rattle.linked_demand.proofs.RowsTo.{rows_cut}
use Rattle.linked_demand.proofs.BarEach.{bar_each_is}
use Rattle.linked_demand.proofs.Rounding.{as_long, bar_within, bars_seen, falls_seen}
use Rattle.linked_demand.proofs.Spending.{steps_spent}

-- the same entry
same_entry : (P : Wish × Mark → Type 0) (e f : Wish × Mark) → Some e ≡ Some f → P e → P f
same_entry P e f same p = let is : e ≡ f = ap (λ (o : Option (Wish × Mark)). unwrap_or o e) same in subst P is p

pub one_free_each : (links : LinksRow) (bars free : List ℕ) (rows : List (List RowWish))
    → IsRound links bars free rows → length free ≡ length rows
one_free_each links bars free rows right = right.free_each ∙ sym right.bars_each ∙ sym right.rows_each

-- the rows and links of a state are a round
pub round_built : (links : LinksRow) (ceilings free : List ℕ) (rows : List (List RowWish))
    → links.opens ≡ opens_of links.state ceilings → length links.state.marks ≡ length links.state.dossier.wishes
    → length ceilings ≡ length links.state.dossier.schools
    → length free ≡ length links.state.dossier.schools
    → AreRows links.state ceilings rows → AllItems links.state links.orders rows → IsRound links ceilings free rows
round_built links ceilings free rows opens long each free_each rows_are items_are = record {
  marks_each = long;
  bars_each = each;
  free_each = free_each;
  rows_each = rows_are.one_each ∙ sym each;
  opens_are = opens;
  rows_are = rows_are.each;
  items_are = items_are;
}

-- a round that is built has all answers
pub answers_built : (links : LinksRow) (bars free : List ℕ) (rows : List (List RowWish))
    → IsRound links bars free rows → (overfilled : List (Option ℕ)) (marked : List Bool) (housed : List (List Rung))
    → length marked ≡ length links.state.dossier.wishes → AllHoused links (λ k. false) rows free overfilled housed
    → IsRoundUnder links bars bars free rows (record { overfilled = overfilled; marked = marked; housed = housed })
answers_built links bars free rows right overfilled marked housed long all = record {
  round = right;
  ceilings_each = right.bars_each;
  overfilled_are = answers_all links bars free rows right overfilled housed all;
  marked_each = long;
  housed_are = all;
}

module _ {links : LinksRow} {ceilings bars free : List ℕ} {rows : List (List RowWish)}
    {overfilled : List (Option ℕ)} {marked : List Bool} {housed : List (List Rung)} {seen : Round}
    (beds : List ℕ) (right : IsRoundUnder links ceilings bars free rows
    (record { overfilled = overfilled; marked = marked; housed = housed }))
    (is : record { state = lent links.state beds; orders = links.orders; ceilings = ceilings; bars = bars } ≡ seen)
    (i to : ℕ) (lt : i < length seen.ceilings)
    (falls : to < slice_index (bar_each seen.ceilings seen.bars) i) {row : List RowWish}
    (found : slice_get rows i ≡ Some row) where
  pub within_bars : i < length bars
  within_bars = bar_within beds right is i lt

  le : to ≤ slice_index bars i
  le =
      let below = falls_seen beds right is i to falls in
      omega (arith, below)

  own : IsRow links.state bars i row
  own = right.round.rows_are i row found

  -- what is open under the new bars stays open while the row is cut
  pub stay : (low : List ℕ) → low ≡ set bars i to → StayOpen links low to row
  stay low low_is = rw low_is (record {
    flagged = λ k e at opens.
        ap (λ (os : List Bool). get_or os k false) right.round.opens_are
        ∙ flag_map (λ (f : Wish × Mark). is_open links.state bars f.0 f.1) (entries links.state) k e at
        ∙ open_before links.state bars i to within_bars le e.0 e.1 opens;
    past = λ j x e at past there.
        let (w, m, waits) = own.each j x at in
        let entry : Some (w, m) ≡ Some e = sym waits.waits.here ∙ there in
        let closed = past_is_closed links.state bars i to within_bars le w m
        (and_from (has_school w i) (not (holds_bed links.state w.candidate i) && nat_lt to w.board_rank) waits.has
        (and_from (not (holds_bed links.state w.candidate i)) (nat_lt to w.board_rank) waits.no_bed
        (lt-ltb to w.board_rank (omega (arith, past, waits.rank))))) in
        same_entry (λ f. is_open links.state (set bars i to) f.0 f.1 ≡ false) (w, m) e entry closed;
  })

  module _ {new : LinksRow} {kept_row : List RowWish} (state : new.state ≡ links.state)
      (orders : new.orders ≡ links.orders) (cut : CutsAt to row links.opens kept_row new.opens) where
    pub round_now : IsRound new (set bars i to) free (set rows i kept_row)
    round_now =
        round_fallen links bars free i to rows row right.round within_bars found le new kept_row state orders cut

    now_opens : new.opens ≡ opens_of links.state (set bars i to)
    now_opens = round_now.opens_are ∙ ap (λ (s : State). opens_of s (set bars i to)) state

    schools : length links.state.dossier.schools ≡ length new.state.dossier.schools
    schools = ap (λ (s : State). length s.dossier.schools) (sym state)

    pub system_now : boarding (lent new.state beds) new.orders ceilings
        ≡ boarding seen.state seen.orders seen.ceilings
    system_now =
        ap (λ (s : State). boarding (lent s beds) new.orders ceilings) state
        ∙ ap (λ (o : List CallOrder). boarding (lent links.state beds) o ceilings) orders
        ∙ ap (λ (r : Round). boarding r.state r.orders r.ceilings) is

    pub seen_now : record {
      state = lent new.state beds;
      orders = new.orders;
      ceilings = ceilings;
      bars = set bars i
          to;
    } ≡ record seen { bars = set seen.bars i to }
    seen_now =
        ap (λ (s : State). let r : Round =
        record { state = lent s beds; orders = new.orders; ceilings = ceilings; bars = set bars i to } in r) state
        ∙ ap (λ (o : List CallOrder). let r : Round =
        record { state = lent links.state beds; orders = o; ceilings = ceilings; bars = set bars i to } in r) orders
        ∙ ap (λ (r : Round). let q : Round = record r { bars = set r.bars i to } in q) is

    pub offers_now : proposed (lent new.state beds) new.orders ≡ proposed seen.state seen.orders
    offers_now = ap (λ (r : Round). proposed r.state r.orders) seen_now

    bars_now : bar_each ceilings (set bars i to) ≡ set bars i to
    bars_now = bar_each_is ceilings (set bars i to) (length-set bars i to ∙ as_long beds right is)

    -- the steps are the changes
    pub steps_now : (low : List ℕ) → low ≡ set bars i to → (before after : ℕ)
        → after + length kept_row ≡ before + length row + count_by
        (is_new links.state low links new) (enumerate_from 0 (entries links.state))
        → after ≡ before + changes_between seen.state seen.orders (bar_each seen.ceilings seen.bars)
        (bar_each ceilings (set bars i to))
    steps_now low low_is before after told =
        let P = λ (r : Round). after ≡ before + changes_between r.state r.orders r.bars (set bars i to) in
        let Q = λ (bs : List ℕ). after + length kept_row ≡ before + length row + count_by
        (is_new links.state bs links new) (enumerate_from 0 (entries links.state)) in
        let R = λ (us ls : List ℕ). before + changes_between seen.state seen.orders us ls in
        subst P is (steps_spent links new bars i to within_bars le state orders right.round.opens_are now_opens
        row kept_row own cut before after (subst Q low_is told))
        ∙ ap (λ (us : List ℕ). R us (set bars i to)) (sym (bars_seen beds right is))
        ∙ ap (R (bar_each seen.ceilings seen.bars)) (sym bars_now)

    module _ {low : List ℕ} (low_is : low ≡ set bars i to) {after : List Bool}
        (marks : MarksWishes links.state (is_new links.state low links new) marked after) where
      pub marks_long : length after ≡ length new.state.dossier.wishes
      marks_long = marks.as_long ∙ right.marked_each ∙ ap (λ (s : State). length s.dossier.wishes) (sym state)

      pub now_long : {X : Type 0} (xs : List X) → length xs ≡ length rows → length xs
          ≡ length new.state.dossier.schools
      now_long xs long = long ∙ right.round.rows_each ∙ right.round.bars_each ∙ schools

      abbrev over_now : List (Option ℕ)
      over_now = set overfilled i (within (λ r. nat_le r to) (get_or overfilled i None))

      abbrev housed_now : List (List Rung)
      housed_now = set housed i (kept (λ r. nat_le r to) (get_or housed i []))

      pub in_housed : i < length housed
      in_housed = omega (arith, within_bars, right.round.rows_each, right.housed_are.one_each)

      pub in_overs : i < length overfilled
      in_overs = omega (arith, within_bars, right.round.rows_each, right.housed_are.answer_each)

      -- the whole round
      pub lowered : (overs_cut : List (Option ℕ)) (housed_cut : List (List Rung))
          → overs_cut ≡ over_now → housed_cut ≡ housed_now → (answers : List (Option ℕ)) (last : List Bool)
          → (housed_last : List (List Rung))
          → ((bs : List ℕ) (rs : List (List RowWish)) → IsRound new bs free rs
          → AllHoused new (λ k. get_or after k false) rs free overs_cut housed_cut
          → AllHoused new (λ k. false) rs free answers housed_last)
          → last ≡ replicate (length after) false
          → IsRoundUnder new ceilings (set bars i to) free (set rows i kept_row)
          (record { overfilled = answers; marked = last; housed = housed_last })
      lowered overs_cut housed_cut overs_are housed_are answers last housed_last looked unmarked =
          let Q = λ (bs : List ℕ). MarksWishes links.state (is_new links.state bs links new) marked after in
          let fallen = all_fallen links new bars free rows i to within_bars le right.round row kept_row found state
          orders
          cut round_now marked after right.marked_each (subst Q low_is marks) overfilled housed right.housed_are in
          let O = λ (os : List (Option ℕ)). AllHoused new (λ k. get_or after k false) (set rows i kept_row) free os
          housed_cut in
          let H = λ (hs : List (List Rung)). AllHoused new (λ k. get_or after k false) (set rows i kept_row) free
          over_now hs in
          let all = looked (set bars i to) (set rows i kept_row) round_now
          (subst O (sym overs_are) (subst H (sym housed_are) fallen)) in
          record {
            round = round_now;
            ceilings_each = right.ceilings_each ∙ schools;
            overfilled_are = answers_all new (set bars i to) free
                (set rows i kept_row) round_now answers housed_last all;
            marked_each = ap length unmarked ∙ length-replicate (length after) false ∙ marks_long;
            housed_are = all;
          }

-- the same of a round whose rows are those of first boarders, of whom fewer are left in one school
pub lowered_along : (old new : LinksRow) (ceilings bars beds : List ℕ) (boarders : List (Vec RowWish Global))
    (ends : List ℕ) (schools : SchoolsKept) → new ≡ record old { opens = new.opens }
    → AreBySchool old.state.dossier old.orders boarders
    → AreEnds boarders ends → (i end : ℕ) (front : List RowWish) → AreFirst boarders ends i front
    → end ≤ length front
    → length beds ≡ length old.state.dossier.schools
    → IsRoundUnder new ceilings bars (left_of old.state beds)
    (set (rows_to old.state boarders ends) i (row_in old.state (take end front))) schools
    → IsRoundAlong new ceilings bars beds boarders (set ends i end) schools
lowered_along old new ceilings bars beds boarders ends schools same by_school are i end front first le
    long_beds under =
    let s = old.state in
    let own = first.own in
    let at = first.found in
    let state : new.state ≡ s = ap (λ (l : LinksRow). l.state) same in
    let orders : new.orders ≡ old.orders = ap (λ (l : LinksRow). l.orders) same in
    let within : slice_index ends i ≤ length own.items = are.within i own at in
    let long : length front ≡ slice_index ends i =
    ap length first.front_is ∙ length-take-le (slice_index ends i) own.items within in
    let cut : take end front ≡ take end own.items =
    ap (take end) first.front_is ∙ take-take end (slice_index ends i) own.items (omega (arith, le, long)) in
    let P = λ (rows : List (List RowWish)).
    IsRoundUnder new ceilings bars (left_of s beds) rows schools in
    let Q = λ (t : State). IsRoundUnder new ceilings bars (left_of t beds) (rows_to t boarders (set ends i end))
    schools in
    let B = λ (t : State). length beds ≡ length t.dossier.schools in
    let R = λ (xs : List RowWish). P (set (rows_to s boarders ends) i (row_in s xs)) in
    let S = λ (t : State). AreBySchool t.dossier new.orders boarders in
    let T = λ (os : List CallOrder). AreBySchool s.dossier os boarders in
    let lt : i < length ends = omega (arith, slice_get_within boarders i own at, are.one_each) in
    record {
      beds_each = subst B (sym state) long_beds;
      under = subst Q (sym state) (subst P (rows_cut s boarders ends are.one_each i end own at) (subst R cut under));
      boarders_are = subst S (sym state) (subst T (sym orders) by_school);
      ends_are = record {
        one_each = length-set ends i end ∙ are.one_each;
        within = λ h other there. elim (cases_eq h i) [
          | inl here ↦
              let U = λ (n : ℕ). slice_index (set ends i end) n ≤ length other.items in
              let now : slice_index (set ends i end) i ≡ end = get_or-set_same ends i end 0 lt in
              let V = λ (n : ℕ). slice_get boarders n ≡ Some other in
              let before = are.within i other (subst V here there) in
              subst U (sym here) (omega (arith, now, le, long, before))
          | inr differ ↦
              let now : slice_index (set ends i end) h ≡ slice_index ends h = get_or-set_other ends i h end 0 differ in
              omega (arith, now, are.within h other there)
        ];
      };
    }
