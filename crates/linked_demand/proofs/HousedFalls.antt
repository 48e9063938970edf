-- Who has a bed where a bar falls.
use Rattle.std.proofs.Common.{ℕ, ◌≤◌, ◌<◌, ◌≡◌, ◌≢◌, Bool, true, false, not, ◌&&◌, ◌||◌, List, [], length, inl, inr}
use Rattle.std.proofs.Common.{refl, sym}
use Rattle.std.proofs.Common.{◌∙◌, ap, arith, get_or, nat_le, nat_lt, Option, Some, None, subst}
use Rattle.std.specs.Prelude.{slice_get, slice_index}
use Rattle.std.proofs.Math.ListN.{set}
use Rattle.std.proofs.lemmas.Bool.{cases_eq, cases_lt, and_parts, and_from, leb-true, le-leb}
use Rattle.std.proofs.lemmas.List.{get_or-set_same, get_or-set_other, length-set}
use Rattle.std.proofs.lemmas.Option.{slice_get_within, slice_get_read}
use Rattle.admit_core.specs.declared.dossier.Wish.{Wish}
use Rattle.admit_core.specs.declared.state.Mark.{Mark}
use Rattle.admit_core.specs.declared.ranking.CallOrder.{CallOrder}
use Rattle.admit_core.specs.State.{State, entries, seats_left}
use Rattle.admit_core.specs.Proposals.{is_open, is_proposed, needs_no_seat, ahead}
use Rattle.admit_core.proofs.DemandLaws.{seat_stays}
use Rattle.admit_core.proofs.Plain.{get_set_here, get_set_other}
use Rattle.linked_demand.specs.declared.rows.RowWish.{RowWish}
use Rattle.linked_demand.specs.Rungs.{Rung}
use Rattle.linked_demand.specs.Demand.{is_proposed_at}
use Rattle.linked_demand.specs.Housed.{AllHoused, AreHoused, kept, within}
use Rattle.linked_demand.specs.Links.{LinksRow}
use Rattle.linked_demand.specs.Marks.{is_new, MarksWishes}
use Rattle.linked_demand.specs.Opens.{opens_of}
use Rattle.linked_demand.specs.Rounds.{IsRound}
use Rattle.linked_demand.specs.Rows.{CutsAt}
use Rattle.linked_demand.proofs.KeptAnswers.{proposed_entry}
use Rattle.linked_demand.proofs.Closing.{wish_of}
use Rattle.linked_demand.proofs.Demanded.{rises_row}
use Rattle.linked_demand.proofs.Falling.{flag_map, in_front, front_at}
use Rattle.linked_demand.proofs.HousedRows.{housed_fallen}
use Rattle.linked_demand.proofs.RoundFalls.{rows_open}
use Rattle.linked_demand.proofs.Rungs.{kept_all}
use Rattle.linked_demand.proofs.TickLaw.{fall_at_most}

within_all : (over : Option ℕ) → within (λ r. true) over ≡ over
within_all None = refl
within_all (Some o) = refl

module _ (old new : LinksRow) (bars free : List ℕ) (rows : List (List RowWish)) (i to : ℕ)
    (lt : i < length bars) (le : to ≤ slice_index bars i) (right : IsRound old bars free rows)
    (row kept_row : List RowWish) (found : slice_get rows i ≡ Some row) (state : new.state ≡ old.state)
    (orders : new.orders ≡ old.orders) (cut : CutsAt to row old.opens kept_row new.opens)
    (now_right : IsRound new (set bars i to) free (set rows i kept_row)) (marked after : List Bool)
    (long : length marked ≡ length old.state.dossier.wishes)
    (marks : MarksWishes old.state (is_new old.state (set bars i to) old new) marked after) where
  abbrev s : State
  s = old.state

  abbrev low : List ℕ
  low = set bars i to

  new_opens : new.opens ≡ opens_of s low
  new_opens = now_right.opens_are ∙ ap (λ (t : State). opens_of t low) state

  now_at : (j : ℕ) (e : Wish × Mark) → slice_get (entries s) j ≡ Some e
      → is_proposed_at new j ≡ is_proposed s old.orders low e.0 e.1
  now_at j e at =
      let P = λ (t : State). slice_get (entries t) j ≡ Some e in
      proposed_entry new low now_right.opens_are j e (subst P (sym state) at)
      ∙ ap (λ (t : State). is_proposed t new.orders low e.0 e.1) state
      ∙ ap (λ (o : List CallOrder). is_proposed s o low e.0 e.1) orders

  -- what becomes of a wish of a row
  record Item (x : RowWish) : Type 0 where
    pub stays : is_proposed_at old x.wish ≡ true → is_proposed_at new x.wish ≡ true
    pub fresh : is_proposed_at new x.wish ≡ true → is_proposed_at old x.wish ≡ false → get_or after x.wish false ≡ true

  item : (g : ℕ) (now_row : List RowWish) → slice_get (set rows i kept_row) g ≡ Some now_row → (k : ℕ)
      (x : RowWish) → slice_get now_row k ≡ Some x → Item x
  item g now_row at k x there =
      let (w, m, waits) = (now_right.rows_are g now_row at).each k x there in
      let P = λ (t : State). slice_get (entries t) x.wish ≡ Some (w, m) in
      let entry : slice_get (entries s) x.wish ≡ Some (w, m) = subst P state waits.waits.here in
      let opens : is_open s low w m ≡ true =
      sym (flag_map (λ (f : Wish × Mark). is_open s low f.0 f.1) (entries s) x.wish (w, m) entry)
      ∙ ap (λ (os : List Bool). get_or os x.wish false) (sym new_opens)
      ∙ (rows_open new low free (set rows i kept_row) now_right g now_row at k x there).flag in
      let was_at = proposed_entry old bars right.opens_are x.wish (w, m) entry in
      record {
        stays = λ t.
            now_at x.wish (w, m) entry ∙ and_from (is_open s low w m) _ opens
            (seat_stays s old.orders low bars (fall_at_most bars i to lt le) w
            (and_parts (is_open s bars w m)
            (needs_no_seat s old.orders w || nat_lt (ahead s old.orders bars w) (seats_left s w.programme))
            (sym was_at ∙ t)).1);
        fresh = λ now_is was.
            marks.each x.wish (w, m) entry
            (and_from (is_proposed_at new x.wish && not (is_proposed_at old x.wish)) (is_open s low w m)
            (and_from (is_proposed_at new x.wish) (not (is_proposed_at old x.wish)) now_is (ap not was)) opens)
            (omega (
              arith,
              long,
              slice_get_within s.dossier.wishes x.wish w
                  (wish_of s.dossier.wishes s.marks x.wish w m entry),
            ));
      }

  module _ (overs : List (Option ℕ)) (housed : List (List Rung))
      (all : AllHoused old (λ k. false) rows free overs housed) where
    abbrev q : ℕ → Bool
    q r = nat_le r to

    fallen_own : AreHoused (is_proposed_at new) (λ k. get_or after k false) kept_row (slice_index free i)
        (within q (get_or overs i None)) (kept q (get_or housed i []))
    fallen_own =
        let now_found : slice_get (set rows i kept_row) i ≡ Some kept_row = set_here rows i kept_row row found in
        let own = right.rows_are i row found in
        let now_own = now_right.rows_are i kept_row now_found in
        let P = λ (xs : List RowWish). (k : ℕ) (x : RowWish) → slice_get xs k ≡ Some x → (k < cut.end)
        × (slice_get row k ≡ Some x) in
        let in_row : (k : ℕ) (x : RowWish) → slice_get kept_row k ≡ Some x → (k < cut.end)
        × (slice_get row k ≡ Some x) = subst P (sym cut.kept_is) (in_front row cut.end) in
        housed_fallen (is_proposed_at old) (is_proposed_at new) (λ k. get_or after k false) row kept_row
        (rises_row row own.rises) (rises_row kept_row now_own.rises) (slice_index free i) q
        (λ r o less t. le-leb r to (omega (arith, less, leb-true o to t)))
        (λ k x at stay. elim (cases_lt k cut.end) [
          | inl before ↦
              let Q = λ (xs : List RowWish). slice_get xs k ≡ Some x in
              (k, subst Q (sym cut.kept_is) (front_at row cut.end k x before at))
          | inr behind ↦ absurd (omega (arith, leb-true x.rank to stay, cut.past k x behind at))
        ])
        (λ j x at.
        let (before, there) = in_row j x at in
        (j, there, le-leb x.rank to (omega (arith, now_own.below j x at, same_bar))))
        (λ j x at. (item i kept_row now_found j x at).stays)
        (λ j x at. (item i kept_row now_found j x at).fresh)
        (get_or overs i None) (get_or housed i []) (all.each i row found)
      where
        same_bar : slice_index low i ≡ to
        same_bar = get_or-set_same bars i to 0 lt

        set_here : (rs : List (List RowWish)) (n : ℕ) (new_row old_row : List RowWish)
            → slice_get rs n ≡ Some old_row → slice_get (set rs n new_row) n ≡ Some new_row
        set_here rs n new_row old_row at =
            slice_get_read (set rs n new_row) (length rs) n new_row (sym (length-set rs n new_row))
            (slice_get_within rs n old_row at)
            (sym (get_or-set_same rs n new_row new_row (slice_get_within rs n old_row at)))

    fallen_other : (g : ℕ) → g ≢ i → (own : List RowWish) → slice_get (set rows i kept_row) g ≡ Some own
        → AreHoused (is_proposed_at new) (λ k. get_or after k false) own (slice_index free g)
        (get_or overs g None) (get_or housed g [])
    fallen_other g differ own at =
        let there = get_set_other rows i g kept_row own differ at in
        let its = right.rows_are g own there in
        let over = get_or overs g None in
        let xs = get_or housed g [] in
        let P = λ (o : Option ℕ). AreHoused (is_proposed_at new) (λ k. get_or after k false) own
        (slice_index free g) o xs in
        let Q = λ (ys : List Rung). AreHoused (is_proposed_at new) (λ k. get_or after k false) own
        (slice_index free g) (within (λ r. true) over) ys in
        subst P (within_all over) (subst Q (kept_all (λ r. true) xs (λ r t. refl))
        (housed_fallen (is_proposed_at old) (is_proposed_at new) (λ k. get_or after k false) own own
        (rises_row own its.rises) (rises_row own its.rises) (slice_index free g) (λ r. true)
        (λ r o less t. refl) (λ k x here stay. (k, here)) (λ j x here. (j, here, refl))
        (λ j x here. (item g own at j x here).stays) (λ j x here. (item g own at j x here).fresh)
        over xs (all.each g own there)))

    -- all schools
    pub all_fallen : AllHoused new (λ k. get_or after k false) (set rows i kept_row) free
        (set overs i (within q (get_or overs i None))) (set housed i (kept q (get_or housed i [])))
    all_fallen =
        let in_overs : i < length overs = omega (arith, slice_get_within rows i row found, all.answer_each) in
        let in_housed : i < length housed = omega (arith, slice_get_within rows i row found, all.one_each) in
        record {
          one_each = length-set housed i (kept q (get_or housed i [])) ∙ all.one_each
              ∙ sym (length-set rows i kept_row);
          answer_each = length-set overs i (within q (get_or overs i None)) ∙ all.answer_each
              ∙ sym (length-set rows i kept_row);
          each = λ g own at. elim (cases_eq g i) [
            | inl here ↦
                let P = λ (n : ℕ). slice_get (set rows i kept_row) n ≡ Some own in
                let same : kept_row ≡ own = get_set_here rows i kept_row own (subst P here at) in
                let Q = λ (v : List RowWish). AreHoused (is_proposed_at new) (λ k. get_or after k false) v
                (slice_index free i) (within q (get_or overs i None)) (kept q (get_or housed i [])) in
                rw (
                  here,
                  get_or-set_same overs i (within q (get_or overs i None)) None in_overs,
                  get_or-set_same housed i (kept q (get_or housed i [])) [] in_housed,
                ) (subst Q same fallen_own)
            | inr differ ↦ rw (
              get_or-set_other overs i g (within q (get_or overs i None)) None differ,
              get_or-set_other housed i g (kept q (get_or housed i [])) [] differ,
            ) (fallen_other g differ own at)
          ];
        }
