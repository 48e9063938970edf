-- A round as a system of falling bars.
use Rattle.std.proofs.Common.{ℕ, ◌<◌, ◌≡◌, Bool, true, false, not, List, [], ◌∷◌, Some, None, map, filter, length}
use Rattle.std.proofs.Common.{get_or, inl, inr, refl, sym, ◌∙◌, ap, arith, subst, zero-add}
use Rattle.std.specs.Prelude.{slice_get, slice_index, slice_set, Option, is_some}
use Rattle.std.specs.List.{enumerate_from, range_with_len}
use Rattle.std.proofs.lemmas.Bool.{and_parts, cases_Bool}
use Rattle.std.proofs.lemmas.List.{get_or_read}
use Rattle.std.proofs.lemmas.List.FromFn.{get_or-map-range_with_len, length-map-range_with_len}
use Rattle.admit_core.specs.declared.dossier.Wish.{Wish}
use Rattle.admit_core.specs.declared.state.Mark.{Mark}
use Rattle.admit_core.specs.State.{State, entries, is_waiting, free_beds}
use Rattle.admit_core.specs.declared.ranking.CallOrder.{CallOrder}
use Rattle.admit_core.specs.Proposals.{is_open, is_barred, is_proposed, proposed, demanded_ranks}
use Rattle.admit_core.specs.Boarding.{boarding}
use Rattle.admit_core.specs.Falls.{is_overfilled}
use Rattle.bar_fixpoint.specs.Overfilled.{rank_over, all_overfilled}
use Rattle.bar_fixpoint.proofs.Listing.{overfilled_by_rank}
use Rattle.day_state.specs.Kept.{mark_in, wish_in}
use Rattle.day_state.proofs.Places.{entry_in, entries_by_place}
use Rattle.linked_demand.specs.declared.rows.RowWish.{RowWish}
use Rattle.linked_demand.specs.Rungs.{Rung}
use Rattle.linked_demand.specs.Lent.{left_of, lent}
use Rattle.linked_demand.specs.Links.{LinksRow, WaitsAt, AllOpenWait}
use Rattle.linked_demand.specs.Listed.{answered}
use Rattle.linked_demand.proofs.Answered.{filter_agree}
use Rattle.linked_demand.specs.Opens.{opens_of, is_proposed_by}
use Rattle.linked_demand.specs.Rounds.{Round, IsRoundUnder, bar_each, is_proposed_in}
use Rattle.linked_demand.specs.Demand.{is_proposed_at, over_at}
use Rattle.linked_demand.proofs.BarEach.{bar_each_is, bar_each_set}
use Rattle.linked_demand.proofs.Closing.{proposed_at_is}
use Rattle.linked_demand.proofs.Falling.{flag_map}
use Rattle.linked_demand.proofs.Lent.{free_lent, left_at}
use Rattle.linked_demand.proofs.RowsRight.{entry_there}
use Rattle.linked_demand.proofs.Fronting.{closed_at}
use Rattle.linked_demand.proofs.Lining.{numbered}
use Rattle.linked_demand.proofs.Opens.{proposed_by_bars}
use Rattle.linked_demand.proofs.Waiting.{all_open_wait}

map_twice : {X Y : Type 0} (g : X → Y) (f : ℕ → X) (ks : List ℕ) → map g (map f ks) ≡ map (λ k. g (f k)) ks
map_twice g f [] = refl
map_twice {X} {Y} g f (k ∷ ks) = ap (λ (ys : List Y). g (f k) ∷ ys) (map_twice g f ks)

-- the flags by place are those of the bars
pub opens_by_place : (s : State) (bars : List ℕ) (n : ℕ) (flags : List Bool) → length s.marks ≡ length s.dossier.wishes
    → flags ≡ map (λ k. is_open s bars (wish_in s.dossier.wishes k) (mark_in s.marks k))
    (range_with_len 0 n) → n ≡ length s.dossier.wishes → flags ≡ opens_of s bars
opens_by_place s bars n flags long are n_is =
    let g = λ (e : Wish × Mark). is_open s bars e.0 e.1 in
    are
    ∙ ap (λ k. map (λ j. is_open s bars (wish_in s.dossier.wishes j) (mark_in s.marks j)) (range_with_len 0 k)) n_is
    ∙ sym (map_twice g (entry_in s) (range_with_len 0 (length s.dossier.wishes)))
    ∙ ap (map g) (sym (entries_by_place s long))

-- the proposed wishes, place by place
pub proposed_by_place : (s : State) (orders : List CallOrder) (bars : List ℕ) → length s.marks ≡ length s.dossier.wishes
    → filter (λ k. is_proposed s orders bars (wish_in s.dossier.wishes k) (mark_in s.marks k))
    (range_with_len 0 (length s.dossier.wishes)) ≡ proposed s orders bars
proposed_by_place s orders bars long =
    let test = λ (e : Wish × Mark). is_proposed s orders bars e.0 e.1 in
    sym (numbered test (entry_in s) (length s.dossier.wishes) 0)
    ∙ ap (λ (es : List (Wish × Mark)). map (λ (x : ℕ × (Wish × Mark)). x.0)
    (filter (λ (x : ℕ × (Wish × Mark)). test x.1) (enumerate_from 0 es))) (sym (entries_by_place s long))

module _ {links : LinksRow} {ceilings bars free : List ℕ} {rows : List (List RowWish)}
    {overfilled : List (Option ℕ)} {marked : List Bool} {housed : List (List Rung)} {seen : Round}
    (beds : List ℕ) (right : IsRoundUnder links ceilings bars free rows
    (record { overfilled = overfilled; marked = marked; housed = housed }))
    (is : record { state = lent links.state beds; orders = links.orders; ceilings = ceilings; bars = bars }
    ≡ seen) where
  pub as_long : length bars ≡ length ceilings
  as_long = right.round.bars_each ∙ sym right.ceilings_each

  pub bars_seen : bar_each seen.ceilings seen.bars ≡ seen.bars
  bars_seen =
      let P = λ (r : Round). bar_each r.ceilings r.bars ≡ r.bars in
      subst P is (bar_each_is ceilings bars as_long)

  pub ceilings_seen : length ceilings ≡ length seen.ceilings
  ceilings_seen = ap (λ (r : Round). length r.ceilings) is

  pub bar_within : (i : ℕ) → i < length seen.ceilings → i < length bars
  bar_within i lt = omega (arith, lt, ceilings_seen, as_long)

  pub seen_within_bars : (i : ℕ) → i < length seen.ceilings → i < length seen.bars
  seen_within_bars i lt = omega (arith, bar_within i lt, ap (λ (r : Round). length r.bars) is)

  bar_seen : (i x : ℕ) → x ≡ slice_index bars i → x ≡ slice_index (bar_each seen.ceilings seen.bars) i
  bar_seen i x read = read ∙ ap (λ (r : Round). slice_index r.bars i) is
      ∙ ap (λ (bs : List ℕ). slice_index bs i) (sym bars_seen)

  pub bar_read : (i x : ℕ) → i < length seen.ceilings → x ≡ get_or bars i x
      → x ≡ slice_index (bar_each seen.ceilings seen.bars) i
  bar_read i x lt read = bar_seen i x (get_or_read bars i x (bar_within i lt) read 0)

  pub falls_seen : (i to : ℕ) → to < slice_index (bar_each seen.ceilings seen.bars) i → to < slice_index bars i
  falls_seen i to falls = omega (arith, falls, bar_seen i (slice_index bars i) refl)

  pub over_seen : (i : ℕ) (over : Option ℕ) → i < length seen.ceilings
      → over ≡ slice_get (demanded_ranks seen.state seen.orders seen.bars i) (free_beds seen.state i)
      → over ≡ rank_over (boarding seen.state seen.orders seen.ceilings) (bar_each seen.ceilings seen.bars) i
  over_seen i over lt answer =
      answer
      ∙ ap (slice_get (demanded_ranks seen.state seen.orders seen.bars i))
      (sym (get_or-map-range_with_len (free_beds seen.state) 0 (length seen.ceilings) i i 0 lt (zero-add i)))
      ∙ ap (λ (bs : List ℕ). slice_get (demanded_ranks seen.state seen.orders bs i)
      (slice_index (map (free_beds seen.state) (range_with_len 0 (length seen.ceilings))) i)) (sym bars_seen)

  -- the answers that are kept
  pub answer_within : (i : ℕ) → i < length seen.bars → i < length overfilled
  answer_within i lt =
      omega (
        arith,
        lt,
        ap (λ (r : Round). length r.bars) is,
        right.round.bars_each,
        ap length
            right.overfilled_are,
        length-map-range_with_len (over_at links.state links.orders bars free) 0
            (length links.state.dossier.schools),
      )

  -- where the free beds are those that are left of the beds that are lent
  pub answer_read : length beds ≡ length links.state.dossier.schools → free ≡ left_of links.state beds
      → (i : ℕ) → i < length seen.bars → get_or overfilled i None
      ≡ slice_get (demanded_ranks seen.state seen.orders seen.bars i) (free_beds seen.state i)
  answer_read long left i lt =
      let within : i < length links.state.dossier.schools =
      omega (arith, lt, ap (λ (r : Round). length r.bars) is, right.round.bars_each) in
      ap (λ (os : List (Option ℕ)). get_or os i None) right.overfilled_are
      ∙ get_or-map-range_with_len (over_at links.state links.orders bars free) 0
      (length links.state.dossier.schools) i i None within (zero-add i)
      ∙ ap (slice_get (demanded_ranks links.state links.orders bars i))
      (ap (λ (fs : List ℕ). slice_index fs i) left ∙ left_at links.state beds i within
      ∙ free_lent links.state beds i long)
      ∙ ap (λ (r : Round). slice_get (demanded_ranks r.state r.orders r.bars i) (free_beds r.state i)) is

  -- the proposed wishes, under the bars and under those that the system tells
  pub all_seen : filter (is_proposed_in seen)
      (range_with_len 0 (length seen.state.dossier.wishes)) ≡ proposed seen.state seen.orders seen.bars
  all_seen =
      let P = λ (r : Round). filter (is_proposed_in r)
      (range_with_len 0 (length r.state.dossier.wishes)) ≡ proposed r.state r.orders r.bars in
      subst P is (proposed_by_place links.state links.orders bars right.round.marks_each)

  pub offers_seen : proposed seen.state seen.orders seen.bars
      ≡ proposed seen.state seen.orders (bar_each seen.ceilings seen.bars)
  offers_seen = ap (proposed seen.state seen.orders) (sym bars_seen)

  -- the schools that have an answer are those that are overfilled
  pub overfilled_seen : length beds ≡ length links.state.dossier.schools → free ≡ left_of links.state beds
      → answered overfilled ≡ all_overfilled (boarding seen.state seen.orders seen.ceilings)
      (bar_each seen.ceilings seen.bars)
  overfilled_seen each left =
      let sys = boarding seen.state seen.orders seen.ceilings in
      let low = bar_each seen.ceilings seen.bars in
      let long : length overfilled ≡ length seen.ceilings =
      omega (
        arith,
        ap length right.overfilled_are,
        length-map-range_with_len
            (over_at links.state links.orders bars free) 0 (length links.state.dossier.schools),
        right.ceilings_each,
        ceilings_seen,
      ) in
      ap (λ n. filter (λ h. is_some (get_or overfilled h None)) (range_with_len 0 n)) long
      ∙ filter_agree (λ h. is_some (get_or overfilled h None)) (is_overfilled sys low) 0 (length seen.ceilings)
      (λ h ge less.
      let lt : h < length seen.ceilings = omega (arith, less) in
      ap is_some (over_seen h (get_or overfilled h None) lt (answer_read each left h (seen_within_bars h lt)))
      ∙ sym (overfilled_by_rank sys low h lt))

  -- after a fall
  pub bars_fallen : (i to : ℕ) → bar_each ceilings (slice_set bars i to)
      ≡ slice_set (bar_each seen.ceilings seen.bars) i to
  bars_fallen i to =
      let P = λ (r : Round). bar_each ceilings (slice_set bars i to) ≡ slice_set (bar_each r.ceilings r.bars) i to in
      subst P is (bar_each_set ceilings bars i to as_long)

  module _ (k : ℕ) (lt : k < length seen.state.dossier.wishes) where
    k_within : k < length links.state.dossier.wishes
    k_within = omega (arith, lt, ap (λ (r : Round). length r.state.dossier.wishes) is)

    here : slice_get (entries links.state) k ≡ Some (wish_in links.state.dossier.wishes k, mark_in links.state.marks k)
    here = entry_there links.state.dossier.wishes links.state.marks k right.round.marks_each k_within

    flag_is : get_or links.opens k false ≡ is_open links.state bars (wish_in links.state.dossier.wishes k)
        (mark_in links.state.marks k)
    flag_is =
        ap (λ (os : List Bool). get_or os k false) right.round.opens_are
        ∙ flag_map (λ e. is_open links.state bars e.0 e.1) (entries links.state) k
        (wish_in links.state.dossier.wishes k, mark_in links.state.marks k) here

    -- a wish that is not open is not proposed
    pub closed_seen : get_or links.opens k false ≡ false → false ≡ is_proposed_in seen k
    closed_seen closed =
        let P = λ (r : Round). false ≡ is_proposed_in r k in
        subst P is (rw (sym flag_is ∙ closed) refl)

    pub proposed_seen : get_or links.opens k false ≡ true → is_proposed_at links k ≡ is_proposed_in seen k
    proposed_seen opens =
        let w = wish_in links.state.dossier.wishes k in
        let m = mark_in links.state.marks k in
        let waits : WaitsAt links.state k w m =
        record {
          here = here;
          waits =
              (and_parts (is_waiting m) (not (is_barred links.state bars w m)) (sym flag_is ∙ opens)).0;
        } in
        let P = λ (r : Round). is_proposed_at links k ≡ is_proposed_in r k in
        subst P is (
        proposed_at_is links k w m waits
        ∙ ap (is_proposed_by links.state links.orders links.opens w m) flag_is
        ∙ ap (λ (os : List Bool). is_proposed_by links.state links.orders os w m
        (is_open links.state bars w m)) right.round.opens_are
        ∙ proposed_by_bars links.state links.orders bars w m)

  -- what is open waits
  pub opens_wait : AllOpenWait links.state links.opens
  opens_wait = all_open_wait links.state right.round.marks_each bars links.opens right.round.opens_are

  -- a flag that says whether a wish is proposed by the links says whether it is at the bars
  pub flag_seen : (k : ℕ) → k < length seen.state.dossier.wishes → (flag : Bool)
      → flag ≡ is_proposed_at links k → flag ≡ is_proposed_in seen k
  flag_seen k lt flag flag_is =
      elim (cases_Bool (get_or links.opens k false)) [
        | inl opened ↦ flag_is ∙ proposed_seen k lt opened
        | inr closed ↦ flag_is ∙ closed_at links k closed ∙ closed_seen k lt closed
      ]

  -- so the list of what the links propose is that of the proposed wishes
  pub listed_seen : (places : List ℕ)
      → places ≡ filter (is_proposed_at links) (range_with_len 0 (length links.state.dossier.wishes))
      → places ≡ proposed seen.state seen.orders seen.bars
  listed_seen places are =
      let many : length links.state.dossier.wishes ≡ length seen.state.dossier.wishes =
      ap (λ (r : Round). length r.state.dossier.wishes) is in
      are
      ∙ filter_agree (is_proposed_at links) (is_proposed_in seen) 0 (length links.state.dossier.wishes)
      (λ k ge less. flag_seen k (omega (arith, less, many)) (is_proposed_at links k) refl)
      ∙ ap (λ (n : ℕ). filter (is_proposed_in seen) (range_with_len 0 n)) many
      ∙ all_seen
