-- What is known of the boarders of a school, and of the first of them.
use Rattle.std.proofs.Common.{ℕ, ◌<◌, ◌≡◌, List, length, map, filter, get_or, refl, sym, ◌∙◌, ap, arith, Option}
use Rattle.std.proofs.Common.{Some, subst, unwrap_or, Vec}
use Rattle.std.specs.Prelude.{slice_get, slice_index, All}
use Rattle.std.specs.List.Sorted.{IsNonDecreasingBy}
use Rattle.std.specs.declared.alloc.Global.{Global}
use Rattle.std.proofs.lemmas.List.{get_or_default, get_or-map, length-map}
use Rattle.std.proofs.lemmas.List.Elements.{All-filter, All-take}
use Rattle.std.proofs.lemmas.List.Sorted.{IsNonDecreasingBy-take}
use Rattle.std.proofs.lemmas.List.Kept.{IsNonDecreasingBy-filter}
use Rattle.std.proofs.lemmas.Option.{slice_get-get_or, slice_get_within, unwrap_or-slice_get}
use Rattle.admit_core.specs.declared.ranking.CallOrder.{CallOrder}
use Rattle.admit_core.specs.DossierRows.{DossierRows}
use Rattle.admit_core.specs.State.{State}
use Rattle.linked_demand.specs.declared.rows.RowWish.{RowWish}
use Rattle.linked_demand.specs.Boarders.{boards_in, rank_at, AreBySchool}
use Rattle.linked_demand.specs.Rows.{item_at, row_in, rows_to, AreByRankEach, AreEnds, AreFirst, AreOpenFirst}
use Rattle.linked_demand.specs.Rows.{CanBeCut, IsFront, IsItem, RanksRise, StayOpen, TellsOfSchool}
use Rattle.linked_demand.specs.Links.{LinksRow}
use Rattle.linked_demand.specs.Rounds.{IsRound}
use Rattle.linked_demand.proofs.Falling.{in_front}
use Rattle.linked_demand.proofs.RowsRight.{items_rise}
use Rattle.linked_demand.proofs.RoundFalls.{rows_open}
use Rattle.linked_demand.proofs.RowFronts.{in_front_of}
use Rattle.linked_demand.proofs.RowsTo.{row_there}
use Rattle.linked_demand.proofs.Waiting.{all_open_wait}

module _ (d : DossierRows) (orders : List CallOrder) (boarders : List (Vec RowWish Global))
    (by_school : AreBySchool d orders boarders) where
  pub by_rank_each : AreByRankEach boarders
  by_rank_each h own found =
      let ks = filter (boards_in d h) by_school.places in
      let P = λ (xs : List RowWish). IsNonDecreasingBy (λ (x : RowWish). x.rank) xs in
      subst P (sym (by_school.rows_are.each h own found))
      (items_rise (item_at d orders) (rank_at d) (λ k. refl) ks
      (IsNonDecreasingBy-filter (rank_at d) (boards_in d h) by_school.places by_school.by_rank.rises))

  item_right : (h : ℕ) (own : Vec RowWish Global) → slice_get boarders h ≡ Some own → (k : ℕ) (x : RowWish)
      → slice_get own.items k ≡ Some x → IsItem d orders x
  item_right h own found k x at =
      let f = item_at d orders in
      let ks = filter (boards_in d h) by_school.places in
      let P = λ (xs : List RowWish). slice_get xs k ≡ Some x in
      let there : slice_get (map f ks) k ≡ Some x = subst P (by_school.rows_are.each h own found) at in
      let k_in : k < length ks =
      omega (arith, slice_get_within (map f ks) k x there, length-map ks f) in
      let is : f (get_or ks k 0) ≡ x =
      sym (get_or-map f ks k 0 x k_in) ∙ sym (unwrap_or-slice_get (map f ks) k x)
      ∙ ap (λ (o : Option RowWish). unwrap_or o x) there in
      let wish : get_or ks k 0 ≡ x.wish = ap (λ (z : RowWish). z.wish) is in
      let Q = λ (n : ℕ). n < length d.wishes in
      record {
        within = subst Q wish (All-filter (boards_in d h) Q by_school.places by_school.within k 0 k_in);
        item = sym is ∙ ap f wish;
      }

  -- all boarders of a school
  pub own_tell : (h : ℕ) (own : Vec RowWish Global) → slice_get boarders h ≡ Some own
      → All (TellsOfSchool d) own.items
  own_tell h own found k e lt =
      let right = item_right h own found k (get_or own.items k e) (slice_get-get_or own.items k e lt) in
      record { within = right.within; shared = ap (λ (x : RowWish). x.shared) right.item }

  module _ (ends : List ℕ) (h : ℕ) (front : List RowWish) (first : AreFirst boarders ends h front) where
    in_own : (k : ℕ) (x : RowWish) → slice_get front k ≡ Some x → slice_get first.own.items k ≡ Some x
    in_own k x at =
        let P = λ (xs : List RowWish). slice_get xs k ≡ Some x in
        (in_front first.own.items (slice_index ends h) k x (subst P first.front_is at)).1

    pub first_items : All (IsItem d orders) front
    first_items k e lt =
        let x = get_or front k e in
        item_right h first.own first.found k x (in_own k x (slice_get-get_or front k e lt))

    pub first_rise : RanksRise front
    first_rise j k x y le a b =
        let own = first.own.items in
        let there = in_own j x a in
        let k_there = in_own k y b in
        let k_in = slice_get_within own k y k_there in
        let read : (n : ℕ) (z : RowWish) → slice_get own n ≡ Some z → get_or own n z ≡ z =
        λ n z at. sym (unwrap_or-slice_get own n z) ∙ ap (λ (o : Option RowWish). unwrap_or o z) at in
        let rank = λ (z : RowWish). z.rank in
        omega (
          arith,
          by_rank_each h first.own first.found j k y le k_in,
          ap rank (read k y k_there),
          ap rank (get_or_default own j y x (slice_get_within own j x there) ∙ read j x there),
        )

-- the row of a school has those of the first boarders who wait for a bed
pub row_found : (s : State) (boarders : List (Vec RowWish Global)) (ends : List ℕ)
    → length ends ≡ length boarders → (h : ℕ) (front : List RowWish) → AreFirst boarders ends h front
    → slice_get (rows_to s boarders ends) h ≡ Some (row_in s front)
row_found s boarders ends long h front first =
    let P = λ (xs : List RowWish). slice_get (rows_to s boarders ends) h ≡ Some (row_in s xs) in
    subst P (sym first.front_is) (row_there s boarders ends long h first.own first.found)

-- in a round its wishes are open
pub first_open : (l : LinksRow) (bars free : List ℕ) (boarders : List (Vec RowWish Global)) (ends : List ℕ)
    → AreBySchool l.state.dossier l.orders boarders → AreEnds boarders ends
    → IsRound l bars free (rows_to l.state boarders ends) → (h : ℕ) (front : List RowWish)
    → AreFirst boarders ends h front → AreOpenFirst l front
first_open l bars free boarders ends by_school are right h front first =
    let rows = rows_to l.state boarders ends in
    let row = row_in l.state front in
    let found = row_found l.state boarders ends are.one_each h front first in
    let P = λ (xs : List RowWish). IsNonDecreasingBy (λ (x : RowWish). x.rank) xs in
    record {
      all_rise = subst P (sym first.front_is) (IsNonDecreasingBy-take (λ (x : RowWish). x.rank) (slice_index ends h)
          first.own.items (by_rank_each l.state.dossier l.orders boarders by_school h first.own first.found));
      own = first_items l.state.dossier l.orders boarders by_school ends h front first;
      items = rows_open l bars free rows right h row found;
      rises = (right.rows_are h row found).rises;
    }

-- and a part of it can be cut off
pub first_cut : (l : LinksRow) (bars free low : List ℕ) (to : ℕ) (boarders : List (Vec RowWish Global))
    (ends : List ℕ) → AreBySchool l.state.dossier l.orders boarders → AreEnds boarders ends
    → IsRound l bars free (rows_to l.state boarders ends) → (h : ℕ) (front : List RowWish)
    → AreFirst boarders ends h front → StayOpen l low to (row_in l.state front) → CanBeCut l low to front
first_cut l bars free low to boarders ends by_school are right h front first stay =
    let row = row_in l.state front in
    let found = row_found l.state boarders ends are.one_each h front first in
    record {
      open_wait = all_open_wait l.state right.marks_each bars l.opens right.opens_are;
      own = first_items l.state.dossier l.orders boarders by_school ends h front first;
      rises = first_rise l.state.dossier l.orders boarders by_school ends h front first;
      waits = λ k x at. let (w, m, waits) = (right.rows_are h row found).each k x at in (w, m, waits.waits);
      items = right.items_are h row found;
      stay = stay;
    }

-- of its first ones too
pub upto_open : (l : LinksRow) (upto : ℕ) (own front : List RowWish) → RanksRise own → IsFront upto own front
    → AreOpenFirst l own → AreOpenFirst l front
upto_open l upto own front rises is opens =
    let here : IsFront upto (row_in l.state own) (row_in l.state front) = in_front_of l.state upto own front rises is in
    let at : (k : ℕ) (x : RowWish) → slice_get (row_in l.state front) k ≡ Some x
    → slice_get (row_in l.state own) k ≡ Some x =
    λ k x found.
    let P = λ (xs : List RowWish). slice_get xs k ≡ Some x in
    (in_front (row_in l.state own) here.end k x (subst P here.front_is found)).1 in
    let P = λ (xs : List RowWish). All (IsItem l.state.dossier l.orders) xs in
    let Q = λ (xs : List RowWish). IsNonDecreasingBy (λ (x : RowWish). x.rank) xs in
    record {
      all_rise = subst Q (sym is.front_is)
          (IsNonDecreasingBy-take (λ (x : RowWish). x.rank) is.end own opens.all_rise);
      own = subst P (sym is.front_is) (All-take (IsItem l.state.dossier l.orders) is.end own opens.own);
      items = λ k x found. opens.items k x (at k x found);
      rises = λ j k x y le a b. opens.rises j k x y le (at j x a) (at k y b);
    }
