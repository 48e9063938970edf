-- What is kept of a wish with a school, and what it says where the wish is open or closed.
use Rattle.std.proofs.Common.{ℕ, ◌<◌, ◌≡◌, Bool, true, false, ◌&&◌, ◌||◌, List, [], length, get_or, refl, sym, ◌∙◌, ap}
use Rattle.std.proofs.Common.{arith, nat_eq, nat_lt, subst, Some}
use Rattle.std.proofs.Math.ListN.{set}
use Rattle.std.specs.Prelude.{slice_get, slice_index, All}
use Rattle.std.specs.List.{position_or_len}
use Rattle.std.proofs.Math.Bool.{or_comm}
use Rattle.std.proofs.lemmas.Bool.{eq-eqb, ne_eqb}
use Rattle.std.proofs.lemmas.List.{get_or_default, length-map}
use Rattle.std.proofs.lemmas.List.FromFn.{length-map-range_with_len}
use Rattle.std.proofs.lemmas.List.Sums.{position_or_len_is}
use Rattle.admit_core.specs.declared.dossier.Wish.{Wish}
use Rattle.admit_core.specs.declared.state.Mark.{Mark}
use Rattle.admit_core.specs.declared.ranking.CallOrder.{CallOrder}
use Rattle.admit_core.specs.DossierRows.{DossierRows}
use Rattle.admit_core.specs.State.{State, holds_seat, is_live, is_waiting}
use Rattle.day_state.specs.Bundles.{seat_bundle}
use Rattle.day_state.specs.Kept.{has_seat_there, mark_in, wish_in}
use Rattle.linked_demand.specs.declared.boarders.Boarder.{Boarder}
use Rattle.linked_demand.specs.declared.rows.RowWish.{RowWish}
use Rattle.linked_demand.specs.Boarders.{IsBoarder}
use Rattle.linked_demand.specs.Demand.{is_proposed_at}
use Rattle.linked_demand.specs.Line.{LineRow, is_reached}
use Rattle.linked_demand.specs.Links.{IsLinked, IsPlaceOf, IsSeatPlace, LinksRow, WaitsAt}
use Rattle.linked_demand.specs.Opens.{line_of, seat_row}
use Rattle.linked_demand.specs.Rows.{item_at, line_place, row_item, IsItem}
use Rattle.linked_demand.specs.Seats.{is_called_by_limit}
use Rattle.linked_demand.specs.Wants.{IsReached, reach_in, seat_rows, stops_wanting, wants_with}
use Rattle.linked_demand.proofs.Closing.{Closes, claim_right, closes_read, proposed_at_is, proposed_right, wish_of}
use Rattle.linked_demand.proofs.Closing.{wish_there, wish_within}
use Rattle.linked_demand.proofs.Leaving.{Reads}
use Rattle.linked_demand.proofs.Ticking.{claim_fits}
use Rattle.linked_demand.proofs.Waiting.{mark_waits, not_live}

-- the one place of a number is that of its first one
pub place_is : (c : ℕ) (xs : List ℕ) (k : ℕ) → IsPlaceOf c xs k → position_or_len (nat_eq c) xs ≡ k
place_is c xs k at =
    position_or_len_is (nat_eq c) xs k 0 (omega (arith, at.within))
    (λ j lt. at.once j (omega (arith, lt, at.within)) (ne_eqb j k (λ e. omega (arith, lt, e))))
    (λ lt. eq-eqb c (get_or xs k 0) (sym at.here))

-- the wish of an item, with the programme that the item names
abbrev pub wish_of_item : DossierRows → RowWish → Wish
wish_of_item d x = record (wish_in d.wishes x.wish) { programme = x.programme }

-- what is made of a boarder
pub item_made : (d : DossierRows) (orders : List CallOrder) (places : List ℕ)
    → ((i : ℕ) (w : Wish) → slice_get d.wishes i ≡ Some w → IsSeatPlace d orders w (slice_index places i))
    → (b : Boarder) → IsBoarder d b → (place : ℕ) → place ≡ slice_index places b.wish
    → (called : Bool) → called ≡ is_called_by_limit d orders (wish_in d.wishes b.wish)
    → record {
      rank = b.rank;
      wish = b.wish;
      programme = b.programme;
      place = place;
      bundle = b.bundle;
      shared = b.shared;
      called_by_limit = called;
    }
    ≡ item_at d orders b.wish
item_made d orders places places_are b right place read called called_is =
    let w = wish_in d.wishes b.wish in
    let at = wish_there d.wishes b.wish w right.within refl in
    let place_now : place ≡ line_place d orders w =
    read
    ∙ sym (place_is w.candidate (line_of d orders w.programme) (slice_index places b.wish)
    (places_are b.wish w at)) in
    λ i. record {
      rank = right.rank i;
      wish = b.wish;
      programme = right.programme i;
      place = place_now i;
      bundle = right.bundle i;
      shared = right.shared i;
      called_by_limit = called_is i;
    }

module _ {s : State} {orders : List CallOrder} {opens : List Bool} {lines : List LineRow}
    {claims : List (List (List ℕ))} {places : List ℕ} {exempt : List Bool}
    (links : IsLinked s orders opens lines claims places exempt) (row : LinksRow)
    (is : record { state = s; orders = orders; opens = opens } ≡ row) where
  module _ (x : RowWish) (waits : (w : Wish) × (m : Mark) × WaitsAt row.state x.wish w m)
      (item : x ≡ row_item row.state row.orders x.wish) where
    item_here : x ≡ row_item s orders x.wish
    item_here = let P = λ (r : LinksRow). x ≡ row_item r.state r.orders x.wish in subst P (sym is) item

    kept : wish_of_item s.dossier x ≡ wish_in s.dossier.wishes x.wish
    kept =
        ap (λ (y : RowWish). let w : Wish = record (wish_in s.dossier.wishes x.wish) { programme = y.programme } in w)
        item_here

    pub closes_item : Closes s orders opens lines claims places exempt x.wish (wish_of_item s.dossier x)
    closes_item = closes_read links row is x.wish waits (wish_of_item s.dossier x) kept

    pub item_stands : IsSeatPlace s.dossier orders (wish_of_item s.dossier x) x.place
    item_stands =
        let w = wish_of_item s.dossier x in
        let k = closes_item in
        let at = links.places_are x.wish w (wish_of s.dossier.wishes s.marks x.wish w k.mark k.at.here) in
        let place : x.place ≡ slice_index places x.wish =
        ap (λ (y : RowWish). y.place) item_here
        ∙ ap (line_place s.dossier orders) (sym kept)
        ∙ place_is w.candidate (line_of s.dossier orders w.programme) (slice_index places x.wish) at in
        let P = λ (n : ℕ). IsSeatPlace s.dossier orders w n in
        subst P (sym place) at

    -- whether its candidate is live in its programme
    pub item_live : (live : Bool) → live ≡ holds_seat s (wish_in s.dossier.wishes x.wish).candidate
        (wish_in s.dossier.wishes x.wish).programme
        → live ≡ holds_seat s (wish_of_item s.dossier x).candidate (wish_of_item s.dossier x).programme
    item_live live is_live = is_live ∙ ap (λ (v : Wish). holds_seat s v.candidate v.programme) (sym kept)

    -- the claim that is read at its place has places of wishes
    pub item_claim : (all : List (List ℕ)) → all ≡ get_or claims x.programme all → (claim : List ℕ)
        → claim ≡ get_or all x.place [] → All (λ v. v < length s.dossier.wishes) claim
    item_claim all all_read claim claim_read =
        let right = claim_right closes_item x.place item_stands all all_read claim claim_read in
        claim_fits closes_item _ _ claim right (length s.dossier.wishes) refl

    -- its wish waits
    pub item_waiting : is_waiting (mark_in s.marks x.wish) ≡ true
    item_waiting =
        let k = closes_item in
        mark_waits s x.wish (wish_of_item s.dossier x) k.mark k.at

    -- so it is not live
    pub item_waits : is_live (mark_in s.marks x.wish) ≡ false
    item_waits =
        let k = closes_item in
        not_live s x.wish (wish_of_item s.dossier x) k.mark k.at

    -- it names the bundle of its wish
    pub item_bundle : x.bundle ≡ seat_bundle s.dossier x.wish
    item_bundle = ap (λ (y : RowWish). y.bundle) item_here

    -- it tells who needs no seat
    pub item_exempt : (x.called_by_limit || has_seat_there s x.wish) ≡ get_or exempt x.wish false
    item_exempt =
        let d = s.dossier in
        let v = wish_in d.wishes x.wish in
        let k = closes_item in
        let w = wish_of_item d x in
        ap (λ (y : RowWish). y.called_by_limit || has_seat_there s x.wish) item_here
        ∙ or_comm (is_called_by_limit d orders v) (has_seat_there s x.wish)
        ∙ sym (ap (λ (u : Wish). holds_seat s u.candidate u.programme || is_called_by_limit d orders u) kept)
        ∙ sym (links.exempt_are x.wish w (wish_of d.wishes s.marks x.wish w k.mark k.at.here))

    -- where it is open, it says whether it is proposed
    pub item_proposed : get_or row.opens x.wish false ≡ true → (line : LineRow) → line ≡ get_or lines x.programme line
        → (reached served : Bool) → reached ≡ is_reached line x.place
        → served ≡ (reached || get_or exempt x.wish false) → served ≡ is_proposed_at row x.wish
    item_proposed opened line line_read reached served by served_is =
        let w = wish_of_item s.dossier x in
        let k = closes_item in
        let lt : x.wish < length s.dossier.wishes = wish_within k in
        let flag : Bool = get_or opens x.wish false in
        let set : flag ≡ true = let P = λ (r : LinksRow). get_or r.opens x.wish false ≡ true in
        subst P (sym is) opened in
        let needs_none : Bool = get_or exempt x.wish false in
        let exempt_is : needs_none ≡ get_or exempt x.wish needs_none =
        get_or_default exempt x.wish false needs_none (omega (arith, lt, links.exempt_each)) in
        let right = proposed_right k x.place item_stands line line_read flag needs_none reached
        (get_or_default opens x.wish false flag (omega (arith, lt, links.opens_each))) exempt_is by in
        let here : LinksRow = record { state = s; orders = orders; opens = opens } in
        let Q = λ (r : LinksRow). served ≡ is_proposed_at r x.wish in
        subst Q is
        (served_is
        ∙ or_comm reached needs_none
        ∙ ap (λ (b : Bool). b && (needs_none || reached)) (sym set)
        ∙ right
        ∙ sym (proposed_at_is here x.wish w k.mark k.at))

-- what is known of an item whose wish may be closed
module _ {s : State} {orders : List CallOrder} {opens : List Bool} {reached : List ℕ}
    {claims : List (List (List ℕ))} {places : List ℕ} {exempt : List Bool}
    (reach : IsReached s orders opens reached claims places exempt) (row : LinksRow)
    (is : record { state = s; orders = orders; opens = opens } ≡ row) (x : RowWish)
    (own : IsItem row.state.dossier row.orders x) where
  here_own : IsItem s.dossier orders x
  here_own = let P = λ (r : LinksRow). IsItem r.state.dossier r.orders x in subst P (sym is) own

  pub own_within : x.wish < length s.dossier.wishes
  own_within = here_own.within

  pub own_bundle : x.bundle ≡ seat_bundle s.dossier x.wish
  own_bundle = ap (λ (y : RowWish). y.bundle) here_own.item

  -- a number is kept of its programme
  pub own_programme : x.programme < length reached
  own_programme =
      let w = wish_in s.dossier.wishes x.wish in
      let lt = reach.links.programmes_are x.wish w (wish_there s.dossier.wishes x.wish w own_within refl) in
      let many : length reached ≡ length s.dossier.programmes =
      ap (λ (ns : List ℕ). length ns) reach.reached_are
      ∙ length-map (seat_rows s orders opens) reach_in
      ∙ length-map-range_with_len (seat_row s orders opens) 0 (length s.dossier.programmes) in
      omega (arith, lt, many, ap (λ (y : RowWish). y.programme) here_own.item)

-- what is known where a wish of a row is closed
module _ {s : State} {orders : List CallOrder} {opens : List Bool} {reached : List ℕ}
    {claims : List (List (List ℕ))} {places : List ℕ} {exempt : List Bool}
    (reach : IsReached s orders opens reached claims places exempt) (row : LinksRow)
    (is : record { state = s; orders = orders; opens = opens } ≡ row) (x : RowWish)
    (waits : (w : Wish) × (m : Mark) × WaitsAt row.state x.wish w m)
    (item : x ≡ row_item row.state row.orders x.wish) where
  pub item_reads : (all : List (List ℕ)) → all ≡ get_or claims x.programme all
      → (before : ℕ) → before ≡ get_or reached x.programme before
      → (closed : List Bool) → closed ≡ set opens x.wish false → (leaves : Bool)
      → leaves ≡ (nat_lt x.place before
      && stops_wanting (has_seat_there s x.wish) opens closed (get_or all x.place []))
      → Reads (closes_item reach.links row is x waits item) x.place all (get_or all x.place []) reached before
      (has_seat_there s x.wish) (wants_with (has_seat_there s x.wish) opens (get_or all x.place []))
      (wants_with (has_seat_there s x.wish) (set opens x.wish false) (get_or all x.place [])) leaves
  item_reads all all_read before before_read closed closed_is leaves leaves_is =
      let live : Bool = has_seat_there s x.wish in
      let claim : List ℕ = get_or all x.place [] in
      record {
        stands = item_stands reach.links row is x waits item;
        row_read = all_read;
        claim_read = refl;
        reached_are = reach.reached_are;
        before_read = before_read;
        live_is = item_live reach.links row is x waits item live refl;
        wanted_is = refl;
        wants_is = refl;
        leaves_is =
            leaves_is
            ∙ ap (λ (fs : List Bool). nat_lt x.place before && stops_wanting live opens fs claim) closed_is;
      }
