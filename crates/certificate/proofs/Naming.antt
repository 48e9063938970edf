-- Wishes that are named by their ids, and ranks by their wishes.
use Rattle.std.proofs.Common.{◌≡◌, ℕ, suc, ◌+◌, ◌<◌, Bool, true, false, not, ◌&&◌, List, [], ◌∷◌, length, map, filter}
use Rattle.std.proofs.Common.{get_or, Option, Some, None, refl, sym, ap, ◌∙◌, arith, All, inl, inr, nat_eq, nat_lt}
use Rattle.std.proofs.Common.{nat_le, zero-add, add-zero}
use Rattle.std.specs.Prelude.{◌==◌, position, find, option_map, unwrap_or}
use Rattle.std.specs.List.{list_any, enumerate_from, IsDistinct}
use Rattle.std.proofs.lemmas.Bool.{false≢true, and_parts, eqb-true, eq-eqb, cases_Bool, cases_order, lt-ltb}
use Rattle.std.proofs.lemmas.Option.{unwrap_or-slice_get}
use Rattle.std.proofs.lemmas.List.{get_or_default, get_or-map, length-map}
use Rattle.std.proofs.lemmas.List.Elements.{All-map, All-filter, All-head, All-tail}
use Rattle.std.proofs.lemmas.List.Folds.{Any-from_list_any, list_any_at}
use Rattle.std.proofs.lemmas.List.Quantifiers.{position-Some}
use Rattle.std.proofs.lemmas.List.Sums.{fails_before_first}
use Rattle.std.proofs.lemmas.Map.Keys.{apart_from_distinct}
use Rattle.std.proofs.lemmas.Slice.Zip.{length-zip, get_or-zip}
use Rattle.admit_core.specs.declared.dossier.Wish.{Wish}
use Rattle.admit_core.specs.declared.state.Mark.{Mark}
use Rattle.admit_core.specs.declared.ranking.CallOrder.{CallOrder}
use Rattle.admit_core.specs.Lists.{is_among}
use Rattle.admit_core.specs.State.{State, entries, is_school, holds_bed}
use Rattle.admit_core.specs.Proposals.{demands_bed, demanded_ranks, is_proposed}
use Rattle.admit_core.specs.Boarding.{name_of}
use Rattle.admit_core.specs.Chains.{shows_rank}
use Rattle.admit_core.proofs.DemandLaws.{demanded, demands_at}
use Rattle.day_state.specs.Kept.{wish_in, mark_in, holds_bed_in}
use Rattle.linked_demand.specs.Rounds.{bar_each}
use Rattle.linked_demand.proofs.BarEach.{bar_each_is}
use Rattle.dossier_check.specs.Ids.{Ids}
use Rattle.certificate.specs.Checked.{ids_in}
use Rattle.certificate.proofs.Cutting.{no_place, place_found}

-- where at most one place passes, whether one does is its own test
any_only : {X : Type 0} (f : X → Bool) (xs : List X) (k : ℕ) (d : X) → k < length xs
    → ((j : ℕ) (x : X) → j < length xs → x ≡ get_or xs j x → f x ≡ true → j ≡ k)
    → list_any f xs ≡ f (get_or xs k d)
any_only {X} f xs k d lt alone =
    elim (cases_Bool (f (get_or xs k d))) [
      | inl passes ↦ list_any_at f xs k d lt passes ∙ sym passes
      | inr fails ↦
          elim (cases_Bool (list_any f xs)) [
            | inl some ↦
                let (j, x, within, at, t) = Any-from_list_any f xs some in
                let is : j ≡ k = alone j x within (sym at) t in
                let there : get_or xs j x ≡ get_or xs k d = ap (λ i. get_or xs i x) is ∙ get_or_default xs k x d lt in
                absurd (false≢true (sym fails ∙ ap f (sym there ∙ at) ∙ t))
            | inr none ↦ none ∙ sym fails
          ]
    ]

any_none : {X : Type 0} (f : X → Bool) (xs : List X)
    → ((j : ℕ) (x : X) → j < length xs → x ≡ get_or xs j x → f x ≡ true → ⊥) → list_any f xs ≡ false
any_none {X} f xs none =
    elim (cases_Bool (list_any f xs)) [
      | inl some ↦ let (j, x, within, at, t) = Any-from_list_any f xs some in absurd (none j x within (sym at) t)
      | inr fails ↦ fails
    ]

abbrev pub ids : State → List ℕ
ids s = map (λ (w : Wish). w.id) s.dossier.wishes

module _ (s : State) (long : length s.marks ≡ length s.dossier.wishes) where
  within : (j : ℕ) → j < length (entries s) → j < length s.dossier.wishes
  within j lt = omega (arith, length-zip s.dossier.wishes s.marks)

  among_entries : (j : ℕ) → j < length s.dossier.wishes → j < length (entries s)
  among_entries j lt = omega (arith, length-zip s.dossier.wishes s.marks)

  -- the entry at a place is of its wish and mark
  entry_at : (j : ℕ) (d : Wish × Mark) → j < length s.dossier.wishes
      → get_or (entries s) j d ≡ (wish_in s.dossier.wishes j, mark_in s.marks j)
  entry_at j d lt =
      let marked : j < length s.marks = omega arith in
      get_or-zip s.dossier.wishes s.marks j d lt marked
      ∙ ap (λ (w : Wish). (w, get_or s.marks j d.1)) (get_or_default s.dossier.wishes j d.0 _ lt
      ∙ sym (unwrap_or-slice_get s.dossier.wishes j _))
      ∙ ap (λ (m : Mark). (wish_in s.dossier.wishes j, m))
      (get_or_default s.marks j d.1 _ marked ∙ sym (unwrap_or-slice_get s.marks j _))

  wish_is : (j : ℕ) (x : Wish × Mark) → j < length s.dossier.wishes → x ≡ get_or (entries s) j x
      → x.0 ≡ wish_in s.dossier.wishes j
  wish_is j x lt at = ap (λ (e : Wish × Mark). e.0) (at ∙ entry_at j x lt)

  id_is : (j : ℕ) → j < length s.dossier.wishes → get_or (ids s) j 0 ≡ (wish_in s.dossier.wishes j).id
  id_is j lt = get_or-map (λ (w : Wish). w.id) s.dossier.wishes j (wish_in s.dossier.wishes j) 0 lt
      ∙ ap (λ (w : Wish). w.id) (get_or_default s.dossier.wishes j _ _ lt
      ∙ sym (unwrap_or-slice_get s.dossier.wishes j _))

  module _ (orders : List CallOrder) (bars : List ℕ) (h r id : ℕ) where
    abbrev test : Wish × Mark → Bool
    test e = nat_eq id e.0.id && demands_bed s orders bars h e.0 e.1 && nat_eq r e.0.board_rank

    -- an entry that shows the rank has the id
    has_id : (j : ℕ) (x : Wish × Mark) → j < length s.dossier.wishes → x ≡ get_or (entries s) j x → test x ≡ true
        → id ≡ get_or (ids s) j 0
    has_id j x lt at t =
        let outer = and_parts (nat_eq id x.0.id && demands_bed s orders bars h x.0 x.1) (nat_eq r x.0.board_rank) t in
        eqb-true id x.0.id (and_parts (nat_eq id x.0.id) (demands_bed s orders bars h x.0 x.1) outer.0).0
        ∙ ap (λ (w : Wish). w.id) (wish_is j x lt at) ∙ sym (id_is j lt)

    only_place : (k j : ℕ) → IsDistinct nat_eq (ids s) → id ≡ get_or (ids s) k 0
        → id ≡ get_or (ids s) j 0 → k < length (ids s) → j < length (ids s) → j ≡ k
    only_place k j distinct at_k at_j k_in j_in =
        elim (cases_order j k) [
          | inl same ↦ same
          | inr other ↦
              elim other [
                | inl before ↦ absurd
                    (false≢true (sym (apart_from_distinct nat_eq (ids s) j k 0 distinct before k_in)
                    ∙ eq-eqb (get_or (ids s) j 0) (get_or (ids s) k 0) (sym at_j ∙ at_k)))
                | inr after ↦ absurd
                    (false≢true (sym (apart_from_distinct nat_eq (ids s) k j 0 distinct after j_in)
                    ∙ eq-eqb (get_or (ids s) k 0) (get_or (ids s) j 0) (sym at_k ∙ at_j)))
              ]
        ]

    -- no wish shows the rank where none has the id
    pub shows_none : position (nat_eq id) (ids s) ≡ None → false ≡ shows_rank s orders bars h r id
    shows_none none =
        let past = no_place (nat_eq id) (ids s) none in
        sym (any_none test (entries s) (λ j x lt at t.
        let j_in = within j lt in
        let fails : nat_eq id (get_or (ids s) j 0) ≡ false = fails_before_first (nat_eq id)
        (ids s) j 0 (omega (arith, past, length-map s.dossier.wishes (λ (w : Wish). w.id))) in
        false≢true (sym fails ∙ eq-eqb id (get_or (ids s) j 0) (has_id j x j_in at t))))

    -- else the wish that has it shows the rank or not
    pub shows_at : (k : ℕ) → IsDistinct nat_eq (ids s) → position (nat_eq id) (ids s) ≡ Some k
        → (k < length s.dossier.wishes)
        × (shows_rank s orders bars h r id
        ≡ (demands_bed s orders bars h (wish_in s.dossier.wishes k) (mark_in s.marks k)
        && nat_eq r (wish_in s.dossier.wishes k).board_rank))
    shows_at k distinct found =
        let as_many = length-map s.dossier.wishes (λ (w : Wish). w.id) in
        let place = position-Some (nat_eq id) (ids s) k 0 found in
        let k_in : k < length s.dossier.wishes = omega (arith, place.0, as_many) in
        let at_k = eqb-true id (get_or (ids s) k 0) place.1 in
        let w = wish_in s.dossier.wishes k in
        let m = mark_in s.marks k in
        let own : nat_eq id w.id ≡ true = eq-eqb id w.id (at_k ∙ id_is k k_in) in (
          k_in,
          any_only test (entries s) k (w, m) (among_entries k k_in) (λ j x lt at t.
              let j_in = within j lt in only_place k j distinct at_k (has_id j x j_in at t) place.0
              (omega (arith, j_in, as_many)))
              ∙ ap test (entry_at k (w, m) k_in)
              ∙ ap (λ b. b && demands_bed s orders bars h w m && nat_eq r w.board_rank) own,
        )

-- what an index tells of the place of the wish with an id
pub place_told : (s : State) (index : Ids) (id : ℕ) {found : Option ℕ} → index ≡ ids_in s.dossier
    → position (nat_eq id) index.wishes ≡ found → position (nat_eq id) (ids s) ≡ found
place_told s index id are told = ap (λ (x : Ids). position (nat_eq id) x.wishes) (sym are) ∙ told

pub place_within : (s : State) (index : Ids) (id k : ℕ) → index ≡ ids_in s.dossier
    → position (nat_eq id) index.wishes ≡ Some k → k < length s.dossier.wishes
place_within s index id k are told =
    omega (
      arith,
      (place_found (nat_eq id) (ids s) k (place_told s index id are told)).0,
      length-map s.dossier.wishes (λ (w : Wish). w.id),
    )

-- the wish there shows the rank or not, by whether it demands a bed
pub shows_there : (s : State) (orders : List CallOrder) (bars : List ℕ) (h r id k : ℕ) (demands : Bool)
    → length s.marks ≡ length s.dossier.wishes → IsDistinct nat_eq (ids s)
    → position (nat_eq id) (ids s) ≡ Some k
    → demands_bed s orders bars h (wish_in s.dossier.wishes k) (mark_in s.marks k) ≡ demands
    → (demands && nat_eq r (wish_in s.dossier.wishes k).board_rank) ≡ shows_rank s orders bars h r id
shows_there s orders bars h r id k demands long distinct found is =
    sym ((shows_at s long orders bars h r id k distinct found).1
    ∙ ap (λ b. b && nat_eq r (wish_in s.dossier.wishes k).board_rank) is)

-- the first that passes, with its number
pub find_numbered : {X : Type 0} (t : X → Bool) (n : ℕ) (xs : List X) → list_any t xs ≡ true
    → (j : ℕ) × (x : X) × (j < length xs) × (get_or xs j x ≡ x) × (t x ≡ true)
    × (find (λ (e : ℕ × X). t e.1) (enumerate_from n xs) ≡ Some (n + j, x))
find_numbered {X} t n [] some = absurd (false≢true some)
find_numbered {X} t n (x ∷ xs) some =
    elim (cases_Bool (t x)) [
      | inl passes ↦ (0, x, omega arith, refl, passes, rw passes (ap (λ (k : ℕ). Some (k, x)) (sym (add-zero n))))
      | inr fails ↦
          let rest : list_any t xs ≡ true = rw fails at some in
          let (j, y, lt, at, t_y, found) = find_numbered t (n + 1) xs rest in
          (suc j, y, omega arith, at, t_y, rw fails (found ∙ ap (λ (k : ℕ). Some (k, y)) (omega arith)))
    ]

-- the name of a demanded rank is the place of a wish that has this rank
pub name_shows : (s : State) (orders : List CallOrder) (bars : List ℕ) (h r : ℕ)
    → length s.marks ≡ length s.dossier.wishes → is_among r (demanded_ranks s orders bars h) ≡ true
    → (name_of s orders bars h r < length s.dossier.wishes)
    × ((wish_in s.dossier.wishes (name_of s orders bars h r)).board_rank ≡ r)
name_shows s orders bars h r long among =
    let T = λ (e : Wish × Mark). demands_bed s orders bars h e.0 e.1 && (e.0.board_rank == r) in
    let (i, e, e_in, e_at, e_demands) = Any-from_list_any (demands_at s orders bars h r) (entries s)
    (sym (demanded s orders bars h r) ∙ among) in
    let parts = and_parts (demands_bed s orders bars h e.0 e.1) (nat_eq r e.0.board_rank) e_demands in
    let flipped : T e ≡ true = ap (λ b. b && (e.0.board_rank == r)) parts.0
    ∙ eq-eqb e.0.board_rank r (sym (eqb-true r e.0.board_rank parts.1)) in
    let (j, x, lt, at, t, found) = find_numbered T 0 (entries s) (list_any_at T (entries s) i e e_in
    (ap T e_at ∙ flipped)) in
    let named : name_of s orders bars h r ≡ j =
    ap (λ o. unwrap_or (option_map (λ (y : ℕ × (Wish × Mark)). y.0) o) 0) found ∙ zero-add j in
    let j_in = within s long j lt in
    let rank : (wish_in s.dossier.wishes j).board_rank ≡ r =
    ap (λ (w : Wish). w.board_rank) (sym (wish_is s long j x j_in (sym at)))
    ∙ eqb-true x.0.board_rank r
    (and_parts (demands_bed s orders bars h x.0 x.1) (x.0.board_rank == r) t).1 in
    (rw named j_in, ap (λ k. (wish_in s.dossier.wishes k).board_rank) named ∙ rank)

abbrev pub IsNamed : State → List CallOrder → List ℕ → ℕ → ℕ → Type 0
IsNamed s orders bars h r = (name_of s orders bars h r < length s.dossier.wishes)
    × ((wish_in s.dossier.wishes (name_of s orders bars h r)).board_rank ≡ r)

pub all_ranks_named : (s : State) (orders : List CallOrder) (bars : List ℕ) (h : ℕ)
    → length s.marks ≡ length s.dossier.wishes
    → All (IsNamed s orders bars h) (demanded_ranks s orders bars h)
all_ranks_named s orders bars h long =
    let ranks = demanded_ranks s orders bars h in
    λ k d lt. name_shows s orders bars h (get_or ranks k d) long
    (list_any_at (nat_eq (get_or ranks k d)) ranks k d lt
    (eq-eqb (get_or ranks k d) (get_or ranks k d) refl))

all_named : (s : State) (orders : List CallOrder) (bars : List ℕ) (h most : ℕ)
    → length s.marks ≡ length s.dossier.wishes
    → All (IsNamed s orders bars h) (filter (λ rank. nat_le rank most) (demanded_ranks s orders bars h))
all_named s orders bars h most long =
    All-filter (λ rank. nat_le rank most) (IsNamed s orders bars h) (demanded_ranks s orders bars h)
    (all_ranks_named s orders bars h long)

-- the places that name ranks are places of wishes
pub names_are_places : (s : State) (orders : List CallOrder) (bars : List ℕ) (h most : ℕ)
    → length s.marks ≡ length s.dossier.wishes
    → All (λ k. k < length s.dossier.wishes) (map (name_of s orders bars h)
    (filter (λ rank. nat_le rank most) (demanded_ranks s orders bars h)))
names_are_places s orders bars h most long =
    All-map (λ k. k < length s.dossier.wishes) (name_of s orders bars h) _
    (λ k d lt. (all_named s orders bars h most long k d lt).0)

pub map_back : (f g : ℕ → ℕ) (xs : List ℕ) → All (λ x. f (g x) ≡ x) xs → map f (map g xs) ≡ xs
map_back f g [] all = refl
map_back f g (x ∷ xs) all = ap (λ y. y ∷ map f (map g xs)) (All-head (λ y. f (g y) ≡ y) x xs all)
    ∙ ap (λ ys. x ∷ ys) (map_back f g xs (All-tail (λ y. f (g y) ≡ y) x xs all))

-- the ranks of the wishes that name ranks are these
pub ranks_back : (s : State) (orders : List CallOrder) (bars : List ℕ) (h most : ℕ)
    → length s.marks ≡ length s.dossier.wishes
    → map (λ k. (wish_in s.dossier.wishes k).board_rank) (map (name_of s orders bars h)
    (filter (λ rank. nat_le rank most) (demanded_ranks s orders bars h)))
    ≡ filter (λ rank. nat_le rank most) (demanded_ranks s orders bars h)
ranks_back s orders bars h most long =
    map_back (λ k. (wish_in s.dossier.wishes k).board_rank) (name_of s orders bars h) _
    (λ k d lt. (all_named s orders bars h most long k d lt).1)

-- a wish of the school, with a rank, whose candidate has no bed there, demands one where it is proposed
pub demands_by : (s : State) (orders : List CallOrder) (bars : List ℕ) (h : ℕ) (w told : Wish)
    (m : Mark) (own : ℕ) (lives proposed : Bool) → told ≡ w → told.school ≡ Some own → own ≡ h
    → 0 < told.board_rank
    → lives ≡ false → lives ≡ holds_bed_in s w.candidate w.school
    → proposed ≡ is_proposed s orders bars w m → proposed ≡ demands_bed s orders bars h w m
demands_by s orders bars h w told m own lives proposed is has same ranked none live wants =
    let school : w.school ≡ Some h = ap (λ (v : Wish). v.school) (sym is) ∙ has ∙ ap Some same in
    let rank : nat_lt 0 w.board_rank ≡ true = lt-ltb 0 w.board_rank (rw is at ranked) in
    let no_bed : holds_bed s w.candidate h ≡ false = ap (holds_bed_in s w.candidate) (sym school) ∙ sym live ∙ none in
    wants ∙ sym (ap (λ (o : Option ℕ). is_school o h && nat_lt 0 w.board_rank
    && not (holds_bed s w.candidate h) && is_proposed s orders bars w m) school
    ∙ ap (λ b. b && nat_lt 0 w.board_rank && not (holds_bed s w.candidate h) && is_proposed s orders bars w m)
    (eq-eqb h h refl)
    ∙ ap (λ b. b && not (holds_bed s w.candidate h) && is_proposed s orders bars w m) rank
    ∙ ap (λ b. not b && is_proposed s orders bars w m) no_bed)

-- what a round names, where its state and its bars are these
pub names_told : (told s : State) (orders : List CallOrder) (ceilings bars : List ℕ) (h most : ℕ)
    (names : List ℕ) → told ≡ s → length bars ≡ length ceilings
    → names ≡ map (name_of told orders (bar_each ceilings bars) h)
    (filter (λ rank. nat_le rank most) (demanded_ranks told orders (bar_each ceilings bars) h))
    → names ≡ map (name_of s orders bars h) (filter (λ rank. nat_le rank most) (demanded_ranks s orders bars h))
names_told told s orders ceilings bars h most names same as_many are =
    are
    ∙ ap (λ (bs : List ℕ). map (name_of told orders bs h) (filter (λ rank. nat_le rank most)
    (demanded_ranks told orders bs h))) (bar_each_is ceilings bars as_many)
    ∙ ap (λ (t : State). map (name_of t orders bars h) (filter (λ rank. nat_le rank most)
    (demanded_ranks t orders bars h))) same
