-- Who is ranked in a group, by the candidates of the groups.
use Rattle.std.proofs.Common.{◌≡◌, ℕ, ◌≤◌, ◌<◌, Bool, true, false, ◌&&◌, nat_eq, List, [], ◌∷◌, length, map, get_or}
use Rattle.std.proofs.Common.{Some, None, Result, Ok, Err, option_map, position, slice_get, refl, sym, ap, ◌∙◌, arith}
use Rattle.std.proofs.Common.{true≢false, All, inl, inr, ◌⊎◌, subst}
use Rattle.std.specs.List.{HoldsAt, list_any}
use Rattle.std.specs.List.Sorted.{IsBinarySearchResult, IsNonDecreasing}
use Rattle.std.specs.Ordering.{nat_cmp}
use Rattle.std.specs.Result.{MatchResult, is_ok}
use Rattle.std.proofs.lemmas.Bool.Decides.{nat_tests}
use Rattle.std.proofs.lemmas.List.{get_or_default}
use Rattle.std.proofs.lemmas.List.Folds.{list_any_at, list_any_none}
use Rattle.std.proofs.lemmas.List.Quantifiers.{position-Some}
use Rattle.std.proofs.lemmas.List.Sorted.{list_any-IsPermutation, searched}
use Rattle.std.proofs.lemmas.Option.{slice_get-map, slice_get-get_or, slice_get_within}
use Rattle.admit_core.specs.declared.tables.ProgrammeRow.{ProgrammeRow}
use Rattle.admit_core.specs.declared.tables.RankRow.{RankRow}
use Rattle.admit_core.specs.declared.tables.Tables.{Tables}
use Rattle.admit_core.specs.declared.tables.WishRow.{WishRow}
use Rattle.admit_core.specs.Lists.{is_among, sorted_by}
use Rattle.admit_core.specs.Relations.{group_ids, is_in_group, is_ranked}
use Rattle.admit_core.specs.Standing.{place_of, ranked_in}
use Rattle.dossier_check.specs.Dealt.{HasItsGroup, candidates_in, group_places}
use Rattle.dossier_check.specs.WishTests.{IsRanked}
use Rattle.dossier_check.proofs.Firsts.{length-map-here, none_passes, one_passes}
use Rattle.dossier_check.proofs.Found.{found_at, position-within}
use Rattle.dossier_check.proofs.Places.{nat_eq_sound, nat_eq_same, position-any}
use Rattle.admit_core.proofs.SortedLists.{IsPermutation-sorted_by, numbers_in_order}

-- the candidates of a group are those whom the rankings have in it
in_group : (rows : List RankRow) (group candidate : ℕ)
    → list_any (λ r. nat_eq group r.group && nat_eq candidate r.candidate) rows
    ≡ list_any (nat_eq candidate) (map (λ r. r.candidate) (ranked_in rows group))
in_group [] group candidate = refl
in_group (r ∷ rows) group candidate = by (nat_eq group r.group) refl (in_group rows group candidate)
  where
    by : (b : Bool) → nat_eq group r.group ≡ b
        → list_any (λ q. nat_eq group q.group && nat_eq candidate q.candidate) rows
        ≡ list_any (nat_eq candidate) (map (λ q. q.candidate) (ranked_in rows group))
        → list_any (λ q. nat_eq group q.group && nat_eq candidate q.candidate) (r ∷ rows)
        ≡ list_any (nat_eq candidate) (map (λ q. q.candidate) (ranked_in (r ∷ rows) group))
    by true e rest = rw (e, rest) refl
    by false e rest = rw (e, rest) refl

among_candidates : (rows : List RankRow) (group candidate : ℕ)
    → list_any (nat_eq candidate) (candidates_in rows group)
    ≡ list_any (λ r. nat_eq group r.group && nat_eq candidate r.candidate) rows
among_candidates rows group candidate =
    let own : List ℕ = map (λ r. r.candidate) (ranked_in rows group) in
    sym (list_any-IsPermutation (nat_eq candidate) own (sorted_by (λ n. n) own) (IsPermutation-sorted_by (λ n. n) own))
    ∙ sym (in_group rows group candidate)

-- no one is ranked in a group that is not there
pub none_in_group : (rows : List RankRow) (groups : List ℕ) (group candidate : ℕ) → All (HasItsGroup groups) rows
    → list_any (nat_eq group) groups ≡ false
    → false ≡ list_any (λ r. nat_eq group r.group && nat_eq candidate r.candidate) rows
none_in_group rows groups group candidate known unknown =
    sym (list_any_none (λ r. nat_eq group r.group && nat_eq candidate r.candidate) rows
    (λ k d lt. by (get_or rows k d) (known k d lt) (nat_eq group (get_or rows k d).group) refl))
  where
    by : (r : RankRow) → is_among r.group groups ≡ true → (b : Bool) → nat_eq group r.group ≡ b
        → (nat_eq group r.group && nat_eq candidate r.candidate) ≡ false
    by r there true e = let same : group ≡ r.group = nat_eq_sound group r.group e in
        absurd (true≢false (sym there ∙ rw (← same) unknown))
    by r there false e = rw e refl

-- the list at the place of a group is that of its candidates
pub list_at : {V : Type 0} (items : V → List ℕ) (rows : List RankRow) (lists : List V) (groups : List ℕ)
    (group place : ℕ) (list : V)
    → map items lists ≡ map (candidates_in rows) groups → position (nat_eq group) groups ≡ Some place
    → slice_get lists place ≡ Some list
    → items list ≡ candidates_in rows group
list_at items rows lists groups group place list same at got =
    let here = position-Some (nat_eq group) groups place 0 at in
    let id : group ≡ get_or groups place 0 = nat_eq_sound group (get_or groups place 0) here.1 in
    let one : slice_get (map items lists) place ≡ Some (items list) =
    slice_get-map items lists place ∙ ap (option_map items) got in
    let other : slice_get (map (candidates_in rows) groups) place ≡ Some (candidates_in rows (get_or groups place 0)) =
    slice_get-map (candidates_in rows) groups place
    ∙ ap (option_map (candidates_in rows)) (slice_get-get_or groups place 0 here.0) in
    let both : Some (items list) ≡ Some (candidates_in rows (get_or groups place 0)) =
    sym one ∙ ap (λ ls. slice_get ls place) same ∙ other in
    let equal : items list ≡ candidates_in rows (get_or groups place 0) = cc both in
    equal ∙ ap (candidates_in rows) (sym id)

-- what a search in ascending numbers finds is among them
found_among : (xs : List ℕ) (x : ℕ) (r : Result ℕ ℕ)
    → MatchResult r (λ i. (i < length xs) × (get_or xs i 0 ≡ x))
    (λ i. (i ≤ length xs) × ((k : ℕ) → k < i → get_or xs k 0 < x)
    × ((k : ℕ) → i ≤ k → k < length xs → x < get_or xs k 0))
    → is_ok r ≡ list_any (nat_eq x) xs
found_among xs x (Ok i) at = sym (list_any_at (nat_eq x) xs i 0 at.0 (nat_eq_same x (get_or xs i 0) (sym at.1)))
found_among xs x (Err i) at =
    sym (list_any_none (nat_eq x) xs (λ k d lt. rw (get_or_default xs k d 0 lt) (none k lt (order k i))))
  where
    order : (k m : ℕ) → (k < m) ⊎ (m ≤ k)
    order k m = grind arith

    none : (k : ℕ) → k < length xs → (k < i) ⊎ (i ≤ k) → nat_eq x (get_or xs k 0) ≡ false
    none k lt (inl below) = let less : get_or xs k 0 < x = at.1 k below in grind (arith, nat_tests)
    none k lt (inr above) = let more : x < get_or xs k 0 = at.2 k above lt in grind (arith, nat_tests)

-- what is told of the candidates of a group, who ascend, is told of the rankings
pub is_found : (rows : List RankRow) (group candidate : ℕ) (ids : List ℕ) (r : Bool) → ids ≡ candidates_in rows group
    → (IsNonDecreasing ids → r ≡ list_any (nat_eq candidate) ids)
    → r ≡ list_any (λ q. nat_eq group q.group && nat_eq candidate q.candidate) rows
is_found rows group candidate ids r same answer =
    answer (subst IsNonDecreasing (sym same) (numbers_in_order (map (λ q. q.candidate) (ranked_in rows group))))
    ∙ ap (list_any (nat_eq candidate)) same ∙ among_candidates rows group candidate

-- whether a search in ascending numbers finds one
pub searched_among : (xs : List ℕ) (x : ℕ) (r : Result ℕ ℕ) → IsNonDecreasing xs
    → IsBinarySearchResult (λ y. nat_cmp y x) xs r → is_ok r ≡ list_any (nat_eq x) xs
searched_among xs x r ascends answer = found_among xs x r (searched xs x r answer (λ i j le lt. ascends i j 0 le lt))

-- what is told of the programme at a place, by the place of its group
module _ (t : Tables) (places : List ℕ) (made : places ≡ group_places (group_ids t) t.programmes)
    (known : All (HasItsGroup (group_ids t)) t.rankings) (id candidate place : ℕ)
    (at : Some place ≡ position (λ p. nat_eq id p.id) t.programmes) where
  abbrev programme : ProgrammeRow
  programme = get_or t.programmes place (record { id = 0; group = 0; seats = 0; limit = 0 })

  abbrev own : ProgrammeRow → Bool
  own p = nat_eq id p.id

  within : place < length t.programmes
  within = position-within own t.programmes place (sym at)

  there : slice_get t.programmes place ≡ Some programme
  there = slice_get-get_or t.programmes place _ within

  in_its_group : is_in_group t candidate programme.group ≡ is_ranked t id candidate
  in_its_group = rw (found_at own t.programmes place programme (sym at) there) refl

  group_place : slice_get places place ≡ Some (place_of (group_ids t) programme.group)
  group_place =
      ap (λ xs. slice_get xs place) made
      ∙ slice_get-map (λ p. place_of (group_ids t) p.group) t.programmes place
      ∙ ap (option_map (λ p. place_of (group_ids t) p.group)) there

  -- each programme has a place for its group
  pub has_place : slice_get places place ≡ None → false ≡ is_ranked t id candidate
  has_place none = cc (sym group_place ∙ none)

  module _ {V : Type 0} (items : V → List ℕ) (lists : List V)
      (same : map items lists ≡ map (candidates_in t.rankings) (group_ids t)) (group : ℕ)
      (here : slice_get places place ≡ Some group) where
    is_group : place_of (group_ids t) programme.group ≡ group
    is_group = cc (sym group_place ∙ here)

    as_many : length lists ≡ length (group_ids t)
    as_many = sym (length-map-here items lists) ∙ ap length same
        ∙ length-map-here (candidates_in t.rankings) (group_ids t)

    pub no_list : slice_get lists group ≡ None → false ≡ is_ranked t id candidate
    no_list none = by (list_any (nat_eq programme.group) (group_ids t)) refl
      where
        by : (b : Bool) → list_any (nat_eq programme.group) (group_ids t) ≡ b → false ≡ is_ranked t id candidate
        by true any =
            let lt : group < length lists =
            rw (as_many, ← is_group) (one_passes (nat_eq programme.group) (group_ids t) any) in
            let read = slice_get-map items lists group ∙ ap (option_map items) none in
            cc (sym (slice_get-get_or (map items lists) group []
            (rw (length-map-here items lists) lt)) ∙ read)
        by false unknown = none_in_group t.rankings (group_ids t) programme.group candidate known unknown ∙ in_its_group

    pub list_tells : (list : V) → slice_get lists group ≡ Some list → (numbers : List ℕ) → numbers ≡ items list
        → (r : Bool) → (IsNonDecreasing numbers → r ≡ list_any (nat_eq candidate) numbers)
        → r ≡ is_ranked t id candidate
    list_tells list got numbers are r answer =
        let lt : group < length (group_ids t) = rw (← as_many) (slice_get_within lists group list got) in
        let any : list_any (nat_eq programme.group) (group_ids t) ≡ true =
        not_none (list_any (nat_eq programme.group) (group_ids t)) refl lt in
        let position_is : position (nat_eq programme.group) (group_ids t) ≡ Some group =
        position-any (nat_eq programme.group) (group_ids t) any ∙ ap Some is_group in
        is_found t.rankings programme.group candidate numbers r
        (are ∙ list_at items t.rankings lists (group_ids t) programme.group group list same position_is got) answer
        ∙ in_its_group
      where
        not_none : (b : Bool) → list_any (nat_eq programme.group) (group_ids t) ≡ b → group < length (group_ids t)
            → list_any (nat_eq programme.group) (group_ids t) ≡ true
        not_none true e lt = e
        not_none false e lt =
            let past : group ≡ length (group_ids t) =
            sym is_group ∙ none_passes (nat_eq programme.group) (group_ids t) e in
            absurd (omega (arith, past, lt))

-- what is known of a row that is read holds at its place
pub read_ranked : (t : Tables) (rows : List WishRow) (i : ℕ) (e : WishRow) → i < length rows
    → IsRanked t (get_or rows i e) → HoldsAt (IsRanked t) rows i
read_ranked t rows i e lt ranked d = subst (IsRanked t) (get_or_default rows i e d lt) ranked
