-- Each wish of the dossier is valid.
use Rattle.std.proofs.Common.{◌≡◌, ℕ, ◌<◌, Bool, true, false, ◌&&◌, nat_eq, List, [], ◌∷◌, length, map, find, get_or}
use Rattle.std.proofs.Common.{slice_get, option_map, unwrap_or, Option, Some, None, refl, sym, ap, ◌∙◌, All}
use Rattle.std.specs.List.{list_any, position_or_len}
use Rattle.std.specs.Option.{option_map_or, ForSome}
use Rattle.std.proofs.lemmas.List.{get_or-map}
use Rattle.std.proofs.lemmas.List.Elements.{All-map}
use Rattle.std.proofs.lemmas.List.Sorted.{list_any-IsPermutation}
use Rattle.std.proofs.lemmas.Option.{slice_get-map, slice_get-get_or, same_Some}
use Rattle.admit_core.specs.declared.tables.GroupRow.{GroupRow}
use Rattle.admit_core.specs.declared.tables.ProgrammeRow.{ProgrammeRow}
use Rattle.admit_core.specs.declared.tables.RankRow.{RankRow}
use Rattle.admit_core.specs.declared.tables.WishRow.{WishRow}
use Rattle.admit_core.specs.declared.tables.Tables.{Tables}
use Rattle.admit_core.specs.declared.ranking.Ranked.{Ranked}
use Rattle.admit_core.specs.DossierRows.{group_of, ranking_of}
use Rattle.admit_core.specs.Lists.{is_among, sorted_by}
use Rattle.admit_core.specs.Ranges.{AreTables, IsNumber}
use Rattle.admit_core.specs.Relations.{group_ids, programme_ids, school_ids, is_in_group, is_ranked, is_boarded}
use Rattle.admit_core.specs.Standing.{place_of, ranked_in, group_of_row, programme_of_row, school_of_row, board_rank_of}
use Rattle.admit_core.specs.Standing.{wish_of_row, dossier_of}
use Rattle.admit_core.specs.Validity.{HasBoardRank, IsValidWish}
use Rattle.std.proofs.lemmas.Simd.{map-map}
use Rattle.dossier_check.proofs.Firsts.{length-map-here, position_or_len-map}
use Rattle.dossier_check.proofs.NoFault.{HasNoFault}
use Rattle.dossier_check.proofs.Places.{IsFound, found, any_some, any-find, find-any, at_place, place_within}
use Rattle.dossier_check.proofs.RowFacts.{groups_known, programmes_known, schools_known, all_ranked, all_boarded}
use Rattle.admit_core.proofs.SortedLists.{IsPermutation-sorted_by}
use Rattle.admit_core.proofs.Plain.{any-map}

-- an option that passes a test holds a value that passes it
some_passing : {X : Type 0} (f : X → Bool) (o : Option X) → option_map_or f o false ≡ true
    → (x : X) × (o ≡ Some x) × (f x ≡ true)
some_passing f None e = cc
some_passing f (Some x) e = (x, refl, e)

-- a candidate of a group is in its list
ranked_any : (rows : List RankRow) (candidate group : ℕ)
    → list_any (λ r. nat_eq group r.group && nat_eq candidate r.candidate) rows
    ≡ is_among candidate (map (λ r. r.candidate) (ranked_in rows group))
ranked_any [] candidate group = refl
ranked_any (r ∷ rows) candidate group = by (nat_eq group r.group) refl (ranked_any rows candidate group)
  where
    by : (b : Bool) → nat_eq group r.group ≡ b
        → list_any (λ r. nat_eq group r.group && nat_eq candidate r.candidate) rows
        ≡ is_among candidate (map (λ r. r.candidate) (ranked_in rows group))
        → list_any (λ r. nat_eq group r.group && nat_eq candidate r.candidate) (r ∷ rows)
        ≡ is_among candidate (map (λ r. r.candidate) (ranked_in (r ∷ rows) group))
    by true e rest = rw (e, rest) refl
    by false e rest = rw (e, rest) refl

module _ (t : Tables) (ranges : AreTables t) (fine : HasNoFault t) where
  no_group : GroupRow
  no_group = record { id = 0; scholar_pct = 0; resident_pct = 0 }

  -- the place of the group of a programme that is there
  group_place : (programme : ℕ) (p : ProgrammeRow) → find (λ p. nat_eq programme p.id) t.programmes ≡ Some p
      → (group_of (dossier_of t) (place_of (programme_ids t) programme) ≡ place_of (group_ids t) p.group)
      × (is_among p.group (group_ids t) ≡ true)
  group_place programme p e =
      let test : ProgrammeRow → Bool = λ p. nat_eq programme p.id in
      let any : list_any test t.programmes ≡ true = any-find test t.programmes p e in
      let i : ℕ = position_or_len test t.programmes in
      let here : get_or t.programmes i p ≡ p = same_Some _ _ (sym (find-any test t.programmes p any) ∙ e) in
      let at : place_of (programme_ids t) programme ≡ i =
      position_or_len-map (nat_eq programme) (λ p. p.id) t.programmes in
      let known : is_among programme (programme_ids t) ≡ true =
      any-map (nat_eq programme) (λ p. p.id) t.programmes ∙ any in
      let lt : i < length t.programmes = rw (← at, ← length-map-here (λ p. p.id) t.programmes)
      (place_within (programme_ids t) programme known) in
      let value : get_or (map (λ q. q.group) (dossier_of t).programmes) i 0
      ≡ place_of (group_ids t) (get_or t.programmes i p).group =
      ap (λ gs. get_or gs i 0) (map-map (λ q. q.group) (programme_of_row t) t.programmes)
      ∙ get_or-map (λ q. place_of (group_ids t) q.group) t.programmes i p 0 lt in (
        rw at value ∙ ap (λ q. place_of (group_ids t) q.group) here,
        ap (λ q. is_among q.group (group_ids t)) (sym here) ∙ groups_known t fine i p lt,
      )

  -- the list of the group of a programme that is there
  list_at : (programme : ℕ) (p : ProgrammeRow) → find (λ p. nat_eq programme p.id) t.programmes ≡ Some p
      → ranking_of (dossier_of t) (place_of (programme_ids t) programme)
      ≡ sorted_by (λ r. r.rank) (ranked_in t.rankings p.group)
  list_at programme p e =
      let (at, known) = group_place programme p e in
      let j : ℕ = place_of (group_ids t) p.group in
      let lt : j < length t.groups = rw (← length-map-here (λ g. g.id) t.groups)
      (place_within (group_ids t) p.group known) in
      let id : (get_or t.groups j no_group).id ≡ p.group =
      sym (get_or-map (λ g. g.id) t.groups j no_group 0 lt) ∙ at_place (group_ids t) p.group 0 known in
      let got : slice_get (dossier_of t).groups j ≡ Some (group_of_row t (get_or t.groups j no_group)) =
      slice_get-map (group_of_row t) t.groups j
      ∙ ap (option_map (group_of_row t)) (slice_get-get_or t.groups j no_group lt) in
      ap (λ i. unwrap_or (option_map (λ g. g.list) (slice_get (dossier_of t).groups i)) []) at
      ∙ ap (λ o. unwrap_or (option_map (λ g. g.list) o) []) got
      ∙ ap (λ group. sorted_by (λ r. r.rank) (ranked_in t.rankings group)) id

  ranked_there : (programme candidate : ℕ) → is_ranked t programme candidate ≡ true
      → is_among candidate (map (λ r. r.candidate) (ranking_of (dossier_of t) (place_of (programme_ids t) programme)))
      ≡ true
  ranked_there programme candidate e =
      let (p, is, there) = some_passing (λ p. is_in_group t candidate p.group)
      (find (λ p. nat_eq programme p.id) t.programmes) e in
      let own : List Ranked = ranked_in t.rankings p.group in
      let among : is_among candidate (map (λ r. r.candidate) own) ≡ true =
      sym (ranked_any t.rankings candidate p.group) ∙ there in
      ap (λ l. is_among candidate (map (λ r. r.candidate) l)) (list_at programme p is)
      ∙ any-map (nat_eq candidate) (λ r. r.candidate) (sorted_by (λ r. r.rank) own)
      ∙ sym (list_any-IsPermutation (λ r. nat_eq candidate r.candidate) own (sorted_by (λ r. r.rank) own)
      (IsPermutation-sorted_by (λ r. r.rank) own))
      ∙ sym (any-map (nat_eq candidate) (λ r. r.candidate) own)
      ∙ among

  rank_there : (candidate : ℕ) (school : Option ℕ) → option_map_or (λ h. is_boarded t h candidate) school true ≡ true
      → HasBoardRank (option_map (place_of (school_ids t)) school) (board_rank_of t candidate school)
  rank_there candidate None e = refl
  rank_there candidate (Some h) e =
      let (b, is) = any_some (λ b. nat_eq h b.school && nat_eq candidate b.candidate) t.boarding e in
      let at : IsFound (λ b. nat_eq h b.school && nat_eq candidate b.candidate) t.boarding b =
      found (λ b. nat_eq h b.school && nat_eq candidate b.candidate) t.boarding b is in
      let rank : IsNumber b.rank = rw (at.is b) at (ranges.boarding.each at.place b at.within).rank in
      rw is rank

  school_there : (school : Option ℕ) → option_map_or (λ h. is_among h (school_ids t)) school true ≡ true
      → ForSome (option_map (place_of (school_ids t)) school) (λ h. h < length (dossier_of t).schools)
  school_there None e h is = cc
  school_there (Some k) e h is =
      let same : place_of (school_ids t) k ≡ h = same_Some _ _ is in
      let within : place_of (school_ids t) k < length (school_ids t) = place_within (school_ids t) k e in
      rw (length-map-here school_of_row t.schools, ← same, ← length-map-here (λ h. h.id) t.schools) within

  programme_there : (programme : ℕ) → is_among programme (programme_ids t) ≡ true
      → place_of (programme_ids t) programme < length (dossier_of t).programmes
  programme_there programme known = rw (
    length-map-here (programme_of_row t) t.programmes,
    ← length-map-here
        (λ p. p.id) t.programmes,
  ) (place_within (programme_ids t) programme known)

  pub valid_wishes : All (IsValidWish (dossier_of t)) (dossier_of t).wishes
  valid_wishes =
      All-map (IsValidWish (dossier_of t)) (wish_of_row t) t.wishes (λ k w lt.
      let row = ranges.wishes.each k w lt in
      let wish : WishRow = get_or t.wishes k w in
      record {
        id = row.id;
        programme = programme_there wish.programme (programmes_known t fine k w lt);
        school = school_there wish.school (schools_known t fine k w lt);
        ranked = ranked_there wish.programme wish.candidate (all_ranked t fine k w lt);
        board_rank = rank_there wish.candidate wish.school (all_boarded t fine k w lt);
        preference = row.preference;
      })
