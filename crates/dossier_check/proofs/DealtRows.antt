-- What dealt rankings tell of the rows.
use Rattle.std.proofs.Common.{◌≡◌, ℕ, ◌<◌, suc, Bool, true, false, ◌&&◌, nat_eq, List, [], ◌∷◌, length, map, filter}
use Rattle.std.proofs.Common.{get_or, None, refl, sym, ap, ◌∙◌, subst, arith, true≢false, All, AllPairs}
use Prim.Native.Nat.{zero}
use Rattle.std.specs.List.{IsDistinct, AllByRecursion}
use Rattle.std.proofs.lemmas.Bool.Decides.{nat_tests}
use Rattle.std.proofs.lemmas.List.{get_or-map}
use Rattle.std.proofs.lemmas.List.Sorted.{IsPermutation-sym, IsPermutation-map}
use Rattle.std.proofs.lemmas.Map.Keys.{IsDistinct-IsPermutation, IsDistinct-head, IsDistinct-tail}
use Rattle.admit_core.specs.declared.refusal.Reason.TheVariants.{Repeat, RankTaken, Unknown}
use Rattle.admit_core.specs.declared.slot.Slot.TheVariants as slots
use Rattle.admit_core.specs.declared.tables.RankRow.{RankRow}
use Rattle.admit_core.specs.declared.tables.Tables.{Tables}
use Rattle.admit_core.specs.declared.ranking.Ranked.{Ranked}
use Rattle.admit_core.specs.declared.ranking.RankGroup.{RankGroup}
use Rattle.admit_core.specs.Faults.{first_in}
use Rattle.admit_core.specs.Lists.{is_among, sorted_by}
use Rattle.admit_core.specs.Relations.{ranking_tests, group_ids}
use Rattle.admit_core.specs.Standing.{group_of_row, place_of, ranked_in, ranked_row}
use Rattle.dossier_check.specs.declared.ranks.Dealt.{Dealt}
use Rattle.dossier_check.specs.Dealt.{AreDealt, HasItsGroup, places_in}
use Rattle.std.proofs.lemmas.Simd.{map-map}
use Rattle.dossier_check.proofs.Firsts.{length-map-here}
use Rattle.dossier_check.proofs.Places.{nat_eq_sound, there_within}
use Rattle.admit_core.proofs.SortedLists.{IsPermutation-sorted_by}
use Rattle.admit_core.proofs.Plain.{nat_eq_sym}
use Rattle.admit_core.proofs.NoFaults.{no_tests, and_then, none_in, differ, all_known}
use Rattle.dossier_check.proofs.ValidRankings.{map-ranked_in}

-- what holds of each list holds of the list that an id has
pub list_with : {V X : Type 0} (items : V → X) (f : ℕ → X) (P : X → Type 0) (vs : List V) (ids : List ℕ)
    → map items vs ≡ map f ids
    → All (λ v. P (items v)) vs → (id : ℕ) → is_among id ids ≡ true → P (f id)
list_with items f P vs [] e all id known = absurd (true≢false (sym known))
list_with items f P [] (i ∷ ids) e all id known = cc
list_with items f P (v ∷ vs) (i ∷ ids) e all id known = by (nat_eq id i) refl (list_with items f P vs ids)
  where
    heads : items v ≡ f i
    heads = cc

    tails : map items vs ≡ map f ids
    tails = cc

    by : (b : Bool) → nat_eq id i ≡ b → (map items vs ≡ map f ids → All (λ u. P (items u)) vs → (n : ℕ)
        → is_among n ids ≡ true → P (f n)) → P (f id)
    by true g rest = let same : id ≡ i = nat_eq_sound id i g in rw same (subst P heads (all 0 v (omega arith)))
    by false g rest = rest tails (λ k d lt. all (suc k) d (omega arith)) id (rw g at known)

module _ {R K : Type 0} (p : R → Bool) (eq : K → K → Bool) (key : R → K) where
  later_apart : (n : K) (rows : List R) → AllByRecursion (λ m. eq n m ≡ false) (map key (filter p rows))
      → (k : ℕ) (d : R) → k < length rows
      → p (get_or rows k d) ≡ true → eq n (key (get_or rows k d)) ≡ false
  later_apart n [] apart k d lt e = absurd (omega arith)
  later_apart n (r ∷ rows) apart k d lt e = by (p r) refl (later_apart n rows) k lt e
    where
      by : (b : Bool) → p r ≡ b
          → (AllByRecursion (λ m. eq n m ≡ false) (map key (filter p rows)) → (i : ℕ) (d : R) → i < length rows
          → p (get_or rows i d) ≡ true → eq n (key (get_or rows i d)) ≡ false)
          → (i : ℕ) → i < length (r ∷ rows) → p (get_or (r ∷ rows) i d) ≡ true
          → eq n (key (get_or (r ∷ rows) i d)) ≡ false
      by true f rest zero i_lt g = let here = rw f at apart in here.0
      by true f rest (suc i) i_lt g = let here = rw f at apart in rest here.1 i d (omega arith) g
      by false f rest zero i_lt g = absurd (true≢false (sym g ∙ f))
      by false f rest (suc i) i_lt g = rest (rw f at apart) i d (omega arith) g

  -- of those that pass, no two have the same key
  pub filtered_apart : (rows : List R) → IsDistinct eq (map key (filter p rows))
      → AllPairs (λ r row. p r ≡ true → p row ≡ true → eq (key r) (key row) ≡ false) rows
  filtered_apart [] apart i j d lt within e f = absurd (omega arith)
  filtered_apart (r ∷ rows) apart i j d lt within e f = by (p r) refl (filtered_apart rows) i j lt within e f
    where
      by : (b : Bool) → p r ≡ b → (IsDistinct eq (map key (filter p rows))
          → AllPairs (λ q row. p q ≡ true → p row ≡ true → eq (key q) (key row) ≡ false) rows)
          → (m n : ℕ) → m < n → n < length (r ∷ rows) → p (get_or (r ∷ rows) m d) ≡ true
          → p (get_or (r ∷ rows) n d) ≡ true
          → eq (key (get_or (r ∷ rows) m d)) (key (get_or (r ∷ rows) n d)) ≡ false
      by b g rest m zero m_lt n_lt em en = absurd (omega arith)
      by true g rest zero (suc n) m_lt n_lt em en =
          let here : IsDistinct eq (key r ∷ map key (filter p rows)) = rw g at apart in
          later_apart (key r) rows (IsDistinct-head eq (key r) (map key (filter p rows)) here) n d (omega arith) en
      by true g rest (suc m) (suc n) m_lt n_lt em en =
          let here : IsDistinct eq (key r ∷ map key (filter p rows)) = rw g at apart in
          rest (IsDistinct-tail eq (key r) (map key (filter p rows)) here) m n d (omega arith) (omega arith) em en
      by false g rest zero (suc n) m_lt n_lt em en = absurd (true≢false (sym em ∙ g))
      by false g rest (suc m) (suc n) m_lt n_lt em en = rest (rw g at apart) m n d (omega arith) (omega arith) em en

-- what no two have in common in order, no two have before
distinct_before_by : {X : Type 0} (by key : X → ℕ) (xs : List X) → IsDistinct nat_eq (map key (sorted_by by xs))
    → IsDistinct nat_eq (map key xs)
distinct_before_by by key xs apart =
    let back = IsPermutation-sym xs (sorted_by by xs) (IsPermutation-sorted_by by xs) in
    IsDistinct-IsPermutation nat_eq nat_eq_sym (map key (sorted_by by xs)) (map key xs)
    (IsPermutation-map key (sorted_by by xs) xs back) apart

distinct_before : (xs : List ℕ) → IsDistinct nat_eq (sorted_by (λ n. n) xs) → IsDistinct nat_eq xs
distinct_before xs apart =
    IsDistinct-IsPermutation nat_eq nat_eq_sym (sorted_by (λ n. n) xs) xs
    (IsPermutation-sym xs (sorted_by (λ n. n) xs) (IsPermutation-sorted_by (λ n. n) xs)) apart

both_false : (g h m n : ℕ) (b : Bool) → nat_eq h g ≡ b → (b ≡ true → nat_eq m n ≡ false)
    → (nat_eq h g && nat_eq n m) ≡ false
both_false g h m n true e differ = rw e (nat_eq_sym n m ∙ differ refl)
both_false g h m n false e differ = rw e refl

-- rows of the same group differ in what no group has twice
pub rows_apart : (rows : List RankRow) (key : Ranked → ℕ) (groups : List ℕ) → All (HasItsGroup groups) rows
    → ((group : ℕ) → is_among group groups ≡ true → IsDistinct nat_eq (map key (ranked_in rows group)))
    → AllPairs (λ r row. (nat_eq row.group r.group && nat_eq (key (ranked_row row)) (key (ranked_row r))) ≡ false) rows
rows_apart rows key groups known apart i j d lt within =
    let r : RankRow = get_or rows i d in
    let row : RankRow = get_or rows j d in
    let own : IsDistinct nat_eq (map (λ q. key (ranked_row q)) (filter (λ q. nat_eq r.group q.group) rows)) =
    subst (IsDistinct nat_eq) (sym (map-ranked_in rows r.group key)) (apart r.group (known i d (omega arith))) in
    both_false r.group row.group (key (ranked_row r)) (key (ranked_row row)) (nat_eq row.group r.group) refl
    (λ e. filtered_apart (λ q. nat_eq r.group q.group) nat_eq (λ q. key (ranked_row q)) rows own i j d lt within
    (self r.group) (nat_eq_sym r.group row.group ∙ e))
  where
    self : (n : ℕ) → nat_eq n n ≡ true
    self n = grind (arith, nat_tests)

-- no row of the rankings has a fault
pub no_rank_fault : (t : Tables) (dealt : Dealt) → AreDealt t dealt → All (HasItsGroup (group_ids t)) t.rankings
    → All (λ l. IsDistinct nat_eq l.items) dealt.candidates.items
    → All (λ g. IsDistinct nat_eq (map (λ r. r.rank) g.list)) dealt.rankings.items
    → first_in slots.Rankings (ranking_tests t) t.rankings ≡ None
no_rank_fault t dealt is known candidates ranks =
    let ids : List ℕ = group_ids t in
    let people : AllPairs (λ r row. (nat_eq row.group r.group && nat_eq row.candidate r.candidate) ≡ false) t.rankings =
    rows_apart t.rankings (λ r. r.candidate) ids known
    (λ group there. distinct_before _ (list_with (λ l. l.items) _ (IsDistinct nat_eq) dealt.candidates.items ids
    is.candidates candidates group there)) in
    let ordered : ℕ → List Ranked = λ group. sorted_by (λ r. r.rank) (ranked_in t.rankings group) in
    let lists : map (λ g. g.list) dealt.rankings.items ≡ map ordered ids =
    ap (map (λ (g : RankGroup). g.list)) is.rankings
    ∙ map-map (λ (g : RankGroup). g.list) (group_of_row t) t.groups
    ∙ sym (map-map ordered (λ g. g.id) t.groups) in
    let places : AllPairs (λ r row. (nat_eq row.group r.group && nat_eq row.rank r.rank) ≡ false) t.rankings =
    rows_apart t.rankings (λ r. r.rank) ids known
    (λ group there. distinct_before_by (λ r. r.rank) (λ r. r.rank) (ranked_in t.rankings group)
    (list_with (λ g. g.list) ordered (λ l. IsDistinct nat_eq (map (λ r. r.rank) l)) dealt.rankings.items ids lists ranks
    group there)) in
    none_in slots.Rankings (ranking_tests t) t.rankings
    (and_then (differ (λ row r. nat_eq row.group r.group && nat_eq row.candidate r.candidate) Repeat t.rankings people)
    (and_then (all_known (λ row. is_among row.group ids) (Unknown 1) t.rankings known)
    (and_then (differ (λ row r. nat_eq row.group r.group && nat_eq row.rank r.rank) RankTaken t.rankings places)
    no_tests)))

-- rows whose groups have places have them
pub all_there : (groups : List ℕ) (rows : List RankRow)
    → All (λ place. place < length groups) (places_in groups rows) → All (HasItsGroup groups) rows
all_there groups rows below k d lt =
    let place : RankRow → ℕ = λ r. place_of groups r.group in
    there_within groups (get_or rows k d).group
    (subst (λ p. p < length groups) (get_or-map place rows k d 0 lt)
    (below k 0 (omega (arith, lt, length-map-here place rows))))
