-- Rankings without a fault have a call order.
use Rattle.std.proofs.Common.{◌≡◌, ℕ, ◌≤◌, ◌<◌, suc, Bool, true, false, ◌&&◌, nat_eq, List, [], ◌∷◌, length, map}
use Rattle.std.proofs.Common.{filter, get_or, refl, sym, subst, arith, All, AllPairs}
use Rattle.std.specs.List.{IsDistinct, AllByRecursion}
use Rattle.std.proofs.lemmas.Bool.Decides.{nat_tests}
use Rattle.std.proofs.lemmas.Map.Keys.{IsDistinct-cons, IsDistinct-from_apart}
use Rattle.std.proofs.lemmas.List.Elements.{All-map}
use Rattle.admit_core.specs.declared.refusal.Reason.TheVariants.{Repeat, RankTaken}
use Rattle.admit_core.specs.declared.tables.GroupRow.{GroupRow}
use Rattle.admit_core.specs.declared.tables.RankRow.{RankRow}
use Rattle.admit_core.specs.declared.tables.Tables.{Tables}
use Rattle.admit_core.specs.declared.ranking.Ranked.{Ranked}
use Rattle.admit_core.specs.Ranges.{AreRows, IsGroupRow, IsRankRow}
use Rattle.admit_core.specs.Relations.{ranking_tests}
use Rattle.admit_core.specs.Standing.{ranked_row, ranked_in, group_of_row}
use Rattle.admit_core.specs.Validity.{IsRanking}
use Rattle.std.proofs.lemmas.Simd.{map-map}
use Rattle.dossier_check.proofs.Firsts.{length-map-here}
use Rattle.dossier_check.proofs.FaultFree.{first_passes, third_passes, apart}
use Rattle.admit_core.proofs.SortedLists.{length-sorted_by, IsDistinct-sorted_by, IsStrictlyIncreasing-sorted_by}
use Rattle.admit_core.proofs.NoFaults.{PassesAll}

module _ {R : Type 0} (p : R → Bool) (key : R → ℕ) where
  -- of two that pass the keys differ
  abbrev pub KeysDiffer : R → R → Type 0
  KeysDiffer r row = p r ≡ true → p row ≡ true → nat_eq (key r) (key row) ≡ false

  others_differ : (n : ℕ) (rows : List R) → ((k : ℕ) (d : R) → k < length rows → p (get_or rows k d) ≡ true
      → nat_eq n (key (get_or rows k d)) ≡ false)
      → AllByRecursion (λ m. nat_eq n m ≡ false) (map key (filter p rows))
  others_differ n [] differ = tt
  others_differ n (r ∷ rows) differ = by (p r) refl (others_differ n rows (λ k d lt. differ (suc k) d (omega arith)))
    where
      by : (b : Bool) → p r ≡ b → AllByRecursion (λ m. nat_eq n m ≡ false) (map key (filter p rows))
          → AllByRecursion (λ m. nat_eq n m ≡ false) (map key (filter p (r ∷ rows)))
      by true e rest = rw e (differ 0 r (omega arith) e, rest)
      by false e rest = rw e rest

  pub IsDistinct-filter : (rows : List R) → AllPairs KeysDiffer rows → IsDistinct nat_eq (map key (filter p rows))
  IsDistinct-filter [] differ = IsDistinct-from_apart nat_eq [] (λ i j d lt within. absurd (omega arith))
  IsDistinct-filter (r ∷ rows) differ = by (p r) refl (IsDistinct-filter rows
      (λ i j d lt within. differ (suc i) (suc j) d (omega arith) (omega arith)))
    where
      by : (b : Bool) → p r ≡ b → IsDistinct nat_eq (map key (filter p rows))
          → IsDistinct nat_eq (map key (filter p (r ∷ rows)))
      by true e rest =
          rw e (IsDistinct-cons nat_eq (key r) (map key (filter p rows))
          (others_differ (key r) rows (λ k d lt. differ 0 (suc k) d (omega arith) (omega arith) e)) rest)
      by false e rest = rw e rest

  length-filter-le : (rows : List R) → length (filter p rows) ≤ length rows
  length-filter-le [] = omega arith
  length-filter-le (r ∷ rows) = by (p r) refl (length-filter-le rows)
    where
      by : (b : Bool) → p r ≡ b → length (filter p rows) ≤ length rows
          → length (filter p (r ∷ rows)) ≤ suc (length rows)
      by true e le = rw e (omega arith)
      by false e le = rw e (omega arith)

both_same : (group g h m n : ℕ) → nat_eq group g ≡ true → nat_eq group h ≡ true → (nat_eq h g && nat_eq n m) ≡ false
    → nat_eq m n ≡ false
both_same group g h m n eg eh e = grind (arith, nat_tests)

-- the rows of one group have nothing twice that no two rows of a group share
distinct_in : (rankings : List RankRow) (group : ℕ) (key : RankRow → ℕ)
    → AllPairs (λ r row. (nat_eq row.group r.group && nat_eq (key row) (key r)) ≡ false) rankings
    → IsDistinct nat_eq (map key (filter (λ r. nat_eq group r.group) rankings))
distinct_in rankings group key differ =
    IsDistinct-filter (λ r. nat_eq group r.group) key rankings (λ i j d lt within eg eh.
    both_same group (get_or rankings i d).group (get_or rankings j d).group (key (get_or rankings i d))
    (key (get_or rankings j d)) eg eh (differ i j d lt within))

-- the candidates of a group in file order, by their rows
pub map-ranked_in : (rankings : List RankRow) (group : ℕ) (key : Ranked → ℕ)
    → map (λ r. key (ranked_row r)) (filter (λ r. nat_eq group r.group) rankings) ≡ map key (ranked_in rankings group)
map-ranked_in rankings group key = sym (map-map key ranked_row (filter (λ r. nat_eq group r.group) rankings))

length-ranked_in-le : (rankings : List RankRow) (group : ℕ) → length (ranked_in rankings group) ≤ length rankings
length-ranked_in-le rankings group =
    rw (length-map-here ranked_row (filter (λ r. nat_eq group r.group) rankings))
    (length-filter-le (λ r. nat_eq group r.group) (λ r. r.rank) rankings)

module _ (t : Tables) (ranges : AreRows IsRankRow t.rankings) (fine : PassesAll (ranking_tests t) t.rankings) where
  candidates_apart : AllPairs (λ r row. (nat_eq row.group r.group && nat_eq row.candidate r.candidate) ≡ false)
      t.rankings
  candidates_apart = apart (λ row r. nat_eq row.group r.group && nat_eq row.candidate r.candidate) Repeat t.rankings
      (first_passes fine)

  ranks_apart : AllPairs (λ r row. (nat_eq row.group r.group && nat_eq row.rank r.rank) ≡ false) t.rankings
  ranks_apart = apart (λ row r. nat_eq row.group r.group && nat_eq row.rank r.rank) RankTaken t.rankings
      (third_passes fine)

  pub ranking_of : (g : GroupRow) → IsGroupRow g → IsRanking (group_of_row t g)
  ranking_of g row =
      let own : List Ranked = ranked_in t.rankings g.id in
      let distinct_ranks : IsDistinct nat_eq (map (λ r. r.rank) own) =
      subst (IsDistinct nat_eq) (map-ranked_in t.rankings g.id (λ r. r.rank))
      (distinct_in t.rankings g.id (λ r. r.rank) ranks_apart) in
      let distinct_candidates : IsDistinct nat_eq (map (λ r. r.candidate) own) =
      subst (IsDistinct nat_eq) (map-ranked_in t.rankings g.id (λ r. r.candidate))
      (distinct_in t.rankings g.id (λ r. r.candidate) candidates_apart) in
      record {
        scholar_pct = row.scholar_pct;
        resident_pct = row.resident_pct;
        ranks = IsStrictlyIncreasing-sorted_by (λ r. r.rank) own distinct_ranks;
        candidates = IsDistinct-sorted_by (λ r. r.rank) (λ r. r.candidate) own distinct_candidates;
      }

  -- a group has no more candidates than the slot has rows
  pub ranked_few : (g : GroupRow) → length (group_of_row t g).list ≤ 16000000
  ranked_few g =
      omega (
        arith,
        length-sorted_by (λ r. r.rank)
            (ranked_in t.rankings g.id),
        length-ranked_in-le t.rankings g.id,
        ranges.size,
      )

  -- each group's ranking has a call order
  pub rankings_of : AreRows IsGroupRow t.groups → All IsRanking (map (group_of_row t) t.groups)
  rankings_of groups = All-map IsRanking (group_of_row t) t.groups (λ k g lt.
      ranking_of (get_or t.groups k g) (groups.each k g lt))
