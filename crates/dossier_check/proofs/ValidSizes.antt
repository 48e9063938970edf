-- No list of the dossier is too long.
use Rattle.std.proofs.Common.{◌≡◌, ℕ, ◌+◌, ◌≤◌, suc, Bool, true, false, nat_eq, List, [], ◌∷◌, length, map, filter, sum}
use Rattle.std.proofs.Common.{refl, sym, ap, ◌∙◌, arith}
use Rattle.std.specs.List.{IsDistinct, AllByRecursion}
use Rattle.std.proofs.lemmas.Bool.Decides.{nat_tests}
use Rattle.std.proofs.lemmas.List.Sums.{sum_by-cons}
use Rattle.std.proofs.lemmas.Map.Keys.{IsDistinct-head, IsDistinct-tail}
use Rattle.admit_core.specs.declared.tables.GroupRow.{GroupRow}
use Rattle.admit_core.specs.declared.tables.RankRow.{RankRow}
use Rattle.admit_core.specs.declared.tables.Tables.{Tables}
use Rattle.admit_core.specs.Ranges.{AreTables}
use Rattle.admit_core.specs.Relations.{group_ids}
use Rattle.admit_core.specs.Standing.{ranked_row, ranked_in, group_of_row, programme_of_row, school_of_row, wish_of_row}
use Rattle.admit_core.specs.Standing.{ceiling_of_row, answer_of_row, dossier_of}
use Rattle.admit_core.specs.Validity.{HasSize}
use Rattle.dossier_check.proofs.Firsts.{length-map-here}
use Rattle.admit_core.proofs.SortedLists.{length-sorted_by}

sum-cons : (n : ℕ) (ns : List ℕ) → sum (n ∷ ns) ≡ n + sum ns
sum-cons n ns = sum_by-cons (λ x. x) n ns

-- how many candidates a group has
abbrev count_in : List RankRow → ℕ → ℕ
count_in rankings group = length (filter (λ r. nat_eq group r.group) rankings)

none_in_none : (ks : List ℕ) → sum (map (count_in []) ks) ≡ 0
none_in_none [] = refl
none_in_none (k ∷ ks) = sum-cons 0 (map (count_in []) ks) ∙ ap (λ n. 0 + n) (none_in_none ks)

other_group : (k g m : ℕ) → nat_eq k g ≡ true → nat_eq k m ≡ false → nat_eq m g ≡ false
other_group k g m here other = grind (arith, nat_tests)

-- one row more counts in no other group than its own
none_more : (r : RankRow) (rows : List RankRow) (k : ℕ) (ks : List ℕ) → nat_eq k r.group ≡ true
    → AllByRecursion (λ m. nat_eq k m ≡ false) ks
    → sum (map (count_in (r ∷ rows)) ks) ≡ sum (map (count_in rows) ks)
none_more r rows k [] here others = refl
none_more r rows k (m ∷ ks) here others =
    let off : nat_eq m r.group ≡ false = other_group k r.group m here others.0 in
    let same : count_in (r ∷ rows) m ≡ count_in rows m = rw off refl in
    sum-cons (count_in (r ∷ rows) m) (map (count_in (r ∷ rows)) ks)
    ∙ rw (same, none_more r rows k ks here others.1) (sym (sum-cons (count_in rows m) (map (count_in rows) ks)))

one_more : (r : RankRow) (rows : List RankRow) (ks : List ℕ) → IsDistinct nat_eq ks
    → sum (map (count_in (r ∷ rows)) ks) ≤ suc (sum (map (count_in rows) ks))
one_more r rows [] apart = omega arith
one_more r rows (k ∷ ks) apart = by (nat_eq k r.group) refl (one_more r rows ks (IsDistinct-tail nat_eq k ks apart))
  where
    by : (b : Bool) → nat_eq k r.group ≡ b → sum (map (count_in (r ∷ rows)) ks) ≤ suc (sum (map (count_in rows) ks))
        → sum (map (count_in (r ∷ rows)) (k ∷ ks)) ≤ suc (sum (map (count_in rows) (k ∷ ks)))
    by true e le =
        let here : count_in (r ∷ rows) k ≡ suc (count_in rows k) = rw e refl in
        rw (
          sum-cons (count_in (r ∷ rows) k) (map (count_in (r ∷ rows)) ks),
          sum-cons (count_in rows k)
              (map (count_in rows) ks),
          here,
          none_more r rows k ks e (IsDistinct-head nat_eq k ks apart),
        )
        (omega arith)
    by false e le =
        let here : count_in (r ∷ rows) k ≡ count_in rows k = rw e refl in
        rw (
          sum-cons (count_in (r ∷ rows) k) (map (count_in (r ∷ rows)) ks),
          sum-cons (count_in rows k)
              (map (count_in rows) ks),
          here,
        ) (omega arith)

-- groups apart have no more candidates than there are rows
count_all-le : (rows : List RankRow) (ks : List ℕ) → IsDistinct nat_eq ks → sum (map (count_in rows) ks) ≤ length rows
count_all-le [] ks apart = rw (none_in_none ks) (omega arith)
count_all-le (r ∷ rows) ks apart = let rest : sum (map (count_in rows) ks) ≤ length rows = count_all-le rows ks apart in
    omega (arith, one_more r rows ks apart)

lengths : (t : Tables) (rows : List GroupRow)
    → map (λ g. length g.list) (map (group_of_row t) rows) ≡ map (count_in t.rankings) (map (λ g. g.id) rows)
lengths t [] = refl
lengths t (g ∷ rows) =
    let here : length (group_of_row t g).list ≡ count_in t.rankings g.id =
    length-sorted_by (λ r. r.rank) (ranked_in t.rankings g.id)
    ∙ length-map-here ranked_row (filter (λ r. nat_eq g.id r.group) t.rankings) in
    rw (here, lengths t rows) refl

pub size_of : (t : Tables) → AreTables t → IsDistinct nat_eq (group_ids t) → HasSize (dossier_of t)
size_of t ranges apart = record {
  groups = rw (length-map-here (group_of_row t) t.groups) ranges.groups.size;
  ranked = rw (lengths t t.groups) (omega (arith, count_all-le t.rankings (group_ids t) apart, ranges.rankings.size));
  programmes = rw (length-map-here (programme_of_row t) t.programmes) ranges.programmes.size;
  schools = rw (length-map-here school_of_row t.schools) ranges.schools.size;
  wishes = rw (length-map-here (wish_of_row t) t.wishes) ranges.wishes.size;
  ceilings = rw (length-map-here (ceiling_of_row t) t.ceilings) ranges.ceilings.size;
  answers = rw (length-map-here (answer_of_row t) t.answers) ranges.answers.size;
}
