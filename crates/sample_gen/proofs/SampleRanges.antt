-- The numbers of a sample are in the ranges of their columns.
use Rattle.std.proofs.Common.{◌≡◌, ℕ, ◌+◌, ◌-◌, ◌*◌, ◌≤◌, suc, Bool, true, false, List, [], ◌∷◌, Option, Some, None}
use Rattle.std.proofs.Common.{length, map, ◌∙◌, subst, arith, lit≤}
use Rattle.std.specs.List.{All, flat_map, filter}
use Rattle.std.specs.Option.{ForSome}
use Rattle.std.proofs.lemmas.Bool.{cond_both}
use Rattle.std.proofs.lemmas.List.{length-map}
use Rattle.std.proofs.lemmas.List.Elements.{All-map, All-filter, All-nil, All-cons, All-weaker}
use Rattle.std.proofs.lemmas.List.FromFn.{length-range_with_len}
use Rattle.admit_core.specs.declared.tables.WishRow.{WishRow}
use Rattle.admit_core.specs.Ranges.{IsNumber, IsGroupRow, IsProgrammeRow, IsSchoolRow, IsRankRow, IsBoardRow, IsWishRow}
use Rattle.admit_core.specs.Ranges.{IsStateRow, IsCeilingRow, IsAnswerRow, AreRows, AreTables}
use Rattle.sample_gen.specs.declared.choices.Choice.{Choice}
use Rattle.sample_gen.specs.Choices.{numbers, programmes_of, school_of, choices_of, is_boarder, IsSmall}
use Rattle.sample_gen.specs.Samples.{group_row, programme_row, school_row, rank_in, rank_row, has_board_row, board_row}
use Rattle.sample_gen.specs.Samples.{preference_of, wish_row, wish_rows, sample_tables}
use Rattle.sample_gen.proofs.Pairs.{All-range, All-flat_map, length-flat_map-le}
use Rattle.sample_gen.proofs.ChoiceFacts.{IsChoice, are_choices, choices_length, small_choice, programme_from_one}
use Rattle.sample_gen.proofs.ChoiceFacts.{school_from_one}

pub All-wish : (P : WishRow → Type 0) (x : Choice) → P (wish_row x None)
    → (is_boarder x ≡ true → P (wish_row x (Some x.school))) → All P (wish_rows x)
All-wish P x alone boarding =
    let W = wish_row x (Some x.school) in
    let rest = λ (ys : List WishRow). All P ys in
    All-cons P (wish_row x None) _ alone
    (cond_both (is_boarder x) (W ∷ []) [] rest (λ e. All-cons P W [] (boarding e) (All-nil P)) (λ e. All-nil P))

wish_count : (x : Choice) → length (wish_rows x) ≤ 2
wish_count x =
    let W = wish_row x (Some x.school) in
    cond_both (is_boarder x) (W ∷ []) [] (λ (ys : List WishRow). suc (length ys) ≤ 2) (λ e. lit≤ tt) (λ e. lit≤ tt)

length-filter-le : {X : Type 0} (p : X → Bool) (xs : List X) → length (filter p xs) ≤ length xs
length-filter-le p [] = omega arith
length-filter-le {X} p (x ∷ xs) =
    let rest : length (filter p xs) ≤ length xs = length-filter-le p xs in
    cond_both (p x) (x ∷ filter p xs) (filter p xs) (λ (ys : List X). length ys ≤ suc (length xs)) (λ e. omega arith)
    (λ e. omega arith)

number : (i : ℕ) → 1 ≤ i → i ≤ 6000000 → IsNumber i
number i low high = record { from_one = low; at_most = omega arith }

rank_is_number : (multiplier candidate : ℕ) → IsNumber (rank_in multiplier candidate)
rank_is_number multiplier candidate = record { from_one = omega arith; at_most = omega arith }

group_fine : (i : ℕ) → 1 ≤ i → i ≤ 2001 → IsGroupRow (group_row i)
group_fine i low high = record {
  id = number i low (omega arith);
  scholar_pct = omega arith;
  resident_pct = omega arith;
}

programme_fine : (i : ℕ) → 1 ≤ i → i ≤ 2001 → IsProgrammeRow (programme_row i)
programme_fine i low high =
    record { id = number i low (omega arith); group = number i low (omega arith); seats = lit≤ tt; limit = lit≤ tt }

school_fine : (i : ℕ) → 1 ≤ i → i ≤ 2001 → IsSchoolRow (school_row i)
school_fine i low high = record { id = number i low (omega arith); beds = lit≤ tt; ceiling = lit≤ tt }

rank_fine : (x : Choice) → IsSmall x → 1 ≤ x.programme → IsRankRow (rank_row x)
rank_fine x small low =
    record {
      group = number x.programme low (omega arith);
      candidate = number x.candidate small.from_one (omega arith);
      rank = rank_is_number (1000001 + 2 * x.programme) x.candidate;
    }

board_fine : (x : Choice) → IsSmall x → 1 ≤ x.school → IsBoardRow (board_row x)
board_fine x small low =
    record {
      school = number x.school low (omega arith);
      candidate = number x.candidate small.from_one (omega arith);
      rank = rank_is_number (2000001 + 2 * x.school) x.candidate;
    }

module _ (x : Choice) (small : IsSmall x) (low : 1 ≤ x.programme) where
  preference_fine : (boards : Bool) → preference_of x boards ≤ 2000000000
  preference_fine boards = grind arith

  wish_fine : (school : Option ℕ) → ForSome school IsNumber → IsWishRow (wish_row x school)
  wish_fine None fine =
      record {
        id = number (6 * (x.candidate - 1) + 2 * x.place + 1) (omega arith) (omega arith);
        candidate = number x.candidate small.from_one (omega arith);
        programme = number x.programme low (omega arith);
        school = fine;
        preference = preference_fine false;
      }
  wish_fine (Some h) fine =
      record {
        id = number (6 * (x.candidate - 1) + 2 * x.place + 2) (omega arith) (omega arith);
        candidate = number x.candidate small.from_one (omega arith);
        programme = number x.programme low (omega arith);
        school = fine;
        preference = preference_fine true;
      }

no_school : ForSome None IsNumber
no_school h e = cc

a_school : (h : ℕ) → IsNumber h → ForSome (Some h) IsNumber
a_school h is k e = let same : h ≡ k = (cc) in subst IsNumber same is

items : {R : Type 0} (IsRow : R → Type 0) (row : ℕ → R) (k : ℕ) → ((i : ℕ) → 1 ≤ i → i ≤ 2001 → IsRow (row i))
    → k ≤ 2001 → AreRows IsRow (map row (numbers k))
items IsRow row k fine le =
    record {
      size = let e : length (map row (numbers k)) ≡ k = length-map (numbers k) row ∙ length-range_with_len 1 k in
          omega arith;
      each = All-map IsRow row (numbers k) (All-range (λ i. IsRow (row i)) 1 k
          (λ i lt. fine (1 + i) (omega arith) (omega arith)));
    }

no_rows : {R : Type 0} (IsRow : R → Type 0) → AreRows IsRow []
no_rows IsRow = record { size = lit≤ tt; each = All-nil IsRow }

module _ (n : ℕ) (high : n ≤ 1000000) where
  some_programmes : programmes_of n ≤ 2001
  some_programmes = omega arith

  some_schools : school_of (programmes_of n) ≤ 2001
  some_schools = omega arith

  of_choices : (P : Choice → Type 0) → ((x : Choice) → IsChoice n x → IsSmall x → P x) → All P (choices_of n)
  of_choices P gives = All-weaker (IsChoice n) P (λ x is. gives x is (small_choice n high x is)) (choices_of n)
      (are_choices n)

  rankings_fine : AreRows IsRankRow (map rank_row (choices_of n))
  rankings_fine =
      record {
        size = let e : length (map rank_row (choices_of n)) ≡ length (choices_of n) =
            length-map (choices_of n) rank_row in
            let le : length (choices_of n) ≤ 3 * n = choices_length n in omega arith;
        each = All-map IsRankRow rank_row (choices_of n)
            (of_choices (λ x. IsRankRow (rank_row x)) (λ x is small. rank_fine x small (programme_from_one n x is)));
      }

  boarding_fine : AreRows IsBoardRow (map board_row (filter (has_board_row (programmes_of n)) (choices_of n)))
  boarding_fine =
      let kept = filter (has_board_row (programmes_of n)) (choices_of n) in
      record {
        size = let e : length (map board_row kept) ≡ length kept = length-map kept board_row in
            let fewer : length kept ≤ length (choices_of n) =
            length-filter-le (has_board_row (programmes_of n)) (choices_of n) in
            let le : length (choices_of n) ≤ 3 * n = choices_length n in omega arith;
        each = All-map IsBoardRow board_row kept
            (All-filter (has_board_row (programmes_of n)) (λ x. IsBoardRow (board_row x)) (choices_of n)
            (of_choices (λ x. IsBoardRow (board_row x)) (λ x is small. board_fine x small (school_from_one n x is))));
      }

  own_wishes_fine : (x : Choice) → IsChoice n x → IsSmall x → All IsWishRow (wish_rows x)
  own_wishes_fine x is small =
      let low : 1 ≤ x.programme = programme_from_one n x is in
      All-wish IsWishRow x (wish_fine x small low None no_school)
      (λ boards. wish_fine x small low (Some x.school)
      (a_school x.school (number x.school (school_from_one n x is) (omega arith))))

  wishes_fine : AreRows IsWishRow (flat_map wish_rows (choices_of n))
  wishes_fine =
      record {
        size = let twice : length (flat_map wish_rows (choices_of n)) ≤ 2 * length (choices_of n) =
            length-flat_map-le wish_rows 2 (choices_of n)
            (of_choices (λ x. length (wish_rows x) ≤ 2) (λ x is small. wish_count x)) in
            let le : length (choices_of n) ≤ 3 * n = choices_length n in omega arith;
        each = All-flat_map IsWishRow wish_rows (choices_of n)
            (of_choices (λ x. All IsWishRow (wish_rows x)) own_wishes_fine);
      }

  pub sample_ranges : AreTables (sample_tables n)
  sample_ranges =
      record {
        groups = items IsGroupRow group_row (programmes_of n) group_fine some_programmes;
        programmes = items IsProgrammeRow programme_row (programmes_of n) programme_fine some_programmes;
        schools = items IsSchoolRow school_row (school_of (programmes_of n)) school_fine some_schools;
        rankings = rankings_fine;
        boarding = boarding_fine;
        wishes = wishes_fine;
        state = no_rows IsStateRow;
        ceilings = no_rows IsCeilingRow;
        answers = no_rows IsAnswerRow;
      }
