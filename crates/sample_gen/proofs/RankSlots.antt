-- The rankings and boarding ranks of a sample have no fault.
use Rattle.std.proofs.Common.{◌≡◌, ℕ, ◌+◌, ◌*◌, ◌<◌, ◌≤◌, true, false, not, ◌&&◌, nat_eq, None, map, filter, get_or}
use Rattle.std.proofs.Common.{sym, ◌∙◌, ap, subst, arith, true≢false}
use Rattle.std.specs.List.{All, AllPairs, list_all, range_with_len}
use Rattle.std.proofs.lemmas.Bool.{eq-eqb, eqb-true, and_parts, false_from_ne_true, not_from_true}
use Rattle.std.proofs.lemmas.List.Elements.{All-map, All-weaker, All-filter, filter_passes}
use Rattle.std.proofs.lemmas.List.Kept.{AllPairs-filter}
use Rattle.std.proofs.lemmas.List.Folds.{list_all_at}
use Rattle.std.proofs.lemmas.List.FromFn.{length-range_with_len, get_or-range_with_len}
use Rattle.admit_core.proofs.NoFaults.{no_tests, and_then, none_in, differ, all_known}
use Rattle.admit_core.specs.declared.slot.Slot.TheVariants as slots
use Rattle.admit_core.specs.declared.refusal.Reason.TheVariants.{Repeat, RankTaken, Unknown}
use Rattle.admit_core.specs.Lists.{is_among}
use Rattle.admit_core.specs.Faults.{first_in}
use Rattle.admit_core.specs.Relations.{group_ids, school_ids, ranking_tests, boarding_tests}
use Rattle.sample_gen.specs.declared.choices.Choice.{Choice}
use Rattle.sample_gen.specs.Choices.{programmes_of, school_of, chosen, choices_of, is_boarder, is_first_at_school}
use Rattle.sample_gen.specs.Samples.{rank_in, rank_row, board_row, has_board_row, sample_tables}
use Rattle.sample_gen.proofs.Pairs.{AllPairs-map, AllPairs-from}
use Rattle.sample_gen.proofs.Ranks.{same_candidate}
use Rattle.sample_gen.proofs.ChoiceFacts.{IsChoice, Precedes, are_choices, choices_precede, other_programme}
use Rattle.sample_gen.proofs.ChoiceFacts.{programme_from_one, programme_at_most, school_from_one, school_at_most}
use Rattle.sample_gen.proofs.ItemSlots.{group_known, school_known}

pub not_both : (a b c d : ℕ) → (a ≡ b → c ≡ d → ⊥) → (nat_eq a b && nat_eq c d) ≡ false
not_both a b c d never =
    false_from_ne_true (nat_eq a b && nat_eq c d)
    (λ t. let p = and_parts (nat_eq a b) (nat_eq c d) t in never (eqb-true a b p.0) (eqb-true c d p.1))

odd_in_list : (h p : ℕ) → 2 * h + 1 + 2 * p ≡ 2 * (h + p) + 1
odd_in_list h p = omega arith

-- ranks of one list tell the candidate
same_in_list : (h p q c d : ℕ) → c ≤ 1000000 → d ≤ 1000000 → q ≡ p
    → rank_in (2 * h + 1 + 2 * q) d ≡ rank_in (2 * h + 1 + 2 * p) c → d ≡ c
same_in_list h p q c d c_le d_le one same =
    same_candidate (h + p) d c d_le c_le
    (ap (λ m. rank_in m d) (sym (odd_in_list h p) ∙ ap (λ i. 2 * h + 1 + 2 * i) (sym one)) ∙ same
    ∙ ap (λ m. rank_in m c) (odd_in_list h p))

module _ (n : ℕ) (high : n ≤ 1000000) where
  small : (x : Choice) → IsChoice n x → x.candidate ≤ 1000000
  small x is = let le : x.candidate ≤ n = is.at_most in omega arith

  ranks_once : AllPairs (λ r row. (nat_eq row.group r.group && nat_eq row.candidate r.candidate) ≡ false)
      (map rank_row (choices_of n))
  ranks_once =
      AllPairs-map (λ r row. (nat_eq row.group r.group && nat_eq row.candidate r.candidate) ≡ false) rank_row
      (choices_of n)
      (AllPairs-from (IsChoice n) Precedes (λ x y. (nat_eq y.programme x.programme && nat_eq y.candidate x.candidate)
      ≡ false) (choices_of n)
      (λ x y is_x is_y before. not_both y.programme x.programme y.candidate x.candidate
      (λ one same. other_programme n x y is_x is_y before same one))
      (are_choices n) (choices_precede n))

  ranks_differ : AllPairs (λ r row. (nat_eq row.group r.group && nat_eq row.rank r.rank) ≡ false)
      (map rank_row (choices_of n))
  ranks_differ =
      AllPairs-map (λ r row. (nat_eq row.group r.group && nat_eq row.rank r.rank) ≡ false) rank_row (choices_of n)
      (AllPairs-from (IsChoice n) Precedes
      (λ x y. (nat_eq y.programme x.programme && nat_eq (rank_row y).rank (rank_row x).rank) ≡ false) (choices_of n)
      (λ x y is_x is_y before. not_both y.programme x.programme (rank_row y).rank (rank_row x).rank
      (λ one same. other_programme n x y is_x is_y before
      (same_in_list 500000 x.programme y.programme x.candidate y.candidate (small x is_x) (small y is_y) one same) one))
      (are_choices n) (choices_precede n))

  pub rankings_fine : first_in slots.Rankings (ranking_tests (sample_tables n)) (sample_tables n).rankings ≡ None
  rankings_fine =
      let rows = map rank_row (choices_of n) in
      none_in slots.Rankings (ranking_tests (sample_tables n)) rows
      (and_then (differ (λ row r. nat_eq row.group r.group && nat_eq row.candidate r.candidate) Repeat rows ranks_once)
      (and_then (all_known (λ row. is_among row.group (group_ids (sample_tables n))) (Unknown 1) rows
      (All-map (λ row. is_among row.group (group_ids (sample_tables n)) ≡ true) rank_row (choices_of n)
      (All-weaker (IsChoice n) (λ x. is_among x.programme (group_ids (sample_tables n)) ≡ true)
      (λ x is. group_known n x.programme (programme_from_one n x is) (programme_at_most n x is)) (choices_of n)
      (are_choices n))))
      (and_then (differ (λ row r. nat_eq row.group r.group && nat_eq row.rank r.rank) RankTaken rows ranks_differ)
      no_tests)))

-- a choice at which its candidate has a rank in the school
record HasBoardRow (n : ℕ) (x : Choice) : Type 0 where
  pub is : IsChoice n x
  pub has : has_board_row (programmes_of n) x ≡ true

-- which no other choice of the candidate has
other_school : (n : ℕ) (x y : Choice) → IsChoice n x → HasBoardRow n y → Precedes x y → y.candidate ≡ x.candidate
    → y.school ≡ x.school → ⊥
other_school n x y is_x has_y before same school =
    let test = λ (place : ℕ). not (nat_eq (school_of (chosen (programmes_of n) y.candidate place)) y.school) in
    let earlier : x.place < y.place = omega arith in
    let new : list_all test (range_with_len 0 y.place) ≡ true =
    (and_parts (is_boarder y) (is_first_at_school (programmes_of n) y) has_y.has).1 in
    let at : get_or (range_with_len 0 y.place) x.place 0 ≡ x.place =
    get_or-range_with_len 0 y.place x.place 0 earlier ∙ (let e : 0 + x.place ≡ x.place = omega arith in e) in
    let there : school_of (chosen (programmes_of n) y.candidate x.place) ≡ y.school =
    ap (λ c. school_of (chosen (programmes_of n) c x.place)) same ∙ sym is_x.school ∙ sym school in
    let fails : test x.place ≡ false = not_from_true (nat_eq (school_of (chosen (programmes_of n) y.candidate x.place))
    y.school)
    (eq-eqb (school_of (chosen (programmes_of n) y.candidate x.place)) y.school there) in
    true≢false (sym new
    ∙ list_all_at test (range_with_len 0 y.place) x.place 0
    (subst (λ k. x.place < k) (sym (length-range_with_len 0 y.place)) earlier)
    (subst (λ i. test i ≡ false) (sym at) fails))

module _ (n : ℕ) (high : n ≤ 1000000) where
  have_rows : All (HasBoardRow n) (filter (has_board_row (programmes_of n)) (choices_of n))
  have_rows k d lt =
      record {
        is = All-filter (has_board_row (programmes_of n)) (IsChoice n) (choices_of n) (are_choices n) k d lt;
        has = filter_passes (has_board_row (programmes_of n)) (choices_of n) k d lt;
      }

  kept_precede : AllPairs Precedes (filter (has_board_row (programmes_of n)) (choices_of n))
  kept_precede = AllPairs-filter Precedes (has_board_row (programmes_of n)) (choices_of n) (choices_precede n)

  boards_once : AllPairs (λ r row. (nat_eq row.school r.school && nat_eq row.candidate r.candidate) ≡ false)
      (map board_row (filter (has_board_row (programmes_of n)) (choices_of n)))
  boards_once =
      AllPairs-map (λ r row. (nat_eq row.school r.school && nat_eq row.candidate r.candidate) ≡ false) board_row
      (filter (has_board_row (programmes_of n)) (choices_of n))
      (AllPairs-from (HasBoardRow n) Precedes (λ x y. (nat_eq y.school x.school && nat_eq y.candidate x.candidate)
      ≡ false)
      (filter (has_board_row (programmes_of n)) (choices_of n))
      (λ x y has_x has_y before. not_both y.school x.school y.candidate x.candidate
      (λ one same. other_school n x y has_x.is has_y before same one))
      have_rows kept_precede)

  boards_differ : AllPairs (λ r row. (nat_eq row.school r.school && nat_eq row.rank r.rank) ≡ false)
      (map board_row (filter (has_board_row (programmes_of n)) (choices_of n)))
  boards_differ =
      AllPairs-map (λ r row. (nat_eq row.school r.school && nat_eq row.rank r.rank) ≡ false) board_row
      (filter (has_board_row (programmes_of n)) (choices_of n))
      (AllPairs-from (HasBoardRow n) Precedes
      (λ x y. (nat_eq y.school x.school && nat_eq (board_row y).rank (board_row x).rank) ≡ false)
      (filter (has_board_row (programmes_of n)) (choices_of n))
      (λ x y has_x has_y before. not_both y.school x.school (board_row y).rank (board_row x).rank
      (λ one same. other_school n x y has_x.is has_y before
      (same_in_list 1000000 x.school y.school x.candidate y.candidate (small n high x has_x.is)
      (small n high y has_y.is) one same) one))
      have_rows kept_precede)

  pub boarding_fine : first_in slots.Boarding (boarding_tests (sample_tables n)) (sample_tables n).boarding ≡ None
  boarding_fine =
      let rows = map board_row (filter (has_board_row (programmes_of n)) (choices_of n)) in
      none_in slots.Boarding (boarding_tests (sample_tables n)) rows
      (and_then (differ (λ row r. nat_eq row.school r.school && nat_eq row.candidate r.candidate) Repeat rows
      boards_once)
      (and_then (all_known (λ row. is_among row.school (school_ids (sample_tables n))) (Unknown 1) rows
      (All-map (λ row. is_among row.school (school_ids (sample_tables n)) ≡ true) board_row
      (filter (has_board_row (programmes_of n)) (choices_of n))
      (All-weaker (HasBoardRow n) (λ x. is_among x.school (school_ids (sample_tables n)) ≡ true)
      (λ x has. school_known n x.school (school_from_one n x has.is) (school_at_most n x has.is))
      (filter (has_board_row (programmes_of n)) (choices_of n)) have_rows)))
      (and_then (differ (λ row r. nat_eq row.school r.school && nat_eq row.rank r.rank) RankTaken rows boards_differ)
      no_tests)))
