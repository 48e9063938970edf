-- What holds of the choices of a sample, and of two of them.
use Rattle.std.proofs.Common.{◌≡◌, ℕ, ◌+◌, ◌*◌, ◌%◌, ◌<◌, ◌≤◌, length, min, refl, sym, ◌∙◌, ap, subst, arith}
use Rattle.std.specs.List.{All, AllPairs, range_with_len}
use Rattle.std.proofs.lemmas.List.{length-map}
use Rattle.std.proofs.lemmas.List.Elements.{All-map, All-weaker}
use Rattle.std.proofs.lemmas.List.FromFn.{length-range_with_len}
use Rattle.std.proofs.Math.Nat.{mod-lt}
use Rattle.sample_gen.specs.declared.choices.Choice.{Choice}
use Rattle.sample_gen.specs.Choices.{numbers, programmes_of, school_of, chosen, choice_at, own_choices, choices_of}
use Rattle.sample_gen.specs.Choices.{IsSmall}
use Rattle.sample_gen.proofs.Pairs.{All-range, All-flat_map, AllPairs-map, AllPairs-range, AllPairs-flat_map}
use Rattle.sample_gen.proofs.Pairs.{length-flat_map-le}
use Rattle.sample_gen.proofs.Ranks.{same_place}

pub record IsChoice (n : ℕ) (x : Choice) : Type 0 where
  pub from_one : 1 ≤ x.candidate
  pub at_most : x.candidate ≤ n
  pub place : x.place < 3
  pub within : x.place < programmes_of n
  pub programme : x.programme ≡ chosen (programmes_of n) x.candidate x.place
  pub school : x.school ≡ school_of (chosen (programmes_of n) x.candidate x.place)

-- one choice stands before the other
abbrev pub Precedes : Choice → Choice → Type 0
Precedes x y = 3 * x.candidate + x.place < 3 * y.candidate + y.place

module _ (n : ℕ) where
  is_choice : (k j : ℕ) → k < n → 0 + j < min (programmes_of n) 3
      → IsChoice n (choice_at (programmes_of n) (1 + k) (0 + j))
  is_choice k j k_lt j_lt =
      record {
        from_one = omega arith;
        at_most = omega arith;
        place = omega arith;
        within = omega arith;
        programme = refl;
        school = refl;
      }

  own_are_choices : (k : ℕ) → k < n → All (IsChoice n) (own_choices (programmes_of n) (1 + k))
  own_are_choices k k_lt =
      All-map (IsChoice n) (choice_at (programmes_of n) (1 + k)) (range_with_len 0 (min (programmes_of n) 3))
      (All-range (λ j. IsChoice n (choice_at (programmes_of n) (1 + k) j)) 0 (min (programmes_of n) 3)
      (λ j lt. is_choice k j k_lt (omega arith)))

  pub are_choices : All (IsChoice n) (choices_of n)
  are_choices =
      All-flat_map (IsChoice n) (own_choices (programmes_of n)) (numbers n)
      (All-range (λ c. All (IsChoice n) (own_choices (programmes_of n) c)) 1 n (λ k lt. own_are_choices k lt))

  own_precede : (c : ℕ) → AllPairs Precedes (own_choices (programmes_of n) c)
  own_precede c =
      AllPairs-map Precedes (choice_at (programmes_of n) c) (range_with_len 0 (min (programmes_of n) 3))
      (AllPairs-range (λ i j. 3 * c + i < 3 * c + j) 0 (min (programmes_of n) 3) (λ i j lt within. omega arith))

  before_all : (c d i : ℕ) → c < d → i < min (programmes_of n) 3
      → All (λ j. 3 * c + (0 + i) < 3 * d + j) (range_with_len 0 (min (programmes_of n) 3))
  before_all c d i lt i_lt = All-range (λ j. 3 * c + (0 + i) < 3 * d + j) 0 (min (programmes_of n) 3)
      (λ j j_lt. omega arith)

  across : (c d : ℕ) → c < d → All (λ x. All (Precedes x) (own_choices (programmes_of n) d))
      (own_choices (programmes_of n) c)
  across c d lt =
      All-map (λ x. All (Precedes x) (own_choices (programmes_of n) d)) (choice_at (programmes_of n) c)
      (range_with_len 0 (min (programmes_of n) 3))
      (All-range (λ i. All (Precedes (choice_at (programmes_of n) c i)) (own_choices (programmes_of n) d)) 0
      (min (programmes_of n) 3)
      (λ i i_lt. All-map (Precedes (choice_at (programmes_of n) c (0 + i))) (choice_at (programmes_of n) d)
      (range_with_len 0 (min (programmes_of n) 3))
      (before_all c d i lt i_lt)))

  pub choices_precede : AllPairs Precedes (choices_of n)
  choices_precede =
      AllPairs-flat_map Precedes (own_choices (programmes_of n)) (numbers n)
      (All-range (λ c. AllPairs Precedes (own_choices (programmes_of n) c)) 1 n (λ k lt. own_precede (1 + k)))
      (AllPairs-range (λ c d. All (λ x. All (Precedes x) (own_choices (programmes_of n) d))
      (own_choices (programmes_of n) c)) 1 n
      (λ i j lt within. across (1 + i) (1 + j) (omega arith)))

  own_length : (c : ℕ) → length (own_choices (programmes_of n) c) ≤ 3
  own_length c =
      let is : length (own_choices (programmes_of n) c) ≡ min (programmes_of n) 3 =
      length-map (range_with_len 0 (min (programmes_of n) 3)) (choice_at (programmes_of n) c)
      ∙ length-range_with_len 0 (min (programmes_of n) 3) in
      omega arith

  pub choices_length : length (choices_of n) ≤ 3 * n
  choices_length =
      let le : length (choices_of n) ≤ 3 * length (numbers n) =
      length-flat_map-le (own_choices (programmes_of n)) 3 (numbers n)
      (All-range (λ c. length (own_choices (programmes_of n) c) ≤ 3) 1 n (λ k lt. own_length (1 + k))) in
      subst (λ k. length (choices_of n) ≤ 3 * k) (length-range_with_len 1 n) le

-- a choice's programme and school are there
module _ (n : ℕ) (x : Choice) (is : IsChoice n x) where
  programme_lt : (x.candidate + x.place) % programmes_of n < programmes_of n
  programme_lt = mod-lt (x.candidate + x.place) (omega arith)

  pub programme_from_one : 1 ≤ x.programme
  programme_from_one = rw is.programme (omega arith)

  pub programme_at_most : x.programme ≤ programmes_of n
  programme_at_most = let lt : (x.candidate + x.place) % programmes_of n < programmes_of n = programme_lt in
      rw is.programme (omega arith)

  pub school_is : x.school ≡ school_of x.programme
  school_is = is.school ∙ ap school_of (sym is.programme)

  pub school_from_one : 1 ≤ x.school
  school_from_one = rw school_is (omega arith)

  pub school_at_most : x.school ≤ school_of (programmes_of n)
  school_at_most = let le : x.programme ≤ programmes_of n = programme_at_most in rw school_is (omega arith)

count_small : (n : ℕ) → n ≤ 1000000 → programmes_of n ≤ 2001
count_small n le = omega arith

schools_small : (m : ℕ) → m ≤ 2001 → school_of m ≤ 1001
schools_small m le = omega arith

pub small_choice : (n : ℕ) → n ≤ 1000000 → (x : Choice) → IsChoice n x → IsSmall x
small_choice n n_le x is =
    let programmes : programmes_of n ≤ 2001 = count_small n n_le in
    let programme : x.programme ≤ programmes_of n = programme_at_most n x is in
    let schools : school_of (programmes_of n) ≤ 1001 = schools_small (programmes_of n) programmes in
    let school : x.school ≤ school_of (programmes_of n) = school_at_most n x is in
    record {
      from_one = is.from_one;
      candidate = let le : x.candidate ≤ n = is.at_most in omega arith;
      place = is.place;
      programme = omega arith;
      school = omega arith;
    }

pub small_choices : (n : ℕ) → n ≤ 1000000 → All IsSmall (choices_of n)
small_choices n le = All-weaker (IsChoice n) IsSmall (small_choice n le) (choices_of n) (are_choices n)

-- two choices of a candidate are of different programmes
pub other_programme : (n : ℕ) (x y : Choice) → IsChoice n x → IsChoice n y → Precedes x y → y.candidate ≡ x.candidate
    → y.programme ≡ x.programme → ⊥
other_programme n x y is_x is_y before same programme =
    let rest : (x.candidate + x.place) % programmes_of n ≡ (x.candidate + y.place) % programmes_of n =
    remainders (is_y.programme ∙ ap (λ c. chosen (programmes_of n) c y.place) same) in
    let place : x.place ≡ y.place = same_place (programmes_of n) x.candidate x.place y.place is_x.within is_y.within
    rest in
    omega arith
  where
    remainders : y.programme ≡ chosen (programmes_of n) x.candidate y.place
        → (x.candidate + x.place) % programmes_of n ≡ (x.candidate + y.place) % programmes_of n
    remainders e = let both : chosen (programmes_of n) x.candidate x.place
        ≡ chosen (programmes_of n) x.candidate y.place = sym is_x.programme ∙ sym programme ∙ e in omega arith
