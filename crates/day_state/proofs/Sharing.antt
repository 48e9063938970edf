-- Which bundles have two wishes or more, and their numbers.
use Rattle.std.proofs.Common.{ℕ, ◌+◌, ◌-◌, ◌≤◌, ◌<◌, ◌≡◌, Bool, true, false, cond, List}
use Rattle.std.proofs.Common.{length, get_or, take, inl, inr, refl, sym, ◌∙◌, arith, Option}
use Rattle.std.proofs.Common.{Some, None, zero, suc}
use Rattle.std.specs.Prelude.{slice_index}
use Rattle.std.specs.List.{range_with_len}
use Rattle.std.proofs.lemmas.Bool.{cases_Bool, cases_eq, cases_lt, eq-eqb, ne_eqb, false≢true}
use Rattle.std.proofs.lemmas.List.{length-take-le}
use Rattle.std.proofs.lemmas.List.Filters.{length-filter_more}
use Rattle.std.proofs.lemmas.List.Sums.{length-filter, count_by-le-length}
use Rattle.std.proofs.lemmas.List.Folds.{list_any_at}
use Rattle.std.proofs.lemmas.List.FromFn.{length-range_with_len, length-map-range_with_len, get_or-map-range_with_len}
use Rattle.day_state.specs.Bundles.{number_in, is_later, is_shared, shared_flags, true_before}
use Rattle.day_state.specs.Bundles.{rank_of, number_of, count_of}
use Rattle.day_state.proofs.Numbering.{range_at}

-- a bundle that is not shared has no other wish than its first
pub alone_first : (bundles : List (Option ℕ)) (b k : ℕ) → is_shared bundles b ≡ false → k < length bundles
    → number_in bundles k ≡ Some b → k ≡ b
alone_first bundles b k none lt is =
    elim (cases_eq k b) [
      | inl same ↦ same
      | inr other ↦
          let n = length bundles in
          let later : is_later bundles b (slice_index (range_with_len 0 n) k) ≡ true =
          rw (range_at n k 0 lt, ne_eqb k b other, is) (eq-eqb b b refl) in
          absurd (false≢true (sym none ∙ list_any_at (is_later bundles b) (range_with_len 0 n) k 0
          (omega (arith, lt, length-range_with_len 0 n)) later))
    ]

pub flags_long : (bundles : List (Option ℕ)) → length (shared_flags bundles) ≡ length bundles
flags_long bundles = length-map-range_with_len (is_shared bundles) 0 (length bundles)

pub flag_is : (bundles : List (Option ℕ)) (b : ℕ) → b < length bundles
    → get_or (shared_flags bundles) b false ≡ is_shared bundles b
flag_is bundles b lt = get_or-map-range_with_len (is_shared bundles) 0 (length bundles) b b false lt (omega arith)

pub true_more : (flags : List Bool) (i : ℕ) (d : Bool) → i < length flags
    → true_before flags (i + 1) ≡ true_before flags i + cond (get_or flags i d) 1 0
true_more flags i d lt = length-filter_more (λ b. b) flags i d lt

pub true_most : (flags : List Bool) (k : ℕ) → k ≤ length flags → true_before flags k ≤ k
true_most flags k le =
    omega (
      arith,
      length-filter (λ (b : Bool). b) (take k flags),
      count_by-le-length (λ (b : Bool). b) (take k flags),
      length-take-le k flags le,
    )

true_rises : (flags : List Bool) (k d : ℕ) → k + d ≤ length flags → true_before flags k ≤ true_before flags (k + d)
true_rises flags k zero le = let e : k + 0 ≡ k = omega arith in rw e (omega arith)
true_rises flags k (suc d) le =
    let e : k + suc d ≡ (k + d) + 1 = omega arith in
    rw e (omega (arith, true_more flags (k + d) false (omega arith), true_rises flags k d (omega arith)))

-- the numbers rise
rank_below : (bundles : List (Option ℕ)) (b c : ℕ) → is_shared bundles b ≡ true → b < c → c ≤ length bundles
    → rank_of bundles b < rank_of bundles c
rank_below bundles b c shared lt le =
    let flags = shared_flags bundles in
    let long = flags_long bundles in
    let more : true_before flags (b + 1) ≡ true_before flags b + 1 = true_more flags b false (omega arith)
    ∙ rw (flag_is bundles b (omega arith), shared) refl in
    let e : (b + 1) + (c - (b + 1)) ≡ c = omega arith in
    let rises : true_before flags (b + 1) ≤ true_before flags c =
    rw e at (true_rises flags (b + 1) (c - (b + 1)) (omega arith)) in
    omega (arith, more, rises)

pub rank_within : (bundles : List (Option ℕ)) (b : ℕ) → is_shared bundles b ≡ true → b < length bundles
    → rank_of bundles b < rank_of bundles (length bundles)
rank_within bundles b shared lt = rank_below bundles b (length bundles) shared lt (omega arith)

-- two bundles have two numbers
pub rank_apart : (bundles : List (Option ℕ)) (b c : ℕ) → is_shared bundles b ≡ true → is_shared bundles c ≡ true
    → b < length bundles → c < length bundles
    → (b ≡ c → ⊥) → rank_of bundles b ≡ rank_of bundles c → ⊥
rank_apart bundles b c b_shared c_shared b_lt c_lt other same =
    elim (cases_lt b c) [
      | inl below ↦ omega (arith, same, rank_below bundles b c b_shared below (omega arith))
      | inr above ↦
          elim (cases_eq b c) [
            | inl equal ↦ other equal
            | inr differ ↦ omega (arith, same, rank_below bundles c b c_shared (omega arith) (omega arith))
          ]
    ]

-- a bundle's number is that of one of two wishes or more
pub count_parts : (bundles : List (Option ℕ)) (o : Option ℕ) (n : ℕ) → count_of (number_of bundles o) ≡ Some n
    → (b : ℕ) × (o ≡ Some b) × (is_shared bundles b ≡ true) × (rank_of bundles b ≡ n)
count_parts bundles None n e = absurd (cc)
count_parts bundles (Some b) n e =
    elim (cases_Bool (is_shared bundles b)) [
      | inl shared ↦ (b, refl, shared, let is : Some (rank_of bundles b) ≡ Some n = rw shared at e in (cc))
      | inr alone ↦ absurd (let none = rw alone at e in cc)
    ]
