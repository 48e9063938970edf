-- The wishes of each bundle, by its number: those of the entries that have it.
use Rattle.std.proofs.Common.{ℕ, ◌+◌, ◌-◌, ◌≤◌, ◌<◌, ◌≡◌, Bool, true, ◌&&◌, List, [], length}
use Rattle.std.proofs.Common.{get_or, take, drop, inl, inr, refl, sym, ◌∙◌, ap, arith, map, subst, nat_eq}
use Rattle.std.specs.Prelude.{slice_range, ◌==◌}
use Rattle.std.specs.Cmp.{both_ways}
use Rattle.std.specs.List.{list_any}
use Rattle.std.specs.List.Sorted.{IsNonDecreasingBy, IsPermutation}
use Rattle.std.proofs.lemmas.Bool.{and_parts, cases_lt, eqb-true, eq-eqb}
use Rattle.std.proofs.lemmas.List.{get_or-take, get_or-drop, length-take-le, length-drop, get_or-map, length-map}
use Rattle.std.proofs.lemmas.List.{get_or_default, get_or_past}
use Rattle.std.proofs.lemmas.List.FromFn.{get_or-map-range_with_len, length-map-range_with_len}
use Rattle.std.proofs.lemmas.List.Folds.{Any-from_list_any, list_any_at}
use Rattle.std.proofs.lemmas.List.Sorted.{list_any-IsPermutation}
use Rattle.admit_core.specs.Lists.{is_among}
use Rattle.day_state.specs.declared.numbers.BundleNumber.{BundleNumber}
use Rattle.day_state.specs.declared.numbers.BundleNumber.TheVariants.{NoSite, Alone, Shared}
use Rattle.day_state.specs.declared.numbers.SharedWish.{SharedWish}
use Rattle.day_state.specs.Bundles.{AreEntriesOf, number_at}
use Rattle.day_state.specs.Members.{begin_in, members_at, members_by, members_in, has_number, AreBegins, AreMembers}
use Rattle.day_state.specs.Members.{BeginsRise}

-- where none is
abbrev pub no_entry : SharedWish
no_entry = record { wish = 0; number = 0 }

-- the places where the wishes of each number begin, as far as the first i entries tell them
pub record AreBeginsTo (entries : List SharedWish) (begins : List ℕ) (i : ℕ) : Type 0 where
  pub within : (n : ℕ) → n < length begins → get_or begins n 0 ≤ i
  pub before : (n j : ℕ) (d : SharedWish) → n < length begins → j < get_or begins n 0 → (get_or entries j d).number < n
  pub behind : (n j : ℕ) (d : SharedWish) → n < length begins → get_or begins n 0 ≤ j → j < length entries
      → n ≤ (get_or entries j d).number
  pub begun : (j : ℕ) (d : SharedWish) → j < i → (get_or entries j d).number < length begins

pub begins_none : (entries : List SharedWish) (begins : List ℕ) → begins ≡ [] → AreBeginsTo entries begins 0
begins_none entries begins none = rw none (record {
  within = λ n lt. absurd (omega arith);
  before = λ n j d lt j_lt. absurd (omega arith);
  behind = λ n j d lt le j_lt. absurd (omega arith);
  begun = λ j d lt. absurd (omega arith);
})

module _ (entries : List SharedWish) (rises : IsNonDecreasingBy (λ (e : SharedWish). e.number) entries)
    (begins : List ℕ) (i : ℕ) (lt : i < length entries) (so_far : AreBeginsTo entries begins i) where
  pub begins_more : (new : List ℕ) (d : SharedWish)
      → length begins < (get_or entries i d).number + 1 → length new ≡ (get_or entries i d).number + 1
      → ((k x : ℕ) → k < (get_or entries i d).number + 1 → k < length begins → get_or new k x ≡ get_or begins k x)
      → ((k x : ℕ) → length begins ≤ k → k < (get_or entries i d).number + 1 → get_or new k x ≡ i)
      → AreBeginsTo entries new (i + 1)
  begins_more new d few long old made =
      let top = (get_or entries i d).number in
      record {
        within = λ n n_lt. elim (cases_lt n (length begins)) [
          | inl is_old ↦ omega (arith, old n 0 (omega (arith, n_lt, long)) is_old, so_far.within n is_old)
          | inr is_new ↦ omega (arith, made n 0 is_new (omega (arith, n_lt, long)))
        ];
        before = λ n j x n_lt j_lt. elim (cases_lt n (length begins)) [
          | inl is_old ↦
              so_far.before n j x is_old (omega (arith, j_lt, old n 0 (omega (arith, n_lt, long)) is_old))
          | inr is_new ↦
              omega (arith, is_new, so_far.begun j x (omega (arith, j_lt, made n 0 is_new (omega (arith, n_lt, long)))))
        ];
        behind = λ n j x n_lt le j_lt. elim (cases_lt n (length begins)) [
          | inl is_old ↦
              so_far.behind n j x is_old (omega (arith, le, old n 0 (omega (arith, n_lt, long)) is_old)) j_lt
          | inr is_new ↦
              let from : i ≤ j = omega (arith, le, made n 0 is_new (omega (arith, n_lt, long))) in
              let same : (get_or entries i x).number ≡ top =
              ap (λ (e : SharedWish). e.number) (get_or_default entries i x d lt) in
              omega (arith, rises i j x from j_lt, same, n_lt, long)
        ];
        begun = λ j x j_lt. elim (cases_lt j i) [
          | inl earlier ↦ omega (arith, so_far.begun j x earlier, few, long)
          | inr here ↦
              let is : j ≡ i = omega (arith, j_lt, here) in
              let same : (get_or entries j x).number ≡ top =
              ap (λ (k : ℕ). (get_or entries k x).number) is
              ∙ ap (λ (e : SharedWish). e.number) (get_or_default entries i x d lt) in
              omega (arith, same, long)
        ];
      }

  pub begins_same : (d : SharedWish) → (get_or entries i d).number + 1 ≤ length begins
      → AreBeginsTo entries begins (i + 1)
  begins_same d enough = record {
    within = λ n n_lt. omega (arith, so_far.within n n_lt);
    before = so_far.before;
    behind = so_far.behind;
    begun = λ j x j_lt. elim (cases_lt j i) [
      | inl earlier ↦ so_far.begun j x earlier
      | inr here ↦
          let is : j ≡ i = omega (arith, j_lt, here) in
          let same : (get_or entries j x).number ≡ (get_or entries i d).number =
          ap (λ (k : ℕ). (get_or entries k x).number) is
          ∙ ap (λ (e : SharedWish). e.number) (get_or_default entries i x d lt) in
          omega (arith, same, enough)
    ];
  }

pub begins_all : (entries : List SharedWish) (begins : List ℕ) (i : ℕ) → length entries ≤ i → i ≤ length entries
    → AreBeginsTo entries begins i → AreBegins entries begins
begins_all entries begins i le most so_far =
    let count = length entries in
    let read : (n : ℕ) → n < length begins → begin_in count begins n ≡ get_or begins n 0 =
    λ n n_lt. get_or_default begins n count 0 n_lt in
    let past : (n : ℕ) → length begins ≤ n → begin_in count begins n ≡ count =
    λ n n_le. get_or_past begins n count n_le in
    record {
      within = λ n. elim (cases_lt n (length begins)) [
        | inl there ↦ omega (arith, read n there, so_far.within n there, most)
        | inr none ↦ omega (arith, past n none)
      ];
      before = λ n j d j_lt. elim (cases_lt n (length begins)) [
        | inl there ↦ so_far.before n j d there (omega (arith, j_lt, read n there))
        | inr none ↦ omega (arith, none, so_far.begun j d (omega (arith, j_lt, past n none, le)))
      ];
      behind = λ n j d j_le j_lt. elim (cases_lt n (length begins)) [
        | inl there ↦ so_far.behind n j d there (omega (arith, j_le, read n there)) j_lt
        | inr none ↦ absurd (omega (arith, j_le, j_lt, past n none))
      ];
    }

pub begins_rise : (entries : List SharedWish) (begins : List ℕ) → AreBegins entries begins
    → BeginsRise (length entries) begins
begins_rise entries begins are = record {
  rise = λ n.
      let from = begin_in (length entries) begins n in
      let to = begin_in (length entries) begins (n + 1) in
      elim (cases_lt to from) [
        | inl falls ↦
            let less = are.before n to no_entry falls in
            let more = are.behind (n + 1) to no_entry (omega arith) (omega (arith, falls, are.within n)) in
            absurd (omega (arith, less, more))
        | inr rises ↦ rises
      ];
  within = are.within;
}

-- the wishes of a number, read from the list of all
pub members_read : (wishes begins : List ℕ) (n : ℕ)
    → members_at (members_by wishes begins) n ≡ members_in wishes begins n
members_read wishes begins n = elim (cases_lt n (length begins)) [
  | inl there ↦ get_or-map-range_with_len (members_in wishes begins) 0 (length begins) n n [] there (omega arith)
  | inr past ↦
      let count = length wishes in
      let from : begin_in count begins n ≡ count = get_or_past begins n count past in
      let to : begin_in count begins (n + 1) ≡ count = get_or_past begins (n + 1) count (omega (arith, past)) in
      let none : count - count ≡ 0 = omega arith in
      get_or_past (members_by wishes begins) n []
      (omega (arith, past, length-map-range_with_len (members_in wishes begins) 0 (length begins)))
      ∙ ap (λ m. take m (drop count wishes)) (sym none)
      ∙ (λ i. slice_range wishes (sym from i) (sym to i))
]

-- a part of a list, read at a place
part_read : (xs : List ℕ) (from to j : ℕ) → j < to - from → get_or (slice_range xs from to) j 0 ≡ get_or xs (from + j) 0
part_read xs from to j lt = get_or-take (to - from) (drop from xs) j 0 lt ∙ get_or-drop from xs j 0

part_long : (xs : List ℕ) (from to : ℕ) → from ≤ to → to ≤ length xs → length (slice_range xs from to) ≡ to - from
part_long xs from to rises within =
    length-take-le (to - from) (drop from xs) (omega (arith, length-drop from xs, rises, within))

-- entries by number, where the wishes of each begin, and the wishes
module _ (sorted : List SharedWish) (wishes begins : List ℕ) (are : AreBegins sorted begins)
    (wishes_are : wishes ≡ map (λ (e : SharedWish). e.wish) sorted) (n k : ℕ) where
  abbrev from : ℕ
  from = begin_in (length sorted) begins n

  abbrev to : ℕ
  to = begin_in (length sorted) begins (n + 1)

  abbrev test : SharedWish → Bool
  test e = (e.wish == k) && (e.number == n)

  long : length wishes ≡ length sorted
  long = ap (λ (xs : List ℕ). length xs) wishes_are ∙ length-map sorted (λ (e : SharedWish). e.wish)

  part_is : members_in wishes begins n ≡ slice_range wishes from to
  part_is = (λ i. slice_range wishes (begin_in (long i) begins n) (begin_in (long i) begins (n + 1)))

  many : length (slice_range wishes from to) ≡ to - from
  many =
      part_long wishes from to ((begins_rise sorted begins are).rise n) (omega (arith, are.within (n + 1), long))

  wish_read : (j : ℕ) → j < to - from → get_or (slice_range wishes from to) j 0
      ≡ (get_or sorted (from + j) no_entry).wish
  wish_read j lt =
      part_read wishes from to j lt
      ∙ ap (λ (xs : List ℕ). get_or xs (from + j) 0) wishes_are
      ∙ get_or-map (λ (e : SharedWish). e.wish) sorted (from + j) no_entry 0 (omega (arith, lt, are.within (n + 1)))

  -- a wish of the part is that of an entry with the number
  of_entry : is_among k (slice_range wishes from to) ≡ true → list_any test sorted ≡ true
  of_entry some =
      let part = slice_range wishes from to in
      let (j, x, lt, at, passes) = Any-from_list_any (nat_eq k) part some in
      let j_lt : j < to - from = omega (arith, lt, many) in
      let e = get_or sorted (from + j) no_entry in
      let read : get_or part j 0 ≡ x = get_or_default part j 0 x lt ∙ at in
      let wish : e.wish ≡ k = sym (wish_read j j_lt) ∙ read ∙ sym (eqb-true k x passes) in
      let least : n ≤ e.number = are.behind n (from + j) no_entry (omega arith)
      (omega (arith, j_lt, are.within (n + 1))) in
      let most : e.number < n + 1 = are.before (n + 1) (from + j) no_entry (omega (arith, j_lt)) in
      let number : e.number ≡ n = omega (arith, least, most) in
      list_any_at test sorted (from + j) no_entry (omega (arith, j_lt, are.within (n + 1)))
      (rw (eq-eqb e.wish k wish, eq-eqb e.number n number) refl)

  -- and each such entry is there
  in_part : list_any test sorted ≡ true → is_among k (slice_range wishes from to) ≡ true
  in_part some =
      let part = slice_range wishes from to in
      let (i, x, lt, at, passes) = Any-from_list_any test sorted some in
      let parts = and_parts (x.wish == k) (x.number == n) passes in
      let e = get_or sorted i no_entry in
      let here : e ≡ x = get_or_default sorted i no_entry x lt ∙ at in
      let number : e.number ≡ n = ap (λ (e : SharedWish). e.number) here ∙ eqb-true x.number n parts.1 in
      let wish : e.wish ≡ k = ap (λ (e : SharedWish). e.wish) here ∙ eqb-true x.wish k parts.0 in
      let after : from ≤ i = elim (cases_lt i from) [
        | inl before ↦ absurd (omega (arith, are.before n i no_entry before, number))
        | inr behind ↦ behind
      ] in
      let ends : i < to = elim (cases_lt i to) [
        | inl before ↦ before
        | inr behind ↦ absurd (omega (arith, are.behind (n + 1) i no_entry behind lt, number))
      ] in
      let at_i : from + (i - from) ≡ i = omega (arith, after) in
      let same : get_or part (i - from) 0 ≡ k =
      wish_read (i - from) (omega (arith, after, ends))
      ∙ ap (λ (j : ℕ). (get_or sorted j no_entry).wish) at_i ∙ wish in
      list_any_at (nat_eq k) part (i - from) 0 (omega (arith, many, after, ends))
      (eq-eqb k (get_or part (i - from) 0) (sym same))

  pub among_members : is_among k (members_at (members_by wishes begins) n) ≡ list_any test sorted
  among_members =
      ap (is_among k) (members_read wishes begins n ∙ part_is)
      ∙ both_ways (is_among k (slice_range wishes from to)) (list_any test sorted) of_entry in_part

-- the wishes of each number are those of the entries that have it
pub members_are : (entries sorted : List SharedWish) (wishes begins : List ℕ) → IsPermutation entries sorted
    → wishes ≡ map (λ (e : SharedWish). e.wish) sorted → AreBegins sorted begins
    → AreMembers entries (members_by wishes begins)
members_are entries sorted wishes begins moved wishes_are are n k =
    among_members sorted wishes begins are wishes_are n k
    ∙ sym (list_any-IsPermutation (λ (e : SharedWish). (e.wish == k) && (e.number == n)) entries sorted moved)

-- and so those whose bundle has it
pub of_number : (ns : List BundleNumber) (entries : List SharedWish) → AreEntriesOf ns entries → (n k : ℕ)
    → list_any (λ (e : SharedWish). (e.wish == k) && (e.number == n)) entries ≡ has_number n (number_at ns k)
of_number ns entries are n k =
    both_ways (list_any test entries) (has_number n (number_at ns k))
    (λ some.
    let (i, x, lt, at, passes) = Any-from_list_any test entries some in
    let parts = and_parts (x.wish == k) (x.number == n) passes in
    let told : number_at ns k ≡ Shared n =
    (λ t. number_at ns (sym (eqb-true x.wish k parts.0) t))
    ∙ subst (λ (e : SharedWish). number_at ns e.wish ≡ Shared e.number) at (are.each i x lt)
    ∙ ap Shared (eqb-true x.number n parts.1) in
    rw told (eq-eqb n n refl))
    (λ has. some_has (number_at ns k) refl has)
  where
    test : SharedWish → Bool
    test e = (e.wish == k) && (e.number == n)

    some_has : (b : BundleNumber) → number_at ns k ≡ b → has_number n b ≡ true → list_any test entries ≡ true
    some_has NoSite is has = absurd (cc)
    some_has Alone is has = absurd (cc)
    some_has (Shared m) is has =
        let (i, x, lt, at, passes) = Any-from_list_any (λ (e : SharedWish). e.wish == k) entries (are.all k m is) in
        let both : Shared x.number ≡ Shared m =
        sym (subst (λ (e : SharedWish). number_at ns e.wish ≡ Shared e.number) at (are.each i x lt))
        ∙ ap (number_at ns) (eqb-true x.wish k passes) ∙ is in
        let same : x.number ≡ m = cc both in
        let number : x.number ≡ n = same ∙ eqb-true m n has in
        list_any_at test entries i x lt (rw (at, passes, eq-eqb x.number n number) refl)
