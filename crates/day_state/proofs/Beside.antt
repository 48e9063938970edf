-- The wishes of bundles with a live one, listed number by number.
use Rattle.std.proofs.Common.{ℕ, ◌+◌, ◌≤◌, ◌<◌, ◌≡◌, Bool, true, false, ◌&&◌, ◌||◌, List, [], ◌∷◌, ◌++◌, length, get_or}
use Rattle.std.proofs.Common.{map, take}
use Rattle.std.proofs.Common.{inl, inr, refl, sym, ◌∙◌, ap, arith, nat_eq, nat_lt, None, Some}
use Rattle.std.specs.Prelude.{slice_index}
use Rattle.std.proofs.lemmas.Bool.{cases_eq, cases_lt, eq-eqb, ne_eqb, lt-ltb, le-ltb, and_right, false≢true}
use Rattle.std.proofs.lemmas.List.{get_or-map, get_or_past, length-map, take_all, take_more}
use Rattle.std.proofs.lemmas.List.Folds.{list_any-append}
use Rattle.admit_core.proofs.Plain.{or_false, or_true}
use Rattle.admit_core.specs.Lists.{is_among}
use Rattle.flags.specs.Words.{IsNextSet}
use Rattle.day_state.specs.declared.numbers.BundleNumber.{BundleNumber}
use Rattle.day_state.specs.declared.numbers.BundleNumber.TheVariants.{NoSite, Alone, Shared}
use Rattle.day_state.specs.Bundles.{has_live, number_at}
use Rattle.day_state.specs.Members.{has_number}

-- of the first i places those are listed, beside the first ones, whose flags are set
abbrev pub ListsSet : List Bool → List ℕ → ℕ → List ℕ → List ℕ → Type 0
ListsSet flags places i first now =
    (k : ℕ) → is_among k now ≡ (is_among k first || (is_among k (take i places) && get_or flags k false))

pub set_none : (flags : List Bool) (places first : List ℕ) → ListsSet flags places 0 first first
set_none flags places first k = sym (or_false (is_among k first))

among_more : (places : List ℕ) (i k : ℕ) → i < length places
    → is_among k (take (i + 1) places) ≡ (is_among k (take i places) || nat_eq k (get_or places i 0))
among_more places i k lt =
    ap (is_among k) (take_more places i 0 lt)
    ∙ list_any-append (nat_eq k) (take i places) (get_or places i 0 ∷ [])
    ∙ ap (λ b. is_among k (take i places) || b) (or_false (nat_eq k (get_or places i 0)))

module _ (flags : List Bool) (places first now : List ℕ) (i : ℕ) (lt : i < length places)
    (so_far : ListsSet flags places i first now) where
  pub set_one : (new : List ℕ) → get_or flags (get_or places i 0) false ≡ true → new ≡ now ++ get_or places i 0 ∷ []
      → ListsSet flags places (i + 1) first new
  set_one new is_set new_is k =
      let p = get_or places i 0 in
      ap (is_among k) new_is ∙ list_any-append (nat_eq k) now (p ∷ [])
      ∙ ap (λ b. is_among k now || b) (or_false (nat_eq k p))
      ∙ ap (λ b. b || nat_eq k p) (so_far k)
      ∙ elim (cases_eq k p) [
        | inl same ↦
            let here : get_or flags k false ≡ true = ap (λ (j : ℕ). get_or flags j false) same ∙ is_set in
            rw (here, among_more places i k lt, eq-eqb k p same)
            (or_true (is_among k first || (is_among k (take i places) && true))
            ∙ sym (ap (λ b. is_among k first || (b && true)) (or_true (is_among k (take i places)))
            ∙ or_true (is_among k first)))
        | inr other ↦
            rw (among_more places i k lt, ne_eqb k p other)
            (or_false (is_among k first || (is_among k (take i places) && get_or flags k false))
            ∙ ap (λ b. is_among k first || (b && get_or flags k false)) (sym (or_false (is_among k (take i places)))))
      ]

  pub set_left : get_or flags (get_or places i 0) false ≡ false → ListsSet flags places (i + 1) first now
  set_left clear k =
      let p = get_or places i 0 in
      so_far k
      ∙ elim (cases_eq k p) [
        | inl same ↦
            let here : get_or flags k false ≡ false = ap (λ (j : ℕ). get_or flags j false) same ∙ clear in
            rw here (ap (λ b. is_among k first || b)
            (and_right (is_among k (take i places)) false refl
            ∙ sym (and_right (is_among k (take (i + 1) places)) false refl)))
        | inr other ↦
            rw (among_more places i k lt, ne_eqb k p other)
            (ap (λ b. is_among k first || (b && get_or flags k false)) (sym (or_false (is_among k (take i places)))))
      ]

pub set_all : (flags : List Bool) (places first now : List ℕ) (i : ℕ) → length places ≤ i
    → ListsSet flags places i first now
    → (k : ℕ) → is_among k now ≡ (is_among k first || (is_among k places && get_or flags k false))
set_all flags places first now i le so_far k =
    so_far k ∙ ap (λ (xs : List ℕ). is_among k first || (is_among k xs && get_or flags k false)) (take_all i places le)

-- a bundle has a live wish, and its number is below this one
abbrev pub has_live_below : List ℕ → ℕ → BundleNumber → Bool
has_live_below live to NoSite = false
has_live_below live to Alone = false
has_live_below live to (Shared n) = nat_lt n to && nat_lt 0 (slice_index live n)

-- what is listed of the bundles below a number
abbrev pub AreBeside : List Bool → List ℕ → List BundleNumber → ℕ → List ℕ → Type 0
AreBeside flags live ns to found =
    (k : ℕ) → is_among k found ≡ (get_or flags k false && has_live_below live to (number_at ns k))

-- whether a number's bundle has a live wish, by its flag
flag_read : (live : List ℕ) (n : ℕ) → get_or (map (nat_lt 0) live) n false ≡ nat_lt 0 (slice_index live n)
flag_read live n = elim (cases_lt n (length live)) [
  | inl there ↦ get_or-map (nat_lt 0) live n 0 false there
  | inr past ↦
      get_or_past (map (nat_lt 0) live) n false (omega (arith, past, length-map live (nat_lt 0)))
      ∙ sym (ap (nat_lt 0) (get_or_past live n 0 past))
]

pub some_within : (live : List ℕ) (n : ℕ) → get_or (map (nat_lt 0) live) n false ≡ true → n < length live
some_within live n is_set = elim (cases_lt n (length live)) [
  | inl there ↦ there
  | inr past ↦
      let none = get_or_past (map (nat_lt 0) live) n false (omega (arith, past, length-map live (nat_lt 0))) in
      absurd (false≢true (sym none ∙ is_set))
]

pub beside_none : (flags : List Bool) (live : List ℕ) (ns : List BundleNumber) (found : List ℕ) → found ≡ []
    → AreBeside flags live ns 0 found
beside_none flags live ns found none k =
    ap (is_among k) none ∙ sym (and_right (get_or flags k false) (has_live_below live 0 (number_at ns k))
    (below (number_at ns k)))
  where
    below : (b : BundleNumber) → has_live_below live 0 b ≡ false
    below NoSite = refl
    below Alone = refl
    below (Shared n) = rw (le-ltb n 0 (omega arith)) refl

-- the next bundle with a live wish
module _ (live : List ℕ) (from next : ℕ) (is : IsNextSet (map (nat_lt 0) live) from (Some next)) where
  one_more : (b : BundleNumber) → has_live_below live (next + 1) b ≡ (has_live_below live from b || has_number next b)
  one_more NoSite = refl
  one_more Alone = refl
  one_more (Shared n) = elim (cases_eq n next) [
    | inl here ↦
        let lives : nat_lt 0 (slice_index live n) ≡ true =
        sym (flag_read live n) ∙ ap (λ (j : ℕ). get_or (map (nat_lt 0) live) j false) here ∙ is.is_set in
        rw (lives, eq-eqb n next here, lt-ltb n (next + 1) (omega (arith, here)))
        (or_last (nat_lt n from && true))
    | inr other ↦
        elim (cases_lt n from) [
          | inl before ↦
              rw (ne_eqb n next other, lt-ltb n from before, lt-ltb n (next + 1) (omega (arith, before, is.behind)))
              (or_none (nat_lt 0 (slice_index live n)))
          | inr behind ↦
              elim (cases_lt n next) [
                | inl passed ↦
                    let dead : nat_lt 0 (slice_index live n) ≡ false =
                    sym (flag_read live n) ∙ is.before n behind passed in
                    rw (dead, ne_eqb n next other, le-ltb n from behind, lt-ltb n (next + 1) (omega (arith, passed)))
                    refl
                | inr later ↦
                    let past : next + 1 ≤ n = apart n next other later in
                    rw (ne_eqb n next other, le-ltb n from behind, le-ltb n (next + 1) past) refl
              ]
        ]
  ]
    where
      or_last : (b : Bool) → true ≡ (b || true)
      or_last true = refl
      or_last false = refl

      or_none : (b : Bool) → b ≡ (b || false)
      or_none true = refl
      or_none false = refl

      apart : (n m : ℕ) → (n ≡ m → ⊥) → m ≤ n → m + 1 ≤ n
      apart n m other le = elim (cases_lt m n) [
        | inl less ↦ omega (arith, less)
        | inr more ↦ absurd
            (other (omega (arith, le, more)))
      ]

  pub beside_more : (flags : List Bool) (ns : List BundleNumber) (members found new : List ℕ)
      → ((k : ℕ) → is_among k members ≡ has_number next (number_at ns k))
      → ((k : ℕ) → is_among k new ≡ (is_among k found || (is_among k members && get_or flags k false)))
      → AreBeside flags live ns from found → AreBeside flags live ns (next + 1) new
  beside_more flags ns members found new members_are new_is so_far k =
      let b = number_at ns k in
      let f = get_or flags k false in
      new_is k
      ∙ ap (λ t. t || (is_among k members && f)) (so_far k)
      ∙ ap (λ t. (f && has_live_below live from b) || (t && f)) (members_are k)
      ∙ spread f (has_live_below live from b) (has_number next b)
      ∙ ap (λ t. f && t) (sym (one_more b))
    where
      spread : (f a b : Bool) → ((f && a) || (b && f)) ≡ (f && (a || b))
      spread true true b = refl
      spread true false true = refl
      spread true false false = refl
      spread false a true = refl
      spread false a false = refl

-- behind the last one all are listed
pub beside_all : (flags : List Bool) (live : List ℕ) (ns : List BundleNumber) (from : ℕ) (found : List ℕ)
    → IsNextSet (map (nat_lt 0) live) from None → AreBeside flags live ns from found
    → (k : ℕ) → is_among k found ≡ (get_or flags k false && has_live live (number_at ns k) false)
beside_all flags live ns from found none so_far k =
    so_far k ∙ ap (λ t. get_or flags k false && t) (all (number_at ns k))
  where
    all : (b : BundleNumber) → has_live_below live from b ≡ has_live live b false
    all NoSite = refl
    all Alone = refl
    all (Shared n) = elim (cases_lt n from) [
      | inl before ↦ rw (lt-ltb n from before) refl
      | inr behind ↦
          let dead : nat_lt 0 (slice_index live n) ≡ false = sym (flag_read live n) ∙ none n behind in
          rw (dead, le-ltb n from behind) refl
    ]
