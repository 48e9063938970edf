-- The first flag that is set, from a place on.
use Rattle.std.proofs.Common.{ℕ, ◌+◌, ◌-◌, ◌/◌, ◌%◌, ◌^◌, ◌≤◌, ◌<◌, ◌≡◌, Bool, false, inl, inr, eqb, List, get_or}
use Rattle.std.proofs.Common.{length, None, Some, sym, ap, subst, ◌∙◌, arith}
use Rattle.std.proofs.lemmas.List.{get_or_past}
use Rattle.std.specs.Int.{bit_at, trailing_zeros, w64}
use Rattle.std.proofs.Math.Nat.{div-le_self}
use Rattle.std.proofs.lemmas.Bool.{cases_lt}
use Rattle.std.proofs.lemmas.Nat.{shr-shr, shr_below}
use Rattle.std.proofs.lemmas.Nat.Bits.{bit_at_above, bit_at-trailing_zeros, bit_at-zero}
use Rattle.flags.specs.Words.{flags_of, IsNextBit, IsNextSet}
use Rattle.flags.proofs.Bits.{flag_there, length-flags}

-- a word from the bit of a place on
module _ (word p : ℕ) where
  abbrev rest : ℕ
  rest = word / 2 ^ (p % 64)

  bit_behind : (k : ℕ) → p ≤ k → k / 64 ≡ p / 64 → bit_at word (k % 64) ≡ bit_at rest (k - p)
  bit_behind k le same =
      let bit : k % 64 ≡ p % 64 + (k - p) = omega (arith, same, le) in
      ap (bit_at word) bit ∙ ap (λ n. n % 2) (sym (shr-shr word (p % 64) (k - p)))

  pub none_behind : rest ≡ 0 → IsNextBit word p None
  none_behind none k le same = bit_behind k le same ∙ ap (λ n. bit_at n (k - p)) none ∙ bit_at-zero (k - p)

  module _ (fits : word < 2 ^ 64) (some : 0 < rest) where
    abbrev low : ℕ
    low = trailing_zeros w64 rest

    small : rest < 2 ^ 64
    small = omega (arith, div-le_self word (2 ^ (p % 64)), fits)

    -- what is left of a word is shorter by the bits before it
    pub in_word : low < 64 - p % 64
    in_word =
        let s = p % 64 in
        let long : 64 - s + s ≡ 64 = omega arith in
        let below : rest < 2 ^ (64 - s) = shr_below word (64 - s) s (subst (λ j. word < 2 ^ j) (sym long) fits) in
        elim (cases_lt low (64 - s)) [
          | inl lt ↦ lt
          | inr past ↦
              let is_set = (bit_at-trailing_zeros w64 rest some small).1 in
              absurd (omega (arith, is_set, bit_at_above rest (64 - s) low below past))
        ]

    pub first_bit : IsNextBit word p (Some (p + low))
    first_bit =
        let found = bit_at-trailing_zeros w64 rest some small in
        let here : p + low - p ≡ low = omega arith in
        record {
          behind = omega arith;
          same_word = omega (arith, in_word);
          is_set = bit_behind (p + low) (omega arith) (omega (arith, in_word)) ∙ ap (bit_at rest) here ∙ found.1;
          before = λ k le lt.
              bit_behind k le (omega (arith, le, lt, in_word)) ∙ found.2 (k - p) (omega (arith, le, lt));
        }

-- no flag is set from one place up to another
pub record NoneSet (flags : List Bool) (from to : ℕ) : Type 0 where
  pub behind : from ≤ to
  pub clear : (k : ℕ) → from ≤ k → k < to → get_or flags k false ≡ false

pub none_yet : (flags : List Bool) (from : ℕ) → NoneSet flags from from
none_yet flags from = record {
  behind = omega arith;
  clear = λ k le lt. absurd (omega arith);
}

pub none_left : (flags : List Bool) (from p : ℕ) → length flags ≤ p → NoneSet flags from p → IsNextSet flags from None
none_left flags from p past none k le = elim (cases_lt k p) [
  | inl before ↦ none.clear k le before
  | inr behind ↦ get_or_past flags k false (omega (arith, behind, past))
]

-- flags by their words, of which none is set up to a place
module _ (flags : List Bool) (words : List ℕ) (count from p : ℕ) (is : flags_of words count ≡ flags)
    (none : NoneSet flags from p) where
  -- a flag is a bit of its word
  read : (k : ℕ) → k < length flags → k / 64 ≡ p / 64
      → get_or flags k false ≡ eqb (bit_at (get_or words (p / 64) 0) (k % 64)) 1
  read k lt same =
      let long : length flags ≡ count = ap (λ (l : List Bool). length l) (sym is) ∙ length-flags words count in
      ap (λ (l : List Bool). get_or l k false) (sym is)
      ∙ flag_there words count k (omega (arith, lt, long))
      ∙ ap (λ n. eqb (bit_at (get_or words n 0) (k % 64)) 1) same

  no_flag : (k : ℕ) → k / 64 ≡ p / 64 → bit_at (get_or words (p / 64) 0) (k % 64) ≡ 0 → get_or flags k false ≡ false
  no_flag k same clear = elim (cases_lt k (length flags)) [
    | inl within ↦ read k within same ∙ ap (λ n. eqb n 1) clear
    | inr past ↦ get_or_past flags k false past
  ]

  pub none_on : (next : ℕ) → IsNextBit (get_or words (p / 64) 0) p None → p ≤ next → next ≤ p + (64 - p % 64)
      → NoneSet flags from next
  none_on next clear more short = record {
    behind = omega (arith, none.behind, more);
    clear = λ k le lt. elim (cases_lt k p) [
      | inl before ↦ none.clear k le before
      | inr here ↦
          let same : k / 64 ≡ p / 64 = omega (arith, here, lt, short) in
          no_flag k same (clear k here same)
    ];
  }

  module _ (found : ℕ) (first : IsNextBit (get_or words (p / 64) 0) p (Some found)) where
    none_before : NoneSet flags from found
    none_before = record {
      behind = omega (arith, none.behind, first.behind);
      clear = λ k le lt. elim (cases_lt k p) [
        | inl before ↦ none.clear k le before
        | inr here ↦ no_flag k (omega (arith, here, lt, first.behind, first.same_word)) (first.before k here lt)
      ];
    }

    pub first_set : found < length flags → IsNextSet flags from (Some found)
    first_set within = record {
      behind = none_before.behind;
      is_set = read found within first.same_word ∙ ap (λ n. eqb n 1) first.is_set;
      before = none_before.clear;
    }

    -- the first bit is that of no flag
    pub none_at_all : length flags ≤ found → IsNextSet flags from None
    none_at_all past = none_left flags from found past none_before
