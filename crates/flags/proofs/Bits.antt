-- Flags by place, as their words change.
use Rattle.std.proofs.Common.{ℕ, ◌/◌, ◌%◌, ◌≤◌, ◌<◌, ◌≡◌, ◌≢◌, ◌*◌, ◌^◌, Bool, true, false, inl, inr, eqb}
use Rattle.std.proofs.Common.{List, length, get_or}
use Rattle.std.proofs.Common.{sym, ap, ◌∙◌, arith}
use Rattle.std.specs.Prelude.{replicate}
use Rattle.std.specs.Int.{bit_at, bit_not, div_ceil, w64}
use Rattle.std.specs.Int.RustNames.{bit_or}
use Rattle.std.specs.Prelude.{bit_and}
use Rattle.std.proofs.Math.ListN.{set}
use Rattle.std.proofs.lemmas.Bool.{cases_eq}
use Rattle.std.proofs.lemmas.List.{get_or-set_same, get_or-set_other, get_or-replicate, get_or_past, get_or_read}
use Rattle.std.proofs.lemmas.List.{length-set, length-replicate}
use Rattle.std.proofs.lemmas.List.FromFn.{length-map-range_with_len, get_or-map-range_with_len, fill_by_all}
use Rattle.std.proofs.lemmas.Grind.{get_or-set_at}
use Rattle.std.proofs.lemmas.Nat.Bits.{bit_at_set_same, bit_at_set_other, bit_at_clear_same, bit_at_clear_other}
use Rattle.flags.specs.Words.{flag_at, flags_of}

-- the word of a flag is there
pub word_within : (count k : ℕ) → k < count → k / 64 < div_ceil count 64
word_within count k lt = omega arith

pub length-flags : (words : List ℕ) (count : ℕ) → length (flags_of words count) ≡ count
length-flags words count = length-map-range_with_len (flag_at words) 0 count

pub word_of : (flags : List Bool) (words : List ℕ) (count k : ℕ) → flags_of words count ≡ flags
    → length words ≡ div_ceil count 64 → k < length flags → k / 64 < length words
word_of flags words count k is enough lt =
    omega (
      arith,
      enough,
      word_within count k (omega (
        arith,
        lt,
        length-flags words count,
        ap (λ (l : List Bool). length l) is,
      )),
    )

pub flag_there : (words : List ℕ) (count k : ℕ) → k < count → get_or (flags_of words count) k false ≡ flag_at words k
flag_there words count k lt = get_or-map-range_with_len (flag_at words) 0 count k k false lt (omega arith)

pub none_past : (words : List ℕ) (count k : ℕ) → count ≤ k → get_or (flags_of words count) k false ≡ false
none_past words count k le = get_or_past (flags_of words count) k false (omega (arith, length-flags words count, le))

pub same_count : (words others : List ℕ) (m n : ℕ) → length (flags_of words m) ≡ length (flags_of others n) → m ≡ n
same_count words others m n same = omega (arith, length-flags words m, length-flags others n, same)

-- words that are all the same
pub all_same : (count long w : ℕ) (flag : Bool) → long ≡ div_ceil count 64
    → ((i : ℕ) → i < 64 → eqb (bit_at w i) 1 ≡ flag) → flags_of (replicate long w) count ≡ replicate count flag
all_same count long w flag enough same =
    sym (fill_by_all (flag_at (replicate long w)) (replicate count flag) count false (length-replicate count flag)
    (λ k lt. get_or-replicate count k flag false lt
    ∙ sym (same (k % 64) (omega arith))
    ∙ ap (λ (n : ℕ). eqb (bit_at n (k % 64)) 1)
    (sym (get_or-replicate long (k / 64) w 0 (omega (arith, enough, word_within count k lt))))))

-- one bit of one word changes
module _ (words : List ℕ) (count p w : ℕ) (flag : Bool) (within : p / 64 < length words)
    (here : eqb (bit_at w (p % 64)) 1 ≡ flag)
    (others : (i : ℕ) → i < 64 → i ≢ p % 64 → bit_at w i ≡ bit_at (get_or words (p / 64) 0) i) where
  abbrev changed : List ℕ
  changed = set words (p / 64) w

  other_flag : (k : ℕ) → k ≢ p → flag_at words k ≡ flag_at changed k
  other_flag k other =
      elim (cases_eq (k / 64) (p / 64)) [
        | inl same ↦
            ap (λ (n : ℕ). eqb (bit_at (get_or words n 0) (k % 64)) 1) same
            ∙ ap (λ (n : ℕ). eqb n 1) (sym (others (k % 64) (omega arith) (λ e. other (omega (arith, same, e)))))
            ∙ ap (λ (n : ℕ). eqb (bit_at n (k % 64)) 1) (sym (get_or-set_at words (p / 64) (k / 64) w 0 same within))
        | inr apart ↦
            ap (λ (n : ℕ). eqb (bit_at n (k % 64)) 1) (sym (get_or-set_other words (p / 64) (k / 64) w 0 apart))
      ]

  flag_now : (k : ℕ) → k < count → get_or (set (flags_of words count) p flag) k false ≡ flag_at changed k
  flag_now k lt =
      elim (cases_eq k p) [
        | inl same ↦
            get_or-set_at (flags_of words count) p k flag false same (omega (arith, same, lt, length-flags words count))
            ∙ sym here
            ∙ ap (λ (n : ℕ). eqb (bit_at n (p % 64)) 1) (sym (get_or-set_same words (p / 64) w 0 within))
            ∙ ap (flag_at changed) (sym same)
        | inr other ↦
            get_or-set_other (flags_of words count) p k flag false other
            ∙ flag_there words count k lt
            ∙ other_flag k other
      ]

  pub one_set : flags_of (set words (p / 64) w) count ≡ set (flags_of words count) p flag
  one_set =
      sym (fill_by_all (flag_at changed) (set (flags_of words count) p flag) count false
      (length-set (flags_of words count) p flag ∙ length-flags words count) flag_now)

-- a word that is read and written back with one bit changed
module _ (words : List ℕ) (count p x : ℕ) (within : p / 64 < length words) (is : x ≡ get_or words (p / 64) x) where
  read : x ≡ get_or words (p / 64) 0
  read = get_or_read words (p / 64) x within is 0

  pub flag_set : flags_of (set words (p / 64) (bit_or x (1 * 2 ^ (p % 64) % 2 ^ 64))) count
      ≡ set (flags_of words count) p true
  flag_set =
      one_set words count p (bit_or x (1 * 2 ^ (p % 64) % 2 ^ 64)) true within
      (ap (λ (n : ℕ). eqb n 1) (bit_at_set_same w64 x (p % 64) (omega arith)))
      (λ i lt other. bit_at_set_other w64 x (p % 64) (omega arith) i other ∙ ap (λ (n : ℕ). bit_at n i) read)

  pub flag_cleared : flags_of (set words (p / 64) (bit_and x (bit_not w64 (1 * 2 ^ (p % 64) % 2 ^ 64)))) count
      ≡ set (flags_of words count) p false
  flag_cleared =
      one_set words count p (bit_and x (bit_not w64 (1 * 2 ^ (p % 64) % 2 ^ 64))) false within
      (ap (λ (n : ℕ). eqb n 1) (bit_at_clear_same w64 x (p % 64) (omega arith)))
      (λ i lt other. bit_at_clear_other w64 x (p % 64) (omega arith) i lt other
      ∙ ap (λ (n : ℕ). bit_at n i) read)
