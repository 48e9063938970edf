-- A text that is cut at the first of a byte.
use Rattle.std.proofs.Common.{◌≡◌, ℕ, ◌+◌, ◌<◌, ◌≤◌, Bool, true, false, cond, List, [], ◌∷◌, length, take, drop, Some}
use Rattle.std.proofs.Common.{None, refl, arith}
use Rattle.std.specs.Prelude.{◌==◌, nat_lt, position}
use Rattle.std.specs.List.{position_or_len}
use Rattle.std.proofs.lemmas.Bool.Decides.{nat_tests}
use Rattle.std.proofs.lemmas.List.Splits.{slice_split_first, slice_split_none}
use Rattle.std.proofs.lemmas.List.Sums.{fails_before_first}
use Rattle.certificate.specs.Grammar.{parts}

chosen : (b : Bool) (n i : ℕ) → cond b (Some n) None ≡ Some i → (b ≡ true) × (n ≡ i)
chosen true n i e = (refl, cc)
chosen false n i e = cc

left_out : (b : Bool) (n : ℕ) → cond b (Some n) None ≡ None → b ≡ false
left_out true n e = cc
left_out false n e = refl

is_less : (m n : ℕ) → nat_lt m n ≡ true → m < n
is_less m n h = grind (arith, nat_tests)

not_less : (m n : ℕ) → nat_lt m n ≡ false → n ≤ m
not_less m n h = grind (arith, nat_tests)

-- the first part ends at the first such byte
pub parts_some : (byte i : ℕ) (text : List ℕ) → position (λ b. b == byte) text ≡ Some i
    → (i < length text) × (parts byte text ≡ take i text ∷ parts byte (drop (i + 1) text))
parts_some byte i text e =
    let p = λ (b : ℕ). b == byte in
    let (is, at) = chosen (nat_lt (position_or_len p text) (length text)) (position_or_len p text) i e in
    let within = is_less (position_or_len p text) (length text) is in
    (rw (← at) within, rw (← at) (slice_split_first p text 0 within))

-- without such a byte the text is the one part
pub parts_none : (byte : ℕ) (text : List ℕ) → position (λ b. b == byte) text ≡ None → parts byte text ≡ text ∷ []
parts_none byte text e =
    let p = λ (b : ℕ). b == byte in
    let past = not_less (position_or_len p text) (length text)
    (left_out (nat_lt (position_or_len p text) (length text)) (position_or_len p text) e) in
    slice_split_none p text (λ k d within. fails_before_first p text k d (omega arith))

-- where no place is found, the first is past the end
pub no_place : (p : ℕ → Bool) (xs : List ℕ) → position p xs ≡ None → length xs ≤ position_or_len p xs
no_place p xs e = not_less (position_or_len p xs) (length xs)
    (left_out (nat_lt (position_or_len p xs) (length xs)) (position_or_len p xs) e)

-- the place that is found
pub place_found : (p : ℕ → Bool) (xs : List ℕ) (i : ℕ) → position p xs ≡ Some i
    → (i < length xs) × (position_or_len p xs ≡ i)
place_found p xs i e =
    let (is, at) = chosen (nat_lt (position_or_len p xs) (length xs)) (position_or_len p xs) i e in
    (rw (← at) (is_less (position_or_len p xs) (length xs) is), at)
