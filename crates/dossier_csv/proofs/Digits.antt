-- Texts of digits, from left to right.
use Rattle.std.proofs.Common.{◌≡◌, ℕ, ◌+◌, ◌-◌, ◌*◌, ◌^◌, ◌<◌, ◌≤◌, true, List, take, length, get_or, rules, arith}
use Rattle.std.proofs.Common.{refl, sym, ◌∙◌, Bool, false, Some, None, if◌then◌else◌}
use Rattle.std.proofs.lemmas.Bool.Decides.{nat_tests}
use Rattle.std.specs.Char.{is_ascii_digit, digit_value}
use Rattle.std.specs.List.{list_all}
use Rattle.std.specs.Str.Parse.{digits_value}
use Rattle.std.proofs.lemmas.Int.Digits.{digits_value_more}
use Rattle.std.proofs.lemmas.List.Folds.{list_all_more}
use Rattle.dossier_csv.specs.Columns.{digit_of}
use Rattle.std.proofs.lemmas.Str.Parse.{IsNumeralModel, numerals_by_value, digits_value_short}

abbrev pub IsNumber : List ℕ → Type 0
IsNumber ds = list_all is_ascii_digit ds ≡ true

pub digits : IsNumeralModel IsNumber (digits_value 10)
digits = numerals_by_value IsNumber (search rules)

pub digit_value-digit : (c : ℕ) → is_ascii_digit c ≡ true → digit_value c ≡ c - 48
digit_value-digit c h = grind (arith, nat_tests)

-- a number of few digits is small
pub few-digits : (ds : List ℕ) (k : ℕ) → IsNumber ds → length ds ≤ k → digits_value 10 ds < 10 ^ k
few-digits ds k h short = digits_value_short digits ds k h short

-- what a byte must be for a digit to be read
pub record IsRead (byte digit : ℕ) : Type 0 where
  pub is_digit : is_ascii_digit byte ≡ true
  pub value : digit ≡ digit_value byte
  pub at_most : digit ≤ 9

read_if : (byte : ℕ) (b : Bool) (digit : ℕ) → is_ascii_digit byte ≡ b
    → (if b then Some (byte - 48) else None) ≡ Some digit → IsRead byte digit
read_if byte true digit is e =
    let same : byte - 48 ≡ digit = cc e in record {
      is_digit = is;
      value = sym same ∙ sym (digit_value-digit byte is);
      at_most = grind (arith, nat_tests);
    }
read_if byte false digit is e = cc e

pub digit_read : (byte digit : ℕ) → digit_of byte ≡ Some digit → IsRead byte digit
digit_read byte digit e = read_if byte (is_ascii_digit byte) digit refl e

-- one more digit
pub number-more : (ds : List ℕ) (i digit : ℕ) → i < length ds → IsNumber (take i ds) → IsRead (get_or ds i 0) digit
    → IsNumber (take (i + 1) ds) × (digits_value 10 (take (i + 1) ds) ≡ digits_value 10 (take i ds) * 10 + digit)
number-more ds i digit within so_far read = (
  rw (list_all_more is_ascii_digit ds i 0 within, so_far) read.is_digit,
  rw (digits_value_more 10 ds i within, read.value) refl,
)
