-- What the parts of a date are printed as, and what is pushed for them.
use Rattle.std.proofs.Common.{◌≡◌, ℕ, ◌-◌, ◌/◌, ◌%◌, ◌^◌, ◌<◌, ◌≤◌, ◌∷◌, ◌++◌, [], List, append_assoc, codes}
use Rattle.std.proofs.Common.{if◌then◌else◌, nat_lt, refl, sym, ⊎_elim, arith}
use Rattle.std.specs.Fmt.{decimal, char_count, format_spec, padded_integral, styled_decimal}
use Rattle.std.proofs.lemmas.Bool.{cases_lt, le-ltb, lt-ltb}
use Rattle.std.proofs.lemmas.Fmt.{decimal_digit, decimal_step}
use Rattle.calendar.specs.Texts.{text_of, two_digits}
use Rattle.std.proofs.lemmas.List.{append-nil}

two_decimal : (n : ℕ) → 10 ≤ n → n < 100 → decimal n ≡ two_digits n
two_decimal n large small = rw (decimal_step n large (omega arith), decimal_digit (n / 10) (omega arith)) refl

-- a month or a day, printed with a leading zero
padded : (n : ℕ) → n < 100 → styled_decimal (format_spec 32 0 4 2 (2 ^ 64 - 1)) n ≡ two_digits n
unfolding padded_integral char_count
padded n small = ⊎_elim
    (λ one. let high : n / 10 ≡ 0 = omega arith in let low : n % 10 ≡ n = omega arith in
    rw (decimal_digit n one, high, low))
    (λ two. rw (two_decimal n two small))
    (cases_lt n 10)

-- a month or a day behind a dash, pushed with a leading zero
dashed : (n : ℕ) → n < 100 → (if nat_lt n 10 then codes "-0" else codes "-") ++ decimal n ≡ 45 ∷ two_digits n
dashed n small = ⊎_elim
    (λ one. let high : n / 10 ≡ 0 = omega arith in let low : n % 10 ≡ n = omega arith in
    rw (lt-ltb n 10 one, decimal_digit n one, high, low) refl)
    (λ two. rw (le-ltb n 10 two, two_decimal n two small) refl)
    (cases_lt n 10)

-- a year
four_decimal : (n : ℕ) → 1000 ≤ n → n < 10000 → decimal n ≡ two_digits (n / 100) ++ two_digits (n % 100)
four_decimal n large small =
    let a : n / 10 / 10 / 10 ≡ n / 100 / 10 = omega arith in
    let b : n / 10 / 10 % 10 ≡ n / 100 % 10 = omega arith in
    let c : n / 10 % 10 ≡ n % 100 / 10 = omega arith in
    let d : n % 10 ≡ n % 100 % 10 = omega arith in
    rw (
      decimal_step n (omega arith) (omega arith),
      decimal_step (n / 10) (omega arith) (omega arith),
      decimal_step (n / 10 / 10) (omega arith) (omega arith),
      decimal_digit (n / 10 / 10 / 10) (omega arith),
      a,
      b,
      c,
      d,
    )
    refl

-- what is printed for a date
pub written_date : (year month day : ℕ) → 1900 ≤ year → year ≤ 2310 → month < 100 → day < 100
    → decimal year ++ 45 ∷ (styled_decimal (format_spec 32 0 4 2 (2 ^ 64 - 1)) month
    ++ 45 ∷ styled_decimal (format_spec 32 0 4 2 (2 ^ 64 - 1)) day) ≡ text_of (year, month, day)
written_date year month day low high m d =
    rw (four_decimal year (omega arith) (omega arith), padded month m, padded day d) refl

-- what is pushed for a date
pub pushed_date : (year month day : ℕ) (before between : List ℕ) → 1900 ≤ year → year ≤ 2310 → month < 100 → day < 100
    → before ≡ (if nat_lt month 10 then codes "-0" else codes "-")
    → between ≡ (if nat_lt day 10 then codes "-0" else codes "-")
    → decimal year ++ (before ++ (decimal month ++ (between ++ (decimal day ++ [])))) ≡ text_of (year, month, day)
pushed_date year month day before between low high m d one two =
    rw (
      one,
      two,
      append-nil (decimal day),
      dashed day d,
      sym (append_assoc (if nat_lt month 10 then codes "-0" else codes "-") (decimal month) (45 ∷ two_digits day)),
      dashed month m,
      four_decimal year (omega arith) (omega arith),
    )
    refl
