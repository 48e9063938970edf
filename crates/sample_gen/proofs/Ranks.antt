-- Candidates of a list have different ranks, and choices of a candidate different programmes.
use Rattle.std.proofs.Common.{◌≡◌, ℕ, ◌+◌, ◌-◌, ◌*◌, ◌/◌, ◌%◌, ◌^◌, ◌<◌, ◌≤◌, suc, sym, ◌∙◌, arith, ap, ⊎_elim}
use Prim.Native.Nat.{zero}
use Rattle.std.proofs.Math.Nat.{div-add-mod, mul-sub, mul_comm}
use Rattle.std.proofs.lemmas.Bool.{cases_lt}
use Rattle.sample_gen.specs.Samples.{rank_in}
use Rattle.sample_gen.proofs.OddMultiples.{divides_factor}

from_parts : (x y m p q r : ℕ) → m * p + r ≡ x → m * q + r ≡ y → y - x ≡ m * q - m * p
from_parts x y m p q r e f = omega arith

-- two numbers with one remainder differ by a multiple
pub apart_by_multiple : (m x y : ℕ) → x % m ≡ y % m → y - x ≡ m * (y / m - x / m)
apart_by_multiple m x y same =
    from_parts x y m (x / m) (y / m) (x % m) (div-add-mod x m) (ap (λ r. m * (y / m) + r) same ∙ div-add-mod y m)
    ∙ sym (mul-sub m (y / m) (x / m))

-- a multiple of m below m is 0
pub small_multiple : (m d f : ℕ) → d ≡ m * f → d < m → d ≡ 0
small_multiple m d zero is lt = omega arith
small_multiple m d (suc f) is lt = absurd (omega arith)

later_place : (m c i j : ℕ) → i ≤ j → j < m → (c + i) % m ≡ (c + j) % m → i ≡ j
later_place m c i j le j_lt same =
    let is : c + j - (c + i) ≡ m * ((c + j) / m - (c + i) / m) = apart_by_multiple m (c + i) (c + j) same in
    let none : c + j - (c + i) ≡ 0 = small_multiple m (c + j - (c + i)) ((c + j) / m - (c + i) / m) is (omega arith) in
    omega arith

-- two places of one remainder are one
pub same_place : (m c i j : ℕ) → i < m → j < m → (c + i) % m ≡ (c + j) % m → i ≡ j
same_place m c i j i_lt j_lt same =
    ⊎_elim (λ lt. later_place m c i j (omega arith) j_lt same) (λ le. sym (later_place m c j i le i_lt (sym same)))
    (cases_lt i j)

minus_times : (a b q : ℕ) → (b - a) * q ≡ b * q - a * q
minus_times a b q = mul_comm (b - a) q ∙ mul-sub q b a ∙ ap (λ x. x - q * a) (mul_comm q b)
    ∙ ap (λ x. b * q - x) (mul_comm q a)

later_candidate : (h a b : ℕ) → a ≤ b → b ≤ 1000000 → (a * (2 * h + 1)) % (2 ^ 30) ≡ (b * (2 * h + 1)) % (2 ^ 30)
    → a ≡ b
later_candidate h a b le b_le same =
    let q : ℕ = 2 * h + 1 in
    let more : ℕ = b * q / (2 ^ 30) - a * q / (2 ^ 30) in
    let is : (b - a) * q ≡ 2 ^ 30 * more = minus_times a b q ∙ apart_by_multiple (2 ^ 30) (a * q) (b * q) same in
    let found = divides_factor 30 (b - a) h more is in
    let none : b - a ≡ 0 = small_multiple (2 ^ 30) (b - a) found.0 found.1 (omega arith) in
    omega arith

-- two candidates with one rank are one, where the multiplier is odd
pub same_candidate : (h a b : ℕ) → a ≤ 1000000 → b ≤ 1000000 → rank_in (2 * h + 1) a ≡ rank_in (2 * h + 1) b → a ≡ b
same_candidate h a b a_le b_le same =
    let rest : (a * (2 * h + 1)) % (2 ^ 30) ≡ (b * (2 * h + 1)) % (2 ^ 30) = omega arith in
    ⊎_elim (λ lt. later_candidate h a b (omega arith) b_le rest) (λ le. sym (later_candidate h b a le a_le (sym rest)))
    (cases_lt a b)
