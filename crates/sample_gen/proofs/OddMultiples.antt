-- An odd multiple in a ring of a power of two numbers tells its factor.
use Rattle.std.proofs.Common.{◌≡◌, ℕ, ◌+◌, ◌-◌, ◌*◌, ◌^◌, suc, sym, ◌∙◌, arith, ap}
use Prim.Native.Nat.{zero}
use Rattle.std.proofs.Math.Nat.{mul_comm, mul_assoc, pow-suc}

-- an even number of the form d + 2 * x has an even d
half_of : (d x y : ℕ) → d + 2 * x ≡ 2 * y → d ≡ 2 * (y - x)
half_of d x y e = omega arith

double_first : (d h x y : ℕ) → d * (2 * h + 1) ≡ y → y ≡ 2 * x → d + 2 * (d * h) ≡ 2 * x
double_first d h x y e f = grind arith

halves : (p q : ℕ) → 2 * p ≡ 2 * q → p ≡ q
halves p q e = omega arith

twice_product : (d f h : ℕ) → d ≡ 2 * f → d * (2 * h + 1) ≡ 2 * (f * (2 * h + 1))
twice_product d f h e = rw e (mul_assoc 2 f (2 * h + 1))

power_twice : (k e : ℕ) → 2 ^ suc k * e ≡ 2 * (2 ^ k * e)
power_twice k e = ap (λ p. p * e) (pow-suc 2 k ∙ mul_comm (2 ^ k) 2) ∙ mul_assoc 2 (2 ^ k) e

-- a power of two that divides an odd multiple divides the factor
pub divides_factor : (k d h e : ℕ) → d * (2 * h + 1) ≡ 2 ^ k * e → (f : ℕ) × (d ≡ 2 ^ k * f)
divides_factor zero d h e is = (d, omega arith)
divides_factor (suc k) d h e is =
    let even : d ≡ 2 * (2 ^ k * e - d * h) =
    half_of d (d * h) (2 ^ k * e) (double_first d h (2 ^ k * e) (2 ^ suc k * e) is (power_twice k e)) in
    let half : ℕ = 2 ^ k * e - d * h in
    let less : half * (2 * h + 1) ≡ 2 ^ k * e =
    halves (half * (2 * h + 1)) (2 ^ k * e) (sym (twice_product d half h even) ∙ is ∙ power_twice k e) in
    let found = divides_factor k half h e less in
    (found.0, even ∙ ap (λ x. 2 * x) found.1 ∙ sym (power_twice k found.0))
