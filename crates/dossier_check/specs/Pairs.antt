-- Pairs of numbers.
use Rattle.std.specs.Prelude.{ℕ, Bool, ◌&&◌, nat_eq}

-- how two pairs are compared
abbrev pub pair_eq : ℕ × ℕ → ℕ × ℕ → Bool
pair_eq p q = nat_eq p.0 q.0 && nat_eq p.1 q.1
