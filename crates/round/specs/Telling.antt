-- What a picker tells over some time.
use Rattle.std.specs.Prelude.{ℕ, List}

-- what a picker told before and what it told after, and how it chooses
pub record Telling : Type 0 where
  pub before : List ℕ
  pub after : List ℕ
  pub choice : List ℕ → List ℕ → ℕ
