-- Places in order, and how they are laid out.
use Rattle.std.specs.Prelude.{ℕ, ◌≤◌, List}

-- the places, and how many there may be
pub record Queue : Type 0 where
  pub items : List ℕ
  pub room : ℕ

-- they stand behind those that are taken out, with room for all of them
pub record IsLaidOut (start room long capacity : ℕ) : Type 0 where
  pub within : start ≤ long
  pub fits : room ≤ capacity
