-- Room in a text.
use Rattle.std.specs.Prelude.{ℕ, ◌+◌, ◌<◌, ◌≤◌, List, String, length, string_capacity, string_len}

-- a text has too little room for these bytes behind its own
abbrev pub LacksRoom : {Z : Type 0} → String Z → List ℕ → Type 0
LacksRoom text bytes = string_capacity text < string_len text + length bytes

-- a text has lost no room
abbrev pub KeepsRoom : {Z : Type 0} → String Z → String Z → Type 0
KeepsRoom old new = string_capacity old ≤ string_capacity new
