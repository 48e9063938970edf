-- The beds that a school needs, by who comes where it has enough.
use Rattle.std.specs.Prelude.{ℕ, ◌==◌, if◌then◌else◌}

-- by how many live there before and after: none where nobody comes
abbrev pub need_of : ℕ → ℕ → ℕ
need_of before after = if before == after then 0 else after
