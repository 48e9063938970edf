-- The line of a refusal.
use Rattle.std.specs.Prelude.{ℕ, List, [], ◌∷◌, ◌++◌}
use Rattle.admit_core.specs.Lines.{refusal_text}
use Rattle.admit_core.specs.declared.refusal.Refusal.{Refusal}

abbrev pub refusal_line : Refusal → List ℕ
refusal_line refusal = refusal_text refusal ++ 10 ∷ []
