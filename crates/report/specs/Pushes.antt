-- What a push onto a text does.
use Rattle.std.specs.Prelude.{◌≡◌, ◌<◌, ◌++◌, ℕ, List, Result, String, MatchResult, length}
use Rattle.std.specs.Prelude.{string_bytes}
use Rattle.admit_core.specs.Texts.{KeepsRoom, LacksRoom}

-- all of these bytes were added
pub record IsPushed {Z : Type 0} (old new : String Z) (whole : List ℕ) : Type 0 where
  pub bytes : string_bytes new ≡ string_bytes old ++ whole
  pub room : KeepsRoom old new

-- the text had too little room for these bytes, and a beginning of them was added, but not all
pub record IsCutOff {Z : Type 0} (old new : String Z) (whole : List ℕ) : Type 0 where
  pub added : List ℕ
  pub missing : List ℕ
  pub parts : whole ≡ added ++ missing
  pub not_all : length added < length whole
  pub bytes : string_bytes new ≡ string_bytes old ++ added
  pub full : LacksRoom old whole
  pub room : KeepsRoom old new

-- the one or the other, as the result says
abbrev pub Pushes : {T E Z : Type 0} → Result T E → String Z → String Z → List ℕ → Type 0
Pushes result old new whole = MatchResult result (λ _. IsPushed old new whole)
    (λ _. IsCutOff old new whole)
