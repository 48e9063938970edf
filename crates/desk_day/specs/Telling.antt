-- What a picker tells over some time.
use Rattle.std.specs.Prelude.{ℕ, ◌++◌, List}
pub use Rattle.round.specs.Telling.{Telling}

-- what is left of a telling once the picker has told of these schools too
abbrev pub behind : List ℕ → Telling → Telling
behind schools telling = record {
  before = telling.before ++ schools;
  after = telling.after;
  choice = telling.choice;
}
