use Rattle.std.proofs.Common.{◌≤◌, subst, ℕ}
use Rattle.request.proofs.Starts.{start_of}
use Rattle.request.proofs.words.start_date.Goals as goal

pub returns-then-year-le-LAST_START_YEAR-clause-range : goal.returns-then-year-le-LAST_START_YEAR-clause-range
returns-then-year-le-LAST_START_YEAR-clause-range c =
    start_of c.in_ok-date.date c.in_ok-date.ensures.range
    (subst (λ (d : ℕ × ℕ × ℕ). 1901 ≤ d.0) c.parts-year.ensures.value c.if-year-ge-FIRST_START_YEAR.true)
