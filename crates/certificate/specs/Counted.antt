-- How many days and passes a chain that was read has.
use Rattle.std.specs.Prelude.{◌≤◌, ◌<◌, ◌^◌, All, length}
use Rattle.admit_core.specs.declared.chain.Chain.{Chain}

-- the days are numbered up to 366, and the passes of each by 32 bits
pub record IsCounted (chain : Chain) : Type 0 where
  pub days : length chain.days ≤ 366
  pub passes : All (λ day. length day.passes < 2 ^ 32) chain.days
