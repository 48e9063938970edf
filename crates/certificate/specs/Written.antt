-- The chain of the falls of days: their text, read.
use Rattle.std.specs.Prelude.{◌≡◌, ℕ, ◌+◌, ◌≤◌, ◌<◌, List, [], ◌∷◌, All, length, map, ⊤}
use Rattle.admit_core.specs.DossierRows.{DossierRows}
use Rattle.admit_core.specs.declared.chain.Chain.{Chain}
use Rattle.admit_core.specs.declared.chain.DayChain.{DayChain}
use Rattle.admit_core.specs.declared.chain.FallLine.{FallLine}
use Rattle.admit_core.specs.declared.chain.PassChain.{PassChain}
use Rattle.admit_core.specs.declared.records.DayRecord.{DayRecord}
use Rattle.admit_core.specs.declared.records.Fall.{Fall}
use Rattle.admit_core.specs.declared.records.PassEnd.{PassEnd}
use Rattle.report.specs.Ids.{school_id, wish_id}

-- the line of a fall at a row, by ids, and those of many from a row on
abbrev pub fall_at : DossierRows → ℕ → Fall → FallLine
fall_at d row fall =
    record {
      row = row;
      school = school_id d fall.school;
      from = fall.from;
      to = fall.to;
      wishes = map (wish_id d) fall.wishes;
    }

abbrev pub falls_from : DossierRows → ℕ → List Fall → List FallLine
falls_from d row [] = []
falls_from d row (fall ∷ falls) = fall_at d row fall ∷ falls_from d (row + 1) falls

-- the row after a pass whose own line is at a row, and after many
abbrev pub row_after_pass : ℕ → PassEnd → ℕ
row_after_pass row end = row + 1 + length end.pass.falls

abbrev pub row_after : ℕ → List PassEnd → ℕ
row_after row [] = row
row_after row (end ∷ ends) = row_after (row_after_pass row end) ends

abbrev pub pass_at : DossierRows → ℕ → PassEnd → PassChain
pass_at d row end = record {
  row = row;
  falls = falls_from d (row + 1) end.pass.falls;
  next_row = row_after_pass row end;
}

abbrev pub passes_from : DossierRows → ℕ → List PassEnd → List PassChain
passes_from d row [] = []
passes_from d row (end ∷ ends) = pass_at d row end ∷ passes_from d (row_after_pass row end) ends

abbrev pub day_at : DossierRows → ℕ → DayRecord → DayChain
day_at d row day = record {
  passes = passes_from d (row + 1) day.passes;
  next_row = row_after (row + 1) day.passes;
}

abbrev pub days_from : DossierRows → ℕ → List DayRecord → List DayChain
days_from d row [] = []
days_from d row (day ∷ days) = day_at d row day ∷ days_from d (row_after (row + 1) day.passes) days

-- the chain of days, from row 1 on
abbrev pub chain_of_days : DossierRows → List DayRecord → Chain
chain_of_days d days = record { days = days_from d 1 days }

-- a fall that a line can tell: its numbers have 32 bits, and it names a wish
pub record CanBeTold (fall : Fall) : Type 0 where
  pub from : fall.from ≤ 4294967295
  pub to : fall.to ≤ 4294967295
  pub some : 0 < length fall.wishes

abbrev pub PassCanBeTold : PassEnd → Type 0
PassCanBeTold end = All CanBeTold end.pass.falls

-- the passes of a day are numbered by 32 bits
abbrev pub HasFewPasses : DayRecord → Type 0
HasFewPasses day = length day.passes ≤ 4294967295

pub record DayCanBeTold (day : DayRecord) : Type 0 where
  pub passes : All PassCanBeTold day.passes
  pub few : HasFewPasses day

-- days are numbered from d on
abbrev pub AreNumbered : ℕ → List DayRecord → Type 0
AreNumbered d [] = ⊤
AreNumbered d (day ∷ days) = (day.day ≡ d) × AreNumbered (d + 1) days
