-- The summary of a sample.
use Rattle.std.specs.Prelude.{ℕ, Bool, List, [], ◌∷◌, ◌++◌, codes, count_by, flat_map, length, map, sum_by}
use Rattle.std.specs.Fmt.{decimal}
use Rattle.std.specs.List.{range_with_len}
use Rattle.admit_core.specs.Answers.{mark_at}
use Rattle.admit_core.specs.State.{State, is_gone, is_live, is_waiting}
use Rattle.admit_core.specs.declared.records.DayRecord.{DayRecord}
use Rattle.admit_core.specs.declared.records.PassEnd.{PassEnd}
use Rattle.admit_core.specs.declared.state.Mark.{Mark}
use Rattle.report.specs.Words.{line}

abbrev pub falls_in : PassEnd → ℕ
falls_in end = length end.pass.falls

abbrev pub offers_in : PassEnd → ℕ
offers_in end = length end.pass.offers

-- the passes of a day, and the falls and the offers of all of them
abbrev pub day_summary : DayRecord → List ℕ
day_summary day =
    line (codes "day" ∷ decimal day.day ∷ codes "passes" ∷ decimal (length day.passes)
    ∷ codes "falls" ∷ decimal (sum_by falls_in day.passes) ∷ codes "offers"
    ∷ decimal (sum_by offers_in day.passes) ∷ [])

-- the marks of the first n wishes, by place
abbrev pub marks_until : State → ℕ → List Mark
marks_until s n = map (mark_at s) (range_with_len 0 n)

-- how many wishes of a state have marks of a kind
abbrev pub wishes_with : (Mark → Bool) → State → ℕ
wishes_with kind s = count_by kind (marks_until s (length s.dossier.wishes))

abbrev pub state_summary : State → List ℕ
state_summary s =
    line (codes "live" ∷ decimal (wishes_with is_live s) ∷ codes "waiting"
    ∷ decimal (wishes_with is_waiting s)
    ∷ codes "gone" ∷ decimal (wishes_with is_gone s) ∷ [])

abbrev pub sample_text : ℕ → ℕ → List DayRecord → State → List ℕ
sample_text number wishes days s =
    line (codes "sample" ∷ decimal number ∷ codes "wishes" ∷ decimal wishes ∷ [])
    ++ flat_map day_summary days ++ state_summary s
