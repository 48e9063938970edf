use Rattle.std.proofs.Common.{flat_map, take}
use Rattle.std.specs.List.{enumerate_from}
use Rattle.report.specs.FinalText.{dated_row}
use Rattle.report.specs.Pushes.{IsPushed}
use Rattle.report.proofs.final_state.push_dated_final.Given as goal

abbrev pub invariant-loop-place : goal.invariant-loop-place
invariant-loop-place l =
    IsPushed l.initial.text l.text (flat_map (dated_row l.state l.start l.terms.before)
    (take l.place (enumerate_from 0 l.wishes)))
