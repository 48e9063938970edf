use Rattle.std.proofs.Common.{All, List, subst, sym}
use Rattle.std.specs.Option.{option_copied}
use Rattle.admit_core.specs.declared.records.DayRecord.{DayRecord}
use Rattle.modes.specs.Replay.{CanBeWritten}
use Rattle.modes.proofs.endings.end_cut_short.Goals as goal

pub days_text-requires : goal.days_text-requires
days_text-requires c =
    subst (λ (days : List DayRecord). All (CanBeWritten c.args.task.now.input.now.dossier
    (option_copied c.args.task.now.dated)) days)
    (sym c.as_slice.ensures.value) c.requires
