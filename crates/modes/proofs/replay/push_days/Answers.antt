use Rattle.std.proofs.Common.{subst, sym}
use Rattle.std.specs.Option.{option_copied}
use Rattle.modes.specs.Replay.{CanBeWritten}
use Rattle.modes.proofs.replay.push_days.Goals as goal

pub push_day_lines-requires : goal.push_day_lines-requires
push_day_lines-requires c = subst (CanBeWritten c.args.dossier.now (option_copied c.args.dated)) (sym c.day-item.is)
    (c.requires c.loop-day.day-index c.day-item.result c.loop-day-test.true)
