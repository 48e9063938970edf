use Rattle.desk_day.proofs.KeptDays.{ends_whole_day}
use Rattle.desk_day.proofs.day.run_day_along.Goals as goal

pub returns : goal.returns
returns g c = ends_whole_day _ _ c.run_day_by.ensures
