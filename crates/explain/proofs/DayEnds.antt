-- Each day ended with its last pass.
use Rattle.std.proofs.Common.{refl}
use Rattle.admit_core.specs.EveningLaws.{last_bars}
use Rattle.desk_day.proofs.PassEnds.{day_ends_so, desk_ends_so}
use Rattle.explain.specs.Laws.{DaysEndSo, DesksEndSo}

pub days_end_so : DaysEndSo
days_end_so = day_ends_so

pub desks_end_so : DesksEndSo
desks_end_so terms orders ceilings day before done after called long is =
    desk_ends_so terms orders ceilings ceilings (last_bars done.passes) day before after done called long is refl refl
