use Rattle.std.proofs.Common.{sym, ap, ◌∙◌}
use Rattle.std.specs.Option.{option_map_or}
use Rattle.dossier_check.proofs.LastRow.{last_row-push}
use Rattle.dossier_check.proofs.day_falls.DayFallsRowTest.stands.Goals as goal

pub returns-clause-seen : goal.returns-clause-seen
returns-clause-seen g c before seen numbered none =
    c.day_of-day.ensures ∙ sym (ap (λ o. option_map_or g.Q.HasDay.day o 0) (last_row-push before c.args.row.now))
