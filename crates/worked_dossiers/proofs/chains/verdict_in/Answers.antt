use Rattle.std.proofs.Common.{ap, sym, ◌∙◌}
use Rattle.certificate.specs.Checked.{ids_in}
use Rattle.certificate.proofs.Indexed.{ids_are}
use Rattle.worked_dossiers.proofs.chains.verdict_in.Goals as goal

pub verdicts_on-requires-clause-index : goal.verdicts_on-requires-clause-index
verdicts_on-requires-clause-index c =
    c.in_ok-checked.ensures.index ∙ ids_are c.in_ok-tables.tables
    ∙ ap ids_in (sym c.in_ok-checked.ensures.dossier)
