use Rattle.std.proofs.Common.{ap, ◌∙◌, sym}
use Rattle.admit_core.specs.Relations.{is_target}
use Rattle.dossier_check.proofs.answers.TargetUnknown.knows.Goals as goal

pub returns-in-Quit : goal.returns-in-Quit
returns-in-Quit c ids candidates =
    let t = c.args.self.now.tables.now in
    let row = c.args.row.now in
    c.contains-in-Quit.ensures ∙ candidates row.target ∙ sym (ap (λ kind. is_target t kind row.target) c.in-Quit.is)
