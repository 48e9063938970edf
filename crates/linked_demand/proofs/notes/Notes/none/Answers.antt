use Rattle.std.proofs.Common.{ap, ◌∙◌}
use Rattle.linked_demand.specs.Notes.{read_from}
use Rattle.linked_demand.proofs.Putting.{reads_nothing}
use Rattle.linked_demand.proofs.notes.Notes.none.Goals as goal

pub returns : goal.returns
returns c = ap read_from c.in_ok-notes.ensures ∙ reads_nothing c.args.count
