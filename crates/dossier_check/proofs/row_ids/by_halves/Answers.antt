use Rattle.std.proofs.Common.{◌∙◌}
use Rattle.dossier_check.proofs.RisingIds.{searched_place}
use Rattle.dossier_check.proofs.row_ids.by_halves.Goals as goal

pub returns : goal.returns
returns c = c.ok.ensures.value ∙ searched_place c.args.ids.now c.args.id c.binary_search.result
    c.requires c.binary_search.ensures.position
