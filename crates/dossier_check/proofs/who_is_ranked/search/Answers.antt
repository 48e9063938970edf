use Rattle.std.proofs.Common.{◌∙◌}
use Rattle.dossier_check.proofs.WhoIsRanked.{searched_among}
use Rattle.dossier_check.proofs.who_is_ranked.search.Goals as goal

pub returns : goal.returns
returns c ascends =
    c.ok.ensures.variant ∙ searched_among c.args.numbers.now c.args.number c.binary_search.result ascends
    c.binary_search.ensures.position
