use Rattle.std.proofs.Common.{length}
use Rattle.std.specs.Prelude.{◌==◌}
use Rattle.admit_core.specs.DossierRows.{candidate_of}
use Rattle.linked_demand.proofs.Keeping.{passing_within}
use Rattle.linked_demand.proofs.boarders.may_share.Goals as goal

pub has_other-requires : goal.has_other-requires
has_other-requires c =
    let d = c.args.state.now.dossier in
    passing_within (λ k. candidate_of d k == candidate_of d c.args.wish) (length d.wishes)
    c.own_wishes_beside-own.result.now c.own_wishes_beside-own.ensures
