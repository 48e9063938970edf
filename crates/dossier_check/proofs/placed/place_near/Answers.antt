use Rattle.std.proofs.Common.{nat_eq, position, unwrap_or, ap, ◌∙◌}
use Rattle.dossier_check.proofs.Places.{unwrap_or-position}
use Rattle.dossier_check.proofs.placed.place_near.Goals as goal

pub returns : goal.returns
returns c =
    let ids = c.args.ids.now.keys in
    c.unwrap_or.ensures
    ∙ ap (λ o. unwrap_or o c.len.result) c.find_near.ensures.index
    ∙ ap (unwrap_or (position (nat_eq c.args.id) ids)) c.len.ensures.len
    ∙ unwrap_or-position (nat_eq c.args.id) ids
