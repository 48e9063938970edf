use Rattle.std.proofs.Common.{position, sym, ap, ◌∙◌}
use Rattle.dossier_check.specs.Pairs.{pair_eq}
use Rattle.dossier_check.proofs.Firsts.{position-map}
use Rattle.dossier_check.proofs.noted.row_near.Goals as goal

pub returns-then-stands_at : goal.returns-then-stands_at
returns-then-stands_at g c own same =
    let eq = pair_eq c.args.pair in
    c.row_at.ensures (λ r. eq (own r)) (sym (c.stands_at.ensures c.if-stands_at.true) ∙ ap (position eq) same
    ∙ position-map eq own c.args.rows.now)

pub returns : goal.returns
returns g c own same =
    let eq = pair_eq c.args.pair in
    c.row_at-2.ensures (λ r. eq (own r)) (c.get_index_of.ensures.index ∙ ap (position eq) same
    ∙ position-map eq own c.args.rows.now)
