use Rattle.std.proofs.Common.{◌≡◌, nat_eq, sym, ap, ◌∙◌, subst}
use Rattle.std.specs.List.{IsDistinct}
use Rattle.dossier_check.specs.RowIds.{IsWay, Listed, keys_by}
use Rattle.dossier_check.proofs.RisingIds.{apart_rising}
use Rattle.dossier_check.proofs.row_ids.RowIds.len.Goals as goal

pub returns-in-Rising-clause-unique : goal.returns-in-Rising-clause-unique
returns-in-Rising-clause-unique c =
    let ids = c.in-Rising.ids.items in
    let keys : ids ≡ c.args.self.now.keys = ap keys_by (sym c.in-Rising.is)
    ∙ ap (λ (l : Listed). l.keys) c.self.view_is in
    subst (IsDistinct nat_eq) keys (apart_rising ids (subst IsWay c.in-Rising.is c.self.invariant))
