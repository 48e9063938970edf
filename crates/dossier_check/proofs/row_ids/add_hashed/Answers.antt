use Rattle.std.proofs.Common.{nat_eq, sym, ◌∙◌}
use Rattle.dossier_check.proofs.Firsts.{not_is_false, position-none}
use Rattle.dossier_check.proofs.row_ids.add_hashed.Goals as goal

pub returns-then-is_new-clause-found : goal.returns-then-is_new-clause-found
returns-then-is_new-clause-found c =
    sym (position-none (nat_eq c.args.id) c.args.ids.now.keys
    (not_is_false _ (sym c.in_ok-place.ensures.added ∙ c.if-is_new.true)))
