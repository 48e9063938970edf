use Rattle.std.proofs.Common.{◌≡◌, false, is_some, nat_eq, ap, subst, sym, ◌∙◌}
use Rattle.std.specs.List.{list_any}
use Rattle.admit_core.proofs.Plain.{on_err}
use Rattle.dossier_check.specs.RowIds.{Listed, keys_by}
use Rattle.dossier_check.proofs.RisingIds.{found_by_place}
use Rattle.dossier_check.proofs.row_ids.RowIds.add_any.Goals as goal

pub hashed_with-requires-clause-new : goal.hashed_with-requires-clause-new
hashed_with-requires-clause-new c =
    subst (λ ids. list_any (nat_eq c.args.id) ids ≡ false) c.as_slice.ensures.value
    (sym (found_by_place c.as_slice.result.now c.args.id)
    ∙ ap is_some (sym c.by_halves.ensures ∙ c.in_default.is))

pub returns-in_err-set-in-Rising-clause-told : goal.returns-in_err-set-in-Rising-clause-told
returns-in_err-set-in-Rising-clause-told c =
    let keys : c.in-Rising.ids.items ≡ c.args.self.now.keys = ap keys_by (sym c.in-Rising.is)
    ∙ ap (λ (l : Listed). l.keys) c.self.view_is in
    on_err c.from_residual.result
    (subst (λ ids. list_any (nat_eq c.args.id) ids ≡ false) (c.as_slice.ensures.value ∙ keys)
    (sym (found_by_place c.as_slice.result.now c.args.id)
    ∙ ap is_some (sym c.by_halves.ensures ∙ c.in_default.is)))
