use Rattle.std.proofs.Common.{◌≡◌, None, sym, ap, ◌∙◌}
use Rattle.std.specs.Result.{result_err}
use Rattle.admit_core.proofs.Plain.{on_err}
use Rattle.dossier_check.specs.WishTests.{may_not_wish}
use Rattle.dossier_check.proofs.wish_ranks.MayNotWishRowTestWishRow.stands.Goals as goal

pub returns-in_err-push-in-Ok-clause-told : goal.returns-in_err-push-in-Ok-clause-told
returns-in_err-push-in-Ok-clause-told c before known =
    let t = c.args.self.now.tables.now in
    let none : may_not_wish c.args.self.now.all_ranked t before c.args.row.now ≡ None =
    sym (c.places_named.ensures t before known) ∙ ap result_err c.in-Ok.is in
    on_err _ none
