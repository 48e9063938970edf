use Rattle.std.proofs.Common.{◌∙◌, sym}
use Rattle.dossier_check.proofs.Runs.{joined, goes_on, row_there}
use Rattle.dossier_check.proofs.apart.Run.longer.Goals as goal

pub returns-then-is_apart-clause-goes_on : goal.returns-then-is_apart-clause-goes_on
returns-then-is_apart-clause-goes_on c before =
    let rows = c.args.rows.now in
    let row = c.wish_at-row.result in
    let place = c.args.place in
    let next = c.in_ok-next.next in
    let joins = joined rows row c.args.self next place (sym c.with.ensures ∙ c.in_ok-next.was) before in
    goes_on rows next place c.requires.within joins.run row
    (row_there rows row place c.requires.within c.wish_at-row.ensures) joins.same
    (sym c.is_apart.ensures ∙ c.if-is_apart.true)
