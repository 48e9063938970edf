use Rattle.std.proofs.Common.{◌≡◌, position, Some, sym, ◌∙◌}
use Rattle.dossier_check.proofs.Found.{found_same, not_placed, position-within, read_at}
use Rattle.dossier_check.proofs.noted.row_at.Goals as goal

pub returns-in-Some : goal.returns-in-Some
returns-in-Some g c passes same =
    let rows = c.args.rows.now in
    let at : position passes rows ≡ Some c.in-Some.place = sym same ∙ c.in-Some.is in
    c.copied.ensures
    ∙ read_at rows c.in-Some.place c.get.result
    (position-within passes rows c.in-Some.place at) c.get.ensures.lookup.0 c.get.ensures.lookup.1
    ∙ sym (found_same passes rows c.in-Some.place at)

pub returns-in-None : goal.returns-in-None
returns-in-None g c passes same = sym (not_placed passes c.args.rows.now (sym same ∙ c.in-None.is))
