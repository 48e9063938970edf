use Rattle.std.proofs.Common.{◌<◌, length, arith, ◌∙◌}
use Rattle.admit_core.proofs.FirstPlaces.{is_at}
use Rattle.dossier_check.proofs.Buckets.{lay, lay_none}
use Rattle.dossier_check.proofs.Places.{none_past, placed_within}
use Rattle.dossier_check.proofs.groups.lay_row.Goals as goal

pub returns-then-place-len-clause-laid : goal.returns-then-place-len-clause-laid
returns-then-place-len-clause-laid c rows e =
    let row = c.args.row.now in
    let ks = c.args.groups.now.keys in
    let place = c.args.place in
    let within : place < length ks = omega (arith, c.if-place-len.true, c.len.ensures.len) in
    c.in_ok-add.ensures.added ∙ rw e (lay rows row ks place c.len.ensures.unique
    (is_at row.group ks place (placed_within ks row.group place c.requires.place within)))

pub returns-clause-laid : goal.returns-clause-laid
returns-clause-laid c rows e =
    let row = c.args.row.now in
    let ks = c.args.groups.now.keys in
    e ∙ lay_none rows row ks
    (none_past ks row.group (omega (arith, c.requires.place, c.if-place-len.false, c.len.ensures.len)))
