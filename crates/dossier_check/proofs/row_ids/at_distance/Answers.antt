use Rattle.std.proofs.Common.{◌≡◌, ◌<◌, length, get_or, sym, ◌∙◌, arith}
use Rattle.std.proofs.lemmas.Bool.Decides.{nat_tests}
use Rattle.std.proofs.lemmas.List.{get_or_default}
use Rattle.dossier_check.proofs.RisingIds.{place_rising}
use Rattle.dossier_check.proofs.row_ids.at_distance.Goals as goal

pub returns : goal.returns
returns c =
    let ids = c.args.ids.now in
    let place = c.in_ok-place.field-0 in
    let there = c.in_ok-there.field-0.now in
    let within : place < length ids = grind (arith, nat_tests, c.in_ok-there.ensures.lookup.0) in
    let read : get_or ids place 0 ≡ c.args.id =
    sym (get_or_default ids place there 0 within) ∙ sym c.in_ok-there.ensures.lookup.1 ∙ c.if-there-id.false in
    place_rising ids c.args.id place c.requires within read
