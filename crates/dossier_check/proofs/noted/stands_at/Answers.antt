use Rattle.std.proofs.Common.{Some, refl, sym, ap, ◌∙◌}
use Rattle.dossier_check.specs.Pairs.{pair_eq}
use Rattle.dossier_check.proofs.FirstRows.{pair_eq_sound, pair_eq-sym}
use Rattle.dossier_check.proofs.Places.{nat_eq_self}
use Rattle.dossier_check.proofs.RisingIds.{stands_once}
use Rattle.dossier_check.proofs.noted.stands_at.Goals as goal

pub returns-in-Some : goal.returns-in-Some
returns-in-Some c same =
    let pair = c.args.pair in
    let there = c.in-Some.there.now in
    let equal = pair_eq_sound pair there (sym c.same_pair.ensures ∙ same) in
    stands_once pair_eq pair_eq-sym c.args.keys.now.keys pair c.args.place
    (rw (nat_eq_self pair.0, nat_eq_self pair.1) refl) c.len.ensures.unique
    (sym c.in-Some.ensures.key ∙ ap Some (sym equal))
