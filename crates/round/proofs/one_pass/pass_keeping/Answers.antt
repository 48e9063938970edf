use Rattle.std.proofs.Common.{◌≡◌, ◌∙◌, subst}
use Rattle.admit_core.specs.CallOrder.{AreCallOrders}
use Rattle.admit_core.specs.DossierRows.{DossierRows}
use Rattle.admit_core.specs.Validity.{IsValid}
use Rattle.admit_core.specs.Proposals.{proposed}
use Rattle.admit_core.specs.Days.{offered}
use Rattle.round.proofs.KeptFalls.{pass_is_made, offers_are_proposed}
use Rattle.round.proofs.Offering.{proposed_are_wishes, offers_recorded}
use Rattle.round.proofs.one_pass.pass_keeping.Goals as goal

pub offer_all-requires : goal.offer_all-requires
offer_all-requires g c =
    let s = c.args.state.now in
    let orders = c.args.roster.now.orders in
    let offers : c.as_slice.result.now ≡ proposed s orders c.in_ok-found.found.bars =
    c.as_slice.ensures ∙ offers_are_proposed _ c.in_ok-found.ensures.pass in
    rw offers (proposed_are_wishes s orders c.in_ok-found.found.bars)

pub returns-clause-pass : goal.returns-clause-pass
returns-clause-pass g c =
    let s = c.args.state.now in
    let orders = c.args.roster.now.orders in
    let made : c.offer_all.new.self ≡ offered s orders c.in_ok-found.found.bars c.args.stamp =
    offers_recorded s c.offer_all.new.self orders c.in_ok-found.found.bars c.as_slice.result.now c.args.stamp
    (c.as_slice.ensures ∙ offers_are_proposed _ c.in_ok-found.ensures.pass) c.offer_all.ensures.offered
    c.offer_all.ensures.marks in
    let valid : IsValid s.dossier = subst IsValid (c.dossier.view_is ∙ c.dossier-dossier.ensures) c.dossier.invariant in
    let called : AreCallOrders s.dossier.groups orders =
    subst (λ (d : DossierRows). AreCallOrders d.groups orders) c.requires.same c.orders.ensures.right in
    pass_is_made _ c.in_ok-found.ensures.pass c.offer_all.new.self c.args.stamp made valid called c.requires.ceilings
