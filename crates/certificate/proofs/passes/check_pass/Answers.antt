use Rattle.std.proofs.Common.{◌≡◌, ◌∙◌, List, ap, length, refl, subst, sym}
use Rattle.admit_core.specs.AutoAnswer.{auto_all, freed}
use Rattle.admit_core.specs.Chains.{bars_by}
use Rattle.admit_core.specs.Days.{offered}
use Rattle.admit_core.specs.Proposals.{proposed}
use Rattle.admit_core.specs.State.{State}
use Rattle.admit_core.specs.declared.state.Mark.{Mark}
use Rattle.desk_day.proofs.LaterPasses.{offered_there}
use Rattle.desk_day.proofs.WhoIsAsked.{along_closed}
use Rattle.certificate.proofs.passes.check_pass.Goals as goal

pub offer-requires : goal.offer-requires
offer-requires c = record {
  orders = c.args.grounds.now.orders;
  bars = bars_by c.args.present.now c.args.ceilings.now c.args.pass.now.falls;
  are = c.as_slice.ensures.value ∙ c.in_ok-offers.ensures.offers
      ∙ ap (λ (t : State). proposed t c.args.grounds.now.orders
      (bars_by t c.args.ceilings.now c.args.pass.now.falls)) c.now-state.ensures;
}

pub returns-clause-state : goal.returns-clause-state
returns-clause-state c =
    let s = c.args.present.now in
    let long : length s.marks ≡ length s.dossier.wishes =
    subst (λ (t : State). length t.marks ≡ length t.dossier.wishes) c.now-state.ensures
    (ap (λ (ms : List Mark). length ms) (sym c.marks.ensures.marks) ∙ c.marks.ensures.one_each) in
    let orders = c.args.grounds.now.orders in
    let bars = bars_by s c.args.ceilings.now c.args.pass.now.falls in
    let are = c.as_slice.ensures.value ∙ c.in_ok-offers.ensures.offers
    ∙ ap (λ (t : State). proposed t orders (bars_by t c.args.ceilings.now c.args.pass.now.falls)) c.now-state.ensures in
    c.in_ok-offer.ensures.state ∙ ap (λ (t : State). auto_all t c.args.stamp)
    (offered_there s s orders bars c.as_slice.result.now c.args.stamp long refl are)

pub returns-clause-freed : goal.returns-clause-freed
returns-clause-freed c =
    let s = c.args.present.now in
    let long : length s.marks ≡ length s.dossier.wishes =
    subst (λ (t : State). length t.marks ≡ length t.dossier.wishes) c.now-state.ensures
    (ap (λ (ms : List Mark). length ms) (sym c.marks.ensures.marks) ∙ c.marks.ensures.one_each) in
    let orders = c.args.grounds.now.orders in
    let bars = bars_by s c.args.ceilings.now c.args.pass.now.falls in
    let are = c.as_slice.ensures.value ∙ c.in_ok-offers.ensures.offers
    ∙ ap (λ (t : State). proposed t orders (bars_by t c.args.ceilings.now c.args.pass.now.falls)) c.now-state.ensures in
    let made = offered_there s s orders bars c.as_slice.result.now c.args.stamp long refl are in
    c.in_ok-offer.ensures.freed ∙ ap (λ (t : State). freed t c.offer.new.self) made
    ∙ ap (freed (offered s orders bars c.args.stamp))
    (c.in_ok-offer.ensures.state ∙ ap (λ (t : State). auto_all t c.args.stamp) made)

pub returns-clause-dossier : goal.returns-clause-dossier
returns-clause-dossier c =
    along_closed c.args.present.now c.offer.new.self c.as_slice.result.now c.args.stamp c.in_ok-offer.ensures.state
