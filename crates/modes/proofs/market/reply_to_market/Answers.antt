use Rattle.std.proofs.Common.{List, sym, subst}
use Rattle.admit_core.proofs.Plain.{on_err}
use Rattle.admit_core.specs.CallOrder.{AreCallOrders}
use Rattle.admit_core.specs.declared.ranking.CallOrder.{CallOrder}
use Rattle.modes.specs.LentPicker.{TellsPicks}
use Rattle.modes.specs.Market.{BreaksMarket, PicksForMarket, TellsMarket}
use Rattle.modes.proofs.market.reply_to_market.Goals as goal

pub matched_text-requires : goal.matched_text-requires
matched_text-requires g c =
    subst (λ (o : List CallOrder). AreCallOrders c.args.dossier.now.groups o) (sym c.into_orders-orders.ensures)
    c.requires

pub returns-clause-text : goal.returns-clause-text
returns-clause-text g c = (
  c.done.ensures.exit,
  subst (TellsMarket c.args.dossier.now c.args.played.last.orders) (sym c.done.ensures.text)
      (subst (λ (o : List CallOrder). TellsMarket c.args.dossier.now o c.in_ok-text.text.items)
      c.into_orders-orders.ensures
      c.in_ok-text.ensures.text),
)

pub returns-clause-picks : goal.returns-clause-picks
returns-clause-picks g c =
    let before = goal.Picker-dyn g c.args.picker.now in
    let after = goal.Picker-dyn g (c.args.picker.now.0, c.matched_text.new.picker) in
    subst (λ (o : List CallOrder).
    TellsPicks (PicksForMarket c.args.dossier.now o (before.choice c.args.picker.now.1)
    (before.told c.args.picker.now.1))
    (before.told c.args.picker.now.1) (after.told c.matched_text.new.picker)) c.into_orders-orders.ensures
    c.in_ok-text.ensures.picks

pub returns-in_err-text-clause-breaks : goal.returns-in_err-text-clause-breaks
returns-in_err-text-clause-breaks g c =
    let before = goal.Picker-dyn g c.args.picker.now in
    let after = goal.Picker-dyn g (c.args.picker.now.0, c.matched_text.new.picker) in
    on_err c.from_residual.result
    (subst (λ (o : List CallOrder). BreaksMarket c.args.dossier.now o (before.choice c.args.picker.now.1)
    (before.told c.args.picker.now.1) (after.told c.matched_text.new.picker)) c.into_orders-orders.ensures
    c.in_err-text.ensures.breaks)
