use Rattle.std.proofs.Common.{◌∙◌, Some, ap, sym}
use Rattle.played.proofs.Naming.{only_first, only_last, only_turn}
use Rattle.request.specs.declared.pickers.PickerName.TheVariants.{First, Last, Turn}
use Rattle.modes.proofs.Lending.{asks_some, ends_lent}
use Rattle.modes.proofs.endings.ask_after_days.Goals as goal

pub unreachable-requires : goal.unreachable-requires
unreachable-requires g c =
    absurd (asks_some c.args.asking c.args.task.now.request.now c.requires.asks
    (sym c.picker_after.ensures ∙ c.in_default.is))

pub returns-in-First-clause-ends : goal.returns-in-First-clause-ends
returns-in-First-clause-ends g c =
    ends_lent _ _ _ _ _ c.lend_picker.result First c.lend_picker.ensures.ends (only_first _ _ _ _ _ _)
    (ap Some (sym c.in-First.is) ∙ sym c.in-Some.is ∙ c.picker_after.ensures)

pub returns-in-Last-clause-ends : goal.returns-in-Last-clause-ends
returns-in-Last-clause-ends g c =
    ends_lent _ _ _ _ _ c.lend_picker-in-Last.result Last c.lend_picker-in-Last.ensures.ends (only_last _ _ _ _ _ _)
    (ap Some (sym c.in-Last.is) ∙ sym c.in-Some.is ∙ c.picker_after.ensures)

pub returns-in-Turn-clause-ends : goal.returns-in-Turn-clause-ends
returns-in-Turn-clause-ends g c =
    ends_lent _ _ _ _ _ c.lend_picker-in-Turn.result Turn c.lend_picker-in-Turn.ensures.ends (only_turn _ _ _ _ _ _)
    (ap Some (sym c.in-Turn.is) ∙ sym c.in-Some.is ∙ c.picker_after.ensures)
