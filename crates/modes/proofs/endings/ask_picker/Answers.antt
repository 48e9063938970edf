use Rattle.std.proofs.Common.{◌≡◌, ◌∙◌, ap, arith, length, subst}
use Rattle.std.specs.Prelude.{if◌then◌else◌}
use Rattle.intake.specs.Input.{NamesIn}
use Rattle.request.specs.Modes.{runs_days}
use Rattle.request.specs.declared.modes.Mode.{Mode}
use Rattle.request.specs.declared.modes.Mode.TheVariants.{Beds, Market}
use Rattle.modes.specs.Endings.{asked_by}
use Rattle.modes.proofs.Lending.{ends_lent_by}
use Rattle.modes.proofs.endings.ask_picker.Goals as goal

pub reply_to_beds-requires-clause-named : goal.reply_to_beds-requires-clause-named
reply_to_beds-requires-clause-named g c =
    subst (λ (m : Mode). NamesIn m c.args.task.now.input.now.index) (c.requires.asks ∙ ap asked_by c.in-Beds.is)
    c.requires.can.named

pub reply_to_beds-requires-clause-desk : goal.reply_to_beds-requires-clause-desk
reply_to_beds-requires-clause-desk g c = c.requires.can.last

pub reply_to_beds-requires-clause-some_day : goal.reply_to_beds-requires-clause-some_day
reply_to_beds-requires-clause-some_day g c =
    let request = c.args.task.now.request.now in
    let number : length c.args.played.days.items ≡ request.days =
    c.requires.can.number
    ∙ ap (λ (m : Mode). if runs_days m then request.days else 0) (c.requires.asks ∙ ap asked_by c.in-Beds.is) in
    omega (arith, number, c.requires.can.request.some_day)

pub reply_to_market-requires : goal.reply_to_market-requires
reply_to_market-requires g c = c.requires.can.called

pub returns-in-Beds : goal.returns-in-Beds
returns-in-Beds g c =
    let ends = c.reply_to_beds.ensures in
    ends_lent_by ends.choice (Beds c.in-Beds.school) (c.requires.asks ∙ ap asked_by c.in-Beds.is)
    c.reply_to_beds.result ends.text ends.picks ends.breaks

pub returns-in-Market : goal.returns-in-Market
returns-in-Market g c =
    let ends = c.reply_to_market.ensures in
    ends_lent_by ends.choice Market (c.requires.asks ∙ ap asked_by c.in-Market.is) c.reply_to_market.result
    ends.text ends.picks ends.breaks
