use Rattle.std.proofs.Common.{◌∙◌, sym}
use Rattle.desk_day.proofs.LastBars.{last_bars_are}
use Rattle.modes.proofs.explained.last_bars.Goals as goal

pub returns-in-Some : goal.returns-in-Some
returns-in-Some c = c.as_slice.ensures ∙ sym (last_bars_are c.args.passes.now c.in-Some.last.now
    c.in-Some.ensures.value)
