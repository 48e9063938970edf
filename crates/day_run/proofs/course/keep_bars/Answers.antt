use Rattle.std.proofs.Common.{◌∙◌, ap, sym, ℕ, List, length}
use Rattle.desk_day.proofs.LastBars.{last_bars_are}
use Rattle.day_run.proofs.course.keep_bars.Goals as goal

pub copy_bars-requires : goal.copy_bars-requires
copy_bars-requires c =
    let are = last_bars_are c.args.passes.now c.in-Some.last.now c.in-Some.ensures.value in
    c.requires ∙ ap (λ (l : List ℕ). length l) (are ∙ sym c.as_slice.ensures)

pub returns-in-Some : goal.returns-in-Some
returns-in-Some c =
    let are = last_bars_are c.args.passes.now c.in-Some.last.now c.in-Some.ensures.value in
    c.copy_bars.ensures ∙ c.as_slice.ensures ∙ sym are
