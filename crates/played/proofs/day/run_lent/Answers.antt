use Rattle.std.proofs.Common.{subst}
use Rattle.std.specs.Option.{option_copied}
use Rattle.desk_day.specs.KeptDays.{kept_result}
use Rattle.round.specs.KeptFalls.{IsKeptOf, are_kept}
use Rattle.played.specs.OneDay.{DayEndsWith}
use Rattle.played.proofs.day.run_lent.Goals as goal

pub returns-clause-ends : goal.returns-clause-ends
returns-clause-ends g c =
    rw (← c.in-Some.ensures.value)
    (subst
    (λ p. IsKeptOf (kept_result (are_kept c.args.falls))
    (DayEndsWith c.args.roster.now.orders (option_copied c.args.terms) c.args.day
    (record {
      desk = c.args.desk.now;
      told = (goal.Picker-dyn g p).told p.1;
      choice = (goal.Picker-dyn g p).choice
          p.1;
    })
    (record {
      desk = c.run_with-done.new.desk;
      told = (goal.Picker-dyn g (c.deref_box_mut-1.result.now.0, c.run_with-done.new.picker)).told
          c.run_with-done.new.picker;
      choice = (goal.Picker-dyn g (c.deref_box_mut-1.result.now.0, c.run_with-done.new.picker)).choice
          c.run_with-done.new.picker;
    }))
    c.run_with-done.result)
    c.deref_box_mut-1.ensures.value.1 c.run_with-done.ensures)
