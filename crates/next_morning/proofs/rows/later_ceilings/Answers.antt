use Rattle.std.proofs.Common.{◌-◌, arith, nat_lt}
use Rattle.std.proofs.lemmas.Bool.{lt-ltb}
use Rattle.admit_core.specs.declared.tables.CeilingRow.{CeilingRow}
use Rattle.next_morning.proofs.RowsMore.{some_row}
use Rattle.next_morning.proofs.rows.later_ceilings.Goals as goal

pub returns-in_err-push-clause-always : goal.returns-in_err-push-clause-always
returns-in_err-push-clause-always c = λ none.
    absurd (some_row (λ (x : CeilingRow). record x { day = x.day - c.args.day }) (λ x. nat_lt c.args.day x.day)
    c.args.changes.now c.loop-change.change-index _ (omega (arith, c.loop-change-test.true))
    (lt-ltb c.args.day _ c.if-change-day.true) none)
