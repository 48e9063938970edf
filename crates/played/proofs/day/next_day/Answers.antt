use Rattle.request.specs.declared.pickers.PickerName.TheVariants.{First, Last, Turn}
use Rattle.played.proofs.Naming.{only_first, only_last, only_turn}
use Rattle.played.proofs.NextDay.{ends_next}
use Rattle.played.proofs.day.next_day.Goals as goal

pub returns-in-First-clause-ends : goal.returns-in-First-clause-ends
returns-in-First-clause-ends g c =
    let is = c.run_lent.ensures.ends in (
      is.0,
      ends_next _ _ _ _ First is.0 c.in-First.ensures (only_first _ _ _ _ _ _) is.1,
      is.2,
    )

pub returns-in-Last-clause-ends : goal.returns-in-Last-clause-ends
returns-in-Last-clause-ends g c =
    let is = c.run_lent-in-Last.ensures.ends in (
      is.0,
      ends_next _ _ _ _ Last is.0 c.in-Last.ensures (only_last _ _ _ _ _ _) is.1,
      is.2,
    )

pub returns-in-Turn-clause-ends : goal.returns-in-Turn-clause-ends
returns-in-Turn-clause-ends g c =
    let is = c.run_lent-in-Turn.ensures.ends in (
      is.0,
      ends_next _ _ _ _ Turn is.0 c.in-Turn.ensures (only_turn _ _ _ _ _ _) is.1,
      is.2,
    )
