use Rattle.linked_demand.proofs.Waiting.{all_open_wait}
use Rattle.linked_demand.proofs.links.SeatLinks.build.Goals as goal

pub open_under-requires-clause-boarders : goal.open_under-requires-clause-boarders
open_under-requires-clause-boarders c = rw c.deref.ensures.value c.requires.lineup.boarders

pub reached_of-requires-clause-waits : goal.reached_of-requires-clause-waits
reached_of-requires-clause-waits c =
    let long = rw c.marks.ensures.marks at c.marks.ensures.one_each in
    all_open_wait c.args.state.now long c.args.bars.now c.in_ok-opens.opens c.in_ok-opens.ensures.flags

pub invariant_of-result : goal.invariant_of-result
invariant_of-result c = record {
  reach = c.in_ok-reached.ensures;
  notes_are = c.requires.lineup.lines.notes_are;
  limited_are = c.requires.lineup.limited;
  beside_are = c.in_ok-beside.ensures;
}
