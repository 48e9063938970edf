use Rattle.std.proofs.Common.{sym, ◌∙◌}
use Rattle.linked_demand.proofs.NeedNoSeat.{exempt_read}
use Rattle.linked_demand.proofs.seats.needs_no_seat.Goals as goal

pub returns : goal.returns
returns c =
    c.is_exempt.ensures
    ∙ sym (exempt_read c.args.state.now c.args.notes.now.called_by_limit c.args.place c.requires.place)
