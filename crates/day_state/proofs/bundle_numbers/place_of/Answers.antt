use Rattle.std.proofs.Common.{Ok, Err}
use Rattle.day_state.proofs.Numbered.{sought_rank}
use Rattle.day_state.proofs.bundle_numbers.place_of.Goals as goal

pub returns-in-Ok : goal.returns-in-Ok
returns-in-Ok c = λ bundles is lt shared.
    sought_rank bundles c.args.shared.now c.args.first (Ok c.in-Ok.place) c.in-Ok.ensures.position is lt shared

pub returns-in-Err : goal.returns-in-Err
returns-in-Err c = λ bundles is lt shared.
    sought_rank bundles c.args.shared.now c.args.first (Err c.in-Err.field-0) c.in-Err.ensures.position is lt shared
