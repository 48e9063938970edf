use Rattle.std.proofs.Common.{sym}
use Rattle.desk_day.proofs.WhoIsAsked.{along_closed}
use Rattle.desk_day.proofs.passes.follow.Goals as goal

pub set_from-requires : goal.set_from-requires
set_from-requires c =
    sym (along_closed c.args.opening.now c.args.closing.now c.args.offers.now c.args.stamp c.requires.closing)
