use Rattle.std.proofs.Common.{ap}
use Rattle.round.specs.KeptFalls.{are_kept}
use Rattle.round.proofs.KeptFalls.{all_kept, none_kept}
use Rattle.round.proofs.one_pass.lower.Goals as goal

pub returns-in-Kept-clause-run : goal.returns-in-Kept-clause-run
returns-in-Kept-clause-run g c =
    all_kept _ _ _ _ _ _ (λ kept. kept.items) c.greatest.result (ap are_kept c.in-Kept.is) c.greatest.ensures.run

pub returns-in_ok-settle-in-LeftOut-clause-run : goal.returns-in_ok-settle-in-LeftOut-clause-run
returns-in_ok-settle-in-LeftOut-clause-run g c =
    none_kept _ _ _ _ _ _ _ (ap are_kept c.in-LeftOut.is) c.new.ensures.items c.in_ok-settle-in-LeftOut.ensures.run
