use Rattle.std.proofs.Common.{arith}
use Rattle.played.proofs.KeptDays.{none_played_kept}
use Rattle.played.proofs.days.play_wanted.Goals as goal

pub returns-then-wanted-eq0-clause-ends : goal.returns-then-wanted-eq0-clause-ends
returns-then-wanted-eq0-clause-ends g c =
    none_played_kept _ _ _ _ _ c.requires.orders c.play_none.ensures.days c.play_none.ensures.end
    (omega (arith, c.if-wanted-eq0.true))
