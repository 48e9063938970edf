use Rattle.admit_core.proofs.Rebuilt.{put_beds}
use Rattle.admit_core.proofs.with_beds.with_beds_at.Goals as goal

pub returns : goal.returns
returns c = rw c.in_ok-copies.ensures.items (put_beds c.args.schools.now c.args.place c.args.beds _ c.requires)
