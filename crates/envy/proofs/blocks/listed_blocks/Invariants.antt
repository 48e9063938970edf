use Rattle.std.proofs.Common.{◌≡◌}
use Rattle.envy.proofs.Listing.{listed}
use Rattle.envy.proofs.blocks.listed_blocks.Given as goal

abbrev pub invariant-loop-place : goal.invariant-loop-place
invariant-loop-place l = l.blocks.items ≡ listed l.noted.state l.noted.orders l.place
