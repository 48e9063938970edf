use Rattle.std.proofs.Common.{ℕ, ◌≡◌, ◌≤◌, ◌<◌, false}
use Rattle.std.specs.Option.{is_some}
use Rattle.markets.specs.Matchings.{block_of}
use Rattle.stable_market.proofs.block.first_block.Given as goal

abbrev pub invariant-loop-candidate : goal.invariant-loop-candidate
invariant-loop-candidate l = (x : ℕ) → 0 ≤ x → x < l.candidate → is_some (block_of l.market l.places x) ≡ false
