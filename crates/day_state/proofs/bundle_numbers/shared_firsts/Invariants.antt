use Rattle.std.specs.Prelude.{◌≡◌, map, take}
use Rattle.day_state.specs.declared.bundle_numbers.Later.{Later}
use Rattle.day_state.proofs.bundle_numbers.shared_firsts.Given as goal

abbrev pub invariant-loop-later : goal.invariant-loop-later
invariant-loop-later l = l.firsts.items ≡ map (λ (x : Later). x.first) (take l.later-index l.laters)
