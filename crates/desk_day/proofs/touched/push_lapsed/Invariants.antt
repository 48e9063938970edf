use Rattle.std.proofs.Common.{◌≡◌, ◌++◌, map, take}
use Rattle.admit_core.specs.declared.records.Lapse.{Lapse}
use Rattle.desk_day.proofs.touched.push_lapsed.Given as goal

abbrev pub invariant-loop-lapse : goal.invariant-loop-lapse
invariant-loop-lapse l = l.places.items ≡ l.fn.places.items ++ map (λ (x : Lapse). x.wish) (take l.lapse-index l.lapsed)
