use Rattle.std.proofs.Common.{◌≡◌, map}
use Rattle.round.specs.KeptFalls.{IsKeptOf, are_kept}
use Rattle.desk_day.proofs.KeptPasses.{PickedSoFar}
use Rattle.desk_day.specs.DayPasses.{open_wishes, stamp_of}
use Rattle.desk_day.specs.KeptDays.{kept_end}
use Rattle.desk_day.specs.Who.{Moves}
use Rattle.desk_day.proofs.running.Running.make_passes.Given as goal

abbrev pub invariant-passes : goal.invariant-passes
invariant-passes g l =
    let first = goal.Picker-dyn g l.fn.picker.now in
    let now = goal.Picker-dyn g l.picker.now in
    record {
      so_far : IsKeptOf (map (kept_end (are_kept l.plan.falls)))
          (PickedSoFar l.roster.orders l.plan.ceilings.now (stamp_of l.plan.day l.number) l.fn.self.present
          l.self.present (record {
            before = first.told l.fn.picker.now.1;
            after = now.told l.picker.now.1;
            choice = first.choice l.fn.picker.now.1;
          })) l.ends.items;
      opening : l.self.opening ≡ l.self.present;
      moved : Moves l.fn.self.present l.self.present l.fn.moved l.moved;
      choice : now.choice l.picker.now.1 ≡ first.choice l.fn.picker.now.1;
    }

abbrev pub decreases-passes : goal.decreases-passes
decreases-passes g l = open_wishes l.self.present
