use Rattle.std.proofs.Common.{◌≡◌, true, ◌||◌, sym, ◌∙◌}
use Rattle.std.proofs.lemmas.Bool.{or_left, or_right}
use Rattle.admit_core.specs.State.{holds_seat}
use Rattle.day_state.proofs.Change.{own_within}
use Rattle.demand.proofs.Visiting.{visit_none, visit_served, visit_not_served}
use Rattle.demand.proofs.walk.visit.Goals as goal
use Rattle.demand.proofs.walk.visit.Goals.{then-is_live, then-is_live-via-then-is_live}
use Rattle.demand.proofs.walk.visit.Goals.{then-is_live-via-else-is_live+then-is_called, else-is_live+else-is_called}

pub returns-then-not-has_open_wish-clause-flags : goal.returns-then-not-has_open_wish-clause-flags
returns-then-not-has_open_wish-clause-flags c =
    visit_none c.args.state.now c.args.bars.now c.args.programme c.args.candidate c.args.is_called
    c.args.flags.now.items
    (rw c.marks.ensures.marks at c.marks.ensures.one_each) c.requires.flags
    (sym c.has_open_wish.ensures ∙ c.if-not-has_open_wish.true)

pub flag_open-requires-clause-own : goal.flag_open-requires-clause-own
flag_open-requires-clause-own c = rw c.own_wishes-own.ensures (own_within c.args.state.now.dossier c.args.candidate)

pub returns-clause-flags : goal.returns-clause-flags
returns-clause-flags c =
    let s = c.args.state.now in
    let bars = c.args.bars.now in
    let p = c.args.programme in
    let x = c.args.candidate in
    let held = holds_seat s x p in
    let called = c.args.is_called in
    elim c.if-is_live.branch [
      | then-is_live w ↦
          let served : (held || called) ≡ true = elim w.then-is_live.branch [
            | then-is_live-via-then-is_live v ↦ or_left held called (sym c.is_live_in_programme-is_live.ensures
                ∙ v.if-is_live.true)
            | then-is_live-via-else-is_live+then-is_called v ↦ or_right held called v.if-is_called.true
          ] in
          rw w.flags-is (visit_served s bars c.own_wishes-own.result.now p x called c.args.flags.now.items
          w.flag_open.new.flags.items c.own_wishes-own.ensures c.requires.flags served w.flag_open.ensures)
      | else-is_live+else-is_called w ↦
          rw w.flags-is (visit_not_served s bars p x called c.args.flags.now.items
          (sym c.is_live_in_programme-is_live.ensures ∙ w.if-is_live.false) w.if-is_called.false)
    ]
