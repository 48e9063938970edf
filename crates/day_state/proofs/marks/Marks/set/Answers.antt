use Rattle.std.proofs.Common.{◌<◌, ◌∙◌, Bool, List, ap, map, set, sym, length, arith}
use Rattle.std.proofs.lemmas.List.{length-map, length-set, map-set}
use Rattle.admit_core.specs.declared.state.Mark.{Mark}
use Rattle.admit_core.specs.State.{is_waiting}
use Rattle.day_state.specs.Marks.{marks_of}
use Rattle.day_state.proofs.Paired.{length-marks, marks-set}
use Rattle.day_state.proofs.marks.Marks.set.Goals as goal

pub index_mut-requires : goal.index_mut-requires
index_mut-requires c =
    let m = c.self.inside in
    let lt : c.args.wish < length (marks_of m.statuses.items m.stamps.items) = rw (sym c.self.view_is) at c.requires in
    omega (arith, lt, length-marks m.statuses.items m.stamps.items c.self.invariant.long, m.statuses.ok.0)

pub index_mut-requires-2 : goal.index_mut-requires-2
index_mut-requires-2 c =
    let m = c.self.inside in
    let lt : c.args.wish < length (marks_of m.statuses.items m.stamps.items) = rw (sym c.self.view_is) at c.requires in
    let long = c.self.invariant.long in
    omega (arith, lt, long, length-marks m.statuses.items m.stamps.items long, m.stamps.ok.0)

pub set-requires : goal.set-requires
set-requires c =
    let m = c.self.inside in
    let marks = marks_of m.statuses.items m.stamps.items in
    let lt : c.args.wish < length marks = rw (sym c.self.view_is) at c.requires in
    omega (arith, lt, ap (λ (flags : List Bool). length flags) c.self.invariant.flags, length-map marks is_waiting)

pub invariant_of-self : goal.invariant_of-self
invariant_of-self c =
    let m = c.self.inside in
    let k = c.args.wish in
    let marks = marks_of m.statuses.items m.stamps.items in
    record {
      long = length-set m.stamps.items k c.args.mark.stamp ∙ c.self.invariant.long
          ∙ sym (length-set m.statuses.items k c.args.mark.status);
      flags = c.set.ensures ∙ ap (set m.waits k) c.is_waiting.ensures
          ∙ ap (λ (flags : List Bool). set flags k (is_waiting c.args.mark)) c.self.invariant.flags
          ∙ sym (map-set is_waiting marks k c.args.mark)
          ∙ ap (map is_waiting) (sym (marks-set m.statuses.items m.stamps.items k c.args.mark));
    }

pub returns : goal.returns
returns c =
    let m = c.self.inside in
    marks-set m.statuses.items m.stamps.items c.args.wish c.args.mark
    ∙ ap (λ (ms : List Mark). set ms c.args.wish c.args.mark) c.self.view_is
