use Rattle.std.proofs.Common.{ℕ, refl, sym, arith, ◌+◌, subst, Vec, Global}
use Rattle.day_state.proofs.ByNumber.{AreBeginsTo, begins_all, begins_more, begins_same, no_entry}
use Rattle.day_state.proofs.members.begins_of.Goals as goal
use Rattle.day_state.proofs.members.begins_of.Goals.{then-len-numbers+in_ok-resize, else-len-numbers}

pub loop-place-preserved : goal.loop-place-preserved
loop-place-preserved c =
    let entries = c.args.entries.now in
    let begins = c.loop-place.begins in
    let i = c.loop-place.place in
    let lt = c.loop-place-test.true in
    let P = λ (v : Vec ℕ Global). AreBeginsTo entries v.items (i + 1) in
    elim c.if-len-numbers.branch [
      | then-len-numbers+in_ok-resize w ↦
          subst P (sym w.begins-is)
          (begins_more entries c.requires begins.items i lt c.loop-place.invariant w.resize.new.self.items no_entry
          (omega (arith, w.if-len-numbers.true, c.len.ensures, begins.ok.0))
          (omega (arith, w.in_ok-resize.ensures.len, w.resize.new.self.ok.0))
          (λ k x k_lt old. w.in_ok-resize.ensures.by_index.0 k x k_lt (omega (arith, old, begins.ok.0)))
          (λ k x le k_lt. w.in_ok-resize.ensures.by_index.1 k x refl (omega (arith, le, begins.ok.0)) k_lt))
      | else-len-numbers w ↦
          subst P (sym w.begins-is)
          (begins_same entries c.requires begins.items i lt c.loop-place.invariant no_entry
          (omega (arith, w.if-len-numbers.false, c.len.ensures, begins.ok.0)))
    ]

pub returns : goal.returns
returns c =
    begins_all c.args.entries.now c.loop-place.begins.items c.loop-place.place c.loop-place-test.false
    (omega (arith, c.loop-place.auto)) c.loop-place.invariant
