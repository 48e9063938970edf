use Rattle.std.proofs.Common.{ℕ, get_or, refl, sym, arith, ◌+◌, subst, Vec, Global}
use Rattle.day_state.specs.declared.numbers.SharedWish.{SharedWish}
use Rattle.day_state.proofs.Entries.{AreStartsTo, starts_more, starts_same}
use Rattle.day_state.proofs.numbers.starts_of.Goals as goal
use Rattle.day_state.proofs.numbers.starts_of.Goals.{then-len-blocks+in_ok-resize, else-len-blocks}

pub loop-place-preserved : goal.loop-place-preserved
loop-place-preserved c =
    let entries = c.args.entries.now in
    let starts = c.loop-place.starts in
    let i = c.loop-place.place in
    let d : SharedWish = record { wish = 0; number = 0 } in
    let e : SharedWish = get_or entries i d in
    let P = λ (v : Vec ℕ Global). AreStartsTo entries v.items (i + 1) in
    elim c.if-len-blocks.branch [
      | then-len-blocks+in_ok-resize w ↦
          subst P (sym w.starts-is)
          (starts_more entries starts.items w.resize.new.self.items i e d c.loop-place-test.true refl
          (omega (arith, w.if-len-blocks.true, c.len.ensures, starts.ok.0))
          (omega (arith, w.in_ok-resize.ensures.len, w.resize.new.self.ok.0))
          (λ k x k_lt old. w.in_ok-resize.ensures.by_index.0 k x k_lt (omega (arith, old, starts.ok.0)))
          (λ k x le k_lt. w.in_ok-resize.ensures.by_index.1 k x refl (omega (arith, le, starts.ok.0)) k_lt)
          c.loop-place.invariant)
      | else-len-blocks w ↦
          subst P (sym w.starts-is)
          (starts_same entries starts.items i e d c.loop-place-test.true refl
          (omega (arith, w.if-len-blocks.false, c.len.ensures, starts.ok.0)) c.loop-place.invariant)
    ]
