use Rattle.std.proofs.Common.{◌≡◌, ◌+◌, ℕ, Bool, cond, count_by, refl, arith}
use Rattle.std.proofs.lemmas.List.FromFn.{sum_by-map-range_with_len_more}
use Rattle.admit_core.specs.Answers.{mark_at}
use Rattle.admit_core.specs.State.{State, is_gone, is_live, is_waiting}
use Rattle.admit_core.specs.declared.state.Mark.{Mark}
use Rattle.report.specs.SampleText.{marks_until}
use Rattle.report.proofs.sample.wish_counts.Goals as goal

-- one more wish
counted : (kind : Mark → Bool) (s : State) (n : ℕ)
    → count_by kind (marks_until s (n + 1)) ≡ count_by kind (marks_until s n) + cond (kind (mark_at s n)) 1 0
counted kind s n = sum_by-map-range_with_len_more (λ m. cond (kind m) 1 0) (mark_at s) 0 n n (omega arith)

pub loop-wish-preserved : goal.loop-wish-preserved
loop-wish-preserved c =
    let s = c.args.state.now in
    let k = c.loop-wish.wish in
    record {
      live = rw (c.with-counts.ensures.live, c.loop-wish.invariant.live, c.status.ensures, counted is_live s k) refl;
      waiting = rw (
        c.with-counts.ensures.waiting,
        c.loop-wish.invariant.waiting,
        c.status.ensures,
        counted is_waiting s k,
      ) refl;
      gone = rw (c.with-counts.ensures.gone, c.loop-wish.invariant.gone, c.status.ensures, counted is_gone s k) refl;
      total = omega (arith, c.with-counts.ensures.total, c.loop-wish.invariant.total);
    }
