use Rattle.std.proofs.Common.{ℕ, List, ◌<◌, ◌≡◌, ◌+◌, ◌-◌, ◌∙◌, arith, length, ap, refl, set, subst, sym}
use Rattle.std.specs.Prelude.{slice_index}
use Rattle.std.proofs.lemmas.List.{get_or_default, set-get_or}
use Rattle.markets.proofs.Rounds.{put_here, set_again}
use Rattle.markets.proofs.seating.lower_to.Goals as goal

pub loop-passed-preserved : goal.loop-passed-preserved
loop-passed-preserved g c =
    let bars = c.args.bars.now.items in
    let p : ℕ = c.args.programme in
    let v : ℕ = slice_index bars p + c.args.to - c.loop-passed._passed in
    let p_lt : p < length bars = omega (arith, c.requires.programme, c.requires.round.seated.one_bar_each) in (
      set_again bars c.loop-passed.bars.items c.step_down.new.bars.items p v
          (slice_index bars p + c.args.to - (c.loop-passed._passed + 1))
          p_lt
          c.loop-passed.invariant.0 c.step_down.ensures.bars (omega arith),
      c.step_down.ensures.round,
      omega (arith, c.loop-passed.invariant.2, c.tick.ensures),
    )

pub loop-passed-init : goal.loop-passed-init
loop-passed-init g c =
    let bars : List ℕ = c.args.bars.now.items in
    let p : ℕ = c.args.programme in
    let same : slice_index bars p ≡ slice_index bars p + c.args.to - c.args.to = omega arith in
    (sym (set-get_or bars p 0) ∙ ap (set bars p) same, c.requires.round, refl)

pub step_down-requires-clause-above : goal.step_down-requires-clause-above
step_down-requires-clause-above g c =
    let bars : List ℕ = c.args.bars.now.items in
    let p : ℕ = c.args.programme in
    let v : ℕ = slice_index bars p + c.args.to - c.loop-passed._passed in
    let p_lt : p < length bars = omega (arith, c.requires.programme, c.requires.round.seated.one_bar_each) in
    omega (
      arith,
      c.loop-passed-test.true,
      c.index-from.ensures ∙ get_or_default bars p c.index-from.result.now 0 p_lt,
      put_here bars c.loop-passed.bars.items p v p_lt c.loop-passed.invariant.0,
    )

pub step_down-requires-clause-round : goal.step_down-requires-clause-round
step_down-requires-clause-round g c = c.loop-passed.invariant.1

pub returns-clause-bars : goal.returns-clause-bars
returns-clause-bars g c =
    let bars : List ℕ = c.args.bars.now.items in
    let p : ℕ = c.args.programme in
    let p_lt : p < length bars = omega (arith, c.requires.programme, c.requires.round.seated.one_bar_each) in
    let from : c.index-from.result.now ≡ slice_index bars p = c.index-from.ensures
    ∙ get_or_default bars p c.index-from.result.now 0 p_lt in
    let end : slice_index bars p + c.args.to - c.loop-passed._passed ≡ c.args.to =
    omega (
      arith,
      from,
      c.loop-passed-test.false,
      c.loop-passed.auto._passed-end
          (omega (arith, from, c.requires.lower)),
    ) in
    let P = λ (v : ℕ). c.loop-passed.bars.items ≡ set bars p v in
    subst P end c.loop-passed.invariant.0

pub returns-clause-steps : goal.returns-clause-steps
returns-clause-steps g c =
    let bars : List ℕ = c.args.bars.now.items in
    let p : ℕ = c.args.programme in
    let p_lt : p < length bars = omega (arith, c.requires.programme, c.requires.round.seated.one_bar_each) in
    let from : c.index-from.result.now ≡ slice_index bars p = c.index-from.ensures
    ∙ get_or_default bars p c.index-from.result.now 0 p_lt in
    omega (
      arith,
      from,
      c.requires.lower,
      c.loop-passed-test.false,
      c.loop-passed.auto._passed-end (omega (arith, from, c.requires.lower)),
      c.loop-passed.invariant.2,
    )
