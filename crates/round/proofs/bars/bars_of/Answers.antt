use Rattle.std.proofs.Common.{◌<◌, ◌≤◌, ◌∙◌, ap, arith, length, subst, sym}
use Rattle.std.proofs.lemmas.List.{take_all}
use Rattle.round.proofs.Found.{bars_more}
use Rattle.round.proofs.bars.bars_of.Goals as goal

pub loop-i-init : goal.loop-i-init
loop-i-init g c = c.new-bars.ensures.items

pub bar-requires : goal.bar-requires
bar-requires g c = subst (λ n. c.loop-i.i < n) c.count-i-end.ensures c.loop-i-test.true

pub loop-i-preserved : goal.loop-i-preserved
loop-i-preserved g c =
    bars_more (g.F.Falling.bars c.args.system.now) c.loop-i.bars.items c.push.new.self.items c.loop-i.i
    c.count-i-end.result c.bar.result
    (c.count-i-end.ensures ∙ sym (g.met.F.Falling.one_bar_each c.args.system.now)) c.loop-i-test.true c.loop-i.invariant
    c.bar.ensures
    c.in_ok-push.ensures.items

pub returns-clause-bars : goal.returns-clause-bars
returns-clause-bars g c =
    let as_many = c.count-i-end.ensures ∙ sym (g.met.F.Falling.one_bar_each c.args.system.now) in
    c.loop-i.invariant
    ∙ take_all c.loop-i.i (g.F.Falling.bars c.args.system.now) (subst (λ n. n ≤ c.loop-i.i) as_many c.loop-i-test.false)

pub returns-in_err-push-clause-always : goal.returns-in_err-push-clause-always
returns-in_err-push-clause-always g c =
    λ none.
    let as_many = c.count-i-end.ensures ∙ sym (g.met.F.Falling.one_bar_each c.args.system.now) in
    absurd (omega (arith, c.loop-i-test.true, as_many, ap length none))
