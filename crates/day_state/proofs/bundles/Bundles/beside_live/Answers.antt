use Rattle.std.proofs.Common.{List, ◌∙◌, ap, arith, refl}
use Rattle.day_state.specs.declared.numbers.BundleNumber.{BundleNumber}
use Rattle.day_state.specs.Bundles.{number_at}
use Rattle.day_state.specs.Members.{has_number}
use Rattle.day_state.proofs.Beside.{beside_all, beside_more, beside_none}
use Rattle.day_state.proofs.bundles.Bundles.beside_live.Goals as goal

pub members-requires : goal.members-requires
members-requires c = c.in-Some.ensures.fits _ refl

pub overflow_add-from : goal.overflow_add-from
overflow_add-from c = omega (arith, c.in-Some.ensures.fits _ refl)

pub loop-number-init : goal.loop-number-init
loop-number-init c =
    let b = c.args.self.now in
    beside_none c.args.flags.now b.live b.numbers.value c.new-found.result.items c.new-found.ensures.items

pub loop-number-preserved : goal.loop-number-preserved
loop-number-preserved c =
    let b = c.args.self.now in
    let n = c.in-Some.number in
    beside_more b.live c.loop-number.from n c.in-Some.ensures.next c.args.flags.now b.numbers.value
    c.members.result.now c.loop-number.found.items c.push_set.new.found.items
    (λ k. c.members.ensures k ∙ ap (λ (ns : List BundleNumber). has_number n (number_at ns k)) c.deref.ensures)
    c.in_ok-push_set.ensures c.loop-number.invariant

pub returns : goal.returns
returns c =
    let b = c.args.self.now in
    beside_all c.args.flags.now b.live b.numbers.value c.loop-number.from c.loop-number.found.items
    c.in_default.ensures.next c.loop-number.invariant
