use Rattle.std.proofs.Common.{ap, set, ◌∙◌, Bool, Option, ℕ, length, refl, arith}
use Rattle.std.specs.Prelude.{is_some}
use Rattle.day_state.proofs.Entries.{sited_none, sited_more, sited_all}
use Rattle.day_state.proofs.bundle_numbers.sited_of.Goals as goal

pub loop-place-init : goal.loop-place-init
loop-place-init c =
    sited_none c.args.sites c.args.wishes.now c.in_ok-sited.sited (length c.args.wishes.now)
    c.in_ok-sited.ensures refl

pub set-requires : goal.set-requires
set-requires c = omega (arith, c.loop-place-test.true, c.loop-place.invariant.long)

pub loop-place-preserved : goal.loop-place-preserved
loop-place-preserved c =
    sited_more c.args.sites c.args.wishes.now c.loop-place.sited c.set.new.self c.loop-place.place _
    c.loop-place-test.true
    (c.set.ensures ∙ ap (λ (b : Bool). set c.loop-place.sited c.loop-place.place b)
    (c.is_some.ensures ∙ ap (λ (o : Option ℕ). is_some o) c.site_of.ensures))
    c.loop-place.invariant

pub returns : goal.returns
returns c =
    sited_all c.args.sites c.args.wishes.now c.loop-place.sited c.loop-place.place c.loop-place-test.false
    c.loop-place.invariant
