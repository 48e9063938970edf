use Rattle.std.proofs.Common.{ℕ, get_or, nat_eq, refl, sym, ◌∙◌, ap, arith, subst}
use Rattle.admit_core.specs.DossierRows.{DossierRows}
use Rattle.admit_core.specs.Validity.{IsValid}
use Rattle.day_state.specs.Kept.{wish_in}
use Rattle.linked_demand.specs.declared.calling.CalledWish.{CalledWish}
use Rattle.linked_demand.specs.declared.wishing.Application.{Application}
use Rattle.linked_demand.specs.CalledWishes.{called_wish_at}
use Rattle.linked_demand.specs.Claims.{wishes_of}
use Rattle.linked_demand.specs.Seats.{applies_at}
use Rattle.linked_demand.proofs.ClaimSpans.{application_read}
use Rattle.linked_demand.proofs.Dealing.{puts_more}
use Rattle.linked_demand.proofs.Keyed.{programme_at}
use Rattle.linked_demand.proofs.calling.deal.Goals as goal

abbrev called_wish : ℕ → ℕ → CalledWish
called_wish wish before = record { wish = wish; before = before }

pub put_with_room-requires-clause-row : goal.put_with_room-requires-clause-row
put_with_room-requires-clause-row c =
    let d = c.args.state.now.dossier in
    let P : DossierRows → Type 0 = IsValid in
    let valid = subst P (c.dossier.view_is ∙ c.dossier-dossier.ensures) c.dossier.invariant in
    let claim = c.args.claim.now in
    let i = c.loop-application.application-index in
    let none : Application = record { wish = 0; programme = 0; candidate = 0 } in
    let read = application_read d claim i none c.loop-application-test.true c.requires.programmes in
    let k = get_or (wishes_of claim) i 0 in
    let below = programme_at d valid k (c.requires.within i 0 read.0) (wish_in d.wishes k) refl in
    omega (
      arith,
      ap (λ (a : Application). a.programme) read.1,
      below,
      c.loop-application.invariant.as_many,
      c.requires.rows,
    )

pub loop-application-preserved : goal.loop-application-preserved
loop-application-preserved c =
    let d = c.args.state.now.dossier in
    let claim = c.args.claim.now in
    let i = c.loop-application.application-index in
    let none : Application = record { wish = 0; programme = 0; candidate = 0 } in
    let own = get_or claim i none in
    let read = application_read d claim i none c.loop-application-test.true c.requires.programmes in
    let ks = wishes_of claim in
    let k = get_or ks i 0 in
    let here = λ (h : ℕ). ap (λ (a : Application). nat_eq a.programme h) read.1 in
    puts_more (called_wish_at d c.args.orders.now.orders) (applies_at d) ks i (λ h. nat_eq own.programme h)
    (called_wish own.wish c.args.before) c.args.called.now.items c.loop-application.called.items
    c.put_with_room.new.rows.items read.0 here
    (ap (λ (a : Application). called_wish a.wish c.args.before) read.1
    ∙ ap (called_wish k) (sym (c.requires.before i 0 read.0)))
    c.loop-application.invariant c.in_ok-put_with_room.ensures
