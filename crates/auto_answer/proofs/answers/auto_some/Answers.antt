use Rattle.std.proofs.Common.{◌∙◌, ap, sym, refl, length, arith, List, get_or}
use Rattle.admit_core.specs.declared.state.Mark.{Mark}
use Rattle.admit_core.specs.DossierRows.{DossierRows}
use Rattle.auto_answer.proofs.NewOffers.{answered_nobody, counts_next, dossier_stays, first_candidates, next_place}
use Rattle.auto_answer.proofs.NewOffers.{places_end}
use Rattle.auto_answer.proofs.answers.auto_some.Goals as goal

pub loop-place-init : goal.loop-place-init
loop-place-init c = answered_nobody c.args.state.now c.args.stamp
    (ap (λ (ms : List Mark). length ms) (sym c.marks.ensures.marks) ∙ c.marks.ensures.one_each)

pub answer_at-all-requires : goal.answer_at-all-requires
answer_at-all-requires c =
    let i = c.loop-place.place-index in
    let d = c.args.state.now.dossier in
    let few = ap (λ (d : DossierRows). length d.wishes) (c.behind-state.view_is ∙ c.dossier.ensures) in
    let asked = first_candidates d c.args.places.now i in
    let within = c.requires.within i 0 c.loop-place-test.true in
    let same = dossier_stays c.args.state.now c.loop-place.state c.args.stamp asked c.loop-place.all
    c.loop-place.invariant in
    record {
      place = rw same within;
      counts =
          counts_next c.args.state.now c.loop-place.state c.args.stamp asked (get_or c.args.places.now i 0)
          c.loop-place.all c.loop-place.invariant within
          (omega (arith, few, c.behind-state.invariant.size.wishes));
    }

pub loop-place-preserved : goal.loop-place-preserved
loop-place-preserved c =
    let i = c.loop-place.place-index in
    next_place c.args.state.now c.loop-place.state c.answer_at-all.new.state c.args.stamp c.args.places.now i
    (get_or c.args.places.now i 0) c.loop-place.all c.answer_at-all.result c.loop-place.invariant
    c.loop-place-test.true refl (c.requires.within i 0 c.loop-place-test.true)
    c.answer_at-all.ensures.state c.answer_at-all.ensures.freed

pub returns : goal.returns
returns c =
    let end =
    places_end c.args.state.now c.loop-place.state c.args.stamp c.args.places.now c.loop-place.place-index
    c.loop-place.all c.loop-place.invariant c.loop-place-test.false c.requires.others in
    record { state = end.0; freed = rw end.0 end.1 }
