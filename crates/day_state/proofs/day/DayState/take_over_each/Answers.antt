use Rattle.std.proofs.Common.{◌≡◌, ◌∙◌, ap, arith, length, sym}
use Rattle.std.specs.Prelude.{slice_index}
use Rattle.admit_core.specs.DossierRows.{DossierRows, candidate_of}
use Rattle.admit_core.specs.OwnWishes.{own_places}
use Rattle.admit_core.specs.State.{State}
use Rattle.day_state.specs.Others.{TakesOver}
use Rattle.day_state.specs.Whole.{IsDayState}
use Rattle.day_state.proofs.TakingOver.{taking_more, taking_own, taking_all}
use Rattle.day_state.proofs.day.DayState.take_over_each.Goals as goal

pub loop-place-init : goal.loop-place-init
loop-place-init c = record {
  index = c.self.invariant.same;
  dossier = ap (λ (s : State). s.dossier) c.self.view_is;
  as_long = ap (λ (s : State). length s.marks) c.self.view_is;
  left = rw c.self.view_is c.requires.others;
}

pub own_of-own-requires : goal.own_of-own-requires
own_of-own-requires c =
    let wishes = ap (λ (d : DossierRows). length d.wishes) (c.deref.ensures ∙ c.loop-place.invariant.index
    ∙ c.loop-place.invariant.dossier) in
    omega (arith, wishes, c.requires.within c.loop-place.place-index 0 c.loop-place-test.true)

pub take_over-requires-clause-places : goal.take_over-requires-clause-places
take_over-requires-clause-places c =
    let whole : IsDayState c.self.inside.index.value c.args.self.now = rw c.self.view_is at c.self.invariant in
    let place = slice_index c.args.places.now c.loop-place.place-index in
    let own : c.own_of-own.result.now ≡ own_places c.loop-place.self-inside.index.value
    (candidate_of c.loop-place.self-inside.index.value place) = rw c.deref.ensures at c.own_of-own.ensures in
    rw own (taking_own c.args.places.now c.loop-place.place-index c.args.other.now c.args.self.now
    c.loop-place.self-inside.index.value c.loop-place.self-inside.live
    (candidate_of c.loop-place.self-inside.index.value place) whole.long c.loop-place.invariant)

pub loop-place-preserved : goal.loop-place-preserved
loop-place-preserved c =
    let whole : IsDayState c.self.inside.index.value c.args.self.now = rw c.self.view_is at c.self.invariant in
    let d = c.loop-place.self-inside.live.dossier in
    let place = slice_index c.args.places.now c.loop-place.place-index in
    let own : c.own_of-own.result.now ≡ own_places d (candidate_of d place) =
    rw (c.deref.ensures, c.loop-place.invariant.index) at c.own_of-own.ensures in
    let takes : TakesOver (own_places d (candidate_of d place)) c.args.other.now c.loop-place.self-inside.live
    c.take_over.new.self = rw (own, c.other.view_is) at c.take_over.ensures in
    taking_more c.args.places.now c.loop-place.place-index c.args.other.now c.args.self.now
    c.loop-place.self-inside.index.value c.loop-place.self-inside.live c.take_over.new.self c.loop-place-test.true
    whole.long (sym c.requires.dossier) c.loop-place.invariant takes

pub invariant_of-self : goal.invariant_of-self
invariant_of-self c =
    let whole : IsDayState c.self.inside.index.value c.args.self.now = rw c.self.view_is at c.self.invariant in
    let other : IsDayState c.other.inside.index.value c.args.other.now = rw c.other.view_is at c.other.invariant in
    let end : c.loop-place.self-inside.live ≡ c.args.other.now =
    taking_all c.args.places.now c.loop-place.place-index c.args.other.now c.args.self.now
    c.loop-place.self-inside.index.value c.loop-place.self-inside.live (omega (arith, c.loop-place-test.false))
    whole.long other.long (sym c.requires.dossier) c.loop-place.invariant in
    record {
      same = c.loop-place.invariant.index;
      long = rw end other.long;
      one_accepted = rw end other.one_accepted;
    }

pub returns : goal.returns
returns c =
    let whole : IsDayState c.self.inside.index.value c.args.self.now = rw c.self.view_is at c.self.invariant in
    let other : IsDayState c.other.inside.index.value c.args.other.now = rw c.other.view_is at c.other.invariant in
    taking_all c.args.places.now c.loop-place.place-index c.args.other.now c.args.self.now
    c.loop-place.self-inside.index.value c.loop-place.self-inside.live (omega (arith, c.loop-place-test.false))
    whole.long other.long (sym c.requires.dossier) c.loop-place.invariant
