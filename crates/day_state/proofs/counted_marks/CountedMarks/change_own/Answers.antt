use Rattle.std.proofs.Common.{◌≡◌, ◌∙◌, length, subst, sym, ap, refl, arith}
use Rattle.std.specs.Prelude.{slice_index}
use Rattle.admit_core.specs.DossierRows.{DossierRows}
use Rattle.admit_core.specs.Validity.{IsValid}
use Rattle.admit_core.specs.State.{State}
use Rattle.day_state.specs.Along.{changed_by}
use Rattle.day_state.proofs.Along.{on_way_none, on_way_place, on_way_end}
use Rattle.day_state.proofs.Freeing.{has_freed_none}
use Rattle.day_state.proofs.Changing.{IsStep, counted_step, changing_more}
use Rattle.day_state.proofs.counted_marks.CountedMarks.change_own.Goals as goal

abbrev IsWhole : State → Type 0
IsWhole s = length s.marks ≡ length s.dossier.wishes

pub loop-place-init : goal.loop-place-init
loop-place-init c = record {
  on_way = on_way_none (changed_by c.args.change c.args.stamp) c.args.self.now
      c.args.own.now;
  so_far = has_freed_none c.args.self.now c.args.candidate;
}

pub mark-requires : goal.mark-requires
mark-requires c =
    let f = changed_by c.args.change c.args.stamp in
    let long : length c.args.self.now.marks ≡ length c.args.self.now.dossier.wishes =
    subst IsWhole c.self.view_is c.self.invariant.kept.marks in
    let place = on_way_place f c.args.self.now c.loop-place.self c.args.own.now c.args.candidate
    c.loop-place.place-index long c.requires c.loop-place.invariant.on_way c.loop-place-test.true in
    place.0

pub wish_at-requires : goal.wish_at-requires
wish_at-requires c =
    let f = changed_by c.args.change c.args.stamp in
    let long : length c.args.self.now.marks ≡ length c.args.self.now.dossier.wishes =
    subst IsWhole c.self.view_is c.self.invariant.kept.marks in
    let place = on_way_place f c.args.self.now c.loop-place.self c.args.own.now c.args.candidate
    c.loop-place.place-index long c.requires c.loop-place.invariant.on_way c.loop-place-test.true in
    let same : c.self.inside.dossier.now ≡ c.args.self.now.dossier = ap (λ (s : State). s.dossier) c.self.view_is in
    let wishes : c.as_slice-wishes.result.now ≡ c.args.self.now.dossier.wishes = c.as_slice-wishes.ensures
    ∙ ap (λ (d : DossierRows). d.wishes) (c.dossier.view_is ∙ same) in
    rw wishes (omega (arith, place.0, long, c.loop-place.invariant.on_way.long))

pub set_other-requires : goal.set_other-requires
set_other-requires c =
    let f = changed_by c.args.change c.args.stamp in
    let long : length c.args.self.now.marks ≡ length c.args.self.now.dossier.wishes =
    subst IsWhole c.self.view_is c.self.invariant.kept.marks in
    let place = on_way_place f c.args.self.now c.loop-place.self c.args.own.now c.args.candidate
    c.loop-place.place-index long c.requires c.loop-place.invariant.on_way c.loop-place-test.true in
    place.0

pub freed_in_all-freed-requires : goal.freed_in_all-freed-requires
freed_in_all-freed-requires c =
    let long : length c.args.self.now.marks ≡ length c.args.self.now.dossier.wishes =
    subst IsWhole c.self.view_is c.self.invariant.kept.marks in
    let same : c.self.inside.dossier.now ≡ c.args.self.now.dossier = ap (λ (s : State). s.dossier) c.self.view_is in
    let wishes : c.as_slice-wishes.result.now ≡ c.loop-place.self.dossier.wishes =
    c.as_slice-wishes.ensures ∙ ap (λ (d : DossierRows). d.wishes) (c.dossier.view_is ∙ same
    ∙ sym c.loop-place.invariant.on_way.dossier) in
    let valid : IsValid c.args.self.now.dossier = subst IsValid (c.dossier.view_is ∙ same) c.dossier.invariant in
    let step : IsStep c.args.change c.args.stamp c.loop-place.self c.set_other.new.self
    (slice_index c.args.own.now c.loop-place.place-index) c.changed_by-mark.result c.set_other.result = record {
      mark = c.changed_by-mark.ensures ∙ rw (c.wish_at.ensures, c.mark.ensures, wishes) refl;
      state = c.set_other.ensures.state;
      freed = c.set_other.ensures.freed;
    } in
    let counted = counted_step c.args.change c.args.stamp c.args.candidate c.args.own.now c.args.self.now
    c.loop-place.self c.set_other.new.self c.loop-place.freed c.set_other.result c.loop-place.place-index
    c.changed_by-mark.result valid long c.requires c.loop-place.invariant c.loop-place-test.true step in
    record { seats = counted.seats_fit; beds = counted.beds_fit }

pub loop-place-preserved : goal.loop-place-preserved
loop-place-preserved c =
    let long : length c.args.self.now.marks ≡ length c.args.self.now.dossier.wishes =
    subst IsWhole c.self.view_is c.self.invariant.kept.marks in
    let same : c.self.inside.dossier.now ≡ c.args.self.now.dossier = ap (λ (s : State). s.dossier) c.self.view_is in
    let wishes : c.as_slice-wishes.result.now ≡ c.loop-place.self.dossier.wishes =
    c.as_slice-wishes.ensures ∙ ap (λ (d : DossierRows). d.wishes) (c.dossier.view_is ∙ same
    ∙ sym c.loop-place.invariant.on_way.dossier) in
    let valid : IsValid c.args.self.now.dossier = subst IsValid (c.dossier.view_is ∙ same) c.dossier.invariant in
    let step : IsStep c.args.change c.args.stamp c.loop-place.self c.set_other.new.self
    (slice_index c.args.own.now c.loop-place.place-index) c.changed_by-mark.result c.set_other.result = record {
      mark = c.changed_by-mark.ensures ∙ rw (c.wish_at.ensures, c.mark.ensures, wishes) refl;
      state = c.set_other.ensures.state;
      freed = c.set_other.ensures.freed;
    } in
    rw c.freed_in_all-freed.ensures (changing_more c.args.change c.args.stamp c.args.candidate c.args.own.now
    c.args.self.now c.loop-place.self c.set_other.new.self c.loop-place.freed c.set_other.result
    c.loop-place.place-index c.changed_by-mark.result valid long c.requires c.loop-place.invariant
    c.loop-place-test.true step)

pub returns-clause-state : goal.returns-clause-state
returns-clause-state c =
    let f = changed_by c.args.change c.args.stamp in
    let long : length c.args.self.now.marks ≡ length c.args.self.now.dossier.wishes =
    subst IsWhole c.self.view_is c.self.invariant.kept.marks in
    on_way_end f c.args.self.now c.loop-place.self c.args.own.now c.args.candidate c.loop-place.place-index long
    c.requires c.loop-place.invariant.on_way c.loop-place-test.false

pub returns-clause-freed : goal.returns-clause-freed
returns-clause-freed c = c.loop-place.invariant.so_far.counted
