use Rattle.std.proofs.Common.{◌≡◌, ◌<◌, ◌∙◌, ap, sym, subst, length}
use Rattle.admit_core.specs.DossierRows.{DossierRows}
use Rattle.admit_core.specs.Validity.{IsValid}
use Rattle.day_state.proofs.Change.{seat_ready, bed_ready, freed_changed}
use Rattle.day_state.proofs.Bundled.{can_turn}
use Rattle.day_state.proofs.Telling.{keeps_changed, seat_turned, bed_turned}
use Rattle.day_state.proofs.counted_marks.CountedMarks.set_mark.Goals as goal

pub turn-seat-requires : goal.turn-seat-requires
turn-seat-requires c =
    let d = c.self.inside.dossier.now in
    let marks = c.self.inside.marks in
    let in_range : c.args.wish < length marks = rw (sym c.self.view_is) at c.requires in
    let valid : IsValid d = subst IsValid c.dossier.view_is c.dossier.invariant in
    let was = c.is_live-was_live.ensures in
    let can = can_turn c.self.invariant.programmes c.self.invariant.kept.marks in_range valid.size.wishes c.args.mark
    was c.is_live-lives.ensures in
    record { place = can.has.place; number = can.has.number; comes = can.comes; goes = can.goes }

pub turn-bed-requires : goal.turn-bed-requires
turn-bed-requires c =
    let d = c.self.inside.dossier.now in
    let marks = c.self.inside.marks in
    let in_range : c.args.wish < length marks = rw (sym c.self.view_is) at c.requires in
    let valid : IsValid d = subst IsValid c.dossier.view_is c.dossier.invariant in
    let was = c.is_live-was_live.ensures in
    let can = can_turn c.self.invariant.schools c.self.invariant.kept.marks in_range valid.size.wishes c.args.mark
    was c.is_live-lives.ensures in
    record { place = can.has.place; number = can.has.number; comes = can.comes; goes = can.goes }

pub recount-requires : goal.recount-requires
recount-requires c =
    let d = c.self.inside.dossier.now in
    let marks = c.self.inside.marks in
    let in_range : c.args.wish < length marks = rw (sym c.self.view_is) at c.requires in
    let valid : IsValid d = subst IsValid c.dossier.view_is c.dossier.invariant in
    let wishes : c.as_slice.result.now ≡ d.wishes =
    c.as_slice.ensures ∙ ap (λ (d : DossierRows). d.wishes) c.dossier.view_is in
    let was = c.is_live-was_live.ensures in
    let seat = seat_turned c.self.invariant in_range c.args.mark was c.is_live-lives.ensures c.turn-seat.ensures.live
    c.turn-seat.ensures.had c.turn-seat.ensures.has in
    let ready = seat_ready valid c.self.invariant.kept in_range c.args.mark in
    record {
      place = rw (c.wish_at-named.ensures, wishes) ready.place;
      comes = rw (c.wish_at-named.ensures, wishes, seat.1) ready.comes;
      goes = rw (c.wish_at-named.ensures, wishes, seat.0, seat.1) ready.goes;
    }

pub recount_some-requires : goal.recount_some-requires
recount_some-requires c =
    let d = c.self.inside.dossier.now in
    let marks = c.self.inside.marks in
    let in_range : c.args.wish < length marks = rw (sym c.self.view_is) at c.requires in
    let valid : IsValid d = subst IsValid c.dossier.view_is c.dossier.invariant in
    let wishes : c.as_slice.result.now ≡ d.wishes =
    c.as_slice.ensures ∙ ap (λ (d : DossierRows). d.wishes) c.dossier.view_is in
    let was = c.is_live-was_live.ensures in
    let bed = bed_turned c.self.invariant in_range c.args.mark was c.is_live-lives.ensures c.turn-bed.ensures.live
    c.turn-bed.ensures.had c.turn-bed.ensures.has in
    let ready = bed_ready valid c.self.invariant.kept in_range c.args.mark in
    record {
      place = rw (c.wish_at-named.ensures, wishes) (λ h is. (ready h is).place);
      comes = rw (c.wish_at-named.ensures, wishes, bed.1) (λ h is. (ready h is).comes);
      goes = rw (c.wish_at-named.ensures, wishes, bed.0, bed.1) (λ h is. (ready h is).goes);
    }

pub invariant_of-self : goal.invariant_of-self
invariant_of-self c =
    let d = c.self.inside.dossier.now in
    let marks = c.self.inside.marks in
    let in_range : c.args.wish < length marks = rw (sym c.self.view_is) at c.requires in
    let valid : IsValid d = subst IsValid c.dossier.view_is c.dossier.invariant in
    let wishes : c.as_slice.result.now ≡ d.wishes =
    c.as_slice.ensures ∙ ap (λ (d : DossierRows). d.wishes) c.dossier.view_is in
    let was = c.is_live-was_live.ensures in
    let seat = seat_turned c.self.invariant in_range c.args.mark was c.is_live-lives.ensures c.turn-seat.ensures.live
    c.turn-seat.ensures.had c.turn-seat.ensures.has in
    let bed = bed_turned c.self.invariant in_range c.args.mark was c.is_live-lives.ensures c.turn-bed.ensures.live
    c.turn-bed.ensures.had c.turn-bed.ensures.has in
    rw (
      c.set.ensures,
      c.recount.ensures,
      c.recount_some.ensures,
      c.wish_at-named.ensures,
      wishes,
      seat.0,
      seat.1,
      bed.0,
      bed.1,
      c.turn-seat.ensures.numbers,
      c.turn-bed.ensures.numbers,
      c.turn-seat.ensures.live,
      c.turn-bed.ensures.live,
      was,
      c.is_live-lives.ensures,
    )
    (keeps_changed c.self.invariant in_range c.args.mark valid)

pub returns-clause-freed : goal.returns-clause-freed
returns-clause-freed c =
    let d = c.self.inside.dossier.now in
    let marks = c.self.inside.marks in
    let in_range : c.args.wish < length marks = rw (sym c.self.view_is) at c.requires in
    let valid : IsValid d = subst IsValid c.dossier.view_is c.dossier.invariant in
    let was = c.is_live-was_live.ensures in
    let seat = seat_turned c.self.invariant in_range c.args.mark was c.is_live-lives.ensures c.turn-seat.ensures.live
    c.turn-seat.ensures.had c.turn-seat.ensures.has in
    let bed = bed_turned c.self.invariant in_range c.args.mark was c.is_live-lives.ensures c.turn-bed.ensures.live
    c.turn-bed.ensures.had c.turn-bed.ensures.has in
    rw (← c.self.view_is, c.set.ensures, c.lost.ensures, c.lost-2.ensures, seat.0, seat.1, bed.0, bed.1)
    (sym (freed_changed valid c.self.invariant.kept in_range c.args.mark))
