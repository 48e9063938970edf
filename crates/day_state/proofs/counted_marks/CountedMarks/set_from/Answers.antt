use Rattle.std.proofs.Common.{◌≡◌, ◌∙◌, ap, sym}
use Rattle.admit_core.specs.State.{State}
use Rattle.day_state.proofs.counted_marks.CountedMarks.set_from.Goals as goal

pub set_from-requires-2 : goal.set_from-requires-2
set_from-requires-2 c =
    let dossier : c.self.inside.dossier.now ≡ c.other.inside.dossier.now =
    ap (λ (s : State). s.dossier) c.self.view_is ∙ c.requires ∙ sym (ap (λ (s : State). s.dossier) c.other.view_is) in
    (rw dossier at c.self.invariant.programmes.counts.as_long) ∙ sym c.other.invariant.programmes.counts.as_long

pub set_from-requires-3 : goal.set_from-requires-3
set_from-requires-3 c =
    let dossier : c.self.inside.dossier.now ≡ c.other.inside.dossier.now =
    ap (λ (s : State). s.dossier) c.self.view_is ∙ c.requires ∙ sym (ap (λ (s : State). s.dossier) c.other.view_is) in
    (rw dossier at c.self.invariant.schools.counts.as_long) ∙ sym c.other.invariant.schools.counts.as_long

pub invariant_of-self : goal.invariant_of-self
invariant_of-self c =
    let dossier : c.self.inside.dossier.now ≡ c.other.inside.dossier.now =
    ap (λ (s : State). s.dossier) c.self.view_is ∙ c.requires ∙ sym (ap (λ (s : State). s.dossier) c.other.view_is) in
    let programmes = (rw dossier at c.self.invariant.programmes.numbered) ∙ sym c.other.invariant.programmes.numbered in
    let schools = (rw dossier at c.self.invariant.schools.numbered) ∙ sym c.other.invariant.schools.numbered in
    rw (
      c.set_from.ensures,
      c.copy_counts.ensures,
      c.copy_counts-2.ensures,
      c.set_from-2.ensures.numbers,
      programmes,
      c.set_from-2.ensures.live,
      c.set_from-3.ensures.numbers,
      schools,
      c.set_from-3.ensures.live,
      dossier,
    )
    c.other.invariant
