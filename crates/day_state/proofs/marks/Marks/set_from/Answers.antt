use Rattle.std.proofs.Common.{◌≡◌, ◌∙◌, ap, sym, length, Bool, List}
use Rattle.std.proofs.lemmas.List.{length-map}
use Rattle.admit_core.specs.State.{is_waiting}
use Rattle.admit_core.specs.declared.state.Mark.{Mark}
use Rattle.admit_core.specs.declared.state.Status.{Status}
use Rattle.day_state.specs.Marks.{marks_of}
use Rattle.day_state.proofs.Paired.{length-marks}
use Rattle.day_state.proofs.marks.Marks.set_from.Goals as goal

as_many : {mine theirs seen seen_too : List Mark} → mine ≡ seen → theirs ≡ seen_too → length seen ≡ length seen_too
    → length mine ≡ length theirs
as_many mine theirs same =
    ap (λ (ms : List Mark). length ms) mine ∙ same ∙ sym (ap (λ (ms : List Mark). length ms) theirs)

pub copy_from_slice-requires : goal.copy_from_slice-requires
copy_from_slice-requires c =
    let m = c.self.inside in
    let n = c.other.inside in
    ap (λ (l : List Status). length l) c.as_mut_slice.ensures.value
    ∙ sym (length-marks m.statuses.items m.stamps.items c.self.invariant.long)
    ∙ as_many c.self.view_is c.other.view_is c.requires
    ∙ length-marks n.statuses.items n.stamps.items c.other.invariant.long
    ∙ sym (ap (λ (l : List Status). length l) c.as_slice.ensures.value)

pub set_from-requires : goal.set_from-requires
set_from-requires c =
    let m = c.self.inside in
    let n = c.other.inside in
    ap (λ (l : List Bool). length l) c.self.invariant.flags
    ∙ length-map (marks_of m.statuses.items m.stamps.items) is_waiting
    ∙ as_many c.self.view_is c.other.view_is c.requires
    ∙ sym (length-map (marks_of n.statuses.items n.stamps.items) is_waiting)
    ∙ sym (ap (λ (l : List Bool). length l) c.other.invariant.flags)
