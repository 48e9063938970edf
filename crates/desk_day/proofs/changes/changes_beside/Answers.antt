use Rattle.std.proofs.Common.{◌≡◌, ◌∙◌, ap, sym, List, length}
use Rattle.admit_core.specs.declared.state.Mark.{Mark}
use Rattle.admit_core.specs.DossierRows.{DossierRows}
use Rattle.desk_day.proofs.Listed.{listed_all}
use Rattle.desk_day.proofs.BesideChanges.{changed_at, change_at, beside_within, beside_some, beside_none, all_beside}
use Rattle.desk_day.proofs.changes.changes_beside.Goals as goal
use Rattle.desk_day.proofs.changes.changes_beside.Goals.{then-is_answered_change+in_ok-push, else-is_answered_change}

pub loop-place-init : goal.loop-place-init
loop-place-init c = c.new-changes.ensures.items

pub status-status-requires : goal.status-status-requires
status-status-requires c =
    rw c.requires.same
    (beside_within c.args.opening.now.dossier c.args.places.now c.as_slice-place-items.result.now
    c.loop-place.place-index
    (c.as_slice-place-items.ensures.value ∙ c.in_ok-own.ensures)
    c.loop-place-test.true)

pub status-requires : goal.status-requires
status-requires c =
    beside_within c.args.opening.now.dossier c.args.places.now c.as_slice-place-items.result.now
    c.loop-place.place-index
    (c.as_slice-place-items.ensures.value ∙ c.in_ok-own.ensures)
    c.loop-place-test.true

pub loop-place-preserved : goal.loop-place-preserved
loop-place-preserved c =
    let ms = c.args.opening.now.marks in
    let ns = c.args.closing.now.marks in
    elim c.if-is_answered_change.branch [
      | then-is_answered_change+in_ok-push w ↦
          rw w.changes-is (w.in_ok-push.ensures.items
          ∙ beside_some ms ns c.as_slice-place-items.result.now c.loop-place.place-index c.status.result
          c.status-status.result
          c.loop-place.changes.items c.loop-place.invariant c.loop-place-test.true
          c.status.ensures c.status-status.ensures (sym c.is_answered_change.ensures ∙ w.if-is_answered_change.true))
      | else-is_answered_change w ↦
          rw w.changes-is
          (beside_none ms ns c.as_slice-place-items.result.now c.loop-place.place-index c.status.result
          c.status-status.result
          c.loop-place.changes.items c.loop-place.invariant c.loop-place-test.true
          c.status.ensures c.status-status.ensures (sym c.is_answered_change.ensures ∙ w.if-is_answered_change.false))
    ]

pub returns : goal.returns
returns c =
    let s = c.args.opening.now in
    let t = c.args.closing.now in
    let own = c.as_slice-place-items.result.now in
    let long : length s.marks ≡ length s.dossier.wishes = ap (λ (ms : List Mark). length ms) (sym c.marks.ensures.marks)
    ∙ c.marks.ensures.one_each in
    let long_too : length t.marks ≡ length s.dossier.wishes =
    ap (λ (ms : List Mark). length ms) (sym c.marks-2.ensures.marks) ∙ c.marks-2.ensures.one_each
    ∙ ap (λ (d : DossierRows). length d.wishes) c.requires.same in
    c.loop-place.invariant
    ∙ listed_all (change_at t.marks) (changed_at s.marks t.marks) own c.loop-place.place-index c.loop-place-test.false
    ∙ all_beside s t c.args.places.now own long long_too c.requires.others
    (c.as_slice-place-items.ensures.value ∙ c.in_ok-own.ensures)
