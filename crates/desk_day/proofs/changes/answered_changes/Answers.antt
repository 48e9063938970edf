use Rattle.std.proofs.Common.{◌∙◌, ◌<◌, ap, sym, length, arith, zip, List, List}
use Rattle.std.specs.List.{enumerate_from}
use Rattle.admit_core.specs.declared.state.Mark.{Mark}
use Rattle.admit_core.specs.DossierRows.{DossierRows}
use Rattle.desk_day.proofs.ChangedMarks.{change_of, is_answered}
use Rattle.desk_day.proofs.Listed.{listed_all}
use Rattle.desk_day.proofs.MarkPairs.{changed_here, unchanged_here, pairs_long}
use Rattle.desk_day.proofs.changes.answered_changes.Goals as goal
use Rattle.desk_day.proofs.changes.answered_changes.Goals.{then-is_answered_change+in_ok-push, else-is_answered_change}

pub overflow_cast-count : goal.overflow_cast-count
overflow_cast-count c = omega (arith, c.len-count.ensures, c.behind-opening.invariant.size.wishes)

pub status-requires : goal.status-requires
status-requires c =
    let wishes = ap (λ (d : DossierRows). length d.wishes) (c.behind-opening.view_is ∙ c.dossier.ensures) in
    omega (arith, c.len-count.ensures, wishes, c.loop-wish-test.true)

pub status-status-requires : goal.status-status-requires
status-status-requires c =
    let wishes = ap (λ (d : DossierRows). length d.wishes)
    (c.behind-opening.view_is ∙ c.dossier.ensures ∙ sym c.requires) in
    omega (arith, c.len-count.ensures, wishes, c.loop-wish-test.true)

pub loop-wish-preserved : goal.loop-wish-preserved
loop-wish-preserved c =
    let wishes = ap (λ (d : DossierRows). length d.wishes) (c.behind-opening.view_is ∙ c.dossier.ensures) in
    let wishes_too = ap (λ (d : DossierRows). length d.wishes) c.requires in
    let open_long = ap (λ (ms : List Mark). length ms) c.marks.ensures.marks in
    let close_long = ap (λ (ms : List Mark). length ms) c.marks-2.ensures.marks in
    let lt : c.loop-wish.wish < length c.args.opening.now.marks = omega
    (arith, c.len-count.ensures, wishes, c.loop-wish-test.true, open_long, c.marks.ensures.one_each) in
    let lt_too : c.loop-wish.wish < length c.args.closing.now.marks = omega
    (arith, c.len-count.ensures, wishes, wishes_too, c.loop-wish-test.true, close_long, c.marks-2.ensures.one_each) in
    elim c.if-is_answered_change.branch [
      | then-is_answered_change+in_ok-push w ↦
          rw w.changes-is (w.in_ok-push.ensures.items
          ∙ changed_here c.args.opening.now.marks c.args.closing.now.marks c.loop-wish.wish c.status.result
          c.status-status.result
          c.loop-wish.changes.items c.loop-wish.invariant lt lt_too c.status.ensures c.status-status.ensures
          (sym c.is_answered_change.ensures ∙ w.if-is_answered_change.true))
      | else-is_answered_change w ↦
          rw w.changes-is
          (unchanged_here c.args.opening.now.marks c.args.closing.now.marks c.loop-wish.wish c.status.result
          c.status-status.result
          c.loop-wish.changes.items c.loop-wish.invariant lt lt_too c.status.ensures c.status-status.ensures
          (sym c.is_answered_change.ensures ∙ w.if-is_answered_change.false))
    ]

pub returns : goal.returns
returns c =
    let wishes = ap (λ (d : DossierRows). length d.wishes) (c.behind-opening.view_is ∙ c.dossier.ensures) in
    let open_long = ap (λ (ms : List Mark). length ms) c.marks.ensures.marks in
    c.loop-wish.invariant
    ∙ listed_all change_of is_answered (enumerate_from 0 (zip c.args.opening.now.marks c.args.closing.now.marks))
    c.loop-wish.wish
    (omega (
      arith,
      pairs_long c.args.opening.now.marks c.args.closing.now.marks,
      c.len-count.ensures,
      wishes,
      c.loop-wish-test.false,
      open_long,
      c.marks.ensures.one_each,
    ))
