use Rattle.std.proofs.Common.{ℕ, [], ◌∷◌, ◌++◌, None, get_or, sym, ◌∙◌, arith}
use Rattle.admit_core.specs.declared.dossier.Wish.{Wish}
use Rattle.admit_core.specs.declared.tables.StateRow.{StateRow}
use Rattle.admit_core.specs.Answers.{status_at}
use Rattle.text_laws.specs.ReadBack.{since_when}
use Rattle.next_morning.proofs.RowsMore.{rows_more}
use Rattle.next_morning.proofs.dates.dated_rows.Goals as goal

pub loop-place-preserved : goal.loop-place-preserved
loop-place-preserved c =
    let k = c.loop-place.place in
    let wishes = c.as_slice-wishes.result.now in
    let none : Wish = record { id = 0; candidate = 0; programme = 0; school = None; board_rank = 0; preference = 0 } in
    let made : ℕ × Wish → StateRow = λ x. record {
      wish = x.1.id;
      status = status_at c.args.evening.now x.0;
      since = since_when c.args.evening.now c.args.start c.args.terms.now.before x.0;
    } in
    c.in_ok-push.ensures.items
    ∙ (λ i. c.loop-place.invariant i
    ++ record { wish = (get_or wishes k none).id; status = c.status.ensures i; since = c.since_when.ensures i } ∷ [])
    ∙ sym (rows_more made wishes k none (omega arith))
