use Rattle.std.proofs.Common.{ℕ, ◌∷◌, [], arith, decimal}
use Rattle.report.specs.Words.{line}
use Rattle.report.proofs.Pushing.{cut_off}
use Rattle.report.proofs.PushedItems.{cut_pair, pushed_pair, pushed_pairs}
use Rattle.report.proofs.ids.push_numbers.Goals as goal

pub returns-in_err-push_line : goal.returns-in_err-push_line
returns-in_err-push_line g c =
    let number_line = λ (x : g.row.T.Denot × ℕ).
    line (c.args.word.now ∷ decimal (g.T.HasId.id_of x.0) ∷ decimal x.1 ∷ []) in
    cut_off c.from_residual.result c.from_residual.ensures.0
    (cut_pair number_line c.args.items.now c.args.numbers.now c.loop-place.place c.index-items-place.result
    (omega arith) c.index-items-place.is c.loop-place.invariant (rw c.id.ensures at c.in_err-push_line.ensures))

pub loop-place-preserved : goal.loop-place-preserved
loop-place-preserved g c =
    let number_line = λ (x : g.row.T.Denot × ℕ).
    line (c.args.word.now ∷ decimal (g.T.HasId.id_of x.0) ∷ decimal x.1 ∷ []) in
    pushed_pair number_line c.args.items.now c.args.numbers.now c.loop-place.place c.index-items-place.result
    (omega arith) c.index-items-place.is c.loop-place.invariant (rw c.id.ensures at c.in_ok-push_line.ensures)

pub returns : goal.returns
returns g c =
    let number_line = λ (x : g.row.T.Denot × ℕ).
    line (c.args.word.now ∷ decimal (g.T.HasId.id_of x.0) ∷ decimal x.1 ∷ []) in
    pushed_pairs number_line c.args.items.now c.args.numbers.now c.loop-place.place (omega arith)
    c.loop-place.invariant
