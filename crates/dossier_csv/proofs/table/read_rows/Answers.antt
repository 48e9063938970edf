use Rattle.std.proofs.Common.{◌≡◌, ◌∙◌, true, rules, arith}
use Rattle.std.specs.Result.{is_ok}
use Rattle.std.proofs.lemmas.Result.{err_from_is_err_and}
use Rattle.dossier_csv.proofs.Tables.{more-in-range, one-more, rows-end, rows-refused, none-left}
use Rattle.dossier_csv.proofs.table.read_rows.Goals as goal

pub returns-in_err-typed_row-clause-value : goal.returns-in_err-typed_row-clause-value
returns-in_err-typed_row-clause-value g c = λ all has.
    let (left, here, whole) = c.rows.invariant.whole all has in
    let told = err_from_is_err_and c.from_residual-in_err-typed_row.result c.from_residual-in_err-typed_row.ensures.1 in
    rw (told.1, told.2) (rows-refused _ _ _ _ _ _ _ left _ _
    (rw c.if-branch.true at (c.in_ok-next_row.ensures left here))
    (rw c.len.ensures at c.in_err-typed_row.ensures.value) whole)

pub rows-preserved : goal.rows-preserved
rows-preserved g c =
    let good : is_ok c.push.result ≡ true = search rules in
    record {
      whole = λ all has.
          let (left, here, whole) = c.rows.invariant.whole all has in
          let next = rw c.if-branch.true at (c.in_ok-next_row.ensures left here) in
          let value = rw c.len.ensures at c.in_ok-typed_row.ensures.value in
          one-more _ _ _ _ _ _ _ _ _ left _ _ next value (rw good at c.push.ensures.items)
          (rw good at c.push.ensures.len) whole;
      ranges = more-in-range _ _ _ _ c.rows.invariant.ranges
          (omega (arith, c.in_ok-typed_row.ensures.bounded, c.len.ensures)) c.in_ok-typed_row.ensures.ranges
          (rw good at c.push.ensures.items);
    }

pub returns-clause-value : goal.returns-clause-value
returns-clause-value g c = λ all has.
    let (left, here, whole) = c.rows.invariant.whole all has in
    let none = none-left _ _ _ left (rw c.if-branch.false at (c.in_ok-next_row.ensures left here)) in
    whole ∙ rw none (rows-end _ _ _ _)

pub next_row-requires : goal.next_row-requires
next_row-requires g c = let (left, here, whole) = c.rows.invariant.whole c.requires.0 c.requires.1 in (left, here)
