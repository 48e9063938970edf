use Rattle.std.proofs.Common.{arith, ◌∙◌, sym}
use Rattle.dossier_csv.proofs.Headers.{agrees-at, differs-at}
use Rattle.dossier_csv.proofs.table.has_names.Goals as goal

pub returns-then-ne : goal.returns-then-ne
returns-then-ne c =
    let kept = c.loop-index.invariant in
    sym (kept.1 ∙ differs-at _ _ _ _ _ _ (omega arith) c.loop-index-test.true c.get.ensures.value
    c.as_bytes.ensures.value c.if-ne.ensures)

pub loop-index-preserved : goal.loop-index-preserved
loop-index-preserved c =
    let kept = c.loop-index.invariant in (
      kept.0,
      kept.1 ∙ agrees-at _ _ _ _ _ _ (omega arith) c.loop-index-test.true c.get.ensures.value
          c.as_bytes.ensures.value c.if-ne.ensures,
    )
