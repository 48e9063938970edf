use Rattle.std.proofs.Common.{◌≡◌, ◌∷◌, ◌∙◌, ◌+◌, [], Some, ap, arith, rules, sym}
use Rattle.admit_core.specs.declared.chain.ChainReason.{ChainReason}
use Rattle.certificate.specs.Faults.{fault_in}
use Rattle.certificate.specs.Grammar.{days_by, parts, said_from}
use Rattle.certificate.proofs.Faulting.{fault_at_end, fault_further, fault_misplaced, fault_not_line, fault_unended}
use Rattle.certificate.proofs.fault.first_fault.Goals as goal

pub returns-in_default-kind_at : goal.returns-in_default-kind_at
returns-in_default-kind_at c =
    let l = c.lines in
    let text = c.in-Some.text.now in
    sym (fault_not_line l.days l.passes l.row text c.in-Some.after.now (parts 10 l.rest.now) _ c.in-Some.ensures.first
    l.invariant.whole (sym c.in_default-kind_at.is ∙ c.kind_at.ensures l.row))

pub returns-then-is_end : goal.returns-then-is_end
returns-then-is_end c =
    let l = c.lines in
    let text = c.in-Some.text.now in
    c.end_fault.ensures
    ∙ sym (fault_at_end l.days l.passes l.row text c.in-Some.after.now (parts 10 l.rest.now) _ c.in-Some.ensures.first
    l.invariant.whole c.in-Some-kind_at.kind (sym c.in-Some-kind_at.is ∙ c.kind_at.ensures l.row)
    (sym c.is_end.ensures ∙ c.if-is_end.true))

pub returns-in-Some-misplaced : goal.returns-in-Some-misplaced
returns-in-Some-misplaced c =
    let l = c.lines in
    let text = c.in-Some.text.now in
    sym (fault_misplaced l.days l.passes l.row text c.in-Some.after.now (parts 10 l.rest.now) _ c.in-Some.ensures.first
    l.invariant.whole c.in-Some-kind_at.kind (sym c.in-Some-kind_at.is ∙ c.kind_at.ensures l.row)
    c.in-Some-misplaced.reason (sym c.is_end.ensures ∙ c.if-is_end.false)
    (sym c.in-Some-misplaced.is ∙ c.misplaced.ensures))

pub lines-preserved : goal.lines-preserved
lines-preserved c =
    let l = c.lines in
    let text = c.in-Some.text.now in
    let after = c.in-Some.after.now in
    let kind = c.in-Some-kind_at.kind in
    record {
      whole =
          fault_further l.days l.passes l.row text after (parts 10 l.rest.now) _ c.in-Some.ensures.first
          l.invariant.whole kind (sym c.in-Some-kind_at.is ∙ c.kind_at.ensures l.row)
          (sym c.is_end.ensures ∙ c.if-is_end.false) (sym c.in_default-misplaced.is ∙ c.misplaced.ensures)
          ∙ ap (λ n. fault_in (said_from (days_by l.days kind) n (l.row + 1) (parts 10 after)))
          (sym c.passes_by-passes.ensures)
          ∙ ap (λ n. fault_in (said_from n c.passes_by-passes.result (l.row + 1) (parts 10 after)))
          (sym c.days_by-days.ensures);
      rows = omega (arith, c.in-Some.ensures.shorter, l.invariant.rows);
    }

pub returns : goal.returns
returns c =
    let l = c.lines in
    let last : parts 10 l.rest.now ≡ l.rest.now ∷ [] = search rules in
    ap (λ (reason : ChainReason). Some (record { row = l.row; reason = reason })) c.unended-reason.ensures
    ∙ sym (fault_unended l.days l.passes l.row l.rest.now (parts 10 l.rest.now) _ last l.invariant.whole)
