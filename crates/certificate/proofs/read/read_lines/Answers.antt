use Rattle.std.proofs.Common.{ap, ◌≡◌, ◌∷◌, [], Some, None, true, false, sym, ◌∙◌, arith, rules}
use Rattle.certificate.specs.Grammar.{parts, line_of, is_end, is_end_kind, misplaced, misplaced_at}
use Rattle.certificate.specs.Open.{opened}
use Rattle.certificate.proofs.Saying.{not_line, has_ended, is_misplaced, goes_on, is_unended}
use Rattle.certificate.proofs.read.read_lines.Goals as goal

pub returns-in_default-2 : goal.returns-in_default-2
returns-in_default-2 c =
    let first : parts 10 c.lines.rest.now ≡ c.in-Some.text.now ∷ parts 10 c.in-Some.after.now =
    c.in-Some.ensures.first in
    let line : None ≡ line_of c.lines.row (parts 32 c.in-Some.text.now) =
    sym c.in_default-2.is ∙ c.in_ok-line.ensures in
    rw c.fault_at.ensures (not_line c.lines.reading c.lines.row c.in-Some.text.now
    c.in-Some.after.now _ _ first line c.lines.invariant.whole)

pub returns-then-is_end : goal.returns-then-is_end
returns-then-is_end c =
    let first : parts 10 c.lines.rest.now ≡ c.in-Some.text.now ∷ parts 10 c.in-Some.after.now =
    c.in-Some.ensures.first in
    let line : Some c.in-Some-2.line ≡ line_of c.lines.row (parts 32 c.in-Some.text.now) =
    sym c.in-Some-2.is ∙ c.in_ok-line.ensures in
    let ends : is_end (Some c.in-Some-2.line) ≡ true = ap is_end_kind (sym c.kind-kind.ensures) ∙ sym c.is_end.ensures
    ∙ c.if-is_end.true in
    rw (has_ended c.lines.reading c.lines.row c.in-Some.text.now c.in-Some.after.now _
    c.in-Some-2.line _ first line ends c.lines.invariant.whole) c.end_chain.ensures

pub returns-in-Some-misplaced : goal.returns-in-Some-misplaced
returns-in-Some-misplaced c =
    let first : parts 10 c.lines.rest.now ≡ c.in-Some.text.now ∷ parts 10 c.in-Some.after.now =
    c.in-Some.ensures.first in
    let line : Some c.in-Some-2.line ≡ line_of c.lines.row (parts 32 c.in-Some.text.now) =
    sym c.in-Some-2.is ∙ c.in_ok-line.ensures in
    let ends : is_end (Some c.in-Some-2.line) ≡ false = ap is_end_kind (sym c.kind-kind.ensures) ∙ sym c.is_end.ensures
    ∙ c.if-is_end.false in
    let placed : Some c.in-Some-misplaced.reason ≡ misplaced c.lines.reading.day
    c.lines.reading.pass (Some c.in-Some-2.line) = sym c.in-Some-misplaced.is ∙ c.misplaced.ensures
    ∙ ap (misplaced_at c.lines.reading.day c.lines.reading.pass) c.kind-kind.ensures in
    rw c.fault_at-in-Some-misplaced.ensures
    (is_misplaced c.lines.reading c.lines.row c.in-Some.text.now c.in-Some.after.now _
    c.in-Some-2.line c.in-Some-misplaced.reason _ first line ends placed
    c.lines.invariant.whole)

pub lines-preserved : goal.lines-preserved
lines-preserved c =
    let first : parts 10 c.lines.rest.now ≡ c.in-Some.text.now ∷ parts 10 c.in-Some.after.now =
    c.in-Some.ensures.first in
    let line : Some c.in-Some-2.line ≡ line_of c.lines.row (parts 32 c.in-Some.text.now) =
    sym c.in-Some-2.is ∙ c.in_ok-line.ensures in
    let ends : is_end (Some c.in-Some-2.line) ≡ false = ap is_end_kind (sym c.kind-kind.ensures) ∙ sym c.is_end.ensures
    ∙ c.if-is_end.false in
    let placed : None ≡ misplaced c.lines.reading.day c.lines.reading.pass (Some c.in-Some-2.line) =
    sym c.in_default-misplaced.is ∙ c.misplaced.ensures
    ∙ ap (misplaced_at c.lines.reading.day c.lines.reading.pass) c.kind-kind.ensures in
    let opens : c.add.new.self ≡ opened c.lines.row c.in-Some-2.line c.lines.reading = c.in_ok-add.ensures in
    record {
      whole =
          goes_on c.lines.reading c.add.new.self c.lines.row c.in-Some.text.now c.in-Some.after.now
          _ c.in-Some-2.line _ first line ends placed opens c.lines.invariant.whole;
      rows = omega (arith, c.in-Some.ensures.shorter, c.lines.invariant.rows);
    }

pub returns : goal.returns
returns c =
    let last : parts 10 c.lines.rest.now ≡ c.lines.rest.now ∷ [] = search rules in
    rw (c.fault_at-2.ensures, c.unended.ensures)
    (is_unended c.lines.reading c.lines.row c.lines.rest.now _ _ last c.lines.invariant.whole)
