use Rattle.std.proofs.Common.{List, ℕ, OnOk, string_bytes, subst}
use Rattle.std.specs.Prelude.{codes}
use Rattle.case_file.specs.Sections.{AddsEnded, IsReplaced}
use Rattle.case_file.proofs.Taking.{line_added}
use Rattle.case_file.proofs.reading.add_line.Goals as goal

pub returns : goal.returns
returns c = line_added c.args.line.now (string_bytes c.in_ok-line.line) (string_bytes c.in_ok-line-2.line) _ _
    c.push_ended.result c.in_ok-line.ensures
    (subst (λ (before : List ℕ). IsReplaced (codes "{cr}") (codes "\r") before (string_bytes c.in_ok-line-2.line))
    c.as_str.ensures.value c.in_ok-line-2.ensures)
    (subst (λ (line : List ℕ). OnOk c.push_ended.result (AddsEnded line (string_bytes c.args.text.now)
    (string_bytes c.push_ended.new.text)))
    c.as_str-2.ensures.value c.push_ended.ensures)
