use Rattle.std.proofs.Common.{◌≡◌, ◌∙◌, None, ap, sym, true}
use Rattle.std.specs.Prelude.{replicate}
use Rattle.std.specs.List.{list_all}
use Rattle.dossier_check.specs.Dates.{is_undated}
use Rattle.dossier_check.proofs.Undated.{undated}
use Rattle.dossier_check.proofs.dates.dates_of.Goals as goal

pub returns-then-is_undated : goal.returns-then-is_undated
returns-then-is_undated c =
    let t = c.args.tables.now in
    let all : list_all is_undated t.state ≡ true =
    ap (list_all is_undated) (sym c.as_slice.ensures) ∙ sym c.is_undated.ensures ∙ c.if-is_undated.true in
    c.undated.ensures ∙ ap (λ n. replicate n None) c.len.ensures ∙ sym (undated t all)
