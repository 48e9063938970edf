use Rattle.std.proofs.Common.{◌≡◌, ◌&&◌, nat_eq, map, find, Some, None, refl, sym, ap, ◌∙◌}
use Rattle.dossier_check.proofs.items.board_rank_of.Goals as goal

pub returns-in-Some-row_near : goal.returns-in-Some-row_near
returns-in-Some-row_near c =
    let t = c.args.tables.now in
    let school = c.in-Some.school in
    let candidate = c.args.wish.now.candidate in
    let found : find (λ b. nat_eq school b.school && nat_eq candidate b.candidate) t.boarding
    ≡ Some c.in-Some-row_near.row =
    ap (find (λ b. nat_eq school b.school && nat_eq candidate b.candidate)) (sym c.as_slice-rows.ensures)
    ∙ sym (c.row_near.ensures (λ b. (b.school, b.candidate))
    (c.requires.boarding ∙ ap (map (λ b. (b.school, b.candidate))) (sym c.as_slice-rows.ensures)))
    ∙ c.in-Some-row_near.is in
    rw (c.in-Some.is, found) refl

pub returns-in-None : goal.returns-in-None
returns-in-None c =
    let t = c.args.tables.now in
    let school = c.in-Some.school in
    let candidate = c.args.wish.now.candidate in
    let found : find (λ b. nat_eq school b.school && nat_eq candidate b.candidate) t.boarding ≡ None =
    ap (find (λ b. nat_eq school b.school && nat_eq candidate b.candidate)) (sym c.as_slice-rows.ensures)
    ∙ sym (c.row_near.ensures (λ b. (b.school, b.candidate))
    (c.requires.boarding ∙ ap (map (λ b. (b.school, b.candidate))) (sym c.as_slice-rows.ensures)))
    ∙ c.in-None.is in
    rw (c.in-Some.is, found) refl
