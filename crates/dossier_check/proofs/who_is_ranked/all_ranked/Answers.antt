use Rattle.std.proofs.Common.{◌∙◌, None, arith, get_or, nat_eq, position, sym, ap}
use Rattle.std.proofs.lemmas.List.Elements.{AllWithin-more, AllWithin-upto, All-from_all_within}
use Rattle.admit_core.specs.declared.tables.WishRow.{WishRow}
use Rattle.dossier_check.specs.WishTests.{IsRanked}
use Rattle.dossier_check.proofs.Firsts.{position-map}
use Rattle.dossier_check.proofs.WhoIsRanked.{read_ranked}
use Rattle.dossier_check.proofs.who_is_ranked.all_ranked.Goals as goal

pub loop-row-preserved : goal.loop-row-preserved
loop-row-preserved c t keys says =
    let rows = c.args.rows.now in
    let i = c.loop-row.row-index in
    let none : WishRow = record { id = 0; candidate = 0; programme = 0; school = None; preference = 0 } in
    let row : WishRow = get_or rows i none in
    let at = sym c.in-Some.is ∙ c.get_index_of.ensures.index ∙ ap (position (nat_eq row.programme)) keys
    ∙ position-map (nat_eq row.programme) (λ p. p.id) t.programmes in
    AllWithin-more (IsRanked t) rows 0 i (c.loop-row.invariant t keys says)
    (read_ranked t rows i none c.loop-row-test.true
    (sym (c.has.ensures t row.programme says at) ∙ c.if-not-has.false))

pub returns : goal.returns
returns c t keys says told =
    All-from_all_within (IsRanked t) c.args.rows.now
    (AllWithin-upto (IsRanked t) c.args.rows.now 0 c.loop-row.row-index _ (omega (arith, c.loop-row-test.false))
    (c.loop-row.invariant t keys says))
