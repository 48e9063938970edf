use Rattle.std.proofs.Common.{◌≡◌, All, Some, ℕ, ap, length, map, sym, subst, ◌∙◌}
use Rattle.admit_core.specs.declared.tables.RankRow.{RankRow}
use Rattle.admit_core.specs.Standing.{place_of}
use Rattle.dossier_check.specs.Tags.{IsWithin, row_of}
use Rattle.admit_core.specs.Standing.{ranked_in}
use Rattle.std.proofs.lemmas.Result.{IfOk-weaker}
use Rattle.dossier_check.proofs.BuiltGroups.{by_rank_now}
use Rattle.dossier_check.proofs.Firsts.{length-map-here}
use Rattle.dossier_check.proofs.TaggedRows.{made_in_order, within_alike}
use Rattle.dossier_check.proofs.groups.sorted_lists.Goals as goal

pub rows_by-requires : goal.rows_by-requires
rows_by-requires c =
    let rows = c.args.rankings.now in
    let places = c.args.places.now in
    let own : RankRow → ℕ = λ r. place_of c.args.groups.now.keys r.group in
    let same : length rows ≡ length places = sym (ap length c.requires.places ∙ length-map-here own rows) in
    subst (All (IsWithin places)) (sym c.as_slice.ensures.value)
    (within_alike rows places c.in_ok-ordered.ordered.tags.items same c.in_ok-ordered.ensures.within)

pub ranked_lists-requires : goal.ranked_lists-requires
ranked_lists-requires c =
    let rows = c.args.rankings.now in
    let tags = c.in_ok-ordered.ordered.tags.items in
    let own : RankRow → ℕ = λ r. place_of c.args.groups.now.keys r.group in
    let found = c.in_ok-places.places.items in
    let read : map Some found ≡ map (row_of (map own rows)) tags =
    c.in_ok-places.ensures
    ∙ (λ i. map (row_of (c.requires.places i)) (c.as_slice.ensures.value i)) in
    c.as_slice-3.ensures.value
    ∙ made_in_order own rows c.in_ok-ordered.ordered.rows.items found tags c.in_ok-ordered.ensures.tags read
    ∙ ap (map own) (sym c.as_slice-2.ensures.value)

pub returns : goal.returns
returns c =
    let ids = c.args.groups.now.keys in
    IfOk-weaker c.ranked_lists.result _ _
    (λ lists made.
    made
    ∙ ap (λ rows. map (ranked_in rows) ids) (c.as_slice-2.ensures.value ∙ c.in_ok-ordered.ensures.rows)
    ∙ by_rank_now c.args.rankings.now ids)
    c.ranked_lists.ensures
