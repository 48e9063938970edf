use Rattle.std.proofs.Common.{◌≡◌, ℕ, List, map, sym, ap, ◌∙◌}
use Rattle.std.proofs.lemmas.Result.{IfOk-weaker}
use Rattle.std.proofs.lemmas.Simd.{map-map}
use Rattle.admit_core.specs.Lists.{sorted_by}
use Rattle.admit_core.proofs.Plain.{map_same}
use Rattle.markets.specs.Choices.{own_choices}
use Rattle.markets.specs.declared.owned.Choice.{Choice}
use Rattle.markets.specs.Dossiers.{by_preference, own}
use Rattle.markets.proofs.Choosing.{preferred}
use Rattle.markets.proofs.owned.lists_of.Goals as goal

pub returns : goal.returns
returns c =
    let rows = c.in_ok-rows.rows.items in
    let wishes = c.args.wishes.now in
    let names = c.args.names.now.keys in
    let list : List Choice → List ℕ = λ xs. map (λ x. x.programme) (sorted_by (λ x. x.preference) xs) in
    IfOk-weaker c.lists_from.result (λ lists. lists.items ≡ map (λ row. list row.items) rows)
    (λ lists. lists.items ≡ map (λ k. by_preference (own wishes k)) names)
    (λ lists e.
    e ∙ sym (map-map list (λ row. row.items) rows)
    ∙ ap (map list) c.in_ok-rows.ensures
    ∙ map-map list (own_choices wishes) names
    ∙ map_same (λ k. list (own_choices wishes k)) (λ k. by_preference (own wishes k))
    (λ k. preferred (own wishes k)) names)
    c.lists_from.ensures
