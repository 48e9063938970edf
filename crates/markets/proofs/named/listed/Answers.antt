use Rattle.std.proofs.Common.{◌≡◌, List, filter, map, ap, ◌∙◌}
use Rattle.admit_core.specs.DossierRows.{DossierRows}
use Rattle.admit_core.specs.declared.dossier.Wish.{Wish}
use Rattle.markets.specs.Dossiers.{by_preference, counted, counts, lists_in, named, own}
use Rattle.markets.proofs.named.listed.Goals as goal

pub returns-clause-names : goal.returns-clause-names
returns-clause-names c =
    let d = c.args.dossier.now in
    let wishes : c.in_ok-wishes.wishes.items ≡ counted d =
    c.in_ok-wishes.ensures ∙ ap (filter counts) c.as_slice.ensures
    ∙ ap (λ (e : DossierRows). filter counts e.wishes) c.dossier.view_is in
    c.in_ok-names.ensures.names ∙ ap named c.as_slice-2.ensures.value ∙ ap named wishes

pub returns-clause-lists : goal.returns-clause-lists
returns-clause-lists c =
    let d = c.args.dossier.now in
    let rows = c.in_ok-wishes.wishes.items in
    let wishes : rows ≡ counted d =
    c.in_ok-wishes.ensures ∙ ap (filter counts) c.as_slice.ensures
    ∙ ap (λ (e : DossierRows). filter counts e.wishes) c.dossier.view_is in
    let names : c.in_ok-names.names.keys ≡ named rows =
    c.in_ok-names.ensures.names ∙ ap named c.as_slice-2.ensures.value in
    c.in_ok-lists.ensures
    ∙ ap (λ (ws : List Wish). map (λ k. by_preference (own ws k)) c.in_ok-names.names.keys) c.as_slice-3.ensures.value
    ∙ ap (map (λ k. by_preference (own rows k))) names ∙ ap lists_in wishes
