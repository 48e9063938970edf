use Rattle.std.proofs.Common.{◌++◌, ◌∷◌, [], ℕ, List, take, ap, sym, ◌∙◌, arith}
use Rattle.std.proofs.lemmas.List.{map_more, take_all}
use Rattle.admit_core.specs.Standing.{place_of}
use Rattle.dossier_check.specs.Dealt.{places_by}
use Rattle.dossier_check.proofs.placed.places_of.Goals as goal

pub loop-row-preserved : goal.loop-row-preserved
loop-row-preserved g c =
    let key = g.Q.Key.key in
    let ids = c.args.ids.now.keys in
    let rows = c.args.rows.now in
    let i = c.loop-row.row-index in
    let place = c.place_near.ensures ∙ ap (place_of ids) (c.key_of.ensures ∙ ap key c.row-item.is) in
    c.in_ok-push.ensures.items
    ∙ ap (λ (done : List ℕ). done ++ c.place_near.result ∷ []) c.loop-row.invariant
    ∙ ap (λ (place : ℕ). places_by key ids (take i rows) ++ place ∷ []) place
    ∙ sym (map_more (λ r. place_of ids (key r)) rows i c.row-item.result c.loop-row-test.true)

pub returns : goal.returns
returns g c =
    c.loop-row.invariant
    ∙ ap (places_by g.Q.Key.key c.args.ids.now.keys)
    (take_all c.loop-row.row-index c.args.rows.now (omega (arith, c.loop-row-test.false)))
