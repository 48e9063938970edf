use Rattle.std.proofs.Common.{◌∷◌, [], map, take, get_or, length, sym, ap, ◌≤◌, ◌∙◌, arith}
use Rattle.std.proofs.lemmas.List.{take_all, take_more, map-append}
use Rattle.markets.specs.Choices.{own_choices}
use Rattle.markets.proofs.owned.empty_rows.Goals as goal

pub loop-name-preserved : goal.loop-name-preserved
loop-name-preserved c =
    let ks = c.args.names.now.keys in
    let i = c.loop-name.name in
    ap (map (λ r. r.items)) c.in_ok-push.ensures.items
    ∙ map-append (λ r. r.items) c.loop-name.rows.items (c.new.result ∷ [])
    ∙ rw (c.loop-name.invariant, c.new.ensures.items, take_more ks i 0 (omega arith))
    (sym (map-append (own_choices []) (take i ks) (get_or ks i 0 ∷ [])))

pub returns : goal.returns
returns c =
    let ks = c.args.names.now.keys in
    let past : length ks ≤ c.loop-name.name = omega (arith, c.loop-name-test.false, c.len-name-end.ensures) in
    c.loop-name.invariant ∙ ap (map (own_choices [])) (take_all c.loop-name.name ks past)
