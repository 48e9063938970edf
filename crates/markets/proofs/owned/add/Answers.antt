use Rattle.std.proofs.Common.{◌≡◌, [], map, slice_set, slice_index_or, sym, ap, ◌∙◌}
use Rattle.std.proofs.lemmas.List.{map-set, get_or-map}
use Rattle.markets.proofs.owned.add.Goals as goal

pub returns-clause-added : goal.returns-clause-added
returns-clause-added c =
    let xs = c.args.rows.now.items in
    let v = c.index_mut.result.now in
    let i = c.args.place in
    let old : slice_index_or (map (λ r. r.items) xs) i [] ≡ v.items = get_or-map (λ r. r.items) xs i v [] c.requires
    ∙ ap (λ r. r.items) (sym c.index_mut.ensures.value) in
    rw (old) (map-set (λ r. r.items) xs i c.push.new.self
    ∙ ap (slice_set (map (λ r. r.items) xs) i) c.in_ok-push.ensures.items)
