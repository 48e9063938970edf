use Rattle.std.proofs.Common.{◌≡◌, [], map, slice_set, slice_index_or, sym, ap, ◌∙◌}
use Rattle.std.proofs.lemmas.List.{map-set, get_or-map}
use Rattle.dossier_check.proofs.groups.add.Goals as goal

pub returns-clause-added : goal.returns-clause-added
returns-clause-added c =
    let xs = c.args.lists.now.items in
    let v = c.index_mut.result.now in
    let i = c.args.place in
    let old : slice_index_or (map (λ l. l.items) xs) i [] ≡ v.items =
    get_or-map (λ l. l.items) xs i v [] c.requires ∙ ap (λ l. l.items) (sym c.index_mut.ensures.value) in
    rw (old) (map-set (λ l. l.items) xs i c.push.new.self
    ∙ ap (slice_set (map (λ l. l.items) xs) i) c.in_ok-push.ensures.items)
