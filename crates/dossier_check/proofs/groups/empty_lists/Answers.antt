use Rattle.std.proofs.Common.{◌∷◌, [], map, take, get_or, sym, ap, ◌∙◌, arith}
use Rattle.std.proofs.lemmas.List.{take_more, map-append}
use Rattle.admit_core.specs.Standing.{ranked_in}
use Rattle.dossier_check.proofs.groups.empty_lists.Goals as goal

pub loop-room-preserved : goal.loop-room-preserved
loop-room-preserved c =
    let ks = c.args.groups.now.keys in
    let i = c.loop-room.room-index in
    ap (map (λ v. v.items)) c.in_ok-push.ensures.items
    ∙ map-append (λ v. v.items) c.loop-room.lists.items (c.in_ok-list.list ∷ [])
    ∙ rw (c.loop-room.invariant, c.in_ok-list.ensures.items, take_more ks i 0 (omega arith))
    (sym (map-append (ranked_in []) (take i ks) (get_or ks i 0 ∷ [])))
