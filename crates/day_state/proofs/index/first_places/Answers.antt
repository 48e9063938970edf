use Rattle.std.proofs.Common.{◌≡◌, ℕ, ◌+◌, List, [], ◌∷◌, ◌++◌, sym, ap, ◌∙◌, arith}
use Rattle.std.specs.List.{range_with_len}
use Rattle.std.proofs.lemmas.List.{map-id}
use Rattle.std.proofs.lemmas.List.FromFn.{map-range_with_len_more}
use Rattle.day_state.proofs.index.first_places.Goals as goal

pub loop-place-preserved : goal.loop-place-preserved
loop-place-preserved c =
    let k = c.loop-place.place in
    let then = λ (ns : List ℕ). ns ++ k ∷ [] in
    let more : range_with_len 0 (k + 1) ≡ then (range_with_len 0 k) =
    sym (map-id (range_with_len 0 (k + 1))) ∙ map-range_with_len_more (λ n. n) 0 k k (omega arith)
    ∙ ap then (map-id (range_with_len 0 k)) in
    c.in_ok-push.ensures.items ∙ ap then c.loop-place.invariant ∙ sym more
