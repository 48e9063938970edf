use Rattle.std.proofs.Common.{◌++◌, ◌∷◌, [], ◌<◌, List, ℕ, length, get_or, map, take, ap, sym, ◌∙◌, arith}
use Rattle.std.proofs.lemmas.List.{take_all, take_more, map-append}
use Rattle.admit_core.specs.declared.dossier.Wish.{Wish}
use Rattle.day_state.specs.Kept.{wish_in}
use Rattle.certificate.proofs.named.ranks_of.Goals as goal

pub loop-place-preserved : goal.loop-place-preserved
loop-place-preserved c =
    let places = c.args.places.now in
    let i = c.loop-place.place-index in
    let rank : ℕ → ℕ = λ k. (wish_in c.args.state.now.dossier.wishes k).board_rank in
    let within : i < length places = omega arith in
    c.in_ok-push.ensures.items ∙ ap (λ (xs : List ℕ). xs ++ c.wish_at.result.board_rank ∷ []) c.loop-place.invariant
    ∙ ap (λ (w : Wish). map rank (take i places) ++ w.board_rank ∷ []) c.wish_at.ensures.wish
    ∙ sym (map-append rank (take i places) (get_or places i 0 ∷ []))
    ∙ ap (map rank) (sym (take_more places i 0 within))

pub returns : goal.returns
returns c =
    let rank : ℕ → ℕ = λ k. (wish_in c.args.state.now.dossier.wishes k).board_rank in
    c.loop-place.invariant ∙ ap (map rank) (take_all c.loop-place.place-index c.args.places.now (omega arith))
