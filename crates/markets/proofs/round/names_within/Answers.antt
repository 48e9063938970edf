use Rattle.std.proofs.Common.{ℕ, List, [], ◌∷◌, ◌++◌, Option, ◌≡◌, ◌+◌, ◌∙◌, sym, ap, get_or, Vec, refl}
use Rattle.std.specs.declared.alloc.Global.{Global}
use Rattle.markets.specs.Matchings.{place_of}
use Rattle.markets.specs.Rounds.{is_held}
use Rattle.markets.proofs.Rounds.{held_is, who_is, named_more, named_over}
use Rattle.markets.proofs.round.names_within.Goals as goal
use Rattle.markets.proofs.round.names_within.Goals.{then-is_at+in_ok-push, else-is_at}

pub loop-place-preserved : goal.loop-place-preserved
loop-place-preserved c =
    let m = c.args.market.now in
    let places : List (Option ℕ) = c.args.places.now in
    let p : ℕ = c.args.programme in
    let k : ℕ = c.loop-place.place in
    let order : List ℕ = c.order-order.result.now in
    let y : ℕ = get_or order k 0 in
    let asked : is_held m places p (k + 1) ≡ c.is_at.result =
    held_is m places p k y order (place_of places y) c.order-order.ensures.order
    refl refl ∙ sym c.is_at.ensures in
    elim c.if-is_at.branch [
      | then-is_at+in_ok-push w ↦
          ap (λ (v : Vec ℕ Global). v.items) w.names-is ∙ w.in_ok-push.ensures.items
          ∙ ap (λ (xs : List ℕ). xs ++ y ∷ []) c.loop-place.invariant
          ∙ sym (named_more m places p k y (asked ∙ w.if-is_at.true)
          (who_is m p k y order c.order-order.ensures.order refl))
      | else-is_at w ↦
          ap (λ (v : Vec ℕ Global). v.items) w.names-is ∙ c.loop-place.invariant
          ∙ sym (named_over m places p k (asked ∙ w.if-is_at.false))
    ]
