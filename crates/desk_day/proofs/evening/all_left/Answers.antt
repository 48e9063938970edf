use Rattle.std.proofs.Common.{◌∙◌, ap, ℕ, ◌++◌, ◌∷◌, []}
use Rattle.desk_day.specs.Evening.{left_at}
use Rattle.desk_day.proofs.Listed.{made_more}
use Rattle.desk_day.proofs.evening.all_left.Goals as goal

pub loop-place-preserved : goal.loop-place-preserved
loop-place-preserved c =
    c.in_ok-push.ensures.items
    ∙ ap (λ (x : ℕ). c.loop-place.left.items ++ x ∷ []) c.left_at.ensures
    ∙ made_more (left_at c.args.state.now c.args.sites) c.loop-place.place c.loop-place.left.items
    c.loop-place.invariant
