use Rattle.std.proofs.Common.{◌≡◌, ℕ, List, subst, ◌∙◌}
use Rattle.std.specs.Prelude.{IfOk}
use Rattle.demand.proofs.Listed.{flagged_proposed}
use Rattle.demand.proofs.walk.proposed_places.Goals as goal

pub returns : goal.returns
returns c =
    let P : List ℕ → Type 0 = λ ks. IfOk c.flagged.result (λ places. places.items ≡ ks) in
    subst P
    (flagged_proposed c.args.state.now c.args.orders.now.orders c.args.bars.now c.deref.result.now
    (c.deref.ensures.value ∙ c.in_ok-flags.ensures.flags))
    c.flagged.ensures
