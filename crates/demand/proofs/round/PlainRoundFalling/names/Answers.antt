use Rattle.std.proofs.Common.{◌≡◌, ℕ, List, map, filter, nat_le, subst, ◌∙◌, ap}
use Rattle.std.specs.Prelude.{IfOk}
use Rattle.proposals.specs.declared.demands.Demand.{Demand}
use Rattle.proposals.proofs.Named.{names_are}
use Rattle.demand.proofs.round.PlainRoundFalling.names.Goals as goal

pub returns : goal.returns
returns c =
    let s = c.args.self.now.state.now in
    let orders = c.args.self.now.orders.now.orders in
    let bars = c.args.self.now.bars.items in
    let demands = c.deref-2.ensures.value ∙ c.in_ok-demands.ensures.proposed orders bars
    (c.deref.ensures.value ∙ c.in_ok-places.ensures.places) in
    let P : List ℕ → Type 0 = λ ks. IfOk c.names_up_to.result (λ names. names.items ≡ ks) in
    subst P
    (ap (λ (xs : List Demand). map (λ (x : Demand). x.wish) (filter (λ (x : Demand). nat_le x.rank c.args.upto) xs))
    demands
    ∙ names_are s orders bars c.args.i c.args.upto)
    c.names_up_to.ensures.names
