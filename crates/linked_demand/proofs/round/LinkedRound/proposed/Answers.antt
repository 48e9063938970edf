use Rattle.std.proofs.Common.{◌∙◌, ℕ, Vec}
use Rattle.std.specs.declared.alloc.Global.{Global}
use Rattle.std.proofs.lemmas.Result.{IfOk-weaker}
use Rattle.linked_demand.proofs.Rounding.{listed_seen, offers_seen, opens_wait}
use Rattle.linked_demand.proofs.round.LinkedRound.proposed.Goals as goal

pub proposed_places-requires : goal.proposed_places-requires
proposed_places-requires c =
    opens_wait _ c.self.invariant.under c.self.view_is

pub returns : goal.returns
returns c =
    let seen = c.args.self.now in
    let right = listed_seen _ c.self.invariant.under c.self.view_is in
    let same = offers_seen _ c.self.invariant.under c.self.view_is in
    record {
      places = IfOk-weaker c.proposed_places.result _ _ (λ (v : Vec ℕ Global) are. right v.items are)
          c.proposed_places.ensures;
      offers =
          IfOk-weaker c.proposed_places.result _ _ (λ (v : Vec ℕ Global) are. right v.items are ∙ same)
          c.proposed_places.ensures;
    }
