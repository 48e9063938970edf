use Rattle.std.proofs.Common.{sym, ◌∙◌}
use Rattle.linked_demand.proofs.Rounding.{closed_seen, opens_wait, proposed_seen}
use Rattle.linked_demand.proofs.round.LinkedRound.is_proposed.Goals as goal

pub returns-then-not-is_open : goal.returns-then-not-is_open
returns-then-not-is_open c =
    closed_seen _ c.self.invariant.under c.self.view_is c.args.wish c.requires
    (sym c.is_open.ensures ∙ c.if-not-is_open.true)

pub is_proposed-requires : goal.is_proposed-requires
is_proposed-requires c =
    opens_wait _ c.self.invariant.under c.self.view_is c.args.wish (sym c.is_open.ensures ∙ c.if-not-is_open.false)

pub returns : goal.returns
returns c =
    c.is_proposed.ensures ∙ proposed_seen _ c.self.invariant.under c.self.view_is c.args.wish c.requires
    (sym c.is_open.ensures ∙ c.if-not-is_open.false)
