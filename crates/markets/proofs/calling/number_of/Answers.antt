use Rattle.std.proofs.Common.{nat_eq, sym, ◌∙◌}
use Rattle.markets.proofs.Called.{place_of_none}
use Rattle.markets.proofs.calling.number_of.Goals as goal

pub returns-in-None : goal.returns-in-None
returns-in-None c = c.len.ensures.len
    ∙ place_of_none (nat_eq c.args.candidate) c.args.names.now.keys (sym c.get_index_of.ensures.index ∙ c.in-None.is)
