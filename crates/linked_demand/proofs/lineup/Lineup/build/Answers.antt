use Rattle.linked_demand.proofs.lineup.Lineup.build.Goals as goal

pub returns : goal.returns
returns c =
    record {
      lines = c.in_ok-claims.ensures;
      boarders = c.in_ok-boarders.ensures;
      limited = c.in_ok-limited.ensures;
    }
