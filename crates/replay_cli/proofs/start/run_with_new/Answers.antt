use Rattle.replay_cli.proofs.start.run_with_new.Goals as goal

pub returns : goal.returns
returns g c =
    record {
      pickers = _;
      pickers' = _;
      are_new = c.requires.new;
      is_run = c.run.ensures.runs;
      hides = c.run.ensures.hides;
    }
