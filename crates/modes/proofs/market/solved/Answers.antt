use Rattle.modes.proofs.market.solved.Goals as goal

pub returns-clause-asked : goal.returns-clause-asked
returns-clause-asked g c = record {
  led = c.solve.ensures.led;
  told_by_then = c.solve.ensures.told_by_then;
  choice = c.solve.ensures.choice;
}
