use Rattle.modes.proofs.checked.check_morning.Goals as goal

pub returns-clause-valid : goal.returns-clause-valid
returns-clause-valid c = c.in_ok-check_day_on.ensures.proved.valid
