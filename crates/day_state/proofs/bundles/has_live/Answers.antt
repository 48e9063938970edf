use Rattle.day_state.proofs.bundles.has_live.Goals as goal

pub returns-in-Shared : goal.returns-in-Shared
returns-in-Shared c = rw c.in-Shared.is c.has_some.ensures
