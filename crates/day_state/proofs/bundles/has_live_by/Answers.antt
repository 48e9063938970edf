use Rattle.day_state.proofs.bundles.has_live_by.Goals as goal

pub returns-in-Alone : goal.returns-in-Alone
returns-in-Alone c = rw c.in-Alone.is c.is_live.ensures

pub returns-in-Shared : goal.returns-in-Shared
returns-in-Shared c = rw c.in-Shared.is (rw c.in-Shared.is at c.has_live.ensures)
