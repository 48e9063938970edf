use Rattle.bed_need.proofs.Growing.{bars_do_not_fall, figures_are_fixed}
use Rattle.bed_need.proofs.laws.laws_of_beds.Goals as goal

pub returns-clause-bars : goal.returns-clause-bars
returns-clause-bars c = bars_do_not_fall

pub returns-clause-figures : goal.returns-clause-figures
returns-clause-figures c = figures_are_fixed
