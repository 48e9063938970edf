use Rattle.std.proofs.Common.{refl, arith}
use Rattle.admit_core.proofs.FallsLaw.{run_is_greatest, all_above}
use Rattle.bar_fixpoint.proofs.RunLaws.{unique_greatest, picks_fix}
use Rattle.bar_fixpoint.proofs.law.law_of_runs.Goals as goal

pub returns-clause-greatest : goal.returns-clause-greatest
returns-clause-greatest c = λ sys falls lawful run. run_is_greatest sys lawful falls run

pub returns-clause-above : goal.returns-clause-above
returns-clause-above c =
    λ sys falls lawful are others fits. all_above sys lawful others fits sys.ceilings falls
    (record { as_many = refl; each = λ i. omega arith })
    fits.under_ceilings
    are

pub returns-clause-unique : goal.returns-clause-unique
returns-clause-unique c = unique_greatest

pub returns-clause-picks : goal.returns-clause-picks
returns-clause-picks c = picks_fix
