use Rattle.std.proofs.Common.{◌∷◌, ap}
use Rattle.dossier_check.specs.WishTests.{id_repeats}
use Rattle.dossier_check.proofs.wishes.fresh_tests.Goals as goal

pub returns-clause-tests : goal.returns-clause-tests
returns-clause-tests c = ap (λ tests. id_repeats ∷ tests) c.in_ok-other_tests.ensures.tests
