use Rattle.std.proofs.Common.{refl}
use Rattle.dossier_check.proofs.wishes.other_tests.Goals as goal

pub returns-clause-tests : goal.returns-clause-tests
returns-clause-tests c =
    rw (
      c.in_ok-name_test.ensures.tables,
      c.in_ok-name_test.ensures.ranked,
      ← c.preference_tests.ensures.known,
    ) refl
