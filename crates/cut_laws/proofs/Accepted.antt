-- What the test for an accepted status tells.
use Rattle.std.proofs.Common.{◌≡◌, true, refl}
use Rattle.admit_core.specs.declared.state.Status.{Status}
use Rattle.admit_core.specs.declared.state.Status.TheVariants.{Accepted, AutoRefused, AutoWithdrawn, Lapsed, Offered}
use Rattle.admit_core.specs.declared.state.Status.TheVariants.{Refused, Waiting, Withdrawn}
use Rattle.admit_core.specs.declared.state.Status.TheVariants as statuses
use Rattle.admit_core.specs.Relations.{is_accepted}

pub accepted_is : (s : Status) → is_accepted s ≡ true → s ≡ Accepted
accepted_is Waiting e = cc
accepted_is Offered e = cc
accepted_is Accepted e = refl
accepted_is Refused e = cc
accepted_is Withdrawn e = cc
accepted_is statuses.Quit e = cc
accepted_is AutoRefused e = cc
accepted_is AutoWithdrawn e = cc
accepted_is Lapsed e = cc
