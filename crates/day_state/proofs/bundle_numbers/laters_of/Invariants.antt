use Rattle.std.proofs.Common.{◌≡◌}
use Rattle.day_state.specs.declared.bundles.Sites.TheVariants.{Programmes, Schools}
use Rattle.day_state.proofs.Laters.{IsFollowed}
use Rattle.day_state.proofs.bundle_numbers.laters_of.Given as goal

abbrev pub invariant-loop-place : goal.invariant-loop-place
invariant-loop-place l = record {
  ahead : l.ahead ≡ l.wishes;
  by_programme : IsFollowed Programmes l.wishes l.order l.programmes l.last_programmes.firsts.items
      l.last_programmes.candidates.items l.in_programmes.items l.place-index;
  by_school : IsFollowed Schools l.wishes l.order l.schools l.last_schools.firsts.items
      l.last_schools.candidates.items l.in_schools.items l.place-index;
}
