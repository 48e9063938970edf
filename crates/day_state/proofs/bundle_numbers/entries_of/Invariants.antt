use Rattle.std.specs.Prelude.{◌≡◌, List}
use Rattle.admit_core.specs.declared.dossier.Wish.{Wish}
use Rattle.day_state.specs.declared.bundles.Sites.{Sites}
use Rattle.day_state.specs.Bundles.{AreLaters, bundles_of, shared_places}
use Rattle.day_state.proofs.Entries.{AreEntriesTo}
use Rattle.day_state.proofs.bundle_numbers.entries_of.Given as goal

abbrev pub invariant-loop-later : goal.invariant-loop-later
invariant-loop-later l =
    (sites : Sites) (ws : List Wish) → l.shared ≡ shared_places (bundles_of sites ws)
    → AreLaters (bundles_of sites ws) l.laters
    → AreEntriesTo (bundles_of sites ws) l.laters l.entries.items l.later-index
