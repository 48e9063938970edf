use Rattle.std.proofs.Common.{◌≡◌}
use Rattle.std.specs.List.{AllWithin}
use Rattle.admit_core.specs.declared.tables.Tables.{Tables}
use Rattle.admit_core.specs.Relations.{programme_ids}
use Rattle.dossier_check.specs.Dealt.{SaysWhoIsRanked}
use Rattle.dossier_check.specs.WishTests.{IsRanked}
use Rattle.dossier_check.proofs.who_is_ranked.all_ranked.Given as goal

abbrev pub invariant-loop-row : goal.invariant-loop-row
invariant-loop-row l = (t : Tables) → l.programmes.keys ≡ programme_ids t → SaysWhoIsRanked t l.ranked
    → AllWithin (IsRanked t) l.rows 0 l.row-index
