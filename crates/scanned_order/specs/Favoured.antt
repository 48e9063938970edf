-- Whom a minimum rate favours, and the rate.
use Rattle.std.specs.Prelude.{ℕ, Bool}
use Rattle.admit_core.specs.declared.ranking.Ranked.{Ranked}
use Rattle.admit_core.specs.declared.ranking.RankGroup.{RankGroup}
use Rattle.scanned_order.specs.declared.scan.Favoured.{Favoured}
use Rattle.scanned_order.specs.declared.scan.Favoured.TheVariants.{Scholars, Residents}

abbrev pub is_favoured : Favoured → Ranked → Bool
is_favoured Scholars = λ r. r.scholar
is_favoured Residents = λ r. r.resident

abbrev pub rate_of : Favoured → RankGroup → ℕ
rate_of Scholars g = g.scholar_pct
rate_of Residents g = g.resident_pct
