-- The keys of rows give their places.
use Rattle.std.proofs.Common.{◌≡◌, ℕ, ◌≤◌, List, length, map, ap, arith}
use Rattle.dossier_check.specs.Keys.{ArePlaces}
use Rattle.dossier_check.proofs.Firsts.{length-map-here}

pub few_keys : {R : Type 0} (id : R → ℕ) (rows : List R) (keys : List ℕ) → keys ≡ map id rows → length rows ≤ 16000000
    → length keys ≤ 16000000
few_keys id rows keys same size = omega (arith, ap length same, length-map-here id rows)

pub are_places : {R : Type 0} (id : R → ℕ) (rows : List R) (keys : List ℕ) → keys ≡ map id rows → length rows ≤ 16000000
    → ArePlaces keys (map id rows)
are_places id rows keys same size = record { same = same; few = omega (arith, few_keys id rows keys same size) }
