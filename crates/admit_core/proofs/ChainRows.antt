-- The worked chains, blocking wishes and numbers of beds hold.
use Rattle.std.proofs.Common.{◌≡◌, ℕ, ◌≤◌, ◌<◌, refl, List, [], ◌∷◌, length, arith, subst}
use Rattle.std.specs.Prelude.{slice_index}
use Rattle.admit_core.specs.declared.ranking.CallOrder.{CallOrder}
use Rattle.admit_core.specs.State.{State}
use Rattle.admit_core.specs.Falls.{IsRunOfFalls, Fits, bars_after}
use Rattle.admit_core.specs.declared.records.Fall.{Fall}
use Rattle.admit_core.specs.Boarding.{boarding}
use Rattle.admit_core.specs.LeastBeds.{AreEnough, with_beds}
use Rattle.admit_core.proofs.FallsLaw.{run_is_greatest}
use Rattle.admit_core.proofs.DemandLaws.{boarding_is_lawful}
use Rattle.admit_core.specs.Days.{first_evening}
use Rattle.admit_core.specs.WorkedRows.{greatest_bar, greatest_bar_orders}
use Rattle.admit_core.specs.WorkedDays.{edges, edge_orders}
use Rattle.admit_core.specs.WorkedChains.{ValidChain, ChainFaults, TwoPasses, AnyName, Envies, SeatIsVacant, LastOfTwo}
use Rattle.admit_core.specs.WorkedChains.{NoneBlocks, BedsNeeded}

pub valid_chain_holds : ValidChain
valid_chain_holds = (
  refl,
  (
    record { lines = (record { over = refl; names = refl; tells = refl }, tt); settled = refl },
    refl,
    refl,
  ),
)

pub chain_faults_hold : ChainFaults
chain_faults_hold = (refl, refl, refl, refl, refl, refl, refl, refl, refl, refl, refl, refl)

pub two_passes_hold : TwoPasses
two_passes_hold = (refl, refl)

pub any_name_holds : AnyName
any_name_holds = (refl, refl)

pub envies_holds : Envies
envies_holds = (refl, refl, refl)

pub last_of_two_holds : LastOfTwo
last_of_two_holds = (refl, refl, refl, refl, refl)

pub seat_is_vacant_holds : SeatIsVacant
seat_is_vacant_holds = (refl, refl, refl)

pub none_blocks_holds : NoneBlocks
none_blocks_holds = (refl, refl, refl, refl, refl, refl)

-- n beds are enough where a run of falls keeps the bar at its ceiling
enough_by : (s : State) (orders : List CallOrder) (ceilings : List ℕ) (h n : ℕ) (falls : List Fall)
    → IsRunOfFalls (boarding (with_beds s h n) orders ceilings) falls
    → slice_index (bars_after ceilings falls) h ≡ slice_index ceilings h → AreEnough s orders ceilings h n
enough_by s orders ceilings h n falls run kept =
    let t = with_beds s h n in (
      bars_after ceilings falls,
      run_is_greatest (boarding t orders ceilings)
          (boarding_is_lawful t orders ceilings) falls run,
      kept,
    )

-- bars whose first is b begin with b
first_bar : (bars : List ℕ) (b : ℕ) → 0 < length bars → slice_index bars 0 ≡ b → (rest : List ℕ) × (bars ≡ b ∷ rest)
first_bar [] b long at = absurd (omega arith)
first_bar (x ∷ rest) b long at = (rest, (cc))

two_needed : (k : ℕ) → AreEnough greatest_bar greatest_bar_orders (10 ∷ []) 0 k → 2 ≤ k
two_needed k (bars, greatest, kept) =
    let (rest, is) = first_bar bars 10 (omega (arith, greatest.fits.under_ceilings.as_many)) kept in
    let sys = boarding (with_beds greatest_bar 0 k) greatest_bar_orders (10 ∷ []) in
    let fits : Fits sys (10 ∷ rest) = subst (λ (v : List ℕ). Fits sys v) is greatest.fits in
    omega (arith, fits.room 0 (omega arith))

one_needed : (k : ℕ) → AreEnough (first_evening edges) edge_orders (4 ∷ 0 ∷ 2000000000 ∷ []) 0 k → 1 ≤ k
one_needed k (bars, greatest, kept) =
    let (rest, is) = first_bar bars 4 (omega (arith, greatest.fits.under_ceilings.as_many)) kept in
    let sys = boarding (with_beds (first_evening edges) 0 k) edge_orders (4 ∷ 0 ∷ 2000000000 ∷ []) in
    let fits : Fits sys (4 ∷ rest) = subst (λ (v : List ℕ). Fits sys v) is greatest.fits in
    omega (arith, fits.room 0 (omega arith))

pub beds_needed_hold : BedsNeeded
beds_needed_hold = (
  record {
    enough = enough_by greatest_bar greatest_bar_orders (10 ∷ []) 0 2 []
        (record { are_falls = tt; settled = refl }) refl;
    least = two_needed;
  },
  record {
    enough = enough_by (first_evening edges) edge_orders (4 ∷ 0 ∷ 2000000000 ∷ []) 0 1 []
        (record { are_falls = tt; settled = refl }) refl;
    least = one_needed;
  },
  record {
    enough = enough_by (first_evening edges) edge_orders (4 ∷ 0 ∷ 2000000000 ∷ []) 1 0
        (record { school = 0; from = 4; to = 1; wishes = 0 ∷ [] } ∷ [])
        (record { are_falls = (refl, refl, tt); settled = refl }) refl;
    least = λ k enough. omega arith;
  },
)
