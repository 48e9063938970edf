-- The beds of a dossier in which one school has another number of them.
use Rattle.std.proofs.Common.{◌≡◌, ◌∙◌, ℕ, zero, suc, ◌+◌, ◌-◌, ◌<◌, Bool, true, false, List, [], ◌∷◌, ap, arith}
use Rattle.std.proofs.Common.{if◌then◌else◌, length, map, refl}
use Rattle.std.specs.Prelude.{◌==◌, slice_index}
use Rattle.std.specs.List.{enumerate_from}
use Rattle.std.proofs.lemmas.Bool.{eq-eqb, ne_eqb}
use Rattle.admit_core.specs.declared.dossier.School.{School}
use Rattle.admit_core.specs.declared.ranking.CallOrder.{CallOrder}
use Rattle.admit_core.specs.Boarding.{boarding}
use Rattle.admit_core.specs.DossierRows.{DossierRows, beds_of}
use Rattle.admit_core.specs.LeastBeds.{rebuilt, with_beds}
use Rattle.admit_core.specs.State.{State, bed_holders, free_beds}
use Rattle.admit_core.proofs.Rebuilt.{with_n}
use Rattle.admit_core.proofs.ClosedEvenings.{free_at}

beds_if : (is : Bool) (n : ℕ) (s : School) → (if is then record s { beds = n } else s).beds ≡ (if is then n else s.beds)
beds_if true n s = refl
beds_if false n s = refl

beds_at : (k : ℕ) (schools : List School) (h n i : ℕ) → i < length schools
    → slice_index (map (λ s. s.beds) (map (with_n h n) (enumerate_from k schools))) i
    ≡ (if (k + i) == h then n else slice_index (map (λ s. s.beds) schools) i)
beds_at k [] h n i lt = absurd (omega arith)
beds_at k (s ∷ schools) h n zero lt =
    let here : k + 0 ≡ k = omega arith in rw here (beds_if (k == h) n s)
beds_at k (s ∷ schools) h n (suc i) lt =
    let there : k + suc i ≡ k + 1 + i = omega arith in rw there (beds_at (k + 1) schools h n i (omega arith))

-- the school at the place has n beds, and each other one has its own
pub beds_with : (d : DossierRows) (h n i : ℕ) → i < length d.schools
    → beds_of (rebuilt d h n) i ≡ (if i == h then n else beds_of d i)
beds_with d h n i lt = let whole : 0 + i ≡ i = omega arith in rw whole at (beds_at 0 d.schools h n i lt)

module _ (s : State) (orders : List CallOrder) (ceilings : List ℕ) (h n i : ℕ)
    (long : length ceilings ≡ length s.dossier.schools) (lt : i < length ceilings) where
  free_with : slice_index (boarding (with_beds s h n) orders ceilings).free i
      ≡ beds_of (rebuilt s.dossier h n) i - length (bed_holders s i)
  free_with = free_at (with_beds s h n) orders ceilings i lt

  pub free_here : i ≡ h → slice_index (boarding (with_beds s h n) orders ceilings).free i ≡ n - length (bed_holders s i)
  free_here is =
      free_with ∙ ap (λ (beds : ℕ). beds - length (bed_holders s i))
      (rw (eq-eqb i h is) at (beds_with s.dossier h n i (omega (arith, long, lt))))

  pub free_there : (i ≡ h → ⊥) → slice_index (boarding (with_beds s h n) orders ceilings).free i ≡ free_beds s i
  free_there other =
      free_with ∙ ap (λ (beds : ℕ). beds - length (bed_holders s i))
      (rw (ne_eqb i h other) at (beds_with s.dossier h n i (omega (arith, long, lt))))
