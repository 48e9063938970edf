-- Runs of falls and the picks that make them.
use Rattle.std.proofs.Common.{◌≡◌, ℕ, List, [], ◌∷◌, inl, refl, sym, ap, ◌∙◌, subst, arith}
use Rattle.std.proofs.lemmas.List.{append-nil, ext_get_or}
use Rattle.admit_core.specs.declared.records.Fall.{Fall}
use Rattle.admit_core.specs.Falls.{FallingSystem, IsGreatest, fall_of, fallen, AreFalls, IsRunOfFalls, falls_by, Leads}
use Rattle.bar_fixpoint.specs.Chosen.{TellsOfFalls}
use Rattle.bar_fixpoint.specs.Runs.{schools_of}

-- bars that are at most each other are the same
pub unique_greatest : (sys : FallingSystem) (one other : List ℕ) → IsGreatest sys one → IsGreatest sys other
    → one ≡ other
unique_greatest sys one other is_one is_other =
    let up = is_other.greatest one is_one.fits in
    let down = is_one.greatest other is_other.fits in
    ext_get_or 0 one other up.as_many (λ i lt. omega (arith, up.each i, down.each i))

-- falls of overfilled places are those that their schools make
picked : (sys : FallingSystem) (bars : List ℕ) (falls : List Fall) → AreFalls sys bars falls
    → falls_by sys bars (schools_of falls) ≡ falls
picked sys bars [] are = refl
picked sys bars (f ∷ fs) are =
    let g : Fall = fall_of sys bars f.school in
    let made : f ≡ g = are.1 in
    let P : Fall → Type 0 = λ x. AreFalls sys (fallen bars x) fs in
    let rest : falls_by sys (fallen bars g) (schools_of fs) ≡ fs = picked sys (fallen bars g) fs (subst P made are.2) in
    ap (λ xs. g ∷ xs) rest ∙ ap (λ x. x ∷ fs) (sym made)

pub picks_fix : (sys : FallingSystem) (falls : List Fall) → IsRunOfFalls sys falls
    → Leads sys (schools_of falls) × (falls_by sys sys.ceilings (schools_of falls) ≡ falls)
picks_fix sys falls run =
    let same = picked sys sys.ceilings falls run.are_falls in
    let P : List Fall → Type 0 = IsRunOfFalls sys in
    (subst P (sym same) run, same)

-- what was told before an engine begins
pub none_told : (sys : FallingSystem) (choice : List ℕ → List ℕ → ℕ) (told : List ℕ) → TellsOfFalls sys choice told told
none_told sys choice told = (
  sys.ceilings,
  record { falls = []; are_falls = tt; chosen = tt; bars_fell = refl; told_of = inl (sym (append-nil told)) },
)
