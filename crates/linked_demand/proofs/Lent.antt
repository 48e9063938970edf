-- Beds that are lent: the state's own are those that it has already.
use Rattle.std.proofs.Common.{ℕ, suc, ◌-◌, ◌<◌, ◌≡◌, ◌∙◌, List, [], ◌∷◌, ap, arith, length, map, refl, sym, zero-add}
use Rattle.std.specs.Prelude.{slice_index}
use Rattle.std.proofs.lemmas.List.FromFn.{get_or-map-range_with_len, length-map-range_with_len}
use Rattle.admit_core.specs.declared.dossier.School.{School}
use Rattle.admit_core.specs.State.{State, bed_holders, free_beds}
use Rattle.linked_demand.specs.Lent.{left_in, left_of, lent, own_beds, schools_lent}

pub length_lent : (schools : List School) (beds : List ℕ) → length beds ≡ length schools
    → length (schools_lent schools beds) ≡ length schools
length_lent [] [] long = refl
length_lent [] (n ∷ beds) long = absurd (omega (arith, long))
length_lent (s ∷ schools) [] long = absurd (omega (arith, long))
length_lent (s ∷ schools) (n ∷ beds) long = ap suc (length_lent schools beds (omega (arith, long)))

pub beds_lent : (schools : List School) (beds : List ℕ) → length beds ≡ length schools
    → map (λ s. s.beds) (schools_lent schools beds) ≡ beds
beds_lent [] [] long = refl
beds_lent [] (n ∷ beds) long = absurd (omega (arith, long))
beds_lent (s ∷ schools) [] long = absurd (omega (arith, long))
beds_lent (s ∷ schools) (n ∷ beds) long = ap (λ (ns : List ℕ). n ∷ ns) (beds_lent schools beds (omega (arith, long)))

pub schools_own : (schools : List School) → schools_lent schools (map (λ s. s.beds) schools) ≡ schools
schools_own [] = refl
schools_own (s ∷ schools) = ap (λ (ss : List School). s ∷ ss) (schools_own schools)

pub lent_own : (s : State) → lent s (own_beds s.dossier) ≡ s
lent_own s = ap (λ (ss : List School). let t : State = record s { dossier = record s.dossier { schools = ss } } in t)
    (schools_own s.dossier.schools)

pub length_left : (s : State) (beds : List ℕ) → length (left_of s beds) ≡ length s.dossier.schools
length_left s beds = length-map-range_with_len (left_in s beds) 0 (length s.dossier.schools)

pub left_at : (s : State) (beds : List ℕ) (h : ℕ) → h < length s.dossier.schools
    → slice_index (left_of s beds) h ≡ left_in s beds h
left_at s beds h lt =
    get_or-map-range_with_len (left_in s beds) 0 (length s.dossier.schools) h h 0 lt (zero-add h)

-- the free beds of the state that has them are those that are left
pub free_lent : (s : State) (beds : List ℕ) (h : ℕ) → length beds ≡ length s.dossier.schools
    → left_in s beds h ≡ free_beds (lent s beds) h
free_lent s beds h long =
    ap (λ (ns : List ℕ). slice_index ns h - length (bed_holders s h))
    (sym (beds_lent s.dossier.schools beds long))

-- what is asked of a state that has another name
pub left_read : (t s : State) (beds : List ℕ) (h n : ℕ) → t ≡ s → h < length s.dossier.schools
    → n ≡ left_in t beds h → n ≡ slice_index (left_of s beds) h
left_read t s beds h n same lt is = is ∙ ap (λ (u : State). left_in u beds h) same ∙ sym (left_at s beds h lt)

pub lent_these : (s : State) (beds : List ℕ) → beds ≡ own_beds s.dossier → lent s beds ≡ s
lent_these s beds are = ap (lent s) are ∙ lent_own s
