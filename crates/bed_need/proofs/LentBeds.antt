-- A state that is lent its own beds, with another number in one school, is the state with these beds.
use Rattle.std.proofs.Common.{ℕ, zero, suc, ◌+◌, ◌<◌, ◌≡◌, ◌∙◌, List, [], ◌∷◌, ap, arith, get_or, length, map, set}
use Rattle.std.proofs.lemmas.List.{get_or_read, length-map}
use Rattle.admit_core.specs.declared.dossier.School.{School}
use Rattle.admit_core.specs.DossierRows.{beds_of}
use Rattle.admit_core.specs.LeastBeds.{with_beds}
use Rattle.admit_core.specs.State.{State}
use Rattle.admit_core.proofs.Rebuilt.{put_beds}
use Rattle.linked_demand.specs.Lent.{lent, own_beds, schools_lent}
use Rattle.linked_demand.proofs.Lent.{schools_own}

one_lent : (schools : List School) (h n : ℕ) (d : School) → h < length schools
    → schools_lent schools (set (map (λ s. s.beds) schools) h n)
    ≡ set schools h (record (get_or schools h d) { beds = n })
one_lent [] h n d lt = absurd (omega (arith, lt))
one_lent (s ∷ schools) zero n d lt =
    ap (λ (ss : List School). let t : School = record s { beds = n } in t ∷ ss) (schools_own schools)
one_lent (s ∷ schools) (suc h) n d lt =
    ap (λ (ss : List School). s ∷ ss) (one_lent schools h n d (omega (arith, lt)))

lent_one : (s : State) (h n : ℕ) → h < length s.dossier.schools
    → lent s (set (own_beds s.dossier) h n) ≡ with_beds s h n
lent_one s h n lt =
    let any : School = record { id = 0; beds = 0; ceiling = 0 } in
    ap (λ (ss : List School). let t : State = record s { dossier = record s.dossier { schools = ss } } in t)
    (one_lent s.dossier.schools h n any lt ∙ put_beds s.dossier.schools h n any lt)

-- the beds that are lent, in the words of what was read
pub so_many : (s : State) (beds : List ℕ) → beds ≡ own_beds s.dossier → length beds ≡ length s.dossier.schools
so_many s beds are = ap (λ (ns : List ℕ). length ns) are ∙ length-map s.dossier.schools (λ x. x.beds)

pub put_lent : (s : State) (beds put : List ℕ) (h n : ℕ) → beds ≡ own_beds s.dossier → h < length s.dossier.schools
    → put ≡ set beds h n → lent s put ≡ with_beds s h n
put_lent s beds put h n are lt put_is =
    ap (lent s) (put_is ∙ ap (λ (ns : List ℕ). set ns h n) are) ∙ lent_one s h n lt

pub more_lent : (s : State) (beds put : List ℕ) (h x more : ℕ) → beds ≡ own_beds s.dossier
    → h < length s.dossier.schools → x ≡ get_or beds h x → put ≡ set beds h (x + more)
    → lent s put ≡ with_beds s h (beds_of s.dossier h + more)
more_lent s beds put h x more are lt read put_is =
    put_lent s beds put h (x + more) are lt put_is
    ∙ ap (λ (n : ℕ). with_beds s h (n + more))
    (get_or_read beds h x (omega (arith, lt, so_many s beds are)) read 0 ∙ ap (λ (ns : List ℕ). get_or ns h 0) are)
