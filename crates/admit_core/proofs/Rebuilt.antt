-- A dossier in which one school has another number of beds is valid as well.
use Rattle.std.proofs.Common.{ℕ, ◌+◌, ◌≤◌, ◌<◌, ◌≡◌, ◌==◌, Bool, true, false, List, ◌∷◌, [], map, length, get_or, set}
use Rattle.std.proofs.Common.{Option, ap, refl, suc, sym, zero, ◌∙◌, subst, arith, if◌then◌else◌}
use Rattle.std.specs.Prelude.{nat_eq}
use Rattle.std.specs.List.{All, IsDistinct, enumerate_from}
use Rattle.std.specs.Option.{ForSome}
use Rattle.std.proofs.lemmas.Bool.{eq-eqb, ne_eqb}
use Rattle.std.proofs.lemmas.List.{length-map}
use Rattle.std.proofs.lemmas.List.Elements.{All-cons, All-head, All-tail}
use Rattle.std.proofs.lemmas.List.FromFn.{length-enumerate_from}
use Rattle.admit_core.specs.declared.dossier.School.{School}
use Rattle.admit_core.specs.DossierRows.{DossierRows}
use Rattle.admit_core.specs.LeastBeds.{rebuilt, schools_with}
use Rattle.admit_core.specs.Validity.{IsValid, IsValidSchool}

-- the school, with n beds where it is the one
abbrev pub with_n : ℕ → ℕ → ℕ × School → School
with_n h n x = if x.0 == h then record x.1 { beds = n } else x.1

-- no school comes or goes
pub as_many : (schools : List School) (h n : ℕ) → length (schools_with schools h n) ≡ length schools
as_many schools h n = length-map (enumerate_from 0 schools) (with_n h n) ∙ length-enumerate_from 0 schools

-- those past the school stay
past : (h k n : ℕ) (schools : List School) → h < k → map (with_n h n) (enumerate_from k schools) ≡ schools
past h k n [] later = refl
past h k n (s ∷ schools) later =
    let other : (k == h) ≡ false = ne_eqb k h (λ same. omega (arith, same, later)) in
    rw (other, past h (k + 1) n schools (omega (arith, later))) refl

put_from : (h k i n : ℕ) (schools : List School) (d : School) → h ≡ k + i → i < length schools
    → set schools i (record (get_or schools i d) { beds = n }) ≡ map (with_n h n) (enumerate_from k schools)
put_from h k i n [] d at lt = absurd (omega (arith, lt))
put_from h k zero n (s ∷ schools) d at lt =
    let here : (k == h) ≡ true = eq-eqb k h (omega (arith, at)) in
    rw (here, past h (k + 1) n schools (omega (arith, at))) refl
put_from h k (suc i) n (s ∷ schools) d at lt =
    let other : (k == h) ≡ false = ne_eqb k h (λ same. omega (arith, same, at)) in
    rw other (ap (λ (l : List School). s ∷ l)
    (put_from h (k + 1) i n schools d (omega (arith, at)) (omega (arith, lt))))

-- the one school is put
pub put_beds : (schools : List School) (h n : ℕ) (d : School) → h < length schools
    → set schools h (record (get_or schools h d) { beds = n }) ≡ schools_with schools h n
put_beds schools h n d lt = put_from h 0 h n schools d (omega arith) lt

id_stays : (is : Bool) (n : ℕ) (s : School) → (if is then record s { beds = n } else s).id ≡ s.id
id_stays true n s = refl
id_stays false n s = refl

-- the ids stay
ids_from : (k : ℕ) (schools : List School) (h n : ℕ)
    → map (λ s. s.id) (map (with_n h n) (enumerate_from k schools)) ≡ map (λ s. s.id) schools
ids_from k [] h n = refl
ids_from k (s ∷ schools) h n = rw (id_stays (k == h) n s, ids_from (k + 1) schools h n) refl

valid_with : (is : Bool) (n : ℕ) (s : School) → n ≤ 2000000000 → IsValidSchool s
    → IsValidSchool (if is then record s { beds = n } else s)
valid_with true n s small valid = record { id = valid.id; beds = small; ceiling = valid.ceiling }
valid_with false n s small valid = valid

-- where the bound on the schools is the same, what names a school still does
school_there : (school : Option ℕ) (old new : ℕ) → new ≡ old → ForSome school (λ h. h < old)
    → ForSome school (λ h. h < new)
school_there school old new e there = λ x is. subst (λ n. x < n) (sym e) (there x is)

all_valid : (k : ℕ) (schools : List School) (h n : ℕ) → n ≤ 2000000000 → All IsValidSchool schools
    → All IsValidSchool (map (with_n h n) (enumerate_from k schools))
all_valid k [] h n small valid = λ i x lt. absurd (omega arith)
all_valid k (s ∷ schools) h n small valid =
    All-cons IsValidSchool (with_n h n (k, s)) (map (with_n h n) (enumerate_from (k + 1) schools))
    (valid_with (k == h) n s small (All-head IsValidSchool s schools valid))
    (all_valid (k + 1) schools h n small (All-tail IsValidSchool s schools valid))

-- a valid dossier stays one
pub rebuilt_is_valid : (d : DossierRows) (h n : ℕ) → n ≤ 2000000000 → IsValid d → IsValid (rebuilt d h n)
rebuilt_is_valid d h n small valid =
    let many : length (schools_with d.schools h n) ≡ length d.schools = as_many d.schools h n in
    let size = valid.size in
    let ids = valid.ids in
    record {
      size = record {
        groups = size.groups;
        ranked = size.ranked;
        programmes = size.programmes;
        schools = rw many size.schools;
        wishes = size.wishes;
        ceilings = size.ceilings;
        answers = size.answers;
      };
      ids = record {
        groups = ids.groups;
        programmes = ids.programmes;
        schools = subst (IsDistinct nat_eq) (sym (ids_from 0 d.schools h n)) ids.schools;
        wishes = ids.wishes;
      };
      groups = valid.groups;
      programmes = λ k p lt. let v = valid.programmes k p lt in
          record { id = v.id; group = v.group; seats = v.seats; limit = v.limit };
      schools = all_valid 0 d.schools h n small valid.schools;
      wishes = λ k w lt. let v = valid.wishes k w lt in record {
        id = v.id;
        programme = v.programme;
        school = school_there (get_or d.wishes k w).school (length d.schools)
            (length (schools_with d.schools h n)) many v.school;
        ranked = v.ranked;
        board_rank = v.board_rank;
        preference = v.preference;
      };
      wishes_apart = valid.wishes_apart;
      one_status_each = valid.one_status_each;
      one_accepted = valid.one_accepted;
      ceilings = λ k c lt. let v = valid.ceilings k c lt in
          record { day = v.day; school = rw many v.school; ceiling = v.ceiling };
      ceilings_by_day = valid.ceilings_by_day;
      ceilings_apart = valid.ceilings_apart;
      answers = λ k a lt. let v = valid.answers k a lt in record { day = v.day; target = v.target };
      answers_by_day = valid.answers_by_day;
    }
