-- Changes in the order of their days leave the latest ceiling of each school.
use Rattle.std.proofs.Common.{ℕ, zero, suc, ◌+◌, ◌-◌, ◌≤◌, ◌<◌, ◌≡◌, Bool, true, false, ◌&&◌, List, [], ◌∷◌, map}
use Rattle.std.proofs.Common.{length, set, get_or, inl, inr, refl, sym, ◌∙◌, ap, arith, filter, Option, Some, None}
use Rattle.std.specs.Prelude.{◌==◌, nat_le, slice_index, All, unwrap_or, option_map, if◌then◌else◌}
use Rattle.std.specs.List.{enumerate_from}
use Rattle.std.proofs.lemmas.Bool.{cases_Bool, cases_eq, eqb-true, eq-eqb, ne_eqb, and_parts, leb-true, lt-leb}
use Rattle.std.proofs.lemmas.List.{length-map, length-set, get_or-map, get_or-set_same, get_or-set_other, same_lists}
use Rattle.std.proofs.lemmas.List.{get_or_default}
use Rattle.std.proofs.lemmas.List.Elements.{All-filter, filter_passes}
use Rattle.std.proofs.lemmas.List.FromFn.{length-enumerate_from, get_or-enumerate_from}
use Rattle.admit_core.specs.declared.dossier.School.{School}
use Rattle.admit_core.specs.declared.dossier.CeilingChange.{CeilingChange}
use Rattle.admit_core.specs.DossierRows.{DossierRows}
use Rattle.admit_core.specs.Lists.{lesser, least_by}
use Rattle.admit_core.specs.Days.{ceiling_on, ceilings_of}
use Rattle.admit_core.specs.Validity.{IsValid}
use Rattle.desk_day.specs.Ceilings.{changed}

-- whether a change counts for a school on a day
abbrev counts : ℕ → ℕ → CeilingChange → Bool
counts day h c = (c.school == h) && nat_le c.day day

-- the ceiling of one school after changes
abbrev one_changed : ℕ → ℕ → List CeilingChange → ℕ → ℕ
one_changed day h [] own = own
one_changed day h (c ∷ cs) own = one_changed day h cs (if counts day h c then c.ceiling else own)

pub length-changed : (day : ℕ) (cs : List CeilingChange) (xs : List ℕ) → length (changed day cs xs) ≡ length xs
length-changed day [] xs = refl
length-changed day (c ∷ cs) xs =
    elim (cases_Bool (nat_le c.day day)) [
      | inl by ↦ rw by (length-changed day cs (set xs c.school c.ceiling) ∙ length-set xs c.school c.ceiling)
      | inr after ↦ rw after (length-changed day cs xs)
    ]

-- the changes school by school
by_school : (day h : ℕ) (cs : List CeilingChange) (xs : List ℕ) → h < length xs
    → slice_index (changed day cs xs) h ≡ one_changed day h cs (slice_index xs h)
by_school day h [] xs lt = refl
by_school day h (c ∷ cs) xs lt =
    elim (cases_Bool (nat_le c.day day)) [
      | inl by ↦
          let rest = by_school day h cs (set xs c.school c.ceiling) (omega (arith, length-set xs c.school c.ceiling)) in
          rw by (rest ∙ elim (cases_eq c.school h) [
            | inl same ↦ rw (same, eq-eqb h h refl) (ap (one_changed day h cs) (get_or-set_same xs h c.ceiling 0 lt))
            | inr other ↦ rw (ne_eqb c.school h other) (ap (one_changed day h cs)
                (get_or-set_other xs c.school h c.ceiling 0 (λ e. other (sym e))))
          ])
      | inr after ↦
          let rest = by_school day h cs xs lt in
          elim (cases_Bool (c.school == h)) [
            | inl same ↦ rw (after, same) rest
            | inr other ↦ rw (after, other) rest
          ]
    ]

-- of one school a later change has a later day
abbrev pub AreLater : List CeilingChange → Type 0
AreLater [] = Unit {0}
AreLater (c ∷ cs) = All (λ y. y.school ≡ c.school → c.day < y.day) cs × AreLater cs

pub later_from : (cs : List CeilingChange)
    →
    ((i j : ℕ) (d : CeilingChange) → i < j → j < length cs → (get_or cs j d).school ≡ (get_or cs i d).school
    → (get_or cs i d).day <
    (get_or cs j d).day)
    → AreLater cs
later_from [] each = tt
later_from (c ∷ cs) each = (
  λ k d lt same. each zero (suc k) d (omega arith) (omega arith) same,
  later_from cs (λ i j d lt j_lt same. each (suc i) (suc j) d (omega arith) (omega arith) same),
)

lesser_has : (key : CeilingChange → ℕ) (P : CeilingChange → Type 0) (x : CeilingChange) (o : Option CeilingChange)
    (y : CeilingChange)
    → P x → ((z : CeilingChange) → o ≡ Some z → P z) → Some (lesser key x o) ≡ Some y → P y
lesser_has key P x None y here rest e = let same : x ≡ y = (cc) in rw (← same) here
lesser_has key P x (Some z) y here rest e =
    elim (cases_Bool (nat_le (key x) (key z))) [
      | inl first ↦ let h = rw first at e in let same : x ≡ y = (cc) in rw (← same) here
      | inr later ↦ let h = rw later at e in let same : z ≡ y = (cc) in rw (← same) (rest z refl)
    ]

-- what all have, the one of least key has
least_has : (key : CeilingChange → ℕ) (P : CeilingChange → Type 0) (xs : List CeilingChange) (y : CeilingChange)
    → All P xs
    → least_by key xs ≡ Some y → P y
least_has key P [] y all e = absurd (cc)
least_has key P (x ∷ xs) y all e =
    lesser_has key P x (least_by key xs) y (all zero x (omega arith))
    (λ z f. least_has key P xs z (λ k d lt. all (suc k) d (omega arith))
    f) e

step : (day h : ℕ) (c : CeilingChange) (kept : List CeilingChange) → counts day h c ≡ true
    → All (λ y. counts day h y ≡ true) kept → All (λ y. y.school ≡ c.school → c.day < y.day) kept
    → (o : Option CeilingChange) → least_by (λ x. day - x.day) kept ≡ o
    → unwrap_or (option_map (λ x. x.ceiling) o) c.ceiling ≡ (lesser (λ x. day - x.day) c o).ceiling
step day h c kept here all later None e = refl
step day h c kept here all later (Some y) e =
    let counts_too : counts day h y ≡ true = least_has (λ x. day - x.day) (λ z. counts day h z ≡ true) kept y all e in
    let is_later : y.school ≡ c.school → c.day < y.day =
    least_has (λ x. day - x.day) (λ z. z.school ≡ c.school → c.day < z.day) kept y
    later e in
    let mine = and_parts (c.school == h) (nat_le c.day day) here in
    let its = and_parts (y.school == h) (nat_le y.day day) counts_too in
    let lt : c.day < y.day = is_later (eqb-true y.school h its.0 ∙ sym (eqb-true c.school h mine.0)) in
    let by : y.day ≤ day = leb-true y.day day its.1 in
    let nearer : nat_le (day - c.day) (day - y.day) ≡ false = lt-leb (day - c.day) (day - y.day) (omega arith) in
    rw nearer refl

-- the ceiling after changes is that of the latest one that counts
latest : (day h : ℕ) (cs : List CeilingChange) (own : ℕ) → AreLater cs
    → one_changed day h cs own ≡ unwrap_or (option_map (λ c. c.ceiling)
    (least_by (λ c. day - c.day) (filter (counts day h) cs))) own
latest day h [] own later = refl
latest day h (c ∷ cs) own later =
    elim (cases_Bool (counts day h c)) [
      | inl here ↦
          let kept = filter (counts day h) cs in
          rw here (latest day h cs c.ceiling later.1
          ∙ step day h c kept here (filter_passes (counts day h) cs)
          (All-filter (counts day h) (λ y. y.school ≡ c.school → c.day < y.day)
          cs later.0) (least_by (λ x. day - x.day) kept) refl)
      | inr not_here ↦ rw not_here (latest day h cs own later.1)
    ]

-- in a dossier a later change of a school has a later day
later_in : (d : DossierRows) → IsValid d → AreLater d.ceilings
later_in d valid = later_from d.ceilings (λ i j c lt j_lt same.
    let cs = d.ceilings in
    let day = λ (x : CeilingChange). x.day in
    let rises = valid.ceilings_by_day i j 0 (omega arith) (omega (arith, length-map cs day)) in
    let apart : (get_or cs i c).day ≡ (get_or cs j c).day → ⊥ = λ e. valid.ceilings_apart i j c lt j_lt e (sym same) in
    let left = get_or-map day cs i c 0 (omega arith) in
    let right = get_or-map day cs j c 0 j_lt in
    omega (arith, rises, left, right, apart))

-- THE CEILINGS of a day
pub ceilings_changed : (d : DossierRows) (day : ℕ) → IsValid d
    → changed day d.ceilings (map (λ (x : School). x.ceiling) d.schools) ≡ ceilings_of d day
ceilings_changed d day valid =
    let ceiling = λ (x : School). x.ceiling in
    let own = map ceiling d.schools in
    let cs = d.ceilings in
    let f = λ (x : ℕ × School). ceiling_on d day x.0 x.1 in
    let places = enumerate_from 0 d.schools in
    let long = length-map d.schools ceiling in
    let long_places = length-enumerate_from 0 d.schools in
    same_lists (changed day cs own) (ceilings_of d day)
    (omega (arith, length-changed day cs own, long, length-map places f, long_places))
    (λ h e lt.
    let h_own : h < length own = omega (arith, length-changed day cs own) in
    let h_in : h < length d.schools = omega (arith, long) in
    let school : School = record { id = 0; beds = 0; ceiling = 0 } in
    let found = get_or d.schools h school in
    let place : get_or places h (0, school) ≡ (0 + h, found) = get_or-enumerate_from 0 d.schools h (0, school) h_in in
    get_or_default (changed day cs own) h e 0 lt
    ∙ by_school day h cs own h_own
    ∙ latest day h cs (slice_index own h) (later_in d valid)
    ∙ ap (λ n. unwrap_or (option_map (λ c. c.ceiling) (least_by (λ c. day - c.day) (filter (counts day h) cs))) n)
    (get_or-map ceiling d.schools h school 0 h_in)
    ∙ sym (get_or-map f places h (0, school) e (omega (arith, long_places)) ∙ ap f place
    ∙ ap (λ n. ceiling_on d day n found) (zero_plus h)))
  where
    zero_plus : (n : ℕ) → 0 + n ≡ n
    zero_plus n = omega arith

-- each change has its school
pub schools_in : (d : DossierRows) → IsValid d → All (λ (c : CeilingChange). c.school < length d.schools) d.ceilings
schools_in d valid k c lt = (valid.ceilings k c lt).school
