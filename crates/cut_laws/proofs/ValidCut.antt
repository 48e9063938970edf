-- The dossier of the morning after a cut is a valid one.
use Rattle.std.proofs.Common.{ℕ, ◌+◌, ◌-◌, ◌<◌, ◌≤◌, ◌≡◌, Bool, true, filter, List, [], ◌∷◌, length, map, Option, Some}
use Rattle.std.proofs.Common.{None, inl, inr, refl, sym, ◌∙◌, ap, arith, subst, get_or, nat_eq, nat_lt, nat_le}
use Rattle.std.proofs.Common.{option_map, unwrap_or, zip}
use Rattle.std.specs.Prelude.{◌==◌, All, AllPairs, ◌&&◌}
use Rattle.std.specs.List.{AllByRecursion, IsDistinct, enumerate_from}
use Rattle.std.specs.List.Sorted.{IsNonDecreasing, IsNonDecreasingBy}
use Rattle.std.specs.Option.{ForSome}
use Rattle.std.proofs.Math.ListN.{get_or-map as get_or-map_default}
use Rattle.std.proofs.lemmas.Bool.{cases_Bool}
use Rattle.std.proofs.lemmas.Bool.Decides.{nat_tests}
use Rattle.std.proofs.lemmas.List.{get_or-map, length-map}
use Rattle.std.proofs.lemmas.List.Elements.{All-filter, All-from_recursion, recursion_from_All}
use Rattle.std.proofs.lemmas.List.FromFn.{length-enumerate_from}
use Rattle.std.proofs.lemmas.List.Kept.{AllPairs-filter, IsNonDecreasingBy-filter}
use Rattle.std.proofs.lemmas.List.Sums.{count_by-le-length, length-filter}
use Rattle.admit_core.specs.declared.dossier.Answer.{Answer}
use Rattle.admit_core.specs.declared.dossier.AnswerKind.{AnswerKind}
use Rattle.admit_core.specs.declared.dossier.AnswerKind.TheVariants.{Accept, Refuse, Withdraw, Quit}
use Rattle.admit_core.specs.declared.dossier.CeilingChange.{CeilingChange}
use Rattle.admit_core.specs.declared.dossier.School.{School}
use Rattle.admit_core.specs.declared.state.Mark.{Mark}
use Rattle.admit_core.specs.Days.{ceiling_on}
use Rattle.admit_core.specs.DossierRows.{DossierRows}
use Rattle.admit_core.specs.Lists.{least_by, lesser}
use Rattle.admit_core.specs.Ranges.{IsDay}
use Rattle.admit_core.specs.State.{State, entries}
use Rattle.admit_core.specs.declared.state.Status.{Status}
use Rattle.admit_core.specs.declared.dossier.Wish.{Wish}
use Rattle.admit_core.specs.OwnWishes.{AcceptsOne, IsOneAccepted}
use Rattle.std.proofs.lemmas.Slice.Zip.{get_or-zip, length-zip}
use Rattle.cut_laws.proofs.Dated.{no_mark}
use Rattle.admit_core.specs.Validity.{NotBothAccepted, IsTarget, IsValid, IsValidAnswer, IsValidCeiling, IsValidSchool}
use Rattle.admit_core.specs.Validity.{NotSameDay}
use Rattle.cut_laws.specs.Cut.{CutsAreValid, cut_at}

-- ---- what is kept of a list for later days
kept_pass : {X : Type 0} (p : X → Bool) (xs : List X) → AllByRecursion (λ x. p x ≡ true) (filter p xs)
kept_pass p [] = tt
kept_pass p (x ∷ xs) =
    elim (cases_Bool (p x)) [
      | inl passes ↦ rw passes (passes, kept_pass p xs)
      | inr fails ↦ rw fails (kept_pass p xs)
    ]

module _ {X : Type 0} (day : X → ℕ) (a : ℕ) (moved : X → X) (moves : (x : X) → day (moved x) ≡ day x - a)
    (none : X) where
  late : X → Bool
  late x = nat_lt a (day x)

  by_day : (xs : List X) → IsNonDecreasing (map day xs) → IsNonDecreasingBy day xs
  by_day xs rises i j d below lt =
      let long = length-map xs day in
      subst (λ (n : ℕ). n ≤ day (get_or xs j d)) (get_or-map_default day xs i d)
      (subst (λ (n : ℕ). get_or (map day xs) i (day d) ≤ n) (get_or-map_default day xs j d)
      (rises i j (day d) below (omega (arith, lt, long))))

  moved_by_day : (xs : List X) → IsNonDecreasingBy day xs → IsNonDecreasing (map day (map moved xs))
  moved_by_day xs rises i j d below lt =
      let whole = length-map (map moved xs) day in
      let long = length-map xs moved in
      let in_j : j < length xs = omega (arith, lt, whole, long) in
      let in_i : i < length xs = omega (arith, in_j, below) in
      let at : (k : ℕ) → k < length xs → get_or (map day (map moved xs)) k d ≡ day (get_or xs k none) - a =
      λ k k_lt. get_or-map day (map moved xs) k (moved none) d (omega (arith, k_lt, long))
      ∙ ap day (get_or-map moved xs k none (moved none) k_lt) ∙ moves (get_or xs k none) in
      let le = rises i j none below in_j in
      omega (arith, at i in_i, at j in_j, le)

  pub later_by_day : (xs : List X) → IsNonDecreasing (map day xs)
      → IsNonDecreasing (map day (map moved (filter (λ x. nat_lt a (day x)) xs)))
  later_by_day xs rises =
      moved_by_day (filter (λ x. nat_lt a (day x)) xs)
      (IsNonDecreasingBy-filter day (λ x. nat_lt a (day x)) xs (by_day xs rises))

module _ (a : ℕ) (evening : State) (valid : IsValid evening.dossier) where
  abbrev d : DossierRows
  d = evening.dossier

  abbrev c : DossierRows
  c = cut_at a evening

  abbrev moved_ceiling : CeilingChange → CeilingChange
  moved_ceiling x = record x { day = x.day - a }

  abbrev moved_answer : Answer → Answer
  moved_answer x = record x { day = x.day - a }

  -- ---- schools
  as_many_schools : length c.schools ≡ length d.schools
  as_many_schools =
      length-map (enumerate_from 0 d.schools) (λ (x : ℕ × School). record x.1 { ceiling = ceiling_on d a x.0 x.1 })
      ∙ length-enumerate_from 0 d.schools

  same_ids : (n : ℕ) (schools : List School)
      → map (λ (h : School). h.id) (map (λ (x : ℕ × School). record x.1 { ceiling = ceiling_on d a x.0 x.1 })
      (enumerate_from n schools)) ≡ map (λ (h : School). h.id) schools
  same_ids n [] = refl
  same_ids n (school ∷ rest) = ap (λ l. school.id ∷ l) (same_ids (n + 1) rest)

  lesser_one : (P : CeilingChange → Type 0) (key : CeilingChange → ℕ) (x : CeilingChange) (o : Option CeilingChange)
      → P x → ForSome o P → P (lesser key x o)
  lesser_one P key x None px po = px
  lesser_one P key x (Some y) px po =
      elim (cases_Bool (nat_le (key x) (key y))) [
        | inl less ↦ rw less px
        | inr more ↦ rw more (po y refl)
      ]

  least_one : (P : CeilingChange → Type 0) (key : CeilingChange → ℕ) (xs : List CeilingChange) → AllByRecursion P xs
      → ForSome (least_by key xs) P
  least_one P key [] all = λ y none. absurd (cc)
  least_one P key (x ∷ xs) all = λ y is.
      subst P (some_same (lesser key x (least_by key xs)) y is)
      (lesser_one P key x (least_by key xs) all.0 (least_one P key xs all.1))
    where
      some_same : (u v : CeilingChange) → Some u ≡ Some v → u ≡ v
      some_same u v e = cc

  told_fits : (o : Option CeilingChange) (own : ℕ) → ForSome o (λ x. x.ceiling ≤ 2000000000) → own ≤ 2000000000
      → unwrap_or (option_map (λ (x : CeilingChange). x.ceiling) o) own ≤ 2000000000
  told_fits None own fits own_fits = own_fits
  told_fits (Some x) own fits own_fits = fits x refl

  ceiling_fits : (h : ℕ) (school : School) → school.ceiling ≤ 2000000000 → ceiling_on d a h school ≤ 2000000000
  ceiling_fits h school own =
      let p : CeilingChange → Bool = λ x. (x.school == h) && nat_le x.day a in
      let fit : All (λ (x : CeilingChange). x.ceiling ≤ 2000000000) d.ceilings =
      λ k e lt. (valid.ceilings k e lt).ceiling in
      told_fits (least_by (λ x. a - x.day) (filter p d.ceilings)) school.ceiling
      (least_one (λ (x : CeilingChange). x.ceiling ≤ 2000000000) (λ x. a - x.day) (filter p d.ceilings)
      (recursion_from_All (λ (x : CeilingChange). x.ceiling ≤ 2000000000) (filter p d.ceilings)
      (All-filter p (λ (x : CeilingChange). x.ceiling ≤ 2000000000) d.ceilings fit))) own

  valid_schools : (n : ℕ) (schools : List School) → AllByRecursion IsValidSchool schools
      → AllByRecursion IsValidSchool
      (map (λ (x : ℕ × School). record x.1 { ceiling = ceiling_on d a x.0 x.1 }) (enumerate_from n schools))
  valid_schools n [] all = tt
  valid_schools n (school ∷ rest) all = (
    record { id = all.0.id; beds = all.0.beds; ceiling = ceiling_fits n school all.0.ceiling },
    valid_schools (n + 1) rest all.1,
  )

  school_there : (school : Option ℕ) → ForSome school (λ h. h < length d.schools)
      → ForSome school (λ h. h < length c.schools)
  school_there school there = λ h is. omega (arith, there h is, as_many_schools)

  -- ---- ceilings and answers of later days
  day_moved : (n : ℕ) → IsDay n → nat_lt a n ≡ true → IsDay (n - a)
  day_moved n is late =
      let lt : a < n = grind (arith, nat_tests, late) in
      record { from_one = omega (arith, lt); at_most = omega (arith, is.at_most) }

  valid_ceilings : (xs : List CeilingChange) → AllByRecursion (IsValidCeiling d) xs
      → AllByRecursion (λ x. nat_lt a x.day ≡ true) xs → AllByRecursion (IsValidCeiling c) (map moved_ceiling xs)
  valid_ceilings [] all late = tt
  valid_ceilings (x ∷ xs) all late = (
    record {
      day = day_moved x.day all.0.day late.0;
      school = omega (arith, all.0.school, as_many_schools);
      ceiling = all.0.ceiling;
    },
    valid_ceilings xs all.1 late.1,
  )

  same_target : (kind : AnswerKind) (target : ℕ) → IsTarget d kind target → IsTarget c kind target
  same_target Accept target is = is
  same_target Refuse target is = is
  same_target Withdraw target is = is
  same_target Quit target is = is

  valid_answers : (xs : List Answer) → AllByRecursion (IsValidAnswer d) xs
      → AllByRecursion (λ x. nat_lt a x.day ≡ true) xs → AllByRecursion (IsValidAnswer c) (map moved_answer xs)
  valid_answers [] all late = tt
  valid_answers (x ∷ xs) all late = (
    record { day = day_moved x.day all.0.day late.0; target = same_target x.kind x.target all.0.target },
    valid_answers xs all.1 late.1,
  )

  abbrev later_ceilings : List CeilingChange
  later_ceilings = filter (λ x. nat_lt a x.day) d.ceilings

  abbrev later_answers : List Answer
  later_answers = filter (λ x. nat_lt a x.day) d.answers

  no_ceiling : CeilingChange
  no_ceiling = record { day = 0; school = 0; ceiling = 0 }

  no_answer : Answer
  no_answer = record { day = 0; kind = Quit; target = 0 }

  ceilings_apart : AllPairs NotSameDay (map moved_ceiling later_ceilings)
  ceilings_apart i j e below lt same_day same_school =
      let ys = later_ceilings in
      let long = length-map ys moved_ceiling in
      let in_j : j < length ys = omega (arith, lt, long) in
      let in_i : i < length ys = omega (arith, in_j, below) in
      let late = All-from_recursion (λ (x : CeilingChange). nat_lt a x.day ≡ true) ys
      (kept_pass (λ (x : CeilingChange). nat_lt a x.day) d.ceilings) in
      let x = get_or ys i no_ceiling in
      let y = get_or ys j no_ceiling in
      let at_i : get_or (map moved_ceiling ys) i e ≡ moved_ceiling x =
      get_or-map moved_ceiling ys i no_ceiling e in_i in
      let at_j : get_or (map moved_ceiling ys) j e ≡ moved_ceiling y =
      get_or-map moved_ceiling ys j no_ceiling e in_j in
      let late_i : nat_lt a x.day ≡ true = late i no_ceiling in_i in
      let late_j : nat_lt a y.day ≡ true = late j no_ceiling in_j in
      let days : x.day - a ≡ y.day - a =
      ap (λ (z : CeilingChange). z.day) (sym at_i) ∙ same_day ∙ ap (λ (z : CeilingChange). z.day) at_j in
      let schools : x.school ≡ y.school =
      ap (λ (z : CeilingChange). z.school) (sym at_i) ∙ same_school ∙ ap (λ (z : CeilingChange). z.school) at_j in
      let day : x.day ≡ y.day = grind (arith, nat_tests, late_i, late_j, days) in
      AllPairs-filter NotSameDay (λ (z : CeilingChange). nat_lt a z.day) d.ceilings valid.ceilings_apart i j no_ceiling
      below in_j day schools

-- what holds of the entries of a state holds of its wishes with their statuses
still_one : (s : State) → length s.marks ≡ length s.dossier.wishes → IsOneAccepted s
    → AllPairs NotBothAccepted (zip s.dossier.wishes (map (λ (m : Mark). m.status) s.marks))
still_one s long one i j e below lt same first second =
    let ws = s.dossier.wishes in
    let ms = s.marks in
    let status : Mark → Status = λ m. m.status in
    let whole = length-zip ws (map status ms) in
    let many = length-map ms status in
    let in_ws : (k : ℕ) → k < length (zip ws (map status ms)) → k < length ws =
    λ k k_lt. omega (arith, k_lt, whole, many, long) in
    let at : (k : ℕ) (k_lt : k < length (zip ws (map status ms))) → get_or (zip ws (map status ms)) k e
    ≡ (get_or ws k e.0, (get_or ms k no_mark).status) =
    λ k k_lt. get_or-zip ws (map status ms) k e (in_ws k k_lt) (omega (arith, in_ws k k_lt, many, long))
    ∙ ap (λ (x : Status). (get_or ws k e.0, x))
    (get_or-map status ms k no_mark e.1 (omega (arith, in_ws k k_lt, long))) in
    let entry : (k : ℕ) (k_lt : k < length (zip ws (map status ms))) → get_or (entries s) k (e.0, no_mark)
    ≡ (get_or ws k e.0, get_or ms k no_mark) =
    λ k k_lt. get_or-zip ws ms k (e.0, no_mark) (in_ws k k_lt) (omega (arith, in_ws k k_lt, long)) in
    let i_lt : i < length (zip ws (map status ms)) = omega (arith, below, lt) in
    let j_in : j < length (entries s) = omega (arith, lt, whole, many, long, length-zip ws ms) in
    let accepts = subst (λ (x : Wish × Mark). AcceptsOne x (get_or (entries s) j (e.0, no_mark))) (entry i i_lt)
    (one i j (e.0, no_mark) below j_in) in
    let both = subst (λ (x : Wish × Mark). AcceptsOne (get_or ws i e.0, get_or ms i no_mark) x) (entry j lt) accepts in
    both (ap (λ (x : Wish × Status). x.0.candidate) (sym (at i i_lt)) ∙ same
    ∙ ap (λ (x : Wish × Status). x.0.candidate) (at j lt))
    (ap (λ (x : Wish × Status). x.1) (sym (at i i_lt)) ∙ first)
    (ap (λ (x : Wish × Status). x.1) (sym (at j lt)) ∙ second)

pub cuts_are_valid : CutsAreValid
cuts_are_valid a evening valid long accepted =
    let d = evening.dossier in
    let changes = later_ceilings a evening valid in
    let answers = later_answers a evening valid in
    let moved_c = moved_ceiling a evening valid in
    let moved_a = moved_answer a evening valid in
    let schools = as_many_schools a evening valid in
    record {
      size = record {
        groups = valid.size.groups;
        ranked = valid.size.ranked;
        programmes = valid.size.programmes;
        schools = omega (arith, schools, valid.size.schools);
        wishes = valid.size.wishes;
        ceilings = omega (
          arith,
          length-map changes moved_c,
          valid.size.ceilings,
          length-filter (λ (x : CeilingChange). nat_lt a x.day) d.ceilings,
          count_by-le-length (λ (x : CeilingChange). nat_lt a x.day) d.ceilings,
        );
        answers = omega (
          arith,
          length-map answers moved_a,
          valid.size.answers,
          length-filter (λ (x : Answer). nat_lt a x.day) d.answers,
          count_by-le-length (λ (x : Answer). nat_lt a x.day) d.answers,
        );
      };
      ids = record {
        groups = valid.ids.groups;
        programmes = valid.ids.programmes;
        schools = subst (IsDistinct nat_eq) (sym (same_ids a evening valid 0 d.schools)) valid.ids.schools;
        wishes = valid.ids.wishes;
      };
      groups = valid.groups;
      programmes = λ k e lt.
          let p = valid.programmes k e lt in
          record { id = p.id; group = p.group; seats = p.seats; limit = p.limit };
      schools = All-from_recursion IsValidSchool (cut_at a evening).schools
          (valid_schools a evening valid 0 d.schools (recursion_from_All IsValidSchool d.schools valid.schools));
      wishes = λ k e lt.
          let w = valid.wishes k e lt in
          record {
            id = w.id;
            programme = w.programme;
            school = school_there a evening valid _ w.school;
            ranked = w.ranked;
            board_rank = w.board_rank;
            preference = w.preference;
          };
      wishes_apart = valid.wishes_apart;
      one_status_each = length-map evening.marks (λ (m : Mark). m.status) ∙ long;
      one_accepted = still_one evening long accepted;
      ceilings = All-from_recursion (IsValidCeiling (cut_at a evening)) (map moved_c changes)
          (valid_ceilings a evening valid changes
          (recursion_from_All (IsValidCeiling d) changes
          (All-filter (λ (x : CeilingChange). nat_lt a x.day) (IsValidCeiling d) d.ceilings valid.ceilings))
          (kept_pass (λ (x : CeilingChange). nat_lt a x.day) d.ceilings));
      ceilings_by_day = later_by_day (λ (x : CeilingChange). x.day) a moved_c (λ x. refl)
          (no_ceiling a evening valid) d.ceilings valid.ceilings_by_day;
      ceilings_apart = ceilings_apart a evening valid;
      answers = All-from_recursion (IsValidAnswer (cut_at a evening)) (map moved_a answers)
          (valid_answers a evening valid answers
          (recursion_from_All (IsValidAnswer d) answers
          (All-filter (λ (x : Answer). nat_lt a x.day) (IsValidAnswer d) d.answers valid.answers))
          (kept_pass (λ (x : Answer). nat_lt a x.day) d.answers));
      answers_by_day = later_by_day (λ (x : Answer). x.day) a moved_a (λ x. refl)
          (no_answer a evening valid) d.answers valid.answers_by_day;
    }
