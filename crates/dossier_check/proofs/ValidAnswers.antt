-- The ceilings and the answers of the dossier are valid.
use Rattle.std.proofs.Common.{◌≡◌, ℕ, ◌<◌, Bool, true, false, nat_eq, List, [], ◌∷◌, length, map, get_or, refl, sym}
use Rattle.std.proofs.Common.{◌∙◌, subst, arith, true≢false, All, AllPairs}
use Rattle.std.specs.List.Sorted.{IsNonDecreasing}
use Rattle.std.proofs.lemmas.List.Elements.{All-map}
use Rattle.admit_core.specs.declared.dossier.AnswerKind.{AnswerKind}
use Rattle.admit_core.specs.declared.dossier.AnswerKind.TheVariants.{Accept, Refuse, Withdraw, Quit}
use Rattle.admit_core.specs.declared.tables.AnswerRow.{AnswerRow}
use Rattle.admit_core.specs.declared.tables.CeilingRow.{CeilingRow}
use Rattle.admit_core.specs.declared.tables.Tables.{Tables}
use Rattle.admit_core.specs.Lists.{is_among, distinct}
use Rattle.admit_core.specs.Ranges.{AreTables}
use Rattle.admit_core.specs.Relations.{school_ids, wish_ids, is_target}
use Rattle.admit_core.specs.Standing.{place_of, school_of_row, wish_of_row, target_of, ceiling_of_row, answer_of_row}
use Rattle.admit_core.specs.Standing.{dossier_of}
use Rattle.admit_core.specs.Validity.{IsValidCeiling, NotSameDay, IsTarget, IsValidAnswer}
use Rattle.std.proofs.lemmas.Simd.{map-map}
use Rattle.std.proofs.lemmas.Bool.{and_from}
use Rattle.dossier_check.proofs.FaultFree.{second_passes, third_passes}
use Rattle.dossier_check.proofs.Firsts.{length-map-here}
use Rattle.dossier_check.proofs.LastRow.{days_rise}
use Rattle.dossier_check.proofs.NoFault.{HasNoFault}
use Rattle.dossier_check.proofs.Pairs.{all_pairs_map}
use Rattle.dossier_check.proofs.Places.{nat_eq_same, nat_eq_sound, place_within, same_place}
use Rattle.dossier_check.proofs.RowFacts.{ceilings_apart, ceiling_schools_known, targets_known}

-- a number of a list is among its distinct ones
among_distinct : (n : ℕ) (ns : List ℕ) → is_among n ns ≡ true → is_among n (distinct ns) ≡ true
among_distinct n [] e = cc
among_distinct n (m ∷ ns) e = by (is_among m ns) refl (nat_eq n m) refl (among_distinct n ns)
  where
    by : (again : Bool) → is_among m ns ≡ again → (here : Bool) → nat_eq n m ≡ here
        → (is_among n ns ≡ true → is_among n (distinct ns) ≡ true) → is_among n (distinct (m ∷ ns)) ≡ true
    by true f true g rest = let same : n ≡ m = nat_eq_sound n m g in rw f (rest (rw same f))
    by true f false g rest = rw f (rest (rw g at e))
    by false f true g rest = rw (f, g) refl
    by false f false g rest = rw (f, g) (rest (rw g at e))

module _ (t : Tables) (ranges : AreTables t) (fine : HasNoFault t) where
  school_there : (school : ℕ) → is_among school (school_ids t) ≡ true
      → place_of (school_ids t) school < length (dossier_of t).schools
  school_there school known = rw (length-map-here school_of_row t.schools, ← length-map-here (λ h. h.id) t.schools)
      (place_within (school_ids t) school known)

  pub valid_ceilings : All (IsValidCeiling (dossier_of t)) (dossier_of t).ceilings
  valid_ceilings =
      All-map (IsValidCeiling (dossier_of t)) (ceiling_of_row t) t.ceilings (λ k c lt.
      let row = ranges.ceilings.each k c lt in
      record {
        day = row.day;
        school = school_there (get_or t.ceilings k c).school (ceiling_schools_known t fine k c lt);
        ceiling = row.ceiling;
      })

  pub ceilings_by_day : IsNonDecreasing (map (λ c. c.day) (dossier_of t).ceilings)
  ceilings_by_day = subst IsNonDecreasing (sym (map-map (λ c. c.day) (ceiling_of_row t) t.ceilings))
      (days_rise (λ c. c.day) t.ceilings (third_passes fine.ceilings))

  not_same_day : (i j : ℕ) (d : CeilingRow) → (i < j) → j < length t.ceilings
      → NotSameDay (ceiling_of_row t (get_or t.ceilings i d)) (ceiling_of_row t (get_or t.ceilings j d))
  not_same_day i j d lt in_j days schools =
      let a : CeilingRow = get_or t.ceilings i d in
      let b : CeilingRow = get_or t.ceilings j d in
      let school : a.school ≡ b.school =
      same_place (school_ids t) a.school b.school (ceiling_schools_known t fine i d (omega arith))
      (ceiling_schools_known t fine j d in_j) schools in
      true≢false (sym (and_from _ _ (nat_eq_same b.day a.day (sym days)) (nat_eq_same b.school a.school (sym school)))
      ∙ ceilings_apart t fine i j d lt in_j)

  pub no_day_twice : AllPairs NotSameDay (dossier_of t).ceilings
  no_day_twice = all_pairs_map NotSameDay (ceiling_of_row t) t.ceilings not_same_day

  wish_there : (wish : ℕ) → is_among wish (wish_ids t) ≡ true
      → place_of (wish_ids t) wish < length (dossier_of t).wishes
  wish_there wish known = rw (length-map-here (wish_of_row t) t.wishes, ← length-map-here (λ w. w.id) t.wishes)
      (place_within (wish_ids t) wish known)

  target_there : (kind : AnswerKind) (target : ℕ) → is_target t kind target ≡ true
      → IsTarget (dossier_of t) kind (target_of t kind target)
  target_there Quit target known = among_distinct target (map (λ w. w.candidate) (dossier_of t).wishes)
      (rw (map-map (λ w. w.candidate) (wish_of_row t) t.wishes) known)
  target_there Accept target known = wish_there target known
  target_there Refuse target known = wish_there target known
  target_there Withdraw target known = wish_there target known

  pub valid_answers : All (IsValidAnswer (dossier_of t)) (dossier_of t).answers
  valid_answers =
      All-map (IsValidAnswer (dossier_of t)) (answer_of_row t) t.answers (λ k a lt.
      let row : AnswerRow = get_or t.answers k a in
      record {
        day = (ranges.answers.each k a lt).day;
        target = target_there row.kind row.target (targets_known t fine k a lt);
      })

  pub answers_by_day : IsNonDecreasing (map (λ a. a.day) (dossier_of t).answers)
  answers_by_day = subst IsNonDecreasing (sym (map-map (λ a. a.day) (answer_of_row t) t.answers))
      (days_rise (λ a. a.day) t.answers (second_passes fine.answers))
