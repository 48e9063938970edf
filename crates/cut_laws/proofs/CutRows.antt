-- The ceilings and answers of a day of the cut dossier are those of a day a days later.
use Rattle.std.proofs.Common.{ℕ, ◌+◌, ◌-◌, ◌<◌, ◌≤◌, ◌≡◌, ◌⊎◌, true, false, ◌&&◌, filter, List, [], ◌∷◌, map, Option}
use Rattle.std.proofs.Common.{Some, None, inl, inr, refl, sym, ◌∙◌, ap, arith, nat_lt, nat_le, option_map, unwrap_or}
use Rattle.std.specs.Prelude.{◌==◌}
use Rattle.std.specs.List.{enumerate_from}
use Rattle.std.proofs.lemmas.Bool.{cases_Bool}
use Rattle.std.proofs.lemmas.Bool.Decides.{nat_tests}
use Rattle.std.proofs.lemmas.Simd.{map-map}
use Rattle.admit_core.specs.declared.dossier.Answer.{Answer}
use Rattle.admit_core.specs.declared.dossier.CeilingChange.{CeilingChange}
use Rattle.admit_core.specs.declared.dossier.School.{School}
use Rattle.admit_core.specs.declared.state.Mark.{Mark}
use Rattle.admit_core.specs.Days.{answers_of, ceiling_on, ceilings_of, first_evening, first_mark}
use Rattle.admit_core.specs.DossierRows.{DossierRows}
use Rattle.admit_core.specs.Lists.{least_by, lesser}
use Rattle.admit_core.specs.State.{State}
use Rattle.cut_laws.specs.Alike.{HaveEqualStatuses, undated, without_ceiling}
use Rattle.cut_laws.specs.Cut.{cut_at}
use Rattle.cut_laws.proofs.Unstamped.{bare}

module _ (a day : ℕ) (later : a < day) where
  -- ---- answers
  abbrev sooner : Answer → Answer
  sooner x = record x { day = x.day - a }

  same_answers_of : (answers : List Answer)
      → undated (filter (λ x. x.day == day) answers)
      ≡ undated (filter (λ x. x.day == (day - a)) (map sooner (filter (λ x. nat_lt a x.day) answers)))
  same_answers_of [] = refl
  same_answers_of (x ∷ rest) =
      elim (cases_Bool (x.day == day)) [
        | inl now ↦
            let left : nat_lt a x.day ≡ true = grind (arith, nat_tests, now, later) in
            let found : (x.day - a == day - a) ≡ true = grind (arith, nat_tests, now) in
            rw (now, left, found) (ap (λ l. record x { day = 0 } ∷ l) (same_answers_of rest))
        | inr other ↦
            elim (cases_Bool (nat_lt a x.day)) [
              | inl left ↦
                  let found : (x.day - a == day - a) ≡ false = grind (arith, nat_tests, other, left, later) in
                  rw (other, left, found) (same_answers_of rest)
              | inr past ↦ rw (other, past) (same_answers_of rest)
            ]
      ]

  -- ---- ceilings of a school
  module _ (h : ℕ) where
    abbrev moved : CeilingChange → CeilingChange
    moved c = record c { day = c.day - a }

    abbrev whole : List CeilingChange → Option CeilingChange
    whole cs = least_by (λ c. day - c.day) (filter (λ c. (c.school == h) && nat_le c.day day) cs)

    abbrev early : List CeilingChange → Option CeilingChange
    early cs = least_by (λ c. a - c.day) (filter (λ c. (c.school == h) && nat_le c.day a) cs)

    abbrev left_over : List CeilingChange → Option CeilingChange
    left_over cs =
        least_by (λ c. (day - a) - c.day)
        (filter (λ c. (c.school == h) && nat_le c.day (day - a)) (map moved (filter (λ c. nat_lt a c.day) cs)))

    -- the latest change is one after the cut, or there is none and it is the latest until then
    abbrev IsAfterCut : Option CeilingChange → Option CeilingChange → Type 0
    IsAfterCut all after =
        (c : CeilingChange) × (all ≡ Some c) × (after ≡ Some (moved c)) × (a < c.day) × (c.day ≤ day)

    abbrev IsUntilCut : Option CeilingChange → Type 0
    IsUntilCut None = Unit {0}
    IsUntilCut (Some c) = c.day ≤ a

    abbrev IsBeforeCut : Option CeilingChange → Option CeilingChange → Option CeilingChange → Type 0
    IsBeforeCut all before after = (after ≡ None) × (all ≡ before) × IsUntilCut before

    abbrev AreLatest : Option CeilingChange → Option CeilingChange → Option CeilingChange → Type 0
    AreLatest all before after = IsAfterCut all after ⊎ IsBeforeCut all before after

    -- one more change of the school until the cut, one after it, and until the day
    more_before : (c : CeilingChange) (all before after : Option CeilingChange) → c.day ≤ a → AreLatest all before after
        → AreLatest (Some (lesser (λ x. day - x.day) c all)) (Some (lesser (λ x. a - x.day) c before)) after
    more_before c all before after le (inl (x, is_all, is_after, past, within)) =
        let not_less : nat_le (day - c.day) (day - x.day) ≡ false = grind (arith, nat_tests, le, past, within) in
        inl (x, rw (is_all, not_less) refl, is_after, past, within)
    more_before c all None after le (inr (none, same, until)) = inr (none, rw same refl, le)
    more_before c all (Some x) after le (inr (none, same, until)) =
        let alike : nat_le (day - c.day) (day - x.day) ≡ nat_le (a - c.day) (a - x.day) =
        grind (arith, nat_tests, le, until, later) in
        elim (cases_Bool (nat_le (a - c.day) (a - x.day))) [
          | inl less ↦ inr (none, rw (same, alike, less) refl, rw less le)
          | inr more ↦ inr (none, rw (same, alike, more) refl, rw more until)
        ]

    more_after : (c : CeilingChange) (all before after : Option CeilingChange) → a < c.day → c.day ≤ day
        → AreLatest all before after
        → AreLatest (Some (lesser (λ x. day - x.day) c all)) before
        (Some (lesser (λ x. (day - a) - x.day) (moved c) after))
    more_after c all before after lt le (inl (x, is_all, is_after, past, within)) =
        let alike : nat_le (day - a - (c.day - a)) (day - a - (x.day - a)) ≡ nat_le (day - c.day) (day - x.day) =
        grind (arith, nat_tests, lt, le, past, within) in
        elim (cases_Bool (nat_le (day - c.day) (day - x.day))) [
          | inl less ↦ inl (c, rw (is_all, less) refl, rw (is_after, alike, less) refl, lt, le)
          | inr more ↦ inl (x, rw (is_all, more) refl, rw (is_after, alike, more) refl, past, within)
        ]
    more_after c all None after lt le (inr (none, same, until)) = inl (c, rw same refl, rw none refl, lt, le)
    more_after c all (Some x) after lt le (inr (none, same, until)) =
        let less : nat_le (day - c.day) (day - x.day) ≡ true = grind (arith, nat_tests, lt, le, until) in
        inl (c, rw (same, less) refl, rw none refl, lt, le)

    latest : (cs : List CeilingChange) → AreLatest (whole cs) (early cs) (left_over cs)
    latest [] = inr (refl, refl, tt)
    latest (c ∷ cs) =
        elim (cases_Bool (c.school == h)) [
          | inr other ↦
              elim (cases_Bool (nat_lt a c.day)) [
                | inl past ↦ rw (other, past, other) (latest cs)
                | inr until ↦ rw (other, until) (latest cs)
              ]
          | inl own ↦
              elim (cases_Bool (nat_lt a c.day)) [
                | inr until ↦
                    let now : nat_le c.day day ≡ true = grind (arith, nat_tests, until, later) in
                    let found : nat_le c.day a ≡ true = grind (arith, nat_tests, until) in
                    let le : c.day ≤ a = grind (arith, nat_tests, until) in
                    rw (own, until, now, found) (more_before c (whole cs) (early cs) (left_over cs) le (latest cs))
                | inl past ↦
                    let lt : a < c.day = grind (arith, nat_tests, past) in
                    let found : nat_le c.day a ≡ false = grind (arith, nat_tests, past) in
                    elim (cases_Bool (nat_le c.day day)) [
                      | inl now ↦
                          let le : c.day ≤ day = grind (arith, nat_tests, now) in
                          let there : nat_le (c.day - a) (day - a) ≡ true = grind (arith, nat_tests, le) in
                          rw (own, past, own, now, found, there)
                          (more_after c (whole cs) (early cs) (left_over cs) lt le (latest cs))
                      | inr beyond ↦
                          let there : nat_le (c.day - a) (day - a) ≡ false =
                          grind (arith, nat_tests, beyond, past, later) in
                          rw (own, past, own, beyond, found, there) (latest cs)
                    ]
              ]
        ]

    abbrev told : Option CeilingChange → ℕ → ℕ
    told o own = unwrap_or (option_map (λ c. c.ceiling) o) own

    told_alike : (all before after : Option CeilingChange) (own : ℕ) → AreLatest all before after
        → told all own ≡ told after (told before own)
    told_alike all before after own (inl (c, is_all, is_after, past, within)) = rw (is_all, is_after) refl
    told_alike all before after own (inr (none, same, until)) = rw (none, same) refl

    ceiling_alike : (d : DossierRows) (statuses : State) (school : School) → statuses.dossier ≡ d
        → ceiling_on d day h school
        ≡ ceiling_on (cut_at a statuses) (day - a) h (record school { ceiling = ceiling_on d a h school })
    ceiling_alike d evening school of =
        told_alike (whole d.ceilings) (early d.ceilings) (left_over d.ceilings) school.ceiling (latest d.ceilings)
        ∙ (λ i. told (left_over (sym of i).ceilings) (ceiling_on d a h school))

  -- ---- of all schools
  module _ (evening : State) where
    abbrev taken_in : ℕ × School → School
    taken_in x = record x.1 { ceiling = ceiling_on evening.dossier a x.0 x.1 }

    each_ceiling : (n : ℕ) (schools : List School)
        → map (λ (x : ℕ × School). ceiling_on evening.dossier day x.0 x.1) (enumerate_from n schools)
        ≡ map (λ (x : ℕ × School). ceiling_on (cut_at a evening) (day - a) x.0 x.1)
        (enumerate_from n (map taken_in (enumerate_from n schools)))
    each_ceiling n [] = refl
    each_ceiling n (school ∷ rest) =
        let here = ceiling_alike n evening.dossier evening school refl in
        λ i. here i ∷ each_ceiling (n + 1) rest i

    pub same_ceilings : ceilings_of evening.dossier day ≡ ceilings_of (cut_at a evening) (day - a)
    same_ceilings = each_ceiling 0 evening.dossier.schools

    pub same_answers : undated (answers_of evening.dossier day) ≡ undated (answers_of (cut_at a evening) (day - a))
    same_answers = same_answers_of evening.dossier.answers

-- ---- the morning after the cut
bare_schools : (d : DossierRows) (a n : ℕ) (schools : List School)
    → map without_ceiling schools
    ≡ map without_ceiling (map (λ (x : ℕ × School). record x.1 { ceiling = ceiling_on d a x.0 x.1 })
    (enumerate_from n schools))
bare_schools d a n [] = refl
bare_schools d a n (school ∷ rest) = ap (λ l. without_ceiling school ∷ l) (bare_schools d a (n + 1) rest)

pub statuses_taken_in : (a : ℕ) (evening : State) → HaveEqualStatuses evening (first_evening (cut_at a evening))
statuses_taken_in a evening =
    let schools = bare_schools evening.dossier a 0 evening.dossier.schools in
    let marks : map bare evening.marks
    ≡ map bare (map first_mark (map (λ (m : Mark). m.status) evening.marks)) =
    sym (ap (map bare) (map-map first_mark (λ (m : Mark). m.status) evening.marks)
    ∙ map-map bare bare evening.marks) in
    λ i. record {
      dossier = record evening.dossier { schools = schools i; statuses = []; ceilings = []; answers = [] };
      marks = marks i;
    }
