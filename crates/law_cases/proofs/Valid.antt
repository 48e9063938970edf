-- Whether a small dossier is valid, by a test that computes.
use Rattle.std.proofs.Common.{ℕ, zero, suc, ◌<◌, ◌≡◌, Bool, true, false, not, ◌&&◌, ◌||◌, List, [], ◌∷◌, map, length}
use Rattle.std.proofs.Common.{sum, inl, inr, refl, sym, ◌∙◌, ap, nat_eq, nat_lt, zip, Option, Some, None}
use Rattle.std.specs.Prelude.{IsSome, nat_le, if◌then◌else◌}
use Rattle.std.specs.List.{list_all}
use Rattle.std.specs.Option.{ForSome}
use Rattle.std.proofs.lemmas.Bool.{and_from, and_parts, both_ways, cases_Bool, eq-eqb, eqb-true, false≢true, leb-true}
use Rattle.std.proofs.lemmas.Bool.{ltb-true, not-true}
use Rattle.admit_core.specs.declared.dossier.Answer.{Answer}
use Rattle.admit_core.specs.declared.dossier.AnswerKind.{AnswerKind}
use Rattle.admit_core.specs.declared.dossier.AnswerKind.TheVariants.{Accept, Refuse, Withdraw, Quit}
use Rattle.admit_core.specs.declared.dossier.CeilingChange.{CeilingChange}
use Rattle.admit_core.specs.declared.dossier.Programme.{Programme}
use Rattle.admit_core.specs.declared.dossier.School.{School}
use Rattle.admit_core.specs.declared.dossier.Wish.{Wish}
use Rattle.admit_core.specs.declared.ranking.RankGroup.{RankGroup}
use Rattle.admit_core.specs.declared.ranking.Ranked.{Ranked}
use Rattle.admit_core.specs.declared.state.Status.{Status}
use Rattle.admit_core.specs.DossierRows.{DossierRows, candidates_of, ranking_of}
use Rattle.admit_core.specs.Lists.{is_among}
use Rattle.admit_core.specs.Ranges.{IsDay, IsNumber}
use Rattle.admit_core.specs.State.{status_number}
use Rattle.admit_core.specs.Validity.{HasBoardRank, IsApart, IsRanking, IsTarget, IsValid, IsValidAnswer}
use Rattle.admit_core.specs.Validity.{IsValidCeiling, IsValidGroup, IsValidProgramme, IsValidRanked, IsValidSchool}
use Rattle.admit_core.specs.Validity.{IsValidWish, NotBothAccepted, NotSameDay}
use Rattle.law_cases.proofs.Tested.{all_by, all_pairs, differ, distinct_by, level_by, pairs_by, rising_by}

-- ---- numbers
abbrev is_number : ℕ → Bool
is_number n = nat_le 1 n && nat_le n 2000000000

number_by : (n : ℕ) → is_number n ≡ true → IsNumber n
number_by n t =
    let parts = and_parts (nat_le 1 n) (nat_le n 2000000000) t in
    record { from_one = leb-true 1 n parts.0; at_most = leb-true n 2000000000 parts.1 }

abbrev is_day : ℕ → Bool
is_day n = nat_le 1 n && nat_le n 366

day_by : (n : ℕ) → is_day n ≡ true → IsDay n
day_by n t =
    let parts = and_parts (nat_le 1 n) (nat_le n 366) t in
    record { from_one = leb-true 1 n parts.0; at_most = leb-true n 366 parts.1 }

-- ---- rows
abbrev ranked_test : Ranked → Bool
ranked_test r = is_number r.candidate && is_number r.rank

ranked_by : (r : Ranked) → ranked_test r ≡ true → IsValidRanked r
ranked_by r t =
    let parts = and_parts (is_number r.candidate) (is_number r.rank) t in
    record { candidate = number_by r.candidate parts.0; rank = number_by r.rank parts.1 }

abbrev pub ranking_test : RankGroup → Bool
ranking_test g =
    (nat_le g.scholar_pct 100 && nat_le g.resident_pct 100)
    && (all_pairs nat_lt (map (λ (r : Ranked). r.rank) g.list)
    && all_pairs differ (map (λ (r : Ranked). r.candidate) g.list))

pub ranking_by : (g : RankGroup) → ranking_test g ≡ true → IsRanking g
ranking_by g t =
    let parts = and_parts (nat_le g.scholar_pct 100 && nat_le g.resident_pct 100) _ t in
    let rates = and_parts (nat_le g.scholar_pct 100) _ parts.0 in
    let lists = and_parts (all_pairs nat_lt (map (λ (r : Ranked). r.rank) g.list)) _ parts.1 in
    record {
      scholar_pct = leb-true g.scholar_pct 100 rates.0;
      resident_pct = leb-true g.resident_pct 100 rates.1;
      ranks = rising_by (map (λ (r : Ranked). r.rank) g.list) lists.0;
      candidates = distinct_by (map (λ (r : Ranked). r.candidate) g.list) lists.1;
    }

abbrev group_test : RankGroup → Bool
group_test g = (is_number g.id && ranking_test g) && (nat_le (length g.list) 16000000 && list_all ranked_test g.list)

group_by : (g : RankGroup) → group_test g ≡ true → IsValidGroup g
group_by g t =
    let parts = and_parts (is_number g.id && ranking_test g) _ t in
    let front = and_parts (is_number g.id) _ parts.0 in
    let back = and_parts (nat_le (length g.list) 16000000) _ parts.1 in
    record {
      id = number_by g.id front.0;
      ranking = ranking_by g front.1;
      size = leb-true (length g.list) 16000000 back.0;
      list = all_by IsValidRanked ranked_test ranked_by g.list back.1;
    }

abbrev programme_test : DossierRows → Programme → Bool
programme_test d p = (is_number p.id && nat_lt p.group (length d.groups))
    && (nat_le p.seats 2000000000 && nat_le p.limit 2000000000)

programme_by : (d : DossierRows) (p : Programme) → programme_test d p ≡ true → IsValidProgramme d p
programme_by d p t =
    let parts = and_parts (is_number p.id && nat_lt p.group (length d.groups)) _ t in
    let front = and_parts (is_number p.id) _ parts.0 in
    let back = and_parts (nat_le p.seats 2000000000) _ parts.1 in
    record {
      id = number_by p.id front.0;
      group = ltb-true p.group (length d.groups) front.1;
      seats = leb-true p.seats 2000000000 back.0;
      limit = leb-true p.limit 2000000000 back.1;
    }

abbrev school_test : School → Bool
school_test h = is_number h.id && (nat_le h.beds 2000000000 && nat_le h.ceiling 2000000000)

school_by : (h : School) → school_test h ≡ true → IsValidSchool h
school_by h t =
    let parts = and_parts (is_number h.id) _ t in
    let back = and_parts (nat_le h.beds 2000000000) _ parts.1 in
    record {
      id = number_by h.id parts.0;
      beds = leb-true h.beds 2000000000 back.0;
      ceiling = leb-true h.ceiling 2000000000 back.1;
    }

-- ---- wishes
abbrev school_there : ℕ → Option ℕ → Bool
school_there n None = true
school_there n (Some h) = nat_lt h n

there_by : (n : ℕ) (school : Option ℕ) → school_there n school ≡ true → ForSome school (λ h. h < n)
there_by n None t = λ h e. absurd (none_some h e) where
  none_some : (h : ℕ) → None ≡ Some h → ⊥
  none_some h e = let is : ⊥ = (cc) in is
there_by n (Some g) t = λ h e. let is : g ≡ h = (cc) in rw (← is) (ltb-true g n t)

abbrev rank_test : Option ℕ → ℕ → Bool
rank_test None rank = nat_eq rank 0
rank_test (Some h) rank = is_number rank

rank_by : (school : Option ℕ) (rank : ℕ) → rank_test school rank ≡ true → HasBoardRank school rank
rank_by None rank t = eqb-true rank 0 t
rank_by (Some h) rank t = number_by rank t

abbrev wish_test : DossierRows → Wish → Bool
wish_test d w =
    ((is_number w.id && nat_lt w.programme (length d.programmes))
    && (school_there (length d.schools) w.school && rank_test w.school w.board_rank))
    && (is_among w.candidate (map (λ (r : Ranked). r.candidate) (ranking_of d w.programme))
    && nat_le w.preference 2000000000)

wish_by : (d : DossierRows) (w : Wish) → wish_test d w ≡ true → IsValidWish d w
wish_by d w t =
    let parts = and_parts ((is_number w.id && nat_lt w.programme (length d.programmes))
    && (school_there (length d.schools) w.school && rank_test w.school w.board_rank)) _ t in
    let front = and_parts (is_number w.id && nat_lt w.programme (length d.programmes)) _ parts.0 in
    let names = and_parts (is_number w.id) _ front.0 in
    let boards = and_parts (school_there (length d.schools) w.school) _ front.1 in
    let back = and_parts (is_among w.candidate (map (λ (r : Ranked). r.candidate) (ranking_of d w.programme))) _
    parts.1 in
    record {
      id = number_by w.id names.0;
      programme = ltb-true w.programme (length d.programmes) names.1;
      school = there_by (length d.schools) w.school boards.0;
      ranked = back.0;
      board_rank = rank_by w.school w.board_rank boards.1;
      preference = leb-true w.preference 2000000000 back.1;
    }

-- ---- pairs of wishes
abbrev same_school : Option ℕ → Option ℕ → Bool
same_school None None = true
same_school None (Some h) = false
same_school (Some g) None = false
same_school (Some g) (Some h) = nat_eq g h

same_by : (v w : Option ℕ) → v ≡ w → same_school v w ≡ true
same_by None w e = ap (same_school None) (sym e)
same_by (Some g) w e = ap (same_school (Some g)) (sym e) ∙ eq-eqb g g refl

abbrev both_in : Option ℕ → Option ℕ → Bool
both_in None w = false
both_in (Some g) None = false
both_in (Some g) (Some h) = nat_eq g h

both_by : (v w : Option ℕ) → IsSome v → v ≡ w → both_in v w ≡ true
both_by None w some e = absurd (false≢true some)
both_by (Some g) w some e = ap (both_in (Some g)) (sym e) ∙ eq-eqb g g refl

abbrev agree : Bool → Bool → Bool
agree true b = b
agree false b = not b

agree_by : (a b : Bool) → agree a b ≡ true → a ≡ b
agree_by true b t = sym t
agree_by false b t = sym (not-true b t)

implied : (a b : Bool) → (not a || b) ≡ true → a ≡ true → b ≡ true
implied true b t e = t
implied false b t e = absurd (false≢true e)

chosen : (b x y : Bool) → (if b then x else y) ≡ true → b ≡ true → x ≡ true
chosen true x y t e = t
chosen false x y t e = absurd (false≢true e)

otherwise : (b x y : Bool) → (if b then x else y) ≡ true → b ≡ false → y ≡ true
otherwise true x y t e = absurd (false≢true (sym e))
otherwise false x y t e = t

-- two wishes of one candidate, and of two
abbrev own_test : Wish → Wish → Bool
own_test v w =
    (not (nat_eq v.programme w.programme && same_school v.school w.school)
    && (not (same_school v.school w.school) || nat_eq v.board_rank w.board_rank))
    && (agree (nat_eq v.preference 0) (nat_eq w.preference 0)
    && (not (nat_eq v.preference w.preference) || nat_eq v.preference 0))

abbrev others_test : Wish → Wish → Bool
others_test v w = not (both_in v.school w.school && nat_eq v.board_rank w.board_rank)

abbrev apart_test : Wish → Wish → Bool
apart_test v w = if nat_eq v.candidate w.candidate then own_test v w else others_test v w

record IsOwn (v w : Wish) : Type 0 where
  differs : (nat_eq v.programme w.programme && same_school v.school w.school) ≡ false
  ranks : (not (same_school v.school w.school) || nat_eq v.board_rank w.board_rank) ≡ true
  both : nat_eq v.preference 0 ≡ nat_eq w.preference 0
  zero : (not (nat_eq v.preference w.preference) || nat_eq v.preference 0) ≡ true

own_by : (v w : Wish) → own_test v w ≡ true → IsOwn v w
own_by v w t =
    let a = not (nat_eq v.programme w.programme && same_school v.school w.school) in
    let b = not (same_school v.school w.school) || nat_eq v.board_rank w.board_rank in
    let c = agree (nat_eq v.preference 0) (nat_eq w.preference 0) in
    let d = not (nat_eq v.preference w.preference) || nat_eq v.preference 0 in
    let parts = and_parts (a && b) (c && d) t in
    let front = and_parts a b parts.0 in
    let back = and_parts c d parts.1 in
    record {
      differs = not-true (nat_eq v.programme w.programme && same_school v.school w.school) front.0;
      ranks = front.1;
      both = agree_by (nat_eq v.preference 0) (nat_eq w.preference 0) back.0;
      zero = back.1;
    }

apart_by : (v w : Wish) → apart_test v w ≡ true → IsApart v w
apart_by v w t =
    let one = nat_eq v.candidate w.candidate in
    let own : v.candidate ≡ w.candidate → IsOwn v w =
    λ e. own_by v w (chosen one (own_test v w) (others_test v w) t (eq-eqb v.candidate w.candidate e)) in
    record {
      named = λ c p s.
          both_ways (nat_eq v.programme w.programme && same_school v.school w.school) (own c).differs
          (and_from (nat_eq v.programme w.programme) (same_school v.school w.school) (eq-eqb v.programme w.programme p)
          (same_by v.school w.school s));
      ranks = λ some same.
          elim (cases_Bool one) [
            | inl is ↦
                let c = eqb-true v.candidate w.candidate is in
                let rank = implied (same_school v.school w.school) (nat_eq v.board_rank w.board_rank) (own c).ranks
                (same_by v.school w.school same) in
                (λ _. c, λ _. eqb-true v.board_rank w.board_rank rank)
            | inr other ↦
                let none = not-true (both_in v.school w.school && nat_eq v.board_rank w.board_rank)
                (otherwise one (own_test v w) (others_test v w) t other) in (
                  λ e. absurd (both_ways (both_in v.school w.school && nat_eq v.board_rank w.board_rank) none
                      (and_from (both_in v.school w.school) (nat_eq v.board_rank w.board_rank)
                      (both_by v.school w.school some same) (eq-eqb v.board_rank w.board_rank e))),
                  λ e. absurd (both_ways one other (eq-eqb v.candidate w.candidate e)),
                )
          ];
      both_ranked = λ c. (
        λ e. eqb-true w.preference 0 (sym (own c).both ∙ eq-eqb v.preference 0 e),
        λ e. eqb-true v.preference 0 ((own c).both ∙ eq-eqb w.preference 0 e),
      );
      preferences = λ c e.
          eqb-true v.preference 0 (implied (nat_eq v.preference w.preference) (nat_eq v.preference 0) (own c).zero
          (eq-eqb v.preference w.preference e));
    }

abbrev is_accepted : Status → Bool
is_accepted status = nat_eq (status_number status) 2

abbrev accepted_test : Wish × Status → Wish × Status → Bool
accepted_test v w = not (nat_eq v.0.candidate w.0.candidate && (is_accepted v.1 && is_accepted w.1))

accepted_by : (v w : Wish × Status) → accepted_test v w ≡ true → NotBothAccepted v w
accepted_by v w t c v_is w_is =
    let both = is_accepted v.1 && is_accepted w.1 in
    both_ways (nat_eq v.0.candidate w.0.candidate && both) (not-true (nat_eq v.0.candidate w.0.candidate && both) t)
    (and_from (nat_eq v.0.candidate w.0.candidate) both (eq-eqb v.0.candidate w.0.candidate c)
    (and_from (is_accepted v.1) (is_accepted w.1) (ap is_accepted v_is) (ap is_accepted w_is)))

-- ---- ceilings and answers
abbrev ceiling_test : DossierRows → CeilingChange → Bool
ceiling_test d c = is_day c.day && (nat_lt c.school (length d.schools) && nat_le c.ceiling 2000000000)

ceiling_by : (d : DossierRows) (c : CeilingChange) → ceiling_test d c ≡ true → IsValidCeiling d c
ceiling_by d c t =
    let parts = and_parts (is_day c.day) _ t in
    let back = and_parts (nat_lt c.school (length d.schools)) _ parts.1 in
    record {
      day = day_by c.day parts.0;
      school = ltb-true c.school (length d.schools) back.0;
      ceiling = leb-true c.ceiling 2000000000 back.1;
    }

abbrev ceilings_test : CeilingChange → CeilingChange → Bool
ceilings_test a b = not (nat_eq a.day b.day && nat_eq a.school b.school)

ceilings_by : (a b : CeilingChange) → ceilings_test a b ≡ true → NotSameDay a b
ceilings_by a b t day school =
    both_ways (nat_eq a.day b.day && nat_eq a.school b.school)
    (not-true (nat_eq a.day b.day && nat_eq a.school b.school) t)
    (and_from (nat_eq a.day b.day) (nat_eq a.school b.school) (eq-eqb a.day b.day day)
    (eq-eqb a.school b.school school))

abbrev target_test : DossierRows → AnswerKind → ℕ → Bool
target_test d Quit target = is_among target (candidates_of d)
target_test d Accept target = nat_lt target (length d.wishes)
target_test d Refuse target = nat_lt target (length d.wishes)
target_test d Withdraw target = nat_lt target (length d.wishes)

target_by : (d : DossierRows) (kind : AnswerKind) (target : ℕ) → target_test d kind target ≡ true
    → IsTarget d kind target
target_by d Quit target t = t
target_by d Accept target t = ltb-true target (length d.wishes) t
target_by d Refuse target t = ltb-true target (length d.wishes) t
target_by d Withdraw target t = ltb-true target (length d.wishes) t

abbrev answer_test : DossierRows → Answer → Bool
answer_test d a = is_day a.day && target_test d a.kind a.target

answer_by : (d : DossierRows) (a : Answer) → answer_test d a ≡ true → IsValidAnswer d a
answer_by d a t =
    let parts = and_parts (is_day a.day) (target_test d a.kind a.target) t in
    record { day = day_by a.day parts.0; target = target_by d a.kind a.target parts.1 }

-- ---- the dossier
-- the tests of a dossier, and that of its number
abbrev tests : DossierRows → List Bool
tests d =
    (nat_le (length d.groups) 16000000 && nat_le (sum (map (λ (g : RankGroup). length g.list) d.groups)) 16000000)
    ∷ (nat_le (length d.programmes) 16000000 && nat_le (length d.schools) 16000000)
    ∷ (nat_le (length d.wishes) 16000000 && (nat_le (length d.ceilings) 16000000 && nat_le (length d.answers) 16000000))
    ∷ all_pairs differ (map (λ (g : RankGroup). g.id) d.groups)
    ∷ all_pairs differ (map (λ (p : Programme). p.id) d.programmes)
    ∷ all_pairs differ (map (λ (h : School). h.id) d.schools)
    ∷ all_pairs differ (map (λ (w : Wish). w.id) d.wishes)
    ∷ list_all group_test d.groups
    ∷ list_all (programme_test d) d.programmes
    ∷ list_all school_test d.schools
    ∷ list_all (wish_test d) d.wishes
    ∷ all_pairs apart_test d.wishes
    ∷ nat_eq (length d.statuses) (length d.wishes)
    ∷ all_pairs accepted_test (zip d.wishes d.statuses)
    ∷ list_all (ceiling_test d) d.ceilings
    ∷ all_pairs nat_le (map (λ (c : CeilingChange). c.day) d.ceilings)
    ∷ all_pairs ceilings_test d.ceilings
    ∷ list_all (answer_test d) d.answers
    ∷ all_pairs nat_le (map (λ (a : Answer). a.day) d.answers)
    ∷ []

abbrev all_true : List Bool → Bool
all_true [] = true
all_true (b ∷ bs) = b && all_true bs

abbrev nth : List Bool → ℕ → Bool
nth [] k = true
nth (b ∷ bs) zero = b
nth (b ∷ bs) (suc k) = nth bs k

pick : (bs : List Bool) (k : ℕ) → all_true bs ≡ true → nth bs k ≡ true
pick [] k t = refl
pick (b ∷ bs) zero t = (and_parts b (all_true bs) t).0
pick (b ∷ bs) (suc k) t = pick bs k (and_parts b (all_true bs) t).1

abbrev pub is_valid : DossierRows → Bool
is_valid d = all_true (tests d)

pub valid_by : (d : DossierRows) → is_valid d ≡ true → IsValid d
valid_by d t =
    let one = and_parts (nat_le (length d.groups) 16000000) _ (pick (tests d) 0 t) in
    let two = and_parts (nat_le (length d.programmes) 16000000) _ (pick (tests d) 1 t) in
    let three = and_parts (nat_le (length d.wishes) 16000000) _ (pick (tests d) 2 t) in
    let four = and_parts (nat_le (length d.ceilings) 16000000) _ three.1 in
    record {
      size = record {
        groups = leb-true (length d.groups) 16000000 one.0;
        ranked = leb-true (sum (map (λ (g : RankGroup). length g.list) d.groups)) 16000000 one.1;
        programmes = leb-true (length d.programmes) 16000000 two.0;
        schools = leb-true (length d.schools) 16000000 two.1;
        wishes = leb-true (length d.wishes) 16000000 three.0;
        ceilings = leb-true (length d.ceilings) 16000000 four.0;
        answers = leb-true (length d.answers) 16000000 four.1;
      };
      ids = record {
        groups = distinct_by (map (λ (g : RankGroup). g.id) d.groups) (pick (tests d) 3 t);
        programmes = distinct_by (map (λ (p : Programme). p.id) d.programmes) (pick (tests d) 4 t);
        schools = distinct_by (map (λ (h : School). h.id) d.schools) (pick (tests d) 5 t);
        wishes = distinct_by (map (λ (w : Wish). w.id) d.wishes) (pick (tests d) 6 t);
      };
      groups = all_by IsValidGroup group_test group_by d.groups (pick (tests d) 7 t);
      programmes = all_by (IsValidProgramme d) (programme_test d) (programme_by d) d.programmes (pick (tests d) 8 t);
      schools = all_by IsValidSchool school_test school_by d.schools (pick (tests d) 9 t);
      wishes = all_by (IsValidWish d) (wish_test d) (wish_by d) d.wishes (pick (tests d) 10 t);
      wishes_apart = pairs_by IsApart apart_test apart_by d.wishes (pick (tests d) 11 t);
      one_status_each = eqb-true (length d.statuses) (length d.wishes) (pick (tests d) 12 t);
      one_accepted = pairs_by NotBothAccepted accepted_test accepted_by (zip d.wishes d.statuses) (pick (tests d) 13 t);
      ceilings = all_by (IsValidCeiling d) (ceiling_test d) (ceiling_by d) d.ceilings (pick (tests d) 14 t);
      ceilings_by_day = level_by (map (λ (c : CeilingChange). c.day) d.ceilings) (pick (tests d) 15 t);
      ceilings_apart = pairs_by NotSameDay ceilings_test ceilings_by d.ceilings (pick (tests d) 16 t);
      answers = all_by (IsValidAnswer d) (answer_test d) (answer_by d) d.answers (pick (tests d) 17 t);
      answers_by_day = level_by (map (λ (a : Answer). a.day) d.answers) (pick (tests d) 18 t);
    }
