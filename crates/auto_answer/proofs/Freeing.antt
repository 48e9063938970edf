-- Where automatic answers free something, a live wish is refused.
use Rattle.std.proofs.Common.{ℕ, zero, suc, ◌<◌, ◌≡◌, Bool, true, false, not, cond, ◌&&◌, List, [], ◌∷◌, length, inl}
use Rattle.std.proofs.Common.{inr, refl, sym, ◌∙◌, ap, arith, nat_eq, sum_by, count_by, zip, Option, Some, None}
use Rattle.std.specs.Prelude.{◌==◌, nat_lt}
use Rattle.std.specs.List.{list_any, range_with_len}
use Rattle.std.proofs.lemmas.Bool.{cases_Bool, cases_eq, eq-eqb, and_parts, and_from, and_cases, or_left, or_right}
use Rattle.std.proofs.lemmas.Bool.{or_cases, false≢true, false_from_ne_true, not-true}
use Rattle.std.proofs.lemmas.List.Sums.{sum_by-cons, sum-map}
use Rattle.admit_core.specs.declared.dossier.Wish.{Wish}
use Rattle.admit_core.specs.declared.state.Status.TheVariants.{AutoRefused}
use Rattle.admit_core.specs.declared.state.Mark.{Mark}
use Rattle.admit_core.specs.declared.state.Stamp.{Stamp}
use Rattle.admit_core.specs.DossierRows.{candidates_of}
use Rattle.admit_core.specs.State.{State, is_live, is_live_status, has_school, holds_seat, holds_bed}
use Rattle.admit_core.specs.AutoAnswer.{auto_mark, best_live, auto_all, seats_freed, beds_freed, freed}
use Rattle.day_state.specs.Kept.{mark_in, wish_in, holds_one}
use Rattle.day_state.proofs.Along.{mark_in-with_marks, length-with_marks}
use Rattle.admit_core.proofs.Statuses.{status_of_auto, given_up_by_answer}
use Rattle.auto_answer.specs.Laws.{IsRefusedAt, FreeingRefuses}
use Rattle.auto_answer.proofs.Answering.{all_mark}
use Rattle.auto_answer.proofs.OwnMarks.{holds}

abbrev one : Bool → ℕ
one b = cond b 1 0

-- of a sum that is not 0 some term is not
some_term : (f : ℕ → ℕ) (xs : List ℕ) → (sum_by f xs ≡ 0 → ⊥) → (x : ℕ) × (f x ≡ 0 → ⊥)
some_term f [] some = absurd (some refl)
some_term f (x ∷ xs) some =
    elim (cases_eq (f x) 0) [
      | inl none ↦ some_term f xs (λ rest. some (omega (arith, sum_by-cons f x xs, none, rest)))
      | inr here ↦ (x, here)
    ]

-- of a count that is not 0 some one passes
some_counted : (p : ℕ → Bool) (xs : List ℕ) → (count_by p xs ≡ 0 → ⊥) → (x : ℕ) × (p x ≡ true)
some_counted p xs some =
    let found = some_term (λ x. cond (p x) 1 0) xs some in
    elim (cases_Bool (p found.0)) [
      | inl passes ↦ (found.0, passes)
      | inr fails ↦ absurd (found.1 (ap one fails))
    ]

-- an entry that passes stands at a place
pub passing_place : (t : Wish × Mark → Bool) (ws : List Wish) (ms : List Mark) → list_any t (zip ws ms) ≡ true
    → (k : ℕ) × (k < length ws) × (k < length ms) × (t (wish_in ws k, mark_in ms k) ≡ true)
passing_place t [] ms some = absurd (cc)
passing_place t (w ∷ ws) [] some = absurd (cc)
passing_place t (w ∷ ws) (m ∷ ms) some =
    elim (or_cases (t (w, m)) (list_any t (zip ws ms)) some) [
      | inl here ↦ (zero, omega arith, omega arith, here)
      | inr more ↦ let rest = passing_place t ws ms more in (
        suc rest.0,
        let lt : rest.0 < length ws = rest.1 in omega arith,
        let lt : rest.0 < length ms = rest.2 in
            omega arith,
        rest.3,
      )
    ]

-- an entry at a place that passes is found
pub place_passes : (t : Wish × Mark → Bool) (ws : List Wish) (ms : List Mark) (k : ℕ) → k < length ws → k < length ms
    → t (wish_in ws k, mark_in ms k) ≡ true
    → list_any t (zip ws ms) ≡ true
place_passes t [] ms k lt lt_too here = absurd (omega arith)
place_passes t (w ∷ ws) [] k lt lt_too here = absurd (omega arith)
place_passes t (w ∷ ws) (m ∷ ms) zero lt lt_too here = or_left (t (w, m)) (list_any t (zip ws ms)) here
place_passes t (w ∷ ws) (m ∷ ms) (suc k) lt lt_too here =
    or_right (t (w, m)) (list_any t (zip ws ms)) (place_passes t ws ms k (omega arith) (omega arith) here)

-- a live wish that is live no longer was refused
pub live_no_longer : (stamp : Stamp) (best : Option (Wish × Mark)) (w : Wish) (m : Mark) → is_live m ≡ true
    → is_live (auto_mark stamp best w m) ≡ false
    → (auto_mark stamp best w m).status ≡ AutoRefused
live_no_longer stamp None w m live gone = absurd (false≢true (sym gone ∙ live))
live_no_longer stamp (Some best) w m live gone =
    let is = status_of_auto stamp best w m in
    is ∙ given_up_by_answer m.status (w.preference == best.0.preference) (nat_lt best.0.preference w.preference) live
    (sym (ap is_live_status is) ∙ gone)

-- a candidate who was live where a test says, and no longer is, has a wish that was refused
refused_of : (test : Wish → Bool) (s : State) (stamp : Stamp) (c : ℕ) → length s.marks ≡ length s.dossier.wishes
    → holds_one test s c ≡ true → holds_one test (auto_all s stamp) c ≡ false
    → (place : ℕ) × IsRefusedAt s (auto_all s stamp) place
refused_of test s stamp c long held lost =
    let end = auto_all s stamp in
    let found = passing_place (holds test c) s.dossier.wishes s.marks held in
    let k = found.0 in
    let in_wishes : k < length s.dossier.wishes = found.1 in
    let in_marks : k < length s.marks = found.2 in
    let w = wish_in s.dossier.wishes k in
    let m = mark_in s.marks k in
    let outer = and_parts (is_live m && (w.candidate == c)) (test w) found.3 in
    let inner = and_parts (is_live m) (w.candidate == c) outer.0 in
    let in_end : k < length end.marks = omega (arith, length-with_marks (all_mark s stamp) s long) in
    let mark_is : mark_in end.marks k ≡ auto_mark stamp (best_live s w.candidate) w m =
    mark_in-with_marks (all_mark s stamp) s long k in_marks in
    let gone : is_live (mark_in end.marks k) ≡ false = false_from_ne_true (is_live (mark_in end.marks k)) (λ live.
    false≢true (sym lost ∙ place_passes (holds test c) s.dossier.wishes end.marks k in_wishes in_end
    (and_from (is_live (mark_in end.marks k) && (w.candidate == c)) (test w)
    (and_from (is_live (mark_in end.marks k)) (w.candidate == c) live inner.1) outer.1))) in (
      k,
      record {
        in_range = in_wishes;
        lived = inner.0;
        refused = ap (λ (n : Mark). n.status) mark_is
            ∙ live_no_longer stamp (best_live s w.candidate) w m inner.0 (rw mark_is at gone);
      },
    )

-- what was freed counts a place where they were live and no longer are
lost_one : (p q : ℕ → Bool) (ks : List ℕ) → (count_by (λ k. p k && not (q k)) ks ≡ 0 → ⊥)
    → (k : ℕ) × (p k ≡ true) × (q k ≡ false)
lost_one p q ks some =
    let found = some_counted (λ k. p k && not (q k)) ks some in
    let parts = and_parts (p found.0) (not (q found.0)) found.1 in
    (found.0, parts.0, not-true (q found.0) parts.1)

not_zero : (n : ℕ) → nat_eq n 0 ≡ false → n ≡ 0 → ⊥
not_zero n differ e = false≢true (sym differ ∙ eq-eqb n 0 e)

pub freeing_refuses : FreeingRefuses
freeing_refuses s stamp long some =
    let end = auto_all s stamp in
    let all = freed s end in
    let cs = candidates_of s.dossier in
    elim (and_cases (nat_eq all.seats 0) (nat_eq all.beds 0) some) [
      | inl seats ↦
          let of = some_term (seats_freed s end) cs
          (λ e. not_zero all.seats seats (sum-map (seats_freed s end) cs ∙ e)) in
          let at = lost_one (holds_seat s of.0) (holds_seat end of.0)
          (range_with_len 0 (length s.dossier.programmes)) of.1 in
          refused_of (λ (w : Wish). w.programme == at.0) s stamp of.0 long at.1 at.2
      | inr beds ↦
          let of = some_term (beds_freed s end) cs (λ e. not_zero all.beds beds (sum-map (beds_freed s end) cs ∙ e)) in
          let at = lost_one (holds_bed s of.0) (holds_bed end of.0)
          (range_with_len 0 (length s.dossier.schools)) of.1 in
          refused_of (λ (w : Wish). has_school w at.0) s stamp of.0 long at.1 at.2
    ]
