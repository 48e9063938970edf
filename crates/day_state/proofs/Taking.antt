-- The automatic answer of one candidate.
use Rattle.std.proofs.Common.{ℕ, ◌<◌, ◌≡◌, Bool, true, false, [], length, inl, inr, refl, sym, subst, ◌∙◌, arith}
use Rattle.std.proofs.Common.{Option, Some, None}
use Rattle.std.specs.Prelude.{◌==◌, nat_lt, option_map, if◌then◌else◌}
use Rattle.std.proofs.lemmas.Bool.{cases_Bool, eqb-true}
use Rattle.std.proofs.lemmas.Option.{unwrap_or-slice_get}
use Rattle.admit_core.specs.declared.dossier.Wish.{Wish}
use Rattle.admit_core.specs.declared.state.Mark.{Mark}
use Rattle.admit_core.specs.declared.state.Stamp.{Stamp}
use Rattle.admit_core.specs.declared.state.Status.TheVariants.{Accepted}
use Rattle.admit_core.specs.DossierRows.{DossierRows}
use Rattle.admit_core.specs.State.{State, with_marks}
use Rattle.admit_core.specs.AutoAnswer.{best_live, auto_mark, auto_one}
use Rattle.admit_core.proofs.Statuses.{accepted_is_best, status_of_auto}
use Rattle.admit_core.specs.OwnWishes.{IsOneAccepted}
use Rattle.admit_core.specs.Validity.{IsValid}
use Rattle.day_state.specs.declared.mark.OwnChange.TheVariants.{TakeBest}
use Rattle.day_state.specs.Kept.{mark_in, wish_in}
use Rattle.day_state.specs.Along.{change_own, changed_by}
use Rattle.day_state.specs.Whole.{IsDayState}
use Rattle.day_state.proofs.Along.{same_state, same_marks, mark_in-with_marks, length-with_marks}
use Rattle.day_state.proofs.OneAccepted.{one_from_places, one_at_places}
use Rattle.day_state.proofs.Best.{best_ranked}

mapped_none : {X Y : Type 0} (f : X → Y) (o : Option X) → None ≡ option_map f o → o ≡ None
mapped_none f None e = refl
mapped_none f (Some x) e = absurd (cc)

mapped_some : {X Y : Type 0} (f : X → Y) (o : Option X) (y : Y) → Some y ≡ option_map f o
    → (x : X) × (o ≡ Some x) × (y ≡ f x)
mapped_some f None y e = absurd (cc)
mapped_some f (Some x) y e = (x, refl, (cc))

either_way : (own : Bool) (m : Mark) → (if own then m else m) ≡ m
either_way true m = refl
either_way false m = refl

-- without a live ranked wish nothing changes
pub auto_none : (s : State) (c : ℕ) (stamp : Stamp) → length s.marks ≡ length s.dossier.wishes
    → None ≡ option_map (λ x. x.0.preference) (best_live s c) → s ≡ auto_one s c stamp
auto_none s c stamp long e =
    let none : best_live s c ≡ None = mapped_none (λ (x : Wish × Mark). x.0.preference) (best_live s c) e in
    let f = λ (w : Wish) (m : Mark). if w.candidate == c then m else m in
    rw none
    (same_state s (with_marks s f) refl
    (same_marks s.marks (with_marks s f).marks (sym (length-with_marks f s long))
    (λ k lt. sym (mark_in-with_marks f s long k lt
    ∙ either_way ((wish_in s.dossier.wishes k).candidate == c) (mark_in s.marks k)))))

found_best : (s : State) (c best : ℕ) (stamp : Stamp) (x : Wish × Mark) → best_live s c ≡ Some x
    → best ≡ x.0.preference → change_own (changed_by (TakeBest best) stamp) c s ≡ auto_one s c stamp
found_best s c best stamp x is preference = rw (is, preference) refl

-- else the best one is taken
pub auto_best : (s : State) (c best : ℕ) (stamp : Stamp)
    → Some best ≡ option_map (λ x. x.0.preference) (best_live s c)
    → change_own (changed_by (TakeBest best) stamp) c s ≡ auto_one s c stamp
auto_best s c best stamp e =
    let found = mapped_some (λ (x : Wish × Mark). x.0.preference) (best_live s c) best e in
    found_best s c best stamp found.0 found.1 found.2

-- an accepted wish of theirs is one of the best preference
only_best : (x : Wish × Mark) (stamp : Stamp) (w : Wish) (m : Mark)
    → (auto_mark stamp (Some x) w m).status ≡ Accepted → w.preference ≡ x.0.preference
only_best x stamp w m t =
    let same = accepted_is_best m.status (w.preference == x.0.preference) (nat_lt x.0.preference w.preference)
    (sym (status_of_auto stamp x w m) ∙ t) in
    eqb-true w.preference x.0.preference same

-- at most one wish of each candidate stays accepted
one_taken : (s : State) (c : ℕ) (stamp : Stamp) (x : Wish × Mark) → IsValid s.dossier
    → length s.marks ≡ length s.dossier.wishes → best_live s c ≡ Some x
    → IsOneAccepted s → IsOneAccepted
    (with_marks s (λ w m. if w.candidate == c then auto_mark stamp (Some x) w m else m))
one_taken s c stamp x valid long is one =
    let f = λ (w : Wish) (m : Mark). if w.candidate == c then auto_mark stamp (Some x) w m else m in
    let t = with_marks s f in
    let as_long : length t.marks ≡ length s.marks = length-with_marks f s long in
    let positive : 0 < x.0.preference = best_ranked s c x is in
    one_from_places t (as_long ∙ long)
    (λ i j lt j_lt same a b.
    let j_in : j < length s.marks = omega (arith, as_long) in
    let i_in : i < length s.marks = omega arith in
    let v = wish_in s.dossier.wishes i in
    let w = wish_in s.dossier.wishes j in
    let at_i : (f v (mark_in s.marks i)).status ≡ Accepted = rw (mark_in-with_marks f s long i i_in) at a in
    let at_j : (f w (mark_in s.marks j)).status ≡ Accepted = rw (mark_in-with_marks f s long j j_in) at b in
    let same_candidate : v.candidate ≡ w.candidate = same in
    elim (cases_Bool (v.candidate == c)) [
      | inl mine ↦
          let j_mine : (w.candidate == c) ≡ true = rw same_candidate at mine in
          let first = only_best x stamp v (mark_in s.marks i) (rw mine at at_i) in
          let second = only_best x stamp w (mark_in s.marks j) (rw j_mine at at_j) in
          let b : Wish = wish_in [] 0 in
          let apart = rw (← unwrap_or-slice_get s.dossier.wishes i b, ← unwrap_or-slice_get s.dossier.wishes j b) at
          (valid.wishes_apart i j b lt (omega (arith, long, j_in))).preferences in
          let free : v.preference ≡ 0 = apart same_candidate (first ∙ sym second) in
          absurd (omega (arith, free, first, positive))
      | inr other ↦
          let j_other : (w.candidate == c) ≡ false = rw same_candidate at other in
          one_at_places s long one i j lt j_in same_candidate (rw other at at_i) (rw j_other at at_j)
    ])

whole_found : (d : DossierRows) (s : State) (c : ℕ) (stamp : Stamp) (x : Wish × Mark) → IsValid s.dossier
    → best_live s c ≡ Some x → IsDayState d s → IsDayState d (auto_one s c stamp)
whole_found d s c stamp x valid is whole =
    rw is (record {
      same = whole.same;
      long = length-with_marks (λ (w : Wish) (m : Mark). if w.candidate == c then auto_mark stamp (Some x) w m else
          m) s whole.long ∙ whole.long;
      one_accepted = one_taken s c stamp x valid whole.long is whole.one_accepted;
    })

whole_by : (d : DossierRows) (s : State) (c : ℕ) (stamp : Stamp) (o : Option (Wish × Mark)) → best_live s c ≡ o
    → IsValid s.dossier → IsDayState d s → IsDayState d (auto_one s c stamp)
whole_by d s c stamp None is valid whole =
    let none : None ≡ option_map (λ (x : Wish × Mark). x.0.preference) (best_live s c) = rw is refl in
    subst (IsDayState d) (auto_none s c stamp whole.long none) whole
whole_by d s c stamp (Some x) is valid whole = whole_found d s c stamp x valid is whole

-- what every state keeps holds after the answer
pub whole_taken : (d : DossierRows) (s : State) (c : ℕ) (stamp : Stamp) → IsValid s.dossier → IsDayState d s
    → IsDayState d (auto_one s c stamp)
whole_taken d s c stamp valid whole = whole_by d s c stamp (best_live s c) refl valid whole
