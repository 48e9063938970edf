-- With one rate alone, a call order is the least list that keeps it.
use Rattle.std.proofs.Common.{ℕ, suc, ◌+◌, ◌*◌, ◌<◌, ◌≡◌, Bool, true, false, cond, not, ◌&&◌, List, [], ◌∷◌, ◌++◌}
use Rattle.std.proofs.Common.{length, take, inl, inr, refl, sym, ◌∙◌, ap, arith, Some, nat_eq, nat_lt, count_by}
use Rattle.std.specs.Prelude.{slice_get}
use Rattle.std.specs.List.{list_any, IsDistinct}
use Rattle.std.proofs.lemmas.Bool.{cases_Bool, and_parts, and_right, or_right, ltb-true, le-ltb}
use Rattle.std.proofs.lemmas.List.{length_push}
use Rattle.std.proofs.lemmas.List.Sums.{sum_by-cons}
use Rattle.std.proofs.lemmas.Map.Keys.{IsDistinct-IsPermutation}
use Rattle.std.proofs.lemmas.Option.{slice_get_within}
use Rattle.admit_core.specs.declared.ranking.Ranked.{Ranked}
use Rattle.admit_core.specs.declared.ranking.RankGroup.{RankGroup}
use Rattle.admit_core.specs.declared.ranking.CallOrder.{CallOrder}
use Rattle.admit_core.specs.Lists.{is_among}
use Rattle.admit_core.specs.CallOrder.{called, remaining, binds, scholar_rate_binds, resident_rate_binds, bound_of}
use Rattle.admit_core.specs.CallOrder.{bound_after, may_be_called, IsCallOrder}
use Rattle.admit_core.specs.CallOrderLaws.{ranked_candidates, KeepsRate, IsLeastThatKeeps, OfCallOrders}
use Rattle.admit_core.specs.CallOrderLaws.{IsLeastByScholars, IsLeastByResidents}
use Rattle.admit_core.specs.Validity.{IsRanking}
use Rattle.admit_core.proofs.OrderPermutes.{take_next, distinct_filter}
use Rattle.admit_core.proofs.CalledCounts.{count_called_push, count_remaining_push}
use Rattle.admit_core.proofs.CallRows.{IsIn, in_list, same_row, find_own, in_remaining, call_row}
use Rattle.admit_core.proofs.ScholarsFirst.{called_is_least}
use Rattle.admit_core.proofs.Plain.{nat_eq_sym}

count_some : {X : Type 0} (q : X → Bool) (xs : List X) → list_any q xs ≡ true → 0 < count_by q xs
count_some q [] t = absurd (cc)
count_some q (x ∷ xs) t =
    let all = sum_by-cons (λ y. cond (q y) 1 0) x xs in
    elim (cases_Bool (q x)) [
      | inl passes ↦ let one : cond {A = ℕ} (q x) 1 0 ≡ 1 = rw passes refl in omega (arith, all, one)
      | inr fails ↦ omega (arith, all, count_some q xs (rw fails at t))
    ]

some_count : {X : Type 0} (q : X → Bool) (xs : List X) → 0 < count_by q xs → list_any q xs ≡ true
some_count q [] lt = absurd (omega arith)
some_count q (x ∷ xs) lt =
    let all = sum_by-cons (λ y. cond (q y) 1 0) x xs in
    elim (cases_Bool (q x)) [
      | inl passes ↦ rw passes refl
      | inr fails ↦ let none : cond {A = ℕ} (q x) 1 0 ≡ 0 = rw fails refl in
          or_right (q x) (list_any q xs) (some_count q xs (omega (arith, all, none)))
    ]

-- where a rate binds, a list that keeps it has one of the kind next
next_keeps : (rate : ℕ) (kind : Ranked → Bool) (g : RankGroup) (other : List ℕ) (k : ℕ) (s : Ranked) → IsRanking g
    → IsDistinct nat_eq other → KeepsRate rate kind g other
    → IsIn s g.list → slice_get other k ≡ Some s.candidate → binds rate kind g (take k other) ≡ true → kind s ≡ true
next_keeps rate kind g other k s ranking apart keeps row here binding =
    elim (cases_Bool (kind s)) [
      | inl own ↦ own
      | inr not_own ↦
          let front = take k other in
          let key = λ (x : Ranked). x.candidate in
          let rs = remaining g front in
          let n = length front in
          let count = count_by kind (called g front) in
          let parts = and_parts (list_any kind rs) (nat_lt (100 * count) (rate * (n + 1))) binding in
          let few = ltb-true (100 * count) (rate * (n + 1)) parts.1 in
          let still = in_remaining g other k k s apart row here (omega arith) in
          let keys = distinct_filter key (λ (x : Ranked). not (is_among x.candidate front)) g.list ranking.candidates in
          let found = find_own key s rs keys still in
          let same_count = rw not_own at (count_called_push kind
          (λ (x : Ranked). nat_eq x.candidate s.candidate) g front s ranking.candidates found) in
          let same_rest = rw not_own at (count_remaining_push kind
          (λ (x : Ranked). nat_eq x.candidate s.candidate) g front s ranking.candidates found) in
          let grown = take_next other k s.candidate here in
          let some = count_some kind rs parts.0 in
          let remain = some_count kind (remaining g (front ++ s.candidate ∷ [])) (omega (arith, same_rest, some)) in
          let kept = rw grown at (keeps (suc k)) in
          let enough = kept remain in
          let long = length_push front s.candidate in
          absurd (omega (arith, rw (same_count, long) at enough, few))
    ]

-- where all of the kind may be called if the rate binds, and all others too if it does not
least : (rate : ℕ) (kind : Ranked → Bool) (g : RankGroup) (order : CallOrder) → IsRanking g → IsCallOrder g order
    → ((before : List ℕ) (s : Ranked) → (binds rate kind g before ≡ true → kind s ≡ true)
    → may_be_called (bound_after g before) s ≡ true)
    → IsLeastThatKeeps rate kind g order.list
least rate kind g order ranking calls may other moved keeps k r s same has_r has_s here there differ =
    let key = λ (x : Ranked). x.candidate in
    let apart = IsDistinct-IsPermutation nat_eq nat_eq_sym (ranked_candidates g) other moved ranking.candidates in
    let row = in_list s g.list has_s in
    let (q, b, call) = call_row g order ranking calls k (slice_get_within order.list k r.candidate here) in
    let same_id : q.candidate ≡ r.candidate = (cc (call.who, here)) in
    let own : q ≡ r = same_row key q r g.list ranking.candidates call.ranked (in_list r g.list has_r) same_id in
    let remains = rw (← same) at (in_remaining g other k k s apart row there (omega arith)) in
    let allowed = may (take k order.list) s (λ binding. next_keeps rate kind g other k s ranking apart keeps row there
    (rw same at binding)) in
    let less = called_is_least g order k q s b ranking call remains
    (ap (λ under. may_be_called under s) (sym call.bound) ∙ allowed) (λ e. differ (sym same_id ∙ e)) in
    rw (← own) less

-- a rate of 0 never binds
never_binds : (rate : ℕ) (kind : Ranked → Bool) (g : RankGroup) (before : List ℕ) → rate ≡ 0
    → binds rate kind g before ≡ false
never_binds rate kind g before e =
    let n = length before in
    and_right (list_any kind (remaining g before)) _
    (le-ltb (100 * count_by kind (called g before)) (rate * (n + 1)) (rw e (omega arith)))

under_scholars : (s both : Bool) (r : Ranked) → (s ≡ true → r.scholar ≡ true)
    → may_be_called (bound_of s false both) r ≡ true
under_scholars false both r h = refl
under_scholars true both r h = h refl

under_residents : (t both : Bool) (r : Ranked) → (t ≡ true → r.resident ≡ true)
    → may_be_called (bound_of false t both) r ≡ true
under_residents false both r h = refl
under_residents true both r h = h refl

pub scholar_order_least : OfCallOrders IsLeastByScholars
scholar_order_least g order ranking calls none =
    least g.scholar_pct (λ (r : Ranked). r.scholar) g order ranking calls (λ before s h.
    rw (never_binds g.resident_pct (λ (r : Ranked). r.resident) g before none)
    (under_scholars (scholar_rate_binds g before)
    (list_any (λ (r : Ranked). r.scholar && r.resident) (remaining g before)) s h))

pub resident_order_least : OfCallOrders IsLeastByResidents
resident_order_least g order ranking calls none =
    least g.resident_pct (λ (r : Ranked). r.resident) g order ranking calls (λ before s h.
    rw (never_binds g.scholar_pct (λ (r : Ranked). r.scholar) g before none)
    (under_residents (resident_rate_binds g before)
    (list_any (λ (r : Ranked). r.scholar && r.resident) (remaining g before)) s h))
