-- The minimum rates are kept in each prefix of a call order.
use Rattle.std.proofs.Common.{ℕ, zero, suc, ◌+◌, ◌*◌, ◌≤◌, ◌<◌, ◌≡◌, Bool, true, false, not, ◌&&◌, List, [], ◌∷◌, ◌++◌}
use Rattle.std.proofs.Common.{map, length, take, inl, inr, refl, sym, ◌∙◌, ap, arith, filter, Some, nat_eq, nat_lt}
use Rattle.std.proofs.Common.{count_by}
use Rattle.std.specs.Prelude.{◌≢◌}
use Rattle.std.specs.List.{find, list_any, IsDistinct}
use Rattle.std.proofs.lemmas.Bool.{cases_Bool, cases_lt, and_parts, and_cases, false≢true, ltb-false}
use Rattle.std.proofs.lemmas.List.{take_all, length_push}
use Rattle.admit_core.specs.declared.ranking.Ranked.{Ranked}
use Rattle.admit_core.specs.declared.ranking.RankGroup.{RankGroup}
use Rattle.admit_core.specs.declared.ranking.Bound.{Bound}
use Rattle.admit_core.specs.declared.ranking.Bound.TheVariants.{Alone}
use Rattle.admit_core.specs.declared.ranking.CallOrder.{CallOrder}
use Rattle.admit_core.specs.CallOrder.{called, remaining, binds, scholar_rate_binds, resident_rate_binds, bound_of}
use Rattle.admit_core.specs.CallOrder.{may_be_called, IsCallOrder}
use Rattle.admit_core.specs.CallOrderLaws.{KeepsRateAfter, OfCallOrders, KeepsScholarRate, KeepsResidentRate}
use Rattle.admit_core.specs.Validity.{IsRanking}
use Rattle.admit_core.proofs.NextCalls.{find_passes, remaining_push}
use Rattle.admit_core.proofs.CalledCounts.{count_called_push}
use Rattle.admit_core.proofs.CallRows.{IsCallAt, call_row}

any_kept : {X : Type 0} (q keeps : X → Bool) (xs : List X) → list_any q (filter keeps xs) ≡ true → list_any q xs ≡ true
any_kept q keeps [] t = t
any_kept q keeps (x ∷ xs) t =
    elim (cases_Bool (q x)) [
      | inl passes ↦ rw passes refl
      | inr fails ↦
          rw fails
          (elim (cases_Bool (keeps x)) [
            | inl kept ↦ any_kept q keeps xs (rw (kept, fails) at t)
            | inr gone ↦ any_kept q keeps xs (rw gone at t)
          ])
    ]

-- one more call keeps a rate, if one of the kind is called where the rate binds
rate_step : (rate : ℕ) (kind test : Ranked → Bool) (g : RankGroup) (before : List ℕ) (r : Ranked) → rate ≤ 100
    → IsDistinct nat_eq (map (λ (x : Ranked). x.candidate) g.list)
    → find test (remaining g before) ≡ Some r → (binds rate kind g before ≡ true → kind r ≡ true)
    → KeepsRateAfter rate kind g before
    → KeepsRateAfter rate kind g (before ++ r.candidate ∷ [])
rate_step rate kind test g before r most apart found bound kept remain =
    let still = any_kept kind (λ (x : Ranked). not (nat_eq x.candidate r.candidate)) (remaining g before)
    (rw (remaining_push g before r.candidate) at remain) in
    let so_far = kept still in
    let more = count_called_push kind test g before r apart found in
    let long = length_push before r.candidate in
    let n = length before in
    let s = count_by kind (called g before) in
    elim (cases_Bool (binds rate kind g before)) [
      | inl binding ↦
          let one = bound binding in
          let more_one = rw one at more in
          rw (more_one, long) (omega (arith, so_far, most))
      | inr loose ↦
          elim (and_cases (list_any kind (remaining g before)) (nat_lt (100 * s) (rate * (n + 1))) loose) [
            | inl none ↦ absurd (false≢true (sym none ∙ still))
            | inr enough ↦
                let le = ltb-false (100 * s) (rate * (n + 1)) enough in
                rw (more, long) (omega (arith, le))
          ]
    ]

-- each prefix keeps a rate, if at each place before its end where the rate binds one of the kind is called
fronts_keep : (rate : ℕ) (kind : Ranked → Bool) (g : RankGroup) (order : CallOrder) → rate ≤ 100 → IsRanking g
    → IsCallOrder g order → (n : ℕ)
    → ((k : ℕ) (r : Ranked) (b : Bound) → k < n → IsCallAt g order k r b → binds rate kind g (take k order.list) ≡ true
    → kind r ≡ true)
    → KeepsRateAfter rate kind g (take n order.list)
fronts_keep rate kind g order most ranking calls zero each remain = omega arith
fronts_keep rate kind g order most ranking calls (suc n) each remain =
    let earlier = fronts_keep rate kind g order most ranking calls n
    (λ k r b lt call bound. each k r b (omega arith) call bound) in
    elim (cases_lt n (length order.list)) [
      | inl within ↦
          let (r, b, call) = call_row g order ranking calls n within in
          let step = rate_step rate kind (may_be_called b) g (take n order.list) r most ranking.candidates call.first
          (each n r b (omega arith) call) earlier in
          rw call.front (step (rw call.front at remain))
      | inr past ↦
          let here = take_all (suc n) order.list (omega arith) in
          let there = take_all n order.list past in
          rw (here, ← there) (earlier (rw (here, ← there) at remain))
    ]

-- where the scholars' rate binds, a scholar is called
scholar_called : (s t both : Bool) (r : Ranked) → s ≡ true → may_be_called (bound_of s t both) r ≡ true
    → r.scholar ≡ true
scholar_called true false both r e may = may
scholar_called true true true r e may = (and_parts r.scholar r.resident may).0
scholar_called true true false r e may = may
scholar_called false t both r e may = absurd (false≢true e)

-- where the residents' rate binds, a resident is called, unless scholarship alone rules
resident_called : (s t both : Bool) (r : Ranked) → t ≡ true → bound_of s t both ≢ Alone
    → may_be_called (bound_of s t both) r ≡ true → r.resident ≡ true
resident_called false true both r e other may = may
resident_called true true true r e other may = (and_parts r.scholar r.resident may).1
resident_called true true false r e other may = absurd (other refl)
resident_called s false both r e other may = absurd (false≢true e)

pub scholar_rate_kept : OfCallOrders KeepsScholarRate
scholar_rate_kept g order ranking calls n =
    fronts_keep g.scholar_pct (λ (r : Ranked). r.scholar) g order ranking.scholar_pct ranking calls n
    (λ k r b lt call binding.
    let front = take k order.list in
    let may = find_passes (may_be_called b) (remaining g front) r call.first in
    scholar_called (scholar_rate_binds g front) (resident_rate_binds g front)
    (list_any (λ (x : Ranked). x.scholar && x.resident) (remaining g front)) r binding
    (ap (λ under. may_be_called under r) call.bound ∙ may))

pub resident_rate_kept : OfCallOrders KeepsResidentRate
resident_rate_kept g order ranking calls n never =
    fronts_keep g.resident_pct (λ (r : Ranked). r.resident) g order ranking.resident_pct ranking calls n
    (λ k r b lt call binding.
    let front = take k order.list in
    let may = find_passes (may_be_called b) (remaining g front) r call.first in
    resident_called (scholar_rate_binds g front) (resident_rate_binds g front)
    (list_any (λ (x : Ranked). x.scholar && x.resident) (remaining g front)) r binding
    (λ alone. never k lt (call.told ∙ ap Some (sym call.bound ∙ alone)))
    (ap (λ under. may_be_called under r) call.bound ∙ may))
