-- Those of one kind are called by rank, and a resident scholar no later than their rank says.
use Rattle.std.proofs.Common.{ℕ, zero, suc, ◌≤◌, ◌<◌, ◌≡◌, true, List, [], ◌∷◌, map, length, take, inl, inr, refl, sym}
use Rattle.std.proofs.Common.{◌∙◌, ap, subst, arith, nat_eq, Some}
use Rattle.std.specs.Prelude.{◌≢◌, Contains, slice_get}
use Rattle.std.proofs.lemmas.Bool.{both_ways, cases_order, eq-eqb, eqb-true, or_left, or_right}
use Rattle.std.proofs.lemmas.Cmp.{nat_eq_equiv}
use Rattle.std.proofs.lemmas.List.{get_or-take, length-map, length-take-le}
use Rattle.std.proofs.lemmas.List.Folds.{Any-from_list_any}
use Rattle.std.proofs.lemmas.Map.Made.{length-le_from_is_member}
use Rattle.std.proofs.lemmas.Option.{slice_get-get_or, slice_get_within}
use Rattle.admit_core.specs.declared.ranking.Bound.{Bound}
use Rattle.admit_core.specs.declared.ranking.Bound.TheVariants.{Free, Scholar, Resident, Both, Alone}
use Rattle.admit_core.specs.declared.ranking.CallOrder.{CallOrder}
use Rattle.admit_core.specs.declared.ranking.RankGroup.{RankGroup}
use Rattle.admit_core.specs.declared.ranking.Ranked.{Ranked}
use Rattle.admit_core.specs.CallOrder.{IsCallOrder, may_be_called, remaining}
use Rattle.admit_core.specs.CallOrderLaws.{OfCallOrders}
use Rattle.admit_core.specs.Lists.{is_among}
use Rattle.admit_core.specs.Validity.{IsRanking}
use Rattle.admit_core.proofs.CallRows.{IsIn, among_front, call_row, in_list, in_remaining, least_found, not_among_front}
use Rattle.admit_core.proofs.CallRows.{same_row}
use Rattle.admit_core.proofs.FilledSeats.{front_distinct}
use Rattle.admit_core.proofs.LeastFirst.{RisesBy, rises_by_key}
use Rattle.admit_core.proofs.NextCalls.{find_passes}
use Rattle.admit_core.proofs.OrderPermutes.{distinct-order}
use Rattle.admit_core.proofs.ScholarsFirst.{called_is_least, scholars_come_first}
use Rattle.fairness.specs.OrderPromises.{CallsEachKindByRank, CallsResidentScholarsByRank}

-- those alike may be called alike
may_alike : (b : Bound) (r s : Ranked) → r.scholar ≡ s.scholar → r.resident ≡ s.resident → may_be_called b s ≡ true
    → may_be_called b r ≡ true
may_alike Free r s scholar resident may = refl
may_alike Scholar r s scholar resident may = scholar ∙ may
may_alike Resident r s scholar resident may = resident ∙ may
may_alike Both r s scholar resident may = rw (scholar, resident) may
may_alike Alone r s scholar resident may = scholar ∙ may

abbrev id_of : Ranked → ℕ
id_of r = r.candidate

-- what is in a list, by its place
pub contains_in : {X : Type 0} (y : X) (xs : List X) → IsIn y xs → Contains xs y
contains_in y [] has = absurd has
contains_in y (z ∷ zs) has =
    elim has [
      | inl same ↦ (0, omega arith, same)
      | inr later ↦ let (k, lt, at) = contains_in y zs later in (suc k, omega (arith, lt), at)
    ]

-- the one called at a place has another id than who stands behind it
other_id : (order : CallOrder) (i j : ℕ) (r s : Ranked) (g : RankGroup) → IsRanking g → IsCallOrder g order
    → slice_get order.list i ≡ Some r.candidate
    → slice_get order.list j ≡ Some s.candidate → i < j → r.candidate ≢ s.candidate
other_id order i j r s g ranking calls at_i at_j lt e =
    let apart = distinct-order g order ranking calls in
    both_ways (is_among s.candidate (take (suc i) order.list))
    (not_among_front order.list (suc i) j s.candidate apart at_j (omega arith))
    (among_front order.list i s.candidate (at_i ∙ ap Some e))

pub kinds_by_rank : OfCallOrders CallsEachKindByRank
kinds_by_rank g order ranking calls r s i j has_r has_s scholar resident at_i at_j better =
    let apart = distinct-order g order ranking calls in
    let row_r = in_list r g.list has_r in
    let row_s = in_list s g.list has_s in
    elim (cases_order i j) [
      | inl equal ↦
          let same_id : r.candidate ≡ s.candidate = (cc (at_i, at_j, equal)) in
          let same : r ≡ s = same_row id_of r s g.list ranking.candidates row_r row_s same_id in
          absurd (omega (arith, better, ap (λ (x : Ranked). x.rank) same))
      | inr differ ↦ elim differ [
        | inl before ↦ before
        | inr after ↦
            let (q, b, call) = call_row g order ranking calls j (slice_get_within order.list j s.candidate at_j) in
            let same_id : q.candidate ≡ s.candidate = (cc (call.who, at_j)) in
            let same : q ≡ s = same_row id_of q s g.list ranking.candidates call.ranked row_s same_id in
            let remains = in_remaining g order.list j i r apart row_r at_i (omega (arith, after)) in
            let may : may_be_called b s ≡ true = subst (λ (x : Ranked). may_be_called b x ≡ true) same
            (find_passes (may_be_called b) (remaining g (take j order.list)) q call.first) in
            let differs : q.candidate ≢ r.candidate = other_id order j i q r g ranking calls call.who at_i after in
            let least = called_is_least g order j q r b ranking call remains
            (may_alike b r s scholar resident may) differs in
            absurd (omega (arith, least, better, ap (λ (x : Ranked). x.rank) same))
      ]
    ]

-- what stands at a place is in the list
in_place : (xs : List Ranked) (k : ℕ) (s : Ranked) → slice_get xs k ≡ Some s → IsIn s xs
in_place [] k s at = absurd (cc)
in_place (x ∷ xs) zero s at = inl (cc)
in_place (x ∷ xs) (suc k) s at = inr (in_place xs k s at)

-- where ranks rise, those of better rank stand before
among_better : (xs : List Ranked) (k : ℕ) (r s : Ranked) → RisesBy (λ (x : Ranked). x.rank) xs → slice_get xs k ≡ Some s
    → IsIn r xs → r.rank < s.rank
    → is_among r.candidate (map id_of (take k xs)) ≡ true
among_better [] k r s rises at has better = absurd has
among_better (x ∷ xs) zero r s rises at has better =
    let same : x ≡ s = (cc) in
    elim (least_found (λ (y : Ranked). y.rank) (λ y. true) x r (x ∷ xs) rises refl has refl) [
      | inl first ↦ absurd (omega (arith, better, ap (λ (y : Ranked). y.rank) (sym first ∙ same)))
      | inr less ↦ absurd (omega (arith, better, less, ap (λ (y : Ranked). y.rank) same))
    ]
among_better (x ∷ xs) (suc k) r s rises at has better =
    elim has [
      | inl first ↦ or_left (nat_eq r.candidate x.candidate) (is_among r.candidate (map id_of (take k xs)))
          (eq-eqb r.candidate x.candidate (ap id_of (sym first)))
      | inr later ↦ or_right (nat_eq r.candidate x.candidate) (is_among r.candidate (map id_of (take k xs)))
          (among_better xs k r s rises.1 at later better)
    ]

pub resident_scholars_by_rank : OfCallOrders CallsResidentScholarsByRank
resident_scholars_by_rank g order ranking calls s k i ranked both at_i =
    let xs = order.list in
    let apart = distinct-order g order ranking calls in
    let within : i < length xs = slice_get_within xs i s.candidate at_i in
    let le : i ≤ length xs = omega (arith, within) in
    let whole = length-take-le i xs le in
    let rises = rises_by_key (λ (x : Ranked). x.rank) g.list ranking.ranks in
    let here : IsIn s g.list = in_place g.list k s ranked in
    let fewer = length-le_from_is_member nat_eq_equiv (take i xs) (map id_of (take k g.list))
    (front_distinct xs i le apart)
    (λ q t.
    let (j, x, lt, at, same) = Any-from_list_any (nat_eq q) (take i xs) t in
    let j_in : j < i = omega (arith, whole) in
    let (r, b, call) = call_row g order ranking calls j (omega (arith, within, j_in)) in
    let read = slice_get-get_or xs j x (omega (arith, within, j_in)) in
    let is_x = get_or-take i xs j x j_in in
    let q_is : r.candidate ≡ q = (cc (call.who, read, is_x, at, eqb-true q x same)) in
    let least = scholars_come_first g order ranking calls r s j i (contains_in r g.list call.ranked)
    (contains_in s g.list here) call.who at_i j_in both in
    subst (λ (c : ℕ). is_among c (map id_of (take k g.list)) ≡ true) q_is
    (among_better g.list k r s rises ranked call.ranked least)) in
    omega (
      arith,
      fewer,
      whole,
      length-map (take k g.list) id_of,
      length-take-le k g.list
          (omega (arith, slice_get_within g.list k s ranked)),
    )
