-- Nobody of greater rank is called before a resident scholar.
use Rattle.std.proofs.Common.{ℕ, suc, ◌<◌, ◌≡◌, true, ◌&&◌, take, inl, inr, refl, ◌∙◌, ap, arith, Some}
use Rattle.std.specs.Prelude.{◌≢◌}
use Rattle.std.proofs.lemmas.Bool.{and_parts, both_ways}
use Rattle.std.proofs.lemmas.Option.{slice_get_within}
use Rattle.admit_core.specs.declared.ranking.Ranked.{Ranked}
use Rattle.admit_core.specs.declared.ranking.RankGroup.{RankGroup}
use Rattle.admit_core.specs.declared.ranking.Bound.{Bound}
use Rattle.admit_core.specs.declared.ranking.Bound.TheVariants.{Free, Scholar, Resident, Both, Alone}
use Rattle.admit_core.specs.declared.ranking.CallOrder.{CallOrder}
use Rattle.admit_core.specs.Lists.{is_among}
use Rattle.admit_core.specs.CallOrder.{remaining, may_be_called}
use Rattle.admit_core.specs.CallOrderLaws.{OfCallOrders, CallsResidentScholarsFirst}
use Rattle.admit_core.specs.Validity.{IsRanking}
use Rattle.admit_core.proofs.LeastFirst.{rises_by_key, rises_filter}
use Rattle.admit_core.proofs.OrderPermutes.{distinct-order}
use Rattle.admit_core.proofs.CallRows.{IsIn, in_list, same_row, least_found, not_among_front, among_front, in_remaining}
use Rattle.admit_core.proofs.CallRows.{IsCallAt, call_row}

-- a resident scholar may be called under each bound
may_always : (b : Bound) (s : Ranked) → (s.scholar && s.resident) ≡ true → may_be_called b s ≡ true
may_always Free s e = refl
may_always Scholar s e = (and_parts s.scholar s.resident e).0
may_always Resident s e = (and_parts s.scholar s.resident e).1
may_always Both s e = e
may_always Alone s e = (and_parts s.scholar s.resident e).0

-- who is called has the least rank of those who remain and may be called
pub called_is_least : (g : RankGroup) (order : CallOrder) (k : ℕ) (r s : Ranked) (b : Bound) → IsRanking g
    → IsCallAt g order k r b
    → IsIn s (remaining g (take k order.list)) → may_be_called b s ≡ true → r.candidate ≢ s.candidate → r.rank < s.rank
called_is_least g order k r s b ranking call has may differ =
    let rank = λ (x : Ranked). x.rank in
    let rises = rises_filter rank _ g.list (rises_by_key rank g.list ranking.ranks) in
    elim (least_found rank (may_be_called b) r s (remaining g (take k order.list)) rises call.first has may) [
      | inl same ↦ absurd (differ (ap (λ (x : Ranked). x.candidate) same))
      | inr less ↦ less
    ]

pub scholars_come_first : OfCallOrders CallsResidentScholarsFirst
scholars_come_first g order ranking calls r s i j has_r has_s at_i at_j lt both =
    let key = λ (x : Ranked). x.candidate in
    let apart = distinct-order g order ranking calls in
    let within = slice_get_within order.list i r.candidate at_i in
    let (q, b, call) = call_row g order ranking calls i within in
    let row = in_list s g.list has_s in
    let same_id : q.candidate ≡ r.candidate = (cc (call.who, at_i)) in
    let same : q ≡ r = same_row key q r g.list ranking.candidates call.ranked (in_list r g.list has_r) same_id in
    let remains = in_remaining g order.list i j s apart row at_j (omega arith) in
    let differ : q.candidate ≢ s.candidate = λ e.
    both_ways (is_among s.candidate (take (suc i) order.list))
    (not_among_front order.list (suc i) j s.candidate apart at_j (omega arith))
    (among_front order.list i s.candidate (call.who ∙ ap Some e)) in
    rw (← same) (called_is_least g order i q s b ranking call remains (may_always b s both) differ)
