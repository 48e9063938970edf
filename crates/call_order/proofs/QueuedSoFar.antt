-- A call order in the making by the queues: what holds of the calls so far.
use Rattle.std.proofs.Common.{ℕ, ◌+◌, ◌≤◌, ◌<◌, ◌≡◌, false, not, List, [], ◌∷◌, ◌++◌, map, length, refl, sym, ◌∙◌, ap}
use Rattle.std.proofs.Common.{arith, filter, Some, None, nat_eq, count_by}
use Rattle.std.specs.Prelude.{option_map, find}
use Rattle.std.specs.List.{IsDistinct}
use Rattle.std.specs.List.Sorted.{IsStrictlyIncreasing}
use Rattle.std.proofs.lemmas.List.{length_push}
use Rattle.std.proofs.lemmas.List.Sums.{count_by-le-length}
use Rattle.admit_core.specs.declared.ranking.Ranked.{Ranked}
use Rattle.admit_core.specs.declared.ranking.RankGroup.{RankGroup}
use Rattle.admit_core.specs.declared.ranking.Bound.{Bound}
use Rattle.admit_core.specs.Lists.{is_among}
use Rattle.admit_core.specs.CallOrder.{called, remaining, bound_after, may_be_called, next_after, IsCallOrder}
use Rattle.admit_core.specs.CallOrderLaws.{KeepsOrderLaws}
use Rattle.admit_core.specs.Validity.{IsRanking}
use Rattle.admit_core.proofs.OrderLaws.{laws_kept}
use Rattle.admit_core.proofs.LeastFirst.{next_is_first}
use Rattle.admit_core.proofs.NextCalls.{find_passes, next_none, mapped_some, remaining_push, remaining_first}
use Rattle.admit_core.proofs.OrderPermutes.{distinct_filter}
use Rattle.admit_core.proofs.CalledCounts.{count_called_push, length-parts}
use Rattle.admit_core.proofs.Calls.{CallsSoFar, calls_none, calls_push, calls_done}
use Rattle.admit_core.proofs.Plain.{mapped_none}
use Rattle.call_order.specs.Kinds.{kind_of, is_of, head_of, without_head}
use Rattle.call_order.proofs.Firsts.{length-without_first}
use Rattle.call_order.specs.declared.queued.Rates.{Rates}
use Rattle.call_order.specs.declared.queued.Tally.{Tally}
use Rattle.call_order.specs.QueuedCalls.{ranking_by, more_called, call_by}
use Rattle.call_order.proofs.ByKinds.{head_of_own_kind, without_first-filter}

-- what stands in the queues is a ranking
pub ranking_from : {q r : ℕ} {list : List Ranked} → q ≤ 100 → r ≤ 100 → IsStrictlyIncreasing (map (λ r. r.rank) list)
    → IsDistinct nat_eq (map (λ r. r.candidate) list) → IsRanking (ranking_by q r list)
ranking_from scholar resident ranks candidates =
    record { scholar_pct = scholar; resident_pct = resident; ranks = ranks; candidates = candidates }

abbrev rates_of : RankGroup → Rates
rates_of g = record { scholar_pct = g.scholar_pct; resident_pct = g.resident_pct }

abbrev tally_of : RankGroup → List ℕ → Tally
tally_of g list =
    record {
      calls = length list;
      scholars = count_by (λ r. r.scholar) (called g list);
      residents = count_by (λ r. r.resident) (called g list);
    }

-- the calls so far are right, the tally counts them, and exactly the others remain
pub record QueuedSoFar (g : RankGroup) (list : List ℕ) (trace : List Bound) (counts : Tally) (rs : List Ranked) :
    Type 0 where
  pub calls : CallsSoFar g list trace
  pub remaining : rs ≡ remaining g list
  pub count : length list + length rs ≡ length g.list
  pub tally : counts ≡ tally_of g list

nothing : {X : Type 0} (xs : List X) → filter (λ x. false) xs ≡ []
nothing [] = refl
nothing (x ∷ xs) = nothing xs

none_called : (g : RankGroup) → called g [] ≡ []
none_called g = nothing g.list

pub queued_none : (g : RankGroup) (rs : List Ranked) → rs ≡ g.list
    → QueuedSoFar g [] [] (record { calls = 0; scholars = 0; residents = 0 }) rs
queued_none g rs e =
    record {
      calls = calls_none g;
      remaining = e ∙ sym (remaining_first g);
      count = rw e (omega arith);
      tally = rw none_called refl;
    }

abbrev with_bound : Bound → Ranked → Ranked × Bound
with_bound bound r = (r, bound)

-- what is called by the tally and by those who remain is the next one of the rule
call_is : (g : RankGroup) (list : List ℕ) (trace : List Bound) (tally : Tally) (rs : List Ranked)
    → QueuedSoFar g list trace tally rs
    → call_by (rates_of g) tally rs ≡ option_map (with_bound (bound_after g list))
    (find (may_be_called (bound_after g list)) (remaining g list))
call_is g list trace tally rs so_far = rw (so_far.tally, so_far.remaining) refl

-- a call by the heads: it is the next one of the rule, it is the head of its kind, and what holds so far still holds
-- after it
pub record QueuedCall (g : RankGroup) (list : List ℕ) (trace : List Bound) (tally : Tally) (rs : List Ranked)
    (r : Ranked) (b : Bound) : Type 0 where
  pub head : head_of (kind_of r) rs ≡ Some r
  pub fewer : length (without_head (kind_of r) rs) < length rs
  pub room : length list < length g.list
  pub calls : tally.calls ≡ length list
  pub scholars : tally.scholars ≤ tally.calls
  pub residents : tally.residents ≤ tally.calls
  pub still : QueuedSoFar g (list ++ r.candidate ∷ []) (trace ++ b ∷ []) (more_called tally r)
      (without_head (kind_of r) rs)

tally_push : (g : RankGroup) (list : List ℕ) (r : Ranked) (b : Bound) → IsRanking g
    → find (may_be_called b) (remaining g list) ≡ Some r
    → more_called (tally_of g list) r ≡ tally_of g (list ++ r.candidate ∷ [])
tally_push g list r b ranking found =
    rw (
      length_push list r.candidate,
      count_called_push (λ (x : Ranked). x.scholar) (may_be_called b) g list r ranking.candidates found,
      count_called_push (λ (x : Ranked). x.resident) (may_be_called b) g list r ranking.candidates found,
    ) refl

pub queued_push : {g : RankGroup} {list : List ℕ} {trace : List Bound} {tally : Tally} {rs : List Ranked} {r : Ranked}
    {b : Bound} → QueuedSoFar g list trace tally rs
    → IsRanking g → call_by (rates_of g) tally rs ≡ Some (r, b) → QueuedCall g list trace tally rs r b
queued_push {g} {list} {trace} {tally} {rs} {r} {b} so_far ranking e =
    let key = λ (x : Ranked). x.candidate in
    let here = remaining g list in
    let under = bound_after g list in
    let (x, at_first, is) = mapped_some (with_bound under) (find (may_be_called under) here) (r, b)
    (sym (call_is g list trace tally rs so_far) ∙ e) in
    let bound = ap (λ (y : Ranked × Bound). y.1) is in
    let first = at_first ∙ ap Some (ap (λ (y : Ranked × Bound). y.0) is) in
    let found : find (may_be_called b) here ≡ Some r =
    ap (λ under. find (may_be_called under) here) (sym bound) ∙ first in
    let may = find_passes (may_be_called b) here r found in
    let next : next_after g list ≡ Some (r.candidate, b) =
    next_is_first g list ranking.ranks ∙ rw first (rw bound refl) in
    let own = head_of_own_kind b here r found may in
    let apart = distinct_filter key (λ (x : Ranked). not (is_among x.candidate list)) g.list ranking.candidates in
    let fewer = length-without_first (is_of (kind_of r)) here r own in
    let goes = without_first-filter key (is_of (kind_of r)) here r apart own
    ∙ sym (remaining_push g list r.candidate) in
    let parts = length-parts g list in
    let long = ap length so_far.remaining in
    let scholars = count_by-le-length (λ (x : Ranked). x.scholar) (called g list) in
    let residents = count_by-le-length (λ (x : Ranked). x.resident) (called g list) in
    record {
      head = rw so_far.remaining own;
      fewer = rw so_far.remaining (omega (arith, fewer));
      room = omega (arith, so_far.count, long, fewer);
      calls = rw so_far.tally refl;
      scholars = rw so_far.tally (omega (arith, so_far.count, long, parts, scholars));
      residents = rw so_far.tally (omega (arith, so_far.count, long, parts, residents));
      still =
          record {
            calls = calls_push g list trace r.candidate b so_far.calls next;
            remaining = rw so_far.remaining goes;
            count = rw (so_far.remaining, length_push list r.candidate) (omega (arith, so_far.count, long, fewer));
            tally = rw so_far.tally (tally_push g list r b ranking found);
          };
    }

-- where nobody is called, the order is whole and nobody remains
pub record QueuedEnd (g : RankGroup) (list : List ℕ) (trace : List Bound) (rs : List Ranked) : Type 0 where
  pub order : IsCallOrder g (record { list = list; trace = trace })
  pub laws : KeepsOrderLaws g (record { list = list; trace = trace })
  pub nobody : rs ≡ []

pub queued_done : {g : RankGroup} {list : List ℕ} {trace : List Bound} {tally : Tally} {rs : List Ranked}
    → QueuedSoFar g list trace tally rs → IsRanking g
    → call_by (rates_of g) tally rs ≡ None → QueuedEnd g list trace rs
queued_done {g} {list} {trace} {tally} {rs} so_far ranking e =
    let here = remaining g list in
    let bound = bound_after g list in
    let none = mapped_none (with_bound bound) (find (may_be_called bound) here)
    (sym (call_is g list trace tally rs so_far) ∙ e) in
    let next : next_after g list ≡ None = next_is_first g list ranking.ranks ∙ rw none refl in
    let order = calls_done g list trace so_far.calls next in
    record {
      order = order;
      laws = laws_kept g (record { list = list; trace = trace }) ranking order;
      nobody = so_far.remaining ∙ next_none g list ranking.ranks next;
    }
