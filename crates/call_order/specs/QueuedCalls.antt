-- The next call by what remains and by counts of what was called.
use Rattle.std.specs.Prelude.{ℕ, ◌+◌, ◌*◌, Bool, ◌&&◌, List, Option, option_map, find, nat_lt}
use Rattle.std.specs.Prelude.{if◌then◌else◌}
use Rattle.std.specs.List.{list_any}
use Rattle.admit_core.specs.declared.ranking.Ranked.{Ranked}
use Rattle.admit_core.specs.declared.ranking.RankGroup.{RankGroup}
use Rattle.admit_core.specs.declared.ranking.Bound.{Bound}
use Rattle.admit_core.specs.CallOrder.{bound_of, may_be_called}
use Rattle.call_order.specs.QueueLists.{QueueLists}
use Rattle.call_order.specs.declared.queued.Rates.{Rates}
use Rattle.call_order.specs.declared.queued.Tally.{Tally}

-- a ranking with its rates
abbrev pub ranking_by : ℕ → ℕ → List Ranked → RankGroup
ranking_by scholar_pct resident_pct list =
    record { id = 0; scholar_pct = scholar_pct; resident_pct = resident_pct; list = list }

-- the ranking of those who remain in queues
abbrev pub ranking_in : ℕ → ℕ → QueueLists → RankGroup
ranking_in scholar_pct resident_pct queues = ranking_by scholar_pct resident_pct queues.remaining

-- one more for each flag
abbrev pub one_if : Bool → ℕ
one_if flag = if flag then 1 else 0

abbrev pub more_called : Tally → Ranked → Tally
more_called t r =
    record {
      calls = t.calls + 1;
      scholars = t.scholars + one_if r.scholar;
      residents = t.residents
          + one_if r.resident;
    }

-- too few of the favoured were called for one more call
abbrev pub too_few : ℕ → ℕ → ℕ → Bool
too_few pct favoured calls = nat_lt (100 * favoured) (pct * (calls + 1))

abbrev pub bound_by : Rates → Tally → List Ranked → Bound
bound_by rates t rs =
    bound_of (list_any (λ r. r.scholar) rs && too_few rates.scholar_pct t.scholars t.calls)
    (list_any (λ r. r.resident) rs && too_few rates.resident_pct t.residents t.calls)
    (list_any (λ r. r.scholar && r.resident) rs)

abbrev pub call_by : Rates → Tally → List Ranked → Option (Ranked × Bound)
call_by rates t rs =
    option_map (λ r. (r, bound_by rates t rs)) (find (may_be_called (bound_by rates t rs)) rs)
