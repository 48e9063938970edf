-- One bar for each ceiling.
use Rattle.std.proofs.Common.{ℕ, ◌≡◌, List, length, refl, sym, ◌∙◌, ap}
use Rattle.std.specs.Prelude.{slice_index}
use Rattle.std.proofs.lemmas.List.FromFn.{fill_by_all}
use Rattle.std.proofs.Math.ListN.{set}
use Rattle.std.proofs.lemmas.List.{length-set}
use Rattle.linked_demand.specs.Rounds.{bar_each}

-- where there are as many, they are the bars
pub bar_each_is : (ceilings bars : List ℕ) → length bars ≡ length ceilings → bar_each ceilings bars ≡ bars
bar_each_is ceilings bars long = sym (fill_by_all (slice_index bars) bars (length ceilings) 0 long (λ k lt. refl))

-- after one of them falls
pub bar_each_set : (ceilings bars : List ℕ) (i to : ℕ) → length bars ≡ length ceilings
    → bar_each ceilings (set bars i to) ≡ set (bar_each ceilings bars) i to
bar_each_set ceilings bars i to long =
    bar_each_is ceilings (set bars i to) (length-set bars i to ∙ long)
    ∙ ap (λ (bs : List ℕ). set bs i to) (sym (bar_each_is ceilings bars long))

pub bar_each_same : (ceilings bars all : List ℕ) → ceilings ≡ all → bars ≡ all → bar_each ceilings bars ≡ all
bar_each_same ceilings bars all ceilings_are bars_are = bar_each_is ceilings bars
    (ap length (bars_are ∙ sym ceilings_are)) ∙ bars_are
