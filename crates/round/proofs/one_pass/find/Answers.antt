use Rattle.std.proofs.Common.{List, ℕ, sym, ◌∙◌, ap}
use Rattle.admit_core.specs.declared.records.Fall.{Fall}
use Rattle.admit_core.specs.declared.records.PassRecord.{PassRecord}
use Rattle.admit_core.specs.Proposals.{proposed}
use Rattle.admit_core.proofs.Plain.{on_err}
use Rattle.bar_fixpoint.proofs.RunLaws.{none_told}
use Rattle.round.proofs.EarlyEnds.{told_early, told_of_all}
use Rattle.round.proofs.Found.{bars_kept, chosen_kept, greatest_kept, run_kept}
use Rattle.round.proofs.one_pass.find.Goals as goal

pub returns-clause-pass : goal.returns-clause-pass
returns-clause-pass g c =
    let end = c.lower.new.system in
    let first = goal.Picker-dyn g c.args.picker.now in
    let by = c.in_ok-falls.ensures.run.0 in
    let run = by.run in
    let with_falls : List Fall → PassRecord =
    λ falls. record { bars = c.from_vec.result; falls = falls; offers = c.from_vec-3.result } in (
      with_falls by.falls,
      record {
        is_pass = record {
          greatest = greatest_kept _ _ c.in_ok-round.ensures.system _ _ (c.from_vec.ensures ∙ c.in_ok-bars.ensures.bars)
              c.in_ok-falls.ensures.greatest;
          falls = run_kept _ _ c.in_ok-round.ensures.system by.falls run.is_run;
          bars = bars_kept _ _ c.in_ok-round.ensures.system by.falls _ _
              (c.from_vec.ensures ∙ c.in_ok-bars.ensures.bars) run.bars_fell;
          offers =
              c.from_vec-3.ensures
              ∙ c.in_ok-offers.ensures.offers
              ∙ ap (proposed end.state end.orders) (sym (c.from_vec.ensures ∙ c.in_ok-bars.ensures.bars))
              ∙ ap (λ (offers : List ℕ → List ℕ). offers c.from_vec.result)
              (c.lower.ensures.unchanged.offers ∙ c.in_ok-round.ensures.offers);
        };
        told_of = run.told_of;
        chosen = chosen_kept _ _ c.in_ok-round.ensures.system by.falls (first.choice c.args.picker.now.1)
            (first.told c.args.picker.now.1) run.chosen;
      },
      ap with_falls (c.from_vec-2.ensures ∙ c.in_ok-falls.ensures.run.1),
    )

pub returns-in_err-round-clause-told_by_then : goal.returns-in_err-round-clause-told_by_then
returns-in_err-round-clause-told_by_then g c = on_err _ (none_told _ _ _)

pub returns-in_err-falls-clause-told_by_then : goal.returns-in_err-falls-clause-told_by_then
returns-in_err-falls-clause-told_by_then g c =
    on_err _ (told_early _ _ _ _ _ _ c.in_ok-round.ensures.system c.in_err-falls.ensures.stops.told_by_then)

pub returns-in_err-bars-clause-told_by_then : goal.returns-in_err-bars-clause-told_by_then
returns-in_err-bars-clause-told_by_then g c =
    let by = c.in_ok-falls.ensures.run.0 in
    on_err _ (told_of_all _ _ _ _ _ by.falls c.in_ok-round.ensures.system by.run.is_run by.run.chosen by.run.told_of)

pub returns-in_err-offers-clause-told_by_then : goal.returns-in_err-offers-clause-told_by_then
returns-in_err-offers-clause-told_by_then g c =
    let by = c.in_ok-falls.ensures.run.0 in
    on_err _ (told_of_all _ _ _ _ _ by.falls c.in_ok-round.ensures.system by.run.is_run by.run.chosen by.run.told_of)
