-- Each day ended with its last pass.
use Rattle.std.proofs.Common.{ℕ, ◌+◌, ◌≡◌, List, [], ◌∷◌, length, sym, ◌∙◌, ap, subst, Option}
use Rattle.std.specs.Prelude.{IsTrue}
use Rattle.admit_core.specs.declared.ranking.CallOrder.{CallOrder}
use Rattle.admit_core.specs.declared.records.DayRecord.{DayRecord}
use Rattle.admit_core.specs.declared.records.PassEnd.{PassEnd}
use Rattle.admit_core.specs.declared.records.Terms.{Terms}
use Rattle.admit_core.specs.declared.state.Freed.{Freed}
use Rattle.admit_core.specs.DossierRows.{DossierRows}
use Rattle.admit_core.specs.CallOrder.{AreCallOrders}
use Rattle.admit_core.specs.State.{State}
use Rattle.admit_core.specs.Days.{IsDay, Passes, closing, frees_nothing, morning}
use Rattle.admit_core.specs.EveningLaws.{last_bars}
use Rattle.desk_day.specs.DayPasses.{last_opening, stamp_of}
use Rattle.desk_day.specs.LastPasses.{IsLastPass, last_of, last_pass}
use Rattle.desk_day.specs.RunDay.{IsDayDone, Moment}
use Rattle.desk_day.proofs.SameDossier.{morning_dossier}

passes_end_so : (orders : List CallOrder) (ceilings : List ℕ) (day k : ℕ) (s : State) (passes : List PassEnd)
    (evening : State)
    → AreCallOrders s.dossier.groups orders → length ceilings ≡ length s.dossier.schools
    → Passes orders ceilings day k s passes evening
    → IsLastPass (last_pass (last_opening orders day k s passes) orders ceilings (last_bars passes)) evening
passes_end_so orders ceilings day k s [] evening called long are = absurd are
passes_end_so orders ceilings day k s (pass ∷ []) evening called long are = record {
  of_dossier = record {
    called = called;
    ceilings = long;
    bars = are.0.pass.greatest.fits.under_ceilings.as_many ∙ long;
  };
  stamp = stamp_of day k;
  greatest = are.0.pass.greatest;
  leaves = are.2;
  freed_none = subst (λ (f : Freed). IsTrue (frees_nothing f)) are.0.freed are.1;
}
passes_end_so orders ceilings day k s (pass ∷ next ∷ rest) evening called long are =
    passes_end_so orders ceilings day (k + 1) (closing s orders pass.pass.bars (stamp_of day k))
    (next ∷ rest) evening called long are.2

pub day_ends_so : (terms : Option Terms) (orders : List CallOrder) (ceilings : List ℕ) (old : State) (day : DayRecord)
    (evening : State)
    → AreCallOrders old.dossier.groups orders → length ceilings ≡ length old.dossier.schools
    → IsDay terms orders ceilings old day evening
    → IsLastPass (last_of terms orders ceilings old day) evening
day_ends_so terms orders ceilings old day evening called long is =
    let s = morning terms day.day old in
    let same = sym (morning_dossier terms day.day old) in
    passes_end_so orders ceilings day.day 1 s day.passes evening
    (subst (λ (d : DossierRows). AreCallOrders d.groups orders) same called)
    (long ∙ ap (λ (d : DossierRows). length d.schools) same) is.passes

-- so does a day on a desk, whose ceilings and last bars are kept
pub desk_ends_so : (terms : Option Terms) (orders : List CallOrder) (ceilings kept bars : List ℕ) (day : ℕ)
    (before after : Moment)
    (done : DayRecord)
    → AreCallOrders before.desk.present.dossier.groups orders
    → length ceilings ≡ length before.desk.present.dossier.schools
    → IsDayDone terms orders ceilings day before done after → ceilings ≡ kept → bars ≡ last_bars done.passes
    → IsLastPass (last_pass after.desk.opening orders kept bars) after.desk.present
desk_ends_so terms orders ceilings kept bars day before after done called long is kept_are bars_are =
    let old = before.desk.present in
    let evening = after.desk.present in
    let opened = ap (λ (d : ℕ). last_opening orders d 1 (morning terms d old) done.passes) is.rule.number
    ∙ sym is.rule.opening in
    let by_day = day_ends_so terms orders ceilings old done evening called long is.rule.is_day in
    let by_opening = subst (λ (o : State). IsLastPass (last_pass o orders ceilings (last_bars done.passes)) evening)
    opened by_day in
    let by_bars = subst (λ (bs : List ℕ). IsLastPass (last_pass after.desk.opening orders ceilings bs) evening)
    (sym bars_are) by_opening in
    subst (λ (cs : List ℕ). IsLastPass (last_pass after.desk.opening orders cs bars) evening) kept_are by_bars
