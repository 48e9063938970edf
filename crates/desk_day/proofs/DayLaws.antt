-- A day that came about keeps the laws of days.
use Rattle.std.proofs.Common.{ℕ, ◌+◌, ◌≡◌, List, [], ◌∷◌, length, sym, ◌∙◌, ap, refl, subst, Option}
use Rattle.admit_core.specs.declared.ranking.CallOrder.{CallOrder}
use Rattle.admit_core.specs.declared.records.DayRecord.{DayRecord}
use Rattle.admit_core.specs.declared.records.PassEnd.{PassEnd}
use Rattle.admit_core.specs.declared.records.Terms.{Terms}
use Rattle.admit_core.specs.DossierRows.{DossierRows}
use Rattle.admit_core.specs.CallOrder.{AreCallOrders}
use Rattle.admit_core.specs.Validity.{IsValid}
use Rattle.admit_core.specs.State.{State}
use Rattle.admit_core.specs.Days.{IsDay, IsPassEnd, Passes, closing, morning, offered}
use Rattle.admit_core.proofs.Evenings.{seats_are_filled}
use Rattle.admit_core.proofs.ClosedEvenings.{evenings_are_closed}
use Rattle.round.specs.PassLaws.{KeepsPassLaws}
use Rattle.round.proofs.PassClauses.{laws_kept as pass_laws_kept}
use Rattle.desk_day.specs.DayLaws.{KeepsLaws}
use Rattle.desk_day.specs.DayPasses.{PassesKeepLaws, stamp_of}
use Rattle.desk_day.proofs.SameDays.{only_falls_differ}
use Rattle.desk_day.proofs.SameDossier.{morning_dossier}

pass_kept : (orders : List CallOrder) (ceilings : List ℕ) (day k : ℕ) (s : State) (pass : PassEnd) → IsValid s.dossier
    → AreCallOrders s.dossier.groups orders
    → length ceilings ≡ length s.dossier.schools → IsPassEnd s orders ceilings (stamp_of day k) pass
    → KeepsPassLaws s (offered s orders pass.pass.bars (stamp_of day k)) ceilings pass.pass
pass_kept orders ceilings day k s pass valid called long is =
    pass_laws_kept s (offered s orders pass.pass.bars (stamp_of day k)) orders ceilings
    (stamp_of day k) pass.pass is.pass refl valid called
    long

passes_kept : (orders : List CallOrder) (ceilings : List ℕ) (day k : ℕ) (s : State) (passes : List PassEnd)
    (evening : State)
    → IsValid s.dossier
    → AreCallOrders s.dossier.groups orders → length ceilings ≡ length s.dossier.schools
    → Passes orders ceilings day k s passes evening
    → PassesKeepLaws orders ceilings day k s passes
passes_kept orders ceilings day k s [] evening valid called long are = absurd are
passes_kept orders ceilings day k s (pass ∷ []) evening valid called long are =
    (pass_kept orders ceilings day k s pass valid called long are.0, tt)
passes_kept orders ceilings day k s (pass ∷ next ∷ rest) evening valid called long are = (
  pass_kept orders ceilings day k s pass valid called long are.0,
  passes_kept orders ceilings day (k + 1) (closing s orders pass.pass.bars (stamp_of day k))
      (next ∷ rest) evening valid called long are.2,
)

pub laws_kept : (terms : Option Terms) (orders : List CallOrder) (ceilings : List ℕ) (old : State) (day : DayRecord)
    (evening : State)
    → IsValid old.dossier → AreCallOrders old.dossier.groups orders → length ceilings ≡ length old.dossier.schools
    → IsDay terms orders ceilings old day evening
    → KeepsLaws terms orders ceilings old day evening
laws_kept terms orders ceilings old day evening valid called long is =
    let s = morning terms day.day old in
    let same = sym (morning_dossier terms day.day old) in
    let s_valid : IsValid s.dossier = subst IsValid same valid in
    let s_called : AreCallOrders s.dossier.groups orders =
    subst (λ (d : DossierRows). AreCallOrders d.groups orders) same called in
    let s_long : length ceilings ≡ length s.dossier.schools = long ∙ ap (λ (d : DossierRows). length d.schools) same in
    record {
      passes = passes_kept orders ceilings day.day 1 s day.passes evening s_valid s_called s_long is.passes;
      filled = seats_are_filled orders ceilings day.day 1 s day.passes evening s_valid s_called is.passes;
      closed = evenings_are_closed orders ceilings day.day 1 s day.passes evening s_valid s_called is.passes;
      only = λ other night number also. only_falls_differ terms orders ceilings old other day night evening number also
          is;
    }
