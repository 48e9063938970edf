-- A day leaves the dossier.
use Rattle.std.proofs.Common.{ℕ, ◌+◌, ◌≡◌, ◌∙◌, List, [], ◌∷◌, Option, None, Some, refl, ap}
use Rattle.admit_core.specs.Days.{IsDay, Passes, after_lapse, answers_of, closing, morning}
use Rattle.admit_core.specs.State.{State}
use Rattle.admit_core.specs.declared.ranking.CallOrder.{CallOrder}
use Rattle.admit_core.specs.declared.records.DayRecord.{DayRecord}
use Rattle.admit_core.specs.declared.records.PassEnd.{PassEnd}
use Rattle.admit_core.specs.declared.records.Terms.{Terms}
use Rattle.day_state.proofs.Independence.{dossier_after_all}
use Rattle.desk_day.specs.DayPasses.{stamp_of}

lapse_dossier : (terms : Option Terms) (day : ℕ) (s : State) → (after_lapse terms day s).dossier ≡ s.dossier
lapse_dossier None day s = refl
lapse_dossier (Some terms) day s = refl

-- neither a lapse nor an answer changes the dossier
pub morning_dossier : (terms : Option Terms) (day : ℕ) (s : State) → (morning terms day s).dossier ≡ s.dossier
morning_dossier terms day s = dossier_after_all (after_lapse terms day s) (stamp_of day 0) (answers_of s.dossier day)
    ∙ lapse_dossier terms day s

passes_dossier : (orders : List CallOrder) (ceilings : List ℕ) (day k : ℕ) (s : State) (passes : List PassEnd)
    (evening : State)
    → Passes orders ceilings day k s passes evening → evening.dossier ≡ s.dossier
passes_dossier orders ceilings day k s [] evening p = absurd p
passes_dossier orders ceilings day k s (pass ∷ []) evening p = ap (λ (e : State). e.dossier) p.2
passes_dossier orders ceilings day k s (pass ∷ next ∷ rest) evening p =
    passes_dossier orders ceilings day (k + 1) (closing s orders pass.pass.bars (stamp_of day k))
    (next ∷ rest) evening p.2

pub evening_dossier : (terms : Option Terms) (orders : List CallOrder) (ceilings : List ℕ) (old : State)
    (day : DayRecord) (evening : State)
    → IsDay terms orders ceilings old day evening → evening.dossier ≡ old.dossier
evening_dossier terms orders ceilings old day evening is =
    passes_dossier orders ceilings day.day 1 (morning terms day.day old) day.passes evening is.passes
    ∙ morning_dossier terms day.day old
