-- Witnesses of why nobody has a blocking wish after days that are answered automatically alone: three
-- candidates, of whom the first is offered both seats and gives one up, and the last goes on waiting.
use Rattle.std.specs.Prelude.{◌≡◌, ℕ, false, List, [], ◌∷◌, length, Option, None, All, IsTrue}
use Rattle.admit_core.specs.declared.dossier.Wish.{Wish}
use Rattle.admit_core.specs.declared.ranking.CallOrder.{CallOrder}
use Rattle.admit_core.specs.declared.records.DayRecord.{DayRecord}
use Rattle.admit_core.specs.declared.records.PassEnd.{PassEnd}
use Rattle.admit_core.specs.declared.records.Terms.{Terms}
use Rattle.admit_core.specs.declared.state.Mark.{Mark}
use Rattle.admit_core.specs.declared.state.Stamp.{Stamp}
use Rattle.admit_core.specs.declared.state.Status.TheVariants.{Accepted, AutoRefused, Waiting}
use Rattle.admit_core.specs.Blocking.{behind, blocking, has_better}
use Rattle.admit_core.specs.CallOrder.{AreCallOrders}
use Rattle.admit_core.specs.Days.{IsDay, Passes, answers_of, closing, first_evening}
use Rattle.admit_core.specs.DossierRows.{DossierRows}
use Rattle.admit_core.specs.Lapses.{AreTermsFor}
use Rattle.admit_core.specs.State.{State, holds_seat, is_waiting}
use Rattle.admit_core.specs.Validity.{IsValid}
use Rattle.admit_core.specs.WorkedDays.{change, day, freeing, in_order}
use Rattle.admit_core.specs.WorkedRows.{group, marked, programme, ranked, wish}
use Rattle.envy.specs.AutomaticDays.{IsFair, IsFairEvening, IsFirstEvening, IsLaterEvening, IsRankedPlainly}
use Rattle.envy.specs.AutomaticDays.{is_given_up}

abbrev pub ranked_plainly : DossierRows
ranked_plainly =
    record {
      groups = group 0 0
          (ranked 81 1 false false ∷ ranked 82 2 false false ∷ ranked 83 3 false false ∷ []) ∷ [];
      programmes = programme 10 0 1 ∷ programme 20 0 1 ∷ [];
      schools = [];
      wishes = wish 1 81 0 2 ∷ wish 2 81 1 1 ∷ wish 3 82 0 1 ∷ wish 4 83 0 1 ∷ [];
      statuses = Waiting ∷ Waiting ∷ Waiting ∷ Waiting ∷ [];
      ceilings = [];
      answers = [];
    }

abbrev pub three_in_order : List CallOrder
three_in_order = in_order (81 ∷ 82 ∷ 83 ∷ []) ∷ []

-- the seat that 81 gives up goes to 82 in a second pass
abbrev pub two_passes : List PassEnd
two_passes =
    freeing [] [] (0 ∷ 1 ∷ []) (change 0 AutoRefused ∷ change 1 Accepted ∷ []) 1 0
    ∷ freeing [] [] (2 ∷ []) (change 2 Accepted ∷ []) 0 0
    ∷ []

abbrev pub automatic_day : DayRecord
automatic_day = day 1 two_passes (0 ∷ 0 ∷ []) []

-- after the first pass and after the second
abbrev pub after_first : State
after_first =
    record {
      dossier = ranked_plainly;
      marks = marked AutoRefused 1 1 ∷ marked Accepted 1 1 ∷ marked Waiting 0 0
          ∷ marked Waiting 0 0 ∷ [];
    }

abbrev pub automatic_evening : State
automatic_evening =
    record after_first {
      marks = marked AutoRefused 1 1 ∷ marked Accepted 1 1 ∷ marked Accepted 1 2
          ∷ marked Waiting 0 0 ∷ [];
    }

abbrev pub WaitingIsFairWitness : Type 0
WaitingIsFairWitness =
    let orders : List CallOrder = three_in_order in
    let s : State = first_evening ranked_plainly in
    All (λ m. IsTrue (is_waiting m)) s.marks × IsFair orders s

-- behind 82, who waits, stands 83, who has no seat
abbrev pub NobodyBehindWitness : Type 0
NobodyBehindWitness =
    let orders : List CallOrder = three_in_order in
    let s : State = after_first in
    let w : Wish = wish 3 82 0 1 in
    let m : Mark = marked Waiting 0 0 in
    IsTrue (is_waiting m) × All (λ c. holds_seat s c w.programme ≡ false) (behind s orders w)

abbrev pub HoldsBetterWitness : Type 0
HoldsBetterWitness =
    let s : State = after_first in
    let w : Wish = wish 1 81 0 2 in
    let m : Mark = marked AutoRefused 1 1 in
    IsTrue (is_given_up m.status) × IsTrue (has_better s w)

abbrev pub PassesKeepFairWitness : Type 0
PassesKeepFairWitness =
    let orders : List CallOrder = three_in_order in
    let s : State = after_first in
    let bars : List ℕ = [] in
    let stamp : Stamp = record { day = 1; pass = 2 } in
    IsValid s.dossier
    × AreCallOrders s.dossier.groups orders
    × IsRankedPlainly s.dossier
    × (length s.marks ≡ length s.dossier.wishes)
    × IsFair orders s
    × IsFair orders (closing s orders bars stamp)

abbrev pub DaysEndFairWitness : Type 0
DaysEndFairWitness =
    let orders : List CallOrder = three_in_order in
    let ceilings : List ℕ = [] in
    let day : ℕ = 1 in
    let k : ℕ = 1 in
    let opening : State = first_evening ranked_plainly in
    let passes : List PassEnd = two_passes in
    let evening : State = automatic_evening in
    IsValid opening.dossier
    × AreCallOrders opening.dossier.groups orders
    × IsRankedPlainly opening.dossier
    × (length opening.marks ≡ length opening.dossier.wishes)
    × IsFair orders opening
    × Passes orders ceilings day k opening passes evening
    × IsFairEvening orders evening

abbrev pub QuietDaysEndFairWitness : Type 0
QuietDaysEndFairWitness =
    let terms : Option Terms = None in
    let orders : List CallOrder = three_in_order in
    let ceilings : List ℕ = [] in
    let old : State = first_evening ranked_plainly in
    let day : DayRecord = automatic_day in
    let evening : State = automatic_evening in
    IsValid old.dossier
    × AreCallOrders old.dossier.groups orders
    × AreTermsFor old.dossier terms
    × IsRankedPlainly old.dossier
    × (length old.marks ≡ length old.dossier.wishes)
    × (answers_of old.dossier day.day ≡ [])
    × IsFair orders old
    × IsDay terms orders ceilings old day evening
    × IsFairEvening orders evening

abbrev pub FirstEveningsBlockNoneWitness : Type 0
FirstEveningsBlockNoneWitness =
    let orders : List CallOrder = three_in_order in
    let evening : State = automatic_evening in
    IsValid evening.dossier
    × AreCallOrders evening.dossier.groups orders
    × IsFirstEvening orders evening
    × (blocking evening orders ≡ [])

-- the same evening after a second day, of one pass without an offer
abbrev pub LaterEveningsBlockNoneWitness : Type 0
LaterEveningsBlockNoneWitness =
    let orders : List CallOrder = three_in_order in
    let evening : State = automatic_evening in
    IsValid evening.dossier
    × AreCallOrders evening.dossier.groups orders
    × IsLaterEvening orders evening
    × (blocking evening orders ≡ [])
