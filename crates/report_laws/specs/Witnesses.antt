-- For each law a worked case that meets all its premises, with what it concludes there: the law's
-- text, with a value for each variable and a product for each arrow. One of the records is what the
-- rules compute, and the other is written out.
use Rattle.std.specs.Prelude.{◌≡◌, ℕ, ℤ, pos, negsuc, List, [], ◌∷◌, All, codes, flat_map, map, slice_index}
use Rattle.std.specs.Prelude.{slice_index_or}
use Rattle.std.specs.List.{range_with_len}
use Rattle.admit_core.specs.Boarding.{boarding}
use Rattle.admit_core.specs.Days.{changes, closing, freed_after, offered}
use Rattle.admit_core.specs.DossierRows.{DossierRows}
use Rattle.admit_core.specs.Falls.{falls_by}
use Rattle.admit_core.specs.Lapses.{lapses_of}
use Rattle.admit_core.specs.Proposals.{proposed}
use Rattle.admit_core.specs.State.{State, free_beds, seats_left}
use Rattle.admit_core.specs.Validity.{IsValid}
use Rattle.admit_core.specs.WorkedRows.{cascade, cascade_orders, first_pass, greatest_bar, greatest_bar_day}
use Rattle.admit_core.specs.WorkedRows.{greatest_bar_evening, greatest_bar_orders, last_marks, marked, morning}
use Rattle.admit_core.specs.WorkedRows.{nothing_freed, old_offer, order, realistic, realistic_days, realistic_order}
use Rattle.admit_core.specs.WorkedRows.{rows, school, small_dossier, terms, the_fall, two_offers, two_orders}
use Rattle.admit_core.specs.declared.ranking.Bound.TheVariants.{Both, Free, Resident}
use Rattle.admit_core.specs.declared.ranking.CallOrder.{CallOrder}
use Rattle.admit_core.specs.declared.records.DayRecord.{DayRecord}
use Rattle.admit_core.specs.declared.records.Fall.{Fall}
use Rattle.admit_core.specs.declared.records.Lapse.{Lapse}
use Rattle.admit_core.specs.declared.records.PassEnd.{PassEnd}
use Rattle.admit_core.specs.declared.state.Change.{Change}
use Rattle.admit_core.specs.declared.state.Freed.{Freed}
use Rattle.admit_core.specs.declared.state.Stamp.{Stamp}
use Rattle.admit_core.specs.declared.state.Status.TheVariants.{Accepted, Lapsed, Offered, Waiting}
use Rattle.report.specs.DayText.{IsLapseOf, auto_line, dated_day_text, day_text, evening_text, fall_line, freed_line}
use Rattle.report.specs.DayText.{lapse_line, offer_line, pass_text}
use Rattle.report.specs.Ids.{numbers_text}
use Rattle.report.specs.WorkedTexts.{june, lapsing_day, realistic_evening}
use Rattle.report_laws.specs.Days.{IsDated, IsUndated}
use Rattle.report_laws.specs.Told.{HasNames, HasNumbers, HaveSameStatuses, IsNumberEach, IsSmall, IsToldAuto}
use Rattle.report_laws.specs.Told.{IsToldFall, IsToldFreed, IsToldPass, IsWishOf}
use Rattle.report_laws.specs.Whole.{AreToldOrders, IsDatedRunOf, IsRunOf, Run, dated_run_text, orders_text, run_text}

-- a dossier with a row of each kind
abbrev pub ValidDossiersHaveNamesWitness : Type 0
ValidDossiersHaveNamesWitness =
    let d : DossierRows = small_dossier in
    IsValid d × HasNames d

-- ---- the second of three falls at two schools
abbrev pub cascade_falls : List Fall
cascade_falls =
    falls_by (boarding cascade cascade_orders (9 ∷ 9 ∷ [])) (9 ∷ 9 ∷ []) (0 ∷ 1 ∷ 0 ∷ [])

abbrev pub FallsAreToldWitness : Type 0
FallsAreToldWitness =
    let d : DossierRows = cascade.dossier in
    let one : Fall = slice_index_or cascade_falls 1 the_fall in
    let other : Fall = record { school = 1; from = 9; to = 1; wishes = 2 ∷ 3 ∷ [] } in
    HasNames d
    × IsToldFall d one
    × IsToldFall d other
    × (fall_line d one ≡ fall_line d other)
    × (one ≡ other)

-- ---- the second of the offers under the last bars
abbrev pub OffersAreToldWitness : Type 0
OffersAreToldWitness =
    let d : DossierRows = cascade.dossier in
    let one : ℕ = slice_index (proposed cascade cascade_orders (1 ∷ 1 ∷ [])) 1 in
    let other : ℕ = 4 in
    HasNames d
    × IsWishOf d one
    × IsWishOf d other
    × (offer_line d one ≡ offer_line d other)
    × (one ≡ other)

-- ---- two offers to one candidate, of whom the automatic answerer keeps the better
abbrev pub two_changes : List Change
two_changes =
    changes (offered two_offers two_orders [] first_pass)
    (closing two_offers two_orders [] first_pass)

abbrev pub AutosAreToldWitness : Type 0
AutosAreToldWitness =
    let d : DossierRows = two_offers.dossier in
    let one : Change = slice_index_or two_changes 1 (record { wish = 0; status = Waiting }) in
    let other : Change = record { wish = 1; status = Accepted } in
    HasNames d
    × IsToldAuto d one
    × IsToldAuto d other
    × (auto_line d one ≡ auto_line d other)
    × (one ≡ other)

abbrev pub FreedIsToldWitness : Type 0
FreedIsToldWitness =
    let one : Freed = freed_after two_offers two_orders [] first_pass in
    let other : Freed = record { seats = 1; beds = 0 } in
    IsToldFreed one
    × IsToldFreed other
    × (freed_line one ≡ freed_line other)
    × (one ≡ other)

-- ---- an offer of two days before day 1
abbrev pub LapsesAreToldWitness : Type 0
LapsesAreToldWitness =
    let d : DossierRows = old_offer.dossier in
    let start : ℤ = june in
    let term : ℕ = 1 in
    let one : Lapse =
    slice_index_or (lapses_of (terms 1) 1 old_offer) 0 (record { wish = 1; offered = pos 0 }) in
    let other : Lapse = record { wish = 0; offered = negsuc 0 } in
    HasNames d
    × IsLapseOf d start term one
    × IsLapseOf d start term other
    × (lapse_line d start term one ≡ lapse_line d start term other)
    × (one ≡ other)

-- ---- a bar that falls once
abbrev pub rules_falls : List Fall
rules_falls = falls_by (boarding greatest_bar greatest_bar_orders (10 ∷ [])) (10 ∷ []) (0 ∷ [])

abbrev pub rules_bars : List ℕ
rules_bars = map (λ fall. fall.to) rules_falls

abbrev pub BarsAreToldWitness : Type 0
BarsAreToldWitness =
    let d : DossierRows = greatest_bar.dossier in
    let one : List ℕ = rules_bars in
    let other : List ℕ = 2 ∷ [] in
    HasNames d
    × IsNumberEach d.schools one
    × IsNumberEach d.schools other
    × (numbers_text (λ h. h.id) (codes "bar") d.schools one
    ≡ numbers_text (λ h. h.id) (codes "bar") d.schools other)
    × (one ≡ other)

-- ---- the pass of that fall, the day of the pass, and a second day without an offer
abbrev pub rules_pass : PassEnd
rules_pass =
    record {
      pass = record {
        bars = rules_bars;
        falls = rules_falls;
        offers = proposed greatest_bar greatest_bar_orders rules_bars;
      };
      autos =
          changes (offered greatest_bar greatest_bar_orders rules_bars first_pass)
          (closing greatest_bar greatest_bar_orders rules_bars first_pass);
      freed = freed_after greatest_bar greatest_bar_orders rules_bars first_pass;
    }

abbrev pub rules_day : DayRecord
rules_day =
    record {
      day = 1;
      passes = rules_pass ∷ [];
      left = map (seats_left greatest_bar_evening) (range_with_len 0 2);
      free = map (free_beds greatest_bar_evening) (range_with_len 0 1);
      lapsed = [];
    }

abbrev pub written_pass : PassEnd
written_pass =
    record {
      pass = record {
        bars = 2 ∷ [];
        falls = record { school = 0; from = 10; to = 2; wishes = 0 ∷ 2 ∷ [] } ∷ [];
        offers = 0 ∷ [];
      };
      autos = [];
      freed = nothing_freed;
    }

abbrev pub quiet_day : DayRecord
quiet_day =
    record greatest_bar_day {
      day = 2;
      passes =
          record {
            pass = record { bars = 10 ∷ []; falls = []; offers = [] };
            autos = [];
            freed = nothing_freed;
          } ∷ [];
    }

abbrev pub EveningsAreToldWitness : Type 0
EveningsAreToldWitness =
    let d : DossierRows = greatest_bar.dossier in
    let one : DayRecord = rules_day in
    let other : DayRecord = quiet_day in
    HasNames d
    × HasNumbers d one
    × HasNumbers d other
    × (evening_text d one ≡ evening_text d other)
    × (one.left ≡ other.left) × (one.free ≡ other.free)

abbrev pub PassesAreToldWitness : Type 0
PassesAreToldWitness =
    let d : DossierRows = greatest_bar.dossier in
    let number : ℕ = 1 in
    let further : ℕ = first_pass.pass in
    let one : PassEnd = rules_pass in
    let other : PassEnd = written_pass in
    HasNames d
    × IsSmall number
    × IsSmall further
    × IsToldPass d one
    × IsToldPass d other
    × (pass_text d (number, one) ≡ pass_text d (further, other))
    × (number ≡ further) × (one ≡ other)

abbrev pub DaysAreToldWitness : Type 0
DaysAreToldWitness =
    let d : DossierRows = greatest_bar.dossier in
    let days : List DayRecord = rules_day ∷ quiet_day ∷ [] in
    let others : List DayRecord = greatest_bar_day ∷ quiet_day ∷ [] in
    HasNames d
    × All (IsUndated d) days
    × All (IsUndated d) others
    × (flat_map (day_text d) days ≡ flat_map (day_text d) others)
    × (days ≡ others)

-- ---- a day on which that offer lapses
abbrev pub DatedDaysAreToldWitness : Type 0
DatedDaysAreToldWitness =
    let d : DossierRows = old_offer.dossier in
    let start : ℤ = june in
    let term : ℕ = 1 in
    let days : List DayRecord =
    record (lapsing_day 1 (pos 0)) { lapsed = lapses_of (terms 1) 1 old_offer } ∷ [] in
    let others : List DayRecord = lapsing_day 1 (negsuc 0) ∷ [] in
    HasNames d
    × All (IsDated d start term) days
    × All (IsDated d start term) others
    × (flat_map (λ x. dated_day_text d x start term) days
    ≡ flat_map (λ x. dated_day_text d x start term) others)
    × (days ≡ others)

-- ---- two days of a realistic dossier; of the second run's evening the stamps are others
abbrev pub OrdersAreToldWitness : Type 0
OrdersAreToldWitness =
    let d : DossierRows = realistic in
    let orders : List CallOrder = realistic_order ∷ [] in
    let others : List CallOrder =
    order (102 ∷ 101 ∷ 103 ∷ 104 ∷ []) (Both ∷ Free ∷ Resident ∷ Free ∷ []) ∷ [] in
    HasNames d
    × AreToldOrders d orders
    × AreToldOrders d others
    × (orders_text d.groups orders ≡ orders_text d.groups others)
    × (orders ≡ others)

abbrev pub realistic_run : Run
realistic_run =
    record {
      orders = realistic_order ∷ [];
      days = realistic_days;
      evening = realistic_evening;
    }

abbrev pub unstamped_run : Run
unstamped_run =
    record realistic_run {
      evening = record realistic_evening { marks = map (λ m. morning m.status) last_marks };
    }

abbrev pub RunsAreToldWitness : Type 0
RunsAreToldWitness =
    let d : DossierRows = realistic in
    let one : Run = realistic_run in
    let other : Run = unstamped_run in
    HasNames d
    × IsRunOf d one
    × IsRunOf d other
    × (run_text d one ≡ run_text d other)
    × (one.orders ≡ other.orders) × (one.days ≡ other.days)
    × HaveSameStatuses d one.evening other.evening

-- ---- the day of that lapse, and evenings whose stamps of closed wishes differ
abbrev pub lapsed_evening : Stamp → State
lapsed_evening stamp =
    record old_offer {
      marks = record { status = Lapsed; stamp = stamp } ∷ marked Offered 1 1 ∷ [];
    }

abbrev pub lapsed_run : Stamp → Run
lapsed_run stamp =
    record { orders = []; days = lapsing_day 1 (negsuc 0) ∷ []; evening = lapsed_evening stamp }

abbrev pub DatedRunsAreToldWitness : Type 0
DatedRunsAreToldWitness =
    let d : DossierRows = old_offer.dossier in
    let start : ℤ = june in
    let term : ℕ = 1 in
    let before : List ℤ = (terms 1).before in
    let one : Run = lapsed_run (record { day = 1; pass = 0 }) in
    let other : Run = lapsed_run first_pass in
    HasNames d
    × IsDatedRunOf d start term one
    × IsDatedRunOf d start term other
    × (dated_run_text d start term before one ≡ dated_run_text d start term before other)
    × (one.orders ≡ other.orders) × (one.days ≡ other.days)
    × HaveSameStatuses d one.evening other.evening

-- ---- where an id stands twice, two falls have one line
abbrev pub SharedIdsHideFalls : Type 0
SharedIdsHideFalls =
    let d : DossierRows = rows [] (school 5 1 9 ∷ school 5 1 9 ∷ []) [] [] in
    let one : Fall = record { school = 0; from = 9; to = 2; wishes = [] } in
    let other : Fall = record { school = 1; from = 9; to = 2; wishes = [] } in
    IsToldFall d one
    × IsToldFall d other
    × (fall_line d one ≡ fall_line d other)
    × (one ≡ other → ⊥)
