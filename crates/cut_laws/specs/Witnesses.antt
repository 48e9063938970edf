-- For each law a worked case that meets all its premises, with what it concludes there: the law's
-- text, with a value for each variable and a product for each arrow.
use Rattle.std.specs.Prelude.{◌≡◌, ◌<◌, ◌+◌, ◌-◌, ℕ, List, [], ◌∷◌, None, Option, Some, length}
use Rattle.admit_core.specs.declared.ranking.CallOrder.{CallOrder}
use Rattle.admit_core.specs.declared.records.DayRecord.{DayRecord}
use Rattle.admit_core.specs.declared.records.Terms.{Terms}
use Rattle.admit_core.specs.Days.{Days, IsDay, answers_of, first_evening}
use Rattle.admit_core.specs.Lapses.{AreTermsFor}
use Rattle.admit_core.specs.OwnWishes.{IsOneAccepted}
use Rattle.admit_core.specs.State.{State}
use Rattle.admit_core.specs.Validity.{IsValid}
use Rattle.cut_laws.specs.Alike.{HaveEqualStatuses, undated}
use Rattle.cut_laws.specs.Cut.{AreTheRest, FollowAlike, GoesOnAlike, HasAlike, IsGivenAlike, StandAlike, cut_at}
use Rattle.cut_laws.specs.Cut.{earlier, terms_at}
use Rattle.cut_laws.specs.StampsDecideNothing.{LeadsAlike}
use Rattle.cut_laws.specs.WorkedCampaign.{call_orders, cut_days, cut_night, first_night, one_day_more, other_morning}
use Rattle.cut_laws.specs.WorkedCampaign.{other_night, second_day, second_night, small_night, third_day, third_night}

-- ---- day 2 is the same from other stamps, as day 7
abbrev pub StampsDecideNothingWitness : Type 0
StampsDecideNothingWitness =
    let orders : List CallOrder = call_orders in
    let ceilings : List ℕ = 0 ∷ [] in
    let s : State = first_night in
    let t : State = other_night in
    let day : DayRecord = second_day in
    let number : ℕ = 7 in
    let evening : State = second_night in
    HaveEqualStatuses s t
    × (undated (answers_of s.dossier day.day) ≡ undated (answers_of t.dossier number))
    × IsDay None orders ceilings s day evening
    × LeadsAlike orders ceilings t day number evening

-- ---- day 3, on which an offer lapses, is day 1 after the evening of day 2
abbrev pub OpenOffersDecideWitness : Type 0
OpenOffersDecideWitness =
    let a : ℕ = 2 in
    let terms : Option Terms = Some one_day_more in
    let others : Option Terms = terms_at 2 (Some one_day_more) second_night in
    let orders : List CallOrder = call_orders in
    let ceilings : List ℕ = 9 ∷ [] in
    let s : State = second_night in
    let t : State = first_evening (cut_at 2 second_night) in
    let day : DayRecord = third_day in
    let evening : State = third_night in
    HaveEqualStatuses s t
    × StandAlike a terms s others t
    × (length s.marks ≡ length s.dossier.wishes)
    × AreTermsFor s.dossier terms
    × AreTermsFor t.dossier others
    × (a < day.day)
    × (undated (answers_of s.dossier day.day) ≡ undated (answers_of t.dossier (day.day - a)))
    × IsDay terms orders ceilings s day evening
    × HasAlike a terms others evening (IsDay others orders ceilings t (earlier a day))

-- ---- days 2 and 3 are days 1 and 2 of the campaign that is cut in the evening of day 1
abbrev pub CampaignsMayBeCutWitness : Type 0
CampaignsMayBeCutWitness =
    let terms : Option Terms = Some one_day_more in
    let orders : List CallOrder = call_orders in
    let a : ℕ = 1 in
    let evening : State = first_night in
    let days : List DayRecord = second_day ∷ third_day ∷ [] in
    let last : State = third_night in
    AreTermsFor evening.dossier terms
    × (length evening.marks ≡ length evening.dossier.wishes)
    × Days terms orders (a + 1) evening days last
    × GoesOnAlike terms orders a evening days last

-- ---- and days 1 and 2 of that campaign are days 2 and 3
abbrev pub CutDaysAreTheRestWitness : Type 0
CutDaysAreTheRestWitness =
    let terms : Option Terms = Some one_day_more in
    let orders : List CallOrder = call_orders in
    let a : ℕ = 1 in
    let evening : State = first_night in
    let days : List DayRecord = cut_days in
    let other : State = cut_night in
    AreTermsFor evening.dossier terms
    × (length evening.marks ≡ length evening.dossier.wishes)
    × Days (terms_at a terms evening) orders 1 (first_evening (cut_at a evening)) days other
    × AreTheRest terms orders a evening days other

-- ---- day 3 is day 1 of a dossier in which its ceiling is a change
abbrev pub AlikeStatesGoOnAlikeWitness : Type 0
AlikeStatesGoOnAlikeWitness =
    let a : ℕ = 2 in
    let terms : Option Terms = Some one_day_more in
    let others : Option Terms = terms_at 2 (Some one_day_more) second_night in
    let orders : List CallOrder = call_orders in
    let s : State = second_night in
    let t : State = first_evening other_morning in
    let days : List DayRecord = third_day ∷ [] in
    let last : State = third_night in
    HaveEqualStatuses s t
    × StandAlike a terms s others t
    × (length s.marks ≡ length s.dossier.wishes)
    × AreTermsFor s.dossier terms
    × AreTermsFor t.dossier others
    × IsGivenAlike a s.dossier t.dossier
    × Days terms orders (a + 1) s days last
    × FollowAlike a terms others orders t days last

-- ---- the small dossier in the evening of day 1: its ceiling of that day is the school's, and the
-- answer is dropped
abbrev pub CutsAreValidWitness : Type 0
CutsAreValidWitness =
    let a : ℕ = 1 in
    let evening : State = small_night in
    IsValid evening.dossier
    × (length evening.marks ≡ length evening.dossier.wishes)
    × IsOneAccepted evening
    × IsValid (cut_at a evening)
