-- With more beds in a school whose bar never fell, or as many as were ever held, the days are the same.
use Rattle.std.proofs.Common.{ℕ, ◌+◌, ◌-◌, ◌≤◌, ◌≡◌, List, [], ◌∷◌, length, map, Option, refl, sym, ◌∙◌, ap, subst}
use Rattle.std.specs.Prelude.{⊤, All, slice_index}
use Rattle.std.specs.List.{AllByRecursion, enumerate_from, range_with_len}
use Rattle.std.proofs.lemmas.List.{length-map}
use Rattle.std.proofs.lemmas.List.Elements.{recursion_from_All}
use Rattle.std.proofs.lemmas.List.FromFn.{length-enumerate_from}
use Rattle.admit_core.specs.declared.dossier.School.{School}
use Rattle.admit_core.specs.declared.ranking.CallOrder.{CallOrder}
use Rattle.admit_core.specs.declared.records.DayRecord.{DayRecord}
use Rattle.admit_core.specs.declared.records.PassEnd.{PassEnd}
use Rattle.admit_core.specs.declared.records.Terms.{Terms}
use Rattle.admit_core.specs.declared.state.Stamp.{Stamp}
use Rattle.admit_core.specs.Days.{Days, IsDay, Passes, after_lapse, answers_of, ceiling_on, ceilings_of, closing}
use Rattle.admit_core.specs.Days.{morning}
use Rattle.admit_core.specs.DossierRows.{DossierRows, beds_of}
use Rattle.admit_core.specs.LeastBeds.{rebuilt, with_beds}
use Rattle.admit_core.specs.Proposals.{demanded_ranks}
use Rattle.admit_core.specs.State.{State, bed_holders, free_beds}
use Rattle.admit_core.specs.Validity.{IsValid}
use Rattle.campaign_laws.specs.Moments.{after_each, after_passes, day_moments, evening_of, moments}
use Rattle.campaign_laws.proofs.Walks.{all_split, evening_dossier, evening_is, morning_of}
use Rattle.campaign_bars.specs.HeldBeds.{NoMoreThan}
use Rattle.campaign_bars.specs.MoreBeds.{HasSameDays, StandsAtCeiling}
use Rattle.campaign_bars.proofs.RoomyPass.{ceilings_with, fits_with, lapsed_with, morning_with, pass_with}
use Rattle.campaign_bars.proofs.RoomyPass.{roomy_by_few, roomy_by_more}

-- ---- whole days
-- in each of these passes those who come find a bed
abbrev FindBeds : List CallOrder → ℕ → ℕ → ℕ → ℕ → State → List PassEnd → Type 0
FindBeds orders h n day k s [] = ⊤
FindBeds orders h n day k s (pass ∷ rest) =
    (length (demanded_ranks s orders pass.pass.bars h) ≤ n - length (bed_holders s h))
    × FindBeds orders h n day (k + 1) (closing s orders pass.pass.bars (record { day = day; pass = k })) rest

abbrev StandIn : List ℕ → ℕ → List PassEnd → Type 0
StandIn ceilings h passes =
    AllByRecursion (λ (pass : PassEnd). slice_index pass.pass.bars h ≡ slice_index ceilings h) passes

passes_with : (orders : List CallOrder) (ceilings : List ℕ) (day k : ℕ) (s : State) (passes : List PassEnd)
    (evening : State) (h n : ℕ) → length ceilings ≡ length s.dossier.schools → StandIn ceilings h passes
    → FindBeds orders h n day k s passes → Passes orders ceilings day k s passes evening
    → Passes orders ceilings day k (with_beds s h n) passes (with_beds evening h n)
passes_with orders ceilings day k s [] evening h n long stands find are = absurd are
passes_with orders ceilings day k s (pass ∷ []) evening h n long stands find are = (
  pass_with s orders ceilings h n long (record { day = day; pass = k }) pass stands.0 find.0 are.0,
  are.1,
  ap (λ (e : State). with_beds e h n) are.2,
)
passes_with orders ceilings day k s (pass ∷ (next ∷ rest)) evening h n long stands find are = (
  pass_with s orders ceilings h n long (record { day = day; pass = k }) pass stands.0 find.0 are.0,
  are.1,
  passes_with orders ceilings day (k + 1) (closing s orders pass.pass.bars (record { day = day; pass = k }))
      (next ∷ rest) evening h n long stands.1 find.1 are.2,
)

find_by_more : (orders : List CallOrder) (ceilings : List ℕ) (day k : ℕ) (s : State) (passes : List PassEnd)
    (evening : State) (h n : ℕ) → length ceilings ≡ length s.dossier.schools → beds_of s.dossier h ≤ n
    → StandIn ceilings h passes → Passes orders ceilings day k s passes evening
    → FindBeds orders h n day k s passes
find_by_more orders ceilings day k s [] evening h n long enough stands are = tt
find_by_more orders ceilings day k s (pass ∷ []) evening h n long enough stands are =
    (roomy_by_more s orders ceilings pass.pass.bars h n long enough are.0.pass.greatest stands.0, tt)
find_by_more orders ceilings day k s (pass ∷ (next ∷ rest)) evening h n long enough stands are = (
  roomy_by_more s orders ceilings pass.pass.bars h n long enough are.0.pass.greatest stands.0,
  find_by_more orders ceilings day (k + 1) (closing s orders pass.pass.bars (record { day = day; pass = k }))
      (next ∷ rest) evening h n long enough stands.1 are.2,
)

find_by_few : (orders : List CallOrder) (day k : ℕ) (s : State) (passes : List PassEnd) (h n : ℕ) → IsValid s.dossier
    → AllByRecursion (NoMoreThan h n) (after_passes orders day k s passes) → FindBeds orders h n day k s passes
find_by_few orders day k s [] h n valid few = tt
find_by_few orders day k s (pass ∷ passes) h n valid few =
    let stamp : Stamp = record { day = day; pass = k } in (
      roomy_by_few s orders pass.pass.bars stamp h n valid few.0,
      find_by_few orders day (k + 1) (closing s orders pass.pass.bars stamp) passes h n valid few.1.1,
    )

-- the record of a day in which the school has n beds
abbrev with_free : State → ℕ → ℕ → DayRecord → DayRecord
with_free evening h n day =
    record day {
      free = map (free_beds (with_beds evening h n)) (range_with_len 0 (length (rebuilt evening.dossier h n).schools));
    }

-- a day on which those who come find a bed
record IsRoomyDay (terms : Option Terms) (orders : List CallOrder) (number h n : ℕ) (old : State)
    (day : DayRecord) : Type 0 where
  stand : StandIn (ceilings_of old.dossier number) h day.passes
  find : FindBeds orders h n day.day 1 (morning terms day.day old) day.passes

schools_at : (terms : Option Terms) (old : State) (day number : ℕ)
    → length (ceilings_of old.dossier number) ≡ length (morning terms day old).dossier.schools
schools_at terms old day number =
    length-map (enumerate_from 0 old.dossier.schools) (λ (x : ℕ × School). ceiling_on old.dossier number x.0 x.1)
    ∙ length-enumerate_from 0 old.dossier.schools
    ∙ ap (λ (x : DossierRows). length x.schools) (sym (morning_of old.dossier terms day old refl))

day_with : (terms : Option Terms) (orders : List CallOrder) (number : ℕ) (old : State) (day : DayRecord)
    (evening : State) (h n : ℕ) → IsRoomyDay terms orders number h n old day
    → IsDay terms orders (ceilings_of old.dossier number) old day evening
    → IsDay terms orders (ceilings_of (rebuilt old.dossier h n) number) (with_beds old h n)
    (with_free evening h n day) (with_beds evening h n)
day_with terms orders number old day evening h n roomy is =
    let d = old.dossier in
    let ceilings = ceilings_of d number in
    let dawn = morning terms day.day old in
    let passes = passes_with orders ceilings day.day 1 dawn day.passes evening h n
    (schools_at terms old day.day number) roomy.stand roomy.find is.passes in
    record {
      lapsed = is.lapsed ∙ sym (lapsed_with terms day.day old h n);
      fits = fits_with terms day.day old h n is.fits;
      passes = subst (λ (s : State). Passes orders (ceilings_of (rebuilt d h n) number) day.day 1 s day.passes
          (with_beds evening h n)) (sym (morning_with terms day.day old h n))
          (subst (λ (cs : List ℕ). Passes orders cs day.day 1 (with_beds dawn h n) day.passes (with_beds evening h n))
          (sym (ceilings_with d number h n)) passes);
      left = is.left;
      free = refl;
    }

-- a campaign of such days
abbrev AreRoomy : Option Terms → List CallOrder → ℕ → ℕ → ℕ → State → List DayRecord → Type 0
AreRoomy terms orders number h n old [] = ⊤
AreRoomy terms orders number h n old (day ∷ days) =
    IsRoomyDay terms orders number h n old day
    × AreRoomy terms orders (number + 1) h n (evening_of terms orders old day) days

days_with : (terms : Option Terms) (orders : List CallOrder) (number : ℕ) (old : State)
    (days : List DayRecord) (new : State) (h n : ℕ) → Days terms orders number old days new
    → AreRoomy terms orders number h n old days
    → HasSameDays terms orders number (with_beds old h n) days (with_beds new h n)
days_with terms orders number old [] new h n are roomy =
    record { others = []; same = tt; are_days = ap (λ (s : State). with_beds s h n) are }
days_with terms orders number old (day ∷ days) new h n are roomy =
    let (evening, is_number, is_day, rest) = are in
    let left : evening ≡ evening_of terms orders old day =
    evening_is orders (ceilings_of old.dossier number) day.day 1 (morning terms day.day old) day.passes evening
    is_day.passes in
    let first = day_with terms orders number old day evening h n roomy.0 is_day in
    let later = days_with terms orders (number + 1) evening days new h n rest
    (subst (λ (s : State). AreRoomy terms orders (number + 1) h n s days) (sym left) roomy.1) in
    record {
      others = with_free evening h n day ∷ later.others;
      same = (refl, later.same);
      are_days = (with_beds evening h n, is_number, first, later.are_days);
    }

-- ---- more beds, and as many as were ever held
stand_on : (d x : DossierRows) (number h : ℕ) (day : DayRecord) → x ≡ d → day.day ≡ number → StandsAtCeiling d h day
    → StandIn (ceilings_of x number) h day.passes
stand_on d x number h day of is_number stands =
    rw (of, ← is_number) (recursion_from_All
    (λ (pass : PassEnd). slice_index pass.pass.bars h ≡ slice_index (ceilings_of d day.day) h) day.passes stands)

evening_of_it : (d : DossierRows) (terms : Option Terms) (orders : List CallOrder) (old : State) (day : DayRecord)
    → old.dossier ≡ d → (evening_of terms orders old day).dossier ≡ d
evening_of_it d terms orders old day of =
    evening_dossier orders day.day 1 (morning terms day.day old) day.passes ∙ morning_of d terms day.day old of

roomy_with_more : (terms : Option Terms) (orders : List CallOrder) (d : DossierRows) (number : ℕ) (old : State)
    (days : List DayRecord) (new : State) (h n : ℕ) → old.dossier ≡ d → Days terms orders number old days new
    → AllByRecursion (StandsAtCeiling d h) days → beds_of d h ≤ n → AreRoomy terms orders number h n old days
roomy_with_more terms orders d number old [] new h n of are stands enough = tt
roomy_with_more terms orders d number old (day ∷ days) new h n of are stands enough =
    let (evening, is_number, is_day, rest) = are in
    let ceilings = ceilings_of old.dossier number in
    let dawn = morning terms day.day old in
    let left = evening_is orders ceilings day.day 1 dawn day.passes evening is_day.passes in
    let stand = stand_on d old.dossier number h day of is_number stands.0 in
    let few : beds_of dawn.dossier h ≤ n = rw (morning_of d terms day.day old of) enough in (
      record {
        stand = stand;
        find = find_by_more orders ceilings day.day 1 dawn day.passes evening h n
            (schools_at terms old day.day number) few stand is_day.passes;
      },
      roomy_with_more terms orders d (number + 1) (evening_of terms orders old day) days new h n
          (evening_of_it d terms orders old day of)
          (subst (λ (s : State). Days terms orders (number + 1) s days new) left rest) stands.1 enough,
    )

roomy_with_few : (terms : Option Terms) (orders : List CallOrder) (d : DossierRows) (number : ℕ) (old : State)
    (days : List DayRecord) (new : State) (h n : ℕ) → IsValid d → old.dossier ≡ d
    → Days terms orders number old days new → AllByRecursion (StandsAtCeiling d h) days
    → AllByRecursion (NoMoreThan h n) (moments terms orders old days) → AreRoomy terms orders number h n old days
roomy_with_few terms orders d number old [] new h n valid of are stands few = tt
roomy_with_few terms orders d number old (day ∷ days) new h n valid of are stands few =
    let (evening, is_number, is_day, rest) = are in
    let dawn = morning terms day.day old in
    let stamp : Stamp = record { day = day.day; pass = 0 } in
    let lapsed = after_lapse terms day.day old in
    let left = evening_is orders (ceilings_of old.dossier number) day.day 1 dawn day.passes evening is_day.passes in
    let whole = all_split (NoMoreThan h n) (day_moments terms orders old day)
    (moments terms orders (evening_of terms orders old day) days) few in
    let parts = all_split (NoMoreThan h n) (after_each lapsed stamp (answers_of old.dossier day.day))
    (after_passes orders day.day 1 dawn day.passes) whole.0.1 in (
      record {
        stand = stand_on d old.dossier number h day of is_number stands.0;
        find = find_by_few orders day.day 1 dawn day.passes h n
            (subst IsValid (sym (morning_of d terms day.day old of)) valid) parts.1;
      },
      roomy_with_few terms orders d (number + 1) (evening_of terms orders old day) days new h n valid
          (evening_of_it d terms orders old day of)
          (subst (λ (s : State). Days terms orders (number + 1) s days new) left rest) stands.1 whole.1,
    )

pub more_beds_change_nothing : (terms : Option Terms) (orders : List CallOrder) (d : ℕ) (old : State)
    (days : List DayRecord) (new : State) (h n : ℕ) → Days terms orders d old days new
    → All (StandsAtCeiling old.dossier h) days → beds_of old.dossier h ≤ n
    → HasSameDays terms orders d (with_beds old h n) days (with_beds new h n)
more_beds_change_nothing terms orders d old days new h n are stands enough =
    days_with terms orders d old days new h n are
    (roomy_with_more terms orders old.dossier d old days new h n refl are
    (recursion_from_All (StandsAtCeiling old.dossier h) days stands) enough)

pub beds_ever_held_would_do : (terms : Option Terms) (orders : List CallOrder) (d : ℕ) (old : State)
    (days : List DayRecord) (new : State) (h n : ℕ) → IsValid old.dossier → Days terms orders d old days new
    → All (StandsAtCeiling old.dossier h) days → All (NoMoreThan h n) (moments terms orders old days)
    → HasSameDays terms orders d (with_beds old h n) days (with_beds new h n)
beds_ever_held_would_do terms orders d old days new h n valid are stands few =
    days_with terms orders d old days new h n are
    (roomy_with_few terms orders old.dossier d old days new h n valid refl are
    (recursion_from_All (StandsAtCeiling old.dossier h) days stands)
    (recursion_from_All (NoMoreThan h n) (moments terms orders old days) few))
