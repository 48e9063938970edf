-- The days and the evening of a job can be written.
use Rattle.std.proofs.Common.{◌≡◌, ◌∙◌, ℕ, ◌+◌, ◌<◌, ◌≤◌, List, [], ◌∷◌, Option, None, Some, Result, Ok, Err, All}
use Rattle.std.proofs.Common.{Bool, IfSome, arith, false, filter, get_or, inl, inr, length, map, refl, subst, sym, true}
use Rattle.std.specs.Prelude.{ℤ, pos, ◌≤ℤ◌, nat_lt, zip}
use Rattle.std.specs.List.{enumerate_from}
use Rattle.std.specs.Result.{ForOk}
use Rattle.std.proofs.lemmas.Bool.{cases_Bool, ltb-true}
use Rattle.std.proofs.lemmas.Int.{ints}
use Rattle.std.proofs.lemmas.List.Elements.{All-cons, All-filter, All-head, All-map, All-nil, All-same, All-tail}
use Rattle.std.proofs.lemmas.Option.{slice_get_cases}
use Rattle.admit_core.specs.Answers.{mark_at}
use Rattle.admit_core.specs.Days.{first_evening, first_mark, lapsed_on}
use Rattle.admit_core.specs.DossierRows.{DossierRows}
use Rattle.admit_core.specs.Lapses.{lapses, lapses_of, offer_day}
use Rattle.admit_core.specs.State.{State}
use Rattle.admit_core.specs.declared.records.DayRecord.{DayRecord}
use Rattle.admit_core.specs.declared.records.Lapse.{Lapse}
use Rattle.admit_core.specs.declared.records.PassEnd.{PassEnd}
use Rattle.admit_core.specs.declared.records.Terms.{Terms}
use Rattle.admit_core.specs.declared.refusal.Refusal.{Refusal}
use Rattle.admit_core.specs.declared.state.Mark.{Mark}
use Rattle.calendar.specs.Dates.{IsCivil, IsRead, last_day}
use Rattle.desk_day.specs.DayPlaces.{IsPassIn}
use Rattle.desk_day.specs.DeskStates.{DeskStates}
use Rattle.desk_day.specs.KeptDays.{kept_day, kept_end}
use Rattle.intake.specs.Dated.{AreDatedFor, terms_in}
use Rattle.intake.specs.declared.terms.DatedTerms.{DatedTerms}
use Rattle.played.specs.Lent.{Lent}
use Rattle.played.specs.PlayedDays.{DaysEndAfter, IsNext, IsPlayed, Lead, Plan, Played, lent_after}
use Rattle.report.specs.DayText.{IsFallOf, IsLapseOf, IsPassOf, date_on, last_date}
use Rattle.report.specs.FinalText.{HasDates}
use Rattle.request.specs.Request.{IsStart}
use Rattle.request.specs.declared.pickers.PickerChoice.{PickerChoice}
use Rattle.modes.specs.Replay.{CanBeDated, CanBeWritten}

-- a mark of a campaign: its day is one of the campaign, or 0
abbrev pub IsStamped : Mark → Type 0
IsStamped m = m.stamp.day ≤ 366

mark_stamped : (s : State) (place : ℕ) → All IsStamped s.marks → IsStamped (mark_at s place)
mark_stamped s place all =
    elim ((slice_get_cases s.marks place).1) [
      | inl found ↦ rw found.2 (subst IsStamped found.3 (all place found.0 found.1))
      | inr none ↦ rw none.1 (omega arith)
    ]

-- the date of an offer, and its deadline
record AreDates (start : ℤ) (term : ℕ) (day : ℤ) : Type 0 where
  offered : IsCivil (date_on start day)
  deadline : last_date start term day ≤ℤ last_day

stamp_dates : (start : ℤ) (term day : ℕ) → IsStart start → term ≤ 366 → 0 < day → day ≤ 366
    → AreDates start term (pos day)
stamp_dates start term day is short some within =
    let low = is.after_first in
    let high = is.is_read in
    record { offered = (omega (arith, ints), omega (arith, ints)); deadline = omega (arith, ints) }

before_dates : (start : ℤ) (term : ℕ) (day : ℤ) → term ≤ 366 → IsRead (date_on start day) → AreDates start term day
before_dates start term day short read =
    let low = read.0 in
    let high = read.1 in
    record { offered = (omega (arith, ints), omega (arith, ints)); deadline = omega (arith, ints) }

offer_dates : (start : ℤ) (term : ℕ) (before : ℤ) (m : Mark) → IsStart start → term ≤ 366
    → IsRead (date_on start before) → IsStamped m → AreDates start term (offer_day before m)
offer_dates start term before m is short read stamped =
    elim (cases_Bool (nat_lt 0 m.stamp.day)) [
      | inl later ↦ rw later (stamp_dates start term m.stamp.day is short (ltb-true 0 m.stamp.day later) stamped)
      | inr first ↦ rw first (before_dates start term before short read)
    ]

-- what stands beside the places of marks
record IsPair (n : ℕ) (start : ℤ) (x : ℕ × (ℤ × Mark)) : Type 0 where
  place : x.0 < n
  before : IsRead (date_on start x.1.0)
  stamped : IsStamped x.1.1

pairs : (n k : ℕ) (start : ℤ) (bs : List ℤ) (ms : List Mark) → k + length bs ≤ n
    → All (λ day. IsRead (date_on start day)) bs → All IsStamped ms
    → All (IsPair n start) (enumerate_from k (zip bs ms))
pairs n k start [] ms within read stamped = All-nil (IsPair n start)
pairs n k start (b ∷ bs) [] within read stamped = All-nil (IsPair n start)
pairs n k start (b ∷ bs) (m ∷ ms) within read stamped =
    let here : k < n = omega arith in
    let later : k + 1 + length bs ≤ n = omega arith in
    All-cons (IsPair n start) (k, (b, m)) _
    (record {
      place = here;
      before = All-head (λ day. IsRead (date_on start day)) b bs read;
      stamped = All-head IsStamped m ms stamped;
    })
    (pairs n (k + 1) start bs ms later (All-tail (λ day. IsRead (date_on start day)) b bs read)
    (All-tail IsStamped m ms stamped))

lapses_dated : (s : State) (dated : DatedTerms) (day : ℕ) → AreDatedFor s.dossier dated → All IsStamped s.marks
    → All (IsLapseOf s.dossier dated.start dated.terms.term) (lapses_of dated.terms day s)
lapses_dated s dated day is stamped =
    let n = length s.dossier.wishes in
    let each : 0 + length dated.terms.before ≤ n = omega (arith, is.one_each) in
    let chosen : List (ℕ × (ℤ × Mark)) =
    filter (λ x. lapses dated.terms.term day x.1.0 x.1.1) (enumerate_from 0 (zip dated.terms.before s.marks)) in
    let all : All (IsPair n dated.start) chosen =
    All-filter (λ (x : ℕ × (ℤ × Mark)). lapses dated.terms.term day x.1.0 x.1.1) (IsPair n dated.start) _
    (pairs n 0 dated.start dated.terms.before s.marks each is.before stamped) in
    All-map (IsLapseOf s.dossier dated.start dated.terms.term)
    (λ (x : ℕ × (ℤ × Mark)). record { wish = x.0; offered = offer_day x.1.0 x.1.1 }) chosen
    (λ k x lt.
    let p = all k x lt in
    let y = get_or chosen k x in
    let dates = offer_dates dated.start dated.terms.term y.1.0 y.1.1 is.start is.term p.before p.stamped in
    record { wish = p.place; offered = dates.offered; deadline = dates.deadline })

-- the lapses of a day
lapses_where : (s : State) (dated : Option DatedTerms) (day : ℕ) (lapsed : List Lapse)
    → IfSome dated (AreDatedFor s.dossier) → All IsStamped s.marks → lapsed ≡ lapsed_on (terms_in dated) day s
    → IfSome dated (λ x. All (IsLapseOf s.dossier x.start x.terms.term) lapsed)
lapses_where s None day lapsed is stamped same = tt
lapses_where s (Some dated) day lapsed is stamped same =
    All-same (IsLapseOf s.dossier dated.start dated.terms.term) lapsed (lapses_of dated.terms day s) same
    (lapses_dated s dated day is stamped)

-- the offers of a state
pub finals_dated : (s : State) (dated : Option DatedTerms) → IfSome dated (AreDatedFor s.dossier)
    → All IsStamped s.marks → IfSome dated (λ x. HasDates s x.start x.terms.before)
finals_dated s None is stamped = tt
finals_dated s (Some dated) is stamped =
    let low = is.start.after_first in
    let high = is.start.is_read in
    record {
      start_date = (omega (arith, ints), omega (arith, ints));
      one_before_each = is.one_each;
      offers = λ place lt offered.
          let within : place < length dated.terms.before = omega (arith, is.one_each) in
          (offer_dates dated.start dated.terms.term (get_or dated.terms.before place (pos 0)) (mark_at s place)
          is.start is.term (is.before place (pos 0) within) (mark_stamped s place stamped)).offered;
    }

-- the passes of a day give places of the dossier
falls_of : (d : DossierRows) (end : PassEnd) → IsPassIn d end → IsPassOf d end
falls_of d end is = record {
  falls = λ k x lt. let fall = is.falls k x lt in record { school = fall.school; wishes = fall.wishes };
  offers = is.offers;
  autos = is.autos;
}

-- what is known of a campaign before a day of it
pub record IsBefore (d : DossierRows) (dated : Option DatedTerms) (evening : State) : Type 0 where
  pub dossier : evening.dossier ≡ d
  pub stamped : All IsStamped evening.marks

-- a day that came about can be written, and leaves what is known
day_written : (plan : Plan) (d : DossierRows) (dated : Option DatedTerms) (k : ℕ) (old : DeskStates) (before : Lent)
    (day : DayRecord) (new : DeskStates) → plan.terms ≡ terms_in dated
    → IfSome dated (AreDatedFor d) → k ≤ 366 → IsBefore d dated old.present → IsNext plan k old before day new
    → CanBeWritten d dated day × IsBefore d dated new.present
day_written plan d dated k old before day new terms is few known next = (
  record {
    passes = λ n x lt.
        falls_of d _ (subst (λ (e : DossierRows). IsPassIn e (get_or day.passes n x)) known.dossier
        (next.done.follows.places.passes n x lt));
    lapses =
        subst (λ (e : DossierRows). IfSome dated (λ x. All (IsLapseOf e x.start x.terms.term) day.lapsed)) known.dossier
        (lapses_where old.present dated day.day day.lapsed
        (subst (λ (e : DossierRows). IfSome dated (AreDatedFor e)) (sym known.dossier) is) known.stamped
        (subst (λ t. day.lapsed ≡ lapsed_on t day.day old.present) terms next.done.rule.is_day.lapsed));
  },
  record { dossier = next.dossier ∙ known.dossier; stamped = next.done.follows.stamps 366 few known.stamped },
)

days_written : (plan : Plan) (d : DossierRows) (dated : Option DatedTerms) (k : ℕ) (old : DeskStates) (before : Lent)
    (days : List DayRecord) (new : DeskStates) → plan.terms ≡ terms_in dated
    → IfSome dated (AreDatedFor d) → k + length days ≤ 367 → IsBefore d dated old.present
    → Lead plan k old before days new → All (CanBeWritten d dated) days × IsBefore d dated new.present
days_written plan d dated k old before [] new terms is few known lead =
    (All-nil (CanBeWritten d dated), subst (λ (desk : DeskStates). IsBefore d dated desk.present) lead known)
days_written plan d dated k old before (day ∷ days) new terms is few known lead =
    let first = day_written plan d dated k old before day lead.0 terms is (omega arith) known lead.1 in
    let later =
    days_written plan d dated (k + 1) lead.0 (lent_after plan.who day before) days new terms is (omega arith)
    first.1 lead.2 in
    (All-cons (CanBeWritten d dated) day days first.0 later.0, later.1)

pub first_known : (d : DossierRows) (dated : Option DatedTerms) → IsBefore d dated (first_evening d)
first_known d dated =
    record { dossier = refl; stamped = All-map IsStamped first_mark d.statuses (λ k x lt. omega arith) }

within_year : (terms : Option Terms) (number : ℕ) (days : List DayRecord) (last : DeskStates)
    (end : Result DeskStates Refusal) → DaysEndAfter terms number days last end → number ≤ 366 → 1 + length days ≤ 367
within_year terms number days last (Ok desk) ends few = omega (arith, ends.0)
within_year terms number days last (Err refusal) ends few = omega (arith, ends.fewer)

evening_written : (d : DossierRows) (dated : Option DatedTerms) (terms : Option Terms) (number : ℕ)
    (days : List DayRecord) (last : DeskStates) (end : Result DeskStates Refusal)
    → DaysEndAfter terms number days last end
    → IfSome dated (AreDatedFor d) → IsBefore d dated last.present → ForOk end (λ desk. CanBeDated dated desk.present)
evening_written d dated terms number days last (Ok desk) ends is known =
    let at : CanBeDated dated last.present =
    finals_dated last.present dated (subst (λ (e : DossierRows). IfSome dated (AreDatedFor e)) (sym known.dossier) is)
    known.stamped in
    λ x same.
    let here : desk ≡ x = cc in
    subst (λ (y : DeskStates). CanBeDated dated y.present) (sym ends.1 ∙ here) at
evening_written d dated terms number days last (Err refusal) ends is known = λ x same. cc

-- the days that were played, and the evening after them
pub played_written : (d : DossierRows) (dated : Option DatedTerms) (number : ℕ) (who : PickerChoice) (before : Lent)
    (played : Played) (after : Lent) → number ≤ 366 → IfSome dated (AreDatedFor d)
    → IsPlayed d (terms_in dated) number who before played after
    → All (CanBeWritten d dated) played.days × ForOk played.end (λ desk. CanBeDated dated desk.present)
played_written d dated number who before played after few is plays =
    let within : 1 + length played.days ≤ 367 =
    within_year (terms_in dated) number played.days plays.last played.end plays.ends few in
    let all =
    days_written _ d dated 1 _ before played.days plays.last refl is within (first_known d dated) plays.days in
    (all.0, evening_written d dated (terms_in dated) number played.days plays.last played.end plays.ends is all.1)

-- and so can what is kept of days, where falls may be left out
falls_kept : (keeps : Bool) (d : DossierRows) (end : PassEnd) → All (IsFallOf d) end.pass.falls
    → All (IsFallOf d) (kept_end keeps end).pass.falls
falls_kept true d end are = are
falls_kept false d end are = All-nil (IsFallOf d)

pass_kept : (keeps : Bool) (d : DossierRows) (end : PassEnd) → IsPassOf d end → IsPassOf d (kept_end keeps end)
pass_kept keeps d end is =
    record { falls = falls_kept keeps d end is.falls; offers = is.offers; autos = is.autos }

day_kept : (keeps : Bool) (d : DossierRows) (dated : Option DatedTerms) (day : DayRecord)
    → CanBeWritten d dated day → CanBeWritten d dated (kept_day keeps day)
day_kept keeps d dated day can = record {
  passes = All-map (IsPassOf d) (kept_end keeps) day.passes
      (λ k x lt. pass_kept keeps d (get_or day.passes k x) (can.passes k x lt));
  lapses = can.lapses;
}

pub kept_written : (keeps : Bool) (d : DossierRows) (dated : Option DatedTerms) (days : List DayRecord)
    → All (CanBeWritten d dated) days → All (CanBeWritten d dated) (map (kept_day keeps) days)
kept_written keeps d dated days can =
    All-map (CanBeWritten d dated) (kept_day keeps) days
    (λ k x lt. day_kept keeps d dated (get_or days k x) (can k x lt))
