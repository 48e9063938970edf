-- The date of an open offer is read as its day.
use Rattle.std.proofs.Common.{ℕ, ◌<◌, ◌≡◌, Bool, true, false, List, [], ◌∷◌, length, map, Option, Some, None, refl, sym}
use Rattle.std.proofs.Common.{◌∙◌, ap, arith, get_or}
use Rattle.std.specs.Prelude.{ℤ, pos, ◌+ℤ◌, ◌-ℤ◌, zip, if◌then◌else◌}
use Rattle.std.specs.List.{range_with_len}
use Rattle.std.proofs.Math.ListN.{get_or-map as get_or-map_default}
use Rattle.std.proofs.lemmas.Int.{ints}
use Rattle.std.proofs.lemmas.List.{get_or-map, length-map}
use Rattle.std.proofs.lemmas.List.FromFn.{get_or-map-range_with_len, length-map-range_with_len}
use Rattle.std.proofs.lemmas.Option.{unwrap_or-slice_get}
use Rattle.std.proofs.lemmas.Simd.{map-map}
use Rattle.std.proofs.lemmas.Slice.Zip.{firsts-zip, get_or-zip, length-zip}
use Rattle.admit_core.specs.State.{State}
use Rattle.admit_core.specs.declared.state.Mark.{Mark}
use Rattle.admit_core.specs.declared.state.Status.{Status}
use Rattle.admit_core.specs.declared.state.Status.TheVariants.{Waiting}
use Rattle.admit_core.specs.declared.tables.Since.{Since}
use Rattle.admit_core.specs.Answers.{mark_at, status_at}
use Rattle.admit_core.specs.Days.{first_evening, first_mark}
use Rattle.admit_core.specs.Lapses.{is_offered, offer_day}
use Rattle.calendar.specs.Dates.{IsRead, date_of}
use Rattle.calendar.proofs.DateLaws.{civil-parts, date_of-date}
use Rattle.dossier_csv.specs.Columns.{since_of}
use Rattle.intake.specs.Dated.{day_before, offer_since, since_day}
use Rattle.report.specs.DayText.{date_on}
use Rattle.report.specs.FinalText.{offer_day_at}
use Rattle.cut_laws.specs.Cut.{cut_at}
use Rattle.cut_laws.proofs.Unstamped.{bare}
use Rattle.cut_laws.proofs.Cut.{standing}
use Rattle.cut_laws.proofs.CutRows.{statuses_taken_in}
use Rattle.cut_laws.proofs.Dated.{no_mark}
use Rattle.text_laws.specs.ReadBack.{since_when}
use Rattle.text_laws.specs.Witnesses.{small_evening}
use Rattle.text_laws.proofs.WorkedEvening.{small_dates}
use Rattle.morning_laws.specs.ReadOffers.{ReadOffersStandAlike, read_terms}
use Rattle.morning_laws.specs.Witnesses.{ReadOffersStandAlikeWitness}

-- the day of a date that is read
read_day : (start : ℤ) (n : ℤ) → IsRead n → since_day start (Some (since_of (date_of n))) ≡ n -ℤ start +ℤ pos 1
read_day start n read =
    let date = date_of-date n (read.0, grind (arith, ints, read.1)) in
    ap (day_before start) (civil-parts date read)

since_if : (b : Bool) (start n : ℤ) → b ≡ true → IsRead n
    → since_day start (if b then Some (since_of (date_of n)) else None) ≡ n -ℤ start +ℤ pos 1
since_if true start n is read = read_day start n read
since_if false start n is read = absurd (cc)

days_apart : (start o : ℤ) (a : ℕ) → o ≡ (start +ℤ o -ℤ pos 1) -ℤ (start +ℤ pos a) +ℤ pos 1 +ℤ pos a
days_apart start o a = omega (arith, ints)

offered_day : (start : ℤ) (status : Status) (since : Option Since) → is_offered status ≡ true
    → offer_since start (status, since) ≡ since_day start since
offered_day start status since offered = rw offered refl

-- the statuses that the next morning's dossier has, and the dates that are read beside them
module _ (s : State) (start : ℤ) (before : List ℤ) (long : length s.marks ≡ length s.dossier.wishes) where
  abbrev statuses : List Status
  statuses = map (λ (m : Mark). m.status) s.marks

  abbrev dates_read : List (Option Since)
  dates_read = map (since_when s start before) (range_with_len 0 (length s.dossier.wishes))

  statuses_long : length statuses ≡ length s.dossier.wishes
  statuses_long = length-map s.marks (λ (m : Mark). m.status) ∙ long

  dates_long : length dates_read ≡ length s.dossier.wishes
  dates_long = length-map-range_with_len (since_when s start before) 0 (length s.dossier.wishes)

  days_long : (next : ℤ) → length (map (offer_since next) (zip statuses dates_read)) ≡ length s.dossier.wishes
  days_long next =
      length-map (zip statuses dates_read) (offer_since next)
      ∙ sym (length-map (zip statuses dates_read) (λ (x : Status × Option Since). x.0))
      ∙ ap length (firsts-zip statuses dates_read (dates_long ∙ sym statuses_long))
      ∙ statuses_long

  day_read : (next : ℤ) (k : ℕ) → k < length s.dossier.wishes
      → get_or (map (offer_since next) (zip statuses dates_read)) k (pos 0)
      ≡ offer_since next ((get_or s.marks k no_mark).status, since_when s start before k)
  day_read next k lt =
      let in_statuses : k < length statuses = omega (arith, lt, statuses_long) in
      let in_dates : k < length dates_read = omega (arith, lt, dates_long) in
      let there : k < length (zip statuses dates_read) =
      omega (arith, in_statuses, in_dates, length-zip statuses dates_read) in
      get_or-map (offer_since next) (zip statuses dates_read) k (Waiting, None) (pos 0) there
      ∙ ap (offer_since next) (get_or-zip statuses dates_read k (Waiting, None) in_statuses in_dates
      ∙ (λ i. (
        get_or-map_default (λ (m : Mark). m.status) s.marks k no_mark i,
        get_or-map-range_with_len (since_when s start before) 0 (length s.dossier.wishes) k k None lt (omega arith) i,
      )))

pub read_offers_stand_alike : ReadOffersStandAlike
read_offers_stand_alike s start before a term long fit dates =
    let next = start +ℤ pos a in
    let cs = (read_terms s start before a term).before in
    standing a (Some (record { term = term; before = before })) (Some (read_terms s start before a term)) s
    (first_evening (cut_at a s)) (statuses_taken_in a s) (
      refl,
      record {
        marks = long;
        others = length-map (map (λ (m : Mark). m.status) s.marks) first_mark
            ∙ length-map s.marks (λ (m : Mark). m.status);
        terms = fit;
        other_terms = days_long s start before long next ∙ sym fit;
        each = λ k lt offered.
            let in_n : k < length s.dossier.wishes = omega (arith, lt, long) in
            let m : Mark = get_or s.marks k no_mark in
            let is_m : mark_at s k ≡ m = unwrap_or-slice_get s.marks k no_mark in
            let is_open : is_offered (status_at s k) ≡ true = ap (λ (x : Mark). is_offered x.status) is_m ∙ offered in
            let o = offer_day_at s before k in
            let here : offer_day (get_or before k (pos 0)) m ≡ o =
            ap (λ (x : Mark). offer_day (get_or before k (pos 0)) x) (sym is_m) in
            let read : get_or cs k (pos 0) ≡ date_on start o -ℤ next +ℤ pos 1 =
            day_read s start before long next k in_n
            ∙ offered_day next m.status (since_when s start before k) offered
            ∙ since_if (is_offered (status_at s k)) next (date_on start o) is_open (dates k in_n is_open) in
            let there : get_or (first_evening (cut_at a s)).marks k no_mark ≡ bare m =
            ap (λ (ms : List Mark). get_or ms k no_mark) (map-map first_mark (λ (y : Mark). y.status) s.marks)
            ∙ get_or-map_default bare s.marks k no_mark in
            here ∙ days_apart start o a ∙ ap (λ z. z +ℤ pos a) (sym read)
            ∙ ap (λ (x : Mark). offer_day (get_or cs k (pos 0)) x +ℤ pos a) (sym there);
      },
    )

pub read_offers_witness : ReadOffersStandAlikeWitness
read_offers_witness = (
  refl,
  refl,
  small_dates,
  read_offers_stand_alike small_evening (pos 19876) (pos 0 ∷ []) 2 3 refl refl small_dates,
)
