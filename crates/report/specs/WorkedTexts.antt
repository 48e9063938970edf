-- Texts of small cases.
use Rattle.std.specs.Prelude.{◌≡◌, ℕ, ℤ, pos, negsuc, List, [], ◌∷◌, ◌++◌, codes, flat_map}
use Rattle.admit_core.specs.DossierRows.{DossierRows}
use Rattle.admit_core.specs.State.{State}
use Rattle.admit_core.specs.WorkedRows.{better_waits, boarder, cascade, last_marks, limit_state, marked, nothing_freed}
use Rattle.admit_core.specs.WorkedRows.{old_offer, order, programme, realistic, realistic_days, rows, school, terms}
use Rattle.admit_core.specs.WorkedRows.{two_offers, wish}
use Rattle.admit_core.specs.declared.explanation.BarCause.TheVariants.{Ceiling, Full}
use Rattle.admit_core.specs.declared.explanation.Explanation.TheVariants.{Barred, Gone, Live, NoSeat}
use Rattle.admit_core.specs.declared.ranking.Bound.TheVariants.{Alone, Both, Free, Resident, Scholar}
use Rattle.admit_core.specs.declared.records.DayRecord.{DayRecord}
use Rattle.admit_core.specs.declared.records.Fall.{Fall}
use Rattle.admit_core.specs.declared.refusal.Reason.{Reason}
use Rattle.admit_core.specs.declared.refusal.Reason.TheVariants.{DayFalls, FieldCount, Header, NoBoardingRank, NotDate}
use Rattle.admit_core.specs.declared.refusal.Reason.TheVariants.{NotFlag, NotNumber, NotWord, OutOfRange}
use Rattle.admit_core.specs.declared.refusal.Reason.TheVariants.{PreferenceMixed, PreferenceTaken, RankTaken, Repeat}
use Rattle.admit_core.specs.declared.refusal.Reason.TheVariants.{TooLarge, TooManyRows, TwoAccepted, UnfitAnswer}
use Rattle.admit_core.specs.declared.refusal.Reason.TheVariants.{Unknown, Unranked}
use Rattle.admit_core.specs.declared.slot.Slot.{Slot}
use Rattle.admit_core.specs.declared.slot.Slot.TheVariants.{Answers, Groups, Programmes, Rankings, State as StateSlot}
use Rattle.admit_core.specs.declared.slot.Slot.TheVariants.{Wishes}
use Rattle.admit_core.specs.declared.state.Stamp.{Stamp}
use Rattle.admit_core.specs.declared.state.Status.TheVariants.{Accepted, AutoRefused, AutoWithdrawn, Lapsed, Offered}
use Rattle.admit_core.specs.declared.state.Status.TheVariants.{Refused, Waiting}
use Rattle.report.specs.DayText.{dated_day_text, day_text}
use Rattle.report.specs.ExplainText.{explain_text}
use Rattle.report.specs.FinalText.{final_dated_text, final_text}
use Rattle.report.specs.OrderText.{order_text}
use Rattle.report.specs.RefusalText.{refusal_line}
use Rattle.report.specs.SampleText.{day_summary, sample_text, state_summary}

-- a group without candidates, and one letter of each kind
abbrev pub OrderTexts : Type 0
OrderTexts =
    (order_text 1 (order [] []) ≡ codes "order 1:\nrule 1:\n")
    × (order_text 1 (order (15 ∷ 11 ∷ 12 ∷ []) (Scholar ∷ Free ∷ Free ∷ []))
    ≡ codes "order 1: 15 11 12\nrule 1: s - -\n")
    × (order_text 27 (order (4 ∷ 2 ∷ 3 ∷ 1 ∷ []) (Both ∷ Alone ∷ Resident ∷ Free ∷ []))
    ≡ codes "order 27: 4 2 3 1\nrule 27: b x r -\n")

-- two days: automatic answers, a second pass, a fall, and what is left
abbrev pub RealisticDays : Type 0
RealisticDays =
    flat_map (day_text realistic) realistic_days
    ≡ codes "day 1\npass 1\nbar 5 10\noffer 1\noffer 2\noffer 3\noffer 4\nauto 3 auto_refused\nauto 4 accepted\nfreed 1 0\npass 2\nfall 5 10 0 5\nbar 5 0\noffer 7\nfreed 0 0\nleft 10 0\nleft 20 0\nfree 5 0\nday 2\npass 1\nbar 5 10\noffer 5\nfreed 0 0\nleft 10 0\nleft 20 0\nfree 5 0\n"

abbrev pub realistic_evening : State
realistic_evening = record { dossier = realistic; marks = last_marks }

abbrev pub RealisticFinal : Type 0
RealisticFinal =
    final_text realistic_evening
    ≡ codes "final\nwish,status\n1,accepted\n2,refused\n3,auto_refused\n4,accepted\n5,offered\n6,waiting\n7,refused\n8,waiting\n"

-- a day of one pass without automatic answers
abbrev pub one_pass : ℕ → List ℕ → List Fall → List ℕ → List ℕ → List ℕ → DayRecord
one_pass day bars falls offers left free =
    record {
      day = day;
      passes = record {
        pass = record { bars = bars; falls = falls; offers = offers };
        autos = [];
        freed = nothing_freed;
      } ∷ [];
      left = left;
      free = free;
      lapsed = [];
    }

-- falls at two schools in turn
abbrev pub cascade_day : DayRecord
cascade_day =
    one_pass 1 (1 ∷ 1 ∷ [])
    (record { school = 0; from = 9; to = 2; wishes = 0 ∷ 1 ∷ [] }
    ∷ record { school = 1; from = 9; to = 1; wishes = 2 ∷ 3 ∷ [] }
    ∷ record { school = 0; from = 2; to = 1; wishes = 4 ∷ 0 ∷ [] } ∷ [])
    (2 ∷ 4 ∷ []) (1 ∷ 0 ∷ 0 ∷ []) (0 ∷ 0 ∷ [])

abbrev pub CascadeDay : Type 0
CascadeDay =
    day_text cascade.dossier cascade_day
    ≡ codes "day 1\npass 1\nfall 5 9 2 1 2\nfall 6 9 1 3 4\nfall 5 2 1 5 1\nbar 5 1\nbar 6 1\noffer 3\noffer 5\nfreed 0 0\nleft 10 1\nleft 20 0\nleft 30 0\nfree 5 0\nfree 6 0\n"

-- a school without beds, one whose ceiling is 0, and one with the greatest ceiling
abbrev pub three_schools : DossierRows
three_schools =
    rows (programme 10 0 3 ∷ []) (school 5 0 4 ∷ school 6 3 0 ∷ school 7 3 2000000000 ∷ [])
    (wish 1 61 0 0 ∷ wish 2 62 0 0 ∷ wish 3 63 0 0 ∷ []) []

abbrev pub EdgesOfBars : Type 0
EdgesOfBars =
    day_text three_schools
    (one_pass 2 (1 ∷ 1 ∷ 2000000000 ∷ []) (record { school = 0; from = 4; to = 1; wishes = 0 ∷ [] } ∷ []) (1 ∷ [])
    (1 ∷ []) (0 ∷ 2 ∷ 2 ∷ []))
    ≡ codes "day 2\npass 1\nfall 5 4 1 1\nbar 5 1\nbar 6 1\nbar 7 2000000000\noffer 2\nfreed 0 0\nleft 10 1\nfree 5 0\nfree 6 2\nfree 7 2\n"

-- automatic answers that free a seat, and some that free nothing
abbrev pub freeing_day : DayRecord
freeing_day =
    record {
      day = 1;
      passes =
          record {
            pass = record { bars = []; falls = []; offers = 0 ∷ 1 ∷ [] };
            autos = record { wish = 0; status = AutoRefused } ∷ record { wish = 1; status = Accepted } ∷ [];
            freed = record { seats = 1; beds = 0 };
          }
          ∷ record { pass = record { bars = []; falls = []; offers = 2 ∷ [] }; autos = []; freed = nothing_freed }
          ∷ [];
      left = 0 ∷ 0 ∷ [];
      free = [];
      lapsed = [];
    }

abbrev pub withdrawing_day : DayRecord
withdrawing_day =
    record {
      day = 1;
      passes =
          record {
            pass = record { bars = []; falls = []; offers = 1 ∷ [] };
            autos = record { wish = 1; status = Accepted } ∷ record { wish = 2; status = AutoWithdrawn } ∷ [];
            freed = nothing_freed;
          } ∷ [];
      left = 0 ∷ 0 ∷ 0 ∷ [];
      free = [];
      lapsed = [];
    }

abbrev pub AutomaticDays : Type 0
AutomaticDays =
    (day_text two_offers.dossier freeing_day
    ≡ codes "day 1\npass 1\noffer 1\noffer 2\nauto 1 auto_refused\nauto 2 accepted\nfreed 1 0\npass 2\noffer 3\nfreed 0 0\nleft 10 0\nleft 20 0\n")
    × (day_text better_waits.dossier withdrawing_day
    ≡ codes "day 1\npass 1\noffer 2\nauto 2 accepted\nauto 3 auto_withdrawn\nfreed 0 0\nleft 10 0\nleft 20 0\nleft 30 0\n")

abbrev pub at : ℕ → ℕ → Stamp
at day pass = record { day = day; pass = pass }

-- one of each kind; a school is named by its id
abbrev pub Explanations : Type 0
Explanations =
    (explain_text realistic 6 (Gone Refused (at 2 0)) ≡ codes "wish 7 gone refused day 2 pass 0\n")
    × (explain_text realistic 4 (Live Offered (at 2 1)) ≡ codes "wish 5 live offered day 2 pass 1\n")
    × (explain_text realistic 5 (Barred 0 1 0 (Full 1)) ≡ codes "wish 6 barred school 5 rank 1 bar 0 full 1\n")
    × (explain_text three_schools 1 (Barred 1 1 0 Ceiling) ≡ codes "wish 2 barred school 6 rank 1 bar 0 ceiling\n")
    × (explain_text realistic 7 (NoSeat 1 0 4 0) ≡ codes "wish 8 noseat ahead 1 left 0\n")
    × (explain_text limit_state.dossier 2 (NoSeat 2 1 3 2) ≡ codes "wish 3 noseat ahead 2 left 1 position 3 limit 2\n")

abbrev pub refused : Slot → ℕ → Reason → List ℕ
refused slot row reason = refusal_line (record { slot = slot; row = row; reason = reason })

-- one of each reason
abbrev pub Refusals : Type 0
Refusals =
    (refused Groups 1 Header ≡ codes "refused groups row 1 reason 1 Header\n")
    × (refused Wishes 2 (FieldCount 3) ≡ codes "refused wishes row 2 reason 2 FieldCount 3\n")
    × (refused Groups 2 (NotNumber 1) ≡ codes "refused groups row 2 reason 3 NotNumber 1\n")
    × (refused Groups 2 (OutOfRange 2) ≡ codes "refused groups row 2 reason 4 OutOfRange 2\n")
    × (refused Rankings 2 (NotFlag 4) ≡ codes "refused rankings row 2 reason 5 NotFlag 4\n")
    × (refused StateSlot 2 (NotWord 2) ≡ codes "refused state row 2 reason 6 NotWord 2\n")
    × (refused Wishes 16000002 TooManyRows ≡ codes "refused wishes row 16000002 reason 7 TooManyRows\n")
    × (refused Wishes 0 TooLarge ≡ codes "refused wishes row 0 reason 8 TooLarge\n")
    × (refused Groups 3 (Repeat 2) ≡ codes "refused groups row 3 reason 9 Repeat 2\n")
    × (refused Programmes 2 (Unknown 2) ≡ codes "refused programmes row 2 reason 10 Unknown 2\n")
    × (refused Rankings 3 (RankTaken 2) ≡ codes "refused rankings row 3 reason 11 RankTaken 2\n")
    × (refused Wishes 2 Unranked ≡ codes "refused wishes row 2 reason 12 Unranked\n")
    × (refused Wishes 2 NoBoardingRank ≡ codes "refused wishes row 2 reason 13 NoBoardingRank\n")
    × (refused Wishes 3 (PreferenceMixed 2) ≡ codes "refused wishes row 3 reason 14 PreferenceMixed 2\n")
    × (refused Wishes 3 (PreferenceTaken 2) ≡ codes "refused wishes row 3 reason 15 PreferenceTaken 2\n")
    × (refused StateSlot 3 (TwoAccepted 2) ≡ codes "refused state row 3 reason 16 TwoAccepted 2\n")
    × (refused Answers 3 DayFalls ≡ codes "refused answers row 3 reason 17 DayFalls\n")
    × (refused Answers 4 (UnfitAnswer Waiting) ≡ codes "refused answers row 4 reason 18 UnfitAnswer waiting\n")
    × (refused StateSlot 2 (NotDate 3) ≡ codes "refused state row 2 reason 20 NotDate 3\n")

-- the numbers of 2025-06-02 and of 2024-03-01
abbrev pub june : ℤ
june = pos 20241

abbrev pub march : ℤ
march = pos 19783

abbrev pub lapsing_day : ℕ → ℤ → DayRecord
lapsing_day day offered = record (one_pass day [] [] (1 ∷ []) (0 ∷ []) [])
    { lapsed = record { wish = 0; offered = offered } ∷ [] }

-- offers end one day after they were made: one of day 1, and one of two days before
abbrev pub LapsingDays : Type 0
LapsingDays =
    (dated_day_text old_offer.dossier (lapsing_day 3 (pos 1)) june 1
    ≡ codes "day 3\nlapse 1 2025-06-03\npass 1\noffer 2\nfreed 0 0\nleft 10 0\n")
    × (dated_day_text old_offer.dossier (lapsing_day 1 (negsuc 0)) march 1
    ≡ codes "day 1\nlapse 1 2024-02-29\npass 1\noffer 2\nfreed 0 0\nleft 10 0\n")

-- the date is that of the stamp's day, or of the day before day 1 that the offer came in with
abbrev pub DatedFinals : Type 0
DatedFinals =
    (final_dated_text (record old_offer { marks = marked Lapsed 3 0 ∷ marked Offered 3 1 ∷ [] }) june
    (pos 0 ∷ pos 0 ∷ [])
    ≡ codes "final\nwish,status,since\n1,lapsed,\n2,offered,2025-06-04\n")
    × (final_dated_text old_offer march (terms 2).before
    ≡ codes "final\nwish,status,since\n1,offered,2024-02-28\n2,waiting,\n")

-- the sample of four candidates: one programme, for which two ask for boarding too; the last answers by their
-- preferences
abbrev pub four_candidates : State
four_candidates =
    record {
      dossier =
          rows (programme 1 0 200 ∷ []) (school 1 40 1073741824 ∷ [])
          (wish 1 1 0 0 ∷ wish 7 2 0 0 ∷ boarder 8 2 0 0 4000007 0 ∷ wish 13 3 0 0 ∷ wish 19 4 0 2
          ∷ boarder 20 4 0 0 8000013 1 ∷ []) [];
      marks =
          marked Offered 1 1 ∷ marked Offered 1 1 ∷ marked Offered 1 1 ∷ marked Offered 1 1 ∷ marked AutoRefused 1 1
          ∷ marked Accepted 1 1 ∷ [];
    }

-- the sample of four candidates; and, of days that are no sample's, sums over several passes, and
-- wishes that wait or were refused
abbrev pub Samples : Type 0
Samples =
    (sample_text 4 6 (one_pass 1 (1073741824 ∷ []) [] (0 ∷ 1 ∷ 2 ∷ 3 ∷ 4 ∷ 5 ∷ []) (196 ∷ []) (38 ∷ []) ∷ [])
    four_candidates
    ≡ codes "sample 4 wishes 6\nday 1 passes 1 falls 0 offers 6\nlive 5 waiting 0 gone 1\n")
    × (flat_map day_summary realistic_days ++ state_summary realistic_evening
    ≡ codes "day 1 passes 2 falls 1 offers 5\nday 2 passes 1 falls 0 offers 1\nlive 3 waiting 2 gone 3\n")
