-- A campaign that is cut at an evening, and begun again from what it left.
use Rattle.std.specs.Prelude.{◌<◌, ◌≡◌, ℕ, ℤ, pos, ◌+◌, ◌-◌, ◌+ℤ◌, ◌-ℤ◌, List, length, map, filter, nat_lt, Option}
use Rattle.std.specs.Prelude.{Some, None, option_map, zip, if◌then◌else◌, ⊤}
use Rattle.std.specs.List.{enumerate_from}
use Rattle.admit_core.specs.declared.dossier.Answer.{Answer}
use Rattle.admit_core.specs.declared.dossier.CeilingChange.{CeilingChange}
use Rattle.admit_core.specs.declared.dossier.School.{School}
use Rattle.admit_core.specs.declared.ranking.CallOrder.{CallOrder}
use Rattle.admit_core.specs.declared.records.DayRecord.{DayRecord}
use Rattle.admit_core.specs.declared.records.Lapse.{Lapse}
use Rattle.admit_core.specs.declared.records.Terms.{Terms}
use Rattle.admit_core.specs.declared.state.Mark.{Mark}
use Rattle.admit_core.specs.Days.{Days, IsDay, answers_of, ceiling_on, ceilings_of, first_evening}
use Rattle.admit_core.specs.DossierRows.{DossierRows}
use Rattle.admit_core.specs.Lapses.{AreTermsFor, is_offered, offer_day}
use Rattle.admit_core.specs.OwnWishes.{IsOneAccepted}
use Rattle.admit_core.specs.State.{State}
use Rattle.admit_core.specs.Validity.{IsValid}
use Rattle.cut_laws.specs.Alike.{HaveEqualStatuses, undated}

-- the dossier of the morning after day a: the statuses of the evening and the ceilings of that day
-- are what it comes in with, and what is given for later days is dated a days earlier
abbrev pub cut_at : ℕ → State → DossierRows
cut_at a evening =
    let d = evening.dossier in
    record d {
      schools = map (λ (x : ℕ × School). record x.1 { ceiling = ceiling_on d a x.0 x.1 })
          (enumerate_from 0 d.schools);
      statuses = map (λ m. m.status) evening.marks;
      ceilings = map (λ (c : CeilingChange). record c { day = c.day - a })
          (filter (λ c. nat_lt a c.day) d.ceilings);
      answers = map (λ (x : Answer). record x { day = x.day - a })
          (filter (λ x. nat_lt a x.day) d.answers);
    }

-- its terms: each offer is dated a days earlier
abbrev pub terms_at : ℕ → Option Terms → State → Option Terms
terms_at a terms evening =
    option_map (λ (t : Terms). record t {
      before = map (λ (x : ℤ × Mark). offer_day x.0 x.1 -ℤ pos a) (zip t.before evening.marks);
    }) terms

-- the record of a day that is numbered, and whose lapsed offers are dated, a days earlier
abbrev pub earlier : ℕ → DayRecord → DayRecord
earlier a day =
    record day {
      day = day.day - a;
      lapsed = map (λ (l : Lapse). record l { offered = l.offered -ℤ pos a }) day.lapsed;
    }

-- the day of each open offer, by place
abbrev pub open_offers : Terms → State → List (Option ℤ)
open_offers terms s =
    map (λ (x : ℤ × Mark). if is_offered x.1.status then Some (offer_day x.0 x.1) else None)
    (zip terms.before s.marks)

-- offers stand alike where each has the same term, and is dated a days earlier in the second state
abbrev pub StandAlike : ℕ → Option Terms → State → Option Terms → State → Type 0
StandAlike a None s None t = ⊤
StandAlike a (Some terms) s (Some others) t =
    (terms.term ≡ others.term)
    × (open_offers terms s ≡ map (option_map (λ day. day +ℤ pos a)) (open_offers others t))
StandAlike a None s (Some others) t = ⊥
StandAlike a (Some terms) s None t = ⊥

-- there is a state with the same statuses and open offers, of which this holds
abbrev pub HasAlike : ℕ → Option Terms → Option Terms → State → (State → Type 0) → Type 0
HasAlike a terms others s Holds =
    (other : State) × HaveEqualStatuses s other × StandAlike a terms s others other × Holds other

-- where offers have deadlines, of the stamps those of the open offers alone count, and of these
-- the day of the offer. So a day is one of any state with the same statuses and open offers, and
-- leads to one with those of its evening
abbrev pub OpenOffersDecide : Type 0
OpenOffersDecide =
    (a : ℕ) (terms others : Option Terms) (orders : List CallOrder) (ceilings : List ℕ)
    (s t : State) (day : DayRecord) (evening : State)
    → HaveEqualStatuses s t
    → StandAlike a terms s others t
    → length s.marks ≡ length s.dossier.wishes
    → AreTermsFor s.dossier terms
    → AreTermsFor t.dossier others
    → a < day.day
    → undated (answers_of s.dossier day.day) ≡ undated (answers_of t.dossier (day.day - a))
    → IsDay terms orders ceilings s day evening
    → HasAlike a terms others evening (IsDay others orders ceilings t (earlier a day))

-- from day a + 1 on the first dossier has the ceilings and answers that the second one has a days
-- earlier
pub record IsGivenAlike (a : ℕ) (d c : DossierRows) : Type 0 where
  pub ceilings : (day : ℕ) → a < day → ceilings_of d day ≡ ceilings_of c (day - a)
  pub answers : (day : ℕ) → a < day → undated (answers_of d day) ≡ undated (answers_of c (day - a))

-- the days that follow are days from the other state on, and leave the same statuses and open
-- offers
abbrev pub FollowAlike : ℕ → Option Terms → Option Terms → List CallOrder → State → List DayRecord
    → State → Type 0
FollowAlike a terms others orders t days last =
    HasAlike a terms others last (Days others orders 1 t (map (earlier a) days))

-- so it is of any two states with the same statuses and open offers, whichever way the ceilings and
-- answers of the days to come are said
abbrev pub AlikeStatesGoOnAlike : Type 0
AlikeStatesGoOnAlike =
    (a : ℕ) (terms others : Option Terms) (orders : List CallOrder) (s t : State)
    (days : List DayRecord) (last : State)
    → HaveEqualStatuses s t
    → StandAlike a terms s others t
    → length s.marks ≡ length s.dossier.wishes
    → AreTermsFor s.dossier terms
    → AreTermsFor t.dossier others
    → IsGivenAlike a s.dossier t.dossier
    → Days terms orders (a + 1) s days last
    → FollowAlike a terms others orders t days last

-- the days that follow are those of the cut campaign, and leave the same statuses and open offers
abbrev pub GoesOnAlike :
    Option Terms → List CallOrder → ℕ → State → List DayRecord → State → Type 0
GoesOnAlike terms orders a evening days last =
    HasAlike a terms (terms_at a terms evening) last
    (Days (terms_at a terms evening) orders 1 (first_evening (cut_at a evening))
    (map (earlier a) days))

-- so a campaign may be cut at the evening of any day a: day k of the new one is day a + k of the
-- old one
abbrev pub CampaignsMayBeCut : Type 0
CampaignsMayBeCut =
    (terms : Option Terms) (orders : List CallOrder) (a : ℕ) (evening : State)
    (days : List DayRecord) (last : State)
    → AreTermsFor evening.dossier terms
    → length evening.marks ≡ length evening.dossier.wishes
    → Days terms orders (a + 1) evening days last
    → GoesOnAlike terms orders a evening days last

-- the record of a day that is numbered, and whose lapsed offers are dated, a days later
abbrev pub later : ℕ → DayRecord → DayRecord
later a day =
    record day {
      day = day.day + a;
      lapsed = map (λ (l : Lapse). record l { offered = l.offered +ℤ pos a }) day.lapsed;
    }

-- days of the cut campaign are the days that follow, and leave the same statuses and open offers
abbrev pub AreTheRest :
    Option Terms → List CallOrder → ℕ → State → List DayRecord → State → Type 0
AreTheRest terms orders a evening days other =
    (last : State) × HaveEqualStatuses last other
    × StandAlike a terms last (terms_at a terms evening) other
    × Days terms orders (a + 1) evening (map (later a) days) last

-- and so whatever days are run of the cut campaign, they are the rest of the one that was cut
abbrev pub CutDaysAreTheRest : Type 0
CutDaysAreTheRest =
    (terms : Option Terms) (orders : List CallOrder) (a : ℕ) (evening : State)
    (days : List DayRecord) (other : State)
    → AreTermsFor evening.dossier terms
    → length evening.marks ≡ length evening.dossier.wishes
    → Days (terms_at a terms evening) orders 1 (first_evening (cut_at a evening)) days other
    → AreTheRest terms orders a evening days other

-- the dossier of the morning after a cut is a valid one, where that of the evening is one and each
-- candidate has one accepted wish at most
abbrev pub CutsAreValid : Type 0
CutsAreValid =
    (a : ℕ) (evening : State)
    → IsValid evening.dossier
    → length evening.marks ≡ length evening.dossier.wishes
    → IsOneAccepted evening
    → IsValid (cut_at a evening)
