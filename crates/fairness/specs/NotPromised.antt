-- Pairs of dossiers that show what the rules do not promise: something seems good for a candidate,
-- and an offer is lost by it.
use Rattle.std.specs.Prelude.{◌≡◌, ℕ, Bool, true, false, List, [], ◌∷◌, ◌++◌, map, Some, None, slice_index}
use Rattle.std.specs.List.{enumerate_from}
use Rattle.admit_core.specs.declared.ranking.Bound.TheVariants.{Alone, Both, Free, Resident, Scholar}
use Rattle.admit_core.specs.declared.ranking.CallOrder.{CallOrder}
use Rattle.admit_core.specs.declared.tables.BoardRow.{BoardRow}
use Rattle.admit_core.specs.declared.tables.GroupRow.{GroupRow}
use Rattle.admit_core.specs.declared.tables.ProgrammeRow.{ProgrammeRow}
use Rattle.admit_core.specs.declared.tables.RankRow.{RankRow}
use Rattle.admit_core.specs.declared.tables.SchoolRow.{SchoolRow}
use Rattle.admit_core.specs.declared.tables.Tables.{Tables}
use Rattle.admit_core.specs.declared.tables.WishRow.{WishRow}
use Rattle.admit_core.specs.Boarding.{boarding}
use Rattle.admit_core.specs.CallOrder.{AreCallOrders}
use Rattle.admit_core.specs.Days.{ceilings_of, first_evening}
use Rattle.admit_core.specs.DossierRows.{DossierRows}
use Rattle.admit_core.specs.Falls.{IsGreatest}
use Rattle.admit_core.specs.Proposals.{proposed}
use Rattle.admit_core.specs.Relations.{first_fault}
use Rattle.admit_core.specs.Standing.{dossier_of}
use Rattle.admit_core.specs.WorkedFaults.{wish}
use Rattle.admit_core.specs.WorkedRows.{order}

-- the ids of the wishes that are proposed as a dossier comes in
abbrev pub offers_of : DossierRows → List CallOrder → List ℕ → List ℕ
offers_of d orders bars =
    map (slice_index (map (λ w. w.id) d.wishes)) (proposed (first_evening d) orders bars)

-- what the first pass of a dossier gives: its rows have no fault; the call orders, the greatest
-- bars, and the offered wishes
pub record Gives (t : Tables) (orders : List CallOrder) (bars offers : List ℕ) : Type 0 where
  pub faultless : first_fault t ≡ None
  pub called : AreCallOrders (dossier_of t).groups orders
  pub greatest : IsGreatest
      (boarding (first_evening (dossier_of t)) orders (ceilings_of (dossier_of t) 1)) bars
  pub offered : offers_of (dossier_of t) orders bars ≡ offers

-- ---- rows
abbrev pub group : ℕ → ℕ → GroupRow
group id pct = record { id = id; scholar_pct = pct; resident_pct = pct }

abbrev pub programme : ℕ → ℕ → ℕ → ProgrammeRow
programme id g seats = record { id = id; group = g; seats = seats; limit = 0 }

abbrev pub school : ℕ → ℕ → SchoolRow
school id beds = record { id = id; beds = beds; ceiling = 9 }

abbrev pub ranked : ℕ → ℕ → ℕ → Bool → Bool → RankRow
ranked g c r scholar resident =
    record { group = g; candidate = c; rank = r; scholar = scholar; resident = resident }

-- candidates by rank in a group, neither scholars nor residents, and in a school
abbrev pub by_rank : ℕ → List ℕ → List RankRow
by_rank g candidates = map (λ x. ranked g x.1 x.0 false false) (enumerate_from 1 candidates)

abbrev pub boarded : ℕ → List ℕ → List BoardRow
boarded h candidates =
    map (λ x. record { school = h; candidate = x.1; rank = x.0 }) (enumerate_from 1 candidates)

-- without rates all are called by rank
abbrev pub plain : List ℕ → CallOrder
plain candidates = order candidates (map (λ c. Free) candidates)

-- rows of the slots; every wish waits
abbrev pub tables : List GroupRow → List ProgrammeRow → List SchoolRow → List RankRow
    → List BoardRow → List WishRow → Tables
tables groups programmes schools rankings boarding wishes = record {
  groups = groups;
  programmes = programmes;
  schools = schools;
  rankings = rankings;
  boarding = boarding;
  wishes = wishes;
  state = [];
  ceilings = [];
  answers = [];
}

-- ---- one seat more: 12, first in the call order, has the one seat and the one bed; with two seats
-- 11 is called too, both want the bed, and it goes to 11, who has the better boarding rank
abbrev pub with_so_many_seats : ℕ → Tables
with_so_many_seats seats =
    tables (group 1 0 ∷ []) (programme 10 1 seats ∷ []) (school 5 1 ∷ []) (by_rank 1 (12 ∷ 11 ∷ []))
    (boarded 5 (11 ∷ 12 ∷ []))
    (wish 1 11 10 (Some 5) 0 ∷ wish 2 12 10 (Some 5) 0 ∷ [])

abbrev pub OneSeatMore : Type 0
OneSeatMore =
    let orders : List CallOrder = plain (12 ∷ 11 ∷ []) ∷ [] in
    Gives (with_so_many_seats 1) orders (9 ∷ []) (2 ∷ [])
    × Gives (with_so_many_seats 2) orders (1 ∷ []) (1 ∷ [])

-- ---- one bed more: 12 has the one seat because 11, who comes first and wants a bed, finds none
abbrev pub with_so_many_beds : ℕ → Tables
with_so_many_beds beds =
    tables (group 1 0 ∷ []) (programme 10 1 1 ∷ []) (school 5 beds ∷ []) (by_rank 1 (11 ∷ 12 ∷ []))
    (boarded 5 (11 ∷ 12 ∷ []))
    (wish 1 11 10 (Some 5) 0 ∷ wish 2 12 10 None 0 ∷ [])

abbrev pub OneBedMore : Type 0
OneBedMore =
    let orders : List CallOrder = plain (11 ∷ 12 ∷ []) ∷ [] in
    Gives (with_so_many_beds 0) orders (0 ∷ []) (2 ∷ [])
    × Gives (with_so_many_beds 1) orders (9 ∷ []) (1 ∷ [])

-- ---- a better rank: 13 goes before 11 in the second programme and gains it, by wish 6; so 11 no
-- longer takes the bed, 12 is no longer barred, and takes the seat of the first programme that 13
-- had by wish 5
abbrev pub with_second_ranking : List ℕ → Tables
with_second_ranking second =
    tables (group 1 0 ∷ group 2 0 ∷ []) (programme 10 1 1 ∷ programme 20 2 1 ∷ []) (school 5 1 ∷ [])
    (by_rank 1 (12 ∷ 13 ∷ 11 ∷ []) ++ by_rank 2 second)
    (boarded 5 (11 ∷ 13 ∷ 12 ∷ []))
    (wish 1 11 10 None 0 ∷ wish 2 11 20 (Some 5) 0 ∷ wish 3 12 10 (Some 5) 0 ∷ wish 4 12 20 (Some 5)
    0 ∷ wish 5 13 10 None 0 ∷ wish 6 13 20 None 0 ∷ [])

abbrev pub BetterRank : Type 0
BetterRank =
    Gives (with_second_ranking (11 ∷ 13 ∷ 12 ∷ []))
    (plain (12 ∷ 13 ∷ 11 ∷ []) ∷ plain (11 ∷ 13 ∷ 12 ∷ []) ∷ []) (2 ∷ []) (2 ∷ 5 ∷ [])
    × Gives (with_second_ranking (13 ∷ 11 ∷ 12 ∷ []))
    (plain (12 ∷ 13 ∷ 11 ∷ []) ∷ plain (13 ∷ 11 ∷ 12 ∷ []) ∷ []) (9 ∷ []) (3 ∷ 6 ∷ [])

-- ---- a better boarding rank: 13 goes before 11 in the first school and gains its bed, by wish 4;
-- so 11 is barred there, 12 gets the seat of the first programme, and with it the bed of the second
-- school that 13 had by wish 5
abbrev pub with_first_school : List ℕ → Tables
with_first_school by_boarding_rank =
    tables (group 1 0 ∷ group 2 0 ∷ []) (programme 10 1 1 ∷ programme 20 2 2 ∷ [])
    (school 5 1 ∷ school 6 1 ∷ [])
    (by_rank 1 (13 ∷ 11 ∷ 12 ∷ []) ++ by_rank 2 (12 ∷ 11 ∷ 13 ∷ []))
    (boarded 5 by_boarding_rank ++ boarded 6 (12 ∷ 13 ∷ 11 ∷ []))
    (wish 1 11 10 (Some 5) 0 ∷ wish 2 12 10 None 0 ∷ wish 3 12 10 (Some 6) 0 ∷ wish 4 13 20 (Some 5)
    0 ∷ wish 5 13 20 (Some 6) 0 ∷ [])

abbrev pub BetterBoardingRank : Type 0
BetterBoardingRank =
    let orders : List CallOrder = plain (13 ∷ 11 ∷ 12 ∷ []) ∷ plain (12 ∷ 11 ∷ 13 ∷ []) ∷ [] in
    Gives (with_first_school (12 ∷ 11 ∷ 13 ∷ [])) orders (2 ∷ 9 ∷ []) (1 ∷ 5 ∷ [])
    × Gives (with_first_school (12 ∷ 13 ∷ 11 ∷ [])) orders (2 ∷ 1 ∷ []) (2 ∷ 3 ∷ 4 ∷ [])

-- ---- to be a scholar: 11 is called first and not second; but 13 is called earlier too, wants the
-- one bed, and has the better boarding rank, so 11 loses the offer of wish 1
abbrev pub with_scholar : Bool → Tables
with_scholar scholar =
    tables (group 1 50 ∷ []) (programme 10 1 2 ∷ []) (school 5 1 ∷ [])
    (ranked 1 13 1 false false ∷ ranked 1 11 2 scholar true ∷ ranked 1 12 3 true false ∷ [])
    (boarded 5 (13 ∷ 11 ∷ 12 ∷ []))
    (wish 1 11 10 (Some 5) 0 ∷ wish 2 12 10 None 0 ∷ wish 3 13 10 None 0
    ∷ wish 4 13 10 (Some 5) 0 ∷ [])

abbrev pub ToBeAScholar : Type 0
ToBeAScholar =
    Gives (with_scholar false) (order (12 ∷ 11 ∷ 13 ∷ []) (Alone ∷ Resident ∷ Free ∷ []) ∷ [])
    (9 ∷ []) (1 ∷ 2 ∷ [])
    × Gives (with_scholar true) (order (11 ∷ 13 ∷ 12 ∷ []) (Both ∷ Free ∷ Scholar ∷ []) ∷ [])
    (1 ∷ []) (2 ∷ 3 ∷ 4 ∷ [])

-- ---- a better position where programmes share a group: 13 goes before 11 in the one ranking of both
-- programmes, gains the second by wish 4, and loses the first by wish 3, in whose call order they
-- moved up: 11 no longer takes the second programme with the one bed, so 12, first in the order, is
-- no longer barred, and takes the seat of the first
abbrev pub with_one_ranking : List ℕ → Tables
with_one_ranking ranking =
    tables (group 1 0 ∷ []) (programme 10 1 1 ∷ programme 20 1 1 ∷ []) (school 5 1 ∷ [])
    (by_rank 1 ranking) (boarded 5 (11 ∷ 12 ∷ []))
    (wish 1 11 20 (Some 5) 0 ∷ wish 2 12 10 (Some 5) 0 ∷ wish 3 13 10 None 0
    ∷ wish 4 13 20 None 0 ∷ [])

abbrev pub SharedGroup : Type 0
SharedGroup =
    Gives (with_one_ranking (12 ∷ 11 ∷ 13 ∷ [])) (plain (12 ∷ 11 ∷ 13 ∷ []) ∷ []) (1 ∷ [])
    (1 ∷ 3 ∷ [])
    × Gives (with_one_ranking (12 ∷ 13 ∷ 11 ∷ [])) (plain (12 ∷ 13 ∷ 11 ∷ []) ∷ []) (9 ∷ [])
    (2 ∷ 4 ∷ [])
