-- What holds of the rows of every dossier.
use Rattle.std.specs.Prelude.{◌≡◌, ◌↔◌, ℕ, ◌≤◌, ◌<◌, map, length, sum, zip, nat_eq, Option, Some, None, All, AllPairs}
use Rattle.std.specs.Prelude.{IsTrue, IsSome}
use Rattle.std.specs.Option.{ForSome}
use Rattle.std.specs.List.{IsDistinct}
use Rattle.std.specs.List.Sorted.{IsNonDecreasing, IsStrictlyIncreasing}
use Rattle.admit_core.specs.declared.ranking.Ranked.{Ranked}
use Rattle.admit_core.specs.declared.ranking.RankGroup.{RankGroup}
use Rattle.admit_core.specs.declared.dossier.Programme.{Programme}
use Rattle.admit_core.specs.declared.dossier.School.{School}
use Rattle.admit_core.specs.declared.dossier.Wish.{Wish}
use Rattle.admit_core.specs.declared.dossier.CeilingChange.{CeilingChange}
use Rattle.admit_core.specs.declared.dossier.Answer.{Answer}
use Rattle.admit_core.specs.declared.dossier.AnswerKind.{AnswerKind}
use Rattle.admit_core.specs.declared.dossier.AnswerKind.TheVariants.{Accept, Refuse, Withdraw, Quit}
use Rattle.admit_core.specs.declared.state.Status.{Status}
use Rattle.admit_core.specs.declared.state.Status.TheVariants.{Accepted}
use Rattle.admit_core.specs.DossierRows.{DossierRows, ranking_of, candidates_of}
use Rattle.admit_core.specs.Lists.{is_among}
use Rattle.admit_core.specs.Ranges.{IsNumber, IsDay}

pub record IsValidRanked (r : Ranked) : Type 0 where
  pub candidate : IsNumber r.candidate
  pub rank : IsNumber r.rank

-- a ranking that has a call order: its rates are percentages, its ranks ascend, and each candidate
-- is ranked once
pub record IsRanking (g : RankGroup) : Type 0 where
  pub scholar_pct : g.scholar_pct ≤ 100
  pub resident_pct : g.resident_pct ≤ 100
  pub ranks : IsStrictlyIncreasing (map (λ r. r.rank) g.list)
  pub candidates : IsDistinct nat_eq (map (λ r. r.candidate) g.list)

pub record IsValidGroup (g : RankGroup) : Type 0 where
  pub id : IsNumber g.id
  pub ranking : IsRanking g
  pub size : length g.list ≤ 16000000
  pub list : All IsValidRanked g.list

pub record IsValidProgramme (d : DossierRows) (p : Programme) : Type 0 where
  pub id : IsNumber p.id
  pub group : p.group < length d.groups
  pub seats : p.seats ≤ 2000000000
  pub limit : p.limit ≤ 2000000000

pub record IsValidSchool (h : School) : Type 0 where
  pub id : IsNumber h.id
  pub beds : h.beds ≤ 2000000000
  pub ceiling : h.ceiling ≤ 2000000000

-- a wish with a school has a rank there, and one without has 0
abbrev pub HasBoardRank : Option ℕ → ℕ → Type 0
HasBoardRank None rank = rank ≡ 0
HasBoardRank (Some h) rank = IsNumber rank

-- what a wish names is there, and its candidate is ranked in the group of its programme
pub record IsValidWish (d : DossierRows) (w : Wish) : Type 0 where
  pub id : IsNumber w.id
  pub programme : w.programme < length d.programmes
  pub school : ForSome w.school (λ h. h < length d.schools)
  pub ranked : IsTrue (is_among w.candidate (map (λ r. r.candidate) (ranking_of d w.programme)))
  pub board_rank : HasBoardRank w.school w.board_rank
  pub preference : w.preference ≤ 2000000000

-- two wishes of one candidate differ in programme or school; their preferences are both 0, or both
-- positive and different
pub record IsApart (v w : Wish) : Type 0 where
  pub named : v.candidate ≡ w.candidate → v.programme ≡ w.programme → v.school ≡ w.school → ⊥
  pub ranks : IsSome v.school → v.school ≡ w.school → (v.board_rank ≡ w.board_rank)
      ↔ (v.candidate ≡ w.candidate)
  pub both_ranked : v.candidate ≡ w.candidate → (v.preference ≡ 0) ↔ (w.preference ≡ 0)
  pub preferences : v.candidate ≡ w.candidate → v.preference ≡ w.preference → v.preference ≡ 0

-- at most one of a candidate's wishes is accepted
abbrev pub NotBothAccepted : Wish × Status → Wish × Status → Type 0
NotBothAccepted v w = v.0.candidate ≡ w.0.candidate → v.1 ≡ Accepted → w.1 ≡ Accepted → ⊥

pub record IsValidCeiling (d : DossierRows) (c : CeilingChange) : Type 0 where
  pub day : IsDay c.day
  pub school : c.school < length d.schools
  pub ceiling : c.ceiling ≤ 2000000000

-- no school has two ceilings of one day
abbrev pub NotSameDay : CeilingChange → CeilingChange → Type 0
NotSameDay a b = a.day ≡ b.day → a.school ≡ b.school → ⊥

-- a wish's place, or a candidate who has a wish
abbrev pub IsTarget : DossierRows → AnswerKind → ℕ → Type 0
IsTarget d Quit target = IsTrue (is_among target (candidates_of d))
IsTarget d Accept target = target < length d.wishes
IsTarget d Refuse target = target < length d.wishes
IsTarget d Withdraw target = target < length d.wishes

pub record IsValidAnswer (d : DossierRows) (a : Answer) : Type 0 where
  pub day : IsDay a.day
  pub target : IsTarget d a.kind a.target

-- no list is too long; the rankings count together
pub record HasSize (d : DossierRows) : Type 0 where
  pub groups : length d.groups ≤ 16000000
  pub ranked : sum (map (λ g. length g.list) d.groups) ≤ 16000000
  pub programmes : length d.programmes ≤ 16000000
  pub schools : length d.schools ≤ 16000000
  pub wishes : length d.wishes ≤ 16000000
  pub ceilings : length d.ceilings ≤ 16000000
  pub answers : length d.answers ≤ 16000000

-- no id stands twice
pub record HasOwnIds (d : DossierRows) : Type 0 where
  pub groups : IsDistinct nat_eq (map (λ g. g.id) d.groups)
  pub programmes : IsDistinct nat_eq (map (λ p. p.id) d.programmes)
  pub schools : IsDistinct nat_eq (map (λ h. h.id) d.schools)
  pub wishes : IsDistinct nat_eq (map (λ w. w.id) d.wishes)

pub record IsValid (d : DossierRows) : Type 0 where
  pub size : HasSize d
  pub ids : HasOwnIds d
  pub groups : All IsValidGroup d.groups
  pub programmes : All (IsValidProgramme d) d.programmes
  pub schools : All IsValidSchool d.schools
  pub wishes : All (IsValidWish d) d.wishes
  pub wishes_apart : AllPairs IsApart d.wishes
  pub one_status_each : length d.statuses ≡ length d.wishes
  pub one_accepted : AllPairs NotBothAccepted (zip d.wishes d.statuses)
  pub ceilings : All (IsValidCeiling d) d.ceilings
  pub ceilings_by_day : IsNonDecreasing (map (λ c. c.day) d.ceilings)
  pub ceilings_apart : AllPairs NotSameDay d.ceilings
  pub answers : All (IsValidAnswer d) d.answers
  pub answers_by_day : IsNonDecreasing (map (λ a. a.day) d.answers)
