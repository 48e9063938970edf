-- What a dossier says, as plain lists.
use Rattle.std.specs.Prelude.{ℕ, List, [], map, option_map, unwrap_or, slice_get, slice_index}
use Rattle.admit_core.specs.declared.ranking.Ranked.{Ranked}
use Rattle.admit_core.specs.declared.ranking.RankGroup.{RankGroup}
use Rattle.admit_core.specs.declared.dossier.Programme.{Programme}
use Rattle.admit_core.specs.declared.dossier.School.{School}
use Rattle.admit_core.specs.declared.dossier.Wish.{Wish}
use Rattle.admit_core.specs.declared.dossier.CeilingChange.{CeilingChange}
use Rattle.admit_core.specs.declared.dossier.Answer.{Answer}
use Rattle.admit_core.specs.declared.state.Status.{Status}
use Rattle.admit_core.specs.Lists.{distinct}

pub record DossierRows : Type 0 where
  pub groups : List RankGroup
  pub programmes : List Programme
  pub schools : List School
  pub wishes : List Wish
  pub statuses : List Status
  pub ceilings : List CeilingChange
  pub answers : List Answer

-- of a programme its group's place, its seats and its call limit, and of a school its beds; 0 past
-- the end
abbrev pub group_of : DossierRows → ℕ → ℕ
group_of d p = slice_index (map (λ q. q.group) d.programmes) p

abbrev pub seats_of : DossierRows → ℕ → ℕ
seats_of d p = slice_index (map (λ q. q.seats) d.programmes) p

abbrev pub limit_of : DossierRows → ℕ → ℕ
limit_of d p = slice_index (map (λ q. q.limit) d.programmes) p

abbrev pub beds_of : DossierRows → ℕ → ℕ
beds_of d h = slice_index (map (λ q. q.beds) d.schools) h

-- the candidate of the wish at a place
abbrev pub candidate_of : DossierRows → ℕ → ℕ
candidate_of d place = slice_index (map (λ w. w.candidate) d.wishes) place

-- the ranking that a programme calls from
abbrev pub ranking_of : DossierRows → ℕ → List Ranked
ranking_of d p = unwrap_or (option_map (λ g. g.list) (slice_get d.groups (group_of d p))) []

-- the candidates who have a wish, each once
abbrev pub candidates_of : DossierRows → List ℕ
candidates_of d = distinct (map (λ w. w.candidate) d.wishes)
