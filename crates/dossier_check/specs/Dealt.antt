-- Rankings dealt out by group.
use Rattle.std.specs.Prelude.{◌≡◌, ℕ, true, List, map, All}
use Rattle.admit_core.specs.declared.tables.GroupRow.{GroupRow}
use Rattle.admit_core.specs.declared.tables.ProgrammeRow.{ProgrammeRow}
use Rattle.admit_core.specs.declared.tables.RankRow.{RankRow}
use Rattle.admit_core.specs.declared.tables.Tables.{Tables}
use Rattle.admit_core.specs.declared.ranking.Ranked.{Ranked}
use Rattle.admit_core.specs.declared.ranking.RankGroup.{RankGroup}
use Rattle.admit_core.specs.Lists.{is_among, sorted_by}
use Rattle.admit_core.specs.Relations.{group_ids}
use Rattle.admit_core.specs.Standing.{group_of_row, place_of, ranked_in}
use Rattle.dossier_check.specs.declared.ranks.Dealt.{Dealt}
use Rattle.dossier_check.specs.declared.who_is_ranked.WhoIsRanked.{WhoIsRanked}

-- the candidates in a list, ascending
abbrev pub ascending : List Ranked → List ℕ
ascending list = sorted_by (λ n. n) (map (λ r. r.candidate) list)

-- the candidates of a group, ascending
abbrev pub candidates_in : List RankRow → ℕ → List ℕ
candidates_in rankings group = ascending (ranked_in rankings group)

-- the candidates of a group, by rank
abbrev pub ranked_by : List RankRow → ℕ → List Ranked
ranked_by rankings group = sorted_by (λ r. r.rank) (ranked_in rankings group)

-- a group made of its row and of its candidates
abbrev pub built : GroupRow → List Ranked → RankGroup
built g list =
    record { id = g.id; scholar_pct = g.scholar_pct; resident_pct = g.resident_pct; list = list }

-- the places of what rows name; the number of ids where it is none of them
abbrev pub places_by : {R : Type 0} → (R → ℕ) → List ℕ → List R → List ℕ
places_by named ids rows = map (λ r. place_of ids (named r)) rows

-- the places of the groups of rankings
abbrev pub places_in : List ℕ → List RankRow → List ℕ
places_in groups rows = places_by (λ r. r.group) groups rows

-- the places of the groups of programmes
abbrev pub group_places : List ℕ → List ProgrammeRow → List ℕ
group_places groups rows = places_by (λ p. p.group) groups rows

-- the group of a row is there
abbrev pub HasItsGroup : List ℕ → RankRow → Type 0
HasItsGroup groups row = is_among row.group groups ≡ true

-- each group has its candidates, at its place
pub record AreDealt (t : Tables) (dealt : Dealt) : Type 0 where
  pub rankings : dealt.rankings.items ≡ map (group_of_row t) t.groups
  pub candidates : map (λ l. l.items) dealt.candidates.items
      ≡ map (candidates_in t.rankings) (group_ids t)

-- no one is ranked in any group but these
pub record SaysWhoIsRanked (t : Tables) (ranked : WhoIsRanked) : Type 0 where
  pub places : ranked.places.now ≡ group_places (group_ids t) t.programmes
  pub candidates : map (λ l. l.items) ranked.candidates.now
      ≡ map (candidates_in t.rankings) (group_ids t)
  pub known : All (HasItsGroup (group_ids t)) t.rankings
