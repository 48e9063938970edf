-- The ids, the groups, the programmes and the schools of the dossier are valid.
use Rattle.std.proofs.Common.{ℕ, ◌<◌, nat_eq, length, filter, get_or, sym, subst, All}
use Rattle.std.specs.List.{IsDistinct}
use Rattle.std.proofs.lemmas.List.Elements.{All-map, All-filter}
use Rattle.std.proofs.lemmas.List.Sorted.{All-permutation}
use Rattle.admit_core.specs.declared.tables.GroupRow.{GroupRow}
use Rattle.admit_core.specs.declared.tables.Tables.{Tables}
use Rattle.admit_core.specs.Ranges.{AreTables, IsGroupRow}
use Rattle.admit_core.specs.Relations.{group_ids}
use Rattle.admit_core.specs.Standing.{place_of, ranked_row, ranked_in, group_of_row, programme_of_row, school_of_row}
use Rattle.admit_core.specs.Standing.{wish_of_row, dossier_of}
use Rattle.admit_core.specs.Validity.{HasOwnIds, IsValidGroup, IsValidRanked, IsValidProgramme, IsValidSchool}
use Rattle.std.proofs.lemmas.Simd.{map-map}
use Rattle.dossier_check.proofs.Firsts.{length-map-here}
use Rattle.dossier_check.proofs.NoFault.{HasNoFault}
use Rattle.dossier_check.proofs.Places.{place_within}
use Rattle.dossier_check.proofs.RowFacts.{group_ids_apart, programme_ids_apart, school_ids_apart, wish_ids_apart}
use Rattle.dossier_check.proofs.RowFacts.{groups_known}
use Rattle.admit_core.proofs.SortedLists.{IsPermutation-sorted_by}
use Rattle.dossier_check.proofs.ValidRankings.{ranking_of, ranked_few}

module _ (t : Tables) (ranges : AreTables t) (fine : HasNoFault t) where
  pub own_ids : HasOwnIds (dossier_of t)
  own_ids = record {
    groups = subst (IsDistinct nat_eq) (sym (map-map (λ g. g.id) (group_of_row t) t.groups)) (group_ids_apart t fine);
    programmes = subst (IsDistinct nat_eq) (sym (map-map (λ p. p.id) (programme_of_row t) t.programmes))
        (programme_ids_apart t fine);
    schools = subst (IsDistinct nat_eq) (sym (map-map (λ h. h.id) school_of_row t.schools)) (school_ids_apart t fine);
    wishes = subst (IsDistinct nat_eq) (sym (map-map (λ w. w.id) (wish_of_row t) t.wishes)) (wish_ids_apart t fine);
  }

  valid_ranked : (group : ℕ) → All IsValidRanked (ranked_in t.rankings group)
  valid_ranked group =
      All-map IsValidRanked ranked_row (filter (λ r. nat_eq group r.group) t.rankings)
      (All-filter (λ r. nat_eq group r.group) (λ r. IsValidRanked (ranked_row r)) t.rankings
      (λ k r lt. record {
        candidate = (ranges.rankings.each k r lt).candidate;
        rank = (ranges.rankings.each k r lt).rank;
      }))

  valid_group : (g : GroupRow) → IsGroupRow g → IsValidGroup (group_of_row t g)
  valid_group g row = record {
    id = row.id;
    ranking = ranking_of t ranges.rankings fine.rankings g row;
    size = ranked_few t ranges.rankings fine.rankings g;
    list = All-permutation IsValidRanked (ranked_in t.rankings g.id) (group_of_row t g).list
        (IsPermutation-sorted_by (λ r. r.rank) (ranked_in t.rankings g.id)) (valid_ranked g.id);
  }

  pub valid_groups : All IsValidGroup (dossier_of t).groups
  valid_groups = All-map IsValidGroup (group_of_row t) t.groups
      (λ k g lt. valid_group (get_or t.groups k g) (ranges.groups.each k g lt))

  pub valid_programmes : All (IsValidProgramme (dossier_of t)) (dossier_of t).programmes
  valid_programmes =
      All-map (IsValidProgramme (dossier_of t)) (programme_of_row t) t.programmes (λ k p lt.
      let row = ranges.programmes.each k p lt in
      let within : place_of (group_ids t) (get_or t.programmes k p).group < length (group_ids t) =
      place_within (group_ids t) (get_or t.programmes k p).group (groups_known t fine k p lt) in
      record {
        id = row.id;
        group = rw (length-map-here (group_of_row t) t.groups) (rw (length-map-here (λ g. g.id) t.groups) at within);
        seats = row.seats;
        limit = row.limit;
      })

  pub valid_schools : All IsValidSchool (dossier_of t).schools
  valid_schools =
      All-map IsValidSchool school_of_row t.schools (λ k h lt.
      let row = ranges.schools.each k h lt in
      record { id = row.id; beds = row.beds; ceiling = row.ceiling })
