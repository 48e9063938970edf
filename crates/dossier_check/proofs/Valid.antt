-- The dossier of tables without a fault is valid.
use Rattle.std.proofs.Common.{◌≡◌, None, sym, ◌∙◌}
use Rattle.admit_core.specs.declared.tables.Tables.{Tables}
use Rattle.admit_core.specs.Ranges.{AreTables}
use Rattle.admit_core.specs.Relations.{first_fault}
use Rattle.admit_core.specs.Standing.{wish_of_row, status_of_row, dossier_of}
use Rattle.admit_core.specs.Validity.{IsValid}
use Rattle.dossier_check.proofs.Firsts.{length-map-here}
use Rattle.dossier_check.proofs.NoFault.{HasNoFault, no_fault}
use Rattle.dossier_check.proofs.OneAccepted.{one_accepted}
use Rattle.dossier_check.proofs.RowFacts.{group_ids_apart}
use Rattle.dossier_check.proofs.ValidAnswers.{valid_ceilings, ceilings_by_day, no_day_twice, valid_answers}
use Rattle.dossier_check.proofs.ValidAnswers.{answers_by_day}
use Rattle.dossier_check.proofs.ValidItems.{own_ids, valid_groups, valid_programmes, valid_schools}
use Rattle.dossier_check.proofs.ValidSizes.{size_of}
use Rattle.dossier_check.proofs.ValidWishes.{valid_wishes}
use Rattle.dossier_check.proofs.WishesApart.{wishes_apart}

pub is_valid : (t : Tables) → AreTables t → first_fault t ≡ None → IsValid (dossier_of t)
is_valid t ranges none =
    let fine : HasNoFault t = no_fault t none in
    record {
      size = size_of t ranges (group_ids_apart t fine);
      ids = own_ids t ranges fine;
      groups = valid_groups t ranges fine;
      programmes = valid_programmes t ranges fine;
      schools = valid_schools t ranges fine;
      wishes = valid_wishes t ranges fine;
      wishes_apart = wishes_apart t fine;
      one_status_each = length-map-here (status_of_row t) t.wishes ∙ sym (length-map-here (wish_of_row t) t.wishes);
      one_accepted = one_accepted t fine;
      ceilings = valid_ceilings t ranges fine;
      ceilings_by_day = ceilings_by_day t ranges fine;
      ceilings_apart = no_day_twice t ranges fine;
      answers = valid_answers t ranges fine;
      answers_by_day = answers_by_day t ranges fine;
    }
