use Rattle.dossier_check.proofs.KeyPlaces.{few_keys}
use Rattle.dossier_check.proofs.Outcomes.{out_of_memory}
use Rattle.dossier_check.proofs.Valid.{is_valid}
use Rattle.dossier_check.proofs.relations.check.Goals as goal

pub make_dossier-requires-clause-valid : goal.make_dossier-requires-clause-valid
make_dossier-requires-clause-valid c = is_valid c.args.tables.now c.requires c.in_ok-keys.ensures.fault

pub returns-in_err-dossier-clause-fault : goal.returns-in_err-dossier-clause-fault
returns-in_err-dossier-clause-fault c = out_of_memory _ _ c.from_residual-in_err-dossier.ensures.1

pub returns-in_err-dates-clause-fault : goal.returns-in_err-dates-clause-fault
returns-in_err-dates-clause-fault c = out_of_memory _ _ c.from_residual-in_err-dates.ensures.1

pub into_index-requires : goal.into_index-requires
into_index-requires c =
    let t = c.args.tables.now in
    let keys = c.in_ok-keys.ensures.keys in
    record {
      wishes = few_keys (λ w. w.id) t.wishes _ keys.wishes.same c.requires.wishes.size;
      schools = few_keys (λ h. h.id) t.schools _ keys.schools.same c.requires.schools.size;
    }
