use Rattle.std.proofs.Common.{◌≡◌, false, nat_eq, is_some, slice_set, subst, sym, ap, ◌∙◌}
use Rattle.std.specs.List.{IsDistinct, list_any}
use Rattle.admit_core.proofs.FirstPlaces.{is_at, IsAt}
use Rattle.dossier_check.proofs.PutStatuses.{put_own, put_none}
use Rattle.dossier_check.proofs.statuses.put_status.Goals as goal

pub returns-in-Some-clause-put : goal.returns-in-Some-clause-put
returns-in-Some-clause-put c ws rows ids now =
    let row = c.args.row.now in
    let place = c.in-Some.place in
    let there = is_at row.wish c.args.wishes.now.keys place (sym c.get_index_of.ensures.index ∙ c.in-Some.is) in
    c.set_status.ensures
    ∙ ap (λ statuses. slice_set statuses place row.status) now
    ∙ put_own row rows ws place (subst (IsDistinct nat_eq) ids c.len.ensures.unique)
    (subst (λ ks. IsAt row.wish ks place) ids there)

pub returns-in_default-clause-put : goal.returns-in_default-clause-put
returns-in_default-clause-put c ws rows ids now =
    let row = c.args.row.now in
    let none = sym c.get_index_of.ensures.found ∙ ap is_some c.in_default.is in
    now ∙ put_none row rows ws (subst (λ ks. list_any (nat_eq row.wish) ks ≡ false) ids none)
