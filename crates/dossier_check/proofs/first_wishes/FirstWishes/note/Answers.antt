use Rattle.std.proofs.Common.{◌≡◌, ◌∷◌, ◌++◌, [], None, false, true, true≢false, arith, is_some, length, length-append}
use Rattle.std.proofs.Common.{nat_eq, position, slice_get, ap, sym, ◌∙◌}
use Rattle.std.specs.Prelude.{option_and_then}
use Rattle.std.specs.List.{list_any}
use Rattle.admit_core.proofs.Plain.{on_err}
use Rattle.dossier_check.specs.RowsBefore.{first_of}
use Rattle.dossier_check.proofs.Firsts.{position-none}
use Rattle.dossier_check.proofs.FirstWishes.{kept_is_some, kept_more, kept_of}
use Rattle.dossier_check.proofs.RisingIds.{found_by_place}
use Rattle.dossier_check.proofs.first_wishes.FirstWishes.note.Goals as goal

pub returns-in_err-place-clause-told : goal.returns-in_err-place-clause-told
returns-in_err-place-clause-told c =
    let keys = c.args.self.now.candidates.keys in
    on_err c.from_residual.result
    (ap (option_and_then (slice_get c.args.self.now.wishes.items))
    (position-none (nat_eq c.args.candidate) keys c.in_err-place.ensures.told))

pub returns-in-Some-clause-first : goal.returns-in-Some-clause-first
returns-in-Some-clause-first c =
    c.at.ensures
    ∙ ap (option_and_then (slice_get c.args.self.now.wishes.items)) (sym c.in-Some.is ∙ c.in_ok-place.ensures.found)

pub returns-in-Some-clause-kept : goal.returns-in-Some-clause-kept
returns-in-Some-clause-kept c is k =
    ap (λ keys. kept_of keys c.args.self.now.wishes.items k) (c.in_ok-place.ensures.kept (ap is_some c.in-Some.is))

pub returns-in-Some-clause-noted : goal.returns-in-Some-clause-noted
returns-in-Some-clause-noted c as_many none k =
    let keys = c.args.self.now.candidates.keys in
    let is = sym c.in-Some.is ∙ c.in_ok-place.ensures.found in
    let there : list_any (nat_eq c.args.candidate) keys ≡ true =
    sym (found_by_place keys c.args.candidate) ∙ sym (ap is_some is) in
    let some : is_some (first_of c.args.self.now c.args.candidate) ≡ true =
    kept_is_some keys c.args.self.now.wishes.items c.args.candidate as_many ∙ there in
    let first = c.at.ensures ∙ ap (option_and_then (slice_get c.args.self.now.wishes.items)) is in
    absurd (true≢false (sym some ∙ ap is_some (sym first ∙ none)))

pub returns-in-Some-clause-as_many : goal.returns-in-Some-clause-as_many
returns-in-Some-clause-as_many c as_many =
    as_many ∙ ap length (sym (c.in_ok-place.ensures.kept (ap is_some c.in-Some.is)))

pub returns-in_err-push-clause-told : goal.returns-in_err-push-clause-told
returns-in_err-push-clause-told c =
    on_err c.from_residual-in_err-push.result
    (ap (option_and_then (slice_get c.args.self.now.wishes.items))
    (sym (sym c.in_default.is ∙ c.in_ok-place.ensures.found)))

pub returns-clause-first : goal.returns-clause-first
returns-clause-first c =
    ap (option_and_then (slice_get c.args.self.now.wishes.items)) (sym c.in_default.is ∙ c.in_ok-place.ensures.found)

pub returns-clause-noted : goal.returns-clause-noted
returns-clause-noted c as_many none k =
    let keys = c.args.self.now.candidates.keys in
    let new : list_any (nat_eq c.args.candidate) keys ≡ false =
    sym (found_by_place keys c.args.candidate)
    ∙ sym (ap is_some (sym c.in_default.is ∙ c.in_ok-place.ensures.found)) in
    rw (c.in_ok-place.ensures.added c.in_default.is, c.in_ok-push.ensures.items)
    (kept_more keys c.args.self.now.wishes.items c.args.candidate c.args.own k as_many new)

pub returns-clause-as_many : goal.returns-clause-as_many
returns-clause-as_many c as_many =
    rw (c.in_ok-place.ensures.added c.in_default.is, c.in_ok-push.ensures.items)
    (omega (
      arith,
      as_many,
      length-append c.args.self.now.wishes.items (c.args.own ∷ []),
      length-append c.args.self.now.candidates.keys (c.args.candidate ∷ []),
    ))
