use Rattle.std.proofs.Common.{◌∙◌, ap, arith, inl, length, nat_eq, refl, sym}
use Rattle.admit_core.proofs.Plain.{on_err}
use Rattle.admit_core.specs.DossierRows.{DossierRows}
use Rattle.admit_core.specs.State.{State}
use Rattle.desk_day.specs.DeskStates.{DeskStates}
use Rattle.dossier_check.proofs.Places.{position-any}
use Rattle.modes.specs.AfterDays.{left_on}
use Rattle.modes.proofs.Figuring.{all_broken, all_only, all_picked, all_tell, opening_ceilings, opening_dossier}
use Rattle.modes.proofs.OnDesks.{found_within}
use Rattle.modes.proofs.beds.school_text.Goals as goal

pub unreachable-requires : goal.unreachable-requires
unreachable-requires g c =
    let some = position-any (nat_eq c.args.school) c.args.input.now.index.schools c.requires.named in
    cc (c.in_default.is, c.school_place.ensures, some)

pub figures_text-requires-clause-dossier : goal.figures_text-requires-clause-dossier
figures_text-requires-clause-dossier g c =
    ap (λ (s : State). s.dossier) (c.opening-opening.ensures ∙ ap (λ (k : DeskStates). k.opening) c.desk.ensures)
    ∙ opening_dossier (left_on c.args.input.now c.args.days.now c.args.along.now)
    c.args.school c.in-Some.place c.in-Some-last.day.now (sym c.school_place.ensures ∙ c.in-Some.is)
    (sym c.in-Some-last.ensures.value) c.requires.desk

pub figures_text-requires-clause-roster : goal.figures_text-requires-clause-roster
figures_text-requires-clause-roster g c =
    c.roster.ensures.dossier ∙ c.requires.desk.dossier ∙ sym (figures_text-requires-clause-dossier g c)

pub figures_text-requires-clause-ceilings : goal.figures_text-requires-clause-ceilings
figures_text-requires-clause-ceilings g c =
    ap length (c.deref.ensures.value ∙ c.in_ok-ceilings.ensures.ceilings)
    ∙ opening_ceilings (left_on c.args.input.now c.args.days.now c.args.along.now)
    c.args.school c.in-Some.place c.in-Some-last.day.now (sym c.school_place.ensures ∙ c.in-Some.is)
    (sym c.in-Some-last.ensures.value) c.requires.desk
    ∙ ap (λ (s : State). length s.dossier.schools)
    (sym (c.opening-opening.ensures ∙ ap (λ (k : DeskStates). k.opening) c.desk.ensures))

pub figures_text-requires-clause-place : goal.figures_text-requires-clause-place
figures_text-requires-clause-place g c =
    let place = found_within _ _ c.args.school c.in-Some.place c.args.input.now.schools_have_ids
    (sym c.school_place.ensures ∙ c.in-Some.is) in
    omega (arith, place, ap (λ (d : DossierRows). length d.schools) (figures_text-requires-clause-dossier g c))

pub returns-clause-text : goal.returns-clause-text
returns-clause-text g c =
    all_tell (left_on c.args.input.now c.args.days.now c.args.along.now)
    c.args.school c.in-Some.place c.in-Some-last.day.now (sym c.school_place.ensures ∙ c.in-Some.is)
    (sym c.in-Some-last.ensures.value) c.requires.desk c.opening-opening.result.now c.roster.result.now.orders
    c.deref.result.now _ _ _ (c.opening-opening.ensures ∙ ap (λ (k : DeskStates). k.opening) c.desk.ensures)
    c.roster.ensures.orders (c.deref.ensures.value ∙ c.in_ok-ceilings.ensures.ceilings)
    (λ text. text.items) c.figures_text.result c.figures_text.ensures.text

pub returns-clause-only : goal.returns-clause-only
returns-clause-only g c =
    all_only (left_on c.args.input.now c.args.days.now c.args.along.now)
    c.args.school c.in-Some.place c.in-Some-last.day.now (sym c.school_place.ensures ∙ c.in-Some.is)
    (sym c.in-Some-last.ensures.value) c.requires.desk c.opening-opening.result.now c.roster.result.now.orders
    c.deref.result.now _ _ _ (c.opening-opening.ensures ∙ ap (λ (k : DeskStates). k.opening) c.desk.ensures)
    c.roster.ensures.orders (c.deref.ensures.value ∙ c.in_ok-ceilings.ensures.ceilings)
    (λ text. text.items) c.figures_text.result c.figures_text.ensures.text

pub returns-clause-picks : goal.returns-clause-picks
returns-clause-picks g c =
    all_picked (left_on c.args.input.now c.args.days.now c.args.along.now)
    c.args.school c.in-Some.place c.in-Some-last.day.now (sym c.school_place.ensures ∙ c.in-Some.is)
    (sym c.in-Some-last.ensures.value) c.requires.desk c.opening-opening.result.now c.roster.result.now.orders
    c.deref.result.now _ _ _ (c.opening-opening.ensures ∙ ap (λ (k : DeskStates). k.opening) c.desk.ensures)
    c.roster.ensures.orders (c.deref.ensures.value ∙ c.in_ok-ceilings.ensures.ceilings)
    (λ text. text.items) c.figures_text.result c.figures_text.ensures.text

pub returns-clause-breaks : goal.returns-clause-breaks
returns-clause-breaks g c =
    all_broken (left_on c.args.input.now c.args.days.now c.args.along.now)
    c.args.school c.in-Some.place c.in-Some-last.day.now (sym c.school_place.ensures ∙ c.in-Some.is)
    (sym c.in-Some-last.ensures.value) c.requires.desk c.opening-opening.result.now c.roster.result.now.orders
    c.deref.result.now _ _ _ (c.opening-opening.ensures ∙ ap (λ (k : DeskStates). k.opening) c.desk.ensures)
    c.roster.ensures.orders (c.deref.ensures.value ∙ c.in_ok-ceilings.ensures.ceilings)
    c.figures_text.result c.figures_text.ensures.breaks

pub returns-in_err-ceilings-clause-breaks : goal.returns-in_err-ceilings-clause-breaks
returns-in_err-ceilings-clause-breaks g c = on_err c.from_residual.result (inl refl)

pub returns-clause-choice : goal.returns-clause-choice
returns-clause-choice g c = c.figures_text.ensures.choice
