use Rattle.std.proofs.Common.{◌∙◌, ◌+◌, ◌<◌, ◌≤◌, ap, arith, inl, length, subst, sym}
use Rattle.admit_core.proofs.Plain.{on_err}
use Rattle.admit_core.specs.DossierRows.{DossierRows, beds_of}
use Rattle.bar_fixpoint.proofs.SoFar.{IsAtMost-refl}
use Rattle.modes.proofs.Figuring.{all_figured, breaks_behind, breaks_grown}
use Rattle.modes.proofs.beds.figures_of.Goals as goal

pub returns-clause-text : goal.returns-clause-text
returns-clause-text g c =
    all_figured c.args.questions.now.state c.args.dossier.now c.args.questions.now.orders c.args.ceilings.now
    c.args.place c.in_ok-need.need c.lacking-more.result c.in_ok-growth.growth.before.items
    c.in_ok-growth.growth.after.items _ _ _ _ _ c.requires.dossier c.lacking-more.ensures.value
    c.in_ok-need.ensures.need c.in_ok-growth.ensures.growth c.in_ok-need.ensures.asked.told
    c.least_beds.ensures.asked.choice
    c.in_ok-growth.ensures.asked.told (λ text. text.items) c.beds_text.result c.beds_text.ensures

pub lacking-more-requires-clause-place : goal.lacking-more-requires-clause-place
lacking-more-requires-clause-place g c =
    subst (λ (d : DossierRows). c.args.place < length d.schools) c.requires.dossier c.requires.place

pub lacking-more-requires-clause-need : goal.lacking-more-requires-clause-need
lacking-more-requires-clause-need g c = omega (arith, c.in_ok-need.ensures.few)

pub grown_bars-requires-clause-rise : goal.grown_bars-requires-clause-rise
grown_bars-requires-clause-rise g c = IsAtMost-refl c.args.ceilings.now

pub grown_bars-requires-clause-beds : goal.grown_bars-requires-clause-beds
grown_bars-requires-clause-beds g c =
    subst (λ (d : DossierRows). beds_of d c.args.place + c.lacking-more.result ≤ 2000000000)
    (sym c.requires.dossier) c.lacking-more.ensures.fits

pub beds_text-requires-clause-school : goal.beds_text-requires-clause-school
beds_text-requires-clause-school g c =
    subst (λ (d : DossierRows). c.args.place < length d.schools) c.requires.dossier c.requires.place

pub beds_text-requires-clause-before : goal.beds_text-requires-clause-before
beds_text-requires-clause-before g c =
    c.in_ok-growth.ensures.growth.before.fits.under_ceilings.as_many ∙ c.requires.ceilings
    ∙ ap (λ (d : DossierRows). length d.schools) c.requires.dossier

pub beds_text-requires-clause-after : goal.beds_text-requires-clause-after
beds_text-requires-clause-after g c =
    c.in_ok-growth.ensures.growth.after.fits.under_ceilings.as_many ∙ c.requires.ceilings
    ∙ ap (λ (d : DossierRows). length d.schools) c.requires.dossier

pub returns-clause-choice : goal.returns-clause-choice
returns-clause-choice g c = c.grown_bars.ensures.asked.choice ∙ c.least_beds.ensures.asked.choice

pub returns-in_err-growth-clause-choice : goal.returns-in_err-growth-clause-choice
returns-in_err-growth-clause-choice g c = c.grown_bars.ensures.asked.choice ∙ c.least_beds.ensures.asked.choice

pub returns-in_err-need-clause-breaks : goal.returns-in_err-need-clause-breaks
returns-in_err-need-clause-breaks g c = on_err c.from_residual.result (inl c.in_err-need.ensures.asked.falls)

pub returns-in_err-growth-clause-breaks : goal.returns-in_err-growth-clause-breaks
returns-in_err-growth-clause-breaks g c =
    on_err c.from_residual-in_err-growth.result
    (breaks_grown _ _ _ _ c.in_ok-need.need c.lacking-more.result _ _ _ _ _ c.args.dossier.now c.requires.dossier
    c.lacking-more.ensures.value c.in_ok-need.ensures.need c.in_ok-need.ensures.asked.told
    c.least_beds.ensures.asked.choice
    c.in_err-growth.ensures.asked.falls)

pub returns-clause-breaks : goal.returns-clause-breaks
returns-clause-breaks g c =
    on_err c.beds_text.result
    (breaks_behind _ _ _ _ c.in_ok-need.need c.lacking-more.result _ _ _ _ _ c.args.dossier.now c.requires.dossier
    c.lacking-more.ensures.value c.in_ok-need.ensures.need c.in_ok-need.ensures.asked.told
    c.least_beds.ensures.asked.choice
    c.in_ok-growth.ensures.asked.told)
