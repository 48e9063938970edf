use Rattle.std.proofs.Common.{◌≡◌, ◌∙◌, ap, length, subst, sym}
use Rattle.std.specs.Option.{option_copied}
use Rattle.admit_core.specs.Days.{first_evening}
use Rattle.admit_core.specs.Lapses.{AreTermsFor}
use Rattle.admit_core.specs.State.{State}
use Rattle.certificate.specs.Checked.{ids_in}
use Rattle.linked_demand.specs.Rosters.{Setting}
use Rattle.intake.specs.Dated.{terms_in}
use Rattle.intake.proofs.DatedOffers.{terms_known}
use Rattle.modes.specs.Checking.{proved_text}
use Rattle.modes.specs.Replay.{CanBeDated}
use Rattle.modes.proofs.CheckedDay.{days_stay, evening_alike, evening_dated, why_alike}
use Rattle.modes.proofs.checked.check_chain.Goals as goal

pub along-grounds-requires : goal.along-grounds-requires
along-grounds-requires c =
    c.requires.index ∙ ap (λ (s : State). ids_in s.dossier) (sym c.requires.first)
    ∙ ap (λ (x : Setting). ids_in x.dossier) (sym c.in_ok-first.ensures.roster)

pub check_days-requires-clause-same : goal.check_days-requires-clause-same
check_days-requires-clause-same c =
    ap (λ (g : Setting). g.dossier) (c.along-grounds.ensures ∙ c.in_ok-first.ensures.roster)
    ∙ ap (λ (s : State). s.dossier) (sym (c.begin-present.ensures ∙ c.in_ok-first.ensures.now))

pub check_days-requires-clause-terms : goal.check_days-requires-clause-terms
check_days-requires-clause-terms c =
    let dated = option_copied c.args.dated in
    subst (AreTermsFor c.begin-present.result.dossier)
    (sym c.terms_in.ensures)
    (subst (λ (s : State). AreTermsFor s.dossier (terms_in dated))
    (sym (c.begin-present.ensures ∙ c.in_ok-first.ensures.now ∙ c.requires.first))
    (terms_known c.args.input.now.dossier dated c.requires.dated))

pub proved_text-requires : goal.proved_text-requires
proved_text-requires c =
    let dated = option_copied c.args.dated in
    let stays = ap (λ (t : State). t.dossier) c.in_ok-check_days.ensures.evening.is
    ∙ days_stay (option_copied c.terms_in.result) c.along-grounds.result.orders 1 c.begin-present.result
    c.args.days.now in
    subst (CanBeDated dated) (sym c.into_now.ensures)
    (evening_dated c.args.input.now.dossier dated c.begin-present.result c.check_days.new.present
    (c.begin-present.ensures ∙ c.in_ok-first.ensures.now ∙ c.requires.first) stays
    c.in_ok-check_days.ensures.evening.stamps c.requires.dated)

pub returns-clause-tells : goal.returns-clause-tells
returns-clause-tells c =
    let lent = ap (λ (g : Setting). g.orders) (c.along-grounds.ensures ∙ c.in_ok-first.ensures.roster) in
    let begun : c.begin-present.result ≡ first_evening c.args.input.now.dossier =
    c.begin-present.ensures ∙ c.in_ok-first.ensures.now ∙ c.requires.first in
    sym (why_alike c.args.days.now c.terms_in.ensures lent begun) ∙ c.in_ok-check_days.ensures.found

pub returns-clause-text : goal.returns-clause-text
returns-clause-text c =
    let lent = ap (λ (g : Setting). g.orders) (c.along-grounds.ensures ∙ c.in_ok-first.ensures.roster) in
    let begun : c.begin-present.result ≡ first_evening c.args.input.now.dossier =
    c.begin-present.ensures ∙ c.in_ok-first.ensures.now ∙ c.requires.first in
    let days = c.args.days.now in
    let evening = c.in_ok-check_days.ensures.evening.is ∙ evening_alike days c.terms_in.ensures lent begun in
    c.in_ok-proved_text.ensures
    ∙ ap (λ (s : State). proved_text (length days) s (option_copied c.args.dated)) (c.into_now.ensures ∙ evening)
