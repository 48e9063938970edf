use Rattle.std.proofs.Common.{ℕ, ◌≡◌, ◌∙◌, List, ap, length, refl, subst, sym}
use Rattle.admit_core.proofs.Plain.{on_err}
use Rattle.admit_core.specs.DossierRows.{DossierRows}
use Rattle.admit_core.specs.State.{State}
use Rattle.admit_core.specs.declared.state.Mark.{Mark}
use Rattle.desk_day.specs.DayPasses.{offered_along}
use Rattle.desk_day.specs.Unanswered.{AreAsked, AsksAfter}
use Rattle.desk_day.specs.Who.{AreOf}
use Rattle.desk_day.specs.declared.who.Who.{Who}
use Rattle.desk_day.proofs.KeptPasses.{offered_when_made}
use Rattle.desk_day.proofs.LaterPasses.{offered_there, offers_within}
use Rattle.desk_day.proofs.ToldPasses.{told_seen, told_whole}
use Rattle.desk_day.proofs.WhoIsAsked.{are_of, asks_after}
use Rattle.desk_day.proofs.present.Present.make_pass.Goals as goal

pub returns-in_err-pass-clause-told_by_then : goal.returns-in_err-pass-clause-told_by_then
returns-in_err-pass-clause-told_by_then g c =
    on_err _ (told_seen _ _ c.self.view_is _ _ _ _ _ c.in_err-pass.ensures.told_by_then)

pub with_offered-requires-clause-own : goal.with_offered-requires-clause-own
with_offered-requires-clause-own g c =
    let there = ap (λ (t : State). t.dossier) c.in_ok-pass.ensures.pass.1.offers in
    subst (λ (d : DossierRows). AreOf d c.replace-before.result) (sym there)
    (subst (λ (these : Who). AreOf c.self.inside.state.dossier these) (sym c.replace-before.ensures.value)
    (are_of c.self.inside.unanswered c.self.inside.state c.self.invariant))

pub with_offered-requires-clause-offers : goal.with_offered-requires-clause-offers
with_offered-requires-clause-offers g c =
    offers_within c.self.inside.state c.pass_keeping.new.state c.args.roster.now.orders
    c.in_ok-pass.ensures.pass.0.bars c.as_slice.result.now
    (ap (λ (t : State). t.dossier) c.in_ok-pass.ensures.pass.1.offers)
    (c.as_slice.ensures ∙ offered_when_made _ c.in_ok-pass.ensures.pass)

pub returns-in_err-asked-clause-told_by_then : goal.returns-in_err-asked-clause-told_by_then
returns-in_err-asked-clause-told_by_then g c =
    let is = c.in_ok-pass.ensures.pass.1.by in
    on_err _ (told_seen _ _ c.self.view_is _ _ _ _ _ (told_whole _ _ _ _ _ _ _ is.is_pass is.told_of is.chosen))

pub returns-clause-offered : goal.returns-clause-offered
returns-clause-offered g c =
    let s = c.self.inside.state in
    let bars = c.in_ok-pass.ensures.pass.0.bars in
    let offers = c.in_ok-pass.pass.offers in
    let long : length s.marks ≡ length s.dossier.wishes =
    ap (λ (ms : List Mark). length ms) (sym c.marks.ensures.marks) ∙ c.marks.ensures.one_each in
    c.in_ok-pass.ensures.pass.1.offers
    ∙ sym (offered_there s s c.args.roster.now.orders bars offers c.args.stamp long refl
    (offered_when_made _ c.in_ok-pass.ensures.pass))
    ∙ ap (λ (t : State). offered_along offers c.args.stamp t) c.self.view_is

pub returns-clause-asked : goal.returns-clause-asked
returns-clause-asked g c =
    let s = c.self.inside.state in
    let bars = c.in_ok-pass.ensures.pass.0.bars in
    let offers = c.in_ok-pass.pass.offers in
    let asked = c.in_ok-asked.asked in
    let there = ap (λ (t : State). t.dossier) c.in_ok-pass.ensures.pass.1.offers in
    let long : length s.marks ≡ length s.dossier.wishes =
    ap (λ (ms : List Mark). length ms) (sym c.marks.ensures.marks) ∙ c.marks.ensures.one_each in
    let named = subst (λ (ks : List ℕ). AreAsked c.pass_keeping.new.state.dossier ks c.replace-before.result asked)
    c.as_slice.ensures c.in_ok-asked.ensures.asked in
    let asks = subst (λ (these : Who). AreAsked s.dossier offers these asked) c.replace-before.ensures.value
    (subst (λ (d : DossierRows). AreAsked d offers c.replace-before.result asked) there named) in
    subst (λ (t : State). AsksAfter t offers c.args.stamp asked) c.self.view_is
    (asks_after c.self.inside.unanswered asked s c.args.roster.now.orders bars offers c.args.stamp long
    (offered_when_made _ c.in_ok-pass.ensures.pass) c.self.invariant asks)
