use Rattle.std.proofs.Common.{◌≡◌, ◌∙◌, List, ap, length, refl, subst, sym}
use Rattle.admit_core.specs.AutoAnswer.{auto_all}
use Rattle.admit_core.specs.Proposals.{proposed}
use Rattle.admit_core.specs.State.{State}
use Rattle.admit_core.specs.declared.state.Mark.{Mark}
use Rattle.desk_day.specs.Unanswered.{AreAsked}
use Rattle.desk_day.specs.Who.{AreOf, ChangesOnly}
use Rattle.desk_day.specs.declared.who.Who.{Who}
use Rattle.desk_day.proofs.LaterPasses.{offers_within}
use Rattle.desk_day.proofs.WhoIsAsked.{are_of, asks_after}
use Rattle.desk_day.proofs.present.Present.offer.Goals as goal

pub with_offered-requires-clause-own : goal.with_offered-requires-clause-own
with_offered-requires-clause-own c =
    subst (λ (these : Who). AreOf c.self.inside.state.dossier these) (sym c.replace-before.ensures.value)
    (are_of c.self.inside.unanswered c.self.inside.state c.self.invariant)

pub with_offered-requires-clause-offers : goal.with_offered-requires-clause-offers
with_offered-requires-clause-offers c =
    let s = c.self.inside.state in
    offers_within s s c.requires.orders c.requires.bars c.args.offers.now refl (c.requires.are
    ∙ ap (λ (t : State). proposed t c.requires.orders c.requires.bars) (sym c.self.view_is))

pub offer_all-requires : goal.offer_all-requires
offer_all-requires c =
    let s = c.self.inside.state in
    offers_within s s c.requires.orders c.requires.bars c.args.offers.now refl (c.requires.are
    ∙ ap (λ (t : State). proposed t c.requires.orders c.requires.bars) (sym c.self.view_is))

pub answer-requires : goal.answer-requires
answer-requires c =
    let s = c.self.inside.state in
    let offers = c.args.offers.now in
    let long : length s.marks ≡ length s.dossier.wishes =
    ap (λ (ms : List Mark). length ms) (sym c.marks.ensures.marks) ∙ c.marks.ensures.one_each in
    let are = c.requires.are
    ∙ ap (λ (t : State). proposed t c.requires.orders c.requires.bars) (sym c.self.view_is) in
    let asks = subst (λ (these : Who). AreAsked s.dossier offers these c.in_ok-asked.asked)
    c.replace-before.ensures.value c.in_ok-asked.ensures.asked in
    subst (λ (t : State). ChangesOnly c.in_ok-asked.asked t (auto_all t c.args.stamp))
    (sym c.offer_all.ensures.offered)
    (asks_after c.self.inside.unanswered c.in_ok-asked.asked s c.requires.orders c.requires.bars offers c.args.stamp
    long are c.self.invariant asks).answers
