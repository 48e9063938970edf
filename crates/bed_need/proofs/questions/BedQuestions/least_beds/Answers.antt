use Rattle.std.proofs.Common.{◌≡◌, ◌∙◌, ◌+◌, ap, arith, length, refl, subst}
use Rattle.admit_core.specs.Boarding.{boarding}
use Rattle.admit_core.specs.Falls.{FallingSystem, IsGreatest}
use Rattle.admit_core.specs.Proposals.{demanded_ranks}
use Rattle.admit_core.specs.State.{State, bed_holders}
use Rattle.linked_demand.specs.Lent.{own_beds}
use Rattle.linked_demand.specs.Rounds.{bar_each}
use Rattle.bed_need.specs.Needing.{need_of}
use Rattle.bed_need.proofs.Counted.{are_counted}
use Rattle.bed_need.proofs.Least.{few, few_need, needs_least}
use Rattle.bed_need.proofs.LentBeds.{put_lent}
use Rattle.bed_need.proofs.Telling.{asked_found, asked_in_vain, asked_named, asked_nobody}
use Rattle.bed_need.proofs.questions.BedQuestions.least_beds.Goals as goal

pub returns-clause-need : goal.returns-clause-need
returns-clause-need g c =
    let s = c.args.self.now.state in
    let orders = c.args.self.now.orders in
    let beds : c.in_ok-beds.beds.items ≡ own_beds s.dossier =
    c.in_ok-beds.ensures ∙ ap (λ (t : State). own_beds t.dossier) c.state-state.ensures in
    let same = ap (λ (t : State). boarding t orders c.args.ceilings.now)
    (put_lent s c.in_ok-beds.beds.items c.deref.result.now c.args.school 2000000000 beds c.requires.school
    c.deref.ensures.value) in
    let h = c.args.school in
    let round = c.in_ok-round.round in
    let bars = bar_each round.ceilings round.bars in
    let counted = are_counted s _ _ _ _ bars h _ _ c.state-state.ensures (c.dossier.view_is ∙ c.dossier-dossier.ensures)
    c.dossier.invariant c.in_ok-round.ensures.system c.in_ok-coming.ensures c.live_in_school.ensures in
    let is : c.need_of.result ≡ need_of (length (bed_holders s h))
    (length (bed_holders s h) + length (demanded_ranks s orders bars h)) =
    c.need_of.ensures ∙ rw (counted.live, counted.coming) refl in
    needs_least s orders c.args.ceilings.now h counted.valid c.requires.school c.requires.ceilings bars
    (subst (λ (sys : FallingSystem). IsGreatest sys bars) same c.in_ok-round.ensures.bars) c.need_of.result is

pub returns-clause-few : goal.returns-clause-few
returns-clause-few g c =
    let s = c.args.self.now.state in
    let orders = c.args.self.now.orders in
    let h = c.args.school in
    let round = c.in_ok-round.round in
    let bars = bar_each round.ceilings round.bars in
    let counted = are_counted s _ _ _ _ bars h _ _ c.state-state.ensures (c.dossier.view_is ∙ c.dossier-dossier.ensures)
    c.dossier.invariant c.in_ok-round.ensures.system c.in_ok-coming.ensures c.live_in_school.ensures in
    let is : c.need_of.result ≡ need_of (length (bed_holders s h))
    (length (bed_holders s h) + length (demanded_ranks s orders bars h)) =
    c.need_of.ensures ∙ rw (counted.live, counted.coming) refl in
    few_need s orders c.args.ceilings.now h counted.valid c.requires.school c.requires.ceilings bars c.need_of.result is

pub need_of-requires : goal.need_of-requires
need_of-requires g c =
    let s = c.args.self.now.state in
    let orders = c.args.self.now.orders in
    let h = c.args.school in
    let round = c.in_ok-round.round in
    let bars = bar_each round.ceilings round.bars in
    let counted = are_counted s _ _ _ _ bars h _ _ c.state-state.ensures (c.dossier.view_is ∙ c.dossier-dossier.ensures)
    c.dossier.invariant c.in_ok-round.ensures.system c.in_ok-coming.ensures c.live_in_school.ensures in
    let enough = few s orders c.args.ceilings.now h counted.valid c.requires.school c.requires.ceilings bars in
    omega (arith, counted.live, counted.coming, enough)

pub overflow_cast-coming : goal.overflow_cast-coming
overflow_cast-coming g c =
    let s = c.args.self.now.state in
    let orders = c.args.self.now.orders in
    let h = c.args.school in
    let round = c.in_ok-round.round in
    let bars = bar_each round.ceilings round.bars in
    let counted = are_counted s _ _ _ _ bars h _ _ c.state-state.ensures (c.dossier.view_is ∙ c.dossier-dossier.ensures)
    c.dossier.invariant c.in_ok-round.ensures.system c.in_ok-coming.ensures c.live_in_school.ensures in
    let enough = few s orders c.args.ceilings.now h counted.valid c.requires.school c.requires.ceilings bars in
    omega (arith, counted.coming, enough)

pub returns-clause-asked : goal.returns-clause-asked
returns-clause-asked g c =
    let s = c.args.self.now.state in
    let orders = c.args.self.now.orders in
    let beds : c.in_ok-beds.beds.items ≡ own_beds s.dossier =
    c.in_ok-beds.ensures ∙ ap (λ (t : State). own_beds t.dossier) c.state-state.ensures in
    let same = ap (λ (t : State). boarding t orders c.args.ceilings.now)
    (put_lent s c.in_ok-beds.beds.items c.deref.result.now c.args.school 2000000000 beds c.requires.school
    c.deref.ensures.value) in
    asked_found _ (asked_named _ _ _ _ _ _ _ same c.in_ok-round.ensures.asked)

pub returns-in_err-beds-clause-asked : goal.returns-in_err-beds-clause-asked
returns-in_err-beds-clause-asked g c = asked_nobody _ c.from_residual.result _ _ _ c.from_residual.ensures.1

pub returns-in_err-round-clause-asked : goal.returns-in_err-round-clause-asked
returns-in_err-round-clause-asked g c =
    let s = c.args.self.now.state in
    let orders = c.args.self.now.orders in
    let beds : c.in_ok-beds.beds.items ≡ own_beds s.dossier =
    c.in_ok-beds.ensures ∙ ap (λ (t : State). own_beds t.dossier) c.state-state.ensures in
    let same = ap (λ (t : State). boarding t orders c.args.ceilings.now)
    (put_lent s c.in_ok-beds.beds.items c.deref.result.now c.args.school 2000000000 beds c.requires.school
    c.deref.ensures.value) in
    asked_in_vain c.from_residual-in_err-round.result _ c.from_residual-in_err-round.ensures.1
    (asked_named _ _ _ _ _ _ _ same c.in_err-round.ensures.asked)

pub returns-in_err-coming-clause-asked : goal.returns-in_err-coming-clause-asked
returns-in_err-coming-clause-asked g c =
    let s = c.args.self.now.state in
    let orders = c.args.self.now.orders in
    let beds : c.in_ok-beds.beds.items ≡ own_beds s.dossier =
    c.in_ok-beds.ensures ∙ ap (λ (t : State). own_beds t.dossier) c.state-state.ensures in
    let same = ap (λ (t : State). boarding t orders c.args.ceilings.now)
    (put_lent s c.in_ok-beds.beds.items c.deref.result.now c.args.school 2000000000 beds c.requires.school
    c.deref.ensures.value) in
    asked_found c.from_residual-in_err-coming.result (asked_named _ _ _ _ _ _ _ same c.in_ok-round.ensures.asked)
