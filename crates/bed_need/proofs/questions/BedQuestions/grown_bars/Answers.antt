use Rattle.std.proofs.Common.{◌≡◌, ◌∙◌, ◌+◌, ap, arith, subst}
use Rattle.admit_core.specs.Boarding.{boarding}
use Rattle.admit_core.specs.DossierRows.{beds_of}
use Rattle.admit_core.specs.Falls.{FallingSystem, IsGreatest}
use Rattle.admit_core.specs.State.{State}
use Rattle.linked_demand.specs.Lent.{own_beds}
use Rattle.linked_demand.proofs.Lent.{lent_these}
use Rattle.bed_need.specs.Growing.{with_more_beds}
use Rattle.bed_need.proofs.Growing.{bars_do_not_fall}
use Rattle.bed_need.proofs.LentBeds.{more_lent}
use Rattle.bed_need.proofs.Telling.{asked_both, asked_first, asked_named, asked_neither, asked_second}
use Rattle.bed_need.proofs.questions.BedQuestions.grown_bars.Goals as goal

pub returns-clause-growth : goal.returns-clause-growth
returns-clause-growth g c =
    let s = c.args.self.now.state in
    let orders = c.args.self.now.orders in
    let own : c.deref.result.now ≡ own_beds s.dossier =
    c.deref.ensures.value ∙ c.in_ok-beds.ensures ∙ ap (λ (t : State). own_beds t.dossier) c.state.ensures in
    let first = ap (λ (t : State). boarding t orders c.args.low.now) (lent_these s c.deref.result.now own) in
    let beds : c.in_ok-beds.beds.items ≡ own_beds s.dossier =
    c.in_ok-beds.ensures ∙ ap (λ (t : State). own_beds t.dossier) c.state.ensures in
    let second = ap (λ (t : State). boarding t orders c.args.high.now)
    (more_lent s c.in_ok-beds.beds.items c.deref-2.result.now c.args.given.school c.index_mut.result.now
    c.args.given.beds beds c.requires.school c.index_mut.ensures.value c.deref-2.ensures.value) in
    let before = subst (λ (sys : FallingSystem). IsGreatest sys c.in_ok-before.before.items) first
    c.in_ok-before.ensures.bars in
    let after : IsGreatest (with_more_beds s orders c.args.high.now c.args.given.school c.args.given.beds)
    c.in_ok-after.after.items =
    subst (λ (sys : FallingSystem). IsGreatest sys c.in_ok-after.after.items) second c.in_ok-after.ensures.bars in
    record {
      before = before;
      after = after;
      rises =
          bars_do_not_fall s orders c.args.low.now c.args.high.now c.in_ok-before.before.items
          c.in_ok-after.after.items c.args.given.school
          (beds_of s.dossier c.args.given.school + c.args.given.beds) c.requires.ceilings c.requires.rise (omega arith)
          before after;
    }

pub returns-clause-asked : goal.returns-clause-asked
returns-clause-asked g c =
    let s = c.args.self.now.state in
    let orders = c.args.self.now.orders in
    let own : c.deref.result.now ≡ own_beds s.dossier =
    c.deref.ensures.value ∙ c.in_ok-beds.ensures ∙ ap (λ (t : State). own_beds t.dossier) c.state.ensures in
    let first = ap (λ (t : State). boarding t orders c.args.low.now) (lent_these s c.deref.result.now own) in
    let beds : c.in_ok-beds.beds.items ≡ own_beds s.dossier =
    c.in_ok-beds.ensures ∙ ap (λ (t : State). own_beds t.dossier) c.state.ensures in
    let second = ap (λ (t : State). boarding t orders c.args.high.now)
    (more_lent s c.in_ok-beds.beds.items c.deref-2.result.now c.args.given.school c.index_mut.result.now
    c.args.given.beds beds c.requires.school c.index_mut.ensures.value c.deref-2.ensures.value) in
    asked_both _ _ _ _ c.in_ok-before.before _ _ _ _
    (asked_named _ _ _ _ _ _ _ first c.in_ok-before.ensures.asked) _ c.in_ok-after.after
    (asked_named _ _ _ _ _ _ _ second c.in_ok-after.ensures.asked)

pub returns-in_err-beds-clause-asked : goal.returns-in_err-beds-clause-asked
returns-in_err-beds-clause-asked g c = asked_neither _ _ _ _ c.from_residual.result _ c.from_residual.ensures.1

pub returns-in_err-before-clause-asked : goal.returns-in_err-before-clause-asked
returns-in_err-before-clause-asked g c =
    let s = c.args.self.now.state in
    let orders = c.args.self.now.orders in
    let own : c.deref.result.now ≡ own_beds s.dossier =
    c.deref.ensures.value ∙ c.in_ok-beds.ensures ∙ ap (λ (t : State). own_beds t.dossier) c.state.ensures in
    let first = ap (λ (t : State). boarding t orders c.args.low.now) (lent_these s c.deref.result.now own) in
    asked_first _ _ _ _ c.from_residual-in_err-before.result _ c.in_err-before.field-0.0 _ _
    c.from_residual-in_err-before.ensures.1 (asked_named _ _ _ _ _ _ _ first c.in_err-before.ensures.asked)

pub returns-in_err-after-clause-asked : goal.returns-in_err-after-clause-asked
returns-in_err-after-clause-asked g c =
    let s = c.args.self.now.state in
    let orders = c.args.self.now.orders in
    let own : c.deref.result.now ≡ own_beds s.dossier =
    c.deref.ensures.value ∙ c.in_ok-beds.ensures ∙ ap (λ (t : State). own_beds t.dossier) c.state.ensures in
    let first = ap (λ (t : State). boarding t orders c.args.low.now) (lent_these s c.deref.result.now own) in
    let beds : c.in_ok-beds.beds.items ≡ own_beds s.dossier =
    c.in_ok-beds.ensures ∙ ap (λ (t : State). own_beds t.dossier) c.state.ensures in
    let second = ap (λ (t : State). boarding t orders c.args.high.now)
    (more_lent s c.in_ok-beds.beds.items c.deref-2.result.now c.args.given.school c.index_mut.result.now
    c.args.given.beds beds c.requires.school c.index_mut.ensures.value c.deref-2.ensures.value) in
    asked_second _ _ _ _ c.in_ok-before.before _ _ _ _
    (asked_named _ _ _ _ _ _ _ first c.in_ok-before.ensures.asked) c.from_residual-in_err-after.result _
    c.in_err-after.field-0.0 c.from_residual-in_err-after.ensures.1
    (asked_named _ _ _ _ _ _ _ second c.in_err-after.ensures.asked)
