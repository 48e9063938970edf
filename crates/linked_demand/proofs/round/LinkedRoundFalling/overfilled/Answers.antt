use Rattle.std.proofs.Common.{rules, ◌≡◌, ◌∙◌, ap, length, refl, sym}
use Rattle.std.proofs.lemmas.Bool.{eq-eqb, eqb-true, false≢true}
use Rattle.std.proofs.lemmas.List.{nil_from_length}
use Rattle.linked_demand.proofs.Rounding.{overfilled_seen}
use Rattle.linked_demand.proofs.round.LinkedRoundFalling.overfilled.Goals as goal

pub returns-then-is_empty-clause-places : goal.returns-then-is_empty-clause-places
returns-then-is_empty-clause-places c =
    let places = c.places-places.result.now in
    let none : length places ≡ 0 = eqb-true (length places) 0 (sym c.is_empty.ensures ∙ c.if-is_empty.true) in
    c.new.ensures.items ∙ sym (nil_from_length places none) ∙ c.places-places.ensures
    ∙ overfilled_seen _ c.self.invariant.under c.self.view_is c.self.invariant.beds_each refl

pub returns-clause-places : goal.returns-clause-places
returns-clause-places c =
    let copied : c.in_ok-to_vec.field-0.items ≡ c.places-places.result.now = search rules in
    copied ∙ c.places-places.ensures
    ∙ overfilled_seen _ c.self.invariant.under c.self.view_is c.self.invariant.beds_each refl

pub returns-in_err-to_vec-clause-always : goal.returns-in_err-to_vec-clause-always
returns-in_err-to_vec-clause-always c = λ empty.
    let places = c.places-places.result.now in
    let none : length places ≡ 0 = ap length (c.places-places.ensures
    ∙ overfilled_seen _ c.self.invariant.under c.self.view_is c.self.invariant.beds_each refl ∙ empty) in
    absurd (false≢true (sym (sym c.is_empty.ensures ∙ c.if-is_empty.false) ∙ eq-eqb (length places) 0 none))
