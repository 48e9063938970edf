use Rattle.std.proofs.Common.{ℕ, ◌+◌, ◌-◌, ◌<◌, ◌≡◌, List, [], subst, length, true, false, ◌∙◌, sym, ap, arith, get_or}
use Rattle.linked_demand.specs.Links.{NeedsSeatAlone}
use Rattle.linked_demand.specs.Wants.{wants_along}
use Rattle.linked_demand.proofs.Reach.{next_found, next_passed}
use Rattle.linked_demand.proofs.Walking.{length-wants, wants_read}
use Rattle.linked_demand.proofs.line.next_wanting.Goals as goal

pub returns-then-wants_alone-clause-place : goal.returns-then-wants_alone-clause-place
returns-then-wants_alone-clause-place c =
    let s = c.args.state.now in
    let opens = c.args.opens.now in
    let claims = c.args.claims.now in
    let i : ℕ = c.loop-at.at in
    let within : i < length claims = omega (arith, c.loop-at-test.true, c.count-count.ensures) in
    let back : i + 1 - 1 ≡ i = omega arith in
    let read : c.at.result.now ≡ get_or claims i [] = c.at.ensures ∙ ap (λ (j : ℕ). get_or claims j []) back in
    let lt : i < length (wants_along s opens claims) = omega (arith, within, length-wants s opens claims) in
    let set = wants_read s opens claims i c.at.result.now c.wants_alone.result true within read
    c.wants_alone.ensures c.if-wants_alone.true in
    sym (next_found (wants_along s opens claims) i lt set) ∙ c.loop-at.invariant.1

pub wants_alone-requires-clause-alone : goal.wants_alone-requires-clause-alone
wants_alone-requires-clause-alone c =
    let claims = c.args.claims.now in
    let i : ℕ = c.loop-at.at in
    let within : i < length claims = omega (arith, c.loop-at-test.true, c.count-count.ensures) in
    let back : i + 1 - 1 ≡ i = omega arith in
    let read : c.at.result.now ≡ get_or claims i [] = c.at.ensures ∙ ap (λ (j : ℕ). get_or claims j []) back in
    let P = λ (ks : List ℕ). NeedsSeatAlone c.args.state.now c.args.opens.now ks in
    subst P (sym read) (c.requires.alone i within)

pub loop-at-preserved : goal.loop-at-preserved
loop-at-preserved c =
    let s = c.args.state.now in
    let opens = c.args.opens.now in
    let claims = c.args.claims.now in
    let i : ℕ = c.loop-at.at in
    let within : i < length claims = omega (arith, c.loop-at-test.true, c.count-count.ensures) in
    let back : i + 1 - 1 ≡ i = omega arith in
    let read : c.at.result.now ≡ get_or claims i [] = c.at.ensures ∙ ap (λ (j : ℕ). get_or claims j []) back in
    let lt : i < length (wants_along s opens claims) = omega (arith, within, length-wants s opens claims) in
    let unset = wants_read s opens claims i c.at.result.now c.wants_alone.result false within read
    c.wants_alone.ensures c.if-wants_alone.false in
    (omega (arith, within), next_passed (wants_along s opens claims) i lt unset ∙ c.loop-at.invariant.1)
