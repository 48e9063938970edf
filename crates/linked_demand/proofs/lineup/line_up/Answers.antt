use Rattle.std.proofs.Common.{ℕ, ◌-◌, ◌<◌, ◌≤◌, ◌≡◌, ◌++◌, [], ◌∷◌, List, length, arith, get_or, sym, ap, subst, refl}
use Rattle.std.proofs.Common.{◌∙◌}
use Rattle.std.specs.Prelude.{All, nat_lt}
use Rattle.linked_demand.specs.Ends.{spans_from}
use Rattle.linked_demand.specs.Notes.{IsNoted}
use Rattle.linked_demand.specs.Opens.{line_of}
use Rattle.linked_demand.proofs.Lining.{claim_within}
use Rattle.linked_demand.proofs.LineWalk.{bounds_within, claim_taken, few_ends, found_before, nobody, rest_read}
use Rattle.linked_demand.proofs.LineWalk.{walked_all, walked_more, walked_none}
use Rattle.linked_demand.proofs.lineup.line_up.Goals as goal

pub loop-wishes-init : goal.loop-wishes-init
loop-wishes-init c =
    walked_none c.args.state.now.dossier c.args.orders.now.orders c.args.programme c.args.called.now
    c.in_ok-wishes.wishes.items c.push.new.self.items c.args.notes.now c.in_ok-wishes.ensures.items
    (c.in_ok-push.ensures.items ∙ ap (λ (l : List ℕ). l ++ 0 ∷ []) c.in_ok-bounds.ensures.items) c.requires.seated

pub overflow_cast-place : goal.overflow_cast-place
overflow_cast-place c =
    let d = c.args.state.now.dossier in
    let orders = c.args.orders.now.orders in
    let called = c.args.called.now in
    let by = c.loop-wishes.invariant in
    let lt : length c.loop-wishes.wishes.items < length called = omega (
      arith,
      c.loop-wishes-test.true,
      c.len.ensures,
    ) in
    let few = few_ends d orders c.args.programme called c.requires.called c.requires.once by.walked lt in
    let found = found_before d orders c.args.programme called c.requires.called c.requires.once by in
    omega (arith, c.len-in-loop-wishes.ensures, few, lt, found, c.requires.few)

pub overflow_sub-place : goal.overflow_sub-place
overflow_sub-place c =
    let found = found_before c.args.state.now.dossier c.args.orders.now.orders c.args.programme c.args.called.now
    c.requires.called c.requires.once c.loop-wishes.invariant in
    omega (arith, c.len-in-loop-wishes.ensures, found)

pub note-requires-clause-fits : goal.note-requires-clause-fits
note-requires-clause-fits c =
    let d = c.args.state.now.dossier in
    let orders = c.args.orders.now.orders in
    let called = c.args.called.now in
    let by = c.loop-wishes.invariant in
    let lt : length c.loop-wishes.wishes.items < length called = omega (
      arith,
      c.loop-wishes-test.true,
      c.len.ensures,
    ) in
    let few = few_ends d orders c.args.programme called c.requires.called c.requires.once by.walked lt in
    let found = found_before d orders c.args.programme called c.requires.called c.requires.once by in
    omega (arith, c.len-in-loop-wishes.ensures, few, lt, found, c.requires.few)

pub note-requires-clause-within : goal.note-requires-clause-within
note-requires-clause-within c =
    let d = c.args.state.now.dossier in
    let orders = c.args.orders.now.orders in
    let p = c.args.programme in
    let by = c.loop-wishes.invariant in
    let lt : length c.loop-wishes.wishes.items < length c.args.called.now = omega (
      arith,
      c.loop-wishes-test.true,
      c.len.ensures,
    ) in
    let n = length c.loop-wishes.notes.places in
    let taken = claim_taken d orders p c.args.called.now c.requires.called c.requires.once by.walked lt
    c.in_ok-take_claim.ensures.front c.in_ok-take_claim.ensures.further c.in_ok-take_claim.ensures.run in
    let read = rest_read c.deref.result.now c.take_claim.new.wishes.items c.len-from.result
    (length c.loop-wishes.wishes.items) c.deref.ensures.value (omega (arith, c.len-from.ensures)) in
    let P = λ (ks : List ℕ). All (λ k. k < n) ks in
    subst P (sym (read ∙ taken))
    (claim_within d p (get_or (line_of d orders p) (length (spans_from 0 by.ends)) 0) n
    by.walked.lined.seated.one_each)

pub loop-wishes-preserved : goal.loop-wishes-preserved
loop-wishes-preserved c =
    let d = c.args.state.now.dossier in
    let orders = c.args.orders.now.orders in
    let p = c.args.programme in
    let called = c.args.called.now in
    let next = c.take_claim.new.wishes.items in
    let by = c.loop-wishes.invariant in
    let lt : length c.loop-wishes.wishes.items < length called = omega (
      arith,
      c.loop-wishes-test.true,
      c.len.ensures,
    ) in
    let read = rest_read c.deref.result.now next c.len-from.result (length c.loop-wishes.wishes.items)
    c.deref.ensures.value (omega (arith, c.len-from.ensures)) in
    let end : c.len-in-loop-wishes-2.result ≡ length next = omega (arith, c.len-in-loop-wishes-2.ensures) in
    let found = found_before d orders p called c.requires.called c.requires.once by in
    let is_called = c.is_called_by_limit-is_called.result in
    let Q = λ (ks : List ℕ). IsNoted ks (c.len-in-loop-wishes.result - 1) is_called c.loop-wishes.notes
    c.note.new.self in
    record {
      ends = by.ends ++ length next ∷ [];
      bounds_are =
          c.in_ok-push-2.ensures.items ∙ ap (λ k. c.loop-wishes.bounds.items ++ k ∷ []) end
          ∙ ap (λ (l : List ℕ). l ++ length next ∷ []) by.bounds_are;
      walked = walked_more d orders p called c.requires.called c.requires.once by.walked lt
          c.in_ok-take_claim.ensures.front c.in_ok-take_claim.ensures.further c.in_ok-take_claim.ensures.run
          (by.ends ++ length next ∷ []) c.note.new.self
          (c.len-in-loop-wishes.result - 1) is_called c.len-from.result refl
          (omega (arith, c.len-in-loop-wishes.ensures, found)) (omega (arith, c.len-from.ensures))
          (c.is_called_by_limit-is_called.ensures
          ∙ ap (nat_lt (get_or called c.len-from.result nobody).before) c.limit_of-limit.ensures)
          (subst Q read c.note.ensures);
    }

pub new-requires : goal.new-requires
new-requires c =
    let le : length c.args.called.now ≤ length c.loop-wishes.wishes.items = omega (
      arith,
      c.loop-wishes-test.false,
      c.len.ensures,
    ) in
    bounds_within c.args.state.now.dossier c.args.orders.now.orders c.args.programme c.args.called.now
    c.requires.called c.requires.once c.loop-wishes.invariant le

pub returns-clause-claims : goal.returns-clause-claims
returns-clause-claims c =
    let le : length c.args.called.now ≤ length c.loop-wishes.wishes.items = omega (
      arith,
      c.loop-wishes-test.false,
      c.len.ensures,
    ) in
    c.new.ensures
    ∙ (walked_all c.args.state.now.dossier c.args.orders.now.orders c.args.programme c.args.called.now
    c.requires.called c.requires.once c.loop-wishes.invariant le).0

pub returns-clause-seated : goal.returns-clause-seated
returns-clause-seated c =
    let le : length c.args.called.now ≤ length c.loop-wishes.wishes.items = omega (
      arith,
      c.loop-wishes-test.false,
      c.len.ensures,
    ) in
    (walked_all c.args.state.now.dossier c.args.orders.now.orders c.args.programme c.args.called.now
    c.requires.called c.requires.once c.loop-wishes.invariant le).1
