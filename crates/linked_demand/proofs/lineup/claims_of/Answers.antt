use Rattle.std.proofs.Common.{ℕ, ◌+◌, ◌<◌, List, length, ap, sym, ◌∙◌, arith, subst}
use Rattle.linked_demand.proofs.Seating.{IsBuilt, built_none, built_more, built_all}
use Rattle.linked_demand.specs.Called.{called_for}
use Rattle.linked_demand.specs.declared.calling.CalledWish.{CalledWish}
use Rattle.linked_demand.specs.CalledWishes.{called_wish_at, called_wishes_for}
use Rattle.std.proofs.lemmas.List.{length-map}
use Rattle.linked_demand.proofs.Dealing.{row_taken, rows_later}
use Rattle.linked_demand.proofs.lineup.claims_of.Goals as goal

pub loop-programme-init : goal.loop-programme-init
loop-programme-init c = record {
  built = built_none c.args.state.now.dossier c.args.orders.now.orders c.in_ok-claims.claims.items
      c.args.notes.now c.in_ok-claims.ensures.items c.requires.notes;
  called = c.in_ok-called.ensures;
}

pub line_up-requires-clause-programme : goal.line_up-requires-clause-programme
line_up-requires-clause-programme c =
    let P = λ (n : ℕ). c.loop-programme.programme < n in
    subst P c.programme_count-programmes.ensures.count c.loop-programme-test.true

pub line_up-requires-clause-once : goal.line_up-requires-clause-once
line_up-requires-clause-once c = c.line_once.ensures.once c.loop-programme.programme

pub line_up-requires-clause-called : goal.line_up-requires-clause-called
line_up-requires-clause-called c =
    let d = c.args.state.now.dossier in
    let orders = c.args.orders.now.orders in
    let n = c.loop-programme.programme in
    let P = λ (count : ℕ). n < count in
    let row = row_taken n (length d.programmes) (called_wishes_for d orders) c.loop-programme.called.items
    c.replace-row.result _ (subst P c.programme_count-programmes.ensures.count c.loop-programme-test.true)
    (c.replace-row.ensures.value ∙ c.index_mut.ensures.value) c.loop-programme.invariant.called in
    c.deref.ensures.value ∙ row

pub line_up-requires-clause-few : goal.line_up-requires-clause-few
line_up-requires-clause-few c =
    let d = c.args.state.now.dossier in
    let orders = c.args.orders.now.orders in
    let n = c.loop-programme.programme in
    let P = λ (count : ℕ). n < count in
    let row = row_taken n (length d.programmes) (called_wishes_for d orders) c.loop-programme.called.items
    c.replace-row.result _ (subst P c.programme_count-programmes.ensures.count c.loop-programme-test.true)
    (c.replace-row.ensures.value ∙ c.index_mut.ensures.value) c.loop-programme.invariant.called in
    omega (
      arith,
      ap (λ (l : List CalledWish). length l) (c.deref.ensures.value ∙ row),
      length-map (called_for d orders n) (called_wish_at d orders),
      c.line_once.ensures.few n,
    )

pub line_up-requires-clause-seated : goal.line_up-requires-clause-seated
line_up-requires-clause-seated c = c.loop-programme.invariant.built.seated

pub loop-programme-preserved : goal.loop-programme-preserved
loop-programme-preserved c =
    let d = c.args.state.now.dossier in
    let orders = c.args.orders.now.orders in
    let n = c.loop-programme.programme in
    let notes = c.line_up.new.notes in
    let P = λ (cs : List (List (List ℕ))). IsBuilt d orders (n + 1) cs notes in
    let built =
    subst P (sym c.in_ok-push.ensures.items)
    (built_more d orders n c.loop-programme.claims.items c.loop-programme.notes c.in_ok-own.own notes
    c.call_everyone.ensures c.loop-programme.invariant.built c.in_ok-own.ensures.claims c.in_ok-own.ensures.seated) in
    record {
      built = built;
      called = rows_later n (length d.programmes) (called_wishes_for d orders) c.loop-programme.called.items
          c.replace-row.new.dest c.loop-programme.invariant.called;
    }

pub returns : goal.returns
returns c =
    built_all c.args.state.now.dossier c.args.orders.now.orders c.loop-programme.programme
    c.loop-programme.claims.items c.loop-programme.notes
    (omega (
      arith,
      c.loop-programme-test.false,
      c.loop-programme.auto.programme-end,
      c.programme_count-programmes.ensures.count,
    ))
    (λ k lt. omega (
      arith,
      c.programme_count-programmes.ensures.each k lt,
      c.programme_count-programmes.ensures.count,
    )) c.loop-programme.invariant.built
