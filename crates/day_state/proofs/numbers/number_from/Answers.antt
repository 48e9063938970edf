use Rattle.std.proofs.Common.{sym, ◌∙◌, ap, ◌==◌, ◌≡◌, ◌<◌, ◌≤◌, false, length, subst, arith}
use Rattle.std.proofs.lemmas.Bool.{eq-eqb, ne_eqb}
use Rattle.std.proofs.lemmas.List.{get_or_read}
use Rattle.day_state.specs.declared.numbers.SharedWish.{SharedWish}
use Rattle.day_state.proofs.Entries.{all_more, apart_blocks, number_here, number_nowhere}
use Rattle.day_state.proofs.numbers.number_from.Goals as goal

pub loop-place-init : goal.loop-place-init
loop-place-init c = apart_blocks c.args.entries.now.items c.args.start c.args.wish c.requires

pub returns-then-index-wish : goal.returns-then-index-wish
returns-then-index-wish c =
    let entries = c.args.entries.now.items in
    let i = c.loop-place.place in
    let lt : i < length entries =
    omega (arith, c.loop-place-test.true, c.len-place-end.ensures, c.args.entries.now.ok.0) in
    let seen : SharedWish = c.index.result.now in
    let e : SharedWish = c.index-then-index-wish.result.now in
    let same : e ≡ seen = c.index-then-index-wish.ensures ∙ sym (get_or_read entries i seen lt c.index.ensures e) in
    number_here entries i c.args.wish e e lt c.loop-place.invariant c.index-then-index-wish.ensures
    (eq-eqb e.wish c.args.wish (ap (λ (x : SharedWish). x.wish) same ∙ c.if-index-wish.true))

pub loop-place-preserved : goal.loop-place-preserved
loop-place-preserved c =
    let entries = c.args.entries.now.items in
    let i = c.loop-place.place in
    let lt : i < length entries =
    omega (arith, c.loop-place-test.true, c.len-place-end.ensures, c.args.entries.now.ok.0) in
    let e : SharedWish = c.index.result.now in
    let P = λ (x : SharedWish). (x.wish == c.args.wish) ≡ false in
    all_more P entries i e lt c.loop-place.invariant
    (subst P c.index.ensures (ne_eqb e.wish c.args.wish c.if-index-wish.false))

pub returns : goal.returns
returns c =
    let entries = c.args.entries.now.items in
    let le : length entries ≤ c.loop-place.place =
    omega (arith, c.loop-place-test.false, c.len-place-end.ensures, c.args.entries.now.ok.0) in
    number_nowhere entries c.loop-place.place c.args.wish le c.loop-place.invariant
