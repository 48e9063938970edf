use Rattle.std.proofs.Common.{◌≡◌, ◌<◌, ℕ, List, filter, length, slice_index, ap, subst, ◌∙◌, arith}
use Rattle.std.proofs.lemmas.List.{length-set}
use Rattle.admit_core.specs.DossierRows.{DossierRows}
use Rattle.admit_core.specs.Lists.{is_among}
use Rattle.admit_core.specs.Proposals.{order_of}
use Rattle.admit_core.specs.Validity.{IsValid}
use Rattle.markets.specs.Dossiers.{called_in, counted, lists_in}
use Rattle.markets.specs.Listers.{naming}
use Rattle.markets.proofs.Called.{called_by_listers, named_few, orders_each}
use Rattle.markets.proofs.Calls.{are_called, done_all, done_more, done_none, place_within, walked_at}
use Rattle.markets.proofs.Listing.{row_is}
use Rattle.markets.proofs.Walking.{walk_begun}
use Rattle.markets.proofs.named.orders_along.Goals as goal

pub loop-programme-init : goal.loop-programme-init
loop-programme-init c =
    let d = c.args.dossier.now in
    let orders = c.args.orders.now.orders in
    record {
      walk = walk_begun c.args.names.now.keys orders c.in_ok-walk.walk c.in_ok-walk.ensures.group
          c.in_ok-walk.ensures.numbers c.in_ok-walk.ensures.places;
      as_many = c.in_ok-done.ensures;
      each =
          done_none (λ p. called_in (counted d) p (order_of d orders p)) c.args.programmes.now
          c.in_ok-done.done.items;
    }

pub group_at-group-requires-clause-programme : goal.group_at-group-requires-clause-programme
group_at-group-requires-clause-programme c =
    place_within (length c.args.dossier.now.programmes) c.loop-programme.programme-index c.args.programmes.now
    c.requires.programmes c.loop-programme-test.true

pub group_at-group-requires-clause-orders : goal.group_at-group-requires-clause-orders
group_at-group-requires-clause-orders c =
    let P : DossierRows → Type 0 = IsValid in
    orders_each c.args.dossier.now (subst P c.dossier.view_is c.dossier.invariant) c.args.orders.now.orders
    c.requires.orders

pub bounds-rows-place : goal.bounds-rows-place
bounds-rows-place c =
    omega (
      arith,
      c.requires.rows.one_each,
      place_within (length c.args.dossier.now.programmes) c.loop-programme.programme-index c.args.programmes.now
          c.requires.programmes c.loop-programme-test.true,
    )

pub index_mut-requires : goal.index_mut-requires
index_mut-requires c =
    omega (
      arith,
      c.loop-programme.invariant.as_many,
      c.len-count.ensures,
      ap (λ (e : DossierRows). length e.programmes) c.dossier.view_is,
      place_within (length c.args.dossier.now.programmes) c.loop-programme.programme-index c.args.programmes.now
          c.requires.programmes c.loop-programme-test.true,
    )

pub enter-requires-clause-few : goal.enter-requires-clause-few
enter-requires-clause-few c =
    let P : DossierRows → Type 0 = IsValid in
    omega (
      arith,
      ap length c.requires.names,
      named_few c.args.dossier.now (subst P c.dossier.view_is c.dossier.invariant) c.args.orders.now.orders
          c.requires.orders,
    )

pub called-requires-clause-called : goal.called-requires-clause-called
called-requires-clause-called c =
    let d = c.args.dossier.now in
    let orders = c.args.orders.now.orders in
    let valid = (let P : DossierRows → Type 0 = IsValid in subst P c.dossier.view_is c.dossier.invariant) in
    let ws = counted d in
    let lists : List (List ℕ) = lists_in ws in
    let i : ℕ = c.loop-programme.programme-index in
    let p : ℕ = slice_index c.args.programmes.now i in
    let p_lt = place_within (length d.programmes) i c.args.programmes.now c.requires.programmes
    c.loop-programme-test.true in
    let walk = c.in_ok-enter.ensures.walk in
    are_called d valid orders c.requires.orders p c.enter.new.self.numbers.items c.enter.new.self.places.items
    c.as_slice.result.now
    (walked_at d orders p c.args.names.now.keys c.enter.new.self c.group_at-group.result c.requires.names walk
    c.in_ok-enter.ensures.entered c.group_at-group.ensures.group)
    (walk.one_each ∙ ap length c.requires.names)
    (c.as_slice.ensures.value
    ∙ row_is lists (length d.programmes) (length lists) p c.args.rows.now c.index-rows-place.result c.requires.rows p_lt
    c.index-rows-place.is)

pub loop-programme-preserved : goal.loop-programme-preserved
loop-programme-preserved c =
    let d = c.args.dossier.now in
    let orders = c.args.orders.now.orders in
    let ws = counted d in
    let lists : List (List ℕ) = lists_in ws in
    let programmes : List ℕ = c.args.programmes.now in
    let i : ℕ = c.loop-programme.programme-index in
    let p : ℕ = slice_index programmes i in
    let p_lt : p < length d.programmes = place_within (length d.programmes) i programmes c.requires.programmes
    c.loop-programme-test.true in
    let n_is : c.len-count.result ≡ length d.programmes = c.len-count.ensures
    ∙ ap (λ (e : DossierRows). length e.programmes) c.dossier.view_is in
    let done : List (List ℕ) = c.loop-programme.done.items in
    let listers : List ℕ = c.as_slice.result.now in
    let listers_are : listers ≡ naming lists p (length lists) = c.as_slice.ensures.value
    ∙ row_is lists (length d.programmes) (length lists) p c.args.rows.now c.index-rows-place.result c.requires.rows p_lt
    c.index-rows-place.is in
    let numbers_are = walked_at d orders p c.args.names.now.keys c.enter.new.self c.group_at-group.result
    c.requires.names c.in_ok-enter.ensures.walk c.in_ok-enter.ensures.entered c.group_at-group.ensures.group in
    record {
      walk = c.in_ok-enter.ensures.walk;
      as_many = length-set done p c.in_ok-done-2.field-0 ∙ c.loop-programme.invariant.as_many;
      each =
          done_more (λ q. called_in ws q (order_of d orders q)) programmes i c.in_ok-done-2.field-0 done
          c.loop-programme-test.true (omega (arith, p_lt, n_is, c.loop-programme.invariant.as_many))
          (c.in_ok-done-2.ensures ∙ ap (filter (λ x. is_among x listers)) numbers_are
          ∙ called_by_listers ws p (order_of d orders p) listers listers_are)
          c.loop-programme.invariant.each;
    }

pub returns : goal.returns
returns c =
    let d = c.args.dossier.now in
    let n_is = c.len-count.ensures ∙ ap (λ (e : DossierRows). length e.programmes) c.dossier.view_is in
    done_all (λ p. called_in (counted d) p (order_of d c.args.orders.now.orders p)) (length d.programmes)
    c.loop-programme.programme-index c.args.programmes.now c.loop-programme.done.items
    (c.loop-programme.invariant.as_many ∙ n_is) c.requires.programmes c.loop-programme-test.false
    c.loop-programme.invariant.each
