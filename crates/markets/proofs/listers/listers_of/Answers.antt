use Rattle.std.proofs.Common.{ℕ, List, ◌≡◌, arith, length, subst, sym}
use Rattle.std.specs.Prelude.{IsTrue}
use Rattle.std.proofs.lemmas.Bool.{false≢true}
use Rattle.admit_core.specs.Lists.{is_among}
use Rattle.markets.specs.Listers.{AreListers, ArePutIn}
use Rattle.markets.specs.Markets.{is_list_below}
use Rattle.markets.proofs.Listing.{listers_start, listers_more}
use Rattle.markets.proofs.Reading.{list_read, none_below}
use Rattle.markets.proofs.listers.listers_of.Goals as goal

pub loop-place-preserved : goal.loop-place-preserved
loop-place-preserved c =
    let k : ℕ = c.loop-place.place in
    let lists : List (List ℕ) = c.args.lists.now in
    let read = list_read lists k c.index-lists-place.result c.as_slice.result.now c.loop-place-test.true
    c.index-lists-place.is
    c.as_slice.ensures in
    let P : List ℕ → Type 0 = λ xs. ArePutIn (λ p. is_among p xs) (λ p. k) c.loop-place.rows.items
    c.put_in_rows.new.rows.items in
    listers_more lists c.args.count k c.loop-place.rows.items c.put_in_rows.new.rows.items c.loop-place.invariant
    (subst P read c.in_ok-put_in_rows.ensures.put)

pub loop-place-init : goal.loop-place-init
loop-place-init c = listers_start c.args.lists.now c.args.count c.in_ok-rows.rows.items c.in_ok-rows.ensures.empty

pub put_in_rows-requires : goal.put_in_rows-requires
put_in_rows-requires c =
    let k : ℕ = c.loop-place.place in
    let read = list_read c.args.lists.now k c.index-lists-place.result c.as_slice.result.now c.loop-place-test.true
    c.index-lists-place.is c.as_slice.ensures in
    let P : ℕ → List ℕ → Type 0 = λ n xs. IsTrue (is_list_below n xs) in
    subst (λ n. P n c.as_slice.result.now) (sym c.loop-place.invariant.one_each)
    (subst (P c.args.count) (sym read) (c.requires.lists k c.loop-place-test.true))

pub returns-clause-listers : goal.returns-clause-listers
returns-clause-listers c =
    let P = λ (n : ℕ). AreListers c.args.lists.now c.args.count n c.loop-place.rows.items in
    let all : c.loop-place.place ≡ length c.args.lists.now =
    omega (arith, c.loop-place-test.false, c.loop-place.auto.place-end) in
    subst P all c.loop-place.invariant

pub returns-in_err-put_in_rows-clause-always : goal.returns-in_err-put_in_rows-clause-always
returns-in_err-put_in_rows-clause-always c =
    let k : ℕ = c.loop-place.place in
    let read = list_read c.args.lists.now k c.index-lists-place.result c.as_slice.result.now c.loop-place-test.true
    c.index-lists-place.is c.as_slice.ensures in
    let P : ℕ → List ℕ → Type 0 = λ n xs. IsTrue (is_list_below n xs) in
    λ none.
    let below = subst (λ n. P n c.as_slice.result.now) none
    (subst (P c.args.count) (sym read) (c.requires.lists k c.loop-place-test.true)) in
    absurd (false≢true (c.in_err-put_in_rows.ensures.always (none_below c.as_slice.result.now below)))
