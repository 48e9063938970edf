use Rattle.std.proofs.Common.{ℕ, List, [], ◌+◌, ◌-◌, ◌≡◌, Bool, None, Some, ap, arith, cond, length, nat_lt, not, refl}
use Rattle.std.proofs.Common.{subst, sym, ◌∙◌}
use Rattle.std.specs.List.{position_or_len}
use Rattle.std.proofs.lemmas.Bool.{le-ltb}
use Rattle.std.proofs.lemmas.List.Sums.{position_or_len_is}
use Rattle.markets.specs.Markets.{is_list_below}
use Rattle.markets.proofs.Firsts.{position_found}
use Rattle.markets.proofs.Stamping.{told_list, fresh_stood, stood_more}
use Rattle.markets.proofs.lists.bad_among.Goals as goal

pub loop-list-init : goal.loop-list-init
loop-list-init c = fresh_stood c.args.lists.now c.args.stamps.now c.requires.fresh

pub overflow_add-stamp : goal.overflow_add-stamp
overflow_add-stamp c = omega (arith, c.loop-list.invariant.stamp_is, c.loop-list-test.true, c.requires.few)

pub stamp_list-requires : goal.stamp_list-requires
stamp_list-requires c = λ q lt. omega (arith, c.loop-list.invariant.up_to q lt)

pub returns-then-not-stamp_list : goal.returns-then-not-stamp_list
returns-then-not-stamp_list c =
    let n : ℕ = length c.args.stamps.now in
    let k : ℕ = c.loop-list.list-index in
    let xs : List (List ℕ) = c.args.lists.now in
    let test : List ℕ → Bool = λ list. not (is_list_below n list) in
    let told = told_list n xs k c.list-item.result c.as_slice.result.now c.loop-list.stamps c.loop-list.stamps
    c.stamp_list.result c.loop-list-test.true c.list-item.is c.as_slice.ensures refl
    c.loop-list.invariant.as_many c.stamp_list.ensures.listed in
    let at : k ≡ c.loop-list.stamp + 1 - 1 = omega (arith, c.loop-list.invariant.stamp_is) in
    ap Some (sym at)
    ∙ sym (position_found test xs k [] c.loop-list-test.true c.loop-list.invariant.stood
    (ap not (sym told ∙ c.if-not-stamp_list.true)))

pub loop-list-preserved : goal.loop-list-preserved
loop-list-preserved c =
    let n : ℕ = length c.args.stamps.now in
    let k : ℕ = c.loop-list.list-index in
    let xs : List (List ℕ) = c.args.lists.now in
    let told = told_list n xs k c.list-item.result c.as_slice.result.now c.loop-list.stamps c.loop-list.stamps
    c.stamp_list.result c.loop-list-test.true c.list-item.is c.as_slice.ensures refl
    c.loop-list.invariant.as_many c.stamp_list.ensures.listed in
    stood_more n xs k c.loop-list.stamp c.loop-list.stamps c.stamp_list.new.stamps c.loop-list.invariant
    c.stamp_list.ensures.as_many c.stamp_list.ensures.up_to (sym told ∙ c.if-not-stamp_list.false)

pub returns : goal.returns
returns c =
    let xs : List (List ℕ) = c.args.lists.now in
    let test : List ℕ → Bool = λ list. not (is_list_below (length c.args.stamps.now) list) in
    let none : position_or_len test xs ≡ length xs = position_or_len_is test xs (length xs) [] (omega arith)
    (λ k lt. c.loop-list.invariant.stood k (omega (arith, lt, c.loop-list-test.false)))
    (λ h. absurd (omega (arith, h))) in
    let P : ℕ → Type 0 = λ k. cond (nat_lt k (length xs)) (Some k) None ≡ None in
    sym (subst P (sym none) (rw (le-ltb (length xs) (length xs) (omega arith)) refl))
