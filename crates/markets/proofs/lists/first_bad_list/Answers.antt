use Rattle.std.proofs.Common.{ℕ, List, ◌≡◌, ◌∙◌, Bool, not, length, replicate, sym, ap}
use Rattle.std.specs.Prelude.{position}
use Rattle.std.proofs.lemmas.Bool.{eqb-true}
use Rattle.std.proofs.lemmas.List.{length-replicate, nil_from_length}
use Rattle.markets.specs.Markets.{is_list_below}
use Rattle.markets.proofs.Stamping.{none_newer}
use Rattle.markets.proofs.lists.first_bad_list.Goals as goal

pub bad_among-requires-clause-fresh : goal.bad_among-requires-clause-fresh
bad_among-requires-clause-fresh c =
    none_newer c.args.count c.as_mut_slice.result.now
    (c.as_mut_slice.ensures.value ∙ c.in_ok-room.ensures.items_if_clones_equal (λ y e. e))

pub returns-clause-bad : goal.returns-clause-bad
returns-clause-bad c =
    let are : c.as_mut_slice.result.now ≡ replicate c.args.count 0 =
    c.as_mut_slice.ensures.value ∙ c.in_ok-room.ensures.items_if_clones_equal (λ y e. e) in
    let long : length c.as_mut_slice.result.now ≡ c.args.count = ap length are ∙ length-replicate c.args.count 0 in
    c.bad_among.ensures ∙ ap (λ n. position (λ list. not (is_list_below n list)) c.args.lists.now) long

pub returns-then-is_empty-clause-bad : goal.returns-then-is_empty-clause-bad
returns-then-is_empty-clause-bad c =
    let lists : List (List ℕ) = c.args.lists.now in
    let test : List ℕ → Bool = λ list. not (is_list_below c.args.count list) in
    let none : length lists ≡ 0 = eqb-true (length lists) 0 (sym c.is_empty.ensures ∙ c.if-is_empty.true) in
    ap (position test) (sym (nil_from_length lists none))
