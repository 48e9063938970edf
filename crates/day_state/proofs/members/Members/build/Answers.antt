use Rattle.std.proofs.Common.{List, ◌∙◌, ap, length, map, rules, subst, sym}
use Rattle.std.specs.List.Sorted.{IsNonDecreasingBy, IsPermutation}
use Rattle.std.proofs.lemmas.List.{length-map}
use Rattle.std.proofs.lemmas.List.Sorted.{IsNonDecreasingBy-from_sort_by_key}
use Rattle.day_state.specs.declared.numbers.SharedWish.{SharedWish}
use Rattle.day_state.specs.Members.{AreBegins, BeginsRise}
use Rattle.day_state.proofs.ByNumber.{begins_rise, members_are}
use Rattle.day_state.proofs.members.Members.build.Goals as goal

pub begins_of-requires : goal.begins_of-requires
begins_of-requires c =
    subst (λ (xs : List SharedWish). IsNonDecreasingBy (λ (e : SharedWish). e.number) xs) (sym c.deref.ensures.value)
    (IsNonDecreasingBy-from_sort_by_key (λ (e : SharedWish). e.number) _ c.sort_unstable_by_key.ensures.sorted
    (λ a r q k. search rules))

pub invariant_of-result : goal.invariant_of-result
invariant_of-result c =
    let sorted = c.sort_unstable_by_key.new.self.items in
    let begins = c.in_ok-begins.begins.items in
    let are = subst (λ (xs : List SharedWish). AreBegins xs begins) c.deref.ensures.value c.in_ok-begins.ensures in
    let long = ap (λ xs. length xs) c.in_ok-wishes.ensures
    ∙ length-map c.deref-2.result.now (λ (e : SharedWish). e.wish)
    ∙ ap (λ (xs : List SharedWish). length xs) c.deref-2.ensures.value in
    subst (λ n. BeginsRise n begins) (sym long) (begins_rise sorted begins are)

pub returns : goal.returns
returns c =
    let sorted = c.sort_unstable_by_key.new.self.items in
    let begins = c.in_ok-begins.begins.items in
    let are = subst (λ (xs : List SharedWish). AreBegins xs begins) c.deref.ensures.value c.in_ok-begins.ensures in
    members_are c.args.entries.now sorted c.in_ok-wishes.wishes.items begins
    (subst (λ (xs : List SharedWish). IsPermutation xs sorted)
    (c.in_ok-sorted.ensures.items_if_clones_equal (λ y e same. same)) c.sort_unstable_by_key.ensures.permutation)
    (c.in_ok-wishes.ensures ∙ ap (map (λ (e : SharedWish). e.wish)) c.deref-2.ensures.value) are
