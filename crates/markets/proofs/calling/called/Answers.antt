use Rattle.std.proofs.Common.{◌<◌, ℕ, All, List, ap, length, map, slice_index, subst, sym, ◌∙◌}
use Rattle.std.specs.List.Sorted.{IsPermutation}
use Rattle.std.proofs.lemmas.List.Sorted.{IsNonDecreasingBy-from_sort}
use Rattle.markets.proofs.Walking.{are_places, called_are, have_places}
use Rattle.markets.proofs.calling.called.Goals as goal

pub places_of-requires : goal.places_of-requires
places_of-requires c =
    have_places c.args.numbers.now c.args.places.now c.args.listers.now c.requires.noted c.requires.called

pub numbers_at-requires : goal.numbers_at-requires
numbers_at-requires c =
    let numbers : List ℕ = c.args.numbers.now in
    let found : List ℕ = c.sort_unstable.new.self.items in
    subst (λ (ks : List ℕ). All (λ i. i < length numbers) ks) (sym c.deref.ensures.value)
    (are_places numbers c.args.places.now c.args.listers.now c.requires.noted c.requires.called found
    (subst (λ xs. IsPermutation xs found) c.in_ok-found.ensures c.sort_unstable.ensures.permutation))

pub returns : goal.returns
returns c =
    let numbers : List ℕ = c.args.numbers.now in
    let found : List ℕ = c.sort_unstable.new.self.items in
    c.from_vec.ensures ∙ c.in_ok-order.ensures ∙ ap (map (slice_index numbers)) c.deref.ensures.value
    ∙ called_are numbers c.args.places.now c.args.listers.now c.requires.noted c.requires.called found
    (subst (λ xs. IsPermutation xs found) c.in_ok-found.ensures c.sort_unstable.ensures.permutation)
    (IsNonDecreasingBy-from_sort (λ n. n) found c.sort_unstable.ensures.sorted)
