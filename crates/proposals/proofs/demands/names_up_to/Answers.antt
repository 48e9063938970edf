use Rattle.std.proofs.Common.{◌≡◌, ℕ, ◌+◌, ◌<◌, ◌∙◌, Bool, true, List, arith, ap, drop, filter, get_or, length, le-leb}
use Rattle.std.proofs.Common.{length-append, nat_le, sym, take}
use Rattle.std.proofs.lemmas.List.{take-append-drop}
use Rattle.std.proofs.lemmas.List.Elements.{filter-append}
use Rattle.std.proofs.lemmas.List.Filters.{length-filter_more}
use Rattle.proposals.specs.declared.demands.Demand.{Demand}
use Rattle.proposals.proofs.demands.names_up_to.Goals as goal

-- a list with one that passes has some that do
some_pass : {X : Type 0} (p : X → Bool) (xs : List X) (i : ℕ) (d : X) → i < length xs → p (get_or xs i d) ≡ true
    → 0 < length (filter p xs)
some_pass p xs i d lt t =
    let front = filter p (take (i + 1) xs) in
    let rest = filter p (drop (i + 1) xs) in
    let more = rw t at (length-filter_more p xs i d lt) in
    let whole = sym (filter-append p (take (i + 1) xs) (drop (i + 1) xs))
    ∙ ap (filter p) (take-append-drop (i + 1) xs) in
    omega (arith, more, ap length whole, length-append front rest)

pub returns-in_err-push-clause-always : goal.returns-in_err-push-clause-always
returns-in_err-push-clause-always c =
    λ none.
    let passes : Demand → Bool = λ x. nat_le x.rank c.args.upto in
    let demands : List Demand = c.args.demands.now in
    let nobody : Demand = record { rank = 0; wish = 0 } in
    let some = some_pass passes demands c.loop-demand.demand-index nobody c.loop-demand-test.true
    (le-leb _ _ c.if-demand-upto.true) in
    absurd (omega (arith, some, ap length none))
