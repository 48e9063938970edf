use Rattle.std.proofs.Common.{ℕ, List, ◌+◌, ◌∙◌, ap, arith, set, sym}
use Rattle.std.proofs.lemmas.List.{get_or_default}
use Rattle.markets.specs.Fillings.{counted_in}
use Rattle.markets.proofs.counts.count_in.Goals as goal

pub index_mut-requires : goal.index_mut-requires
index_mut-requires c = omega (arith, c.requires.within c.in-Some.programme c.in-Some.is)

pub overflow_add-index_mut : goal.overflow_add-index_mut
overflow_add-index_mut c =
    let counts : List ℕ = c.args.counts.now.items in
    let p : ℕ = c.in-Some.programme in
    let read = c.index_mut.ensures.value ∙ get_or_default counts p c.index_mut.result.now 0
    (c.requires.within p c.in-Some.is) in
    omega (arith, read, c.requires.few p c.in-Some.is)

pub returns-in-Some : goal.returns-in-Some
returns-in-Some c =
    let counts : List ℕ = c.args.counts.now.items in
    let p : ℕ = c.in-Some.programme in
    let read = c.index_mut.ensures.value ∙ get_or_default counts p c.index_mut.result.now 0
    (c.requires.within p c.in-Some.is) in
    ap (λ n. set counts p (n + 1)) read ∙ ap (counted_in counts) (sym c.in-Some.is)

pub returns-in_default : goal.returns-in_default
returns-in_default c = ap (counted_in c.args.counts.now.items) (sym c.in_default.is)
