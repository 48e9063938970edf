use Rattle.std.proofs.Common.{◌<◌, ◌+◌, ◌-◌, ◌∙◌, ℕ, Bool, List, ap, get_or, length, map, nat_lt, set, sym}
use Rattle.std.proofs.Common.{arith}
use Rattle.std.proofs.lemmas.List.{get_or-set_same, get_or_read, length-set, map-set}
use Rattle.day_state.specs.Kept.{one_if}
use Rattle.day_state.proofs.live_counts.LiveCounts.recount.Goals as goal

pub invariant_of-self : goal.invariant_of-self
invariant_of-self c =
    let old = c.self.inside.counts.items in
    let new = c.recount.new.counts.items in
    let n = c.in-Some.bundle in
    let v : ℕ = get_or old n 0 + one_if c.args.lives - one_if c.args.was_live in
    let within : n < length old = rw (sym c.self.view_is) at (c.requires.bundle n c.in-Some.is) in
    let long = ap (λ (xs : List ℕ). length xs) c.recount.ensures ∙ length-set old n v in
    let there : n < length new = omega (arith, within, long) in
    let read = get_or_read new n c.index.result.now there c.index.ensures 0
    ∙ ap (λ (xs : List ℕ). get_or xs n 0) c.recount.ensures ∙ get_or-set_same old n v 0 within in
    c.set.ensures
    ∙ ap (λ (m : ℕ). set c.self.inside.has_some n (nat_lt 0 m)) read
    ∙ ap (λ (flags : List Bool). set flags n (nat_lt 0 v)) c.self.invariant
    ∙ sym (ap (map (nat_lt 0)) c.recount.ensures ∙ map-set (nat_lt 0) old n v)
