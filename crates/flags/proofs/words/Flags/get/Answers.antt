use Rattle.std.proofs.Common.{◌<◌, ◌∙◌, ap, sym, ◌/◌, ◌%◌, false, get_or, ℕ, eqb, List, Bool, arith}
use Rattle.std.proofs.lemmas.Nat.Bits.{shr_and_one}
use Rattle.std.specs.Int.{bit_at}
use Rattle.std.proofs.lemmas.List.{get_or_read}
use Rattle.std.proofs.lemmas.Bool.{le-ltb}
use Rattle.flags.proofs.Bits.{flag_there, none_past, word_within}
use Rattle.flags.proofs.words.Flags.get.Goals as goal

pub index-requires : goal.index-requires
index-requires c =
    let f = c.self.inside in
    let lt : c.args.place < f.count = omega arith in
    omega (arith, word_within f.count c.args.place lt, c.self.invariant, f.words.ok.0)

pub returns-then-at-self : goal.returns-then-at-self
returns-then-at-self c =
    let f = c.self.inside in
    let k = c.args.place in
    let lt : k < f.count = omega arith in
    ap (λ (n : ℕ). eqb n 1) (shr_and_one c.index.result.now (k % 64))
    ∙ ap (λ (n : ℕ). eqb (bit_at n (k % 64)) 1)
    (get_or_read f.words.items (k / 64) c.index.result.now
    (omega (arith, word_within f.count k lt, c.self.invariant)) c.index.ensures 0)
    ∙ sym (flag_there f.words.items f.count k lt)
    ∙ ap (λ (l : List Bool). get_or l k false) c.self.view_is

pub returns-else-at-self : goal.returns-else-at-self
returns-else-at-self c =
    let f = c.self.inside in
    le-ltb c.args.place f.count c.if-at-self.false
    ∙ sym (none_past f.words.items f.count c.args.place c.if-at-self.false)
    ∙ ap (λ (l : List Bool). get_or l c.args.place false) c.self.view_is
