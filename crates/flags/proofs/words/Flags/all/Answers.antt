use Rattle.std.proofs.Common.{ℕ, ◌∙◌, ap, eqb, sym}
use Rattle.std.specs.Int.{bit_at}
use Rattle.std.proofs.lemmas.Nat.Bits.{bit_at-zero, bit_at_ones}
use Rattle.flags.proofs.Bits.{all_same}
use Rattle.flags.proofs.words.Flags.all.Goals as goal
use Rattle.flags.proofs.words.Flags.all.Goals.{then-flag, else-flag}

pub returns : goal.returns
returns c =
    let words = c.in_ok-words.ensures.items_if_clones_equal (λ y e. e) in
    rw words (all_same c.args.count c.div_ceil.result c.if-flag.word c.args.flag c.div_ceil.ensures
    (λ i lt. elim c.if-flag.branch [
      | then-flag w ↦
          ap (λ (n : ℕ). eqb (bit_at n i) 1) w.word-is
          ∙ ap (λ (n : ℕ). eqb n 1) (bit_at_ones 64 i lt)
          ∙ sym w.if-flag.true
      | else-flag w ↦
          ap (λ (n : ℕ). eqb (bit_at n i) 1) w.word-is
          ∙ ap (λ (n : ℕ). eqb n 1) (bit_at-zero i)
          ∙ sym w.if-flag.false
    ]))
