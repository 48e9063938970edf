use Rattle.std.proofs.Common.{◌∙◌, arith, true, false, Bool, List, ap}
use Rattle.std.proofs.Math.ListN.{set}
use Rattle.flags.proofs.Bits.{word_of, flag_set, flag_cleared}
use Rattle.flags.proofs.words.Flags.set.Goals as goal

pub index_mut-requires : goal.index_mut-requires
index_mut-requires c =
    let f = c.self.inside in
    omega (
      arith,
      word_of c.args.self.now f.words.items f.count c.args.place c.self.view_is c.self.invariant c.requires,
      f.words.ok.0,
    )

pub index_mut-requires-else-flag : goal.index_mut-requires-else-flag
index_mut-requires-else-flag c =
    let f = c.self.inside in
    omega (
      arith,
      word_of c.args.self.now f.words.items f.count c.args.place c.self.view_is c.self.invariant c.requires,
      f.words.ok.0,
    )

pub returns-then-flag : goal.returns-then-flag
returns-then-flag c =
    let f = c.self.inside in
    let k = c.args.place in
    let within = word_of c.args.self.now f.words.items f.count k c.self.view_is c.self.invariant c.requires in
    rw c.if-flag.true (flag_set f.words.items f.count k c.index_mut.result.now within c.index_mut.ensures.value
    ∙ ap (λ (l : List Bool). set l k true) c.self.view_is)

pub returns-else-flag : goal.returns-else-flag
returns-else-flag c =
    let f = c.self.inside in
    let k = c.args.place in
    let within = word_of c.args.self.now f.words.items f.count k c.self.view_is c.self.invariant c.requires in
    rw c.if-flag.false (flag_cleared f.words.items f.count k c.index_mut-else-flag.result.now within
    c.index_mut-else-flag.ensures.value
    ∙ ap (λ (l : List Bool). set l k false) c.self.view_is)
