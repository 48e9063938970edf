use Rattle.std.proofs.Common.{◌∙◌, ap, sym, length, List, Bool}
use Rattle.flags.proofs.Bits.{length-flags}
use Rattle.flags.proofs.words.Flags.len.Goals as goal

pub returns : goal.returns
returns c =
    sym (length-flags c.self.inside.words.items c.self.inside.count)
    ∙ ap (λ (l : List Bool). length l) c.self.view_is
