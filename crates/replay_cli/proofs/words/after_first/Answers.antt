use Rattle.std.proofs.Common.{◌≡◌, ◌∙◌, ap, drop, length}
use Rattle.std.specs.Vec.Iter.{into_iter_items, into_iter_len}
use Rattle.std.proofs.lemmas.Iterator.{items_from_collect}
use Rattle.std.proofs.lemmas.Iterator.Adapters.{YieldsList-from_vec}
use Rattle.replay_cli.proofs.FirstWord.{without_first}
use Rattle.replay_cli.proofs.words.after_first.Goals as goal

pub returns : goal.returns
returns c =
    let rest : into_iter_items c.next.new.self ≡ drop 1 (into_iter_items c.args.args) =
    without_first (into_iter_items c.args.args) (into_iter_items c.next.new.self) c.next.result
    (into_iter_len c.args.args) (into_iter_len c.next.new.self) c.args.args.rest.ok.0
    c.next.new.self.rest.ok.0 c.next.ensures.cases in
    items_from_collect _ c.collect.ensures.ran (YieldsList-from_vec _ rest (c.next.new.self.rest.ok.0 ∙ ap length rest))
