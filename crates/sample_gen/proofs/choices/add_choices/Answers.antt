use Rattle.std.proofs.Common.{map, ◌+◌, arith}
use Rattle.std.specs.List.{range_with_len}
use Rattle.std.proofs.lemmas.List.FromFn.{map-range_with_len_more}
use Rattle.sample_gen.specs.Choices.{choice_at}
use Rattle.sample_gen.proofs.Lists.{grown}
use Rattle.sample_gen.proofs.choices.add_choices.Goals as goal

pub loop-place-preserved : goal.loop-place-preserved
loop-place-preserved c =
    let f = choice_at c.args.programmes c.args.candidate in
    grown c.push.new.self.items c.loop-place.choices.items c.args.choices.now.items
    (map f (range_with_len 0 c.loop-place.place))
    (map f (range_with_len 0 (c.loop-place.place + 1))) c.choice_at.result
    (f c.loop-place.place) c.in_ok-push.ensures.items c.loop-place.invariant
    c.choice_at.ensures (map-range_with_len_more f 0 c.loop-place.place c.loop-place.place (omega arith))
