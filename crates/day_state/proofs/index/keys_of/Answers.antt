use Rattle.std.proofs.Common.{◌∙◌, sym, arith}
use Rattle.std.proofs.lemmas.List.FromFn.{map-range_with_len_more}
use Rattle.day_state.specs.Kept.{key_at}
use Rattle.day_state.proofs.index.keys_of.Goals as goal

pub loop-place-preserved : goal.loop-place-preserved
loop-place-preserved c = c.in_ok-push.ensures.items
    ∙ rw (c.loop-place.invariant, c.key_at.ensures)
    (sym (map-range_with_len_more (key_at c.args.wishes.now) 0 c.loop-place.place c.loop-place.place (omega arith)))
