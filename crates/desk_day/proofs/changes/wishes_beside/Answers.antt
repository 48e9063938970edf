use Rattle.std.proofs.Common.{eqb}
use Rattle.std.proofs.lemmas.List.Filters.{dedup_is}
use Rattle.desk_day.proofs.BesideChanges.{own_more, own_all, in_order}
use Rattle.desk_day.proofs.changes.wishes_beside.Goals as goal

pub loop-place-init : goal.loop-place-init
loop-place-init c = c.new-own.ensures.items

pub loop-place-preserved : goal.loop-place-preserved
loop-place-preserved c =
    own_more c.args.state.now.dossier c.args.places.now c.loop-place.place-index c.loop-place.own.items
    c.own_wishes_beside.result.now
    c.extend_from_slice.new.self.items
    c.loop-place.invariant c.loop-place-test.true c.own_wishes_beside.ensures c.in_ok-extend_from_slice.ensures.items

pub returns : goal.returns
returns c =
    in_order c.args.state.now.dossier c.args.places.now c.loop-place.own.items c.sort_unstable.new.self.items
    c.dedup.new.self.items
    (own_all c.args.state.now.dossier c.args.places.now c.loop-place.place-index c.loop-place.own.items
    c.loop-place.invariant
    c.loop-place-test.false)
    c.sort_unstable.ensures.permutation c.sort_unstable.ensures.sorted
    (dedup_is eqb c.sort_unstable.new.self.items c.dedup.new.self.items
    c.dedup.ensures.filtered)
