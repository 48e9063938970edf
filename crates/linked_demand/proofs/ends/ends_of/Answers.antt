use Rattle.std.proofs.Common.{◌<◌, List, arith, length, refl, subst, sym}
use Rattle.std.specs.Prelude.{slice_index}
use Rattle.std.specs.List.Sorted.{IsNonDecreasingBy}
use Rattle.std.proofs.lemmas.Option.{slice_get_read}
use Rattle.linked_demand.specs.declared.rows.RowWish.{RowWish}
use Rattle.linked_demand.specs.Rows.{IsEnd}
use Rattle.linked_demand.proofs.RowsTo.{ends_all, ends_more, ends_none}
use Rattle.linked_demand.proofs.ends.ends_of.Goals as goal

pub loop-school-init : goal.loop-school-init
loop-school-init c =
    ends_none c.args.bars.now c.args.boarders.now c.in_ok-ends.ends.items c.in_ok-ends.ensures.items

pub end_of-requires : goal.end_of-requires
end_of-requires c =
    let boarders = c.args.boarders.now in
    let h = c.loop-school.school in
    let own = c.index-boarders-school.result in
    let lt : h < length boarders = omega (arith, c.loop-school-test.true, c.requires.bars) in
    let P = λ (xs : List RowWish). IsNonDecreasingBy (λ (x : RowWish). x.rank) xs in
    subst P (sym c.deref.ensures.value) (c.requires.boarders h own
    (slice_get_read boarders (length boarders) h own refl lt c.index-boarders-school.is))

pub loop-school-preserved : goal.loop-school-preserved
loop-school-preserved c =
    let boarders = c.args.boarders.now in
    let h = c.loop-school.school in
    let own = c.index-boarders-school.result in
    let lt : h < length boarders = omega (arith, c.loop-school-test.true, c.requires.bars) in
    let P = λ (xs : List RowWish). IsEnd (slice_index c.args.bars.now h) xs c.end_of.result in
    ends_more c.args.bars.now boarders h c.loop-school.ends.items c.push.new.self.items c.end_of.result own
    c.loop-school.invariant (slice_get_read boarders (length boarders) h own refl lt c.index-boarders-school.is)
    c.in_ok-push.ensures.items (subst P c.deref.ensures.value c.end_of.ensures)

pub returns : goal.returns
returns c =
    ends_all c.args.bars.now c.args.boarders.now c.loop-school.school c.loop-school.ends.items
    (omega (arith, c.loop-school-test.false, c.loop-school.auto.school-end, c.requires.bars)) c.loop-school.invariant
