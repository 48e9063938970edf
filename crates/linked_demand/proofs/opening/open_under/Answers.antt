use Rattle.std.proofs.Common.{◌≡◌, ◌<◌, ◌-◌, ℕ, List, arith, ap, drop, length, refl, subst, sym, take, ◌∙◌, filter}
use Rattle.std.proofs.Common.{map}
use Rattle.std.specs.Prelude.{slice_index, All}
use Rattle.std.specs.List.Sorted.{IsNonDecreasingBy}
use Rattle.std.proofs.lemmas.List.{length-drop, take_all}
use Rattle.std.proofs.lemmas.List.Elements.{All-drop}
use Rattle.std.proofs.lemmas.Option.{slice_get_read}
use Rattle.admit_core.specs.DossierRows.{DossierRows}
use Rattle.admit_core.specs.Lists.{is_among}
use Rattle.admit_core.specs.Validity.{IsValid}
use Rattle.linked_demand.specs.declared.rows.RowWish.{RowWish}
use Rattle.linked_demand.specs.Boarders.{boards_in, items_wishes}
use Rattle.linked_demand.specs.Rows.{TellsOfSchool, row_item}
use Rattle.linked_demand.proofs.Shutting.{behind_is, shut_all, shut_more, shut_waits}
use Rattle.linked_demand.proofs.FirstBoarders.{by_rank_each, own_tell}
use Rattle.linked_demand.proofs.opening.open_under.Goals as goal

pub end_of-end-requires : goal.end_of-end-requires
end_of-end-requires c =
    let boarders = c.args.boarders.now in
    let h = c.loop-school.school in
    let own = c.index-boarders-school.result in
    let lt : h < length boarders =
    omega (arith, c.loop-school-test.true, c.requires.bars, c.requires.boarders.rows_are.one_each) in
    let found = slice_get_read boarders (length boarders) h own refl lt c.index-boarders-school.is in
    let P = λ (xs : List RowWish). IsNonDecreasingBy (λ (x : RowWish). x.rank) xs in
    subst P (sym c.as_slice-own.ensures.value)
    (by_rank_each c.args.state.now.dossier c.args.orders.now.orders boarders c.requires.boarders h own found)

pub close_behind-requires-clause-wishes : goal.close_behind-requires-clause-wishes
close_behind-requires-clause-wishes c =
    let d = c.args.state.now.dossier in
    let boarders = c.args.boarders.now in
    let h = c.loop-school.school in
    let own = c.index-boarders-school.result in
    let lt : h < length boarders =
    omega (arith, c.loop-school-test.true, c.requires.bars, c.requires.boarders.rows_are.one_each) in
    let found = slice_get_read boarders (length boarders) h own refl lt c.index-boarders-school.is in
    let all = own_tell d c.args.orders.now.orders boarders c.requires.boarders h own found in
    let read : List RowWish = c.as_slice-own.result.now in
    let Q : RowWish → Type 0 = TellsOfSchool d in
    let P = λ (xs : List RowWish). All Q xs in
    let end : ℕ = c.end_of-end.result in
    subst P (sym (take_all (length read - end) (drop end read) (omega (arith, length-drop end read))))
    (All-drop Q end read (subst P (sym c.as_slice-own.ensures.value) all))

pub close_behind-requires-clause-waits : goal.close_behind-requires-clause-waits
close_behind-requires-clause-waits c =
    shut_waits c.args.state.now c.args.bars.now c.loop-school.school c.loop-school.opens c.loop-school.invariant

pub loop-school-preserved : goal.loop-school-preserved
loop-school-preserved c =
    let s = c.args.state.now in
    let orders = c.args.orders.now.orders in
    let bars = c.args.bars.now in
    let boarders = c.args.boarders.now in
    let by_school = c.requires.boarders in
    let h = c.loop-school.school in
    let own = c.index-boarders-school.result in
    let lt : h < length boarders =
    omega (arith, c.loop-school-test.true, c.requires.bars, by_school.rows_are.one_each) in
    let found = slice_get_read boarders (length boarders) h own refl lt c.index-boarders-school.is in
    let read : List RowWish = c.as_slice-own.result.now in
    let end : ℕ = c.end_of-end.result in
    let own_is : read ≡ map (row_item s orders) (filter (boards_in s.dossier h) by_school.places) =
    c.as_slice-own.ensures.value ∙ by_school.rows_are.each h own found in
    let behind : List RowWish = take (length read - end) (drop end read) in
    let all : behind ≡ drop end read = take_all (length read - end) (drop end read)
    (omega (arith, length-drop end read)) in
    shut_more s bars h c.loop-school.opens c.close_behind.new.opens behind c.loop-school.invariant
    c.close_behind.ensures.as_long c.close_behind.ensures.flags
    (λ k k_lt. ap (λ (xs : List RowWish). is_among k (items_wishes xs)) all
    ∙ behind_is s orders by_school.places h (slice_index bars h) read end by_school.by_rank own_is
    c.end_of-end.ensures k k_lt)

pub returns-clause-flags : goal.returns-clause-flags
returns-clause-flags c =
    let P : DossierRows → Type 0 = IsValid in
    let valid = subst P (c.dossier.view_is ∙ c.dossier-dossier.ensures) c.dossier.invariant in
    shut_all c.args.state.now c.args.bars.now c.loop-school.school c.loop-school.opens
    (rw c.marks.ensures.marks at c.marks.ensures.one_each) valid
    (omega (arith, c.loop-school-test.false, c.loop-school.auto.school-end, c.requires.bars)) c.loop-school.invariant
