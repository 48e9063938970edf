use Rattle.std.proofs.Common.{ℕ, ◌≡◌, List, sym, ◌&&◌, false, get_or, length, ◌∙◌, subst}
use Rattle.admit_core.specs.Lists.{is_among}
use Rattle.day_state.specs.Members.{waits_beside}
use Rattle.linked_demand.specs.Fronts.{ListsAlso, reached_open}
use Rattle.linked_demand.proofs.Fronted.{found_right, fronts}
use Rattle.linked_demand.proofs.NeedNoSeat.{exempt_listed}
use Rattle.linked_demand.proofs.links.SeatLinks.proposed_listed.Goals as goal

pub list_fronts-requires : goal.list_fronts-requires
list_fronts-requires c = rw (c.deref-3.ensures.value, c.deref-4.ensures.value) (fronts c.self.invariant.reach)

pub returns : goal.returns
returns c =
    let r = c.self.inside in
    let s = r.state.now in
    let kept = c.self.invariant in
    let right = kept.reach in
    let opens = r.opens in
    let lines = r.lineup.now.claims.items in
    let wishes = c.deref.result.now in
    let first = c.list_open.new.found.items in
    let now = c.list_open-2.new.found.items in
    let found = c.list_fronts.new.found.items in
    let row = c.args.self.now in
    let Also = λ (old : List ℕ). ListsAlso (λ k. is_among k wishes && get_or opens k false) old first in
    let by_limit = subst Also c.new-found.ensures.items c.in_ok-list_open.ensures in
    let Listed = λ (ks : List ℕ). (k : ℕ) → is_among k ks ≡ waits_beside s k in
    let listed = subst Listed (sym c.deref-2.ensures.value) kept.beside_are in
    let third : ListsAlso (reached_open opens lines r.reached.items (length lines)) now found =
    rw (c.deref-3.ensures.value, c.deref-4.ensures.value) at c.in_ok-list_fronts.ensures in
    found_right right row c.self.view_is c.requires now found
    (λ waits. exempt_listed s right.links.marks_each r.orders.now.orders r.lineup.now.notes.called_by_limit
    kept.notes_are.called_are opens waits
    wishes (c.deref.ensures.value ∙ kept.limited_are) c.deref-2.result.now listed first now by_limit
    c.in_ok-list_open-2.ensures)
    third
