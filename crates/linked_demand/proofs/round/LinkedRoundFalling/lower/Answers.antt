use Rattle.std.proofs.Common.{◌≡◌, ℕ, List, ap, false, get_or, subst}
use Rattle.admit_core.specs.State.{State}
use Rattle.linked_demand.specs.declared.rows.RowWish.{RowWish}
use Rattle.linked_demand.specs.Housed.{AllHoused}
use Rattle.linked_demand.specs.Lent.{left_of}
use Rattle.linked_demand.specs.Links.{LinksRow}
use Rattle.linked_demand.specs.Rounds.{IsRound}
use Rattle.linked_demand.specs.Rows.{AreFirst}
use Rattle.linked_demand.proofs.FirstBoarders.{first_cut, row_found}
use Rattle.linked_demand.proofs.Lowered.{lowered, lowered_along, round_now, stay, steps_now}
use Rattle.linked_demand.proofs.Rounding.{bars_fallen}
use Rattle.linked_demand.proofs.Waiting.{all_open_wait}
use Rattle.linked_demand.proofs.round.LinkedRoundFalling.lower.Goals as goal

pub close_past-end-requires-clause-front : goal.close_past-end-requires-clause-front
close_past-end-requires-clause-front g c =
    let r = c.self.inside in
    let whole = c.self.invariant in
    let boarders = r.boarders.now in
    let ends = r.ends.items in
    let front = c.front_in-front.result.now in
    let first : AreFirst boarders ends c.args.i front = rw c.deref.ensures.value at c.front_in-front.ensures in
    let found = row_found r.links.state boarders ends whole.ends_are.one_each c.args.i front first in
    first_cut r.links r.bars.items (left_of r.links.state r.beds.items) c.deref-2.result.now c.args.to boarders ends
    whole.boarders_are
    whole.ends_are whole.under.round c.args.i front first
    (stay _ whole.under c.self.view_is c.args.i c.args.to c.requires.in_range c.requires.lower found
    c.deref-2.result.now c.deref-2.ensures.value)

pub house_marked-requires-clause-waits : goal.house_marked-requires-clause-waits
house_marked-requires-clause-waits g c =
    let r = c.self.inside in
    let whole = c.self.invariant in
    let front = c.front_in-front.result.now in
    let links = c.close_past-end.new.links in
    let first : AreFirst r.boarders.now r.ends.items c.args.i front =
    rw c.deref.ensures.value at c.front_in-front.ensures in
    let found = row_found r.links.state r.boarders.now r.ends.items whole.ends_are.one_each c.args.i front first in
    let state : links.state ≡ r.links.state = ap (λ (l : LinksRow). l.state) c.close_past-end.ensures.links in
    let orders : links.orders ≡ r.links.orders = ap (λ (l : LinksRow). l.orders) c.close_past-end.ensures.links in
    let round = round_now _ whole.under c.self.view_is c.args.i c.args.to c.requires.in_range c.requires.lower found
    state orders c.close_past-end.ensures.cut in
    all_open_wait links.state round.marks_each _ links.opens round.opens_are

pub invariant_of-self : goal.invariant_of-self
invariant_of-self g c =
    let r = c.self.inside in
    let whole = c.self.invariant in
    let boarders = r.boarders.now in
    let ends = r.ends.items in
    let front = c.front_in-front.result.now in
    let links = c.close_past-end.new.links in
    let first : AreFirst boarders ends c.args.i front = rw c.deref.ensures.value at c.front_in-front.ensures in
    let found = row_found r.links.state boarders ends whole.ends_are.one_each c.args.i front first in
    let state : links.state ≡ r.links.state = ap (λ (l : LinksRow). l.state) c.close_past-end.ensures.links in
    let orders : links.orders ≡ r.links.orders = ap (λ (l : LinksRow). l.orders) c.close_past-end.ensures.links in
    let P = λ (s : State). (bs : List ℕ) (rs : List (List RowWish)) → IsRound links bs (left_of s r.beds.items) rs
    → AllHoused links (λ k. get_or c.close_past-end.new.marked k false) rs (left_of s r.beds.items)
    c.cut_school.new.overfilled c.cut_school.new.housed.items
    → AllHoused links (λ k. false) rs (left_of s r.beds.items) c.house_marked.new.overfilled
    c.house_marked.new.housed.items in
    let Q = λ (beds : List ℕ). (bs : List ℕ) (rs : List (List RowWish)) → IsRound links bs (left_of links.state beds) rs
    → AllHoused links (λ k. get_or c.close_past-end.new.marked k false) rs (left_of links.state beds)
    c.cut_school.new.overfilled c.cut_school.new.housed.items
    → AllHoused links (λ k. false) rs (left_of links.state beds) c.house_marked.new.overfilled
    c.house_marked.new.housed.items in
    lowered_along r.links links r.ceilings.items _ r.beds.items boarders ends _
    c.close_past-end.ensures.links whole.boarders_are
    whole.ends_are c.args.i c.close_past-end.result front first c.close_past-end.ensures.within
    whole.beds_each (lowered _ whole.under c.self.view_is c.args.i c.args.to c.requires.in_range c.requires.lower found
    state orders
    c.close_past-end.ensures.cut c.deref-2.ensures.value c.close_past-end.ensures.marked c.cut_school.new.overfilled
    c.cut_school.new.housed.items c.cut_school.ensures.overfilled
    c.cut_school.ensures.housed c.house_marked.new.overfilled c.house_marked.new.marked
    c.house_marked.new.housed.items
    (subst P state (subst Q c.deref-3.ensures.value c.house_marked.ensures.all)) c.house_marked.ensures.unmarked)

pub returns-clause-bars : goal.returns-clause-bars
returns-clause-bars g c = bars_fallen _ c.self.invariant.under c.self.view_is c.args.i c.args.to

pub returns-clause-steps : goal.returns-clause-steps
returns-clause-steps g c =
    let r = c.self.inside in
    let whole = c.self.invariant in
    let front = c.front_in-front.result.now in
    let links = c.close_past-end.new.links in
    let first : AreFirst r.boarders.now r.ends.items c.args.i front =
    rw c.deref.ensures.value at c.front_in-front.ensures in
    let found = row_found r.links.state r.boarders.now r.ends.items whole.ends_are.one_each c.args.i front first in
    let state : links.state ≡ r.links.state = ap (λ (l : LinksRow). l.state) c.close_past-end.ensures.links in
    let orders : links.orders ≡ r.links.orders = ap (λ (l : LinksRow). l.orders) c.close_past-end.ensures.links in
    steps_now _ whole.under c.self.view_is c.args.i c.args.to c.requires.in_range c.requires.lower found
    state orders c.close_past-end.ensures.cut c.deref-2.result.now c.deref-2.ensures.value c.args.steps.now
    c.close_past-end.new.steps c.close_past-end.ensures.steps
