use Rattle.std.proofs.Common.{◌≡◌, ℕ, List, map, filter, nat_le, subst, sym, ◌∙◌, ap}
use Rattle.std.specs.Prelude.{IfOk}
use Rattle.proposals.specs.declared.demands.Demand.{Demand}
use Rattle.proposals.specs.Demands.{demands_of}
use Rattle.proposals.proofs.Named.{names_are}
use Rattle.linked_demand.specs.Demand.{is_proposed_at}
use Rattle.linked_demand.specs.Lent.{left_of}
use Rattle.linked_demand.specs.Rounds.{Round, bar_each}
use Rattle.linked_demand.specs.Rows.{row_in, AreFirst}
use Rattle.linked_demand.proofs.FirstBoarders.{first_open, first_rise, row_found, upto_open}
use Rattle.linked_demand.proofs.RoundFalls.{demands_right}
use Rattle.linked_demand.proofs.Rounding.{bars_seen}
use Rattle.linked_demand.proofs.RowFronts.{in_front_of, told_in_front}
use Rattle.linked_demand.proofs.round.LinkedRoundFalling.names.Goals as goal

pub demands_in-requires : goal.demands_in-requires
demands_in-requires c =
    let r = c.self.inside in
    let whole = c.self.invariant in
    let boarders = r.boarders.now in
    let own = c.front_in-first.result.now in
    let first : AreFirst boarders r.ends.items c.args.i own = rw c.deref.ensures.value at c.front_in-first.ensures in
    upto_open r.links c.args.upto own c.front_of-front.result.now
    (first_rise r.links.state.dossier r.links.orders boarders whole.boarders_are r.ends.items c.args.i own first)
    c.front_of-front.ensures
    (first_open r.links r.bars.items (left_of r.links.state r.beds.items) boarders r.ends.items whole.boarders_are
    whole.ends_are
    whole.under.round c.args.i own first)

pub returns : goal.returns
returns c =
    let r = c.self.inside in
    let s = r.links.state in
    let seen = c.args.self.now in
    let i = c.args.i in
    let upto = c.args.upto in
    let whole = c.self.invariant in
    let round = whole.under.round in
    let boarders = r.boarders.now in
    let ends = r.ends.items in
    let bars = bar_each seen.ceilings seen.bars in
    let same : bars ≡ seen.bars = bars_seen _ whole.under c.self.view_is in
    let own = c.front_in-first.result.now in
    let front = c.front_of-front.result.now in
    let first : AreFirst boarders ends i own = rw c.deref.ensures.value at c.front_in-first.ensures in
    let found = row_found s boarders ends whole.ends_are.one_each i own first in
    let rises = first_rise s.dossier r.links.orders boarders whole.boarders_are ends i own first in
    let up : List Demand → List Demand = λ xs. filter (λ (x : Demand). nat_le x.rank upto) xs in
    let demands : up c.deref-2.result.now ≡ up (demands_of seen.state seen.orders bars i) =
    ap up (c.deref-2.ensures.value ∙ c.in_ok-demands.ensures)
    ∙ told_in_front (is_proposed_at r.links) upto s r.bars.items i (row_in s own) (row_in s front)
    (round.rows_are i (row_in s own) found) (in_front_of s upto own front rises c.front_of-front.ensures)
    ∙ ap up (demands_right r.links r.bars.items (left_of s r.beds.items) _ round i (row_in s own) found
    ∙ ap (λ (v : Round). demands_of v.state v.orders v.bars i) c.self.view_is
    ∙ ap (λ (bs : List ℕ). demands_of seen.state seen.orders bs i) (sym same)) in
    let P : List ℕ → Type 0 = λ ks. IfOk c.names_up_to.result (λ names. names.items ≡ ks) in
    subst P
    (ap (λ (xs : List Demand). map (λ (x : Demand). x.wish) xs) demands ∙ names_are seen.state seen.orders bars i upto)
    c.names_up_to.ensures.names
