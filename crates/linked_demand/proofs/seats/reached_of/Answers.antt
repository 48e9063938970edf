use Rattle.std.proofs.Common.{ℕ, ◌≡◌, ◌<◌, length, refl, ◌∙◌, ap, arith}
use Rattle.linked_demand.specs.Line.{reach}
use Rattle.linked_demand.specs.Opens.{all_exempt, seat_row}
use Rattle.linked_demand.specs.Wants.{wants_along, reach_in}
use Rattle.linked_demand.proofs.Flagging.{more_of, wants_right, row_right, row_within, claims_each, all_reached}
use Rattle.linked_demand.proofs.Waiting.{row_alone}
use Rattle.linked_demand.proofs.seats.reached_of.Goals as goal

pub index-claims-requires : goal.index-claims-requires
index-claims-requires c =
    omega (
      arith,
      claims_each c.requires.lineup.lines,
      c.loop-programme-test.true,
      c.loop-programme.auto.programme-end,
      c.programme_count-programmes.ensures.count,
    )

pub reach_of-requires : goal.reach_of-requires
reach_of-requires c =
    let s = c.args.state.now in
    let orders = c.args.orders.now.orders in
    let p = c.loop-programme.programme in
    let lt : p < length s.dossier.programmes = omega (
      arith,
      c.loop-programme-test.true,
      c.loop-programme.auto.programme-end,
      c.programme_count-programmes.ensures.count,
    ) in
    let row = row_right c.requires.lineup.lines p lt c.index-claims.result.now c.index-claims.ensures in
    record {
      claims = row_within s.dossier orders p (length s.dossier.wishes) c.index-claims.result.now row
          refl;
      alone =
          row_alone s (rw c.marks.ensures.marks at c.marks.ensures.one_each) c.args.opens.now c.requires.waits
          orders p c.index-claims.result.now row;
    }

pub loop-programme-preserved : goal.loop-programme-preserved
loop-programme-preserved c =
    let s = c.args.state.now in
    let orders = c.args.orders.now.orders in
    let opens = c.args.opens.now in
    let p = c.loop-programme.programme in
    let lt : p < length s.dossier.programmes = omega (
      arith,
      c.loop-programme-test.true,
      c.loop-programme.auto.programme-end,
      c.programme_count-programmes.ensures.count,
    ) in
    let claims = c.index-claims.result.now in
    let row = row_right c.requires.lineup.lines p lt claims c.index-claims.ensures in
    let reached : c.reach_of.result ≡ reach_in (seat_row s orders opens p) =
    c.reach_of.ensures
    ∙ ap (λ (n : ℕ). reach n (wants_along s opens claims)) c.seats_left-left.ensures
    ∙ ap (reach (seat_row s orders opens p).quota)
    (wants_right s orders opens c.requires.opens (rw c.marks.ensures.marks at c.marks.ensures.one_each) p claims row) in
    more_of (λ q. reach_in (seat_row s orders opens q)) p c.loop-programme.reached.items
    c.push.new.self.items c.reach_of.result c.in_ok-push.ensures.items c.loop-programme.invariant reached

pub returns : goal.returns
returns c =
    let notes = c.args.lineup.now.notes in
    all_reached c.args.state.now c.args.orders.now.orders c.args.opens.now c.loop-programme.reached.items
    c.args.lineup.now.claims.items notes (all_exempt c.args.state.now notes.called_by_limit)
    c.loop-programme.programme (rw c.marks.ensures.marks at c.marks.ensures.one_each) c.requires.opens
    c.requires.lineup.lines
    (omega (
      arith,
      c.loop-programme-test.false,
      c.loop-programme.auto.programme-end,
      c.programme_count-programmes.ensures.count,
    ))
    c.loop-programme.invariant refl
