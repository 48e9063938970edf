use Rattle.std.proofs.Common.{◌≡◌, ◌∙◌, [], ◌∷◌, length, sym, refl, ap, arith, Some}
use Rattle.std.proofs.lemmas.List.{append-nil, append_assoc, length_push}
use Rattle.call_order.proofs.QueuedSoFar.{ranking_from, queued_none, queued_push, queued_done}
use Rattle.call_order.proofs.queued.call_order_queued.Goals as goal

pub loop-ranked-init : goal.loop-ranked-init
loop-ranked-init g c =
    let room = c.in_ok-list.ensures.capacity in
    let trace_room = c.in_ok-trace.ensures.capacity in
    record {
      so_far = rw (c.in_ok-list.ensures.items, c.in_ok-trace.ensures.items) (queued_none _ _ refl);
      taken = rw c.in_ok-list.ensures.items (sym (append-nil c.args.queues.now.taken));
      steps = rw c.in_ok-list.ensures.items (omega arith);
      list_room = omega (arith, room, c.remaining-count.ensures.count);
      trace_room = omega (arith, trace_room, c.remaining-count.ensures.count);
    }

pub count-tally-requires-clause-calls : goal.count-tally-requires-clause-calls
count-tally-requires-clause-calls g c =
    let call = queued_push c.loop-ranked.invariant.so_far
    (ranking_from c.requires.scholar_pct c.requires.resident_pct c.remaining-count.ensures.ranks
    c.requires.candidates) (sym c.next_call.ensures ∙ c.in-Some.is) in
    omega (arith, call.calls, call.room, c.remaining-count.ensures.count)

pub count-tally-requires-clause-scholars : goal.count-tally-requires-clause-scholars
count-tally-requires-clause-scholars g c =
    let call = queued_push c.loop-ranked.invariant.so_far
    (ranking_from c.requires.scholar_pct c.requires.resident_pct c.remaining-count.ensures.ranks
    c.requires.candidates) (sym c.next_call.ensures ∙ c.in-Some.is) in
    call.scholars

pub count-tally-requires-clause-residents : goal.count-tally-requires-clause-residents
count-tally-requires-clause-residents g c =
    let call = queued_push c.loop-ranked.invariant.so_far
    (ranking_from c.requires.scholar_pct c.requires.resident_pct c.remaining-count.ensures.ranks
    c.requires.candidates) (sym c.next_call.ensures ∙ c.in-Some.is) in
    call.residents

pub push_reserved-requires : goal.push_reserved-requires
push_reserved-requires g c =
    let call = queued_push c.loop-ranked.invariant.so_far
    (ranking_from c.requires.scholar_pct c.requires.resident_pct c.remaining-count.ensures.ranks
    c.requires.candidates) (sym c.next_call.ensures ∙ c.in-Some.is) in
    omega (arith, call.room, c.loop-ranked.invariant.list_room)

pub push_reserved-requires-in-Some : goal.push_reserved-requires-in-Some
push_reserved-requires-in-Some g c =
    let call = queued_push c.loop-ranked.invariant.so_far
    (ranking_from c.requires.scholar_pct c.requires.resident_pct c.remaining-count.ensures.ranks
    c.requires.candidates) (sym c.next_call.ensures ∙ c.in-Some.is) in
    omega (arith, call.room, c.loop-ranked.invariant.trace_room, c.loop-ranked.invariant.so_far.calls.as_long)

pub loop-ranked-smaller : goal.loop-ranked-smaller
loop-ranked-smaller g c =
    let call = queued_push c.loop-ranked.invariant.so_far
    (ranking_from c.requires.scholar_pct c.requires.resident_pct c.remaining-count.ensures.ranks
    c.requires.candidates) (sym c.next_call.ensures ∙ c.in-Some.is) in
    rw (c.pop.ensures.remaining, c.of.ensures) call.fewer

pub loop-ranked-preserved : goal.loop-ranked-preserved
loop-ranked-preserved g c =
    let call = queued_push c.loop-ranked.invariant.so_far
    (ranking_from c.requires.scholar_pct c.requires.resident_pct c.remaining-count.ensures.ranks
    c.requires.candidates) (sym c.next_call.ensures ∙ c.in-Some.is) in
    let popped : c.pop.result ≡ Some c.in-Some.ranked = c.pop.ensures.head ∙ rw c.of.ensures call.head in
    record {
      so_far =
          rw (
            c.push_reserved.ensures.items,
            c.push_reserved-in-Some.ensures.items,
            c.count-tally.ensures,
            c.pop.ensures.remaining,
            c.of.ensures,
          ) call.still;
      taken =
          rw (c.pop.ensures.taken, popped, c.loop-ranked.invariant.taken, c.push_reserved.ensures.items)
          (append_assoc c.args.queues.now.taken c.loop-ranked.list.items (c.in-Some.ranked.candidate ∷ []));
      steps =
          rw (
            c.pop.ensures.steps,
            popped,
            c.push_reserved.ensures.items,
            length_push c.loop-ranked.list.items c.in-Some.ranked.candidate,
          )
          (omega (arith, c.loop-ranked.invariant.steps));
      list_room = rw c.push_reserved.ensures.capacity c.loop-ranked.invariant.list_room;
      trace_room = rw c.push_reserved-in-Some.ensures.capacity c.loop-ranked.invariant.trace_room;
    }

pub returns-clause-order : goal.returns-clause-order
returns-clause-order g c =
    let end = queued_done c.loop-ranked.invariant.so_far
    (ranking_from c.requires.scholar_pct c.requires.resident_pct c.remaining-count.ensures.ranks
    c.requires.candidates) (sym c.next_call.ensures ∙ c.in_default.is) in
    rw (c.from_vec.ensures, c.from_vec-2.ensures) end.order

pub returns-clause-laws : goal.returns-clause-laws
returns-clause-laws g c =
    let end = queued_done c.loop-ranked.invariant.so_far
    (ranking_from c.requires.scholar_pct c.requires.resident_pct c.remaining-count.ensures.ranks
    c.requires.candidates) (sym c.next_call.ensures ∙ c.in_default.is) in
    rw (c.from_vec.ensures, c.from_vec-2.ensures) end.laws

pub returns-clause-all_taken : goal.returns-clause-all_taken
returns-clause-all_taken g c =
    let end = queued_done c.loop-ranked.invariant.so_far
    (ranking_from c.requires.scholar_pct c.requires.resident_pct c.remaining-count.ensures.ranks
    c.requires.candidates) (sym c.next_call.ensures ∙ c.in_default.is) in
    let none = ap length end.nobody in
    record {
      emptied = end.nobody;
      taken = rw c.from_vec.ensures c.loop-ranked.invariant.taken;
      steps = omega (arith, c.loop-ranked.invariant.steps, c.loop-ranked.invariant.so_far.count, none);
    }
