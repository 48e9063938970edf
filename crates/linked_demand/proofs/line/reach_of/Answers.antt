use Rattle.std.proofs.Common.{ℕ, ◌≡◌, ◌<◌, List, [], length, get_or, true, false, sym, arith, subst}
use Rattle.linked_demand.specs.Links.{NeedsSeatAlone}
use Rattle.linked_demand.specs.Wants.{wants_along}
use Rattle.linked_demand.proofs.Reach.{reach_past, walked_set, walked_unset}
use Rattle.linked_demand.proofs.Walking.{length-wants, wants_read, below_read}
use Rattle.linked_demand.proofs.line.reach_of.Goals as goal
use Rattle.linked_demand.proofs.line.reach_of.Goals.{then-wants_alone, else-wants_alone}

pub wants_alone-requires : goal.wants_alone-requires
wants_alone-requires c =
    let claims = c.args.claims.now in
    let within : c.loop-place.place < length claims =
    omega (arith, c.loop-place-test.true, c.loop-place.auto.place-end, c.count-count.ensures) in
    let read : c.at.result.now ≡ get_or claims c.loop-place.place [] = c.at.ensures in
    let P = λ (ks : List ℕ). NeedsSeatAlone c.args.state.now c.args.opens.now ks in
    record {
      claim = below_read (length c.args.state.now.dossier.wishes) c.args.claims.now c.requires.claims
          c.loop-place.place c.at.result.now
          (omega (arith, c.loop-place-test.true, c.loop-place.auto.place-end, c.count-count.ensures)) c.at.ensures;
      alone = subst P (sym read) (c.requires.alone c.loop-place.place within);
    }

pub loop-place-preserved : goal.loop-place-preserved
loop-place-preserved c =
    let s = c.args.state.now in
    let opens = c.args.opens.now in
    let claims = c.args.claims.now in
    let row = wants_along s opens claims in
    let i = c.loop-place.place in
    let left = c.loop-place.left in
    let within : i < length claims = omega (
      arith,
      c.loop-place-test.true,
      c.loop-place.auto.place-end,
      c.count-count.ensures,
    ) in
    let lt : i < length row = omega (arith, within, length-wants s opens claims) in
    elim c.if-wants_alone.branch [
      | then-wants_alone w ↦
          walked_set c.args.seats row i left c.if-wants_alone.left lt
          (wants_read s opens claims i c.at.result.now c.wants_alone.result true within c.at.ensures
          c.wants_alone.ensures w.if-wants_alone.true)
          (omega (arith, w.left-is, c.if-left-eq0.false)) c.loop-place.invariant
      | else-wants_alone w ↦
          rw w.left-is (walked_unset c.args.seats row i left lt
          (wants_read s opens claims i c.at.result.now c.wants_alone.result false within c.at.ensures
          c.wants_alone.ensures w.if-wants_alone.false)
          (omega (arith, c.if-left-eq0.false)) c.loop-place.invariant)
    ]

pub returns : goal.returns
returns c =
    let row = wants_along c.args.state.now c.args.opens.now c.args.claims.now in
    omega (
      arith,
      c.loop-place.invariant,
      c.loop-place-test.false,
      c.loop-place.auto.place-end,
      c.count-count.ensures,
      length-wants c.args.state.now c.args.opens.now c.args.claims.now,
      reach_past c.loop-place.left row c.loop-place.place
          (omega (
            arith,
            c.loop-place-test.false,
            c.loop-place.auto.place-end,
            c.count-count.ensures,
            length-wants c.args.state.now c.args.opens.now c.args.claims.now,
          )),
    )
