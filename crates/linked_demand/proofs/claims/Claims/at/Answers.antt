use Rattle.std.proofs.Common.{ℕ, ◌+◌, ◌<◌, ◌≡◌, List, Some, length, arith, sym, ap, subst, ◌∙◌}
use Rattle.std.specs.Prelude.{slice_get}
use Rattle.day_state.specs.Spans.{IsWithin, part_of}
use Rattle.linked_demand.specs.Ends.{spans_in}
use Rattle.linked_demand.proofs.LineWalk.{many_parts, part_lent}
use Rattle.linked_demand.proofs.claims.Claims.at.Goals as goal

pub span_at-requires : goal.span_at-requires
span_at-requires c =
    let many = many_parts c.self.inside.wishes.items c.self.inside.bounds.items c.self.view_is in
    let P = λ (es : List ℕ). c.args.place + 1 < length es in
    subst P (sym c.as_slice-2.ensures.value) (omega (arith, many, c.requires))

pub part-requires : goal.part-requires
part-requires c =
    let wishes = c.self.inside.wishes.items in
    let bounds = c.self.inside.bounds.items in
    let span = c.span_at.result in
    let lt : c.args.place + 1 < length bounds = omega (arith, many_parts wishes bounds c.self.view_is, c.requires) in
    let P = λ (ws : List ℕ). IsWithin (length ws) span in
    let Q = λ (es : List ℕ). Some span ≡ slice_get (spans_in es) c.args.place in
    subst P (sym c.as_slice.ensures.value)
    (part_lent wishes bounds c.args.place c.self.invariant c.self.view_is lt
    (subst Q c.as_slice-2.ensures.value c.span_at.ensures)).0

pub returns : goal.returns
returns c =
    let wishes = c.self.inside.wishes.items in
    let bounds = c.self.inside.bounds.items in
    let span = c.span_at.result in
    let lt : c.args.place + 1 < length bounds = omega (arith, many_parts wishes bounds c.self.view_is, c.requires) in
    let Q = λ (es : List ℕ). Some span ≡ slice_get (spans_in es) c.args.place in
    c.part.ensures ∙ ap (λ (ws : List ℕ). part_of ws span) c.as_slice.ensures.value
    ∙ (part_lent wishes bounds c.args.place c.self.invariant c.self.view_is lt
    (subst Q c.as_slice-2.ensures.value c.span_at.ensures)).1
