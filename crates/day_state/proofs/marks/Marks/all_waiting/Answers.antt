use Rattle.std.proofs.Common.{◌∙◌, ap, map, sym}
use Rattle.std.proofs.lemmas.List.{length-replicate}
use Rattle.admit_core.specs.State.{is_waiting}
use Rattle.day_state.specs.Kept.{waiting_mark}
use Rattle.day_state.proofs.Paired.{map_replicate, marks_replicate}
use Rattle.day_state.proofs.marks.Marks.all_waiting.Goals as goal

pub invariant_of-result : goal.invariant_of-result
invariant_of-result c =
    let statuses = c.in_ok-vec.ensures.items_if_clones_equal (λ y e. e) in
    let stamps = c.in_ok-vec-2.ensures.items_if_clones_equal (λ y e. e) in
    rw (statuses, stamps, c.in_ok-all.ensures) (record {
      long = length-replicate c.args.count waiting_mark.stamp ∙ sym (length-replicate c.args.count waiting_mark.status);
      flags = sym (ap (map is_waiting) (marks_replicate c.args.count waiting_mark.status waiting_mark.stamp)
          ∙ map_replicate is_waiting c.args.count waiting_mark);
    })

pub returns : goal.returns
returns c =
    let statuses = c.in_ok-vec.ensures.items_if_clones_equal (λ y e. e) in
    let stamps = c.in_ok-vec-2.ensures.items_if_clones_equal (λ y e. e) in
    rw (statuses, stamps) (marks_replicate c.args.count waiting_mark.status waiting_mark.stamp)
