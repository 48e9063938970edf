use Rattle.std.proofs.Common.{◌+◌, ◌-◌, ◌++◌, ap, sym, ◌∙◌, arith}
use Rattle.sample_gen.specs.Choices.{own_choices}
use Rattle.sample_gen.proofs.Lists.{flat_map-range_more}
use Rattle.sample_gen.proofs.choices.choices_of.Goals as goal

pub loop-candidate-preserved : goal.loop-candidate-preserved
loop-candidate-preserved c =
    let f = own_choices c.programmes_of-programmes.result in
    let candidate = c.loop-candidate.candidate in
    c.in_ok-add_choices.ensures ∙ ap (λ xs. xs ++ f candidate) c.loop-candidate.invariant
    ∙ sym (flat_map-range_more f 1 (candidate - 1) (candidate + 1 - 1) candidate (omega arith) (omega arith))
