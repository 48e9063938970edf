use Rattle.std.proofs.Common.{List, subst, sym, ◌∙◌, All}
use Rattle.sample_gen.specs.Choices.{IsSmall}
use Rattle.sample_gen.specs.declared.choices.Choice.{Choice}
use Rattle.sample_gen.proofs.ChoiceFacts.{small_choices}
use Rattle.sample_gen.proofs.slots.tables_of.Goals as goal

pub rankings-requires : goal.rankings-requires
rankings-requires c =
    subst (λ (xs : List Choice). All IsSmall xs) (sym (c.as_slice.ensures.value ∙ c.in_ok-choices.ensures))
    (small_choices c.args.number c.requires)

pub boarding-requires-clause-small : goal.boarding-requires-clause-small
boarding-requires-clause-small c =
    subst (λ (xs : List Choice). All IsSmall xs) (sym (c.as_slice-2.ensures.value ∙ c.in_ok-choices.ensures))
    (small_choices c.args.number c.requires)

pub wishes-requires : goal.wishes-requires
wishes-requires c =
    subst (λ (xs : List Choice). All IsSmall xs) (sym (c.as_slice-3.ensures.value ∙ c.in_ok-choices.ensures))
    (small_choices c.args.number c.requires)
