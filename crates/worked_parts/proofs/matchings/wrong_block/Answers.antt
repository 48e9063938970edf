use Rattle.worked_parts.proofs.matchings.wrong_block.Goals as goal

pub first_block-requires : goal.first_block-requires
first_block-requires c = c.requires.matching
