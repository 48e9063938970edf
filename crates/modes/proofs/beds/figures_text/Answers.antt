use Rattle.modes.proofs.Figuring.{breaks_there, figured_there}
use Rattle.modes.proofs.beds.figures_text.Goals as goal

pub returns-clause-text : goal.returns-clause-text
returns-clause-text g c =
    figured_there c.args.dossier.now c.args.ceilings.now c.args.place _ _ _ (λ text. text.items) c.figures_of.result _ _
    c.along-questions.ensures c.figures_of.ensures.text

pub returns-clause-breaks : goal.returns-clause-breaks
returns-clause-breaks g c =
    breaks_there c.args.ceilings.now c.args.place _ _ _ c.figures_of.result _ _ c.along-questions.ensures
    c.figures_of.ensures.breaks
