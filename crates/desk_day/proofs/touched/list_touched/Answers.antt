use Rattle.std.proofs.Common.{◌∙◌, refl}
use Rattle.desk_day.proofs.Touching.{touched_within}
use Rattle.desk_day.proofs.touched.list_touched.Goals as goal

pub returns-clause-within : goal.returns-clause-within
returns-clause-within c =
    touched_within c.args.state.now.dossier c.args.lapsed.now c.answers_on-today.result.answers.now
    c.push_answered.new.places.items
    c.requires
    (rw c.dossier.ensures at c.answers_on-today.ensures.targets)
    (c.in_ok-push_answered.ensures ∙ rw (c.in_ok-push_lapsed.ensures, c.new-places.ensures.items) refl)
