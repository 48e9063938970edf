use Rattle.std.proofs.Common.{length, ap, subst, sym, ◌∙◌}
use Rattle.next_morning.specs.Laws.{IsAccepted}
use Rattle.next_morning.proofs.DatedFaultless.{next_is_accepted}
use Rattle.next_morning.proofs.morning.next_morning.Goals as goal

pub returns-clause-accepted : goal.returns-clause-accepted
returns-clause-accepted c = λ is.
    subst IsAccepted (sym c.in_ok-turn.ensures.turned)
    (next_is_accepted c.args.day c.args.tables c.args.evening.now c.requires.dossier
    (ap length (sym c.marks.ensures.marks) ∙ c.marks.ensures.one_each) c.accepts_once.ensures _ is)
