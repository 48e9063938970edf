use Rattle.played.proofs.KeptDays.{all_whole}
use Rattle.played.proofs.days.play.Goals as goal

pub returns-clause-ends : goal.returns-clause-ends
returns-clause-ends g c = all_whole _ _ _ _ _ (λ p. record { days = p.days.items; end = p.end }) c.play_wanted.result
    c.play_wanted.ensures.ends
