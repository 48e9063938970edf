use Rattle.std.proofs.Common.{◌⊎◌, inl, inr}
use Rattle.dossier_check.proofs.Outcomes.{lacks_none}
use Rattle.dossier_check.proofs.answers.check_answers.Goals as goal

pub returns-clause-memory : goal.returns-clause-memory
returns-clause-memory c = lacks_none c.scan.result (λ lacks. none lacks.1) c.scan.ensures.memory
  where
    none : ⊥ ⊎ (⊥ ⊎ ⊥) → ⊥
    none (inl e) = e
    none (inr (inl e)) = e
    none (inr (inr e)) = e
