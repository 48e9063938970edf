use Rattle.std.proofs.Common.{inl, inr}
use Rattle.admit_core.proofs.Plain.{on_err}
use Rattle.dossier_check.proofs.Outcomes.{on_err_of}
use Rattle.dossier_check.proofs.row_tests.ThenRowChecks.next.Goals as goal

pub returns-in_err-reason-clause-memory : goal.returns-in_err-reason-clause-memory
returns-in_err-reason-clause-memory g c = on_err _ (inl c.in_err-reason.ensures.memory)

pub returns-clause-memory : goal.returns-clause-memory
returns-clause-memory g c = on_err_of c.next.result inr c.next.ensures.memory
