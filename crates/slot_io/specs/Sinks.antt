-- What a sink tells, and what a write does to it, by what it answers.
use Rattle.std.specs.Prelude.{◌≡◌, ℕ, ◌<◌, ◌≤◌, List, Option, Result, IfOk, IsErrOf}
use Rattle.std.specs.Io.{WritesAtMost}
use Rattle.std.specs.Io.KnownBytes.{WriteAppends}
use Rattle.slot_io.specs.Refusals.{faults_after}
use Rattle.slot_io.specs.declared.refusal.IoRefusal.{IoRefusal}
use Rattle.slot_io.specs.declared.refusal.IoRefusal.TheVariants.{OutOfMemory}

-- the bytes that a sink holds, where it tells them, and how often its writes have failed
pub record AtSink : Type 0 where
  pub held : Option (List ℕ)
  pub faults : ℕ

abbrev pub at_sink : {K : Type 0} → (K → Option (List ℕ)) → (K → ℕ) → K → AtSink
at_sink held faults sink = record { held = held sink; faults = faults sink }

-- one write appended the first bytes of the piece, at least one, or was refused
pub record IsWrite (may_lack : Type 0) (before after : AtSink) (piece : List ℕ)
    (result : Result ℕ IoRefusal) : Type 0 where
  pub bound : WritesAtMost result piece
  pub some : IfOk result (λ count. 0 < count)
  pub bytes : WriteAppends before.held after.held result piece
  pub counts : before.faults ≤ after.faults
  pub fault : after.faults ≡ faults_after result before.faults
  pub memory : IsErrOf result OutOfMemory → may_lack
