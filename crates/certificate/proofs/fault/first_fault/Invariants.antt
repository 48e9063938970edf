use Rattle.std.proofs.Common.{◌≡◌, ◌+◌, ◌≤◌, length}
use Rattle.certificate.specs.Faults.{fault_in}
use Rattle.certificate.specs.Grammar.{parts, read, said_from}
use Rattle.certificate.proofs.fault.first_fault.Given as goal

abbrev pub invariant-lines : goal.invariant-lines
invariant-lines l = record {
  whole : fault_in (read l.fn.bytes) ≡ fault_in (said_from l.days l.passes l.row (parts 10 l.rest));
  rows : l.row + length l.rest ≤ length l.fn.bytes + 1;
}

abbrev pub decreases-lines : goal.decreases-lines
decreases-lines l = length l.rest
