use Rattle.std.proofs.Common.{◌≡◌, ◌+◌, ◌≤◌, length}
use Rattle.certificate.specs.Grammar.{parts, read, said_from}
use Rattle.certificate.specs.Open.{chain_with}
use Rattle.certificate.proofs.read.read_lines.Given as goal

abbrev pub invariant-lines : goal.invariant-lines
invariant-lines l = record {
  whole : read l.fn.bytes ≡ chain_with l.reading (said_from l.reading.day l.reading.pass l.row (parts 10 l.rest));
  rows : l.row + length l.rest ≤ length l.fn.bytes + 1;
}

abbrev pub decreases-lines : goal.decreases-lines
decreases-lines l = length l.rest
