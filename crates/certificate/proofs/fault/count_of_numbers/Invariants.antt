use Rattle.std.proofs.Common.{◌≡◌, ◌+◌, ◌≤◌, length}
use Rattle.std.specs.Prelude.{option_map}
use Rattle.certificate.specs.Grammar.{numbers, parts}
use Rattle.certificate.proofs.Faulting.{counted}
use Rattle.certificate.proofs.fault.count_of_numbers.Given as goal

abbrev pub invariant-words : goal.invariant-words
invariant-words l = record {
  whole : option_map (λ ns. length ns) (numbers (parts 32 l.fn.text)) ≡ counted l.count (numbers (parts 32 l.rest));
  few : l.count + length l.rest ≤ length l.fn.text;
}

abbrev pub decreases-words : goal.decreases-words
decreases-words l = length l.rest
