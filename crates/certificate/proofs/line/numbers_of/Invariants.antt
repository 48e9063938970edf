use Rattle.std.proofs.Common.{◌≡◌, length}
use Rattle.certificate.specs.Grammar.{numbers, parts}
use Rattle.certificate.proofs.Numbering.{put_before}
use Rattle.certificate.proofs.line.numbers_of.Given as goal

abbrev pub invariant-words : goal.invariant-words
invariant-words l = numbers (parts 32 l.fn.text) ≡ put_before l.found.items (numbers (parts 32 l.rest))

abbrev pub decreases-words : goal.decreases-words
decreases-words l = length l.rest
