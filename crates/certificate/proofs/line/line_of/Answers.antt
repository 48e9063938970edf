use Rattle.std.proofs.Common.{◌≡◌, ◌∷◌, ◌∙◌, Some, rules}
use Rattle.certificate.specs.Grammar.{numbers, parts}
use Rattle.certificate.proofs.Saying.{line_numbers, some_parts}
use Rattle.certificate.proofs.line.line_of.Goals as goal

pub returns-in-Some-2 : goal.returns-in-Some-2
returns-in-Some-2 c =
    let first : parts 32 c.args.text.now ≡ c.in-Some.word.now ∷ parts 32 c.in-Some.after.now = search rules in
    let is : Some c.in-Some-2.numbers.items ≡ numbers (parts 32 c.in-Some.after.now) = search rules in
    c.line_with.ensures
    ∙ line_numbers c.args.row c.in-Some.word.now c.in-Some-2.numbers.items _ _ first
    (some_parts 32 c.in-Some.after.now) is
