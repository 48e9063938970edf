use Rattle.std.proofs.Common.{◌∙◌}
use Rattle.certificate.specs.Grammar.{parts}
use Rattle.certificate.proofs.Faulting.{kind_of_words}
use Rattle.certificate.proofs.Saying.{some_parts}
use Rattle.certificate.proofs.fault.kind_at.Goals as goal

pub returns-in-Some : goal.returns-in-Some
returns-in-Some c = λ row.
    c.kind_with.ensures
    ∙ kind_of_words row c.in-Some.word.now (parts 32 c.in-Some.after.now) (parts 32 c.args.text.now)
    c.in-Some.ensures.first (some_parts 32 c.in-Some.after.now)
