use Rattle.certificate.specs.Grammar.{parts}
use Rattle.certificate.proofs.Faulting.{none_only}
use Rattle.certificate.proofs.Saying.{some_parts}
use Rattle.certificate.proofs.fault.only_number.Goals as goal

pub returns-in-Some : goal.returns-in-Some
returns-in-Some c =
    let after = c.in-Some.field-0.1.now in
    none_only c.in-Some.field-0.0.now (parts 32 after) (parts 32 c.args.text.now) c.in-Some.ensures.first
    (some_parts 32 after)
