use Rattle.std.proofs.Common.{◌+◌, ◌-◌, length, drop, rules, arith, take_all, length-drop}
use Rattle.certificate.proofs.Cutting.{parts_some, parts_none}
use Rattle.certificate.proofs.cut.cut.Goals as goal

pub returns-in-None-clause-none : goal.returns-in-None-clause-none
returns-in-None-clause-none c = parts_none c.args.byte c.args.text.now (search rules)

pub returns-in-Some-clause-first : goal.returns-in-Some-clause-first
returns-in-Some-clause-first c =
    let found = parts_some c.args.byte c.in-Some.at c.args.text.now (search rules) in
    rw (take_all (length c.args.text.now - (c.in-Some.at + 1)) (drop (c.in-Some.at + 1)
    c.args.text.now) (omega (arith, length-drop (c.in-Some.at + 1) c.args.text.now))) found.1
