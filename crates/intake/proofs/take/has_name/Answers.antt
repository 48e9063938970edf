use Rattle.std.proofs.Common.{◌∙◌, ap, is_some}
use Rattle.intake.proofs.Named.{school_there, wish_there}
use Rattle.intake.proofs.take.has_name.Goals as goal

pub returns-in-Wish : goal.returns-in-Wish
returns-in-Wish c = wish_there c.args.index.now c.args.name c.in-Wish.id c.is_some.result c.in-Wish.is
    (c.is_some.ensures ∙ ap is_some c.wish_place.ensures)

pub returns-in-School : goal.returns-in-School
returns-in-School c = school_there c.args.index.now c.args.name c.in-School.id c.is_some-in-School.result
    c.in-School.is (c.is_some-in-School.ensures ∙ ap is_some c.school_place.ensures)
