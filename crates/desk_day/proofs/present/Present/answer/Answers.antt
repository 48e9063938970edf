use Rattle.std.proofs.Common.{◌≡◌, ◌∙◌, List, ap, length, subst, sym}
use Rattle.admit_core.specs.declared.state.Mark.{Mark}
use Rattle.auto_answer.proofs.Again.{answered_once}
use Rattle.desk_day.specs.DayPasses.{IsAnswered}
use Rattle.desk_day.proofs.WhoIsAsked.{only_none}
use Rattle.desk_day.proofs.present.Present.answer.Goals as goal

pub invariant_of-self : goal.invariant_of-self
invariant_of-self c =
    let s = c.self.inside.state in
    let long : length s.marks ≡ length s.dossier.wishes =
    ap (λ (ms : List Mark). length ms) (sym c.marks.ensures.marks) ∙ c.marks.ensures.one_each in
    only_none c.answer_for-freed.new.state c.nobody.result c.nobody.ensures
    (subst IsAnswered (sym c.answer_for-freed.ensures.state) (λ again. answered_once s c.args.stamp long again))
