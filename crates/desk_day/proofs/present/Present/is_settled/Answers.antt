use Rattle.std.proofs.Common.{◌≡◌, ◌∙◌, List, ap, length, subst, sym}
use Rattle.admit_core.specs.declared.state.Mark.{Mark}
use Rattle.desk_day.specs.DayPasses.{IsAnswered}
use Rattle.desk_day.proofs.WhoIsAsked.{settled_all}
use Rattle.desk_day.proofs.present.Present.is_settled.Goals as goal

pub returns : goal.returns
returns c = λ is.
    let s = c.self.inside.state in
    let long : length s.marks ≡ length s.dossier.wishes =
    ap (λ (ms : List Mark). length ms) (sym c.marks.ensures.marks) ∙ c.marks.ensures.one_each in
    subst IsAnswered c.self.view_is
    (settled_all c.self.inside.unanswered s long (sym c.is_nobody.ensures ∙ is) c.self.invariant)
