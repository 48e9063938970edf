use Rattle.std.proofs.Common.{subst, sym}
use Rattle.admit_core.specs.State.{State}
use Rattle.desk_day.specs.DayPasses.{IsAnswered}
use Rattle.desk_day.specs.Unanswered.{AnswersOnly}
use Rattle.desk_day.specs.Who.{Moves}
use Rattle.desk_day.specs.declared.who.Who.{Who}
use Rattle.desk_day.specs.declared.who.Who.TheVariants.{CandidatesOf}
use Rattle.desk_day.proofs.Moved.{moves_by}
use Rattle.desk_day.proofs.WhoIsAsked.{left_only, touched_moved}
use Rattle.desk_day.proofs.present.Present.touch_morning.Goals as goal

pub invariant_of-self-2 : goal.invariant_of-self-2
invariant_of-self-2 c =
    let morning = c.touch_morning.new.state in
    subst (λ (these : Who). AnswersOnly these morning) (sym c.unanswered_after_morning.ensures)
    (left_only c.is_settled-was_settled.result c.in_ok-lapsed.touched c.self.inside.state morning
    (λ is. subst IsAnswered (sym c.self.view_is) (c.is_settled-was_settled.ensures is))
    c.in_ok-lapsed.ensures.touched)

pub returns-clause-moved : goal.returns-clause-moved
returns-clause-moved c =
    let morning = c.touch_morning.new.state in
    let touched = CandidatesOf c.in_ok-lapsed.touched in
    subst (λ (s : State). Moves s morning c.args.moved.now c.add.new.self) c.self.view_is
    (moves_by c.self.inside.state morning touched c.args.moved.now c.add.new.self c.touch_morning.ensures.dossier
    (touched_moved c.in_ok-lapsed.touched c.self.inside.state morning c.touch_morning.ensures.dossier
    c.in_ok-lapsed.ensures.touched) c.add.ensures)
