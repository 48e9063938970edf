use Rattle.std.proofs.Common.{◌∙◌, List, Ok, Result, ap, inl, refl, sym, true}
use Rattle.admit_core.specs.declared.ranking.CallOrder.{CallOrder}
use Rattle.admit_core.specs.declared.refusal.Refusal.{Refusal}
use Rattle.desk_day.specs.DeskStates.{DeskStates}
use Rattle.played.specs.LastDesks.{DeskBy, DeskLeft}
use Rattle.played.proofs.KeptDays.{all_kept, along_still, breaks_kept, cut_kept, kept_by_orders, where_broken}
use Rattle.played.proofs.days.play_some.Goals as goal

pub invariant_of-after_days : goal.invariant_of-after_days
invariant_of-after_days g c =
    along_still c.in-Ok.ensures.plays
    (c.into_parts-desk.ensures.dossier
    ∙ ap (λ (k : DeskStates). k.present.dossier) (sym c.into_parts-desk.ensures.desk))

pub returns-in-Ok-clause-ends : goal.returns-in-Ok-clause-ends
returns-in-Ok-clause-ends g c =
    let same = c.into_parts-desk.ensures.orders ∙ ap (λ (x : DeskBy). x.orders) c.in_ok-begin.ensures in
    let begun = c.into_parts-desk.ensures.desk ∙ ap (λ (x : DeskBy). x.desk) c.in_ok-begin.ensures in
    let left : List CallOrder → DeskLeft =
    λ orders. record { desk = c.play_days.new.desk; orders = orders; is_begun = true } in
    let ended : DeskLeft → Result DeskLeft Refusal = λ last. Ok last in
    all_kept c.args.wanted c.requires.orders begun c.requires.some_day
    (kept_by_orders same c.in-Ok.ensures.plays)
    (ap ended (c.after_days.ensures ∙ ap left same))

pub returns-in-Err-Unfit-clause-ends : goal.returns-in-Err-Unfit-clause-ends
returns-in-Err-Unfit-clause-ends g c =
    let same = c.into_parts-desk.ensures.orders ∙ ap (λ (x : DeskBy). x.orders) c.in_ok-begin.ensures in
    let begun = c.into_parts-desk.ensures.desk ∙ ap (λ (x : DeskBy). x.desk) c.in_ok-begin.ensures in
    cut_kept c.args.wanted c.requires.orders begun c.in-Err-Unfit.refusal
    (kept_by_orders same (rw c.in-Err-Unfit.field-0-is at c.in-Err-Unfit.ensures.plays)) refl

pub returns-in_err-begin-clause-ends : goal.returns-in_err-begin-clause-ends
returns-in_err-begin-clause-ends g c =
    where_broken _ _ _ c.from_residual.result c.from_residual.ensures.1 (inl (λ name. refl))

pub returns-clause-ends : goal.returns-clause-ends
returns-clause-ends g c =
    let same = c.into_parts-desk.ensures.orders ∙ ap (λ (x : DeskBy). x.orders) c.in_ok-begin.ensures in
    let begun = c.into_parts-desk.ensures.desk ∙ ap (λ (x : DeskBy). x.desk) c.in_ok-begin.ensures in
    breaks_kept c.args.dossier.now begun
    (kept_by_orders same
    (rw c.in-Err-OutOfMemory.field-0-is at c.in-Err-OutOfMemory.ensures.plays))
