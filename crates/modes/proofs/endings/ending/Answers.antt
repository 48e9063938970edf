use Rattle.std.proofs.Common.{◌≡◌, IfOk, Result, ap, refl, subst}
use Rattle.admit_core.specs.declared.refusal.Refusal.{Refusal}
use Rattle.played.specs.LastDesks.{DeskLeft, desk_in}
use Rattle.modes.proofs.Lending.{ends_by_orders, ends_cut_short}
use Rattle.modes.proofs.OnDesks.{ends_led_by, written}
use Rattle.modes.proofs.endings.ending.Goals as goal

pub reply_by_mode-requires-clause-can : goal.reply_by_mode-requires-clause-can
reply_by_mode-requires-clause-can g c =
    let same = subst (λ (e : Result DeskLeft Refusal). IfOk e (λ last. last.orders ≡ c.args.orders.now.orders))
    c.in-Ok.is c.requires.by_orders in
    ends_led_by c.requires.can (ap desk_in c.in-Ok.is) same

pub returns-in-Ok-clause-ends : goal.returns-in-Ok-clause-ends
returns-in-Ok-clause-ends g c =
    let same = subst (λ (e : Result DeskLeft Refusal). IfOk e (λ last. last.orders ≡ c.args.orders.now.orders))
    c.in-Ok.is c.requires.by_orders in
    ends_by_orders c.reply_by_mode.result (ap desk_in c.in-Ok.is) same c.reply_by_mode.ensures.ends

pub end_cut_short-requires : goal.end_cut_short-requires
end_cut_short-requires g c = (written _ _ c.requires.can).0

pub returns-in-Err-clause-ends : goal.returns-in-Err-clause-ends
returns-in-Err-clause-ends g c =
    ends_by_orders c.end_cut_short.result (ap desk_in c.in-Err.is) refl
    (ends_cut_short _ _ _ _ c.end_cut_short.result c.end_cut_short.ensures)
