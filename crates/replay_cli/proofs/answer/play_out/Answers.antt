use Rattle.std.proofs.Common.{◌∙◌, List, ap, option_map, subst}
use Rattle.admit_core.specs.CallOrder.{AreCallOrders}
use Rattle.admit_core.specs.DossierRows.{DossierRows}
use Rattle.admit_core.specs.declared.ranking.RankGroup.{RankGroup}
use Rattle.intake.specs.Dated.{dated_from}
use Rattle.played.proofs.KeptDays.{where_broken}
use Rattle.played.proofs.Naming.{back_again}
use Rattle.replay_cli.proofs.Played.{breaks_untold, by_orders, can_end_kept, no_days, reply_ends_kept, stops_so}
use Rattle.replay_cli.proofs.Played.{untold_idle}
use Rattle.played.specs.declared.wanted.Wanted.{Wanted}
use Rattle.replay_cli.proofs.answer.play_out.Goals as goal

pub returns-in_err-played-clause-idle : goal.returns-in_err-played-clause-idle
returns-in_err-played-clause-idle g c = λ idle. (c.in_err-played.ensures.idle
    (ap (λ (w : Wanted). w.number) c.wanted_of.ensures ∙ no_days c.args.request.now idle.no_day)).untold

pub ending-requires-clause-can : goal.ending-requires-clause-can
ending-requires-clause-can g c =
    can_end_kept c.args.request.now c.requires.request c.args.input.now c.as_ref-dated.ensures.value
    c.in_ok-dated.ensures.dates c.terms_in-terms.ensures c.wanted_of.ensures
    c.in_ok-played.ensures.ends.plays c.requires.named c.requires.indexed

pub ending-requires-clause-by_orders : goal.ending-requires-clause-by_orders
ending-requires-clause-by_orders g c =
    by_orders _ _ _ c.in_ok-played.ensures.ends.left

pub returns-clause-back : goal.returns-clause-back
returns-clause-back g c = back_again _ _ _ c.in_ok-played.ensures.back c.ending.ensures.ends.lends.back

pub returns-clause-idle : goal.returns-clause-idle
returns-clause-idle g c =
    untold_idle _ _ _ _ (λ none.
    (c.in_ok-played.ensures.idle (ap (λ (w : Wanted). w.number) c.wanted_of.ensures ∙ none)).untold)
    c.ending.ensures.ends.lends

pub returns-clause-ends : goal.returns-clause-ends
returns-clause-ends g c =
    λ job is_job is_input.
    reply_ends_kept c.args.request.now c.requires.request c.args.input.now c.as_ref-dated.ensures.value
    c.in_ok-dated.ensures.dates c.terms_in-terms.ensures c.wanted_of.ensures
    c.in_ok-played.ensures.ends.plays _ c.ending.result job (c.in_ok-dated.ensures.value
    ∙ ap (option_map (dated_from c.args.input.now.dossier c.args.input.now.dates)) c.deadlines_of.ensures) is_job
    is_input c.ending.ensures.ends

pub returns-in_err-dated-clause-ends : goal.returns-in_err-dated-clause-ends
returns-in_err-dated-clause-ends g c =
    λ job is_job is_input. where_broken _ _ _ c.from_residual.result c.from_residual.ensures.1 (breaks_untold job _)

pub returns-in_err-orders-clause-ends : goal.returns-in_err-orders-clause-ends
returns-in_err-orders-clause-ends g c =
    λ job is_job is_input.
    where_broken _ _ _ c.from_residual-in_err-orders.result c.from_residual-in_err-orders.ensures.1
    (breaks_untold job _)

pub returns-in_err-played-clause-ends : goal.returns-in_err-played-clause-ends
returns-in_err-played-clause-ends g c =
    λ job is_job is_input.
    where_broken _ _ _ c.from_residual-in_err-played.result c.from_residual-in_err-played.ensures.1
    (stops_so c.args.request.now c.args.input.now job c.in_ok-orders.orders.orders is_job is_input
    c.as_ref-dated.ensures.value
    (c.in_ok-dated.ensures.value
    ∙ ap (option_map (dated_from c.args.input.now.dossier c.args.input.now.dates)) c.deadlines_of.ensures)
    (subst (λ (groups : List RankGroup). AreCallOrders groups c.in_ok-orders.orders.orders)
    (c.as_slice.ensures ∙ ap (λ (d : DossierRows). d.groups) c.dossier.view_is) c.in_ok-orders.ensures.orders)
    c.terms_in-terms.ensures c.wanted_of.ensures c.in_err-played.ensures.ends)
