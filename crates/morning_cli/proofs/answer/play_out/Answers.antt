use Rattle.std.proofs.Common.{◌∙◌, ap, option_map, refl}
use Rattle.intake.specs.Dated.{dated_from}
use Rattle.played.proofs.Naming.{back_again}
use Rattle.morning_cli.proofs.Mornings.{can, ends_as, ends_morning, ends_refused, offers_dated}
use Rattle.morning_cli.proofs.answer.play_out.Goals as goal

pub morning_after-requires-clause-dates : goal.morning_after-requires-clause-dates
morning_after-requires-clause-dates g c =
    let ends = ends_as c.in_ok-played.ensures.ends c.in-Ok.is in
    offers_dated c.args.asked.now c.requires.asked c.args.input.now c.as_ref-dated.ensures.value
    c.in_ok-dated.ensures.dates c.terms_in.ensures c.days_of-number.ensures ends.plays c.requires.indexed
    c.in-Ok.last.desk refl

pub returns-in-Ok-clause-ends : goal.returns-in-Ok-clause-ends
returns-in-Ok-clause-ends g c =
    let ends = ends_as c.in_ok-played.ensures.ends c.in-Ok.is in
    λ job is_job is_input.
    ends_morning c.args.asked.now c.requires.asked c.args.input.now c.as_ref-dated.ensures.value
    c.in_ok-dated.ensures.dates c.terms_in.ensures c.days_of-number.ensures ends.plays c.requires.indexed
    job is_job is_input (c.in_ok-dated.ensures.value
    ∙ ap (option_map (dated_from c.args.input.now.dossier c.args.input.now.dates)) c.deadlines_of.ensures)
    c.morning_after.result c.in-Ok.last.desk refl c.morning_after.ensures

pub ending-requires-clause-can : goal.ending-requires-clause-can
ending-requires-clause-can g c =
    let ends = ends_as c.in_ok-played.ensures.ends c.in-Err.is in
    can c.args.asked.now c.requires.asked c.args.input.now c.as_ref-dated.ensures.value
    c.in_ok-dated.ensures.dates c.terms_in.ensures c.days_of-number.ensures ends.plays c.requires.indexed

pub returns-clause-back : goal.returns-clause-back
returns-clause-back g c =
    back_again _ _ _ c.in_ok-played.ensures.back c.ending.ensures.ends.lends.back

pub returns-clause-ends : goal.returns-clause-ends
returns-clause-ends g c =
    let ends = ends_as c.in_ok-played.ensures.ends c.in-Err.is in
    λ job is_job is_input.
    ends_refused c.args.asked.now c.requires.asked c.args.input.now c.as_ref-dated.ensures.value
    c.in_ok-dated.ensures.dates c.terms_in.ensures c.days_of-number.ensures ends.plays c.requires.indexed
    job is_job is_input (c.in_ok-dated.ensures.value
    ∙ ap (option_map (dated_from c.args.input.now.dossier c.args.input.now.dates)) c.deadlines_of.ensures) _
    c.ending.result c.in-Err.refusal refl c.ending.ensures.ends
