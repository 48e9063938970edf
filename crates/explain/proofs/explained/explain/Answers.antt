use Rattle.day_run.specs.CampaignDays.{pass_of}
use Rattle.explanations.proofs.WhatIsSaid.{explains_there}
use Rattle.explain.proofs.explained.explain.Goals as goal

pub returns : goal.returns
returns g c =
    let course = c.args.campaign.now.course in
    explains_there c.closing_of-last.result (pass_of course) c.state.result.now course.present
    c.args.wish c.explained.result c.closing_of-last.ensures c.state.ensures
    c.explained.ensures
