use Rattle.desk_day.specs.LastPasses.{last_pass}
use Rattle.explanations.proofs.WhatIsSaid.{explains_there}
use Rattle.explanations.proofs.cases.explain_on_desk.Goals as goal

pub returns : goal.returns
returns c =
    let last = last_pass c.args.desk.now.opening c.args.orders.now.orders c.args.ceilings.now c.args.bars.now in
    explains_there c.of_desk-last.result last c.now.result.now c.args.desk.now.present c.args.wish
    c.explained.result c.of_desk-last.ensures c.now.ensures c.explained.ensures
