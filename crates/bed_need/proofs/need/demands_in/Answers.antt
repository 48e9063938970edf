use Rattle.std.proofs.Common.{◌≡◌, ◌∙◌, ap, arith, length, rules}
use Rattle.admit_core.specs.Boarding.{boarding}
use Rattle.admit_core.proofs.DemandLaws.{boarding_is_lawful}
use Rattle.linked_demand.specs.Rounds.{bar_each, length-bar_each}
use Rattle.bed_need.proofs.Coming.{named_each}
use Rattle.bed_need.proofs.need.demands_in.Goals as goal

pub returns : goal.returns
returns c =
    let round = c.args.round.now in
    let bars = bar_each round.ceilings round.bars in
    let many : c.len.result ≡ length c.in_ok-names.names.items = search rules in
    many
    ∙ ap length c.in_ok-names.ensures
    ∙ named_each (boarding round.state round.orders round.ceilings) bars c.args.school c.bar.result
    (boarding_is_lawful round.state round.orders round.ceilings) c.requires.bars
    (omega (arith, c.requires.school, length-bar_each round.ceilings round.bars)) c.bar.ensures
