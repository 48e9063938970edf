use Rattle.cut_laws.proofs.Cut.{alike_states_go_on, campaigns_may_be_cut}
use Rattle.cut_laws.proofs.Rest.{cut_days_are_the_rest}
use Rattle.cut_laws.proofs.laws.laws_of_cuts.Goals as goal

pub returns : goal.returns
returns c = record { cut = campaigns_may_be_cut; alike = alike_states_go_on; rest = cut_days_are_the_rest }
