use Rattle.campaign_laws.proofs.Shown.{bed_more_can_lower_bar, bed_more_can_place_fewer, better_rank_can_harm}
use Rattle.campaign_laws.proofs.Shown.{leaving_out_can_pay, seat_more_can_empty, seat_more_can_place_fewer}
use Rattle.campaign_laws.proofs.ShownAnswers.{accepting_can_cost, accepting_earlier_can_cost, answers_cannot_be_split}
use Rattle.campaign_laws.proofs.ShownAnswers.{quitting_can_cost, withdrawing_can_cost, withdrawing_can_pay}
use Rattle.campaign_laws.proofs.cases.days_not_promised.Goals as goal

pub returns : goal.returns
returns c = record {
  quitting_can_cost = quitting_can_cost;
  seat_more_can_empty = seat_more_can_empty;
  leaving_out_can_pay = leaving_out_can_pay;
  better_rank_can_harm = better_rank_can_harm;
  accepting_can_cost = accepting_can_cost;
  withdrawing_can_cost = withdrawing_can_cost;
  withdrawing_can_pay = withdrawing_can_pay;
  accepting_earlier_can_cost = accepting_earlier_can_cost;
  answers_cannot_be_split = answers_cannot_be_split;
  bed_more_can_lower_bar = bed_more_can_lower_bar;
  seat_more_can_place_fewer = seat_more_can_place_fewer;
  bed_more_can_place_fewer = bed_more_can_place_fewer;
}
