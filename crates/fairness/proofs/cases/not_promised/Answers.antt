use Rattle.fairness.proofs.Shown.{better_boarding_rank, better_rank, one_bed_more, one_seat_more, shared_group}
use Rattle.fairness.proofs.Shown.{to_be_a_scholar}
use Rattle.fairness.proofs.cases.not_promised.Goals as goal

pub returns : goal.returns
returns c = record {
  one_seat_more = one_seat_more;
  one_bed_more = one_bed_more;
  better_rank = better_rank;
  better_boarding_rank = better_boarding_rank;
  to_be_a_scholar = to_be_a_scholar;
  shared_group = shared_group;
}
