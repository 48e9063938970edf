use Rattle.round.proofs.OfferLaws.{offers_fit_seats, offers_fit_beds, lowered_for_beds}
use Rattle.round.proofs.FewFalls.{falls_are_few}
use Rattle.round.proofs.laws.laws_of_passes.Goals as goal

pub returns-clause-seats : goal.returns-clause-seats
returns-clause-seats c = offers_fit_seats

pub returns-clause-beds : goal.returns-clause-beds
returns-clause-beds c = offers_fit_beds

pub returns-clause-lowered : goal.returns-clause-lowered
returns-clause-lowered c = lowered_for_beds

pub returns-clause-few : goal.returns-clause-few
returns-clause-few c = falls_are_few
