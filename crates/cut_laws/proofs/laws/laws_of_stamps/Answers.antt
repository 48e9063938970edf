use Rattle.cut_laws.proofs.Cut.{open_offers_decide}
use Rattle.cut_laws.proofs.Days.{stamps_decide_nothing}
use Rattle.cut_laws.proofs.laws.laws_of_stamps.Goals as goal

pub returns : goal.returns
returns c = record { stamps = stamps_decide_nothing; offers = open_offers_decide }
