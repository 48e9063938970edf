use Rattle.change_laws.proofs.StruckCampaign.{unbarred_wish_may_be_struck_out}
use Rattle.change_laws.proofs.laws.law_of_struck_wishes.Goals as goal

-- src/laws.rt:32:1
pub returns : goal.returns
returns c = record { struck = unbarred_wish_may_be_struck_out }
