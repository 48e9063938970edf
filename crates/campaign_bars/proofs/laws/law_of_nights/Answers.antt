use Rattle.campaign_bars.proofs.Overnight.{no_bar_falls_overnight}
use Rattle.campaign_bars.proofs.laws.law_of_nights.Goals as goal

pub returns : goal.returns
returns c = record { overnight = no_bar_falls_overnight }
