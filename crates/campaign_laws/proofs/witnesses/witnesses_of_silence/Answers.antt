use Rattle.campaign_laws.proofs.MetHere.{climb_here, kept_accepted, kept_offered, never_descends, yours_stays_here}
use Rattle.campaign_laws.proofs.witnesses.witnesses_of_silence.Goals as goal

pub returns : goal.returns
returns c = record {
  yours = yours_stays_here;
  accepted = kept_accepted;
  offered = kept_offered;
  climb = climb_here;
  descends = never_descends;
}
