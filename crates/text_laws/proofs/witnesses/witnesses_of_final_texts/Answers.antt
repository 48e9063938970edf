use Rattle.text_laws.proofs.WorkedEvening.{dated_witness, final_witness}
use Rattle.text_laws.proofs.witnesses.witnesses_of_final_texts.Goals as goal

pub returns-clause-plain : goal.returns-clause-plain
returns-clause-plain c = final_witness

pub returns-clause-dated : goal.returns-clause-dated
returns-clause-dated c = dated_witness
