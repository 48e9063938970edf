use Rattle.text_laws.proofs.StateSlots.{final_dated_text_reads_back, final_text_reads_back}
use Rattle.text_laws.proofs.laws.laws_of_final_texts.Goals as goal

pub returns-clause-plain : goal.returns-clause-plain
returns-clause-plain c = final_text_reads_back

pub returns-clause-dated : goal.returns-clause-dated
returns-clause-dated c = final_dated_text_reads_back
