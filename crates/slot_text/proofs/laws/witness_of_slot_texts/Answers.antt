use Rattle.slot_text.proofs.WorkedTexts.{slots_witness, worked_texts}
use Rattle.slot_text.proofs.laws.witness_of_slot_texts.Goals as goal

pub returns-clause-back : goal.returns-clause-back
returns-clause-back c = slots_witness

pub returns-clause-worked : goal.returns-clause-worked
returns-clause-worked c = worked_texts
