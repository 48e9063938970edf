use Rattle.slot_text.proofs.ReadBack.{slots_read_back}
use Rattle.slot_text.proofs.laws.law_of_slot_texts.Goals as goal

pub returns : goal.returns
returns c = record { back = slots_read_back }
