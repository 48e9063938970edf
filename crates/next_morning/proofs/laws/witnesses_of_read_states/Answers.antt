use Rattle.next_morning.proofs.WorkedReads.{lines_witness, read_cut_witness, statuses_witness}
use Rattle.next_morning.proofs.laws.witnesses_of_read_states.Goals as goal

pub returns : goal.returns
returns c = record { lines = lines_witness; statuses = statuses_witness; cut = read_cut_witness }
