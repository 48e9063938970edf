use Rattle.next_morning.proofs.ReadStates.{final_lines_are_the_state, read_states_are_of_the_cut}
use Rattle.next_morning.proofs.ReadStates.{read_statuses_are_of_the_evening}
use Rattle.next_morning.proofs.laws.laws_of_read_states.Goals as goal

pub returns : goal.returns
returns c = record {
  lines = final_lines_are_the_state;
  statuses = read_statuses_are_of_the_evening;
  cut = read_states_are_of_the_cut;
}
