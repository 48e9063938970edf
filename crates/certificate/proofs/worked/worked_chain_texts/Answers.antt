use Rattle.certificate.proofs.WorkedCases.{texts_of_chains, lines_out_of_place, no_lines, no_ends}
use Rattle.certificate.proofs.worked.worked_chain_texts.Goals as goal

pub returns : goal.returns
returns c = record { chains = texts_of_chains; places = lines_out_of_place; forms = no_lines; ends = no_ends }
