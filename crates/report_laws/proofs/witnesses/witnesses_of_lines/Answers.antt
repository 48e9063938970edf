use Rattle.report_laws.proofs.Worked.{autos_witness, bars_witness, evenings_witness, falls_witness, freed_witness}
use Rattle.report_laws.proofs.Worked.{lapses_witness, names_witness, offers_witness}
use Rattle.report_laws.proofs.witnesses.witnesses_of_lines.Goals as goal

pub returns : goal.returns
returns c = record {
  names = names_witness;
  falls = falls_witness;
  offers = offers_witness;
  autos = autos_witness;
  freed = freed_witness;
  lapses = lapses_witness;
  bars = bars_witness;
  evenings = evenings_witness;
}
