use Rattle.report_laws.proofs.Telling.{autos_are_told, bars_are_told, evenings_are_told, falls_are_told, freed_is_told}
use Rattle.report_laws.proofs.Telling.{lapses_are_told, names_of, offers_are_told}
use Rattle.report_laws.proofs.laws.laws_of_lines.Goals as goal

pub returns : goal.returns
returns c = record {
  names = names_of;
  falls = falls_are_told;
  offers = offers_are_told;
  autos = autos_are_told;
  freed = freed_is_told;
  lapses = lapses_are_told;
  bars = bars_are_told;
  evenings = evenings_are_told;
}
