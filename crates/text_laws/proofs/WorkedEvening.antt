-- The worked cases of the laws.
use Rattle.std.proofs.Common.{zero, suc, [], ◌∷◌, arith}
use Rattle.std.specs.Prelude.{pos}
use Rattle.std.proofs.lemmas.Int.{ints}
use Rattle.admit_core.proofs.SmallDossier.{small_dossier_holds}
use Rattle.text_laws.specs.ReadBack.{HaveReadDates}
use Rattle.text_laws.specs.Witnesses.{FinalDatedTextReadsBackWitness, FinalTextReadsBackWitness, small_evening}
use Rattle.text_laws.proofs.StateSlots.{final_dated_text_reads_back, final_text_reads_back}

pub final_witness : FinalTextReadsBackWitness
final_witness = (small_dossier_holds, final_text_reads_back small_evening small_dossier_holds)

pub small_dates : HaveReadDates small_evening (pos 19876) (pos 0 ∷ [])
small_dates zero lt offered = (grind (arith, ints), grind (arith, ints))
small_dates (suc place) lt offered = absurd (omega (arith, lt))

pub dated_witness : FinalDatedTextReadsBackWitness
dated_witness = (
  small_dossier_holds,
  small_dates,
  final_dated_text_reads_back small_evening (pos 19876) (pos 0 ∷ []) small_dossier_holds small_dates,
)
