-- The laws of next mornings.
use Rattle.std.proofs.Common.{◌≡◌, None, length, refl, sym, subst, ap, ◌∙◌}
use Rattle.std.proofs.lemmas.List.{length-map}
use Rattle.admit_core.specs.Days.{Days, first_evening}
use Rattle.admit_core.specs.DossierRows.{DossierRows}
use Rattle.admit_core.specs.OwnWishes.{IsOneAccepted}
use Rattle.admit_core.specs.Ranges.{AreTables}
use Rattle.admit_core.specs.Relations.{first_fault}
use Rattle.admit_core.specs.Standing.{dossier_of, wish_of_row}
use Rattle.admit_core.specs.State.{State}
use Rattle.admit_core.specs.Validity.{IsValid}
use Rattle.cut_laws.specs.Cut.{cut_at, terms_at}
use Rattle.cut_laws.proofs.Rest.{cut_days_are_the_rest}
use Rattle.cut_laws.proofs.ValidCut.{cuts_are_valid}
use Rattle.dossier_check.proofs.NoFault.{no_fault}
use Rattle.dossier_check.proofs.Valid.{is_valid}
use Rattle.next_morning.specs.Laws.{IsEveningOf, RunsAreTheRest, TablesAreAccepted, TablesAreOfTheCut, TablesAreValid}
use Rattle.next_morning.specs.Morning.{tables_after}
use Rattle.next_morning.proofs.Faultless.{no_fault_then}
use Rattle.next_morning.proofs.InRange.{tables_in_range}
use Rattle.next_morning.proofs.SameDossier.{same_dossier}

pub tables_are_of_the_cut : TablesAreOfTheCut
tables_are_of_the_cut a t evening of =
    let long : length evening.marks ≡ length t.wishes =
    of.marks ∙ ap (λ (d : DossierRows). length d.wishes) of.dossier ∙ length-map t.wishes (wish_of_row t) in
    subst (λ (d : DossierRows). dossier_of (tables_after a t (record { dossier = d; marks = evening.marks }))
    ≡ cut_at a (record { dossier = d; marks = evening.marks }))
    (sym of.dossier) (same_dossier a t evening.marks long of.ids)

pub tables_are_valid : TablesAreValid
tables_are_valid a t evening of valid accepted =
    subst IsValid (sym (tables_are_of_the_cut a t evening of)) (cuts_are_valid a evening valid of.marks accepted)

pub runs_are_the_rest : RunsAreTheRest
runs_are_the_rest a t evening terms orders days other of given run =
    cut_days_are_the_rest terms orders a evening days other given of.marks
    (subst (λ (d : DossierRows). Days (terms_at a terms evening) orders 1 (first_evening d) days other)
    (tables_are_of_the_cut a t evening of) run)

pub tables_are_accepted : TablesAreAccepted
tables_are_accepted a t evening of ranges none accepted =
    let there : State = record { dossier = dossier_of t; marks = evening.marks } in
    let long : length evening.marks ≡ length t.wishes =
    of.marks ∙ ap (λ (d : DossierRows). length d.wishes) of.dossier ∙ length-map t.wishes (wish_of_row t) in
    let one : IsOneAccepted there =
    subst (λ (d : DossierRows). IsOneAccepted (record { dossier = d; marks = evening.marks })) of.dossier accepted in
    let of_there : IsEveningOf t there =
    record { dossier = refl; marks = long ∙ sym (length-map t.wishes (wish_of_row t)); ids = of.ids } in
    let valid : IsValid (dossier_of (tables_after a t there)) =
    tables_are_valid a t there of_there (is_valid t ranges none) one in
    subst (λ (d : DossierRows). AreTables (tables_after a t (record { dossier = d; marks = evening.marks }))
    × (first_fault (tables_after a t (record { dossier = d; marks = evening.marks })) ≡ None))
    (sym of.dossier) (
      tables_in_range a t evening.marks long ranges valid,
      no_fault_then a t evening.marks long (no_fault t none) valid one,
    )
