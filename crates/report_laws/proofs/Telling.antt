-- The laws, from what each text tells.
use Rattle.std.proofs.Common.{◌≡◌, ℕ, List, [], ◌++◌, All, refl, sym, ◌∙◌, ap, append_assoc, arith, map, rules}
use Rattle.std.specs.Prelude.{codes}
use Rattle.std.proofs.lemmas.List.Elements.{All-map}
use Rattle.admit_core.specs.declared.dossier.Programme.{Programme}
use Rattle.admit_core.specs.declared.dossier.School.{School}
use Rattle.admit_core.specs.declared.dossier.Wish.{Wish}
use Rattle.admit_core.specs.declared.ranking.RankGroup.{RankGroup}
use Rattle.report_laws.specs.Days.{DatedDaysAreTold, DaysAreTold, PassesAreTold}
use Rattle.report_laws.specs.Lines.{AutosAreTold, BarsAreTold, EveningsAreTold, FallsAreTold, FreedIsTold}
use Rattle.report_laws.specs.Lines.{LapsesAreTold, OffersAreTold}
use Rattle.report_laws.specs.Told.{IsSmall, ValidDossiersHaveNames}
use Rattle.report_laws.proofs.Days.{FollowsDay, dated_days_told, days_told, evening_told, free_of, left_of, pass_told}
use Rattle.report_laws.proofs.Lines.{auto_told, fall_told, freed_told, lapse_told, offer_told}
use Rattle.report_laws.proofs.Runs.{numbers_text_told}

-- nothing follows
alone : {s t : List ℕ} → s ≡ t → s ++ [] ≡ t ++ []
alone e = ap (λ (bs : List ℕ). bs ++ []) e

pub names_of : ValidDossiersHaveNames
names_of d valid =
    let groups : All IsSmall (map (λ (g : RankGroup). g.id) d.groups) =
    All-map IsSmall (λ (g : RankGroup). g.id) d.groups
    (λ k x lt. let id = (valid.groups k x lt).id in omega arith) in
    let programmes : All IsSmall (map (λ (p : Programme). p.id) d.programmes) =
    All-map IsSmall (λ (p : Programme). p.id) d.programmes (λ k x lt. let id = (valid.programmes k x lt).id in omega
    arith) in
    let schools : All IsSmall (map (λ (h : School). h.id) d.schools) =
    All-map IsSmall (λ (h : School). h.id) d.schools (λ k x lt. let id = (valid.schools k x lt).id in omega arith) in
    let wishes : All IsSmall (map (λ (w : Wish). w.id) d.wishes) =
    All-map IsSmall (λ (w : Wish). w.id) d.wishes (λ k x lt. let id = (valid.wishes k x lt).id in omega arith) in
    record {
      groups = record { small = groups; distinct = valid.ids.groups };
      programmes = record { small = programmes; distinct = valid.ids.programmes };
      schools = record { small = schools; distinct = valid.ids.schools };
      wishes = record { small = wishes; distinct = valid.ids.wishes };
    }

pub falls_are_told : FallsAreTold
falls_are_told d one other names is are e = (fall_told d names one other [] [] is are tt tt (alone e)).0

pub offers_are_told : OffersAreTold
offers_are_told d one other names is are e = (offer_told d names one other [] [] is are tt tt (alone e)).0

pub autos_are_told : AutosAreTold
autos_are_told d one other names is are e = (auto_told d names one other [] [] is are tt tt (alone e)).0

pub freed_is_told : FreedIsTold
freed_is_told one other is are e = (freed_told one other [] [] is are tt tt (alone e)).0

pub lapses_are_told : LapsesAreTold
lapses_are_told d start term one other names is are e = (lapse_told d names start term one other [] [] is are tt tt
    (alone e)).0

pub bars_are_told : BarsAreTold
bars_are_told d one other names is are e =
    (numbers_text_told (λ (h : School). h.id) (codes "bar") (search rules) d.schools one other [] []
    names.schools.small is are (alone e)).0

pub evenings_are_told : EveningsAreTold
evenings_are_told d one other names is are e =
    let parted = sym (append_assoc (left_of d names one) (free_of d names one) [])
    ∙ alone e ∙ append_assoc (left_of d names other) (free_of d names other) [] in
    let told = evening_told d names one other [] [] is are parted in
    (told.0, told.1)

pub passes_are_told : PassesAreTold
passes_are_told d number further one other names small few is are e =
    let told = pass_told d names number further one other [] [] small few is are (alone e) in
    (told.0, told.1)

nothing_follows : FollowsDay []
nothing_follows = record { no_pass = refl; no_lapse = refl }

pub days_are_told : DaysAreTold
days_are_told d days others names is are e =
    (days_told d names days others [] [] is are nothing_follows nothing_follows refl refl (alone e)).0

pub dated_days_are_told : DatedDaysAreTold
dated_days_are_told d start term days others names is are e =
    (dated_days_told d names start term days others [] [] is are nothing_follows nothing_follows refl refl (alone e)).0
