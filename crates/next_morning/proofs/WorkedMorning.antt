-- The worked mornings, by computation.
use Rattle.std.proofs.Common.{ℕ, ◌≡◌, [], ◌∷◌, None, Some, nat_eq, refl, subst, arith}
use Rattle.std.specs.List.{IsDistinct}
use Rattle.std.specs.Option.{ForSome}
use Rattle.std.proofs.lemmas.List.Elements.{All-from_recursion}
use Rattle.std.proofs.lemmas.Map.Keys.{IsDistinct-cons, IsDistinct-from_apart}
use Rattle.admit_core.proofs.SmallDossier.{small_dossier_holds}
use Rattle.admit_core.specs.Faults.{first_after}
use Rattle.admit_core.specs.Ranges.{AreRows, AreTables, IsAnswerRow, IsBoardRow, IsCeilingRow, IsDay, IsGroupRow}
use Rattle.admit_core.specs.Ranges.{IsNumber, IsProgrammeRow, IsRankRow, IsSchoolRow, IsWishRow}
use Rattle.admit_core.specs.Relations.{first_fault}
use Rattle.cut_laws.specs.WorkedCampaign.{first_night, small_night}
use Rattle.cut_laws.proofs.WorkedCampaign as campaign
use Rattle.next_morning.specs.Laws.{IsEveningOf}
use Rattle.next_morning.specs.Witnesses.{RunsAreTheRestWitness, TablesAreAcceptedWitness, TablesAreOfTheCutWitness}
use Rattle.next_morning.specs.Witnesses.{TablesAreValidWitness}
use Rattle.next_morning.specs.WorkedMorning.{WorkedMornings, campaign_tables, small_tables}
use Rattle.next_morning.proofs.Mornings.{tables_are_accepted, tables_are_of_the_cut, tables_are_valid}

four_apart : IsDistinct nat_eq (1 ∷ 2 ∷ 3 ∷ 4 ∷ [])
four_apart =
    IsDistinct-cons nat_eq 1 (2 ∷ 3 ∷ 4 ∷ []) (refl, (refl, (refl, tt)))
    (IsDistinct-cons nat_eq 2 (3 ∷ 4 ∷ []) (refl, (refl, tt))
    (IsDistinct-cons nat_eq 3 (4 ∷ []) (refl, tt)
    (IsDistinct-from_apart nat_eq (4 ∷ []) (λ i j d i_lt j_lt. absurd (omega arith)))))

pub first_evening_is : IsEveningOf campaign_tables first_night
first_evening_is = record { dossier = refl; marks = refl; ids = four_apart }

small_evening_is : IsEveningOf small_tables small_night
small_evening_is = record { dossier = refl; marks = refl; ids = small_dossier_holds.ids.wishes }

pub cut_witness : TablesAreOfTheCutWitness
cut_witness = (first_evening_is, tables_are_of_the_cut 1 campaign_tables first_night first_evening_is)

pub valid_witness : TablesAreValidWitness
valid_witness =
    let of : IsEveningOf small_tables small_night = small_evening_is in (
      of,
      small_dossier_holds,
      (λ i j e below lt. absurd (omega (arith, below, lt))),
      tables_are_valid 1 small_tables small_night of small_dossier_holds
          (λ i j e below lt. absurd (omega (arith, below, lt))),
    )

one_row : {R : Type 0} (P : R → Type 0) (r : R) → P r → AreRows P (r ∷ [])
one_row P r is = record { size = omega arith; each = All-from_recursion P (r ∷ []) (is, tt) }

named : IsNumber 5 → ForSome (Some 5) IsNumber
named five k is = subst IsNumber (the_same is) five
  where
    the_same : {k : ℕ} → Some 5 ≡ Some k → 5 ≡ k
    the_same e = cc

small_ranges : AreTables small_tables
small_ranges =
    let one : IsNumber 1 = record { from_one = omega arith; at_most = omega arith } in
    let five : IsNumber 5 = record { from_one = omega arith; at_most = omega arith } in
    let ten : IsNumber 10 = record { from_one = omega arith; at_most = omega arith } in
    let eleven : IsNumber 11 = record { from_one = omega arith; at_most = omega arith } in
    let day : IsDay 1 = record { from_one = omega arith; at_most = omega arith } in
    record {
      groups = one_row IsGroupRow _ (record { id = one; scholar_pct = omega arith; resident_pct = omega arith });
      programmes = one_row IsProgrammeRow _
          (record { id = ten; group = one; seats = omega arith; limit = omega arith });
      schools = one_row IsSchoolRow _ (record { id = five; beds = omega arith; ceiling = omega arith });
      rankings = one_row IsRankRow _ (record { group = one; candidate = eleven; rank = one });
      boarding = one_row IsBoardRow _ (record { school = five; candidate = eleven; rank = one });
      wishes = one_row IsWishRow _ (record {
        id = one;
        candidate = eleven;
        programme = ten;
        school = named five;
        preference = omega arith;
      });
      state = record { size = omega arith; each = λ k d lt. absurd (omega (arith, lt)) };
      ceilings = one_row IsCeilingRow _ (record { day = day; school = five; ceiling = omega arith });
      answers = one_row IsAnswerRow _ (record { day = day; target = eleven });
    }

small_faultless : first_fault small_tables ≡ None
unfolding first_after
small_faultless = refl

pub accepted_witness : TablesAreAcceptedWitness
accepted_witness =
    let next = tables_are_accepted 1 small_tables small_night small_evening_is small_ranges small_faultless
    (λ i j e below lt. absurd (omega (arith, below, lt))) in (
      small_evening_is,
      small_ranges,
      small_faultless,
      (λ i j e below lt. absurd (omega (arith, below, lt))),
      next.0,
      next.1,
    )

pub rest_witness : RunsAreTheRestWitness
rest_witness = (first_evening_is, campaign.rest_witness.0, campaign.rest_witness.2, campaign.rest_witness.3)

pub worked_mornings : WorkedMornings
worked_mornings = (refl, refl, refl, refl)
