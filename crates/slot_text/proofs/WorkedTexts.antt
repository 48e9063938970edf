-- The worked case of the law.
use Rattle.std.proofs.Common.{◌≡◌, true, None, Some, refl, subst, arith}
use Rattle.std.specs.Fmt.{digits}
use Rattle.std.specs.Option.{ForSome}
use Rattle.std.proofs.lemmas.List.Elements.{All-from_recursion}
use Rattle.admit_core.specs.Ranges.{AreTables, IsAnswerRow, IsBoardRow, IsCeilingRow, IsDay, IsGroupRow, IsNumber}
use Rattle.admit_core.specs.Ranges.{IsProgrammeRow, IsRankRow, IsSchoolRow, IsStateRow, IsWishRow}
use Rattle.dossier_csv.specs.Columns.{IsSince}
use Rattle.slot_text.specs.ReadBack.{HasDate}
use Rattle.slot_text.specs.Witnesses.{SlotsReadBackWitness, WorkedTexts, few_rows}
use Rattle.slot_text.proofs.ReadBack.{slots_read_back}

same_some : {A : Type 0} {x y : A} → Some x ≡ Some y → x ≡ y
same_some e = cc

of_some : {A : Type 0} (P : A → Type 0) (x : A) → P x → ForSome (Some x) P
of_some P x is y e = subst P (same_some e) is

of_none : {A : Type 0} (P : A → Type 0) → ForSome None P
of_none P y e = absurd (cc)

few_are : AreTables few_rows
few_are =
    let one : IsNumber 1 = record { from_one = omega arith; at_most = omega arith } in
    let two : IsNumber 2 = record { from_one = omega arith; at_most = omega arith } in
    let three : IsNumber 3 = record { from_one = omega arith; at_most = omega arith } in
    let four : IsNumber 4 = record { from_one = omega arith; at_most = omega arith } in
    let five : IsNumber 5 = record { from_one = omega arith; at_most = omega arith } in
    let ten : IsNumber 10 = record { from_one = omega arith; at_most = omega arith } in
    let eleven : IsNumber 11 = record { from_one = omega arith; at_most = omega arith } in
    let first : IsDay 1 = record { from_one = omega arith; at_most = omega arith } in
    let second : IsDay 2 = record { from_one = omega arith; at_most = omega arith } in
    let last : IsDay 366 = record { from_one = omega arith; at_most = omega arith } in
    let t = few_rows in
    record {
      groups = record {
        size = omega arith;
        each = All-from_recursion IsGroupRow t.groups
            (record { id = one; scholar_pct = omega arith; resident_pct = omega arith }, tt);
      };
      programmes = record {
        size = omega arith;
        each = All-from_recursion IsProgrammeRow t.programmes
            (record { id = ten; group = one; seats = omega arith; limit = omega arith }, tt);
      };
      schools = record {
        size = omega arith;
        each = All-from_recursion IsSchoolRow t.schools
            (record { id = five; beds = omega arith; ceiling = omega arith }, tt);
      };
      rankings = record {
        size = omega arith;
        each = All-from_recursion IsRankRow t.rankings (record { group = one; candidate = eleven; rank = three }, tt);
      };
      boarding = record {
        size = omega arith;
        each = All-from_recursion IsBoardRow t.boarding
            (record { school = five; candidate = eleven; rank = four }, tt);
      };
      wishes = record {
        size = omega arith;
        each = All-from_recursion IsWishRow t.wishes (
          record {
            id = one;
            candidate = eleven;
            programme = ten;
            school = of_some IsNumber 5 five;
            preference = omega arith;
          },
          (
            record {
              id = two;
              candidate = eleven;
              programme = ten;
              school = of_none IsNumber;
              preference = omega arith;
            },
            tt,
          ),
        );
      };
      state = record {
        size = omega arith;
        each = All-from_recursion IsStateRow t.state (record { wish = one }, (record { wish = two }, tt));
      };
      ceilings = record {
        size = omega arith;
        each = All-from_recursion IsCeilingRow t.ceilings
            (record { day = last; school = five; ceiling = omega arith }, tt);
      };
      answers = record {
        size = omega arith;
        each = All-from_recursion IsAnswerRow t.answers
            (record { day = first; target = eleven }, (record { day = second; target = one }, tt));
      };
    }

pub slots_witness : SlotsReadBackWitness
slots_witness =
    let dates = All-from_recursion (HasDate true) few_rows.state
    (of_some IsSince (record { year = 2026; month = 6; day = 12 }) refl, (of_none IsSince, tt)) in
    (few_are, dates, slots_read_back true few_rows few_are dates)

pub worked_texts : WorkedTexts
unfolding digits
worked_texts = (refl, refl, refl, refl, refl)
