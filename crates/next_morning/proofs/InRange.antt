-- The tables of the next morning are in the ranges of their columns.
use Rattle.std.proofs.Common.{ℕ, ◌-◌, ◌≡◌, List, length, nat_lt, zip, sym, ◌∙◌, subst, arith}
use Rattle.std.proofs.lemmas.List.{get_or-map, length-map}
use Rattle.std.proofs.lemmas.List.Elements.{All-from_recursion, recursion_from_All}
use Rattle.std.proofs.lemmas.Slice.Zip.{length-zip}
use Rattle.admit_core.specs.declared.state.Mark.{Mark}
use Rattle.admit_core.specs.declared.tables.AnswerRow.{AnswerRow}
use Rattle.admit_core.specs.declared.tables.CeilingRow.{CeilingRow}
use Rattle.admit_core.specs.declared.tables.Tables.{Tables}
use Rattle.admit_core.specs.Ranges.{AreRows, AreTables, IsAnswerRow, IsCeilingRow, IsNumber, IsSchoolRow, IsStateRow}
use Rattle.admit_core.specs.Standing.{answer_of_row, ceiling_of_row, dossier_of, school_of_row}
use Rattle.admit_core.specs.Validity.{IsValid, IsValidAnswer, IsValidCeiling, IsValidSchool}
use Rattle.next_morning.specs.Morning.{state_row, tables_after}
use Rattle.next_morning.proofs.Faultless.{kept_all, no_wish, row_at}

module _ (a : ℕ) (t : Tables) (marks : List Mark) (long : length marks ≡ length t.wishes) where
  abbrev n : Tables
  n = tables_after a t (record { dossier = dossier_of t; marks = marks })

  module _ (ranges : AreTables t) (valid : IsValid (dossier_of n)) where
    schools_in_range : AreRows IsSchoolRow n.schools
    schools_in_range =
        let many = length-map n.schools school_of_row in
        record {
          size = omega (arith, many, valid.size.schools);
          each = λ k d lt.
              let v = subst IsValidSchool (get_or-map school_of_row n.schools k d (school_of_row d) lt)
              (valid.schools k (school_of_row d) (omega (arith, many, lt))) in
              record { id = v.id; beds = v.beds; ceiling = v.ceiling };
        }

    state_in_range : AreRows IsStateRow n.state
    state_in_range =
        let many = length-map (zip t.wishes marks) state_row ∙ length-zip t.wishes marks in
        record {
          size = omega (arith, many, ranges.wishes.size);
          each = λ k d lt.
              subst IsStateRow (sym (row_at a t marks long k d (omega (arith, many, lt))))
              (record { wish = (ranges.wishes.each k no_wish (omega (arith, many, lt))).id });
        }

    ceilings_in_range : AreRows IsCeilingRow n.ceilings
    ceilings_in_range =
        let many = length-map n.ceilings (ceiling_of_row n) in
        let P : CeilingRow → Type 0 = λ x. IsNumber x.school in
        let schools = All-from_recursion P n.ceilings
        (kept_all P (λ (x : CeilingRow). nat_lt a x.day) (λ (x : CeilingRow). record x { day = x.day - a }) (λ x e. e)
        t.ceilings (recursion_from_All P t.ceilings (λ k d lt. (ranges.ceilings.each k d lt).school))) in
        record {
          size = omega (arith, many, valid.size.ceilings);
          each = λ k d lt.
              let v = subst (IsValidCeiling (dossier_of n))
              (get_or-map (ceiling_of_row n) n.ceilings k d (ceiling_of_row n d) lt)
              (valid.ceilings k (ceiling_of_row n d) (omega (arith, many, lt))) in
              record { day = v.day; school = schools k d lt; ceiling = v.ceiling };
        }

    answers_in_range : AreRows IsAnswerRow n.answers
    answers_in_range =
        let many = length-map n.answers (answer_of_row n) in
        let P : AnswerRow → Type 0 = λ x. IsNumber x.target in
        let targets = All-from_recursion P n.answers
        (kept_all P (λ (x : AnswerRow). nat_lt a x.day) (λ (x : AnswerRow). record x { day = x.day - a }) (λ x e. e)
        t.answers (recursion_from_All P t.answers (λ k d lt. (ranges.answers.each k d lt).target))) in
        record {
          size = omega (arith, many, valid.size.answers);
          each = λ k d lt.
              let v = subst (IsValidAnswer (dossier_of n))
              (get_or-map (answer_of_row n) n.answers k d (answer_of_row n d) lt)
              (valid.answers k (answer_of_row n d) (omega (arith, many, lt))) in
              record { day = v.day; target = targets k d lt };
        }

    pub tables_in_range : AreTables n
    tables_in_range = record {
      groups = ranges.groups;
      programmes = ranges.programmes;
      schools = schools_in_range;
      rankings = ranges.rankings;
      boarding = ranges.boarding;
      wishes = ranges.wishes;
      state = state_in_range;
      ceilings = ceilings_in_range;
      answers = answers_in_range;
    }
