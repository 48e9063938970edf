-- Worked samples.
use Rattle.std.specs.Prelude.{◌≡◌, ℕ, Bool, true, false, [], ◌∷◌, map, Option, Some, None}
use Rattle.std.specs.List.{flat_map}
use Rattle.admit_core.specs.declared.tables.RankRow.{RankRow}
use Rattle.admit_core.specs.declared.tables.WishRow.{WishRow}
use Rattle.sample_gen.specs.Choices.{own_choices}
use Rattle.sample_gen.specs.Samples.{has_board_row, sample_tables, wish_rows}

abbrev pub ranked_at : ℕ → ℕ → Bool → RankRow
ranked_at candidate rank resident =
    record {
      group = 1;
      candidate = candidate;
      rank = rank;
      scholar = false;
      resident = resident;
    }

abbrev pub wish_for : ℕ → ℕ → ℕ → Option ℕ → ℕ → WishRow
wish_for id candidate programme school preference =
    record {
      id = id;
      candidate = candidate;
      programme = programme;
      school = school;
      preference = preference;
    }

-- four candidates have one programme, which has one school
abbrev pub SampleOfFour : Type 0
SampleOfFour =
    sample_tables 4
    ≡ record {
      groups = record { id = 1; scholar_pct = 7; resident_pct = 11 } ∷ [];
      programmes = record { id = 1; group = 1; seats = 200; limit = 0 } ∷ [];
      schools = record { id = 1; beds = 40; ceiling = 1073741824 } ∷ [];
      rankings = ranked_at 1 1000004 false ∷ ranked_at 2 2000007 true
          ∷ ranked_at 3 3000010 false ∷ ranked_at 4 4000013 false ∷ [];
      boarding = record { school = 1; candidate = 2; rank = 4000007 }
          ∷ record { school = 1; candidate = 4; rank = 8000013 } ∷ [];
      wishes = wish_for 1 1 1 None 0 ∷ wish_for 7 2 1 None 0 ∷ wish_for 8 2 1 (Some 1) 0
          ∷ wish_for 13 3 1 None 0 ∷ wish_for 19 4 1 None 2 ∷ wish_for 20 4 1 (Some 1) 1 ∷ [];
      state = [];
      ceilings = [];
      answers = [];
    }

-- among three programmes the choices of the fourth candidate are 2, 3 and 1, of which the first and
-- the last have one school, where they stand once
abbrev pub ChoicesOfTheFourth : Type 0
ChoicesOfTheFourth =
    (map {B = ℕ × ℕ} (λ x. (x.programme, x.school)) (own_choices 3 4)
    ≡ (2, 1) ∷ (3, 2) ∷ (1, 1) ∷ [])
    × (map (has_board_row 3) (own_choices 3 4) ≡ true ∷ true ∷ false ∷ [])
    × (flat_map wish_rows (own_choices 3 4)
    ≡ wish_for 19 4 2 None 2 ∷ wish_for 20 4 2 (Some 1) 1 ∷ wish_for 21 4 3 None 4
    ∷ wish_for 22 4 3 (Some 2) 3 ∷ wish_for 23 4 1 None 6 ∷ wish_for 24 4 1 (Some 1) 5 ∷ [])
