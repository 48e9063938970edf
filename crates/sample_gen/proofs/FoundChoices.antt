-- Which choices are found among those of a sample, in its rankings and among its boarding ranks.
use Rattle.std.proofs.Common.{◌≡◌, ℕ, ◌+◌, ◌<◌, ◌≤◌, suc, Bool, true, false, not, ◌&&◌, nat_eq, List, [], ◌∷◌, Option}
use Rattle.std.proofs.Common.{filter, get_or, min, refl, sym, ◌∙◌, ap, subst, arith, ⊎_elim, ◌⊎◌, inl, inr}
use Prim.Native.Nat.{zero}
use Rattle.std.specs.List.{list_any, list_all, range_with_len, flat_map}
use Rattle.std.specs.Option.{option_map_or}
use Rattle.std.proofs.lemmas.Bool.{eq-eqb, eqb-true, cases_Bool, cases_eq, or_left, or_right, and_from, not_from_false}
use Rattle.std.proofs.lemmas.List.Folds.{list_any_at, list_any-append, list_all-append}
use Rattle.std.proofs.lemmas.List.FromFn.{length-range_with_len, get_or-range_with_len}
use Rattle.admit_core.proofs.Plain.{any-map, any-filter}
use Rattle.admit_core.specs.declared.tables.BoardRow.{BoardRow}
use Rattle.admit_core.specs.declared.tables.ProgrammeRow.{ProgrammeRow}
use Rattle.admit_core.specs.Relations.{is_in_group, is_ranked, is_boarded}
use Rattle.sample_gen.specs.declared.choices.Choice.{Choice}
use Rattle.sample_gen.specs.Choices.{programmes_of, school_of, chosen, choice_at, own_choices, choices_of, is_boarder}
use Rattle.sample_gen.specs.Choices.{is_first_at_school}
use Rattle.sample_gen.specs.Samples.{programme_row, rank_row, board_row, has_board_row, sample_tables}
use Rattle.sample_gen.proofs.Lists.{range_more}
use Rattle.sample_gen.proofs.ItemSlots.{find_row}
use Rattle.sample_gen.proofs.ChoiceFacts.{IsChoice, programme_from_one, programme_at_most}

any_in_range : {X : Type 0} (p : X → Bool) (f : ℕ → List X) (a n c : ℕ) → a ≤ c → c < a + n → list_any p (f c) ≡ true
    → list_any p (flat_map f (range_with_len a n)) ≡ true
any_in_range p f a zero c low high here = absurd (omega arith)
any_in_range p f a (suc n) c low high here =
    list_any-append p (f a) (flat_map f (range_with_len (a + 1) n))
    ∙ ⊎_elim
    (λ e. or_left (list_any p (f a)) (list_any p (flat_map f (range_with_len (a + 1) n)))
    (ap (λ d. list_any p (f d)) e ∙ here))
    (λ ne. or_right (list_any p (f a)) (list_any p (flat_map f (range_with_len (a + 1) n)))
    (any_in_range p f (a + 1) n c (above a c low ne) (further a n c high) here))
    (cases_eq a c)
  where
    above : (a c : ℕ) → a ≤ c → (a ≡ c → ⊥) → a + 1 ≤ c
    above a c le ne = omega arith

    further : (a n c : ℕ) → c < a + suc n → c < a + 1 + n
    further a n c lt = omega arith

found_choice : (n : ℕ) (p : Choice → Bool) (c i : ℕ) → 1 ≤ c → c ≤ n → i < 3 → i < programmes_of n
    → p (choice_at (programmes_of n) c i) ≡ true
    → list_any p (choices_of n) ≡ true
found_choice n p c i low high i_lt within here =
    let places : List ℕ = range_with_len 0 (min (programmes_of n) 3) in
    let lt : i < min (programmes_of n) 3 = omega arith in
    let at : get_or places i 0 ≡ i = get_or-range_with_len 0 (min (programmes_of n) 3) i 0 lt
    ∙ (let e : 0 + i ≡ i = omega arith in e) in
    any_in_range p (own_choices (programmes_of n)) 1 n c low (omega arith)
    (any-map p (choice_at (programmes_of n) c) places
    ∙ list_any_at (λ j. p (choice_at (programmes_of n) c j)) places i 0
    (subst (λ k. i < k) (sym (length-range_with_len 0 (min (programmes_of n) 3))) lt)
    (subst (λ j. p (choice_at (programmes_of n) c j) ≡ true) (sym at) here))

-- the candidate of a choice is ranked in the group of its programme
pub choice_is_ranked : (n : ℕ) (x : Choice) → IsChoice n x → is_ranked (sample_tables n) x.programme x.candidate ≡ true
choice_is_ranked n x is =
    ap (λ (o : Option ProgrammeRow). option_map_or (λ (p : ProgrammeRow).
    is_in_group (sample_tables n) x.candidate p.group) o false)
    (find_row (λ p. p.id) programme_row (λ i. refl) 1 (programmes_of n) x.programme (programme_from_one n x is)
    (let le : x.programme ≤ programmes_of n = programme_at_most n x is in omega arith))
    ∙ any-map (λ r. nat_eq x.programme r.group && nat_eq x.candidate r.candidate) rank_row (choices_of n)
    ∙ found_choice n (λ y. nat_eq x.programme y.programme && nat_eq x.candidate y.candidate) x.candidate x.place
    is.from_one is.at_most is.place is.within
    (and_from (nat_eq x.programme (chosen (programmes_of n) x.candidate x.place)) (nat_eq x.candidate x.candidate)
    (eq-eqb x.programme (chosen (programmes_of n) x.candidate x.place) is.programme)
    (eq-eqb x.candidate x.candidate refl))

-- no number below j has the value h
abbrev IsNew : (ℕ → ℕ) → ℕ → ℕ → Type 0
IsNew s h j = list_all (λ k. not (nat_eq (s k) h)) (range_with_len 0 j) ≡ true

-- the least number with a value
record HasFirst (s : ℕ → ℕ) (h j : ℕ) : Type 0 where
  pub place : ℕ
  pub below : place < j
  pub same : s place ≡ h
  pub new : IsNew s h place

module _ (s : ℕ → ℕ) (h : ℕ) where
  one_more : (j : ℕ) → IsNew s h j → nat_eq (s j) h ≡ false → IsNew s h (suc j)
  one_more j new other =
      let test = λ (k : ℕ). not (nat_eq (s k) h) in
      ap (list_all test) (range_more 0 j (suc j) j (omega arith) (omega arith))
      ∙ list_all-append test (range_with_len 0 j) (j ∷ [])
      ∙ and_from (list_all test (range_with_len 0 j)) (list_all test (j ∷ [])) new
      (and_from (test j) true (not_from_false (nat_eq (s j) h) other) refl)

  new_or_first : (j : ℕ) → IsNew s h j ⊎ HasFirst s h j
  new_or_first zero = inl refl
  new_or_first (suc j) =
      ⊎_elim
      (λ new. ⊎_elim
      (λ t. inr (record { place = j; below = omega arith; same = eqb-true (s j) h t; new = new }))
      (λ f. inl (one_more j new f))
      (cases_Bool (nat_eq (s j) h)))
      (λ first. inr (record {
        place = first.place;
        below = let lt : first.place < j = first.below in omega arith;
        same = first.same;
        new = first.new;
      }))
      (new_or_first j)

  first_of : (j : ℕ) → s j ≡ h → HasFirst s h (suc j)
  first_of j same =
      ⊎_elim (λ new. record { place = j; below = omega arith; same = same; new = new })
      (λ first. record {
        place = first.place;
        below = let lt : first.place < j = first.below in omega arith;
        same = first.same;
        new = first.new;
      })
      (new_or_first j)

-- a boarder has a rank in the school of each of their choices
pub choice_is_boarded : (n : ℕ) (x : Choice) → IsChoice n x → is_boarder x ≡ true
    → is_boarded (sample_tables n) x.school x.candidate ≡ true
choice_is_boarded n x is boards =
    let m : ℕ = programmes_of n in
    let schools : ℕ → ℕ = λ place. school_of (chosen (programmes_of n) x.candidate place) in
    let has : BoardRow → Bool = λ b. nat_eq x.school b.school && nat_eq x.candidate b.candidate in
    let first : HasFirst schools x.school (suc x.place) = first_of schools x.school x.place (sym is.school) in
    let below : first.place < suc x.place = first.below in
    let own : Choice = choice_at m x.candidate first.place in
    any-map has board_row (filter (has_board_row m) (choices_of n))
    ∙ any-filter (λ y. has (board_row y)) (has_board_row m) (choices_of n)
    ∙ found_choice n (λ y. has_board_row m y && has (board_row y)) x.candidate first.place is.from_one is.at_most
    (let place : x.place < 3 = is.place in omega arith)
    (let within : x.place < programmes_of n = is.within in omega arith)
    (and_from (has_board_row m own) (has (board_row own))
    (and_from (is_boarder own) (is_first_at_school m own) boards
    (subst (λ k. IsNew schools k first.place) (sym first.same) first.new))
    (and_from (nat_eq x.school own.school) (nat_eq x.candidate own.candidate)
    (eq-eqb x.school own.school (sym first.same)) (eq-eqb x.candidate x.candidate refl)))
