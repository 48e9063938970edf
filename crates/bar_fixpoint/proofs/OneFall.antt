-- One fall: the list that the picker is asked with, the rank, and the names.
use Rattle.std.proofs.Common.{◌≡◌, ℕ, zero, suc, ◌+◌, ◌-◌, ◌<◌, ◌≤◌, Bool, true, not, cond, ◌&&◌, List, [], ◌∷◌, ◌++◌}
use Rattle.std.proofs.Common.{length, take, map, slice_index, slice_set, refl, sym, ap, ◌∙◌, subst, inl, inr, arith}
use Rattle.std.proofs.Common.{None, Some, Result, Ok, Err}
use Rattle.std.specs.Prelude.{IfNone, IfOk, IfSome, Option, filter, nat_le, unwrap_or, Contains, sum}
use Rattle.std.specs.List.{list_all, range_with_len}
use Rattle.std.specs.List.Sorted.{IsStrictlyIncreasing}
use Rattle.std.proofs.lemmas.Bool.{cases_order, le-leb, lt-leb, cases_Bool}
use Rattle.std.proofs.lemmas.Grind.{common_steps}
use Rattle.std.proofs.lemmas.Map.Keys.{below_from_sorted, sorted_from_strictly_increasing}
use Rattle.std.proofs.lemmas.List.Elements.{All-contains, filter_passes}
use Rattle.std.proofs.lemmas.Option.{slice_get-get_or}
use Rattle.admit_core.specs.declared.records.Fall.{Fall}
use Rattle.admit_core.specs.Falls.{FallingSystem, IsAtMost, IsLawful, is_overfilled, is_settled, fall_of, fallen}
use Rattle.admit_core.proofs.FallsLaw.{over_in, over_rank}
use Rattle.bar_fixpoint.specs.Overfilled.{rank_over, all_overfilled}
use Rattle.bar_fixpoint.specs.Chosen.{IsPicked, PickedFall, TellsAtMostOne}

-- a filter that the first n pass and no other is the prefix of length n
filter_front : (most : ℕ) (xs : List ℕ) (n : ℕ) → ((j : ℕ) → j < n → j < length xs → slice_index xs j ≤ most)
    → ((j : ℕ) → n ≤ j → j < length xs → most < slice_index xs j)
    → filter (λ x. nat_le x most) xs ≡ take n xs
filter_front most [] zero pass fail = refl
filter_front most [] (suc n) pass fail = refl
filter_front most (x ∷ xs) zero pass fail =
    let rest = filter (λ y. nat_le y most) xs in
    ap (λ b. cond b (x ∷ rest) rest) (lt-leb x most (fail 0 (omega arith) (omega arith)))
    ∙ filter_front most xs zero (λ j l h. absurd (omega arith)) (λ j l h. fail (suc j) (omega arith) (omega arith))
filter_front most (x ∷ xs) (suc n) pass fail =
    let rest = filter (λ y. nat_le y most) xs in
    ap (λ b. cond b (x ∷ rest) rest) (le-leb x most (pass 0 (omega arith) (omega arith)))
    ∙ ap (λ ys. x ∷ ys) (filter_front most xs n (λ j l h. pass (suc j) (omega arith) (omega arith))
    (λ j l h. fail (suc j) (omega arith) (omega arith)))

-- the ranks of at most the one at place n are the first n + 1
up_to_place : (xs : List ℕ) (n : ℕ) → IsStrictlyIncreasing xs → n < length xs
    → filter (λ x. nat_le x (slice_index xs n)) xs ≡ take (n + 1) xs
up_to_place xs n rising lt =
    let sorted = sorted_from_strictly_increasing xs rising in
    filter_front (slice_index xs n) xs (n + 1)
    (λ j l h. elim (cases_order j n) [
      | inl is ↦ let same : slice_index xs j ≡ slice_index xs n = ap (slice_index xs) is in omega arith
      | inr other ↦
          elim other [
            | inl before ↦ let below : slice_index xs j < slice_index xs n =
                below_from_sorted xs j n 0 sorted before lt in omega arith
            | inr after ↦ absurd (omega arith)
          ]
    ])
    (λ j l h. let below : slice_index xs n < slice_index xs j = below_from_sorted xs n j 0 sorted (omega arith) h in
    omega arith)

-- where nothing passes, all fail
none_pass : (p : ℕ → Bool) (xs : List ℕ) → filter p xs ≡ [] → list_all (λ x. not (p x)) xs ≡ true
none_pass p [] none = refl
none_pass p (x ∷ xs) none =
    elim (cases_Bool (p x)) [
      | inl passes ↦
          let kept : x ∷ filter p xs ≡ [] = ap (λ b. cond b (x ∷ filter p xs) (filter p xs)) (sym passes) ∙ none in
          let long : suc (length (filter p xs)) ≡ 0 = ap length kept in
          absurd (omega arith)
      | inr fails ↦
          let rest : filter p xs ≡ [] = ap (λ b. cond b (x ∷ filter p xs) (filter p xs)) (sym fails) ∙ none in
          ap (λ b. not b && list_all (λ y. not (p y)) xs) fails ∙ none_pass p xs rest
    ]

-- no place is overfilled where the list is empty
pub settled_from_none : (sys : FallingSystem) (bars places : List ℕ) → places ≡ all_overfilled sys bars → places ≡ []
    → is_settled sys bars ≡ true
settled_from_none sys bars places all none =
    none_pass (is_overfilled sys bars) (range_with_len 0 (length sys.ceilings)) (sym all ∙ none)

-- a listed place is overfilled
pub overfilled_from_list : (sys : FallingSystem) (bars shown places : List ℕ) (i : ℕ) → shown ≡ places
    → places ≡ all_overfilled sys bars → Contains shown i
    → is_overfilled sys bars i ≡ true
overfilled_from_list sys bars shown places i are all listed =
    let P : List ℕ → Type 0 = λ xs. Contains xs i in
    All-contains (λ j. is_overfilled sys bars j ≡ true) (all_overfilled sys bars) i
    (filter_passes (is_overfilled sys bars) (range_with_len 0 (length sys.ceilings)))
    (subst P (are ∙ all) listed)

module _ (sys : FallingSystem) (lawful : IsLawful sys) (bars : List ℕ) (i : ℕ) (under : IsAtMost bars sys.ceilings)
    (over : is_overfilled sys bars i ≡ true) where
  -- an overfilled place has a rank that finds no bed
  found : rank_over sys bars i ≡ Some (slice_index (sys.ranks bars i) (slice_index sys.free i))
  found = slice_get-get_or (sys.ranks bars i) (slice_index sys.free i) 0 (over_in sys lawful bars i over).1

  pub place_in : i < length sys.ceilings
  place_in = (over_in sys lawful bars i over).0

  -- the rank that was answered
  pub rank_is : (answer : Option ℕ) (r : ℕ) → answer ≡ rank_over sys bars i → answer ≡ Some r
      → r ≡ slice_index (sys.ranks bars i) (slice_index sys.free i)
  rank_is answer r told some = ap (λ x. unwrap_or x 0) (sym some ∙ told ∙ found)

  pub rank_from_one : (answer : Option ℕ) (r : ℕ) → answer ≡ rank_over sys bars i → answer ≡ Some r → 1 ≤ r
  rank_from_one answer r told some = omega (
    arith,
    rank_is answer r told some,
    (over_rank sys lawful bars i under over).0,
  )

  pub falls_below : (answer : Option ℕ) (r : ℕ) → answer ≡ rank_over sys bars i → answer ≡ Some r
      → r - 1 < slice_index bars i
  falls_below answer r told some =
      omega (
        arith,
        rank_is answer r told some,
        (over_rank sys lawful bars i under over).0,
        (over_rank sys lawful bars i under over).1,
      )

  -- what was asked makes the fall
  pub fall_made : (answer : Option ℕ) (r from : ℕ) (names wishes : List ℕ) → answer ≡ rank_over sys bars i
      → answer ≡ Some r → from ≡ slice_index bars i
      → names ≡ map (sys.name bars i) (filter (λ x. nat_le x r) (sys.ranks bars i)) → wishes ≡ names
      → let f : Fall = record { school = i; from = from; to = r - 1; wishes = wishes } in f ≡ fall_of sys bars i
  fall_made answer r from names wishes told some is_from are_names are_wishes =
      let ranks = sys.ranks bars i in
      let free = slice_index sys.free i in
      let top = slice_index ranks free in
      let is_rank : r ≡ top = rank_is answer r told some in
      let i_bar : i < length bars = omega (arith, place_in, under.as_many) in
      let front : filter (λ x. nat_le x top) ranks ≡ take (free + 1) ranks =
      up_to_place ranks free (lawful.ascending bars i under i_bar) (over_in sys lawful bars i over).1 in
      let named : wishes ≡ map (sys.name bars i) (take (free + 1) ranks) =
      are_wishes ∙ are_names ∙ ap (λ n. map (sys.name bars i) (filter (λ x. nat_le x n) ranks)) is_rank
      ∙ ap (map (sys.name bars i)) front in
      let F : ℕ → ℕ → List ℕ → Fall = λ a b c. record { school = i; from = a; to = b - 1; wishes = c } in
      ap (λ a. F a r wishes) is_from ∙ ap (λ b. F (slice_index bars i) b wishes) is_rank
      ∙ ap (F (slice_index bars i) top) named

-- a place that was picked from all
pub one_picked : {E : Type 0} (sys : FallingSystem) (choice : List ℕ → List ℕ → ℕ) (bars shown told told_after : List ℕ)
    (picked : Result (Option ℕ) E) → shown ≡ all_overfilled sys bars
    → IfOk picked (λ place. IfSome place (Contains shown))
    → IfOk picked (λ place. IfSome place (λ i. i ≡ choice told shown))
    → IfOk picked (λ place. IfSome place (λ i. told_after ≡ told ++ i ∷ []))
    → IfOk picked (λ place. IfSome place (IsPicked sys choice bars told told_after))
one_picked sys choice bars shown told told_after (Ok (Some i)) all listed chosen told_of = (
  record {
    place = i;
    overfilled = overfilled_from_list sys bars shown shown i refl all listed;
    chosen = chosen ∙ ap (choice told) all;
    told_of = told_of;
  },
  refl,
)
one_picked sys choice bars shown told told_after (Ok None) all listed chosen told_of = tt
one_picked sys choice bars shown told told_after (Err e) all listed chosen told_of = tt

-- there was none to pick from
pub none_picked : {E : Type 0} (sys : FallingSystem) (bars shown : List ℕ) (picked : Result (Option ℕ) E)
    → shown ≡ all_overfilled sys bars
    → IfOk picked (λ place. IfNone place (shown ≡ []))
    → IfOk picked (λ place. IfNone place (is_settled sys bars ≡ true))
none_picked sys bars shown (Ok None) all none = settled_from_none sys bars shown all none
none_picked sys bars shown (Ok (Some i)) all none = tt
none_picked sys bars shown (Err e) all none = tt

-- the picked place is overfilled
pub overfilled_from_pick : (sys : FallingSystem) (choice : List ℕ → List ℕ → ℕ) (bars told told_after : List ℕ) (i : ℕ)
    → IsPicked sys choice bars told told_after i
    → is_overfilled sys bars i ≡ true
overfilled_from_pick sys choice bars told told_after i picked =
    let P : ℕ → Type 0 = λ j. is_overfilled sys bars j ≡ true in
    subst P picked.1 picked.0.overfilled

-- the picked place fell
pub falls_once : (sys : FallingSystem) (choice : List ℕ → List ℕ → ℕ) (bars told told_after : List ℕ) (i : ℕ) (f : Fall)
    (after : List ℕ) → IsPicked sys choice bars told told_after i
    → f ≡ fall_of sys bars i → after ≡ fallen bars f → PickedFall sys choice told bars f told_after after
falls_once sys choice bars told told_after i f after picked is_fall fell =
    let is : picked.0.place ≡ f.school = picked.1 ∙ sym (ap (λ (g : Fall). g.school) is_fall) in
    let P : ℕ → Type 0 = λ j. is_overfilled sys bars j ≡ true in
    record {
      overfilled = subst P is picked.0.overfilled;
      is_fall = is_fall ∙ ap (fall_of sys bars) (ap (λ (g : Fall). g.school) (sym is_fall));
      bars_fell = fell;
      chosen = sym is ∙ picked.0.chosen;
      told_of = picked.0.told_of ∙ ap (λ j. told ++ j ∷ []) is;
    }

pub told_one : (sys : FallingSystem) (choice : List ℕ → List ℕ → ℕ) (bars told told_after : List ℕ) (i : ℕ)
    → IsPicked sys choice bars told told_after i
    → TellsAtMostOne sys choice bars told told_after
told_one sys choice bars told told_after i picked = inr picked.0

-- a fall takes at least one from the sum of the bars
sum-slice_set : (xs : List ℕ) (i v : ℕ) → i < length xs → sum (slice_set xs i v) + slice_index xs i ≡ sum xs + v
sum-slice_set xs i v lt = grind (arith, common_steps)

pub sum_falls : (sys : FallingSystem) → IsLawful sys
    → (choice : List ℕ → List ℕ → ℕ) (told bars : List ℕ) (f : Fall) (told_after after : List ℕ)
    → IsAtMost bars sys.ceilings → PickedFall sys choice told bars f told_after after → sum after < sum bars
sum_falls sys lawful choice told bars f told_after after under fell =
    let i = f.school in
    let in_range : i < length sys.ceilings = (over_in sys lawful bars i fell.overfilled).0 in
    let i_bar : i < length bars = omega (arith, in_range, under.as_many) in
    let rank = over_rank sys lawful bars i under fell.overfilled in
    let is_to : f.to ≡ slice_index (sys.ranks bars i) (slice_index sys.free i) - 1 =
    ap (λ (g : Fall). g.to) fell.is_fall in
    let same : sum after ≡ sum (slice_set bars i f.to) = ap sum fell.bars_fell in
    omega (arith, same, sum-slice_set bars i f.to i_bar, is_to, rank.0, rank.1)
