-- Nobody gains by another list. One who got a programme by it has that programme where they list it alone, and so a
-- place in every stable matching there; then they have a place where they list the true programmes down to it, in a
-- matching that is stable for the whole true list.
use Rattle.std.proofs.Common.{ℕ, ◌<◌, ◌≡◌, Bool, true, false, ◌&&◌, ◌||◌, List, [], ◌∷◌, length, refl, sym, ◌∙◌, ap}
use Rattle.std.proofs.Common.{nat_eq, filter, inl, inr}
use Rattle.std.specs.Prelude.{Option, Some, None, is_some}
use Rattle.std.specs.List.{before_first}
use Rattle.std.proofs.lemmas.Bool.{cases_Bool, and_parts, and_from, or_cases, or_left, or_right, eq-eqb, eqb-true}
use Rattle.std.proofs.lemmas.Bool.{false≢true, false_from_ne_true}
use Rattle.admit_core.specs.Lists.{is_among}
use Rattle.linked_demand.proofs.HousedRows.{filter_among}
use Rattle.markets.specs.Markets.{MarketRows, IsMarket, list_of, lists_it}
use Rattle.markets.specs.Matchings.{place_of, is_at, prefers, IsStable, IsBestForAll}
use Rattle.stable_market.specs.Truth.{DifferAtMostIn, TruthPays}
use Rattle.markets.proofs.Firsts.{among_before, before_yes, before_no}
use Rattle.markets.proofs.Positions.{is_candidate}
use Rattle.stable_market.proofs.Moved.{stable_there}
use Rattle.markets.proofs.SamePlaced.{any_two, there_is_a_best}
use Rattle.stable_market.proofs.Shorter.{shortened, is_shorter, shorter_is_alike, own_list, listed_before}

-- one before another that stands before the first that passes stands before it too
before_trans : (u : ℕ → Bool) (p r : ℕ) (xs : List ℕ) → is_among p (before_first (λ w. nat_eq w r) xs) ≡ true
    → is_among r (before_first u xs) ≡ true
    → is_among p (before_first u xs) ≡ true
before_trans u p r [] first second = absurd (false≢true first)
before_trans u p r (w ∷ xs) first second =
    elim (cases_Bool (u w)) [
      | inl stops ↦ absurd (false≢true (ap (is_among r) (sym (before_yes u w xs stops)) ∙ second))
      | inr on ↦
          let later : is_among r (w ∷ before_first u xs) ≡ true =
          ap (is_among r) (sym (before_no u w xs on)) ∙ second in
          let whole : before_first u (w ∷ xs) ≡ w ∷ before_first u xs = before_no u w xs on in
          elim (cases_Bool (nat_eq w r)) [
            | inl here ↦ absurd (false≢true (ap (is_among p) (sym (before_yes (λ v. nat_eq v r) w xs here)) ∙ first))
            | inr other ↦
                let front : is_among p (w ∷ before_first (λ v. nat_eq v r) xs) ≡ true = ap (is_among p)
                (sym (before_no (λ v. nat_eq v r) w xs other)) ∙ first in
                let behind : is_among r (before_first u xs) ≡ true =
                elim (or_cases (nat_eq r w) (is_among r (before_first u xs)) later) [
                  | inl same ↦ absurd (false≢true (sym other ∙ eq-eqb w r (sym (eqb-true r w same))))
                  | inr there ↦ there
                ] in
                ap (is_among p) whole
                ∙ elim (or_cases (nat_eq p w) (is_among p (before_first (λ v. nat_eq v r) xs)) front) [
                  | inl same ↦ or_left (nat_eq p w) (is_among p (before_first u xs)) same
                  | inr there ↦ or_right (nat_eq p w) (is_among p (before_first u xs))
                      (before_trans u p r xs there behind)
                ]
          ]
    ]

-- what stands before the first that passes, in a list of which some are kept, it among them
before_kept : (u t : ℕ → Bool) (xs : List ℕ) → ((w : ℕ) → u w ≡ true → t w ≡ true)
    → before_first u (filter t xs) ≡ filter t (before_first u xs)
before_kept u t [] keeps = refl
before_kept u t (w ∷ xs) keeps =
    elim (cases_Bool (u w)) [
      | inl stops ↦
          let kept : filter t (w ∷ xs) ≡ w ∷ filter t xs = rw (keeps w stops) refl in
          ap (before_first u) kept ∙ before_yes u w (filter t xs) stops ∙ ap (filter t) (sym (before_yes u w xs stops))
      | inr on ↦
          let rest = before_kept u t xs keeps in
          let whole : filter t (before_first u (w ∷ xs)) ≡ filter t (w ∷ before_first u xs) =
          ap (filter t) (before_no u w xs on) in
          elim (cases_Bool (t w)) [
            | inl passes ↦
                let kept : filter t (w ∷ xs) ≡ w ∷ filter t xs = rw passes refl in
                let there : filter t (w ∷ before_first u xs) ≡ w ∷ filter t (before_first u xs) = rw passes refl in
                ap (before_first u) kept ∙ before_no u w (filter t xs) on ∙ ap (λ ys. w ∷ ys) rest ∙ sym (whole ∙ there)
            | inr gone ↦
                let kept : filter t (w ∷ xs) ≡ filter t xs = rw gone refl in
                let there : filter t (w ∷ before_first u xs) ≡ filter t (before_first u xs) = rw gone refl in
                ap (before_first u) kept ∙ rest ∙ sym (whole ∙ there)
          ]
    ]

-- nothing is before none
before_none : (xs : List ℕ) → before_first (λ w. is_at w None) xs ≡ xs
before_none [] = refl
before_none (w ∷ xs) = before_no (λ v. is_at v None) w xs refl ∙ ap (λ ys. w ∷ ys) (before_none xs)

-- the other way round, and along three
turned : (x : ℕ) (a b : MarketRows) → DifferAtMostIn x a b → DifferAtMostIn x b a
turned x a b alike =
    record {
      candidates = sym alike.candidates;
      programmes = sym alike.programmes;
      same_seats = sym alike.same_seats;
      same_lists = λ y other. sym (alike.same_lists y other);
      same_ranks = λ p y z yb zb ya za. sym (alike.same_ranks p y z ya za yb zb);
    }

module _ (m other : MarketRows) (x q : ℕ) (best found : List (Option ℕ)) (is : IsMarket m) (other_is : IsMarket other)
    (alike : DifferAtMostIn x m other)
    (stable : IsStable m best) (is_best : IsBestForAll m best) (found_stable : IsStable other found)
    (at : place_of found x ≡ Some q)
    (wants : prefers m best x q ≡ true) where
  abbrev list : List ℕ
  list = list_of m x

  -- the true programmes down to the one that was got, and that one alone
  abbrev down : ℕ → Bool
  down p = is_among p (before_first (λ w. nat_eq w q) list) || nat_eq p q

  abbrev alone : ℕ → Bool
  alone p = nat_eq p q

  on_true_list : is_among q list ≡ true
  on_true_list = (among_before (λ w. is_at w (place_of best x)) q list wants).0

  x_lt : x < length m.lists
  x_lt = is_candidate m is q x on_true_list

  on_other_list : is_among q (list_of other x) ≡ true
  on_other_list = found_stable.matching.listed x q at

  x_lt_other : x < length other.lists
  x_lt_other = is_candidate other other_is q x on_other_list

  abbrev part : MarketRows
  part = shortened m x down

  abbrev one : MarketRows
  one = shortened other x alone

  part_is : IsMarket part
  part_is = is_shorter m is x x_lt down

  one_is : IsMarket one
  one_is = is_shorter other other_is x x_lt_other alone

  part_alike : DifferAtMostIn x m part
  part_alike = shorter_is_alike m is x x_lt down

  one_alike : DifferAtMostIn x other one
  one_alike = shorter_is_alike other other_is x x_lt_other alone

  part_to_one : DifferAtMostIn x part one
  part_to_one =
      record {
        candidates = sym part_alike.candidates ∙ alike.candidates ∙ one_alike.candidates;
        programmes = sym part_alike.programmes ∙ alike.programmes ∙ one_alike.programmes;
        same_seats = alike.same_seats;
        same_lists = λ y apart. sym (part_alike.same_lists y apart) ∙ alike.same_lists y apart
            ∙ one_alike.same_lists y apart;
        same_ranks = λ p y z yp zp yo zo.
            let ym = (listed_before m is x x_lt down p y yp).0 in
            let zm = (listed_before m is x x_lt down p z zp).0 in
            let yn = (listed_before other other_is x x_lt_other alone p y yo).0 in
            let zn = (listed_before other other_is x x_lt_other alone p z zo).0 in
            sym (part_alike.same_ranks p y z ym zm yp zp) ∙ alike.same_ranks p y z ym zm yn zn
            ∙ one_alike.same_ranks p y z yn zn yo zo;
      }

  -- the one programme is all that is listed there
  alone_list : (p : ℕ) → lists_it one p x ≡ (is_among p (list_of other x) && alone p)
  alone_list p = ap (is_among p) (own_list other other_is x x_lt_other alone) ∙ filter_among alone p (list_of other x)

  down_list : (p : ℕ) → lists_it part p x ≡ (is_among p list && down p)
  down_list p = ap (is_among p) (own_list m is x x_lt down) ∙ filter_among down p list

  -- what was got is stable where it is listed alone
  found_there : IsStable one found
  found_there =
      stable_there x other one one_alike found found_stable
      (λ p e.
      let same : p ≡ q = (let both = sym e ∙ at in cc) in
      alone_list p ∙ and_from (is_among p (list_of other x)) (alone p) (found_stable.matching.listed x p e)
      (eq-eqb p q same))
      (λ p t.
      let before = among_before (λ w. is_at w (place_of found x)) p (list_of one x) t in
      let both = and_parts (is_among p (list_of other x)) (alone p) (sym (alone_list p) ∙ before.0) in
      let holds : is_at p (place_of found x) ≡ true = ap (is_at p) at ∙ both.1 in
      absurd (false≢true (sym before.1 ∙ holds)))

  has_down : down q ≡ true
  has_down = or_right (is_among q (before_first (λ w. nat_eq w q) list)) (nat_eq q q) (eq-eqb q q refl)

  -- a place in every stable matching down to it
  not_placeless : (places : List (Option ℕ)) → IsStable part places → place_of places x ≡ None → ⊥
  not_placeless places its none =
      let there : IsStable one places =
      stable_there x part one part_to_one places its (λ p e. absurd (let both = sym e ∙ none in cc))
      (λ p t.
      let before = among_before (λ w. is_at w (place_of places x)) p (list_of one x) t in
      let both = and_parts (is_among p (list_of other x)) (alone p) (sym (alone_list p) ∙ before.0) in
      let same : p ≡ q = eqb-true p q both.1 in
      let all : before_first (λ w. is_at w (place_of places x)) (list_of part x) ≡ list_of part x =
      ap (λ (o : Option ℕ). before_first (λ w. is_at w o) (list_of part x)) none ∙ before_none (list_of part x) in
      ap (is_among p) all ∙ down_list p
      ∙ ap (λ z. is_among z list && down z) same ∙ and_from (is_among q list) (down q) on_true_list has_down) in
      let same = (any_two one found places one_is found_there there).candidates x in
      false≢true (sym (sym (ap is_some at) ∙ same ∙ ap is_some none))

  -- and what is there is stable by the whole true list
  whole_list : (places : List (Option ℕ)) (r : ℕ) → IsStable part places → place_of places x ≡ Some r
      → IsStable m places
  whole_list places r its here =
      let listed = and_parts (is_among r list) (down r) (sym (down_list r) ∙ its.matching.listed x r here) in
      stable_there x part m (turned x m part part_alike) places its
      (λ p e.
      let both = and_parts (is_among p list) (down p) (sym (down_list p) ∙ its.matching.listed x p e) in
      both.0)
      (λ p t.
      let u : ℕ → Bool = λ w. nat_eq w r in
      let first : is_among p (before_first u list) ≡ true =
      ap (λ (o : Option ℕ). is_among p (before_first (λ w. is_at w o) list))
      (sym here) ∙ t in
      let kept : down p ≡ true =
      elim (or_cases (is_among r (before_first (λ w. nat_eq w q) list)) (nat_eq r q) listed.1) [
        | inl before ↦
            or_left (is_among p (before_first (λ w. nat_eq w q) list)) (nat_eq p q)
            (before_trans (λ w. nat_eq w q) p r list first before)
        | inr same ↦
            let e : r ≡ q = eqb-true r q same in
            or_left (is_among p (before_first (λ w. nat_eq w q) list)) (nat_eq p q)
            (ap (λ z. is_among p (before_first (λ w. nat_eq w z) list)) (sym e) ∙ first)
      ] in
      let keeps : (w : ℕ) → u w ≡ true → down w ≡ true = λ w is_r. ap down (eqb-true w r is_r) ∙ listed.1 in
      ap (λ (o : Option ℕ). is_among p (before_first (λ w. is_at w o) (list_of part x))) here
      ∙ ap (λ (xs : List ℕ). is_among p (before_first u xs)) (own_list m is x x_lt down)
      ∙ ap (is_among p) (before_kept u down list keeps) ∙ filter_among down p (before_first u list)
      ∙ and_from (is_among p (before_first u list)) (down p) first kept)

  gained : ⊥
  gained =
      let (places, its, rest) = there_is_a_best part part_is in
      by places its (place_of places x) refl
    where
      by : (places : List (Option ℕ)) → IsStable part places → (o : Option ℕ) → place_of places x ≡ o → ⊥
      by places its None none = not_placeless places its none
      by places its (Some r) here =
          let listed = and_parts (is_among r list) (down r) (sym (down_list r) ∙ its.matching.listed x r here) in
          let content : prefers m best x r ≡ false = is_best places (whole_list places r its here) x r here in
          elim (or_cases (is_among r (before_first (λ w. nat_eq w q) list)) (nat_eq r q) listed.1) [
            | inl before ↦ false≢true (sym content ∙ before_trans (λ w. is_at w (place_of best x)) r q list before
                wants)
            | inr same ↦ false≢true (sym content ∙ ap (prefers m best x) (eqb-true r q same) ∙ wants)
          ]

pub truth_pays : TruthPays
truth_pays = λ m other x q best found is other_is alike stable is_best found_stable at.
    false_from_ne_true (prefers m best x q) (λ wants. gained m other x q best found is other_is alike stable is_best
    found_stable at wants)
