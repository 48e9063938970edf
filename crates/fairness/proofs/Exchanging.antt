-- A state in which two ranks of a school are exchanged: the same is proposed under bars that bar the same.
use Rattle.std.proofs.Common.{ℕ, ◌+◌, ◌-◌, ◌≤◌, ◌<◌, ◌≡◌, Bool, true, not, ◌&&◌, ◌||◌, List, [], ◌∷◌, map, length, inl}
use Rattle.std.proofs.Common.{inr, refl, sym, ◌∙◌, ap, subst, arith, filter, nat_eq, nat_lt, count_by, zip, Option}
use Rattle.std.proofs.Common.{Some, None}
use Rattle.std.specs.Prelude.{◌≢◌, ◌==◌, nat_le, slice_index, if◌then◌else◌}
use Rattle.std.specs.List.{before_first, list_any, range_with_len}
use Rattle.std.proofs.lemmas.Bool.{cases_Bool, cases_eq, eq-eqb, eqb-true, false≢true, lt-ltb, ne_eqb}
use Rattle.std.proofs.lemmas.Cmp.{nat_eq_equiv}
use Rattle.std.proofs.lemmas.List.{length-map}
use Rattle.std.proofs.lemmas.Map.Made.{length-le_from_is_member}
use Rattle.admit_core.specs.declared.dossier.Wish.{Wish}
use Rattle.admit_core.specs.declared.ranking.CallOrder.{CallOrder}
use Rattle.admit_core.specs.declared.state.Mark.{Mark}
use Rattle.admit_core.specs.Boarding.{boarding}
use Rattle.admit_core.specs.DossierRows.{beds_of, candidates_of, limit_of, seats_of}
use Rattle.admit_core.specs.Falls.{Fits, IsAtMost}
use Rattle.admit_core.specs.Lists.{distinct, is_among}
use Rattle.admit_core.specs.Proposals.{demanded_ranks, demands_bed, has_open_wish, is_behind_bar, is_open, is_open_in}
use Rattle.admit_core.specs.Proposals.{is_proposed, order_of, wants_seat}
use Rattle.admit_core.specs.State.{State, entries, free_beds, has_school, holds_bed, holds_seat, is_live, is_school}
use Rattle.admit_core.specs.State.{is_waiting, seats_left}
use Rattle.admit_core.proofs.CallRows.{IsIn}
use Rattle.admit_core.proofs.DemandLaws.{demanded, demands_at}
use Rattle.admit_core.proofs.FullBeds.{rising_distinct}
use Rattle.admit_core.proofs.Tests.{increasing-ascending, among-map}
use Rattle.admit_core.proofs.Plain.{any-map}
use Rattle.fairness.specs.Exchanges.{exchanged, exchanged_in, with_ranks_exchanged}
use Rattle.fairness.proofs.PassedOver.{seat_for}

-- ---- two ranks exchanged
module _ (better worse : ℕ) (below : better < worse) where
  -- what a rank becomes
  pub of_worse : exchanged better worse worse ≡ better
  of_worse = rw (eq-eqb worse worse refl) refl

  pub of_better : exchanged better worse better ≡ worse
  of_better = rw (ne_eqb better worse (λ e. omega (arith, below, e)), eq-eqb better better refl) refl

  pub of_other : (r : ℕ) → r ≢ worse → r ≢ better → exchanged better worse r ≡ r
  of_other r not_worse not_better = rw (ne_eqb r worse not_worse, ne_eqb r better not_better) refl

  -- exchanged twice, a rank is as it was
  twice : (r : ℕ) → exchanged better worse (exchanged better worse r) ≡ r
  twice r =
      let x = exchanged better worse in
      elim (cases_eq r worse) [
        | inl is_worse ↦ ap (λ n. x (x n)) is_worse ∙ ap x of_worse ∙ of_better ∙ sym is_worse
        | inr not_worse ↦ elim (cases_eq r better) [
          | inl is_better ↦ ap (λ n. x (x n)) is_better ∙ ap x of_better ∙ of_worse ∙ sym is_better
          | inr not_better ↦ ap x (of_other r not_worse not_better) ∙ of_other r not_worse not_better
        ]
      ]

  from_one : 1 ≤ better → (r : ℕ) → nat_lt 0 (exchanged better worse r) ≡ nat_lt 0 r
  from_one first r =
      let positive = λ (n : ℕ) (lt : 0 < n). lt-ltb 0 n lt in
      elim (cases_eq r worse) [
        | inl is_worse ↦
            ap (λ n. nat_lt 0 (exchanged better worse n)) is_worse ∙ ap (nat_lt 0) of_worse
            ∙ positive better (omega (arith, first))
            ∙ sym (positive r (omega (arith, is_worse, below)))
        | inr not_worse ↦ elim (cases_eq r better) [
          | inl is_better ↦
              ap (λ n. nat_lt 0 (exchanged better worse n)) is_better ∙ ap (nat_lt 0) of_better
              ∙ positive worse (omega (arith, below))
              ∙ sym (positive r (omega (arith, is_better, first)))
          | inr not_better ↦ ap (nat_lt 0) (of_other r not_worse not_better)
        ]
      ]

-- what is undone when done twice may stand on either side
turn : (g : ℕ → ℕ) → ((n : ℕ) → g (g n) ≡ n) → (r x : ℕ) → nat_eq r (g x) ≡ nat_eq (g r) x
turn g undone r x =
    elim (cases_eq r (g x)) [
      | inl same ↦ eq-eqb r (g x) same ∙ sym (eq-eqb (g r) x (ap g same ∙ undone x))
      | inr other ↦ ne_eqb r (g x) other ∙ sym (ne_eqb (g r) x (λ e. other (sym (undone r) ∙ ap g e)))
    ]

-- ---- lists
map_twice : (f : Wish → Wish) (ws : List Wish) → ((w : Wish) → (f w).candidate ≡ w.candidate)
    → map (λ (w : Wish). w.candidate) (map f ws) ≡ map (λ (w : Wish). w.candidate) ws
map_twice f [] same = refl
map_twice f (w ∷ ws) same = λ i. same w i ∷ map_twice f ws same i

abbrev pub with_wish : (Wish → Wish) → Wish × Mark → Wish × Mark
with_wish f e = (f e.0, e.1)

zip_map : (f : Wish → Wish) (ws : List Wish) (ms : List Mark) → zip (map f ws) ms ≡ map (with_wish f) (zip ws ms)
zip_map f [] ms = refl
zip_map f (w ∷ ws) [] = refl
zip_map f (w ∷ ws) (m ∷ ms) = ap (λ l. (f w, m) ∷ l) (zip_map f ws ms)

pub in_wishes : (ws : List Wish) (ms : List Mark) (e : Wish × Mark) → IsIn e (zip ws ms) → IsIn e.0 ws
in_wishes [] ms e has = has
in_wishes (w ∷ ws) [] e has = absurd has
in_wishes (w ∷ ws) (m ∷ ms) e has =
    elim has [
      | inl same ↦ inl (ap (λ (x : Wish × Mark). x.0) same)
      | inr later ↦ inr (in_wishes ws ms e later)
    ]

any_related : {X : Type 0} (f : X → X) (p q : X → Bool) (xs : List X) → ((x : X) → IsIn x xs → p x ≡ q (f x))
    → list_any p xs ≡ list_any q (map f xs)
any_related f p q [] same = refl
any_related f p q (x ∷ xs) same = λ i. same x (inl refl) i || any_related f p q xs (λ y has. same y (inr has)) i

-- ---- the state with two ranks of a school exchanged
module _ (s : State) (orders : List CallOrder) (h better worse : ℕ) (first : 1 ≤ better) (below : better < worse) where
  abbrev f : Wish → Wish
  f = exchanged_in h better worse

  abbrev pub t : State
  t = with_ranks_exchanged s h better worse

  entries_t : entries t ≡ map (with_wish f) (entries s)
  entries_t = zip_map f s.dossier.wishes s.marks

  pub same_seat : (c p : ℕ) → holds_seat t c p ≡ holds_seat s c p
  same_seat c p =
      let test : Wish × Mark → Bool = λ e. is_live e.1 && (e.0.candidate == c) && (e.0.programme == p) in
      ap (list_any test) entries_t ∙ any-map test (with_wish f) (entries s)

  pub same_bed : (c g : ℕ) → holds_bed t c g ≡ holds_bed s c g
  same_bed c g =
      let test : Wish × Mark → Bool = λ e. is_live e.1 && (e.0.candidate == c) && has_school e.0 g in
      ap (list_any test) entries_t ∙ any-map test (with_wish f) (entries s)

  same_candidates : candidates_of t.dossier ≡ candidates_of s.dossier
  same_candidates = ap distinct (map_twice f s.dossier.wishes (λ w. refl))

  same_left : (p : ℕ) → seats_left t p ≡ seats_left s p
  same_left p = λ i. seats_of s.dossier p - length (filter (λ c. same_seat c p i) (same_candidates i))

  same_free : (g : ℕ) → free_beds t g ≡ free_beds s g
  same_free g = λ i. beds_of s.dossier g - length (filter (λ c. same_bed c g i) (same_candidates i))

  free_same : (ceilings : List ℕ) (g : ℕ) → slice_index (boarding t orders ceilings).free g
      ≡ slice_index (boarding s orders ceilings).free g
  free_same ceilings g = λ i. slice_index (map (λ k. same_free k i) (range_with_len 0 (length ceilings))) g

  -- the same wishes are behind the bars
  abbrev pub BarAlike : List ℕ → List ℕ → Type 0
  BarAlike bars moved_bars = (v : Wish) → IsIn v s.dossier.wishes → is_behind_bar s bars v v.school
      ≡ is_behind_bar t moved_bars (f v) v.school

  -- what a demanded rank of a school becomes
  abbrev turned : ℕ → ℕ → ℕ
  turned g r = if g == h then exchanged better worse r else r

  turned_twice : (g r : ℕ) → turned g (turned g r) ≡ r
  turned_twice g r =
      elim (cases_Bool (g == h)) [
        | inl here ↦ rw here (twice better worse below r)
        | inr other ↦ rw other refl
      ]

  turned_from_one : (g r : ℕ) → nat_lt 0 (turned g r) ≡ nat_lt 0 r
  turned_from_one g r =
      elim (cases_Bool (g == h)) [
        | inl here ↦ rw here (from_one better worse below first r)
        | inr other ↦ rw other refl
      ]

  rank_if : (school : Option ℕ) (g r : ℕ) → is_school school g ≡ true
      → (if is_school school h then exchanged better worse r else r) ≡ turned g r
  rank_if None g r has = absurd (false≢true has)
  rank_if (Some k) g r has = ap (λ (n : ℕ). if n == h then exchanged better worse r else r) (eqb-true k g has)

  module _ (bars moved_bars : List ℕ) (alike : BarAlike bars moved_bars) where
    pub same_open : (v : Wish) (m : Mark) → IsIn v s.dossier.wishes → is_open s bars v m ≡ is_open t moved_bars (f v) m
    same_open v m has = ap (λ (b : Bool). is_waiting m && not (is_waiting m && b)) (alike v has)

    same_has_open : (p c : ℕ) → has_open_wish s bars p c ≡ has_open_wish t moved_bars p c
    same_has_open p c =
        let now : Wish × Mark → Bool = λ e. is_open_in t moved_bars p c e.0 e.1 in
        let was : Wish × Mark → Bool = λ e. is_open_in s bars p c e.0 e.1 in
        any_related (with_wish f) was now (entries s)
        (λ e has. ap (λ (b : Bool). b && (e.0.candidate == c) && (e.0.programme == p))
        (same_open e.0 e.1 (in_wishes s.dossier.wishes s.marks e has)))
        ∙ sym (ap (list_any now) entries_t)

    same_wants : (p c : ℕ) → wants_seat s bars p c ≡ wants_seat t moved_bars p c
    same_wants p c = λ i. same_has_open p c i && not (sym (same_seat c p) i)

    pub same_seat_for : (p c : ℕ) → seat_for orders s bars p c ≡ seat_for orders t moved_bars p c
    same_seat_for p c = λ i.
        (sym (same_seat c p) i || nat_le (length (before_first (nat_eq c) (order_of s.dossier orders p)) + 1)
        (limit_of s.dossier p))
        || nat_lt (count_by (λ d. same_wants p d i) (before_first (nat_eq c) (order_of s.dossier orders p)))
        (sym (same_left p) i)

    pub same_proposed : (v : Wish) (m : Mark) → IsIn v s.dossier.wishes
        → is_proposed s orders bars v m ≡ is_proposed t orders moved_bars (f v) m
    same_proposed v m has = λ i. same_open v m has i && same_seat_for v.programme v.candidate i

    same_demand : (g r : ℕ) (e : Wish × Mark) → IsIn e (entries s)
        → demands_at s orders bars g (turned g r) e ≡ demands_at t orders moved_bars g r (with_wish f e)
    same_demand g r e has =
        let v = e.0 in
        elim (cases_Bool (has_school v g)) [
          | inr none ↦ rw none refl
          | inl boards ↦
              let rank : turned g v.board_rank ≡ (f v).board_rank = sym (rank_if v.school g v.board_rank boards) in
              let proposed = same_proposed v e.1 (in_wishes s.dossier.wishes s.marks e has) in
              let positive = sym (turned_from_one g v.board_rank) ∙ ap (nat_lt 0) rank in
              let equal = sym (turn (turned g) (turned_twice g) r v.board_rank) ∙ ap (nat_eq r) rank in
              λ i. ((has_school v g && positive i && not (sym (same_bed v.candidate g) i)) && proposed i) && equal i
        ]

    same_ranks : (g r : ℕ) → is_among (turned g r) (demanded_ranks s orders bars g)
        ≡ is_among r (demanded_ranks t orders moved_bars g)
    same_ranks g r =
        demanded s orders bars g (turned g r)
        ∙ any_related (with_wish f) (demands_at s orders bars g (turned g r)) (demands_at t orders moved_bars g r)
        (entries s) (same_demand g r)
        ∙ sym (ap (list_any (demands_at t orders moved_bars g r)) entries_t)
        ∙ sym (demanded t orders moved_bars g r)

    abbrev ranks_s : ℕ → List ℕ
    ranks_s g = demanded_ranks s orders bars g

    abbrev ranks_t : ℕ → List ℕ
    ranks_t g = demanded_ranks t orders moved_bars g

    at_most_t : (g : ℕ) → length (ranks_t g) ≤ length (ranks_s g)
    at_most_t g =
        let rises = increasing-ascending (map (λ (e : Wish × Mark). e.0.board_rank)
        (filter (λ (e : Wish × Mark). demands_bed t orders moved_bars g e.0 e.1) (entries t))) in
        let le = length-le_from_is_member nat_eq_equiv (ranks_t g) (map (turned g) (ranks_s g))
        (rising_distinct (ranks_t g) rises)
        (λ r there. subst (λ (n : ℕ). is_among n (map (turned g) (ranks_s g)) ≡ true) (turned_twice g r)
        (among-map (turned g) (turned g r) (ranks_s g) (same_ranks g r ∙ there))) in
        omega (arith, le, length-map (ranks_s g) (turned g))

    at_most_s : (g : ℕ) → length (ranks_s g) ≤ length (ranks_t g)
    at_most_s g =
        let rises = increasing-ascending (map (λ (e : Wish × Mark). e.0.board_rank)
        (filter (λ (e : Wish × Mark). demands_bed s orders bars g e.0 e.1) (entries s))) in
        let le = length-le_from_is_member nat_eq_equiv (ranks_s g) (map (turned g) (ranks_t g))
        (rising_distinct (ranks_s g) rises)
        (λ r there.
        let here : is_among (turned g r) (ranks_t g) ≡ true =
        sym (same_ranks g (turned g r)) ∙ ap (λ n. is_among n (ranks_s g)) (turned_twice g r) ∙ there in
        subst (λ (n : ℕ). is_among n (map (turned g) (ranks_t g)) ≡ true) (turned_twice g r)
        (among-map (turned g) (turned g r) (ranks_t g) here)) in
        omega (arith, le, length-map (ranks_t g) (turned g))

    pub fits_after : (ceilings : List ℕ) → IsAtMost moved_bars ceilings → Fits (boarding s orders ceilings) bars
        → Fits (boarding t orders ceilings) moved_bars
    fits_after ceilings under fits = record {
      under_ceilings = under;
      room = λ g lt. omega (arith, at_most_t g, fits.room g lt, free_same ceilings g);
    }

    pub fits_before : (ceilings : List ℕ) → IsAtMost bars ceilings → Fits (boarding t orders ceilings) moved_bars
        → Fits (boarding s orders ceilings) bars
    fits_before ceilings under fits = record {
      under_ceilings = under;
      room = λ g lt. omega (arith, at_most_s g, fits.room g lt, free_same ceilings g);
    }
