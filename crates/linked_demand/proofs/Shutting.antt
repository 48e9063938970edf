-- The flags of open wishes, from those of the waiting ones: of each school those behind its bar are closed.
use Rattle.std.proofs.Common.{ℕ, ◌+◌, ◌<◌, ◌≡◌, Bool, true, false, not, ◌&&◌, ◌||◌, List, [], filter, map, length}
use Rattle.std.proofs.Common.{get_or, inl}
use Rattle.std.proofs.Common.{inr, set, subst, take, refl, sym, ◌∙◌, ap, arith, nat_eq, nat_le, nat_lt, drop, Option}
use Rattle.std.proofs.Common.{Some, None, zero-add}
use Rattle.std.specs.Prelude.{is_some}
use Rattle.std.specs.List.{range_with_len}
use Rattle.std.proofs.lemmas.Bool.{cases_Bool, cases_eq, cases_lt, eq-eqb, eqb-false, eqb-true, le-leb, le-ltb, lt-leb}
use Rattle.std.proofs.lemmas.Bool.{and_parts, false≢true, lt-ltb, ne_eqb}
use Rattle.std.proofs.lemmas.List.{ext_get_or, get_or_past, get_or-set_other, get_or-set_same, length-map}
use Rattle.std.proofs.lemmas.List.FromFn.{get_or-map-range_with_len, length-map-range_with_len}
use Rattle.std.proofs.lemmas.Option.{unwrap_or-slice_get}
use Rattle.admit_core.proofs.Plain.{or_false}
use Rattle.admit_core.specs.declared.dossier.Wish.{Wish}
use Rattle.admit_core.specs.declared.ranking.CallOrder.{CallOrder}
use Rattle.admit_core.specs.DossierRows.{DossierRows}
use Rattle.admit_core.specs.Lists.{is_among}
use Rattle.admit_core.specs.Proposals.{is_behind_bar, is_barred, is_open}
use Rattle.admit_core.specs.State.{State, holds_bed, is_school, is_waiting}
use Rattle.admit_core.specs.Validity.{IsValid}
use Rattle.day_state.specs.Kept.{has_bed_there, holds_bed_in, mark_in, wish_in}
use Rattle.proposals.proofs.Front.{among_more}
use Rattle.linked_demand.specs.declared.rows.RowWish.{RowWish}
use Rattle.linked_demand.specs.Boarders.{boards_in, items_wishes, AreByRank}
use Rattle.linked_demand.specs.Opens.{opens_of}
use Rattle.linked_demand.specs.Rows.{row_item, IsEnd}
use Rattle.linked_demand.proofs.Boarding.{all_by_rank, front_of_end}
use Rattle.linked_demand.proofs.RowsRight.{places_kept}
use Rattle.linked_demand.proofs.HousedRows.{filter_among}
use Rattle.linked_demand.proofs.Rounding.{opens_by_place}
use Rattle.day_state.proofs.Waits.{waits_read}

-- a school is one of the first so many
abbrev is_first : ℕ → Option ℕ → Bool
is_first n None = false
is_first n (Some h) = nat_lt h n

-- whether the wish at a place is open, where the bars of the first schools alone count
abbrev open_if : State → List ℕ → ℕ → ℕ → Bool
open_if s bars n k =
    is_waiting (mark_in s.marks k) && not (is_first n (wish_in s.dossier.wishes k).school
    && is_barred s bars (wish_in s.dossier.wishes k) (mark_in s.marks k))

-- those behind the bars of the first schools are closed
pub record AreShut (s : State) (bars : List ℕ) (n : ℕ) (flags : List Bool) : Type 0 where
  pub as_long : length flags ≡ length s.dossier.wishes
  pub each : (k : ℕ) → k < length s.dossier.wishes → get_or flags k false ≡ open_if s bars n k

none_first : (school : Option ℕ) → is_first 0 school ≡ false
none_first None = refl
none_first (Some h) = le-ltb h 0 (omega arith)

-- what is open then waits
pub shut_waits : (s : State) (bars : List ℕ) (n : ℕ) (flags : List Bool) → AreShut s bars n flags
    → (k : ℕ) → get_or flags k false ≡ true → is_waiting (mark_in s.marks k) ≡ true
shut_waits s bars n flags shut k opened =
    elim (cases_lt k (length flags)) [
      | inl lt ↦ (and_parts (is_waiting (mark_in s.marks k)) _
          (sym (shut.each k (omega (arith, lt, shut.as_long))) ∙ opened)).0
      | inr past ↦ absurd (false≢true (sym (get_or_past flags k false past) ∙ opened))
    ]

-- whether there is a bed is asked only where a wish is open
pub asked_open : (flag asked has : Bool) → (flag ≡ true → asked ≡ has)
    → (flag && not (not asked)) ≡ (flag && not (not has))
asked_open true asked has same = ap (λ b. not (not b)) (same refl)
asked_open false asked has same = refl

unasked : (a b c : Bool) → b ≡ false → a ≡ (a && not (b && c))
unasked true b c none = rw none refl
unasked false b c none = refl

-- none is closed yet
pub shut_none : (s : State) (bars : List ℕ) (flags : List Bool) → length s.marks ≡ length s.dossier.wishes
    → flags ≡ map is_waiting s.marks → AreShut s bars 0 flags
shut_none s bars flags long are = record {
  as_long = ap length are ∙ length-map s.marks is_waiting ∙ long;
  each = λ k lt.
      ap (λ (fs : List Bool). get_or fs k false) are
      ∙ waits_read s k (omega (arith, lt, long))
      ∙ unasked (is_waiting (mark_in s.marks k)) (is_first 0 (wish_in s.dossier.wishes k).school)
      (is_barred s bars (wish_in s.dossier.wishes k) (mark_in s.marks k))
      (none_first (wish_in s.dossier.wishes k).school);
}

shut_bits : (waits bed past : Bool) → ((waits && not (false && (waits && (not bed && past)))) && not (past && not bed))
    ≡ (waits && not (true && (waits && (not bed && past))))
shut_bits true true true = refl
shut_bits true true false = refl
shut_bits true false true = refl
shut_bits true false false = refl
shut_bits false bed past = refl

same_bits : (a b bed : Bool) → b ≡ false → (a && not (b && not bed)) ≡ a
same_bits true b bed none = rw none refl
same_bits false b bed none = refl

-- the bar of one more school counts
shut_one : (s : State) (bars : List ℕ) (n : ℕ) (w : Wish) (waits : Bool) (school : Option ℕ) (behind : Bool)
    → behind ≡ (is_school school n && nat_lt (get_or bars n 0) w.board_rank)
    → ((waits && not (is_first n school && (waits && is_behind_bar s bars w school)))
    && not (behind && not (holds_bed_in s w.candidate school)))
    ≡ (waits && not (is_first (n + 1) school && (waits && is_behind_bar s bars w school)))
shut_one s bars n w waits None behind is =
    same_bits (waits && not (false && (waits && false))) behind false is
shut_one s bars n w waits (Some h) behind is =
    let bed = holds_bed s w.candidate h in
    let past = nat_lt (get_or bars h 0) w.board_rank in
    let barred = waits && (not bed && past) in
    let own = get_or bars n 0 in
    elim (cases_lt h n) [
      | inl less ↦
          let other : nat_eq h n ≡ false = ne_eqb h n (λ e. omega (arith, e, less)) in
          let none : behind ≡ false = is ∙ ap (λ b. b && nat_lt own w.board_rank) other in
          same_bits (waits && not (nat_lt h n && barred)) behind bed none
          ∙ ap (λ b. waits && not (b && barred)) (lt-ltb h n less ∙ sym (lt-ltb h (n + 1) (omega (arith, less))))
      | inr above ↦ elim (cases_eq h n) [
        | inl here ↦
            let behind_is : behind ≡ past =
            is
            ∙ ap (λ b. b && nat_lt own w.board_rank) (eq-eqb h n here)
            ∙ ap (λ (j : ℕ). nat_lt (get_or bars j 0) w.board_rank) (sym here) in
            ap (λ b. (waits && not (b && barred)) && not (behind && not bed)) (le-ltb h n above)
            ∙ ap (λ b. (waits && not (false && barred)) && not (b && not bed)) behind_is
            ∙ shut_bits waits bed past
            ∙ ap (λ b. waits && not (b && barred)) (sym (lt-ltb h (n + 1) (omega (arith, here))))
        | inr differ ↦
            let none : behind ≡ false = is ∙ ap (λ b. b && nat_lt own w.board_rank) (ne_eqb h n differ) in
            same_bits (waits && not (nat_lt h n && barred)) behind bed none
            ∙ ap (λ b. waits && not (b && barred))
            (le-ltb h n above ∙ sym (le-ltb h (n + 1) (omega (arith, above, differ))))
      ]
    ]

-- who of the dossier stands behind the bar of a school
pub behind_is : (s : State) (orders : List CallOrder) (places : List ℕ) (h bar : ℕ) (own : List RowWish) (end : ℕ)
    → AreByRank s.dossier places → own ≡ map (row_item s orders) (filter (boards_in s.dossier h) places)
    → IsEnd bar own end → (k : ℕ) → k < length s.dossier.wishes
    → is_among k (items_wishes (drop end own))
    ≡ (is_school (wish_in s.dossier.wishes k).school h && nat_lt bar (wish_in s.dossier.wishes k).board_rank)
behind_is s orders places h bar own end by_rank own_is ends k lt =
    let f = row_item s orders in
    let high = λ (x : RowWish). not (nat_le x.rank bar) in
    let has = boards_in s.dossier h in
    let w = wish_in s.dossier.wishes k in
    ap (λ (xs : List RowWish). is_among k (items_wishes xs)) (front_of_end bar own end ends).1
    ∙ ap (λ (xs : List RowWish). is_among k (items_wishes (filter high xs))) own_is
    ∙ ap (is_among k) (places_kept f high (filter has places) (λ j. refl))
    ∙ filter_among (λ j. high (f j)) k (filter has places)
    ∙ ap (λ b. b && not (nat_le w.board_rank bar))
    (filter_among has k places ∙ ap (λ b. b && has k) (all_by_rank s.dossier places by_rank k lt)
    ∙ some_has w.school h)
    ∙ ap (λ b. is_school w.school h && b) (not_le w.board_rank bar)
  where
    some_has : (school : Option ℕ) (g : ℕ) → (is_some school && is_school school g) ≡ is_school school g
    some_has None g = refl
    some_has (Some j) g = refl

    not_le : (a b : ℕ) → not (nat_le a b) ≡ nat_lt b a
    not_le a b =
        elim (cases_lt b a) [
          | inl less ↦ ap not (lt-leb a b less) ∙ sym (lt-ltb b a less)
          | inr more ↦ ap not (le-leb a b (omega (arith, more))) ∙ sym (le-ltb b a (omega (arith, more)))
        ]

-- one more school is shut
pub shut_more : (s : State) (bars : List ℕ) (n : ℕ) (flags new : List Bool) (behind : List RowWish)
    → AreShut s bars n flags → length new ≡ length flags
    → ((k : ℕ) → k < length flags → get_or new k false
    ≡ (get_or flags k false && not (is_among k (items_wishes behind) && not (has_bed_there s k))))
    → ((k : ℕ) → k < length s.dossier.wishes → is_among k (items_wishes behind)
    ≡ (is_school (wish_in s.dossier.wishes k).school n
    && nat_lt (get_or bars n 0) (wish_in s.dossier.wishes k).board_rank))
    → AreShut s bars (n + 1) new
shut_more s bars n flags new behind shut long each behind_are = record {
  as_long = long ∙ shut.as_long;
  each = λ k lt.
      let w = wish_in s.dossier.wishes k in
      each k (omega (arith, lt, shut.as_long))
      ∙ ap (λ b. b && not (is_among k (items_wishes behind) && not (has_bed_there s k))) (shut.each k lt)
      ∙ shut_one s bars n w (is_waiting (mark_in s.marks k)) w.school (is_among k (items_wishes behind))
      (behind_are k lt);
}

-- one without a school has no bar
settled : (s : State) (bars : List ℕ) (n : ℕ) (w : Wish) (waits : Bool) (school : Option ℕ)
    → ((h : ℕ) → school ≡ Some h → h < n)
    → (waits && not (is_first n school && (waits && is_behind_bar s bars w school)))
    ≡ (waits && not (waits && is_behind_bar s bars w school))
settled s bars n w true None there = refl
settled s bars n w false None there = refl
settled s bars n w waits (Some h) there =
    ap (λ b. waits && not (b && (waits && is_behind_bar s bars w (Some h)))) (lt-ltb h n (there h refl))

-- all schools are shut
pub shut_all : (s : State) (bars : List ℕ) (n : ℕ) (flags : List Bool)
    → length s.marks ≡ length s.dossier.wishes → IsValid s.dossier → n ≡ length s.dossier.schools
    → AreShut s bars n flags → flags ≡ opens_of s bars
shut_all s bars n flags long valid n_is shut =
    let count = length s.dossier.wishes in
    let f = λ (k : ℕ). is_open s bars (wish_in s.dossier.wishes k) (mark_in s.marks k) in
    let are : flags ≡ map f (range_with_len 0 count) =
    ext_get_or false flags (map f (range_with_len 0 count))
    (shut.as_long ∙ sym (length-map-range_with_len f 0 count)) (λ k lt.
    let k_lt : k < count = omega (arith, lt, shut.as_long) in
    let w = wish_in s.dossier.wishes k in
    shut.each k k_lt
    ∙ settled s bars n w (is_waiting (mark_in s.marks k)) w.school
    (λ h is. omega (arith, n_is, school_at s.dossier valid k k_lt h is))
    ∙ sym (get_or-map-range_with_len f 0 count k k false k_lt (zero-add k))) in
    opens_by_place s bars count flags long are refl
  where
    school_at : (d : DossierRows) → IsValid d → (k : ℕ) → k < length d.wishes → (h : ℕ)
        → (wish_in d.wishes k).school ≡ Some h → h < length d.schools
    school_at d valid k lt h is =
        let none = wish_in [] 0 in
        let P = λ (w : Wish). w.school ≡ Some h → h < length d.schools in
        subst P (sym (unwrap_or-slice_get d.wishes k none)) (λ e. (valid.wishes k none lt).school h e) is

closed_bits : (was among bed : Bool)
    → ((was && not (among && not bed)) && not (not bed)) ≡ (was && not ((among || true) && not bed))
closed_bits true true true = refl
closed_bits true true false = refl
closed_bits true false true = refl
closed_bits true false false = refl
closed_bits false among bed = refl

-- one more of some wishes is closed, where its candidate has no bed
pub close_one : (s : State) (wishes : List ℕ) (i p : ℕ) (start flags new : List Bool) → i < length wishes
    → get_or wishes i 0 ≡ p → p < length start → length flags ≡ length start
    → ((k : ℕ) → k < length start → get_or flags k false
    ≡ (get_or start k false && not (is_among k (take i wishes) && not (has_bed_there s k))))
    → new ≡ set flags p (get_or flags p false && not (not (has_bed_there s p)))
    → (k : ℕ) → k < length start → get_or new k false
    ≡ (get_or start k false && not (is_among k (take (i + 1) wishes) && not (has_bed_there s k)))
close_one s wishes i p start flags new lt p_is within long each new_is k k_lt =
    let value = get_or flags p false && not (not (has_bed_there s p)) in
    let more : is_among k (take (i + 1) wishes) ≡ (is_among k (take i wishes) || nat_eq k p) =
    among_more k wishes i lt ∙ ap (λ (j : ℕ). is_among k (take i wishes) || nat_eq k j) p_is in
    let goal = λ (b : Bool). get_or start k false && not (b && not (has_bed_there s k)) in
    ap (λ (fs : List Bool). get_or fs k false) new_is
    ∙ elim (cases_Bool (nat_eq k p)) [
      | inl here ↦
          let same : k ≡ p = eqb-true k p here in
          ap (λ n. get_or (set flags p value) n false) same
          ∙ get_or-set_same flags p value false (omega (arith, within, long))
          ∙ ap (λ n. get_or flags n false && not (not (has_bed_there s n))) (sym same)
          ∙ ap (λ b. b && not (not (has_bed_there s k))) (each k k_lt)
          ∙ closed_bits (get_or start k false) (is_among k (take i wishes)) (has_bed_there s k)
          ∙ ap goal (sym (more ∙ ap (λ b. is_among k (take i wishes) || b) here))
      | inr other ↦
          get_or-set_other flags p k value false (eqb-false k p other)
          ∙ each k k_lt
          ∙ ap goal
          (sym (more ∙ ap (λ b. is_among k (take i wishes) || b) other ∙ or_false (is_among k (take i wishes))))
    ]
