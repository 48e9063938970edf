-- What is kept along a row stays right: where its last place is added or taken away, and where a flag is set.
use Rattle.std.proofs.Common.{ℕ, zero, suc, ◌+◌, ◌-◌, ◌≤◌, ◌<◌, ◌≡◌, ◌≢◌, Bool, true, false, List, [], ◌∷◌, ◌++◌}
use Rattle.std.proofs.Common.{length, get_or, inl, inr, refl, sym, ◌∙◌, ap, arith, nat_lt, set, replicate, take}
use Rattle.std.proofs.Common.{append-nil}
use Rattle.std.specs.List.Sorted.{IsNonDecreasingBy, IsPartitionPoint}
use Rattle.std.proofs.lemmas.Bool.{cases_Bool, cases_eq, cases_lt, false≢true, ltb-true, ltb-false, lt-ltb}
use Rattle.std.proofs.lemmas.Bool.{false_from_ne_true}
use Rattle.std.proofs.lemmas.List.{get_or-set_other, get_or-set_same, get_or-take, get_or_read, length-replicate}
use Rattle.std.proofs.lemmas.List.{length-set}
use Rattle.std.proofs.lemmas.List.{set-get_or}
use Rattle.admit_core.specs.Lists.{is_among}
use Rattle.admit_core.proofs.Tests.{Ascends}
use Rattle.linked_demand.specs.declared.rows.RowWish.{RowWish}
use Rattle.linked_demand.specs.Housed.{last_rank, noted, ranks_of}
use Rattle.linked_demand.specs.Rungs.{Rung, housed_in, rank_in, rank_before, is_first, rungs_to, AreBeds, BedRow}
use Rattle.linked_demand.specs.Rungs.{GoesBare}
use Rattle.linked_demand.specs.Rungs.{IsFirstOf}
use Rattle.linked_demand.proofs.BareRows.{no_flag, none_housed}
use Rattle.linked_demand.proofs.Rungs.{last_most}
use Rattle.linked_demand.proofs.RungSteps.{few_housed}
use Rattle.linked_demand.proofs.RowRungs.{count_push, count_same, far, few_rungs, first_place, housed_more, item_there}
use Rattle.linked_demand.proofs.RowRungs.{last_is}
use Rattle.linked_demand.proofs.RowRungs.{noted_first, rank_read, ranks_rise, rung_at, rungs_rise_to}

abbrev pub beds : List RowWish → ℕ → List Bool → BedRow
beds row known flags = record { row = row; known = known; flags = flags }

-- at first everybody is known
pub beds_along : (row : List RowWish) (flags : List Bool) (known : ℕ)
    → IsNonDecreasingBy (λ (x : RowWish). x.rank) row → flags ≡ replicate (length row) false → known ≡ length row
    → AreBeds (beds row known flags) 0
beds_along row flags known rises is all =
    let none : (k : ℕ) → get_or flags k false ≡ false =
    λ k. ap (λ (fs : List Bool). get_or fs k false) is ∙ no_flag (length row) k in
    record {
      rises = rises;
      within = omega (arith, all);
      one_each = ap (λ (fs : List Bool). length fs) is ∙ length-replicate (length row) false;
      known = λ k t. absurd (false≢true (sym (none k) ∙ t));
      first = λ k t. absurd (false≢true (sym (none k) ∙ t));
      count_is = sym (ap (λ (fs : List Bool). length (housed_in (rungs_to row fs known))) is
          ∙ ap (λ (ns : List ℕ). length ns) (none_housed row (length row) known));
    }

module _ {row : List RowWish} {known count : ℕ} {flags : List Bool} (are : AreBeds (beds row known flags) count) where
  -- the known ranks rise
  pub ranks_up : Ascends (0 ∷ ranks_of (rungs_to row flags known))
  ranks_up = rungs_rise_to row are.rises flags known are.within

  pub most_known : (r : ℕ) → is_among r (ranks_of (rungs_to row flags known)) ≡ true
      → r ≤ last_rank (rungs_to row flags known)
  most_known r t = last_most (rungs_to row flags known) r ranks_up.1 t

  -- the last known rank
  pub last_none : known ≡ 0 → 0 ≡ last_rank (rungs_to row flags known)
  last_none none = ap (λ n. last_rank (rungs_to row flags n)) (sym none)

  pub last_there : (at : ℕ) → known ≡ at + 1 → (d : RowWish)
      → (get_or row at d).rank ≡ last_rank (rungs_to row flags known)
  last_there at is d =
      let next : known ≡ suc at = omega (arith, is) in
      rank_read row at d (omega (arith, are.within, is))
      ∙ sym (ap (λ n. last_rank (rungs_to row flags n)) next
      ∙ last_is row are.rises flags (suc at) (omega (arith, are.within, is)))

  pub most_there : (at : ℕ) → known ≡ at + 1 → (d : RowWish) → (r : ℕ)
      → is_among r (ranks_of (rungs_to row flags known)) ≡ true → r ≤ (get_or row at d).rank
  most_there at is d r t = omega (arith, last_there at is d, most_known r t)

  -- the last place is taken away
  module _ (at : ℕ) (is : known ≡ at + 1) where
    next : known ≡ suc at
    next = omega (arith, is)

    at_lt : at < length flags
    at_lt = omega (arith, is, are.within, are.one_each)

    -- the flag that is read there
    pub flag_read : (v : Bool) → v ≡ get_or flags at v → (b : Bool) → v ≡ b → get_or flags at false ≡ b
    flag_read v read b same = sym (get_or_read flags at v at_lt read false) ∙ same

    pub gone_bare : get_or flags at false ≡ false → GoesBare (rungs_to row flags known) (rungs_to row flags at)
    gone_bare bare =
        let xs = rungs_to row flags at in
        elim (cases_Bool (is_first row at)) [
          | inl first ↦
              let own : rungs_to row flags (suc at) ≡ xs ++ rung_at row flags at ∷ [] = rw first refl in
              record {
                rest = rung_at row flags at ∷ [];
                whole = ap (rungs_to row flags) next ∙ own;
                one = inr (
                  rank_in row at,
                  ap (λ b. let y : Rung = record { rank = rank_in row at; housed = b } in y ∷ []) bare,
                );
              }
          | inr later ↦
              let own : rungs_to row flags (suc at) ≡ xs = rw later refl in
              record {
                rest = [];
                whole = ap (rungs_to row flags) next ∙ own ∙ sym (append-nil xs);
                one = inl refl;
              }
        ]

    pub beds_bare : get_or flags at false ≡ false → AreBeds (beds row at flags) count
    beds_bare bare =
        let xs = rungs_to row flags at in
        let same : length (housed_in (rungs_to row flags (suc at))) ≡ length (housed_in xs) =
        elim (cases_Bool (is_first row at)) [
          | inl first ↦ rw first (count_same xs (rung_at row flags at) bare)
          | inr later ↦ rw later refl
        ] in
        record {
          rises = are.rises;
          within = omega (arith, are.within, is);
          one_each = are.one_each;
          known = λ k t. elim (cases_eq k at) [
            | inl here ↦ absurd (false≢true (sym bare ∙ ap (λ j. get_or flags j false) (sym here) ∙ t))
            | inr other ↦ omega (arith, are.known k t, is, other)
          ];
          first = are.first;
          count_is = are.count_is ∙ ap (λ n. length (housed_in (rungs_to row flags n))) next ∙ same;
        }

    module _ (has : get_or flags at false ≡ true) where
      pub gone_housed : rungs_to row flags known
          ≡ rungs_to row (set flags at false) at ++ record { rank = rank_in row at; housed = true } ∷ []
      gone_housed =
          let own : rungs_to row flags (suc at) ≡ rungs_to row flags at ++ rung_at row flags at ∷ [] =
          rw (are.first at has) refl in
          let housed = λ (b : Bool). let y : Rung = record { rank = rank_in row at; housed = b } in y in
          ap (rungs_to row flags) next ∙ own
          ∙ (λ i. (sym (far row flags at false at (omega arith))) i ++ (housed (has i) ∷ []))

      -- where its rank is read
      pub gone_read : (d : RowWish) → rungs_to row flags known
          ≡ rungs_to row (set flags at false) at ++ record { rank = (get_or row at d).rank; housed = true } ∷ []
      gone_read d =
          let read : rank_in row at ≡ (get_or row at d).rank =
          sym (rank_read row at d (omega (arith, is, are.within))) in
          let one = λ (r : ℕ). let y : Rung = record { rank = r; housed = true } in y in
          gone_housed ∙ ap (λ r. rungs_to row (set flags at false) at ++ (one r ∷ [])) read

      pub count_less : count ≡ length (housed_in (rungs_to row (set flags at false) at)) + 1
      count_less =
          are.count_is ∙ ap (λ (xs : List Rung). length (housed_in xs)) gone_housed
          ∙ count_push (rungs_to row (set flags at false) at) (record { rank = rank_in row at; housed = true }) refl

      still : (k : ℕ) → get_or (set flags at false) k false ≡ true → (k ≢ at) × (get_or flags k false ≡ true)
      still k t =
          elim (cases_eq k at) [
            | inl here ↦ absurd (false≢true (sym (ap (λ j. get_or (set flags at false) j false) here
                ∙ get_or-set_same flags at false false at_lt) ∙ t))
            | inr other ↦ (other, sym (get_or-set_other flags at k false false other) ∙ t)
          ]

      pub beds_housed : AreBeds (beds row at (set flags at false)) (count - 1)
      beds_housed = record {
        rises = are.rises;
        within = omega (arith, are.within, is);
        one_each = length-set flags at false ∙ are.one_each;
        known = λ k t. let (other, was) = still k t in omega (arith, are.known k was, is, other);
        first = λ k t. are.first k (still k t).1;
        count_is = omega (arith, count_less);
      }

  -- the first place of a rank has a flag, or gets one
  module _ (rank at : ℕ) (here : IsFirstOf (beds row known flags) rank at) where
    flag_lt : at < length flags
    flag_lt = omega (arith, here.within, are.within, are.one_each)

    pub note_lt : at < length flags
    note_lt = flag_lt

    pub note_read : (v : Bool) → v ≡ get_or flags at v → (b : Bool) → v ≡ b → get_or flags at false ≡ b
    note_read v read b same = sym (get_or_read flags at v flag_lt read false) ∙ same

    pub note_set : rungs_to row (set flags at true) known ≡ noted rank (rungs_to row flags known)
    note_set =
        noted_first row are.rises flags at known here.within are.within flag_lt here.first
        ∙ ap (λ r. noted r (rungs_to row flags known)) here.rank_is

    pub note_twice : get_or flags at false ≡ true → rungs_to row flags known ≡ noted rank (rungs_to row flags known)
    note_twice has =
        let same : set flags at true ≡ flags =
        ap (set flags at) (sym has) ∙ set-get_or flags at false in
        ap (λ (fs : List Bool). rungs_to row fs known) (sym same) ∙ note_set

    module _ (bare : get_or flags at false ≡ false) where
      count_more : length (housed_in (rungs_to row (set flags at true) known)) ≡ count + 1
      count_more =
          let more = housed_more row are.rises flags at known here.within flag_lt here.first bare in
          omega (arith, more, are.count_is)

      pub count_fits : count + 1 ≤ length row
      count_fits =
          omega (
            arith,
            count_more,
            few_housed (rungs_to row (set flags at true) known),
            few_rungs row (set flags at true) known,
            are.within,
          )

      was_set : (k : ℕ) → get_or (set flags at true) k false ≡ true → (k ≢ at) → get_or flags k false ≡ true
      was_set k t other = sym (get_or-set_other flags at k true false other) ∙ t

      pub beds_set : AreBeds (beds row known (set flags at true)) (count + 1)
      beds_set = record {
        rises = are.rises;
        within = are.within;
        one_each = length-set flags at true ∙ are.one_each;
        known = λ k t. elim (cases_eq k at) [
          | inl own ↦ omega (arith, own, here.within)
          | inr other ↦ are.known k (was_set k t other)
        ];
        first = λ k t. elim (cases_eq k at) [
          | inl own ↦ ap (is_first row) own ∙ here.first
          | inr other ↦ are.first k (was_set k t other)
        ];
        count_is = sym count_more;
      }

take_long : (n : ℕ) (xs : List RowWish) → n ≤ length xs → length (take n xs) ≡ n
take_long zero xs le = refl
take_long (suc n) [] le = absurd (omega (arith, le))
take_long (suc n) (x ∷ xs) le = ap suc (take_long n xs (omega (arith, le)))

-- where the first known place is that is not below a rank
module _ {row : List RowWish} {known count : ℕ} {flags : List Bool} (are : AreBeds (beds row known flags) count)
    (rank at : ℕ) (within : at ≤ length (take known row))
    (point : IsPartitionPoint (λ (x : RowWish). nat_lt x.rank rank ≡ true)
    (λ (x : RowWish). nat_lt x.rank rank ≡ false) (take known row) at) where
  long : length (take known row) ≡ known
  long = take_long known row are.within

  read : (k : ℕ) (d : RowWish) → k < known → (get_or (take known row) k d).rank ≡ rank_in row k
  read k d lt =
      ap (λ (x : RowWish). x.rank) (get_or-take known row k d lt)
      ∙ rank_read row k d (omega (arith, lt, are.within))

  below : (k : ℕ) → k < at → rank_in row k < rank
  below k lt =
      let known_lt : k < known = omega (arith, lt, within, long) in
      let (d, _) = item_there row k (omega (arith, known_lt, are.within)) in
      let low = ltb-true (get_or (take known row) k d).rank rank (point.0 k d (omega arith) lt) in
      omega (arith, low, read k d known_lt)

  above : (k : ℕ) → at ≤ k → k < known → rank ≤ rank_in row k
  above k le lt =
      let (d, _) = item_there row k (omega (arith, lt, are.within)) in
      let high = ltb-false (get_or (take known row) k d).rank rank (point.1 k d le (omega (arith, lt, long))) in
      omega (arith, high, read k d lt)

  unknown : (at < known → rank_in row at ≢ rank) → is_among rank (ranks_of (rungs_to row flags known)) ≡ false
  unknown other =
      false_from_ne_true (is_among rank (ranks_of (rungs_to row flags known))) (λ t.
      let (k, lt, first, same) = first_place row flags known rank t in
      elim (cases_lt k at) [
        | inl before ↦ omega (arith, below k before, same)
        | inr behind ↦
            let at_lt : at < known = omega (arith, behind, lt) in
            let low = ranks_rise row are.rises at k behind (omega (arith, lt, are.within)) in
            let high = above at (omega arith) at_lt in
            other at_lt (omega (arith, low, high, same))
      ])

  -- 0 is no rank
  pub zero_unknown : rank ≡ 0 → is_among rank (ranks_of (rungs_to row flags known)) ≡ false
  zero_unknown none =
      false_from_ne_true (is_among rank (ranks_of (rungs_to row flags known))) (λ t.
      let (k, lt, first, same) = first_place row flags known rank t in
      let up = ltb-true (rank_before row k) (rank_in row k) first in
      omega (arith, up, same, none))

  -- the rank is not known, where there is none
  pub end_unknown : at ≡ known → is_among rank (ranks_of (rungs_to row flags known)) ≡ false
  end_unknown is = unknown (λ lt e. omega (arith, lt, is))

  -- nor where another stands there
  pub other_unknown : (d : RowWish) → (at ≡ known → ⊥) → ((get_or row at d).rank ≡ rank → ⊥)
      → is_among rank (ranks_of (rungs_to row flags known)) ≡ false
  other_unknown d here other =
      unknown (λ lt e. other (rank_read row at d (omega (arith, lt, are.within)) ∙ e))

  -- or its first place is there
  pub is_known : (d : RowWish) → (rank ≡ 0 → ⊥) → (at ≡ known → ⊥) → (get_or row at d).rank ≡ rank
      → IsFirstOf (beds row known flags) rank at
  is_known d some here same =
      let lt : at < known = omega (arith, within, long, here) in
      let own : rank_in row at ≡ rank = sym (rank_read row at d (omega (arith, lt, are.within))) ∙ same in
      record {
        within = lt;
        first = is_up at own below (omega (arith, some));
        rank_is = own;
      }
    where
      is_up : (j : ℕ) → rank_in row j ≡ rank → ((k : ℕ) → k < j → rank_in row k < rank) → 0 < rank
          → is_first row j ≡ true
      is_up zero same below some = lt-ltb 0 (rank_in row 0) (omega (arith, same, some))
      is_up (suc j) same below some =
          lt-ltb (rank_in row j) (rank_in row (suc j)) (omega (arith, same, below j (omega arith)))
