-- How the reach of a line changes with one place.
use Rattle.std.proofs.Common.{ℕ, ◌+◌, ◌≤◌, ◌<◌, ◌≡◌, Bool, true, false, not, ◌&&◌, ◌-◌, List, [], ◌∷◌, length, refl}
use Rattle.std.proofs.Common.{sym, ◌∙◌, ap, arith, nat_lt, zero, suc, get_or, take, drop, inl, inr, Option, drop-cons}
use Rattle.std.proofs.Common.{add-one}
use Rattle.std.proofs.Math.ListN.{set}
use Rattle.std.proofs.lemmas.Bool.{cases_Bool, cases_lt, false≢true, ltb-true, ltb-false, lt-ltb, le-ltb, ne_eqb}
use Rattle.std.proofs.lemmas.Bool.{eq-eqb}
use Rattle.std.proofs.lemmas.List.{length-set}
use Rattle.std.proofs.lemmas.List.Sums.{length-filter}
use Rattle.admit_core.proofs.Plain.{and_false, and_not}
use Rattle.linked_demand.specs.Line.{LineRow, set_count, is_reached, reach, next, is_answer, last_new}

-- what stands behind a place is the same after a change at it
drop_cleared : (flags : List Bool) (k n : ℕ) → k < n → drop n (set flags k false) ≡ drop n flags
drop_cleared flags k zero h = absurd (omega arith)
drop_cleared [] k (suc n) h = refl
drop_cleared (b ∷ flags) zero (suc n) h = refl
drop_cleared (b ∷ flags) (suc k) (suc n) h = drop_cleared flags k n (omega arith)

-- one more in the quota reaches to the next that is set
pub reach_more : (quota : ℕ) (flags : List Bool)
    → reach (suc quota) flags ≡ reach quota flags + next (drop (reach quota flags) flags)
reach_more zero [] = refl
reach_more zero (true ∷ flags) = refl
reach_more zero (false ∷ flags) = omega (arith, reach_more zero flags)
reach_more (suc quota) [] = refl
reach_more (suc quota) (true ∷ flags) = omega (arith, reach_more quota flags)
reach_more (suc quota) (false ∷ flags) = omega (arith, reach_more (suc quota) flags)

-- where a reached place is cleared, the line reaches to the next that is set
pub reach_cleared : (quota : ℕ) (flags : List Bool) (k : ℕ) → get_or flags k false ≡ true → k < reach quota flags
    → reach quota (set flags k false) ≡ reach quota flags + next (drop (reach quota flags) flags)
reach_cleared zero flags k t h = absurd (omega arith)
reach_cleared (suc quota) [] k t h = absurd (omega arith)
reach_cleared (suc quota) (true ∷ flags) zero t h = omega (arith, reach_more quota flags)
reach_cleared (suc quota) (true ∷ flags) (suc k) t h = omega (arith, reach_cleared quota flags k t (omega arith))
reach_cleared (suc quota) (false ∷ flags) zero t h = cc
reach_cleared (suc quota) (false ∷ flags) (suc k) t h = omega (arith, reach_cleared (suc quota) flags k t (omega arith))

-- what changes at a place that is not reached changes no reach
pub reach_behind : (quota : ℕ) (flags : List Bool) (k : ℕ) (b : Bool) → reach quota flags ≤ k
    → reach quota (set flags k b) ≡ reach quota flags
reach_behind zero flags k b h = refl
reach_behind (suc quota) [] k b h = refl
reach_behind (suc quota) (true ∷ flags) zero b h = absurd (omega arith)
reach_behind (suc quota) (true ∷ flags) (suc k) b h = omega (arith, reach_behind quota flags k b (omega arith))
reach_behind (suc quota) (false ∷ flags) zero b h = absurd (omega arith)
reach_behind (suc quota) (false ∷ flags) (suc k) b h = omega (arith, reach_behind (suc quota) flags k b (omega arith))

pub reach_within : (quota : ℕ) (flags : List Bool) → reach quota flags ≤ length flags
reach_within zero flags = omega arith
reach_within (suc quota) [] = omega arith
reach_within (suc quota) (true ∷ flags) = omega (arith, reach_within quota flags)
reach_within (suc quota) (false ∷ flags) = omega (arith, reach_within (suc quota) flags)

pub count_true : (flags : List Bool) → set_count (true ∷ flags) ≡ 1 + set_count flags
count_true flags = omega (arith, length-filter (λ (b : Bool). b) (true ∷ flags), length-filter (λ (b : Bool). b) flags)

pub count_false : (flags : List Bool) → set_count (false ∷ flags) ≡ 0 + set_count flags
count_false flags = omega (
  arith,
  length-filter (λ (b : Bool). b) (false ∷ flags),
  length-filter
      (λ (b : Bool). b) flags,
)

few_before : (quota : ℕ) (flags : List Bool) (k : ℕ) → k < reach quota flags → set_count (take k flags) < quota
few_before zero flags k h = absurd (omega arith)
few_before (suc quota) [] k h = absurd (omega arith)
few_before (suc quota) (true ∷ flags) zero h = omega arith
few_before (suc quota) (true ∷ flags) (suc k) h =
    omega (arith, count_true (take k flags), few_before quota flags k (omega arith))
few_before (suc quota) (false ∷ flags) zero h = omega arith
few_before (suc quota) (false ∷ flags) (suc k) h = omega
    (arith, count_false (take k flags), few_before (suc quota) flags k (omega arith))

many_before : (quota : ℕ) (flags : List Bool) (k : ℕ) → k < length flags → reach quota flags ≤ k
    → quota ≤ set_count (take k flags)
many_before zero flags k within h = omega arith
many_before (suc quota) [] k within h = absurd (omega arith)
many_before (suc quota) (true ∷ flags) zero within h = absurd (omega arith)
many_before (suc quota) (true ∷ flags) (suc k) within h = omega
    (arith, count_true (take k flags), many_before quota flags k (omega arith) (omega arith))
many_before (suc quota) (false ∷ flags) zero within h = absurd (omega arith)
many_before (suc quota) (false ∷ flags) (suc k) within h = omega
    (arith, count_false (take k flags), many_before (suc quota) flags k (omega arith) (omega arith))

-- a place is reached exactly where fewer than the quota are set before it
pub reached_by_count : (quota : ℕ) (flags : List Bool) (k : ℕ) → k < length flags
    → nat_lt k (reach quota flags) ≡ nat_lt (set_count (take k flags)) quota
reached_by_count quota flags k within =
    elim (cases_Bool (nat_lt k (reach quota flags))) [
      | inl reached ↦
          reached ∙ sym (lt-ltb (set_count (take k flags)) quota
          (few_before quota flags k (ltb-true k (reach quota flags) reached)))
      | inr behind ↦
          behind ∙ sym (le-ltb (set_count (take k flags)) quota
          (many_before quota flags k within (ltb-false k (reach quota flags) behind)))
    ]

-- the same, for the fields of a line
is_reached_by : (row : LineRow) (quota : ℕ) (flags : List Bool) (reached k : ℕ)
    → record { flags = flags; quota = quota } ≡ row
    → reached ≡ reach quota flags → k < length row.flags → nat_lt k reached ≡ is_reached row k
is_reached_by row quota flags reached k same by within =
    rw (← same, by) (reached_by_count quota flags k (rw (← same) at within))

-- where the place that is cleared is set and reached, clearing it moves the reach to the next one set behind
pub reach_moved : (quota : ℕ) (flags : List Bool) (k reached : ℕ) → reached ≡ reach quota flags
    → get_or flags k false ≡ true → k < reached
    → reached + next (drop reached (set flags k false)) ≡ reach quota (set flags k false)
reach_moved quota flags k reached by t h =
    rw (by, drop_cleared flags k (reach quota flags) (rw by at h)) (sym (reach_cleared quota flags k t (rw by at h)))

next_flag : (flags : List Bool) (d : ℕ) → d < next flags → get_or flags d false ≡ true → suc d ≡ next flags
next_flag [] d lt t = absurd (omega arith)
next_flag (true ∷ flags) zero lt t = refl
next_flag (true ∷ flags) (suc d) lt t = absurd (omega arith)
next_flag (false ∷ flags) zero lt t = absurd (false≢true t)
next_flag (false ∷ flags) (suc d) lt t = omega (arith, next_flag flags d (omega arith) t)

drop_flag : (flags : List Bool) (n d : ℕ) → get_or (drop n flags) d false ≡ get_or flags (n + d) false
drop_flag flags zero d = ap (λ k. get_or flags k false) (let e : d ≡ 0 + d = omega arith in e)
drop_flag [] (suc n) d = refl
drop_flag (b ∷ flags) (suc n) d = drop_flag flags n d
    ∙ ap (λ k. get_or (b ∷ flags) k false) (let e : suc (n + d) ≡ suc n + d = omega arith in e)

answer_other : (flags : List Bool) (before reached j : ℕ) → (before < reached → reached - 1 ≡ j → ⊥)
    → is_answer (last_new flags before reached) j ≡ false
answer_other flags before reached j h =
    elim (cases_lt before reached) [
      | inl lt ↦ rw (lt-ltb before reached lt) (elim (cases_Bool (get_or flags (reached - 1) false)) [
        | inl set ↦ rw (set, ne_eqb (reached - 1) j (h lt)) refl
        | inr unset ↦ rw unset refl
      ])
      | inr le ↦ rw (le-ltb before reached le) refl
    ]

-- of the set places the last one alone is reached anew
fresh_one : (flags : List Bool) (before reached j : ℕ) → reached ≡ before + next (drop before flags)
    → get_or flags j false ≡ true
    → (nat_lt j reached && not (nat_lt j before)) ≡ is_answer (last_new flags before reached) j
fresh_one flags before reached j is t =
    elim (cases_lt j before) [
      | inl old ↦ rw (lt-ltb j before old, and_false (nat_lt j reached))
          (sym (answer_other flags before reached j (λ lt e. omega (arith, lt, e, old))))
      | inr far ↦ elim (cases_lt j reached) [
        | inl here ↦
            let at : get_or (drop before flags) (j - before) false ≡ true = drop_flag flags before
            (j - before) ∙ ap (λ k. get_or flags k false) (let e : before + (j - before) ≡ j = omega (arith, far) in e)
            ∙ t in
            let last : suc (j - before) ≡ next (drop before flags) = next_flag (drop before flags)
            (j - before) (omega (arith, far, here, is)) at in
            let place : reached - 1 ≡ j = omega (arith, far, here, is, last) in
            rw (
              lt-ltb j reached here,
              le-ltb j before far,
              lt-ltb before reached
                  (omega (arith, far, here)),
              place,
              t,
              eq-eqb j j refl,
            ) refl
        | inr behind ↦ rw (le-ltb j reached behind)
            (sym (answer_other flags before reached j (λ lt e. omega (arith, lt, e, behind))))
      ]
    ]

module _ (row : LineRow) (quota : ℕ) (flags : List Bool) (k reached : ℕ)
    (same : record { flags = flags; quota = quota } ≡ row) (by : reached ≡ reach quota flags) where
  old_reached : (j : ℕ) → j < length row.flags → is_reached row j ≡ nat_lt j reached
  old_reached j within = sym (is_reached_by row quota flags reached j same by within)

  new_reached : (j now : ℕ) → j < length row.flags → now ≡ reach quota (set flags k false)
      → is_reached (record { flags = set flags k false; quota = quota }) j ≡ nat_lt j now
  new_reached j now within now_by =
      rw now_by (sym (reached_by_count quota (set flags k false) j
      (omega (arith, within, length-set flags k false, ap (λ (r : LineRow). length r.flags) same))))

  -- no place is reached anew where the reach stays
  pub fresh_none : reached ≡ reach quota (set flags k false) → (j : ℕ) → j < length row.flags
      → (is_reached (record { flags = set flags k false; quota = quota }) j && not (is_reached row j)) ≡ false
  fresh_none stays j within = rw (old_reached j within, new_reached j reached within stays) (and_not (nat_lt j reached))

  -- one place at most is reached anew, and set
  pub fresh_some : (now : ℕ) → now ≡ reached + next (drop reached (set flags k false))
      → now ≡ reach quota (set flags k false) → (after : List Bool) → after ≡ set flags k false
      → (answer : Option ℕ) → answer ≡ last_new after reached now → (j : ℕ) → j < length row.flags
      → get_or (set flags k false) j false ≡ true
      → (is_reached (record { flags = set flags k false; quota = quota }) j && not (is_reached row j))
      ≡ is_answer answer j
  fresh_some now step now_by after after_is answer answer_is j within t =
      rw (answer_is, after_is, old_reached j within, new_reached j now within now_by)
      (fresh_one (set flags k false) reached now j step t)

pub reach_past : (left : ℕ) (flags : List Bool) (n : ℕ) → length flags ≤ n → reach left (drop n flags) ≡ 0
reach_past zero [] zero le = refl
reach_past (suc left) [] zero le = refl
reach_past zero [] (suc n) le = refl
reach_past (suc left) [] (suc n) le = refl
reach_past left (b ∷ flags) zero le = absurd (omega arith)
reach_past left (b ∷ flags) (suc n) le = reach_past left flags n (omega arith)

walk_set : (left next : ℕ) (flags : List Bool) → left ≡ next + 1 → reach left (true ∷ flags) ≡ reach next flags + 1
walk_set left next flags is =
    let same : left ≡ suc next = omega (arith, is) in
    let one : suc (reach next flags) ≡ reach next flags + 1 = omega arith in
    ap (λ n. reach n (true ∷ flags)) same ∙ one

walk_unset : (left : ℕ) (flags : List Bool) → 0 < left → reach left (false ∷ flags) ≡ reach left flags + 1
walk_unset zero flags some = absurd (omega arith)
walk_unset (suc left) flags some = omega arith

split_at : (flags : List Bool) (i : ℕ) (b : Bool) → i < length flags → get_or flags i false ≡ b
    → drop i flags ≡ b ∷ drop (i + 1) flags
split_at flags i b lt at = rw (add-one, drop-cons flags i false lt) (ap (λ (x : Bool). x ∷ drop (suc i) flags) at)

pub walked_set : (quota : ℕ) (flags : List Bool) (i left next : ℕ) → i < length flags
    → get_or flags i false ≡ true → left ≡ next + 1
    → reach quota flags ≡ i + reach left (drop i flags) → reach quota flags ≡ (i + 1) + reach next (drop (i + 1) flags)
walked_set quota flags i left next lt at is so_far =
    omega (arith, so_far, ap (reach left) (split_at flags i true lt at), walk_set left next (drop (i + 1) flags) is)

pub walked_unset : (quota : ℕ) (flags : List Bool) (i left : ℕ) → i < length flags → get_or flags i false ≡ false
    → 0 < left
    → reach quota flags ≡ i + reach left (drop i flags) → reach quota flags ≡ (i + 1) + reach left (drop (i + 1) flags)
walked_unset quota flags i left lt at some so_far =
    omega (arith, so_far, ap (reach left) (split_at flags i false lt at), walk_unset left (drop (i + 1) flags) some)

-- the next that is set, from a place that is set, and from one that is not
pub next_found : (flags : List Bool) (i : ℕ) → i < length flags → get_or flags i false ≡ true
    → i + next (drop i flags) ≡ i + 1
next_found flags i lt at = omega (arith, ap next (split_at flags i true lt at))

pub next_passed : (flags : List Bool) (i : ℕ) → i < length flags → get_or flags i false ≡ false
    → (i + 1) + next (drop (i + 1) flags) ≡ i + next (drop i flags)
next_passed flags i lt at = omega (arith, ap next (split_at flags i false lt at))
