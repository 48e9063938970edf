-- Wishes are looked at one after another: those that are marked, or those of a list.
use Rattle.std.proofs.Common.{ℕ, ◌+◌, ◌<◌, ◌≤◌, ◌≡◌, Bool, true, false, not, ◌&&◌, ◌||◌, List, [], length}
use Rattle.std.proofs.Common.{inl, inr, refl, sym, ◌∙◌, ap, drop, get_or, nat_eq, Option, None, replicate}
use Rattle.std.proofs.Math.ListN.{set}
use Rattle.std.proofs.lemmas.Bool.{cases_Bool, eqb-false, and_left, and_right}
use Rattle.std.proofs.lemmas.List.{at_drop_all, at_drop_more, get_or-set_other}
use Rattle.admit_core.specs.Lists.{is_among}
use Rattle.linked_demand.specs.declared.rows.RowWish.{RowWish}
use Rattle.linked_demand.specs.Rungs.{Rung}
use Rattle.linked_demand.specs.Demand.{is_proposed_at}
use Rattle.linked_demand.specs.Housed.{AllHoused}
use Rattle.linked_demand.specs.Links.{LinksRow}
use Rattle.linked_demand.specs.Rounds.{HousesMore, SchoolBeds}
use Rattle.linked_demand.proofs.BareRows.{no_flag}
use Rattle.linked_demand.proofs.HousedRows.{left_others}

-- other wishes are left in all schools
pub all_left : (l : LinksRow) (left other : ℕ → Bool) (rows : List (List RowWish)) (free : List ℕ)
    (overs : List (Option ℕ)) (housed : List (List Rung)) → ((k : ℕ) → other k ≡ false → left k ≡ false)
    → AllHoused l left rows free overs housed → AllHoused l other rows free overs housed
all_left l left other rows free overs housed each all = record {
  one_each = all.one_each;
  answer_each = all.answer_each;
  each = λ h row at.
      let are = all.each h row at in
      record {
        noted_are = left_others (is_proposed_at l) row (get_or overs h None) (get_or housed h []) left other
            are.noted_are (λ k x there pass none some. each x.wish none);
        few = are.few;
        demanded = are.demanded;
        full = are.full;
      };
}

-- some wishes were looked at, and the others are left
pub record IsWalked (l : LinksRow) (free : List ℕ) (left left_now : ℕ → Bool) (beds beds_now : SchoolBeds)
    : Type 0 where
  pub overs_long : length beds_now.overfilled ≡ length beds.overfilled
  pub housed_long : length beds_now.housed ≡ length beds.housed
  pub all : HousesMore l free left left_now beds beds_now

pub walk_start : (l : LinksRow) (free : List ℕ) (left : ℕ → Bool) (beds : SchoolBeds)
    → IsWalked l free left left beds beds
walk_start l free left beds = record {
  overs_long = refl;
  housed_long = refl;
  all = λ bars rows right all. all;
}

module _ (l : LinksRow) (free : List ℕ) (left left_now : ℕ → Bool) (beds beds_now : SchoolBeds)
    (so_far : IsWalked l free left left_now beds beds_now) where
  pub walk_step : (w : ℕ) (left_then : ℕ → Bool)
      → ((k : ℕ) → left_then k ≡ false → (left_now k && not (nat_eq k w)) ≡ false)
      → (beds_then : SchoolBeds) → length beds_then.overfilled ≡ length beds_now.overfilled
      → length beds_then.housed ≡ length beds_now.housed
      → ((others : ℕ → Bool) → HousesMore l free others (λ k. others k && not (nat_eq k w)) beds_now beds_then)
      → IsWalked l free left left_then beds beds_then
  walk_step w left_then gone beds_then overs_long housed_long more = record {
    overs_long = overs_long ∙ so_far.overs_long;
    housed_long = housed_long ∙ so_far.housed_long;
    all = λ bars rows right all.
        all_left l (λ k. left_now k && not (nat_eq k w)) left_then rows free beds_then.overfilled beds_then.housed
        gone (more left_now bars rows right (so_far.all bars rows right all));
  }

  pub walk_end : ((k : ℕ) → left_now k ≡ false) → HousesMore l free left (λ k. false) beds beds_now
  walk_end none bars rows right all =
      all_left l left_now (λ k. false) rows free beds_now.overfilled beds_now.housed (λ k unmarked. none k)
      (so_far.all bars rows right all)

-- the mark of a wish is taken away
pub taken_away : (marks now : List Bool) (w : ℕ) → get_or marks w false ≡ true → now ≡ set marks w false → (k : ℕ)
    → get_or now k false ≡ false → (get_or marks k false && not (nat_eq k w)) ≡ false
taken_away marks now w marked is k none =
    elim (cases_Bool (nat_eq k w)) [
      | inl here ↦ and_right (get_or marks k false) (not (nat_eq k w)) (ap not here)
      | inr other ↦ and_left (get_or marks k false) (not (nat_eq k w))
          (sym (get_or-set_other marks w k false false (eqb-false k w other))
          ∙ ap (λ (bs : List Bool). get_or bs k false) (sym is) ∙ none)
    ]

pub all_taken : (marks : List Bool) → marks ≡ replicate (length marks) false → (k : ℕ) → get_or marks k false ≡ false
all_taken marks none k = ap (λ (bs : List Bool). get_or bs k false) none ∙ no_flag (length marks) k

-- the first of a list of wishes is looked at
pub first_gone : (wishes : List ℕ) (i d : ℕ) → i < length wishes → (k : ℕ)
    → is_among k (drop (i + 1) wishes) ≡ false
    → (is_among k (drop i wishes) && not (nat_eq k (get_or wishes i d))) ≡ false
first_gone wishes i d lt k rest =
    let w = get_or wishes i d in
    elim (cases_Bool (nat_eq k w)) [
      | inl here ↦ and_right (is_among k (drop i wishes)) (not (nat_eq k w)) (ap not here)
      | inr other ↦ and_left (is_among k (drop i wishes)) (not (nat_eq k w))
          (at_drop_more (is_among k) wishes i d lt ∙ ap (λ b. b || is_among k (drop (i + 1) wishes)) other ∙ rest)
    ]

pub none_left : (wishes : List ℕ) (i : ℕ) → length wishes ≤ i → (k : ℕ) → is_among k (drop i wishes) ≡ false
none_left wishes i le k = at_drop_all (is_among k) wishes i le
