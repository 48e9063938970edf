-- What is counted and marked while the end of a row falls.
use Rattle.std.proofs.Common.{ℕ, ◌+◌, ◌≤◌, ◌<◌, ◌≡◌, Bool, true, false, List, [], ◌∷◌, length, inl, inr, refl, sym, ◌∙◌}
use Rattle.std.proofs.Common.{ap, arith, suc, get_or, Some, count_by, drop, subst}
use Rattle.std.specs.Prelude.{slice_get}
use Rattle.std.specs.List.{enumerate_from}
use Rattle.std.proofs.Math.ListN.{set}
use Rattle.std.proofs.lemmas.Bool.{cases_Bool, cases_eq, cases_lt, false≢true}
use Rattle.std.proofs.lemmas.List.{get_or-set_other, get_or-set_same, get_or_past, length-set}
use Rattle.admit_core.specs.declared.dossier.Wish.{Wish}
use Rattle.admit_core.specs.declared.state.Mark.{Mark}
use Rattle.admit_core.specs.State.{State, entries}
use Rattle.admit_core.specs.Proposals.{is_open}
use Rattle.linked_demand.specs.declared.rows.RowWish.{RowWish}
use Rattle.linked_demand.specs.Links.{LinksRow}
use Rattle.linked_demand.specs.Rows.{closed, StayOpen}
use Rattle.linked_demand.specs.Marks.{is_new, MarksWishes}
use Rattle.linked_demand.proofs.Cutting.{SoFar}
use Rattle.linked_demand.proofs.Falling.{is_wish_of, flag_closed, found_behind}
use Rattle.linked_demand.proofs.Staying.{AreFewer, with_opens, places, new_adds, marks_add}

set_fewer : (opens : List Bool) (i : ℕ) → AreFewer (set opens i false) opens
set_fewer opens i = record {
  as_long = length-set opens i false;
  each = λ j t. elim (cases_eq j i) [
    | inl here ↦ elim (cases_lt i (length opens)) [
      | inl within ↦
          let unset : get_or (set opens i false) j false ≡ false =
          rw here (get_or-set_same opens i false false within) in
          absurd (false≢true (sym unset ∙ t))
      | inr past ↦
          let unset : get_or (set opens i false) j false ≡ false = get_or_past (set opens i false) j false
          (omega (arith, here, past, length-set opens i false)) in
          absurd (false≢true (sym unset ∙ t))
    ]
    | inr other ↦ sym (get_or-set_other opens i j false false other) ∙ t
  ];
}

closed_fewer : (xs : List RowWish) (opens : List Bool) → AreFewer (closed xs opens) opens
closed_fewer [] opens = record { as_long = refl; each = λ i t. t }
closed_fewer (x ∷ xs) opens =
    let first = set_fewer (closed xs opens) x.wish in
    let rest = closed_fewer xs opens in
    record { as_long = first.as_long ∙ rest.as_long; each = λ i t. rest.each i (first.each i t) }

-- the flag of a wish that stays open is set all the while
open_all_along : (start : LinksRow) (bars : List ℕ) (to : ℕ) (row : List RowWish) → StayOpen start bars to row
    → (end : ℕ)
    → ((k : ℕ) (x : RowWish) → end ≤ k → slice_get row k ≡ Some x → to < x.rank)
    → (j : ℕ) (e : Wish × Mark) → slice_get (entries start.state) j ≡ Some e
    → is_open start.state bars e.0 e.1 ≡ true → get_or (closed (drop end row) start.opens) j false ≡ true
open_all_along start bars to row stay end past j e at opens =
    let flag : get_or start.opens j false ≡ true = stay.flagged j e at opens in
    elim (cases_lt j (length start.opens)) [
      | inl within ↦ elim (cases_Bool (is_wish_of j (drop end row))) [
        | inl dropped ↦
            let (k, x, le, found, same) = found_behind row end j dropped in
            let P = λ (n : ℕ). slice_get (entries start.state) n ≡ Some e in
            absurd (false≢true (sym (stay.past k x e found (past k x le found) (subst P same at)) ∙ opens))
        | inr kept ↦ flag_closed (drop end row) start.opens j within ∙ rw (flag, kept) refl
      ]
      | inr outside ↦ absurd (false≢true (sym (get_or_past start.opens j false outside) ∙ flag))
    ]

module _ (start : LinksRow) (bars : List ℕ) (to : ℕ) (row : List RowWish)
    (stay : StayOpen start bars to row) (now new : LinksRow) (end n y : ℕ)
    (far : SoFar to row start now end) (further : SoFar to row start new n)
    (new_is : new ≡ record now { opens = set now.opens y false }) where
  abbrev opens : List Bool
  opens = closed (drop end row) start.opens

  new_opens : new ≡ with_opens start bars (set opens y false)
  new_opens =
      let P = λ (r : LinksRow). new ≡ record r { opens = set r.opens y false } in
      subst P far.now_is new_is

  same_opens : set opens y false ≡ closed (drop n row) start.opens
  same_opens = ap (λ (r : LinksRow). r.opens) (sym new_opens ∙ further.now_is)

  -- the counts add up
  pub steps_told : (first before tick after : ℕ) → end ≡ suc n
      → before + end ≡ first + length row + count_by (is_new start.state bars start now)
      (enumerate_from 0 (entries start.state)) → tick ≡ before + 1
      → after ≡ tick + count_by (is_new now.state bars now new) (enumerate_from 0 (entries now.state))
      → after + n ≡ first + length row + count_by (is_new start.state bars start new)
      (enumerate_from 0 (entries start.state))
  steps_told first before tick after is so_far ticked more =
      let P = λ (r : LinksRow). after ≡ tick + count_by (is_new r.state bars r new)
      (enumerate_from 0 (entries r.state)) in
      let Q = λ (r : LinksRow). after ≡ tick + count_by
      (is_new start.state bars (with_opens start bars opens) r) (places start bars) in
      let R = λ (r : LinksRow). before + end ≡ first + length row + count_by
      (is_new start.state bars start r) (places start bars) in
      let S = λ (r : LinksRow). after + n ≡ first + length row + count_by (is_new start.state bars start r)
      (places start bars) in
      let step = subst Q new_opens (subst P far.now_is more) in
      let done = subst R far.now_is so_far in
      let adds =
      new_adds start bars opens (set opens y false) (closed_fewer (drop end row) start.opens) (set_fewer opens y)
      (λ j e at o. ap (λ (os : List Bool). get_or os j false) same_opens
      ∙ open_all_along start bars to row stay n further.past j e at o) in
      subst S (sym new_opens) (omega (arith, step, done, adds, ticked, is))

  -- and the marks
  pub marks_told : (marked then after : List Bool)
      → MarksWishes start.state (is_new start.state bars start now) marked then
      → MarksWishes now.state (is_new now.state bars now new) then after
      → MarksWishes start.state (is_new start.state bars start new) marked after
  marks_told marked then after so_far more =
      let P = λ (t : State). MarksWishes t (is_new t bars now new) then after in
      marks_add start bars now new marked then after so_far (subst P (ap (λ (r : LinksRow). r.state) far.now_is) more)
