-- A candidate's own open wishes.
use Rattle.std.proofs.Common.{ℕ, ◌<◌, ◌≡◌, false, ◌&&◌, List, length, get_or, inl, inr, refl, sym, ◌∙◌, ap, arith}
use Rattle.std.proofs.Common.{nat_eq, zero-add}
use Rattle.std.specs.Prelude.{◌==◌}
use Rattle.std.specs.List.{list_any, range_with_len}
use Rattle.std.proofs.lemmas.Bool.{cases_Bool, and_left, and_from, and_right, eqb-true, eq-eqb}
use Rattle.std.proofs.lemmas.List.Folds.{list_any_at}
use Rattle.std.proofs.lemmas.List.FromFn.{length-range_with_len, get_or-range_with_len}
use Rattle.admit_core.proofs.Plain.{any-map, any_same, any-filter, any_none, turn_and}
use Rattle.admit_core.specs.declared.dossier.Wish.{Wish}
use Rattle.admit_core.specs.declared.state.Mark.{Mark}
use Rattle.admit_core.specs.Lists.{is_among}
use Rattle.admit_core.specs.State.{State}
use Rattle.admit_core.specs.OwnWishes.{own_places}
use Rattle.admit_core.specs.DossierRows.{DossierRows, candidate_of}
use Rattle.admit_core.specs.Proposals.{is_open, is_open_in, has_open_wish}
use Rattle.day_state.specs.Kept.{wish_in, mark_in}
use Rattle.day_state.proofs.Places.{candidate_in, entry_in, entries_by_place}
use Rattle.day_state.proofs.Ordering.{none_found}
use Rattle.proposals.specs.Open.{is_open_at}

-- an open wish in a programme by place
in_turn : (s : State) (bars : List ℕ) (p c k : ℕ)
    → (((wish_in s.dossier.wishes k).candidate == c) && is_open_at s bars p k)
    ≡ is_open_in s bars p c (wish_in s.dossier.wishes k) (mark_in s.marks k)
in_turn s bars p c k =
    let w = wish_in s.dossier.wishes k in
    turn_and (w.candidate == c) (is_open s bars w (mark_in s.marks k)) (w.programme == p)

-- a look at a candidate's own wishes finds what a look at all finds
pub has_open_own : (s : State) (bars : List ℕ) (p c : ℕ) → length s.marks ≡ length s.dossier.wishes
    → list_any (is_open_at s bars p) (own_places s.dossier c) ≡ has_open_wish s bars p c
has_open_own s bars p c long =
    let d = s.dossier in
    let places = range_with_len 0 (length d.wishes) in
    let is_own = λ (k : ℕ). candidate_of d k == c in
    let opens = is_open_at s bars p in
    let test = λ (e : Wish × Mark). is_open_in s bars p c e.0 e.1 in
    any-filter opens is_own places
    ∙ any_same (λ k. is_own k && opens k) (λ k. test (entry_in s k))
    (λ k. rw (candidate_in d.wishes k) (in_turn s bars p c k)) places
    ∙ sym (any-map test (entry_in s) places)
    ∙ rw (entries_by_place s long) refl

-- where a candidate has no open wish in a programme, none of their places has one
pub no_open : (s : State) (bars : List ℕ) (p c : ℕ) → length s.marks ≡ length s.dossier.wishes
    → has_open_wish s bars p c ≡ false
    → (k : ℕ) → k < length s.dossier.wishes → (((wish_in s.dossier.wishes k).candidate == c) && is_open_at s bars p k)
    ≡ false
no_open s bars p c long none k lt =
    let places = range_with_len 0 (length s.dossier.wishes) in
    let test = λ (e : Wish × Mark). is_open_in s bars p c e.0 e.1 in
    let by_place : list_any (λ k. test (entry_in s k)) places ≡ false =
    sym (any-map test (entry_in s) places) ∙ sym (ap (list_any test) (entries_by_place s long)) ∙ none in
    let all = none_found (λ k. test (entry_in s k)) places by_place in
    let within : k < length places = omega (arith, length-range_with_len 0 (length s.dossier.wishes)) in
    let at : get_or places k 0 ≡ k = get_or-range_with_len 0 (length s.dossier.wishes) k 0 lt ∙ zero-add k in
    in_turn s bars p c k ∙ sym (ap (λ j. test (entry_in s j)) at) ∙ all k 0 within

-- a place is among a candidate's own where its wish is theirs
pub among_own : (d : DossierRows) (c k : ℕ) → k < length d.wishes
    → is_among k (own_places d c) ≡ ((wish_in d.wishes k).candidate == c)
among_own d c k lt =
    let places = range_with_len 0 (length d.wishes) in
    let is_own = λ (j : ℕ). candidate_of d j == c in
    let both = λ (j : ℕ). is_own j && nat_eq k j in
    any-filter (nat_eq k) is_own places
    ∙ (elim (cases_Bool (is_own k)) [
      | inl own ↦
          let at : get_or places k 0 ≡ k = get_or-range_with_len 0 (length d.wishes) k 0 lt ∙ zero-add k in
          list_any_at both places k 0 (omega (arith, length-range_with_len 0 (length d.wishes)))
          (ap both at ∙ and_from (is_own k) (nat_eq k k) own (eq-eqb k k refl))
          ∙ sym own
      | inr other ↦
          any_none both (λ j. elim (cases_Bool (nat_eq k j)) [
            | inl same ↦ and_left (is_own j) (nat_eq k j) (rw (eqb-true k j same) at other)
            | inr differ ↦ and_right (is_own j) (nat_eq k j) differ
          ]) places
          ∙ sym other
    ])
    ∙ ap (λ n. n == c) (candidate_in d.wishes k)
