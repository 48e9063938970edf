-- The offers of a pass, made one after another, are the offers of the rule.
use Rattle.std.proofs.Common.{ℕ, ◌+◌, ◌<◌, ◌≡◌, Bool, true, false, cond, List, [], ◌∷◌, map, length, get_or, refl, sym}
use Rattle.std.proofs.Common.{◌∙◌, ap, arith, nat_eq, filter, zero, suc}
use Rattle.std.specs.Prelude.{All, slice_index_or, if◌then◌else◌}
use Rattle.std.specs.List.{enumerate_from}
use Rattle.std.proofs.lemmas.Bool.{or_from, ne_eqb, eq-eqb}
use Rattle.std.proofs.lemmas.Option.{unwrap_or-slice_get}
use Rattle.std.proofs.lemmas.List.Elements.{All-map, All-filter}
use Rattle.std.proofs.lemmas.List.FromFn.{get_or-enumerate_from, length-enumerate_from}
use Rattle.std.proofs.lemmas.Slice.Zip.{length-zip, get_or-zip}
use Rattle.admit_core.specs.declared.dossier.Wish.{Wish}
use Rattle.admit_core.specs.declared.state.Mark.{Mark}
use Rattle.admit_core.specs.declared.state.Stamp.{Stamp}
use Rattle.admit_core.specs.declared.state.Status.TheVariants.{Offered}
use Rattle.admit_core.specs.declared.ranking.CallOrder.{CallOrder}
use Rattle.admit_core.specs.DossierRows.{DossierRows}
use Rattle.admit_core.specs.Lists.{is_among}
use Rattle.admit_core.specs.State.{State, entries, changed_to}
use Rattle.admit_core.specs.Proposals.{is_proposed, proposed}
use Rattle.admit_core.specs.Days.{offered}
use Rattle.day_state.specs.Kept.{mark_in, wish_in}
use Rattle.day_state.specs.Along.{change_along}
use Rattle.day_state.proofs.Along.{Apart, along_at, along_dossier, along_long, same_state, same_marks}
use Rattle.day_state.proofs.Along.{length-with_marks, mark_in-with_marks}

-- the places, from a on, of the elements that pass
abbrev pub places : {X : Type 0} → (X → Bool) → ℕ → List X → List ℕ
places {X} p a xs = map (λ (e : ℕ × X). e.0) (filter (λ (e : ℕ × X). p e.1) (enumerate_from a xs))

none_before : {X : Type 0} (p : X → Bool) (j a : ℕ) (xs : List X) → j < a → is_among j (places p a xs) ≡ false
none_before p j a [] lt = refl
none_before {X} p j a (x ∷ xs) lt =
    let rest : is_among j (places p (a + 1) xs) ≡ false = none_before p j (a + 1) xs (omega arith) in
    let first = λ (e : ℕ × X). e.0 in
    let others : List (ℕ × X) = filter (λ (e : ℕ × X). p e.1) (enumerate_from (a + 1) xs) in
    elim (p x) as (λ b. is_among j (map first (cond b ((a, x) ∷ others) others)) ≡ false) [
      | true ↦ or_from (nat_eq j a) (is_among j (places p (a + 1) xs)) (ne_eqb j a (λ e. omega arith)) rest
      | false ↦ rest
    ]

pub apart_places : {X : Type 0} (p : X → Bool) (a : ℕ) (xs : List X) → Apart (places p a xs)
apart_places p a [] = tt
apart_places {X} p a (x ∷ xs) =
    let first = λ (e : ℕ × X). e.0 in
    let others : List (ℕ × X) = filter (λ (e : ℕ × X). p e.1) (enumerate_from (a + 1) xs) in
    elim (p x) as (λ b. Apart (map first (cond b ((a, x) ∷ others) others))) [
      | true ↦ (none_before p a (a + 1) xs (omega arith), apart_places p (a + 1) xs)
      | false ↦ apart_places p (a + 1) xs
    ]

-- a place is among them where its element passes
pub among_places : {X : Type 0} (p : X → Bool) (a j : ℕ) (xs : List X) (d : X) → j < length xs
    → is_among (a + j) (places p a xs) ≡ p (get_or xs j d)
among_places p a j [] d lt = absurd (omega arith)
among_places {X} p a zero (x ∷ xs) d lt =
    let same : a + 0 ≡ a = omega arith in
    let first = λ (e : ℕ × X). e.0 in
    let others : List (ℕ × X) = filter (λ (e : ℕ × X). p e.1) (enumerate_from (a + 1) xs) in
    elim (p x) as (λ b. is_among (a + 0) (map first (cond b ((a, x) ∷ others) others)) ≡ b) [
      | true ↦ rw (eq-eqb (a + 0) a same) refl
      | false ↦ none_before p (a + 0) (a + 1) xs (omega arith)
    ]
among_places {X} p a (suc j) (x ∷ xs) d lt =
    let same : (a + 1) + j ≡ a + suc j = omega arith in
    let rest : is_among (a + suc j) (places p (a + 1) xs) ≡ p (get_or xs j d) =
    rw same at (among_places p (a + 1) j xs d (omega arith)) in
    let first = λ (e : ℕ × X). e.0 in
    let others : List (ℕ × X) = filter (λ (e : ℕ × X). p e.1) (enumerate_from (a + 1) xs) in
    elim (p x) as (λ b. is_among (a + suc j) (map first (cond b ((a, x) ∷ others) others)) ≡ p (get_or xs j d)) [
      | true ↦ rw (ne_eqb (a + suc j) a (λ e. omega arith)) rest
      | false ↦ rest
    ]

pub within_places : {X : Type 0} (p : X → Bool) (xs : List X) → All (λ k. k < length xs) (places p 0 xs)
within_places {X} p xs =
    let first = λ (e : ℕ × X). e.0 in
    let all : All (λ (e : ℕ × X). e.0 < length xs) (enumerate_from 0 xs) =
    λ i d lt. let in_range : i < length xs = omega (arith, length-enumerate_from 0 xs) in
    rw (get_or-enumerate_from 0 xs i d in_range) (omega arith) in
    All-map (λ k. k < length xs) first (filter (λ (e : ℕ × X). p e.1) (enumerate_from 0 xs))
    (All-filter (λ (e : ℕ × X). p e.1) (λ (e : ℕ × X). e.0 < length xs) (enumerate_from 0 xs) all)

module _ (s : State) (orders : List CallOrder) (bars : List ℕ) where
  -- the proposed places are places of wishes, and of marks
  pub proposed_are_wishes : All (λ k. k < length s.dossier.wishes) (proposed s orders bars)
  proposed_are_wishes k d lt =
      let within : slice_index_or (proposed s orders bars) k d < length (entries s) =
      within_places (λ (e : Wish × Mark). is_proposed s orders bars e.0 e.1) (entries s) k d lt in
      omega (arith, within, length-zip s.dossier.wishes s.marks)

  proposed_are_marks : All (λ k. k < length s.marks) (proposed s orders bars)
  proposed_are_marks k d lt =
      let within : slice_index_or (proposed s orders bars) k d < length (entries s) =
      within_places (λ (e : Wish × Mark). is_proposed s orders bars e.0 e.1) (entries s) k d lt in
      omega (arith, within, length-zip s.dossier.wishes s.marks)

  among_proposed : (j : ℕ) → length s.marks ≡ length s.dossier.wishes → j < length s.marks
      → is_among j (proposed s orders bars) ≡ is_proposed s orders bars (wish_in s.dossier.wishes j) (mark_in s.marks j)
  among_proposed j long lt =
      let ws = s.dossier.wishes in
      let ms = s.marks in
      let d : Wish × Mark = (wish_in [] 0, mark_in [] 0) in
      let p = λ (e : Wish × Mark). is_proposed s orders bars e.0 e.1 in
      (let named : 0 + j ≡ j = omega arith in rw named at (among_places p 0 j (entries s) d
      (omega (arith, length-zip ws ms))))
      ∙ ap p (get_or-zip ws ms j d (omega (arith, long)) lt)
      ∙ rw (unwrap_or-slice_get ws j (wish_in [] 0), unwrap_or-slice_get ms j (mark_in [] 0)) refl

  -- offers at the proposed places, one after another
  pub offers_made : (stamp : Stamp) → length s.marks ≡ length s.dossier.wishes
      → change_along (λ w m. changed_to Offered stamp m) (proposed s orders bars) s ≡ offered s orders bars stamp
  offers_made stamp long =
      let f = λ (w : Wish) (m : Mark). changed_to Offered stamp m in
      let g = λ (w : Wish) (m : Mark). if is_proposed s orders bars w m then changed_to Offered stamp m else m in
      let ks = proposed s orders bars in
      same_state (change_along f ks s) (offered s orders bars stamp) (along_dossier f ks s)
      (same_marks (change_along f ks s).marks (offered s orders bars stamp).marks
      (along_long f ks s ∙ sym (length-with_marks g s long)) (λ j lt.
      let j_in : j < length s.marks = omega (arith, along_long f ks s) in
      along_at f ks s (apart_places (λ (e : Wish × Mark). is_proposed s orders bars e.0 e.1) 0 (entries s))
      proposed_are_marks j
      ∙ rw (among_proposed j long j_in) refl
      ∙ sym (mark_in-with_marks g s long j j_in)))

-- the offers that were made, as they were recorded
pub offers_recorded : (s new : State) (orders : List CallOrder) (bars offers : List ℕ) (stamp : Stamp)
    → offers ≡ proposed s orders bars → new ≡ change_along (λ w m. changed_to Offered stamp m) offers s
    → length new.marks ≡ length new.dossier.wishes
    → new ≡ offered s orders bars stamp
offers_recorded s new orders bars offers stamp are made long =
    let f = λ (w : Wish) (m : Mark). changed_to Offered stamp m in
    let marks : length s.marks ≡ length new.marks =
    sym (along_long f offers s) ∙ ap (λ (t : State). length t.marks) (sym made) in
    let wishes : length new.dossier.wishes ≡ length s.dossier.wishes =
    ap (λ (t : State). length t.dossier.wishes) made
    ∙ ap (λ (d : DossierRows). length d.wishes) (along_dossier f offers s) in
    made ∙ ap (λ (ks : List ℕ). change_along f ks s) are ∙ offers_made s orders bars stamp (marks ∙ long ∙ wishes)
