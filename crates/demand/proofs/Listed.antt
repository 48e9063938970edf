-- What the calls list.
use Rattle.std.proofs.Common.{ℕ, ◌+◌, ◌≤◌, ◌<◌, ◌≡◌, Bool, List, [], ◌∷◌, map, length, inl, inr, refl, sym, ◌∙◌, ap}
use Rattle.std.proofs.Common.{arith, cond, filter, suc, true, zero, zero-add}
use Rattle.std.specs.Prelude.{slice_get, slice_index, All}
use Rattle.std.specs.List.{enumerate_from, range_with_len}
use Rattle.std.proofs.lemmas.Bool.{cases_Bool}
use Rattle.std.proofs.lemmas.List.Elements.{All-cons, All-nil}
use Rattle.std.proofs.lemmas.List.FromFn.{get_or-map-range_with_len}
use Rattle.std.proofs.lemmas.Slice.Zip.{length-zip}
use Rattle.admit_core.specs.declared.dossier.Wish.{Wish}
use Rattle.admit_core.specs.declared.state.Mark.{Mark}
use Rattle.admit_core.specs.declared.ranking.CallOrder.{CallOrder}
use Rattle.admit_core.specs.State.{State, entries, free_beds}
use Rattle.admit_core.specs.Proposals.{is_proposed, proposed, demanded_ranks}
use Rattle.admit_core.specs.Boarding.{boarding, name_of}
use Rattle.bar_fixpoint.specs.Overfilled.{rank_over}
use Rattle.proposals.specs.declared.demands.Demand.{Demand}
use Rattle.proposals.specs.Demands.{demands_of}
use Rattle.demand.specs.Proposed.{proposed_flags}

flagged_are : (f : Wish × Mark → Bool) (n : ℕ) (es : List (Wish × Mark))
    → map (λ (x : ℕ × Bool). x.0) (filter (λ (x : ℕ × Bool). x.1) (enumerate_from n (map f es)))
    ≡ map (λ (x : ℕ × (Wish × Mark)). x.0) (filter (λ (x : ℕ × (Wish × Mark)). f x.1) (enumerate_from n es))
flagged_are f n [] = refl
flagged_are f n (e ∷ es) =
    let later = flagged_are f (n + 1) es in
    elim (cases_Bool (f e)) [ inl passes ↦ rw passes (ap (λ (ks : List ℕ). n ∷ ks) later) | inr fails ↦ rw fails later ]

-- the flagged places are the proposed ones
pub flagged_proposed : (s : State) (orders : List CallOrder) (bars : List ℕ) (flags : List Bool)
    → flags ≡ proposed_flags s orders bars
    → map (λ (x : ℕ × Bool). x.0) (filter (λ (x : ℕ × Bool). x.1) (enumerate_from 0 flags)) ≡ proposed s orders bars
flagged_proposed s orders bars flags is =
    ap (λ fs. map (λ (x : ℕ × Bool). x.0) (filter (λ (x : ℕ × Bool). x.1) (enumerate_from 0 fs))) is
    ∙ flagged_are (λ e. is_proposed s orders bars e.0 e.1) 0 (entries s)

-- a list with one that passes makes something
pub makes_some : {X : Type 0} (p : ℕ → Bool) (f : ℕ → X) (xs : List ℕ) (i : ℕ) → i < length xs
    → p (slice_index xs i) ≡ true → map f (filter p xs) ≡ [] → ⊥
makes_some p f [] i lt passes none = absurd (omega (arith, lt))
makes_some p f (x ∷ xs) zero lt passes none =
    let kept : f x ∷ map f (filter p xs) ≡ [] =
    ap (λ b. map f (cond b (x ∷ filter p xs) (filter p xs))) (sym passes) ∙ none in
    let long : suc (length (map f (filter p xs))) ≡ 0 = ap length kept in
    absurd (omega arith)
makes_some p f (x ∷ xs) (suc i) lt passes none =
    elim (cases_Bool (p x)) [
      | inl here ↦
          let kept : f x ∷ map f (filter p xs) ≡ [] =
          ap (λ b. map f (cond b (x ∷ filter p xs) (filter p xs))) (sym here) ∙ none in
          let long : suc (length (map f (filter p xs))) ≡ 0 = ap length kept in
          absurd (omega arith)
      | inr fails ↦
          let later : map f (filter p xs) ≡ [] =
          ap (λ b. map f (cond b (x ∷ filter p xs) (filter p xs))) (sym fails) ∙ none in
          makes_some p f xs i (omega arith) passes later
    ]

numbered : (p : Wish × Mark → Bool) (n count : ℕ) (es : List (Wish × Mark)) → n + length es ≤ count
    → All (λ k. k < count)
    (map (λ (x : ℕ × (Wish × Mark)). x.0) (filter (λ (x : ℕ × (Wish × Mark)). p x.1) (enumerate_from n es)))
numbered p n count [] le = All-nil (λ k. k < count)
numbered p n count (e ∷ es) le =
    let later = numbered p (n + 1) count es (omega arith) in
    elim (cases_Bool (p e)) [
      | inl passes ↦ rw passes
          (All-cons (λ k. k < count) n (map (λ (x : ℕ × (Wish × Mark)). x.0)
          (filter (λ (x : ℕ × (Wish × Mark)). p x.1) (enumerate_from (n + 1) es))) (omega arith) later)
      | inr fails ↦ rw fails later
    ]

-- the proposed places are places of wishes
pub proposed_within : (s : State) (orders : List CallOrder) (bars : List ℕ)
    → All (λ k. k < length s.dossier.wishes) (proposed s orders bars)
proposed_within s orders bars =
    numbered (λ e. is_proposed s orders bars e.0 e.1) 0 (length s.dossier.wishes) (entries s)
    (omega (arith, length-zip s.dossier.wishes s.marks))

map_ranks : (name : ℕ → ℕ) (ranks : List ℕ)
    → map (λ (x : Demand). x.rank) (map (λ r. let d : Demand = record { rank = r; wish = name r } in d) ranks) ≡ ranks
map_ranks name [] = refl
map_ranks name (r ∷ ranks) = ap (λ (rs : List ℕ). r ∷ rs) (map_ranks name ranks)

-- the first rank that finds no bed
pub over_is : (s : State) (orders : List CallOrder) (ceilings bars : List ℕ) (h free : ℕ) → h < length ceilings
    → free ≡ free_beds s h
    → slice_get (map (λ (x : Demand). x.rank) (demands_of s orders bars h)) free
    ≡ rank_over (boarding s orders ceilings) bars h
over_is s orders ceilings bars h free lt is =
    let beds = slice_index (map (free_beds s) (range_with_len 0 (length ceilings))) h in
    let same : beds ≡ free_beds s h = get_or-map-range_with_len (free_beds s) 0 (length ceilings) h h 0 lt
    (zero-add h) in
    ap (λ rs. slice_get rs free) (map_ranks (name_of s orders bars h) (demanded_ranks s orders bars h))
    ∙ ap (slice_get (demanded_ranks s orders bars h)) (is ∙ sym same)
