-- The list of overfilled places, made place by place.
use Rattle.std.proofs.Common.{◌≡◌, ℕ, ◌+◌, ◌<◌, Bool, true, false, cond, List, [], ◌∷◌, ◌++◌, length, map, filter, refl}
use Rattle.std.proofs.Common.{ap, ◌∙◌, inl, inr, arith, slice_index}
use Rattle.std.specs.List.{range_with_len}
use Rattle.std.specs.Option.{is_some}
use Rattle.std.proofs.lemmas.Bool.{lt-ltb, le-ltb}
use Rattle.std.proofs.lemmas.Option.{slice_get_cases}
use Rattle.std.proofs.lemmas.List.FromFn.{filter_of_map_range_with_len_more}
use Rattle.std.proofs.lemmas.List.{append-nil, map-id}
use Rattle.admit_core.specs.Falls.{FallingSystem, is_overfilled}
use Rattle.bar_fixpoint.specs.Overfilled.{rank_over}

pub filter_more : (p : ℕ → Bool) (n : ℕ)
    → filter p (range_with_len 0 (n + 1)) ≡ filter p (range_with_len 0 n) ++ cond (p n) (n ∷ []) []
filter_more p n =
    let more : filter p (map (λ x. x) (range_with_len 0 (n + 1)))
    ≡ filter p (map (λ x. x) (range_with_len 0 n)) ++ cond (p n) (n ∷ []) [] =
    filter_of_map_range_with_len_more p (λ x. x) 0 n n (omega arith) in
    rw (map-id (range_with_len 0 (n + 1)), map-id (range_with_len 0 n)) at more

-- a place is overfilled where a rank finds no bed
pub overfilled_by_rank : (sys : FallingSystem) (bars : List ℕ) (i : ℕ) → i < length sys.ceilings
    → is_overfilled sys bars i ≡ is_some (rank_over sys bars i)
overfilled_by_rank sys bars i lt =
    let ranks = sys.ranks bars i in
    let free = slice_index sys.free i in
    elim (slice_get_cases ranks free).1 [
      | inl found ↦ rw (lt-ltb i (length sys.ceilings) lt, lt-ltb free (length ranks) found.1, found.2) refl
      | inr none ↦ rw (lt-ltb i (length sys.ceilings) lt, le-ltb free (length ranks) none.0, none.1) refl
    ]

-- the next place is listed where a rank finds no bed there, and else left out
pub listed : (sys : FallingSystem) (bars : List ℕ) (i : ℕ) → i < length sys.ceilings
    → is_some (rank_over sys bars i) ≡ true
    → filter (is_overfilled sys bars) (range_with_len 0 (i + 1))
    ≡ filter (is_overfilled sys bars) (range_with_len 0 i) ++ i ∷ []
listed sys bars i lt some =
    filter_more (is_overfilled sys bars) i
    ∙ ap (λ over. filter (is_overfilled sys bars) (range_with_len 0 i) ++ cond over (i ∷ []) [])
    (overfilled_by_rank sys bars i lt ∙ some)

pub left_out : (sys : FallingSystem) (bars : List ℕ) (i : ℕ) → i < length sys.ceilings
    → is_some (rank_over sys bars i) ≡ false
    → filter (is_overfilled sys bars) (range_with_len 0 (i + 1)) ≡ filter (is_overfilled sys bars) (range_with_len 0 i)
left_out sys bars i lt none =
    filter_more (is_overfilled sys bars) i
    ∙ ap (λ over. filter (is_overfilled sys bars) (range_with_len 0 i) ++ cond over (i ∷ []) [])
    (overfilled_by_rank sys bars i lt ∙ none)
    ∙ append-nil (filter (is_overfilled sys bars) (range_with_len 0 i))
