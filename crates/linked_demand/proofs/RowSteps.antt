-- The first boarders of a school are gone along item by item: those of its row tell its demands.
use Rattle.std.proofs.Common.{ℕ, ◌+◌, ◌<◌, ◌≤◌, ◌≡◌, Bool, true, false, ◌&&◌, List, ◌∷◌, ◌++◌, [], length, drop, filter}
use Rattle.std.proofs.Common.{get_or, inl, inr, refl, sym, ◌∙◌, ap, nat_lt}
use Rattle.std.proofs.lemmas.Bool.{and_from, and_right, cases_Bool, le-ltb, lt-ltb}
use Rattle.std.proofs.lemmas.List.{append_assoc, append-nil, at_drop_more, at_drop_all}
use Rattle.proposals.specs.declared.demands.Demand.{Demand}
use Rattle.linked_demand.specs.declared.rows.RowWish.{RowWish}
use Rattle.linked_demand.specs.Demand.{firsts}

module _ (p : ℕ → Bool) (q : RowWish → Bool) where
  -- what those of some items tell that are in the row
  abbrev pub told : ℕ → List RowWish → List Demand
  told last xs = firsts p last (filter q xs)

  told_next : (last : ℕ) (x : RowWish) (xs : List RowWish) → q x ≡ true → (nat_lt last x.rank && p x.wish) ≡ true
      → told last (x ∷ xs) ≡ record { rank = x.rank; wish = x.wish } ∷ told x.rank xs
  told_next last x xs needs counts = rw needs (rw counts refl)

  told_over : (last : ℕ) (x : RowWish) (xs : List RowWish) → (q x && (nat_lt last x.rank && p x.wish)) ≡ false
      → told last (x ∷ xs) ≡ told last xs
  told_over last x xs fails =
      elim (cases_Bool (q x)) [
        | inl needs ↦
            let none : (nat_lt last x.rank && p x.wish) ≡ false = rw needs at fails in
            rw needs (rw none refl)
        | inr needs_none ↦ rw needs_none refl
      ]

module _ (p : ℕ → Bool) (q : RowWish → Bool) (row : List RowWish) where
  -- the walk ends with the items
  pub firsts_all : (i last : ℕ) (found : List Demand) → length row ≤ i
      → told p q 0 row ≡ found ++ told p q last (drop i row) → found ≡ told p q 0 row
  firsts_all i last found le are =
      sym (are ∙ ap (λ (ys : List Demand). found ++ ys) (at_drop_all (told p q last) row i le) ∙ append-nil found)

  module _ (i : ℕ) (d : RowWish) (lt : i < length row) (last : ℕ) where
    -- one of the row who passes is the next demand
    pub firsts_more : (found new : List Demand) (named : ℕ) → last < (get_or row i d).rank
        → q (get_or row i d) ≡ true → p (get_or row i d).wish ≡ true
        → new ≡ found ++ record { rank = (get_or row i d).rank; wish = (get_or row i d).wish } ∷ []
        → named ≡ (get_or row i d).rank → told p q 0 row ≡ found ++ told p q last (drop i row)
        → told p q 0 row ≡ new ++ told p q named (drop (i + 1) row)
    firsts_more found new named above needs passes new_is named_is are =
        let x = get_or row i d in
        let rest = drop (i + 1) row in
        let here : Demand = record { rank = x.rank; wish = x.wish } in
        let both = and_from (nat_lt last x.rank) (p x.wish) (lt-ltb last x.rank above) passes in
        are
        ∙ ap (λ (ys : List Demand). found ++ ys)
        (at_drop_more (told p q last) row i d lt ∙ told_next p q last x rest needs both)
        ∙ sym (append_assoc found (here ∷ []) (told p q x.rank rest))
        ∙ ap (λ (ys : List Demand). ys ++ told p q x.rank rest) (sym new_is)
        ∙ ap (λ (k : ℕ). new ++ told p q k rest) (sym named_is)

    -- one who is not in the row, ranks too low or is not proposed is passed over
    pub firsts_same : (found new : List Demand) (named : ℕ) → new ≡ found → named ≡ last
        → (q (get_or row i d) && (nat_lt last (get_or row i d).rank && p (get_or row i d).wish)) ≡ false
        → told p q 0 row ≡ found ++ told p q last (drop i row)
        → told p q 0 row ≡ new ++ told p q named (drop (i + 1) row)
    firsts_same found new named new_is named_is fails are =
        let x = get_or row i d in
        let rest = drop (i + 1) row in
        are
        ∙ ap (λ (ys : List Demand). found ++ ys)
        (at_drop_more (told p q last) row i d lt ∙ told_over p q last x rest fails)
        ∙ ap (λ (ys : List Demand). ys ++ told p q last rest) (sym new_is)
        ∙ ap (λ (k : ℕ). new ++ told p q k rest) (sym named_is)

    pub not_above : (get_or row i d).rank ≤ last
        → (q (get_or row i d) && (nat_lt last (get_or row i d).rank && p (get_or row i d).wish)) ≡ false
    not_above le =
        let x = get_or row i d in
        and_right (q x) (nat_lt last x.rank && p x.wish) (ap (λ b. b && p x.wish) (le-ltb last x.rank le))

    pub not_demanded : (q (get_or row i d) && p (get_or row i d).wish) ≡ false
        → (q (get_or row i d) && (nat_lt last (get_or row i d).rank && p (get_or row i d).wish)) ≡ false
    not_demanded fails =
        let x = get_or row i d in
        elim (cases_Bool (q x)) [
          | inl needs ↦ and_right (q x) (nat_lt last x.rank && p x.wish)
              (and_right (nat_lt last x.rank) (p x.wish) (rw needs at fails))
          | inr none ↦ ap (λ b. b && (nat_lt last x.rank && p x.wish)) none
        ]
