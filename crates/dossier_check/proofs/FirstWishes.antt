-- The wishes that are kept of candidates, by the candidates' places.
use Rattle.std.proofs.Common.{◌≡◌, ℕ, suc, Bool, true, false, cond, is_some, nat_eq, nat_lt, List, [], ◌∷◌, ◌++◌, ◌+◌, length}
use Rattle.std.proofs.Common.{position, slice_get, Option, Some, None, refl, sym, ap, ◌∙◌, if◌then◌else◌, true≢false, arith}
use Rattle.std.specs.Prelude.{option_and_then}
use Rattle.std.specs.List.{list_any, position_or_len}
use Rattle.std.proofs.lemmas.Bool.Decides.{nat_tests}
use Rattle.admit_core.proofs.Plain.{nat_eq_sym}
use Rattle.admit_core.specs.declared.tables.WishRow.{WishRow}
use Rattle.dossier_check.specs.declared.first_wishes.FirstWish.{FirstWish}
use Rattle.dossier_check.specs.declared.first_wishes.FirstWishes.{FirstWishes}
use Rattle.dossier_check.specs.RowsBefore.{AreAsMany, AreFirstWishes, KnowsCandidates, first_of}
use Rattle.dossier_check.proofs.FirstRows.{first_known}

-- what is kept of a candidate
abbrev pub kept_of : List ℕ → List FirstWish → ℕ → Option FirstWish
kept_of candidates wishes k = option_and_then (slice_get wishes) (position (nat_eq k) candidates)

kept_next : (x : ℕ) (xs : List ℕ) (w : FirstWish) (ws : List FirstWish) (k : ℕ)
    → kept_of (x ∷ xs) (w ∷ ws) k ≡ (if nat_eq k x then Some w else kept_of xs ws k)
kept_next x xs w ws k = by (nat_eq k x) refl
  where
    later : (a n : ℕ) (b : Bool) → nat_lt a n ≡ b
        → option_and_then (slice_get (w ∷ ws)) (cond (nat_lt (1 + a) (suc n)) (Some (1 + a)) None)
        ≡ option_and_then (slice_get ws) (cond (nat_lt a n) (Some a) None)
    later a n true e =
        let f : nat_lt (1 + a) (suc n) ≡ true = grind (arith, nat_tests) in
        let next : 1 + a ≡ suc a = omega arith in
        rw (e, f) (ap (slice_get (w ∷ ws)) next)
    later a n false e = let f : nat_lt (1 + a) (suc n) ≡ false = grind (arith, nat_tests) in rw (e, f) refl

    by : (b : Bool) → nat_eq k x ≡ b
        → kept_of (x ∷ xs) (w ∷ ws) k ≡ (if b then Some w else kept_of xs ws k)
    by true e = let f : nat_lt 0 (suc (length xs)) ≡ true = grind (arith, nat_tests) in rw (e, f) refl
    by false e = rw e
        (later (position_or_len (nat_eq k) xs) (length xs) (nat_lt (position_or_len (nat_eq k) xs) (length xs)) refl)

-- of each candidate something is kept
pub kept_is_some : (xs : List ℕ) (ws : List FirstWish) (k : ℕ) → length ws ≡ length xs
    → is_some (kept_of xs ws k) ≡ list_any (nat_eq k) xs
kept_is_some [] ws k e = refl
kept_is_some (x ∷ xs) [] k e = absurd (grind arith)
kept_is_some (x ∷ xs) (w ∷ ws) k e =
    ap is_some (kept_next x xs w ws k) ∙ by (nat_eq k x) refl (kept_is_some xs ws k (omega arith))
  where
    by : (b : Bool) → nat_eq k x ≡ b → is_some (kept_of xs ws k) ≡ list_any (nat_eq k) xs
        → is_some (if b then Some w else kept_of xs ws k) ≡ list_any (nat_eq k) (x ∷ xs)
    by true e rest = rw e refl
    by false e rest = rw e rest

-- one more candidate, who is none of those before
pub kept_more : (xs : List ℕ) (ws : List FirstWish) (id : ℕ) (own : FirstWish) (k : ℕ) → length ws ≡ length xs
    → list_any (nat_eq id) xs ≡ false
    → kept_of (xs ++ id ∷ []) (ws ++ own ∷ []) k ≡ (if nat_eq id k then Some own else kept_of xs ws k)
kept_more [] [] id own k e new = kept_next id [] own [] k ∙ rw (nat_eq_sym k id) refl
kept_more [] (w ∷ ws) id own k e new = absurd (grind arith)
kept_more (x ∷ xs) [] id own k e new = absurd (grind arith)
kept_more (x ∷ xs) (w ∷ ws) id own k e new =
    kept_next x (xs ++ id ∷ []) w (ws ++ own ∷ []) k
    ∙ by (nat_eq k x) refl (nat_eq id x) refl (kept_more xs ws id own k (omega arith))
    ∙ ap (λ o. if nat_eq id k then Some own else o) (sym (kept_next x xs w ws k))
  where
    by : (b : Bool) → nat_eq k x ≡ b → (c : Bool) → nat_eq id x ≡ c
        → (list_any (nat_eq id) xs ≡ false
        → kept_of (xs ++ id ∷ []) (ws ++ own ∷ []) k ≡ (if nat_eq id k then Some own else kept_of xs ws k))
        → (if b then Some w else kept_of (xs ++ id ∷ []) (ws ++ own ∷ []) k)
        ≡ (if nat_eq id k then Some own else if b then Some w else kept_of xs ws k)
    by b here true same rest = absurd (true≢false (rw same at new))
    by true here false other rest = let f : nat_eq id k ≡ false = grind (arith, nat_tests) in rw f refl
    by false here false other rest = rest (rw other at new)

-- they are those of the wishes
pub kept_candidates : (firsts : FirstWishes) (rows : List WishRow) → AreFirstWishes (first_of firsts) rows
    → AreAsMany firsts → KnowsCandidates firsts.candidates.keys rows
kept_candidates firsts rows are as_many candidate =
    sym (kept_is_some firsts.candidates.keys firsts.wishes.items candidate as_many)
    ∙ first_known (first_of firsts) rows are candidate
