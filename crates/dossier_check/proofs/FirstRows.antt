-- A map from keys to what is noted of their first rows.
use Rattle.std.proofs.Common.{◌≡◌, ℕ, ◌+◌, ◌<◌, suc, Bool, is_some, map, true, false, cond, ◌&&◌, nat_eq, nat_lt, List}
use Rattle.std.proofs.Common.{[], ◌∷◌, ◌++◌, length, find, option_map, Option, Some, None, refl, sym, ap, ◌∙◌}
use Rattle.std.proofs.Common.{if◌then◌else◌, arith, length-append}
use Rattle.std.proofs.lemmas.Bool.{and_parts}
use Rattle.std.proofs.lemmas.Bool.Decides.{nat_tests}
use Rattle.std.proofs.lemmas.List.Folds.{find-append}
use Rattle.std.specs.List.{list_any, position_or_len, enumerate_from}
use Rattle.std.specs.Option.{option_or}
use Rattle.admit_core.proofs.Plain.{nat_eq_sym, any-map}
use Rattle.admit_core.specs.declared.tables.WishRow.{WishRow}
use Rattle.admit_core.specs.Faults.{row_number, first_row}
use Rattle.dossier_check.specs.Pairs.{pair_eq}
use Rattle.dossier_check.specs.RowsBefore.{noted_wish, has_preference, AreFirstWishes}
use Rattle.dossier_check.specs.declared.first_wishes.FirstWish.{FirstWish}
use Rattle.admit_core.specs.Lists.{is_among}
use Rattle.dossier_check.proofs.Places.{nat_eq_sound}

or_none : {X : Type 0} (o : Option X) → option_or o None ≡ o
or_none None = refl
or_none (Some x) = refl

-- `first p rows` is something of the first row that passes p, and one row more tells of itself where no earlier one
-- passes
abbrev pub TellsMore : {R V : Type 0} → ((R → Bool) → List R → Option V) → List R → R → V → Type 0
TellsMore {R} {V} first before row value =
    (p : R → Bool) → first p (before ++ row ∷ []) ≡ option_or (first p before) (if p row then Some value else None)

-- a map `found` tells of each key's first row; `has k` says whether a row has the key k
module _ {R K V : Type 0} (first : (R → Bool) → List R → Option V) (has : K → R → Bool) (before : List R) (row : R)
    (value : V) (more : TellsMore first before row value)
    (found now : K → Option V) (firsts : (k : K) → found k ≡ first (has k) before) where
  -- a row without a key
  pub firsts-other : ((k : K) → has k row ≡ false) → ((k : K) → now k ≡ found k) → (k : K)
      → now k ≡ first (has k) (before ++ row ∷ [])
  firsts-other none kept k = kept k ∙ firsts k ∙ sym (more (has k) ∙ rw (none k) (or_none (first (has k) before)))

  module _ (eq : K → K → Bool) (key : K) (own : (k : K) → has k row ≡ eq key k)
      (sound : (k : K) → eq key k ≡ true → key ≡ k) where
    -- a row whose key is there
    pub firsts-kept : (noted : V) → found key ≡ Some noted → ((k : K) → now k ≡ found k) → (k : K)
        → now k ≡ first (has k) (before ++ row ∷ [])
    firsts-kept noted there kept k = kept k ∙ by (eq key k) refl
      where
        by : (b : Bool) → eq key k ≡ b → found k ≡ first (has k) (before ++ row ∷ [])
        by true e =
            let at : first (has k) before ≡ Some noted = sym (firsts k) ∙ ap found (sym (sound k e)) ∙ there in
            firsts k ∙ at ∙ sym (more (has k) ∙ rw at refl)
        by false e = firsts k ∙ sym (more (has k) ∙ rw (own k, e) (or_none (first (has k) before)))

    -- a row whose key is new
    pub firsts-noted : found key ≡ None → ((k : K) → now k ≡ (if eq key k then Some value else found k)) → (k : K)
        → now k ≡ first (has k) (before ++ row ∷ [])
    firsts-noted none noted k = noted k ∙ by (eq key k) refl
      where
        by : (b : Bool) → eq key k ≡ b → (if b then Some value else found k) ≡ first (has k) (before ++ row ∷ [])
        by true e =
            let at : first (has k) before ≡ None = sym (firsts k) ∙ ap found (sym (sound k e)) ∙ none in
            sym (more (has k) ∙ rw (at, own k, e) refl)
        by false e = firsts k ∙ sym (more (has k) ∙ rw (own k, e) (or_none (first (has k) before)))

position_or_len-push : {X : Type 0} (p : X → Bool) (xs : List X) (x : X)
    → position_or_len p (xs ++ x ∷ []) ≡ (if nat_lt (position_or_len p xs)
    (length xs) then position_or_len p xs else if p x then length xs else suc (length xs))
position_or_len-push p [] x = grind (arith, nat_tests)
position_or_len-push p (y ∷ ys) x = grind (arith, nat_tests, position_or_len-push p ys x)

-- the number of the place a, if it is below n
abbrev below : ℕ → ℕ → Option ℕ
below a n = option_map row_number (cond (nat_lt a n) (Some a) None)

below_more : (a n : ℕ) (b c : Bool) → nat_lt a n ≡ c
    → below (if c then a else if b then n else suc n) (n + 1)
    ≡ option_or (below a n) (if b then Some (row_number n) else None)
below_more a n true true e = let f : nat_lt a (n + 1) ≡ true = grind (arith, nat_tests) in rw (e, f) refl
below_more a n false true e = let f : nat_lt a (n + 1) ≡ true = grind (arith, nat_tests) in rw (e, f) refl
below_more a n true false e = let f : nat_lt n (n + 1) ≡ true = grind (arith, nat_tests) in rw (e, f) refl
below_more a n false false e = let f : nat_lt (suc n) (n + 1) ≡ false = grind (arith, nat_tests) in rw (e, f) refl

length-push : {X : Type 0} (xs : List X) (x : X) → length (xs ++ x ∷ []) ≡ length xs + 1
length-push xs x = omega (arith, length-append xs (x ∷ []))

-- the first row's number
pub first_row-push : {R : Type 0} (rows : List R) (row : R)
    → TellsMore (λ p rows. first_row p rows) rows row (row_number (length rows))
first_row-push rows row p =
    rw (position_or_len-push p rows row, length-push rows row)
    (below_more (position_or_len p rows) (length rows) (p row) (nat_lt (position_or_len p rows) (length rows)) refl)

enumerate_from-push : {X : Type 0} (n m : ℕ) (xs : List X) (x : X) → m ≡ n + length xs
    → enumerate_from n (xs ++ x ∷ []) ≡ enumerate_from n xs ++ (m, x) ∷ []
enumerate_from-push n m [] x e = let same : m ≡ n = omega arith in rw same refl
enumerate_from-push n m (y ∷ ys) x e = ap (λ l. (n, y) ∷ l) (enumerate_from-push (n + 1) m ys x (omega arith))

-- a candidate's first wish
abbrev pub first_noted : (WishRow → Bool) → List WishRow → Option FirstWish
first_noted p rows = option_map noted_wish (find (λ x. p x.1) (enumerate_from 2 rows))

noted_or : (o : Option (ℕ × WishRow)) (b : Bool) (x : ℕ × WishRow)
    → option_map noted_wish (option_or o (if b then Some x else None))
    ≡ option_or (option_map noted_wish o) (if b then Some (noted_wish x) else None)
noted_or None true x = refl
noted_or None false x = refl
noted_or (Some y) b x = refl

pub first_noted-push : (rows : List WishRow) (row : WishRow)
    → TellsMore first_noted rows row (record { row = row_number (length rows); preference = row.preference })
first_noted-push rows row p =
    let number : ℕ = row_number (length rows) in
    ap (λ l. option_map noted_wish (find (λ x. p x.1) l)) (enumerate_from-push 2 number rows row (omega arith))
    ∙ ap (option_map noted_wish) (find-append (λ x. p x.1) (enumerate_from 2 rows) ((number, row) ∷ []))
    ∙ noted_or (find (λ x. p x.1) (enumerate_from 2 rows)) (p row) (number, row)

pub pair_eq_sound : (p q : ℕ × ℕ) → pair_eq p q ≡ true → p ≡ q
pair_eq_sound p q e =
    let (a, b) = and_parts (nat_eq p.0 q.0) (nat_eq p.1 q.1) e in
    let f : p.0 ≡ q.0 = nat_eq_sound p.0 q.0 a in
    let g : p.1 ≡ q.1 = nat_eq_sound p.1 q.1 b in
    λ i. (f i, g i)

pub pair_eq-sym : (p q : ℕ × ℕ) → pair_eq p q ≡ pair_eq q p
pair_eq-sym p q = rw (nat_eq_sym p.0 q.0, nat_eq_sym p.1 q.1) refl

positive_and : (p q : ℕ) (a : Bool) → 0 < p → (nat_lt 0 q && (a && nat_eq p q)) ≡ (a && nat_eq p q)
positive_and p q true lt = by (nat_eq p q) refl
  where
    by : (b : Bool) → nat_eq p q ≡ b → (nat_lt 0 q && b) ≡ b
    by true e = let f : nat_lt 0 q ≡ true = grind (arith, nat_tests) in rw f refl
    by false e = grind (arith, nat_tests)
positive_and p q false lt = grind (arith, nat_tests)

some_enumerate : (f : ℕ × WishRow → FirstWish) (p : WishRow → Bool) (n : ℕ) (rows : List WishRow)
    → is_some (option_map f (find (λ x. p x.1) (enumerate_from n rows))) ≡ list_any p rows
some_enumerate f p n [] = refl
some_enumerate f p n (row ∷ rows) = by (p row) refl (some_enumerate f p (n + 1) rows)
  where
    by : (b : Bool) → p row ≡ b → is_some (option_map f (find (λ x. p x.1) (enumerate_from (n + 1) rows)))
        ≡ list_any p rows
        → is_some (option_map f (find (λ x. p x.1) (enumerate_from n (row ∷ rows)))) ≡ list_any p (row ∷ rows)
    by true e rest = rw e refl
    by false e rest = rw (e, rest) refl

-- the candidates with a first wish are those of the wishes
pub first_known : (found : ℕ → Option FirstWish) (rows : List WishRow) → AreFirstWishes found rows → (candidate : ℕ)
    → is_some (found candidate) ≡ is_among candidate (map (λ w. w.candidate) rows)
first_known found rows firsts candidate =
    ap is_some (firsts candidate) ∙ some_enumerate noted_wish (λ r. nat_eq candidate r.candidate) 2 rows
    ∙ sym (any-map (nat_eq candidate) (λ w. w.candidate) rows)

-- for a row with a preference, the rows with the same one
pub same_preference : (row : WishRow) (before : List WishRow) → 0 < row.preference
    → first_row (has_preference (row.candidate, row.preference)) before
    ≡ first_row (λ r. nat_eq row.candidate r.candidate && nat_eq row.preference r.preference) before
same_preference row before lt = ap (λ p. first_row p before) (λ i r. positive_and row.preference r.preference
    (nat_eq row.candidate r.candidate) lt i)
