-- Runs of lines end where another line begins, and lists of numbers where their items end.
use Rattle.std.proofs.Common.{◌≡◌, ℕ, Bool, true, false, ◌&&◌, List, [], ◌∷◌, ◌++◌, All, flat_map, length, map, refl}
use Rattle.std.proofs.Common.{sym, ap, subst, ◌∙◌, arith, append_assoc, nat_eq, zip}
use Rattle.std.specs.Fmt.{decimal}
use Rattle.std.proofs.lemmas.Bool.{false≢true}
use Rattle.std.proofs.lemmas.List.Elements.{All-head, All-tail}
use Rattle.report.specs.Ids.{numbers_text}
use Rattle.report.specs.Words.{line}
use Rattle.report_laws.specs.Told.{IsNumberEach, IsSmall}
use Rattle.report_laws.proofs.Words.{IsToken, cons_told, line_told, longer, number_told, number_word}

-- whether bytes begin with a word
abbrev pub begins : List ℕ → List ℕ → Bool
begins [] r = true
begins (b ∷ bs) [] = false
begins (b ∷ bs) (c ∷ cs) = nat_eq b c && begins bs cs

-- behind a run that does not begin so there may be what does not either
pub behind_run : {X : Type 0} (t : X → List ℕ) (word : List ℕ) → ((x : X) (r : List ℕ) → begins word (t x ++ r) ≡ false)
    → (xs : List X) (r : List ℕ) → begins word r ≡ false → begins word (flat_map t xs ++ r) ≡ false
behind_run t word other [] r e = e
behind_run t word other (x ∷ xs) r e =
    ap (begins word) (append_assoc (t x) (flat_map t xs) r) ∙ other x (flat_map t xs ++ r)

-- a text tells its record, where what follows it is of a kind
abbrev pub Tells : {X : Type 0} → (X → Type 0) → (List ℕ → Type 0) → (X → List ℕ) → Type 0
Tells {X} P F t = (x y : X) (r q : List ℕ) → P x → P y → F r → F q → t x ++ r ≡ t y ++ q → (x ≡ y) × (r ≡ q)

-- anything may follow
abbrev pub Any : List ℕ → Type 0
Any r = Unit {0}

module _ {X : Type 0} (P : X → Type 0) (F : List ℕ → Type 0) (t : X → List ℕ) (word : List ℕ) (tells : Tells P F t)
    (first : (x : X) (r : List ℕ) → begins word (t x ++ r) ≡ true)
    (goes_on : (x : X) (r : List ℕ) → F (t x ++ r))
  where
    follows : (xs : List X) (r : List ℕ) → F r → F (flat_map t xs ++ r)
    follows [] r is = is
    follows (x ∷ xs) r is = subst F (sym (append_assoc (t x) (flat_map t xs) r)) (goes_on x (flat_map t xs ++ r))

    not_first : (x : X) (xs : List X) (r : List ℕ) → begins word (flat_map t (x ∷ xs) ++ r) ≡ true
    not_first x xs r = ap (begins word) (append_assoc (t x) (flat_map t xs) r) ∙ first x (flat_map t xs ++ r)

    -- a run of such texts tells its list, where no further one follows
    pub run_told : (xs ys : List X) (r q : List ℕ) → All P xs → All P ys → F r → F q → begins word r ≡ false
        → begins word q ≡ false → flat_map t xs ++ r ≡ flat_map t ys ++ q → (xs ≡ ys) × (r ≡ q)
    run_told [] [] r q are is after behind ends end e = (refl, e)
    run_told [] (y ∷ ys) r q are is after behind ends end e =
        absurd (false≢true (sym ends ∙ ap (begins word) e ∙ not_first y ys q))
    run_told (x ∷ xs) [] r q are is after behind ends end e =
        absurd (false≢true (sym end ∙ ap (begins word) (sym e) ∙ not_first x xs r))
    run_told (x ∷ xs) (y ∷ ys) r q are is after behind ends end e =
        let one = tells x y (flat_map t xs ++ r) (flat_map t ys ++ q) (All-head P x xs are) (All-head P y ys is)
        (follows xs r after) (follows ys q behind)
        (sym (append_assoc (t x) (flat_map t xs) r) ∙ e ∙ append_assoc (t y) (flat_map t ys) q) in
        let rest = run_told xs ys r q (All-tail P x xs are) (All-tail P y ys is) after behind ends end one.1 in
        (longer x y xs ys one.0 rest.0, rest.1)

-- ---- a number for each item
module _ {X : Type 0} (id : X → ℕ) (word : List ℕ) (is_word : IsToken word) where
  abbrev number_line : X → ℕ → List ℕ
  number_line x n = line (word ∷ decimal (id x) ∷ decimal n ∷ [])

  number_line_told : (x : X) (m n : ℕ) (r q : List ℕ) → IsSmall (id x) → IsSmall m → IsSmall n
      → number_line x m ++ r ≡ number_line x n ++ q → (m ≡ n) × (r ≡ q)
  number_line_told x m n r q small few less e =
      let named = number_word (id x) small in
      let told = line_told word (decimal (id x) ∷ decimal m ∷ []) (decimal (id x) ∷ decimal n ∷ []) r q is_word
      (named, (number_word m few, tt)) (named, (number_word n less, tt)) e in
      let last = (cons_told told.0).1 in
      (number_told m n few less (cons_told last).0, told.1)

  all_told : (items : List X) (ms ns : List ℕ) (r q : List ℕ) → All IsSmall (map id items) → length ms ≡ length items
      → length ns ≡ length items → All IsSmall ms → All IsSmall ns
      → numbers_text id word items ms ++ r ≡ numbers_text id word items ns ++ q → (ms ≡ ns) × (r ≡ q)
  all_told [] [] [] r q named long wide few less e = (refl, e)
  all_told [] (m ∷ ms) ns r q named long wide few less e = absurd (omega arith)
  all_told [] [] (n ∷ ns) r q named long wide few less e = absurd (omega arith)
  all_told (x ∷ items) [] ns r q named long wide few less e = absurd (omega arith)
  all_told (x ∷ items) (m ∷ ms) [] r q named long wide few less e = absurd (omega arith)
  all_told (x ∷ items) (m ∷ ms) (n ∷ ns) r q named long wide few less e =
      let more = numbers_text id word items ms in
      let others = numbers_text id word items ns in
      let one = number_line_told x m n (more ++ r) (others ++ q) (All-head IsSmall (id x) (map id items) named)
      (All-head IsSmall m ms few) (All-head IsSmall n ns less)
      (sym (append_assoc (number_line x m) more r) ∙ e ∙ append_assoc (number_line x n) others q) in
      let rest = all_told items ms ns r q (All-tail IsSmall (id x) (map id items) named) (omega arith) (omega arith)
      (All-tail IsSmall m ms few) (All-tail IsSmall n ns less) one.1 in
      (longer m n ms ns one.0 rest.0, rest.1)

  pub numbers_text_told : (items : List X) (ms ns : List ℕ) (r q : List ℕ) → All IsSmall (map id items)
      → IsNumberEach items ms → IsNumberEach items ns
      → numbers_text id word items ms ++ r ≡ numbers_text id word items ns ++ q → (ms ≡ ns) × (r ≡ q)
  numbers_text_told items ms ns r q named are is e = all_told items ms ns r q named are.one_each is.one_each are.small
      is.small e

  -- its lines begin with the word
  pub behind_numbers : (items : List X) (ns : List ℕ) (other : List ℕ) (r : List ℕ)
      → ((x : X × ℕ) (q : List ℕ) → begins other (number_line x.0 x.1 ++ q) ≡ false) → begins other r ≡ false
      → begins other (numbers_text id word items ns ++ r) ≡ false
  behind_numbers items ns other r apart e =
      behind_run (λ (x : X × ℕ). number_line x.0 x.1) other apart (zip items ns) r e
