-- Pushes one after another.
use Rattle.std.proofs.Common.{◌≡◌, ℕ, ◌+◌, ◌<◌, ◌≤◌, List, [], ◌∷◌, ◌++◌, ◌∙◌, Result, Ok, Err, String, drop, get_or}
use Rattle.std.proofs.Common.{length, take, sym, ap}
use Rattle.std.proofs.Common.{arith, append_assoc, flat_map, length-append, IsErr, string_bytes, string_len, subst}
use Rattle.std.proofs.lemmas.Result.{MatchResult-from_err}
use Rattle.std.proofs.lemmas.List.{append-nil, take-append-drop, take_all, take_more}
use Rattle.std.proofs.lemmas.List.Concat.{flat_map-append}
use Rattle.report.specs.Pushes.{IsCutOff, IsPushed, Pushes}

-- the first items and the next one
more_of : {X : Type 0} (f : X → List ℕ) (xs : List X) (i : ℕ) (d : X) → i < length xs
    → flat_map f (take (i + 1) xs) ≡ flat_map f (take i xs) ++ f (get_or xs i d)
more_of f xs i d lt =
    let x = get_or xs i d in
    rw (take_more xs i d lt, flat_map-append f (take i xs) (x ∷ []))
    (ap (λ (ys : List ℕ). flat_map f (take i xs) ++ ys) (append-nil (f x)))

module _ {Z : Type 0} where
  long : (s : String Z) → string_len s ≡ length (string_bytes s)
  long s = s.bytes.ok.0

  -- the same bytes by another name
  pub pushed_as : {old new : String Z} {a w : List ℕ} → IsPushed old new a → a ≡ w → IsPushed old new w
  pushed_as {old} {new} p e = subst (λ (w : List ℕ). IsPushed old new w) e p

  -- two pushes
  pub pushed_then : {old mid new : String Z} {a b : List ℕ} → IsPushed old mid a → IsPushed mid new b
      → IsPushed old new (a ++ b)
  pushed_then {old} {mid} {new} {a} {b} p q = record {
    bytes = q.bytes ∙ ap (λ (bs : List ℕ). bs ++ b) p.bytes ∙ append_assoc (string_bytes old) a b;
    room = omega (arith, p.room, q.room);
  }

  -- a push, and one that was cut off, with what would have followed it
  pub cut_off_then : {old mid new : String Z} {a b : List ℕ} (c : List ℕ) → IsPushed old mid a → IsCutOff mid new b
      → IsCutOff old new ((a ++ b) ++ c)
  cut_off_then {old} {mid} {new} {a} {b} c p q = record {
    added = a ++ q.added;
    missing = q.missing ++ c;
    parts = rw q.parts (simp append_assoc);
    not_all = omega (
      arith,
      q.not_all,
      length-append a q.added,
      length-append (a ++ b) c,
      length-append a b,
    );
    bytes = q.bytes ∙ ap (λ (bs : List ℕ). bs ++ q.added) p.bytes ∙ append_assoc (string_bytes old) a q.added;
    room = omega (arith, p.room, q.room);
    full = omega (
      arith,
      q.full,
      p.room,
      long mid,
      long old,
      ap length p.bytes,
      length-append (string_bytes old) a,
      length-append (a ++ b) c,
      length-append a b,
    );
  }

  -- a push that was cut off, with what would have followed it
  pub cut_off_first : {old new : String Z} {a : List ℕ} (c : List ℕ) → IsCutOff old new a → IsCutOff old new (a ++ c)
  cut_off_first {old} {new} {a} c q = record {
    added = q.added;
    missing = q.missing ++ c;
    parts = rw q.parts (append_assoc q.added q.missing c);
    not_all = omega (arith, q.not_all, length-append a c);
    bytes = q.bytes;
    full = omega (arith, q.full, length-append a c);
    room = q.room;
  }

  pub cut_off_as : {old new : String Z} {a w : List ℕ} → IsCutOff old new a → a ≡ w → IsCutOff old new w
  cut_off_as {old} {new} p e = subst (λ (w : List ℕ). IsCutOff old new w) e p

  -- a push, and a last one that was cut off
  pub cut_off_next : {old mid new : String Z} {a b : List ℕ} → IsPushed old mid a → IsCutOff mid new b
      → IsCutOff old new (a ++ b)
  cut_off_next {a = a} {b = b} p q = cut_off_as (cut_off_then [] p q) (append-nil (a ++ b))

  -- a last push
  pub pushes_then : {T E : Type 0} (r : Result T E) {old mid : String Z} (new : String Z) {a : List ℕ} (b : List ℕ)
      → IsPushed old mid a → Pushes r mid new b → Pushes r old new (a ++ b)
  pushes_then (Ok x) new b p q = pushed_then p q
  pushes_then (Err e) new b p q = cut_off_next p q

  pub pushes_as : {T E : Type 0} (r : Result T E) (old new : String Z) {a w : List ℕ} → a ≡ w → Pushes r old new a
      → Pushes r old new w
  pushes_as r old new e p = subst (λ (w : List ℕ). Pushes r old new w) e p

  -- what was cut off, with two texts that would have followed it
  pub cut_before_two : {old new : String Z} {a : List ℕ} (b c : List ℕ) → IsCutOff old new a
      → IsCutOff old new ((a ++ b) ++ c)
  cut_before_two b c q = cut_off_first c (cut_off_first b q)

  -- two last texts, pushed by one call
  pub pushes_two : {T E : Type 0} (r : Result T E) {old mid : String Z} (new : String Z) {a : List ℕ} (b c : List ℕ)
      → IsPushed old mid a → Pushes r mid new (b ++ c) → Pushes r old new ((a ++ b) ++ c)
  pushes_two r {old} new {a} b c p q = pushes_as r old new (sym (append_assoc a b c)) (pushes_then r new (b ++ c) p q)

  -- a push that failed
  pub cut_off : {T E : Type 0} {old new : String Z} {w : List ℕ} (r : Result T E) → IsErr r → IsCutOff old new w
      → Pushes r old new w
  cut_off {old = old} {new = new} {w = w} r e q =
      MatchResult-from_err r (λ _. IsPushed old new w) (λ _. IsCutOff old new w) e (λ _. q)

  -- items, one after another
  module _ {X : Type 0} (f : X → List ℕ) (xs : List X) where
    pub pushed_item : {old mid new : String Z} (i : ℕ) (d : X) → i < length xs
        → IsPushed old mid (flat_map f (take i xs)) → IsPushed mid new (f (get_or xs i d))
        → IsPushed old new (flat_map f (take (i + 1) xs))
    pushed_item i d lt p q = pushed_as (pushed_then p q) (sym (more_of f xs i d lt))

    pub cut_item : {old mid new : String Z} (i : ℕ) (d : X) → i < length xs
        → IsPushed old mid (flat_map f (take i xs)) → IsCutOff mid new (f (get_or xs i d))
        → IsCutOff old new (flat_map f xs)
    cut_item i d lt p q =
        let rest = flat_map f (drop (i + 1) xs) in
        let whole = ap (λ (ys : List ℕ). ys ++ rest) (sym (more_of f xs i d lt))
        ∙ sym (flat_map-append f (take (i + 1) xs) (drop (i + 1) xs))
        ∙ ap (flat_map f) (take-append-drop (i + 1) xs) in
        cut_off_as (cut_off_then rest p q) whole

    pub pushed_all : {old new : String Z} (i : ℕ) → length xs ≤ i → IsPushed old new (flat_map f (take i xs))
        → IsPushed old new (flat_map f xs)
    pushed_all i le p = pushed_as p (ap (flat_map f) (take_all i xs le))
