-- The lines of items that are known by their place, pushed one after another.
use Rattle.std.proofs.Common.{◌≡◌, ◌∙◌, ℕ, ◌+◌, ◌<◌, ◌≤◌, List, String, min, ap, arith, flat_map, get_or, length, sym}
use Rattle.std.proofs.Common.{take, zip}
use Rattle.std.specs.List.{enumerate_from}
use Rattle.std.proofs.lemmas.List.FromFn.{get_or-enumerate_from, length-enumerate_from}
use Rattle.std.proofs.lemmas.Slice.Zip.{get_or-zip, length-zip}
use Rattle.report.specs.Pushes.{IsCutOff, IsPushed}
use Rattle.report.proofs.Pushing.{cut_item, cut_off_as, pushed_all, pushed_as, pushed_item}

-- an item that is known by its place
module _ {Z X : Type 0} (f : X → List ℕ) (xs : List X) where
  pub pushed_one : {old mid new : String Z} (i : ℕ) (x : X) → i < length xs → x ≡ get_or xs i x
      → IsPushed old mid (flat_map f (take i xs)) → IsPushed mid new (f x)
      → IsPushed old new (flat_map f (take (i + 1) xs))
  pushed_one i x lt is p q = pushed_item f xs i x lt p (pushed_as q (ap f is))

  pub cut_one : {old mid new : String Z} (i : ℕ) (x : X) → i < length xs → x ≡ get_or xs i x
      → IsPushed old mid (flat_map f (take i xs)) → IsCutOff mid new (f x) → IsCutOff old new (flat_map f xs)
  cut_one i x lt is p q = cut_item f xs i x lt p (cut_off_as q (ap f is))

-- an item with its number
pair_at : {X : Type 0} (xs : List X) (ns : List ℕ) (i : ℕ) (x : X) → i < min (length xs) (length ns)
    → x ≡ get_or xs i x → (x, get_or ns i 0) ≡ get_or (zip xs ns) i (x, 0)
pair_at {X} xs ns i x lt is =
    ap (λ (y : X). (y, get_or ns i 0)) is ∙ sym (get_or-zip xs ns i (x, 0) (omega arith) (omega arith))

module _ {Z X : Type 0} (f : X × ℕ → List ℕ) (xs : List X) (ns : List ℕ) where
  pub pushed_pair : {old mid new : String Z} (i : ℕ) (x : X) → i < min (length xs) (length ns) → x ≡ get_or xs i x
      → IsPushed old mid (flat_map f (take i (zip xs ns))) → IsPushed mid new (f (x, get_or ns i 0))
      → IsPushed old new (flat_map f (take (i + 1) (zip xs ns)))
  pushed_pair i x lt is p q =
      pushed_item f (zip xs ns) i (x, 0) (omega (arith, length-zip xs ns)) p
      (pushed_as q (ap f (pair_at xs ns i x lt is)))

  pub cut_pair : {old mid new : String Z} (i : ℕ) (x : X) → i < min (length xs) (length ns) → x ≡ get_or xs i x
      → IsPushed old mid (flat_map f (take i (zip xs ns))) → IsCutOff mid new (f (x, get_or ns i 0))
      → IsCutOff old new (flat_map f (zip xs ns))
  cut_pair i x lt is p q =
      cut_item f (zip xs ns) i (x, 0) (omega (arith, length-zip xs ns)) p
      (cut_off_as q (ap f (pair_at xs ns i x lt is)))

  pub pushed_pairs : {old new : String Z} (i : ℕ) → min (length xs) (length ns) ≤ i
      → IsPushed old new (flat_map f (take i (zip xs ns))) → IsPushed old new (flat_map f (zip xs ns))
  pushed_pairs i le p = pushed_all f (zip xs ns) i (omega (arith, length-zip xs ns)) p

-- an item behind its number from n on
numbered_at : {X : Type 0} (n : ℕ) (xs : List X) (i j : ℕ) (d : X) → i < length xs → n + i ≡ j
    → (j, get_or xs i d) ≡ get_or (enumerate_from n xs) i (j, d)
numbered_at n xs i j d lt e =
    ap (λ (k : ℕ). (k, get_or xs i d)) (sym e) ∙ sym (get_or-enumerate_from n xs i (j, d) lt)

module _ {Z X : Type 0} (f : ℕ × X → List ℕ) (n : ℕ) (xs : List X) where
  pub pushed_numbered : {old mid new : String Z} (i j : ℕ) (d : X) → i < length xs → n + i ≡ j
      → IsPushed old mid (flat_map f (take i (enumerate_from n xs))) → IsPushed mid new (f (j, get_or xs i d))
      → IsPushed old new (flat_map f (take (i + 1) (enumerate_from n xs)))
  pushed_numbered i j d lt e p q =
      pushed_item f (enumerate_from n xs) i (j, d) (omega (arith, length-enumerate_from n xs)) p
      (pushed_as q (ap f (numbered_at n xs i j d lt e)))

  pub cut_numbered : {old mid new : String Z} (i j : ℕ) (d : X) → i < length xs → n + i ≡ j
      → IsPushed old mid (flat_map f (take i (enumerate_from n xs))) → IsCutOff mid new (f (j, get_or xs i d))
      → IsCutOff old new (flat_map f (enumerate_from n xs))
  cut_numbered i j d lt e p q =
      cut_item f (enumerate_from n xs) i (j, d) (omega (arith, length-enumerate_from n xs)) p
      (cut_off_as q (ap f (numbered_at n xs i j d lt e)))

  pub pushed_all_numbered : {old new : String Z} (i : ℕ) → length xs ≤ i
      → IsPushed old new (flat_map f (take i (enumerate_from n xs)))
      → IsPushed old new (flat_map f (enumerate_from n xs))
  pushed_all_numbered i le p =
      pushed_all f (enumerate_from n xs) i (omega (arith, length-enumerate_from n xs)) p
