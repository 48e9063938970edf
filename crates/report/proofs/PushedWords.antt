-- Words that are pushed one after another, each behind a space, and the end of their line.
use Rattle.std.proofs.Common.{ℕ, ◌+◌, ◌<◌, ◌≤◌, List, [], ◌∷◌, Result, String, flat_map, get_or, length, map, sym, take}
use Rattle.report.specs.Pushes.{IsCutOff, IsPushed, Pushes}
use Rattle.report.specs.Words.{further}
use Rattle.report.proofs.LineLemmas.{further-map}
use Rattle.report.proofs.Pushing.{cut_item, cut_off_as, cut_off_first, pushed_all, pushed_item, pushes_as}
use Rattle.report.proofs.Pushing.{pushes_then}

module _ {Z X : Type 0} (word : X → List ℕ) (xs : List X) where
  pub word_pushed : {old mid new : String Z} (i : ℕ) (d : X) → i < length xs
      → IsPushed old mid (flat_map (λ x. 32 ∷ word x) (take i xs)) → IsPushed mid new (32 ∷ word (get_or xs i d))
      → IsPushed old new (flat_map (λ x. 32 ∷ word x) (take (i + 1) xs))
  word_pushed i d lt p q =
      pushed_item (λ x. 32 ∷ word x) xs i d lt p q

  pub word_cut : {old mid new : String Z} (i : ℕ) (d : X) → i < length xs
      → IsPushed old mid (flat_map (λ x. 32 ∷ word x) (take i xs)) → IsCutOff mid new (32 ∷ word (get_or xs i d))
      → IsCutOff old new (further 32 (map word xs))
  word_cut i d lt p q =
      cut_off_as
      (cut_off_first (10 ∷ []) (cut_item (λ x. 32 ∷ word x) xs i d lt p q))
      (sym (further-map 32 word xs))

  pub words_end : {T E : Type 0} (r : Result T E) (old mid new : String Z) (i : ℕ) → length xs ≤ i
      → IsPushed old mid (flat_map (λ x. 32 ∷ word x) (take i xs)) → Pushes r mid new (10 ∷ [])
      → Pushes r old new (further 32 (map word xs))
  words_end r old mid new i le p q =
      pushes_as r old new (sym (further-map 32 word xs))
      (pushes_then r new (10 ∷ []) (pushed_all (λ x. 32 ∷ word x) xs i le p) q)
