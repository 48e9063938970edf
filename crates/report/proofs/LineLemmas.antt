-- Lines that come from lists.
use Rattle.std.proofs.Common.{◌≡◌, ℕ, ◌+◌, ◌<◌, List, [], ◌∷◌, ◌++◌, get_or, length, map, flat_map, take, refl, ap}
use Rattle.std.proofs.Common.{append_assoc, arith}
use Rattle.std.specs.List.{enumerate_from}
use Rattle.std.proofs.lemmas.List.{append-nil, length-take-le, take_more}
use Rattle.std.proofs.lemmas.List.Concat.{flat_map-append}
use Rattle.report.specs.Words.{further}

-- further words that are made of the items of a list
pub further-map : {X : Type 0} (byte : ℕ) (word : X → List ℕ) (xs : List X)
    → further byte (map word xs) ≡ flat_map (λ x. byte ∷ word x) xs ++ 10 ∷ []
further-map byte word [] = refl
further-map byte word (x ∷ xs) = rw (further-map byte word xs, append_assoc) refl

-- one more item at the end
enumerate_from-push : {X : Type 0} (n : ℕ) (xs : List X) (x : X) (j : ℕ) → n + length xs ≡ j
    → enumerate_from n (xs ++ x ∷ []) ≡ enumerate_from n xs ++ (j, x) ∷ []
enumerate_from-push n [] x j e = let same : n ≡ j = omega (arith, e) in ap (λ k. (k, x) ∷ []) same
enumerate_from-push n (y ∷ ys) x j e = ap (λ zs. (n, y) ∷ zs) (enumerate_from-push (n + 1) ys x j (omega (arith, e)))

-- the lines of numbered items, after one more of them
pub lines_more : {X : Type 0} (lines : ℕ × X → List ℕ) (n : ℕ) (xs : List X) (i j : ℕ) (d : X) → i < length xs
    → n + i ≡ j
    → flat_map lines (enumerate_from n (take (i + 1) xs))
    ≡ flat_map lines (enumerate_from n (take i xs)) ++ lines (j, get_or xs i d)
lines_more lines n xs i j d lt e =
    let front = take i xs in
    let x = get_or xs i d in
    let long : n + length front ≡ j = rw (length-take-le i xs (omega (arith, lt))) e in
    rw (
      take_more xs i d lt,
      enumerate_from-push n front x j long,
      flat_map-append lines (enumerate_from n front)
          ((j, x) ∷ []),
    )
    (ap (λ ys. flat_map lines (enumerate_from n front) ++ ys) (append-nil (lines (j, x))))
