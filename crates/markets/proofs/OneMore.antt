-- Those of a range that pass a test, and the values of a function along a list, with one more.
use Rattle.std.proofs.Common.{ℕ, ◌+◌, ◌<◌, ◌≡◌, ◌∙◌, List, [], ◌∷◌, ◌++◌, map, length, take, get_or, sym, ap}
use Rattle.linked_demand.proofs.Flagging.{map_take_more}

-- the values of a function along a list, with one more
pub mapped_more : {X Y : Type 0} (f : X → Y) (xs : List X) (i : ℕ) (d : X) (ys new : List Y) (y : Y) → i < length xs
    → new ≡ ys ++ y ∷ []
    → ys ≡ map f (take i xs) → y ≡ f (get_or xs i d) → new ≡ map f (take (i + 1) xs)
mapped_more {X} {Y} f xs i d ys new y lt pushed are is =
    pushed ∙ ap (λ (zs : List Y). zs ++ y ∷ []) are ∙ ap (λ (z : Y). map f (take i xs) ++ z ∷ []) is
    ∙ sym (map_take_more f xs i d lt)
