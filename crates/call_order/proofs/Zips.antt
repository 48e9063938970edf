-- One more pair in two lists that are related place by place.
use Rattle.std.proofs.Common.{List, [], ◌∷◌, ◌++◌}
use Rattle.std.specs.List.{AllZip}

pub AllZip-push : {A B : Type 0} (R : A → B → Type 0) (xs : List A) (ys : List B) (x : A) (y : B) → AllZip R xs ys
    → R x y → AllZip R (xs ++ x ∷ []) (ys ++ y ∷ [])
AllZip-push R [] [] x y all r = (r, tt)
AllZip-push R [] (z ∷ ys) x y all r = absurd all
AllZip-push R (w ∷ xs) [] x y all r = absurd all
AllZip-push R (w ∷ xs) (z ∷ ys) x y all r = (all.0, AllZip-push R xs ys x y all.1 r)
