-- Those of a line who want a seat, read of the claims one after another.
use Rattle.std.proofs.Common.{ℕ, ◌<◌, ◌≡◌, Bool, false, List, [], length, get_or, sym, ◌∙◌, ap, subst}
use Rattle.std.specs.Prelude.{All}
use Rattle.std.specs.List.{list_any}
use Rattle.std.proofs.lemmas.List.{get_or-map, length-map}
use Rattle.admit_core.specs.State.{State}
use Rattle.linked_demand.specs.Opens.{wanting_at}
use Rattle.linked_demand.specs.Wants.{wants_along, AreBelow}

pub length-wants : (s : State) (opens : List Bool) (claims : List (List ℕ))
    → length (wants_along s opens claims) ≡ length claims
length-wants s opens claims = length-map claims (list_any (wanting_at s opens))

-- what a claim that is read tells of its place
pub wants_read : (s : State) (opens : List Bool) (claims : List (List ℕ)) (i : ℕ) (claim : List ℕ)
    (found b : Bool) → i < length claims → claim ≡ get_or claims i []
    → found ≡ list_any (wanting_at s opens) claim → found ≡ b → get_or (wants_along s opens claims) i false ≡ b
wants_read s opens claims i claim found b lt read found_is is =
    get_or-map (list_any (wanting_at s opens)) claims i [] false lt
    ∙ ap (list_any (wanting_at s opens)) (sym read)
    ∙ sym found_is
    ∙ is

-- a claim that is read is of places below the number
pub below_read : (n : ℕ) (claims : List (List ℕ)) → AreBelow n claims → (i : ℕ) (claim : List ℕ)
    → i < length claims → claim ≡ get_or claims i [] → All (λ k. k < n) claim
below_read n claims below i claim lt read =
    let P = λ (ks : List ℕ). All (λ k. k < n) ks in
    subst P (sym read) (below i lt)
