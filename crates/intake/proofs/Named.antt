-- What is named is found by its place.
use Rattle.std.proofs.Common.{◌≡◌, ◌∙◌, ℕ, Bool, true, false, List, ap, is_some, nat_eq, position, refl, sym}
use Rattle.std.specs.List.{list_any}
use Rattle.admit_core.specs.Lists.{is_among}
use Rattle.dossier_check.specs.Ids.{Ids}
use Rattle.dossier_check.proofs.Firsts.{position-none}
use Rattle.dossier_check.proofs.Places.{position-any}
use Rattle.request.specs.declared.modes.Name.{Name}
use Rattle.request.specs.declared.modes.Name.TheVariants.{Wish, School}
use Rattle.intake.specs.Input.{has_name}

-- an id that has a place is among the ids
found_among : (id : ℕ) (ids : List ℕ) → is_some (position (nat_eq id) ids) ≡ is_among id ids
found_among id ids = by (is_among id ids) refl
  where
    by : (b : Bool) → list_any (nat_eq id) ids ≡ b → is_some (position (nat_eq id) ids) ≡ is_among id ids
    by true any = ap is_some (position-any (nat_eq id) ids any) ∙ sym any
    by false none = ap is_some (position-none (nat_eq id) ids none) ∙ sym none

pub wish_there : (ids : Ids) (name : Name) (id : ℕ) (found : Bool) → name ≡ Wish id
    → found ≡ is_some (position (nat_eq id) ids.wishes) → found ≡ has_name ids name
wish_there ids name id found is by_place = rw is (by_place ∙ found_among id ids.wishes)

pub school_there : (ids : Ids) (name : Name) (id : ℕ) (found : Bool) → name ≡ School id
    → found ≡ is_some (position (nat_eq id) ids.schools) → found ≡ has_name ids name
school_there ids name id found is by_place = rw is (by_place ∙ found_among id ids.schools)
