-- The wishes for the programmes as they are called.
use Rattle.std.specs.Prelude.{◌≡◌, ℕ, ◌≤◌, List, length, map, take}
use Rattle.admit_core.specs.declared.ranking.CallOrder.{CallOrder}
use Rattle.admit_core.specs.DossierRows.{DossierRows}
use Rattle.linked_demand.specs.declared.calling.CalledWish.{CalledWish}
use Rattle.linked_demand.specs.Called.{before_at, called_for}

-- the wish at a place, and how many stand before its candidate in the call order of its programme
abbrev pub called_wish_at : DossierRows → List CallOrder → ℕ → CalledWish
called_wish_at d orders k = record { wish = k; before = before_at d orders k }

-- the wishes for the programme in call order
abbrev pub called_wishes_for : DossierRows → List CallOrder → ℕ → List CalledWish
called_wishes_for d orders p = map (called_wish_at d orders) (called_for d orders p)

-- the places of wishes that are called
abbrev pub places_of : List CalledWish → List ℕ
places_of called = map (λ x. x.wish) called

-- how many stand before the candidate of each
abbrev pub numbers_before : List CalledWish → List ℕ
numbers_before called = map (λ x. x.before) called

-- some wishes are the first of those that are called
pub record IsFrontOf (called : List CalledWish) (wishes : List ℕ) : Type 0 where
  pub within : length wishes ≤ length called
  pub are : wishes ≡ take (length wishes) (places_of called)
