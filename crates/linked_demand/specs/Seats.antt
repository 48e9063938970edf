-- What is known of the wishes of a dossier while the programmes are gone through one after another.
use Rattle.std.specs.Prelude.{◌≡◌, ℕ, ◌<◌, Bool, true, false, not, ◌&&◌, ◌||◌, ◌==◌, List, length, map, filter, is_some}
use Rattle.std.specs.Prelude.{nat_eq, nat_lt, nat_le, ◌+◌, Option, Some, None, slice_get, slice_index, slice_index_or}
use Rattle.std.specs.List.{list_any, range_with_len, before_first}
use Rattle.day_state.specs.Kept.{wish_in}
use Rattle.admit_core.specs.declared.dossier.Wish.{Wish}
use Rattle.admit_core.specs.declared.ranking.CallOrder.{CallOrder}
use Rattle.admit_core.specs.DossierRows.{DossierRows, candidate_of, limit_of}
use Rattle.admit_core.specs.Lists.{is_among}
use Rattle.admit_core.specs.OwnWishes.{own_places}
use Rattle.admit_core.specs.Proposals.{order_of}
use Rattle.admit_core.specs.State.{is_school}
use Rattle.linked_demand.specs.Links.{IsSeatPlace, claim_of}
use Rattle.linked_demand.specs.Notes.{Noted}
use Rattle.linked_demand.specs.Opens.{line_of}

-- the wish at a place is for the programme
abbrev pub applies_at : DossierRows → ℕ → ℕ → Bool
applies_at d p k = (wish_in d.wishes k).programme == p

-- the wish at a place has a school
abbrev pub boards_at : DossierRows → ℕ → Bool
boards_at d k = is_some (wish_in d.wishes k).school

-- the wishes with a school, by place
abbrev pub boarders_of : DossierRows → List ℕ
boarders_of d = filter (boards_at d) (range_with_len 0 (length d.wishes))

-- two wishes have one school
abbrev pub same_school : Option ℕ → Option ℕ → Bool
same_school None o = false
same_school (Some h) o = is_school o h

-- the candidate of the wish at a place may have another one with its school: they have more than 16
-- wishes, or another one of theirs has it
abbrev pub may_share_school : DossierRows → ℕ → Bool
may_share_school d k =
    nat_lt 16 (length (own_places d (candidate_of d k)))
    || list_any (λ j. not (nat_eq j k)
    && same_school (wish_in d.wishes k).school (wish_in d.wishes j).school)
    (own_places d (candidate_of d k))

-- the wish's candidate is called by the limit of its programme, whatever seats are left
abbrev pub is_called_by_limit : DossierRows → List CallOrder → Wish → Bool
is_called_by_limit d orders w = nat_le
    (length (before_first (nat_eq w.candidate) (order_of d orders w.programme)) + 1)
    (limit_of d w.programme)

-- the wishes that are called by the limits of their programmes, by place
abbrev pub limited_wishes : DossierRows → List CallOrder → List ℕ
limited_wishes d orders =
    filter (λ k. is_called_by_limit d orders (wish_in d.wishes k)) (range_with_len 0 (length d.wishes))

-- the wishes of the programmes and candidates that are done have their place, and only they are
-- noted as called by the limit
pub record AreSeated (d : DossierRows) (orders : List CallOrder) (is_done : ℕ → ℕ → Bool)
    (notes : Noted) : Type 0 where
  pub one_each : length notes.places ≡ length d.wishes
  pub place : (i : ℕ) (w : Wish) → slice_get d.wishes i ≡ Some w
      → is_done w.programme w.candidate ≡ true
      → IsSeatPlace d orders w (slice_index notes.places i)
  pub called : (i : ℕ) (w : Wish) → slice_get d.wishes i ≡ Some w
      → slice_index_or notes.called_by_limit i false
      ≡ (is_done w.programme w.candidate && is_called_by_limit d orders w)

-- the programmes below one are done
abbrev pub is_below : ℕ → ℕ → ℕ → Bool
is_below n p c = nat_lt p n

-- and in this one those who stand in a part of its call order
abbrev pub is_passed : ℕ → List ℕ → ℕ → ℕ → Bool
is_passed n front p c = nat_lt p n || (nat_eq p n && is_among c front)

-- for each wish it is known where its candidate stands in the line of its programme, and whether they
-- are called by its limit
pub record AreNotes (d : DossierRows) (orders : List CallOrder) (notes : Noted) : Type 0 where
  pub one_each : length notes.places ≡ length d.wishes
  pub places_are : (i : ℕ) (w : Wish) → slice_get d.wishes i ≡ Some w
      → IsSeatPlace d orders w (slice_index notes.places i)
  pub called_are : (i : ℕ) (w : Wish) → slice_get d.wishes i ≡ Some w
      → slice_index_or notes.called_by_limit i false ≡ is_called_by_limit d orders w

-- for each programme the claims of those who wish for it, in call order; and where each wish stands
-- in them
pub record IsLineup (d : DossierRows) (orders : List CallOrder) (claims : List (List (List ℕ)))
    (notes : Noted) : Type 0 where
  pub programmes_are : (i : ℕ) (w : Wish) → slice_get d.wishes i ≡ Some w
      → w.programme < length d.programmes
  pub claims_are : claims
      ≡ map (λ p. map (claim_of d p) (line_of d orders p)) (range_with_len 0 (length d.programmes))
  pub notes_are : AreNotes d orders notes
