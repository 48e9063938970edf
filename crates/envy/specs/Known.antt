-- What tells at once whether a wish's candidate holds a better one, and who behind them is live.
use Rattle.std.specs.Prelude.{◌≡◌, ◌<◌, ℕ, Bool, false, ◌&&◌, ◌||◌, List, length, Option, Some, None, IfSome, take}
use Rattle.std.specs.Prelude.{◌==◌, if◌then◌else◌, is_some, nat_eq, nat_le, nat_lt, option_map, slice_index}
use Rattle.std.specs.List.{list_any}
use Rattle.admit_core.specs.declared.dossier.Wish.{Wish}
use Rattle.admit_core.specs.declared.ranking.CallOrder.{CallOrder}
use Rattle.admit_core.specs.declared.state.Mark.{Mark}
use Rattle.admit_core.specs.DossierRows.{DossierRows, candidate_of}
use Rattle.admit_core.specs.OwnWishes.{own_places}
use Rattle.admit_core.specs.State.{State, entries, is_live}
use Rattle.day_state.specs.Bundles.{number_in}
use Rattle.day_state.specs.Kept.{wish_in}
use Rattle.linked_demand.specs.Opens.{line_of}
use Rattle.linked_demand.specs.Rows.{line_place}
use Rattle.envy.specs.declared.blocks.Block.{Block}

-- whether a number that may be missing is below another
abbrev pub is_below : Option ℕ → ℕ → Bool
is_below None q = false
is_below (Some n) q = nat_lt n q

-- whether a place that may be missing is this one, or stands behind it
abbrev pub reaches : Option ℕ → ℕ → Bool
reaches None k = false
reaches (Some n) k = nat_le k n

-- the first wish of the candidate of the wish at a place
abbrev pub first_own : DossierRows → ℕ → ℕ
first_own d k = slice_index (own_places d (candidate_of d k)) 0

-- a candidate's live wish whose preference number is below another
abbrev pub is_better : ℕ → ℕ → Wish × Mark → Bool
is_better c q (w, m) = is_live m && (w.candidate == c) && nat_lt w.preference q

-- of each candidate, at the place of their first wish, the least preference number of those of
-- these wishes that are live
pub record AreBestOf (d : DossierRows) (es : List (Wish × Mark))
    (best : List (Option ℕ)) : Type 0 where
  pub as_long : length best ≡ length d.wishes
  pub each : (k q : ℕ) → k < length d.wishes
      → is_below (number_in best (first_own d k)) q
      ≡ list_any (is_better (wish_in d.wishes k).candidate q) es

abbrev pub AreBest : State → List (Option ℕ) → Type 0
AreBest s = AreBestOf s.dossier (entries s)

-- of the first wishes alone
abbrev pub AreBestTo : State → ℕ → List (Option ℕ) → Type 0
AreBestTo s n = AreBestOf s.dossier (take n (entries s))

-- a live wish for a programme whose candidate does not stand before a place of its line
abbrev pub is_live_from : DossierRows → List CallOrder → ℕ → ℕ → Wish × Mark → Bool
is_live_from d orders p k (w, m) =
    is_live m && (w.programme == p) && nat_le k (line_place d orders w)

-- the place in its line of the candidate of the wish at a place
abbrev pub place_at : DossierRows → List CallOrder → ℕ → ℕ
place_at d orders k = line_place d orders (wish_in d.wishes k)

-- a wish for a programme, whose candidate stands in its line
pub record IsFor (d : DossierRows) (orders : List CallOrder) (p k : ℕ) : Type 0 where
  pub within : k < length d.wishes
  pub programme : (wish_in d.wishes k).programme ≡ p
  pub called : place_at d orders k < length (line_of d orders p)

-- of each programme that one of these wishes, of those that are live, whose candidate stands last
-- in its line
pub record AreLastOf (d : DossierRows) (orders : List CallOrder) (es : List (Wish × Mark))
    (lasts : List (Option ℕ)) : Type 0 where
  pub as_long : length lasts ≡ length d.programmes
  pub wishes : (p : ℕ) → p < length d.programmes → IfSome (number_in lasts p) (IsFor d orders p)
  pub each : (p k : ℕ) → p < length d.programmes
      → reaches (option_map (place_at d orders) (number_in lasts p)) k
      ≡ list_any (is_live_from d orders p k) es

abbrev pub AreLast : State → List CallOrder → List (Option ℕ) → Type 0
AreLast s orders = AreLastOf s.dossier orders (entries s)

-- of the first wishes alone
abbrev pub AreLastTo : State → List CallOrder → ℕ → List (Option ℕ) → Type 0
AreLastTo s orders n = AreLastOf s.dossier orders (take n (entries s))

-- the candidate of the last live wish, where they stand behind that of the wish at a place
abbrev pub envied_by : DossierRows → List CallOrder → Option ℕ → ℕ → Option ℕ
envied_by d orders None k = None
envied_by d orders (Some last) k =
    if nat_lt (place_at d orders k) (place_at d orders last)
    then Some (wish_in d.wishes last).candidate else None

-- a seat is left, or somebody is envied
abbrev pub has_reason : Block → Bool
has_reason block = nat_lt 0 block.left || is_some block.envied
