-- Bundles: the wishes of one candidate in one programme, or in one school.
use Rattle.std.specs.Prelude.{◌≡◌, ℕ, ◌<◌, Bool, true, false, not, ◌&&◌, nat_lt, List, [], ◌∷◌, length, map, filter}
use Rattle.std.specs.Prelude.{take, All, IsTrue, ◌/◌, is_some, slice_index_or}
use Rattle.std.specs.Prelude.{Option, Some, None, ◌==◌, slice_get, slice_index, slice_set, unwrap_or, if◌then◌else◌}
use Rattle.std.specs.Option.{ForSome}
use Rattle.std.specs.List.{find, list_any, range_with_len}
use Rattle.admit_core.specs.declared.dossier.Wish.{Wish}
use Rattle.admit_core.specs.declared.state.Mark.{Mark}
use Rattle.admit_core.specs.DossierRows.{DossierRows}
use Rattle.admit_core.specs.State.{State, is_live, is_school}
use Rattle.day_state.specs.declared.bundle_numbers.Later.{Later}
use Rattle.day_state.specs.declared.bundles.Sites.{Sites}
use Rattle.day_state.specs.declared.bundles.Sites.TheVariants.{Programmes, Schools}
use Rattle.day_state.specs.declared.numbers.SharedWish.{SharedWish}
use Rattle.day_state.specs.declared.numbers.BundleNumber.{BundleNumber}
use Rattle.day_state.specs.declared.numbers.BundleNumber.TheVariants.{NoSite, Alone, Shared}
use Rattle.day_state.specs.Kept.{mark_in, wish_in, IsKept}

-- the programme of a wish, or its school
abbrev pub site_of : Sites → Wish → Option ℕ
site_of Programmes w = Some w.programme
site_of Schools w = w.school

-- two numbers are given and the same
abbrev pub is_same : Option ℕ → Option ℕ → Bool
is_same None o = false
is_same (Some n) o = is_school o n

-- two wishes are of one candidate and one site
abbrev pub together : Sites → Wish → Wish → Bool
together sites v w = (w.candidate == v.candidate) && is_same (site_of sites v) (site_of sites w)

-- the number at a place, which may be none
abbrev pub number_in : List (Option ℕ) → ℕ → Option ℕ
number_in ns k = unwrap_or (slice_get ns k) None

-- the first wish that is together with the one at a place
abbrev pub bundle_of : Sites → List Wish → ℕ → Option ℕ
bundle_of sites ws k =
    find (λ j. together sites (wish_in ws k) (wish_in ws j)) (range_with_len 0 (length ws))

-- of each wish the first one of its bundle, by which the bundle is known
abbrev pub bundles_of : Sites → List Wish → List (Option ℕ)
bundles_of sites ws = map (bundle_of sites ws) (range_with_len 0 (length ws))

-- the sites of all wishes are below a count
abbrev pub AreSitesBelow : Sites → List Wish → ℕ → Type 0
AreSitesBelow sites ws count =
    (k : ℕ) → k < length ws → ForSome (site_of sites (wish_in ws k)) (λ h. h < count)

-- the wish at k is in the bundle that begins at b, and is not its first
abbrev pub is_later : List (Option ℕ) → ℕ → ℕ → Bool
is_later bundles b k = not (k == b) && is_same (Some b) (number_in bundles k)

-- a bundle of two wishes or more begins at a place
abbrev pub is_shared : List (Option ℕ) → ℕ → Bool
is_shared bundles b = list_any (is_later bundles b) (range_with_len 0 (length bundles))

abbrev pub shared_flags : List (Option ℕ) → List Bool
shared_flags bundles = map (is_shared bundles) (range_with_len 0 (length bundles))

-- how many of the first k flags are true
abbrev pub true_before : List Bool → ℕ → ℕ
true_before flags k = length (filter (λ b. b) (take k flags))

-- the number of a bundle of two wishes or more: how many of them begin before it
abbrev pub rank_of : List (Option ℕ) → ℕ → ℕ
rank_of bundles b = true_before (shared_flags bundles) b

-- what is noted of a wish's bundle
abbrev pub number_of : List (Option ℕ) → Option ℕ → BundleNumber
number_of bundles None = NoSite
number_of bundles (Some b) = if is_shared bundles b then Shared (rank_of bundles b) else Alone

abbrev pub numbers_by : List (Option ℕ) → List BundleNumber
numbers_by bundles = map (number_of bundles) bundles

abbrev pub all_numbers : Sites → List Wish → List BundleNumber
all_numbers sites ws = numbers_by (bundles_of sites ws)

-- the number at a place
abbrev pub number_at : List BundleNumber → ℕ → BundleNumber
number_at ns k = unwrap_or (slice_get ns k) NoSite

-- the number of the bundle of the wish at a place in its programme
abbrev pub seat_bundle : DossierRows → ℕ → BundleNumber
seat_bundle d k = number_at (all_numbers Programmes d.wishes) k

-- how many bundles have two wishes or more
abbrev pub shared_by : List (Option ℕ) → ℕ
shared_by bundles = rank_of bundles (length bundles)

abbrev pub shared_in_all : Sites → List Wish → ℕ
shared_in_all sites ws = shared_by (bundles_of sites ws)

-- the number of an entry that was found
abbrev pub number_found : Option SharedWish → ℕ
number_found None = 0
number_found (Some e) = e.number

-- the number of the bundle of the wish at k, by whether it has a site and whether it shares its bundle
abbrev pub number_for : List SharedWish → ℕ → Bool → Bool → BundleNumber
number_for entries k sited several =
    if several then Shared (number_found (find (λ e. e.wish == k) entries)) else if sited then Alone else NoSite

abbrev pub numbers_with : List Bool → List Bool → List SharedWish → List BundleNumber
numbers_with sited several entries =
    map (λ k. number_for entries k (slice_index_or sited k false) (slice_index_or several k false))
    (range_with_len 0 (length sited))

-- before the place of a block of 64 wishes stand entries of earlier blocks alone
abbrev pub AreStarts : List SharedWish → List ℕ → Type 0
AreStarts entries starts =
    (block : ℕ) → All (λ e. e.wish / 64 < block) (take (slice_index starts block) entries)

-- the number of a bundle that has one
abbrev pub count_of : BundleNumber → Option ℕ
count_of NoSite = None
count_of Alone = None
count_of (Shared n) = Some n

-- the number of the bundle of the wish at a place, where it has one
abbrev pub count_at : List BundleNumber → ℕ → Option ℕ
count_at ns k = count_of (number_at ns k)

-- how many live wishes a bundle has
abbrev pub live_in_bundle : List Mark → List (Option ℕ) → ℕ → ℕ
live_in_bundle ms numbers b =
    length (filter (λ k. is_live (mark_in ms k) && is_same (Some b) (number_in numbers k))
    (range_with_len 0 (length ms)))

-- each bundle of two wishes or more has its count
pub record AreLiveCounts (ms : List Mark) (bundles : List (Option ℕ)) (live : List ℕ) : Type 0 where
  pub as_long : length live ≡ rank_of bundles (length bundles)
  pub each : (b : ℕ) → b < length bundles → is_shared bundles b ≡ true
      → slice_index live (rank_of bundles b) ≡ live_in_bundle ms bundles b

-- the bundles of a state's wishes, with their counts
pub record IsBundled (sites : Sites) (s : State) (numbers : List BundleNumber)
    (live : List ℕ) : Type 0 where
  pub numbered : numbers ≡ all_numbers sites s.dossier.wishes
  pub counts : AreLiveCounts s.marks (bundles_of sites s.dossier.wishes) live

-- all that is kept beside the marks: the numbers of candidates by site, and the bundles
pub record KeepsCounts (s : State) (seats beds : List ℕ) (of_programmes : List BundleNumber)
    (in_programmes : List ℕ) (of_schools : List BundleNumber) (in_schools : List ℕ) : Type 0 where
  pub kept : IsKept s seats beds
  pub programmes : IsBundled Programmes s of_programmes in_programmes
  pub schools : IsBundled Schools s of_schools in_schools

-- a bundle has a live wish; where it has no number, the wish's own mark tells it
abbrev pub has_live : List ℕ → BundleNumber → Bool → Bool
has_live live NoSite lives = false
has_live live Alone lives = lives
has_live live (Shared n) lives = nat_lt 0 (slice_index live n)

-- the first wish of a bundle to which the wish at a place belongs, where `found` is that of the
-- candidate who came last to its site
abbrev pub joined : List Wish → Option ℕ → ℕ → ℕ
joined ws None place = place
joined ws (Some found) place =
    if (wish_in ws found).candidate == (wish_in ws place).candidate then found else place

abbrev pub bundle_there : List Wish → List (Option ℕ) → Option ℕ → ℕ → Option ℕ
bundle_there ws last None place = None
bundle_there ws last (Some site) place = Some (joined ws (number_in last site) place)

-- the numbers that came last to each site, after one more
abbrev pub noted : List (Option ℕ) → Option ℕ → Option ℕ → List (Option ℕ)
noted last None number = last
noted last (Some site) number = slice_set last site number

-- the candidates who came last to each site, after one more
abbrev pub noted_candidate : List ℕ → Option ℕ → ℕ → List ℕ
noted_candidate last None candidate = last
noted_candidate last (Some site) candidate = slice_set last site candidate

-- the candidates of the wishes that came last to each site
pub record AreTheirs (ws : List Wish) (last : List (Option ℕ)) (candidates : List ℕ) : Type 0 where
  pub long : length candidates ≡ length last
  pub each : (h : ℕ) → h < length last
      → ForSome (number_in last h) (λ b. slice_index candidates h ≡ (wish_in ws b).candidate)

-- where bundles of two wishes or more begin, ascending
abbrev pub shared_places : List (Option ℕ) → List ℕ
shared_places bundles = filter (is_shared bundles) (range_with_len 0 (length bundles))

-- a wish is in a bundle, and is not its first one
pub record IsLater (bundles : List (Option ℕ)) (l : Later) : Type 0 where
  pub within : l.wish < length bundles
  pub begins : l.first < length bundles
  pub bundle : number_in bundles l.wish ≡ Some l.first
  pub other : l.first ≡ l.wish → ⊥

-- all such wishes
pub record AreLaters (bundles : List (Option ℕ)) (laters : List Later) : Type 0 where
  pub each : All (IsLater bundles) laters
  pub all : (k b : ℕ) → k < length bundles → number_in bundles k ≡ Some b → (b ≡ k → ⊥)
      → IsTrue (list_any (λ l. l.wish == k) laters)

-- the wish at a place, where it is one
abbrev pub later_at : ℕ → Option ℕ → List Later
later_at k None = []
later_at k (Some b) = if b == k then [] else record { wish = k; first = b } ∷ []

-- an entry tells the number of a bundle of two wishes or more
pub record IsEntry (bundles : List (Option ℕ)) (e : SharedWish) : Type 0 where
  pub within : e.wish < length bundles
  pub number : number_of bundles (number_in bundles e.wish) ≡ Shared e.number

-- each wish of such a bundle has one
pub record AreEntries (bundles : List (Option ℕ)) (entries : List SharedWish) : Type 0 where
  pub each : All (IsEntry bundles) entries
  pub all : (k b : ℕ) → k < length bundles → number_in bundles k ≡ Some b → is_shared bundles b ≡ true
      → list_any (λ e. e.wish == k) entries ≡ true

-- the entries of numbers: each tells the number of a wish in a bundle of two wishes or more, and each
-- such wish has one
pub record AreEntriesOf (ns : List BundleNumber) (entries : List SharedWish) : Type 0 where
  pub each : All (λ e. number_at ns e.wish ≡ Shared e.number) entries
  pub all : (k n : ℕ) → number_at ns k ≡ Shared n → list_any (λ e. e.wish == k) entries ≡ true

-- of each wish whether it has a site
pub record AreSited (sites : Sites) (ws : List Wish) (flags : List Bool) : Type 0 where
  pub long : length flags ≡ length ws
  pub each : (k : ℕ) → k < length ws → slice_index_or flags k false ≡ is_some (site_of sites (wish_in ws k))

-- of each of so many wishes whether it has an entry
pub record HaveEntries (entries : List SharedWish) (count : ℕ) (flags : List Bool) : Type 0 where
  pub long : length flags ≡ count
  pub each : (k : ℕ) → k < count → slice_index_or flags k false ≡ list_any (λ e. e.wish == k) entries
