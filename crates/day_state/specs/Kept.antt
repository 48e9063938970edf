-- What is kept beside the marks: an index of the candidates, and the numbers of those who are live.
use Rattle.std.specs.Prelude.{◌≡◌, ℕ, ◌+◌, ◌-◌, ◌*◌, ◌%◌, ◌≤◌, ◌<◌, Bool, true, false, cond, ◌&&◌, List, map, length}
use Rattle.std.specs.Prelude.{[], filter, Option, Some, None, ◌==◌, slice_get, slice_index, slice_set, unwrap_or, All}
use Rattle.std.specs.List.{list_any, range_with_len}
use Rattle.std.specs.List.Sorted.{IsNonDecreasingBy}
use Rattle.admit_core.specs.declared.dossier.Wish.{Wish}
use Rattle.admit_core.specs.declared.state.Status.TheVariants.{Waiting}
use Rattle.admit_core.specs.declared.state.Mark.{Mark}
use Rattle.day_state.specs.declared.spans.Span.{Span}
use Rattle.day_state.specs.Spans.{IsWithin, part_of}
use Rattle.admit_core.specs.DossierRows.{DossierRows, candidates_of}
use Rattle.admit_core.specs.Lists.{is_among}
use Rattle.admit_core.specs.State.{State, entries, is_live, status_number, holds_seat, holds_bed}

-- a wish that waits from the start
abbrev pub waiting_mark : Mark
waiting_mark = record { status = Waiting; stamp = record { day = 0; pass = 0 } }

-- two marks are the same
abbrev pub is_same_mark : Mark → Mark → Bool
is_same_mark m n =
    (status_number m.status == status_number n.status)
    && ((m.stamp.day == n.stamp.day) && (m.stamp.pass == n.stamp.pass))

-- the mark and the wish at a place
abbrev pub mark_in : List Mark → ℕ → Mark
mark_in ms k =
    unwrap_or (slice_get ms k) (record { status = Waiting; stamp = record { day = 0; pass = 0 } })

abbrev pub wish_in : List Wish → ℕ → Wish
wish_in ws k =
    unwrap_or (slice_get ws k)
    (record { id = 0; candidate = 0; programme = 0; school = None; board_rank = 0; preference = 0 })

-- the candidate of the wish at a place, or 0 where none is there
abbrev pub candidate_in : List Wish → ℕ → ℕ
candidate_in ws k = slice_index (map (λ w. w.candidate) ws) k

-- the candidate of the wish at a place and, behind it, the place, as one number
abbrev pub key_at : List Wish → ℕ → ℕ
key_at ws k = candidate_in ws k * 4294967296 + k

-- the place in such a number
abbrev pub place_in : ℕ → ℕ
place_in key = key % 4294967296

-- the keys of all wishes
abbrev pub all_keys : List Wish → List ℕ
all_keys ws = map (key_at ws) (range_with_len 0 (length ws))

-- the wish at a place is live and passes a test
abbrev pub lives_at : List Wish → List Mark → (Wish → Bool) → ℕ → Bool
lives_at ws ms test k = is_live (mark_in ms k) && test (wish_in ws k)

-- a candidate has a live wish that passes a test
abbrev pub holds_one : (Wish → Bool) → State → ℕ → Bool
holds_one test s c = list_any (λ (w, m). is_live m && (w.candidate == c) && test w) (entries s)

-- a candidate is live in a school, where one is given
abbrev pub holds_bed_in : State → ℕ → Option ℕ → Bool
holds_bed_in s c None = false
holds_bed_in s c (Some h) = holds_bed s c h

-- the candidate of the wish at a place is live in the programme, or in the school, of that wish
abbrev pub has_seat_there : State → ℕ → Bool
has_seat_there s place =
    holds_seat s (wish_in s.dossier.wishes place).candidate
    (wish_in s.dossier.wishes place).programme

abbrev pub has_bed_there : State → ℕ → Bool
has_bed_there s place =
    holds_bed_in s (wish_in s.dossier.wishes place).candidate
    (wish_in s.dossier.wishes place).school

-- the state of a dossier with these marks
abbrev pub state_of : DossierRows → List Mark → State
state_of d marks = record { dossier = d; marks = marks }

-- 1 where it is true
abbrev pub one_if : Bool → ℕ
one_if b = cond b 1 0

-- the counts where one candidate's answer at a place was the first truth value and is the second
abbrev pub recount : List ℕ → ℕ → Bool → Bool → List ℕ
recount counts k had has = slice_set counts k (slice_index counts k + one_if has - one_if had)

abbrev pub recount_some : List ℕ → Option ℕ → Bool → Bool → List ℕ
recount_some counts None had has = counts
recount_some counts (Some k) had has = recount counts k had has

-- each count is the number of the candidates who hold there
pub record AreCounts (holds : ℕ → ℕ → Bool) (candidates : List ℕ) (n : ℕ)
    (counts : List ℕ) : Type 0 where
  pub as_long : length counts ≡ n
  pub each : (k : ℕ) → k < n → slice_index counts k ≡ length (filter (λ c. holds c k) candidates)

-- the counts of a state by programme and by school
pub record IsKept (s : State) (seats beds : List ℕ) : Type 0 where
  pub marks : length s.marks ≡ length s.dossier.wishes
  pub by_programme : AreCounts (holds_seat s) (candidates_of s.dossier)
      (length s.dossier.programmes) seats
  pub by_school : AreCounts (holds_bed s) (candidates_of s.dossier) (length s.dossier.schools) beds

-- the places of all wishes by candidate, those of one candidate ascending
pub record IsIndex (ws : List Wish) (order : List ℕ) : Type 0 where
  pub as_long : length order ≡ length ws
  pub within : All (λ k. k < length ws) order
  pub rises : IsNonDecreasingBy (candidate_in ws) order
  pub own : (c : ℕ) → filter (λ k. candidate_in ws k == c) order
      ≡ filter (λ k. candidate_in ws k == c) (range_with_len 0 (length ws))

-- where in the order the wishes of a candidate stand
pub record IsSpan (ws : List Wish) (order : List ℕ) (c : ℕ) (span : Span) : Type 0 where
  pub within : IsWithin (length order) span
  pub own : part_of order span ≡ filter (λ k. candidate_in ws k == c) order

-- where in the order the wishes of the candidate with a number stand: up to where the next ones begin
abbrev pub span_at : List ℕ → ℕ → Span
span_at begins n = record { from = slice_index begins n; to = slice_index begins (n + 1) }

-- from one place up to another an order by a key holds one key, and that key nowhere else from there on
pub record HoldsOneKey (key : ℕ → ℕ) (order : List ℕ) (from to : ℕ) : Type 0 where
  pub alike : (k : ℕ) → from ≤ k → k < to
      → key (slice_index order k) ≡ key (slice_index order from)
  pub ends : to < length order → ¬ (key (slice_index order to) ≡ key (slice_index order from))

-- some places hold a number, and the others what they held
pub record IsPut (places : List ℕ) (number : ℕ) (old new : List ℕ) : Type 0 where
  pub as_long : length new ≡ length old
  pub here : (k : ℕ) → k < length old → is_among k places ≡ true → slice_index new k ≡ number
  pub others : (k : ℕ) → is_among k places ≡ false → slice_index new k ≡ slice_index old k

-- a candidate has a number, by where their wishes begin in the order
pub record IsNumber (ws : List Wish) (order begins : List ℕ) (c n : ℕ) : Type 0 where
  pub ends : n + 1 < length begins
  pub span : IsSpan ws order c (span_at begins n)

-- each wish has the number of its candidate
pub record AreNumbered (ws : List Wish) (order numbers begins : List ℕ) : Type 0 where
  pub one_each : length numbers ≡ length ws
  pub each : (k : ℕ) → k < length ws
      → IsNumber ws order begins (candidate_in ws k) (slice_index numbers k)

-- a wish of a candidate is found, where they have one in the order
abbrev pub FindsOne : List Wish → List ℕ → ℕ → Option ℕ → Type 0
FindsOne ws order c None = filter (λ k. candidate_in ws k == c) order ≡ []
FindsOne ws order c (Some k) = (k < length ws) × (candidate_in ws k ≡ c)

-- an index by candidate and by wish
pub record IsIndexed (ws : List Wish) (order numbers begins : List ℕ) : Type 0 where
  pub by_candidate : IsIndex ws order
  pub by_wish : AreNumbered ws order numbers begins
