-- What a change of one mark asks and gives, in the words of the code.
use Rattle.std.proofs.Common.{ℕ, ◌+◌, ◌≤◌, ◌<◌, ◌≡◌, Bool, true, false, not, ◌&&◌, List, [], map, length}
use Rattle.std.proofs.Common.{arith, filter, Option, Some, None}
use Rattle.std.specs.Prelude.{slice_index, ◌==◌, All}
use Rattle.std.proofs.lemmas.Option.{unwrap_or-slice_get}
use Rattle.std.proofs.lemmas.List.{length-map}
use Rattle.std.proofs.lemmas.List.Elements.{All-filter}
use Rattle.std.proofs.lemmas.List.FromFn.{length-range_with_len, get_or-range_with_len}
use Rattle.admit_core.specs.Lists.{distinct}
use Rattle.std.specs.Option.{ForSome}
use Rattle.std.specs.List.{range_with_len}
use Rattle.admit_core.specs.declared.dossier.Wish.{Wish}
use Rattle.admit_core.specs.declared.state.Mark.{Mark}
use Rattle.admit_core.specs.DossierRows.{DossierRows, candidate_of}
use Rattle.admit_core.specs.State.{State, has_school, with_mark_at, holds_seat, holds_bed}
use Rattle.admit_core.specs.OwnWishes.{own_places}
use Rattle.admit_core.specs.AutoAnswer.{freed_by}
use Rattle.admit_core.specs.Validity.{IsValid, IsValidWish}
use Rattle.day_state.specs.Kept.{wish_in, holds_bed_in, one_if, recount, recount_some, has_seat_there}
use Rattle.day_state.specs.Kept.{has_bed_there, state_of, AreCounts, IsKept}
use Rattle.day_state.proofs.Places.{candidate_in}
use Rattle.day_state.proofs.KeptCounts.{kept_after, holders_after, count_bounds}
use Rattle.day_state.proofs.Freeing.{freed_there}

pub own_within : (d : DossierRows) (c : ℕ) → All (λ k. k < length d.wishes) (own_places d c)
own_within d c =
    let n = length d.wishes in
    All-filter (λ k. candidate_of d k == c) (λ k. k < n) (range_with_len 0 n)
    (λ k e lt. let in_range : k < n = omega (arith, length-range_with_len 0 n) in
    rw (get_or-range_with_len 0 n k e in_range) (omega arith))

pub one_at_most : (b : Bool) → one_if b ≤ 1
one_at_most true = omega arith
one_at_most false = omega arith

-- a count in range, that fits where one comes and is positive where one goes
pub record Fits (counts : List ℕ) (n k : ℕ) (had has : Bool) : Type 0 where
  pub place : k < length counts
  pub comes : slice_index counts k + one_if has < 4294967296
  pub goes : one_if had ≤ slice_index counts k + one_if has

fits_from : (old new : ℕ → ℕ → Bool) (ns : List ℕ) (n : ℕ) (counts : List ℕ) → AreCounts old (distinct ns) n counts
    → (k c : ℕ) → k < n → length ns ≤ 16000000
    → length (filter (λ x. new x k) (distinct ns)) + one_if (old c k)
    ≡ length (filter (λ x. old x k) (distinct ns)) + one_if (new c k)
    → Fits counts n k (old c k) (new c k)
fits_from old new ns n counts are k c lt short here =
    let bounds = count_bounds old new ns n counts are k c lt here in
    record {
      place = omega (arith, are.as_long);
      comes = omega (arith, bounds.1, one_at_most (new c k));
      goes = bounds.0;
    }

pub seat_fits : (s : State) (seats beds : List ℕ) (place : ℕ) (m : Mark) → IsKept s seats beds → place < length s.marks
    → length s.dossier.wishes ≤ 16000000 → (wish_in s.dossier.wishes place).programme < length s.dossier.programmes
    → Fits seats (length s.dossier.programmes) (wish_in s.dossier.wishes place).programme (has_seat_there s place)
    (has_seat_there (with_mark_at s place m) place)
seat_fits s seats beds place m kept lt short programme =
    let w = wish_in s.dossier.wishes place in
    let candidate = λ (v : Wish). v.candidate in
    fits_from (holds_seat s) (holds_seat (with_mark_at s place m)) (map candidate s.dossier.wishes)
    (length s.dossier.programmes) seats kept.by_programme w.programme w.candidate programme
    (omega (arith, length-map s.dossier.wishes candidate))
    (holders_after (λ v. v.programme == w.programme) s place m kept.marks lt)

bed_fits_at : (s : State) (seats beds : List ℕ) (place : ℕ) (m : Mark) → IsKept s seats beds → place < length s.marks
    → length s.dossier.wishes ≤ 16000000 → (o : Option ℕ) (h : ℕ) → o ≡ Some h → h < length s.dossier.schools
    → let c = (wish_in s.dossier.wishes place).candidate in
    Fits beds (length s.dossier.schools) h (holds_bed_in s c o) (holds_bed_in (with_mark_at s place m) c o)
bed_fits_at s seats beds place m kept lt short None h is within = absurd (cc)
bed_fits_at s seats beds place m kept lt short (Some g) h is within =
    let same : g ≡ h = (cc) in
    let w = wish_in s.dossier.wishes place in
    let candidate = λ (v : Wish). v.candidate in
    rw same
    (fits_from (holds_bed s) (holds_bed (with_mark_at s place m)) (map candidate s.dossier.wishes)
    (length s.dossier.schools) beds kept.by_school h w.candidate within
    (omega (arith, length-map s.dossier.wishes candidate))
    (holders_after (λ v. has_school v h) s place m kept.marks lt))

pub bed_fits : (s : State) (seats beds : List ℕ) (place : ℕ) (m : Mark) → IsKept s seats beds → place < length s.marks
    → length s.dossier.wishes ≤ 16000000 → ForSome (wish_in s.dossier.wishes place).school
    (λ h. h < length s.dossier.schools)
    → ForSome (wish_in s.dossier.wishes place).school
    (λ h. Fits beds (length s.dossier.schools) h (has_bed_there s place)
    (has_bed_there (with_mark_at s place m) place))
bed_fits s seats beds place m kept lt short school h is =
    bed_fits_at s seats beds place m kept lt short (wish_in s.dossier.wishes place).school h is (school h is)

-- what a wish names is there
pub wish_valid : (d : DossierRows) → IsValid d → (place : ℕ) → place < length d.wishes
    → IsValidWish d (wish_in d.wishes place)
wish_valid d valid place lt =
    rw (unwrap_or-slice_get d.wishes place (wish_in [] 0)) (valid.wishes place (wish_in [] 0) lt)

-- where the counts are kept, and the mark of a wish becomes m
module _ {d : DossierRows} {marks : List Mark} {seats beds : List ℕ} {wish : ℕ} (valid : IsValid d)
    (kept : IsKept (state_of d marks) seats beds) (lt : wish < length marks) (m : Mark) where
  named_valid : IsValidWish d (wish_in d.wishes wish)
  named_valid = wish_valid d valid wish (omega (arith, kept.marks))

  -- the count of the wish's programme, and that of its school, before the change
  pub seat_ready : Fits seats (length d.programmes) (wish_in d.wishes wish).programme
      (has_seat_there (state_of d marks) wish)
      (has_seat_there (with_mark_at (state_of d marks) wish m) wish)
  seat_ready = seat_fits (state_of d marks) seats beds wish m kept lt valid.size.wishes named_valid.programme

  pub bed_ready : ForSome (wish_in d.wishes wish).school
      (λ h. Fits beds (length d.schools) h (has_bed_there (state_of d marks) wish)
      (has_bed_there (with_mark_at (state_of d marks) wish m) wish))
  bed_ready = bed_fits (state_of d marks) seats beds wish m kept lt valid.size.wishes named_valid.school

  -- the invariant after the change
  pub kept_changed : let s = state_of d marks in let new = with_mark_at s wish m in
      IsKept new
      (recount seats (wish_in d.wishes wish).programme (has_seat_there s wish) (has_seat_there new wish))
      (recount_some beds (wish_in d.wishes wish).school (has_bed_there s wish) (has_bed_there new wish))
  kept_changed = kept_after (state_of d marks) seats beds wish m kept lt named_valid.programme named_valid.school

  -- what the change frees
  pub freed_changed : let s = state_of d marks in let new = with_mark_at s wish m in
      freed_by s new (candidate_of d wish)
      ≡ record {
        seats = one_if (has_seat_there s wish && not (has_seat_there new wish));
        beds = one_if (has_bed_there s wish && not (has_bed_there new wish));
      }
  freed_changed =
      rw (candidate_in d.wishes wish)
      (freed_there (state_of d marks) wish m kept.marks lt named_valid.programme named_valid.school)
