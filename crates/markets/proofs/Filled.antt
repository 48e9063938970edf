-- The list of the programmes that have more than their seats, as a count changes.
use Rattle.std.proofs.Common.{ℕ, ◌<◌, ◌≡◌, Bool, true, false, cond, List, map, length, get_or, inl, inr, refl, sym, ◌∙◌}
use Rattle.std.proofs.Common.{ap, arith, nat_lt, filter, Option, Some, None, set}
use Rattle.std.specs.Prelude.{is_some, slice_index}
use Rattle.std.specs.List.{range_with_len}
use Rattle.std.proofs.lemmas.Bool.{cases_eq}
use Rattle.std.proofs.lemmas.List.{length-set, get_or-set_same, get_or-set_other}
use Rattle.std.proofs.lemmas.List.FromFn.{length-map-range_with_len, get_or-map-range_with_len}
use Rattle.linked_demand.specs.Listed.{answered, AnswersAreListed}
use Rattle.linked_demand.proofs.Answered.{filter_agree}
use Rattle.markets.specs.Fillings.{is_over, AreListed}

-- a test as an answer
abbrev pub mark : Bool → Option ℕ
mark b = cond b (Some 0) None

pub some_mark : (b : Bool) → is_some (mark b) ≡ b
some_mark true = refl
some_mark false = refl

abbrev pub marks : List ℕ → List ℕ → List (Option ℕ)
marks seats counts = map (λ h. mark (is_over seats counts h)) (range_with_len 0 (length counts))

pub long : (seats counts : List ℕ) → length (marks seats counts) ≡ length counts
long seats counts = length-map-range_with_len (λ h. mark (is_over seats counts h)) 0 (length counts)

pub mark_at : (seats counts : List ℕ) (h : ℕ) → h < length counts
    → is_some (get_or (marks seats counts) h None) ≡ is_over seats counts h
mark_at seats counts h lt =
    ap is_some (get_or-map-range_with_len (λ k. mark (is_over seats counts k)) 0 (length counts) h h None lt
    (omega arith))
    ∙ some_mark (is_over seats counts h)

answered_marks : (seats counts : List ℕ)
    → answered (marks seats counts) ≡ filter (is_over seats counts) (range_with_len 0 (length counts))
answered_marks seats counts =
    ap (λ n. filter (λ h. is_some (get_or (marks seats counts) h None)) (range_with_len 0 n)) (long seats counts)
    ∙ filter_agree (λ h. is_some (get_or (marks seats counts) h None)) (is_over seats counts) 0 (length counts)
    (λ h ge lt. mark_at seats counts h (omega (arith, lt)))

pub as_answers : (seats counts places : List ℕ) (room : ℕ)
    → AreListed (record { seats = seats; counts = counts }) places room
    → AnswersAreListed (marks seats counts) places room
as_answers seats counts places room right =
    record {
      listed = right.listed ∙ sym (answered_marks seats counts);
      room = omega (arith, right.room, long seats counts);
    }

pub from_answers : (seats counts new : List ℕ) (k count room : ℕ) → k < length counts
    → AnswersAreListed (set (marks seats counts) k (mark (nat_lt (slice_index seats k) count))) new room
    → AreListed (record { seats = seats; counts = set counts k count }) new room
from_answers seats counts new k count room lt right =
    let x : Option ℕ = mark (nat_lt (slice_index seats k) count) in
    let ms : List (Option ℕ) = marks seats counts in
    let n_now : length (set ms k x) ≡ length counts = length-set ms k x ∙ long seats counts in
    let each : (h : ℕ) → h < length counts → is_some (get_or (set ms k x) h None)
    ≡ is_over seats (set counts k count) h =
    λ h h_lt. elim (cases_eq h k) [
      | inl here ↦
          let marked : is_some (get_or (set ms k x) k None) ≡ nat_lt (slice_index seats k) count =
          ap is_some (get_or-set_same ms k x None (omega (arith, lt, long seats counts)))
          ∙ some_mark (nat_lt (slice_index seats k) count) in
          let counted : is_over seats (set counts k count) k ≡ nat_lt (slice_index seats k) count =
          ap (nat_lt (slice_index seats k))
          (get_or-set_same counts k count 0 lt) in
          ap (λ j. is_some (get_or (set ms k x) j None)) here ∙ marked ∙ sym counted
          ∙ ap (is_over seats (set counts k count)) (sym here)
      | inr other ↦
          ap is_some (get_or-set_other ms k h x None other) ∙ mark_at seats counts h h_lt
          ∙ ap (nat_lt (slice_index seats h)) (sym (get_or-set_other counts k h count 0 other))
    ] in
    record {
      listed =
          right.listed ∙ ap (λ n. filter (λ h. is_some (get_or (set ms k x) h None)) (range_with_len 0 n)) n_now
          ∙ filter_agree (λ h. is_some (get_or (set ms k x) h None)) (is_over seats (set counts k count)) 0
          (length counts)
          (λ h ge h_lt. each h (omega (arith, h_lt)))
          ∙ ap (λ n. filter (is_over seats (set counts k count)) (range_with_len 0 n))
          (sym (length-set counts k count));
      room = omega (arith, right.room, n_now, length-set counts k count);
    }
