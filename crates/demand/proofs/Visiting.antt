-- A walk along a call order: whose proposed wishes are flagged so far.
use Rattle.std.proofs.Common.{subst, ℕ, ◌+◌, ◌≤◌, ◌<◌, ◌≡◌, Bool, true, false, cond, ◌&&◌, ◌||◌, List, length, take}
use Rattle.std.proofs.Common.{get_or, inl, inr, refl, sym, ◌∙◌, ap, arith, nat_eq, nat_lt, nat_le, count_by}
use Rattle.std.specs.Prelude.{◌==◌, map, replicate}
use Rattle.std.specs.List.{range_with_len}
use Rattle.std.proofs.lemmas.Bool.{cases_Bool, false≢true, or_cases, or_left, or_right, eqb-true, eq-eqb, ltb-true}
use Rattle.std.proofs.lemmas.Bool.{lt-ltb, leb-true, le-leb, and_left, and_right, cases_order, le-ltb, ne_eqb, or_from}
use Rattle.std.proofs.lemmas.List.{take_all, length-take-le, length-replicate, get_or-replicate}
use Rattle.std.proofs.lemmas.Simd.{map-map}
use Rattle.std.proofs.lemmas.List.FromFn.{fill_by_all}
use Rattle.admit_core.specs.declared.dossier.Wish.{Wish}
use Rattle.admit_core.specs.declared.state.Mark.{Mark}
use Rattle.admit_core.specs.declared.ranking.CallOrder.{CallOrder}
use Rattle.admit_core.specs.Lists.{is_among}
use Rattle.admit_core.specs.DossierRows.{limit_of}
use Rattle.admit_core.specs.State.{State, holds_seat, seats_left}
use Rattle.admit_core.specs.OwnWishes.{own_places}
use Rattle.admit_core.specs.Proposals.{order_of, before, ahead, needs_no_seat, has_open_wish, wants_seat, is_open}
use Rattle.admit_core.specs.Proposals.{is_proposed}
use Rattle.day_state.specs.Kept.{wish_in, mark_in}
use Rattle.proposals.specs.Flags.{SetsAlso}
use Rattle.proposals.specs.Open.{is_open_at}
use Rattle.proposals.specs.Called.{AreCalled}
use Rattle.demand.specs.Proposed.{is_served_at, is_proposed_at, proposed_flags}
use Rattle.proposals.proofs.Front.{front_short, front_fewer, front_same, among_more, count_more}
use Rattle.day_state.proofs.Places.{entry_in, entries_by_place}
use Rattle.proposals.proofs.OwnOpen.{no_open, among_own}
use Rattle.proposals.proofs.Setting.{sets_then, sets_none, sets_same}

-- who stands at a place of the order is called by the limit or by the seats
abbrev pub is_called_at : State → List ℕ → ℕ → List ℕ → ℕ → Bool
is_called_at s bars p order i =
    nat_lt i (limit_of s.dossier p) || nat_lt (count_by (wants_seat s bars p) (take i order)) (seats_left s p)

abbrev is_served : State → List ℕ → ℕ → List ℕ → ℕ → ℕ → Bool
is_served s bars p order i c = holds_seat s c p || is_called_at s bars p order i

-- the wishes of a programme that are proposed, of those who stand in a list
abbrev pub is_proposed_of : State → List CallOrder → List ℕ → ℕ → List ℕ → ℕ → Bool
is_proposed_of s orders bars p called k =
    is_among (wish_in s.dossier.wishes k).candidate called && is_proposed_at s orders bars p k

-- how far the walk has come
pub record IsWalked (s : State) (orders : List CallOrder) (bars : List ℕ) (p : ℕ) (order : List ℕ) (i ahead : ℕ)
    (old now : List Bool) : Type 0 where
  pub counted : ahead ≡ count_by (wants_seat s bars p) (take i order)
  pub flags : SetsAlso (is_proposed_of s orders bars p (take i order)) old now

ends : (among proposed : Bool) → (among && (proposed && false)) ≡ (proposed && false)
ends true proposed = refl
ends false true = refl
ends false false = refl

-- bits: once more for one who is among them, and for the first time for another
bits : (among opens served called : Bool) → (called ≡ true → served ≡ true)
    → (among ≡ false → served ≡ true → called ≡ true)
    → ((among && ((opens && served) && true)) || (true && (opens && true) && called))
    ≡ ((among || true) && ((opens && served) && true))
bits true true true called h g = refl
bits true true false true h g = absurd (false≢true (h refl))
bits true true false false h g = refl
bits true false served called h g = refl
bits false true true true h g = refl
bits false true true false h g = absurd (false≢true (g refl refl))
bits false true false true h g = absurd (false≢true (h refl))
bits false true false false h g = refl
bits false false served called h g = refl

other_programme : (among opens served called own : Bool)
    → ((among && ((opens && served) && false)) || (own && (opens && false) && called))
    ≡ ((among || own) && ((opens && served) && false))
other_programme true true true called true = refl
other_programme true true true called false = refl
other_programme true true false called true = refl
other_programme true true false called false = refl
other_programme true false served called true = refl
other_programme true false served called false = refl
other_programme false true true called true = refl
other_programme false true true called false = refl
other_programme false true false called true = refl
other_programme false true false called false = refl
other_programme false false served called true = refl
other_programme false false served called false = refl

other_candidate : (among rest x y : Bool) → ((among && rest) || (false && x && y)) ≡ ((among || false) && rest)
other_candidate true true x y = refl
other_candidate true false x y = refl
other_candidate false rest x y = refl

module _ (s : State) (orders : List CallOrder) (bars : List ℕ) (p : ℕ) (order : List ℕ)
    (is : order ≡ order_of s.dossier orders p) (i : ℕ) (lt : i < length order) where
  -- the candidate at a place of the order is served there where their wish is by the rule
  served_here : (w : Wish) → w.programme ≡ p → get_or order i 0 ≡ w.candidate
      → is_served s bars w.programme order i w.candidate ≡ true
      → (needs_no_seat s orders w || nat_lt (ahead s orders bars w) (seats_left s w.programme)) ≡ true
  served_here w programme at t =
      let held = holds_seat s w.candidate w.programme in
      let limit = limit_of s.dossier w.programme in
      let left = seats_left s w.programme in
      let wants = wants_seat s bars w.programme in
      let front : before s orders w ≡ before s orders w = refl in
      let whole : order_of s.dossier orders w.programme ≡ order = ap (order_of s.dossier orders) programme ∙ sym is in
      let short : length (before s orders w) ≤ i = rw whole (front_short w.candidate order i lt at) in
      let few : ahead s orders bars w ≤ count_by wants (take i order) =
      rw whole (front_fewer wants w.candidate order i lt at) in
      elim (or_cases held (nat_lt i limit || nat_lt (count_by wants (take i order)) left) t) [
        | inl holds ↦ or_left (needs_no_seat s orders w) (nat_lt (ahead s orders bars w) left)
            (or_left held (nat_le (length (before s orders w) + 1) limit) holds)
        | inr called ↦ elim (or_cases (nat_lt i limit) (nat_lt (count_by wants (take i order)) left) called) [
          | inl by_limit ↦ or_left (needs_no_seat s orders w) (nat_lt (ahead s orders bars w) left)
              (or_right held (nat_le (length (before s orders w) + 1) limit)
              (le-leb (length (before s orders w) + 1) limit (omega (arith, short, ltb-true i limit by_limit))))
          | inr by_seat ↦ or_right (needs_no_seat s orders w) (nat_lt (ahead s orders bars w) left)
              (lt-ltb (ahead s orders bars w) left
              (omega (arith, few, ltb-true (count_by wants (take i order)) left by_seat)))
        ]
      ]

  -- and at their first place the other way round
  served_first : (w : Wish) → w.programme ≡ p → get_or order i 0 ≡ w.candidate
      → is_among w.candidate (take i order) ≡ false
      → (needs_no_seat s orders w || nat_lt (ahead s orders bars w) (seats_left s w.programme)) ≡ true
      → is_served s bars w.programme order i w.candidate ≡ true
  served_first w programme at first t =
      let held = holds_seat s w.candidate w.programme in
      let limit = limit_of s.dossier w.programme in
      let left = seats_left s w.programme in
      let wants = wants_seat s bars w.programme in
      let whole : order_of s.dossier orders w.programme ≡ order = ap (order_of s.dossier orders) programme ∙ sym is in
      let front : before s orders w ≡ take i order = rw whole (front_same w.candidate order i lt at first) in
      let long : length (before s orders w) ≤ i = rw whole (front_short w.candidate order i lt at) in
      let full : length (take i order) ≡ i = length-take-le i order (omega arith) in
      let as_long : length (before s orders w) ≡ i = ap length front ∙ full in
      elim (or_cases (needs_no_seat s orders w) (nat_lt (ahead s orders bars w) left) t) [
        | inl none ↦ elim (or_cases held (nat_le (length (before s orders w) + 1) limit) none) [
          | inl holds ↦ or_left held (nat_lt i limit || nat_lt (count_by wants (take i order)) left) holds
          | inr by_limit ↦ or_right held (nat_lt i limit || nat_lt (count_by wants (take i order)) left)
              (or_left (nat_lt i limit) (nat_lt (count_by wants (take i order)) left)
              (lt-ltb i limit (omega (arith, as_long, leb-true (length (before s orders w) + 1) limit by_limit))))
        ]
        | inr by_seat ↦ or_right held (nat_lt i limit || nat_lt (count_by wants (take i order)) left)
            (or_right (nat_lt i limit) (nat_lt (count_by wants (take i order)) left) (rw front at by_seat))
      ]

  step : (k : ℕ) (candidate : ℕ) → candidate ≡ get_or order i 0
      → (is_proposed_of s orders bars p (take i order) k
      || is_served_at s bars p candidate (is_called_at s bars p order i) k)
      ≡ is_proposed_of s orders bars p (take (i + 1) order) k
  step k candidate at =
      let w = wish_in s.dossier.wishes k in
      let m = mark_in s.marks k in
      let among = is_among w.candidate (take i order) in
      let opens = is_open s bars w m in
      let served = needs_no_seat s orders w || nat_lt (ahead s orders bars w) (seats_left s w.programme) in
      rw (among_more w.candidate order i lt, ← at)
      (elim (cases_Bool (nat_eq w.candidate candidate)) [
        | inr other ↦ rw other (other_candidate among (is_proposed_at s orders bars p k) (is_open_at s bars p k)
            (is_served s bars p order i candidate))
        | inl own ↦ elim (cases_Bool (nat_eq w.programme p)) [
          | inr elsewhere ↦ rw elsewhere (other_programme among opens served (is_served s bars p order i candidate)
              (nat_eq w.candidate candidate))
          | inl here ↦
              let programme = eqb-true w.programme p here in
              let same = eqb-true w.candidate candidate own in
              let place : get_or order i 0 ≡ w.candidate = sym at ∙ sym same in
              let now : is_served s bars w.programme order i w.candidate ≡ is_served s bars p order i candidate =
              ap (λ q. is_served s bars q order i w.candidate) programme ∙ ap (is_served s bars p order i) same in
              rw (own, here)
              (bits among opens served (is_served s bars p order i candidate)
              (λ t. served_here w programme place (now ∙ t))
              (λ first t. sym now ∙ served_first w programme place first t))
        ]
      ])

  -- one candidate further
  pub walked_more : (candidate ahead next : ℕ) (is_called : Bool) (old now new : List Bool)
      → candidate ≡ get_or order i 0
      → IsWalked s orders bars p order i ahead old now
      → is_called ≡ (nat_lt i (limit_of s.dossier p) || nat_lt ahead (seats_left s p))
      → SetsAlso (is_served_at s bars p candidate is_called) now new
      → next ≡ ahead + cond (wants_seat s bars p candidate) 1 0
      → IsWalked s orders bars p order (i + 1) next old new
  walked_more candidate ahead next is_called old now new at walked called flags is_next =
      let limit = limit_of s.dossier p in
      let left = seats_left s p in
      let wants = wants_seat s bars p in
      let same : is_called ≡ is_called_at s bars p order i =
      called ∙ ap (λ n. nat_lt i limit || nat_lt n left) walked.counted in
      let P : Bool → Type 0 = λ b. SetsAlso (is_served_at s bars p candidate b) now new in
      record {
        counted =
            is_next
            ∙ ap (λ n. n + cond (wants candidate) 1 0) walked.counted
            ∙ ap (λ x. count_by wants (take i order) + cond (wants x) 1 0) at
            ∙ sym (count_more wants order i lt);
        flags = sets_then (is_proposed_of s orders bars p (take i order))
            (is_served_at s bars p candidate (is_called_at s bars p order i))
            (is_proposed_of s orders bars p (take (i + 1) order)) old now new walked.flags (subst P same flags)
            (λ k _. step k candidate at);
      }

pub counted_one : (wants result : Bool) (ahead next : ℕ) → result ≡ wants → result ≡ true → next ≡ ahead + 1
    → next ≡ ahead + cond wants 1 0
counted_one true result ahead next e t n = n
counted_one false result ahead next e t n = absurd (false≢true (sym e ∙ t))

pub counted_none : (wants result : Bool) (ahead next : ℕ) → result ≡ wants → result ≡ false → next ≡ ahead
    → next ≡ ahead + cond wants 1 0
counted_none true result ahead next e t n = absurd (false≢true (sym t ∙ e))
counted_none false result ahead next e t n = omega (arith, n)

pub walked_none : (s : State) (orders : List CallOrder) (bars : List ℕ) (p : ℕ) (order : List ℕ) (flags : List Bool)
    → IsWalked s orders bars p order 0 0 flags flags
walked_none s orders bars p order flags = record {
  counted = refl;
  flags = sets_none (is_proposed_of s orders bars p (take 0 order)) flags (λ k lt. refl);
}

-- at the end all proposed wishes of the programme are flagged
pub walked_all : (s : State) (orders : List CallOrder) (bars : List ℕ) (p : ℕ) (order : List ℕ) (i ahead : ℕ)
    (old now : List Bool)
    → order ≡ order_of s.dossier orders p → length order ≤ i → length old ≡ length s.dossier.wishes
    → AreCalled s.dossier orders
    → IsWalked s orders bars p order i ahead old now → SetsAlso (is_proposed_at s orders bars p) old now
walked_all s orders bars p order i ahead old now is le long are walked =
    sets_same (is_proposed_of s orders bars p (take i order)) (is_proposed_at s orders bars p) old now
    (λ k lt.
    let w = wish_in s.dossier.wishes k in
    rw (take_all i order le)
    (elim (cases_Bool (nat_eq w.programme p)) [
      | inl here ↦
          let all : is_among w.candidate order ≡ true =
          rw (is, ← eqb-true w.programme p here) (are.each k (omega (arith, long))) in
          rw all refl
      | inr elsewhere ↦ rw elsewhere (ends (is_among w.candidate order)
          (is_proposed s orders bars w (mark_in s.marks k)))
    ]))
    walked.flags

-- whose open wishes are flagged at one visit
pub visit_none : (s : State) (bars : List ℕ) (p c : ℕ) (is_called : Bool) (flags : List Bool)
    → length s.marks ≡ length s.dossier.wishes
    → length flags ≡ length s.dossier.wishes → has_open_wish s bars p c ≡ false
    → SetsAlso (is_served_at s bars p c is_called) flags flags
visit_none s bars p c is_called flags long as_long none =
    sets_none (is_served_at s bars p c is_called) flags
    (λ k lt. and_left (((wish_in s.dossier.wishes k).candidate == c) && is_open_at s bars p k)
    (holds_seat s c p || is_called)
    (no_open s bars p c long none k (omega (arith, as_long))))

pub visit_not_served : (s : State) (bars : List ℕ) (p c : ℕ) (is_called : Bool) (flags : List Bool)
    → holds_seat s c p ≡ false → is_called ≡ false
    → SetsAlso (is_served_at s bars p c is_called) flags flags
visit_not_served s bars p c is_called flags no_seat not_called =
    sets_none (is_served_at s bars p c is_called) flags
    (λ k lt. and_right (((wish_in s.dossier.wishes k).candidate == c) && is_open_at s bars p k)
    (holds_seat s c p || is_called) (or_from (holds_seat s c p) is_called no_seat not_called))

and_true : (a b : Bool) → b ≡ true → a ≡ (a && b)
and_true true b t = sym t
and_true false b t = refl

pub visit_served : (s : State) (bars own : List ℕ) (p c : ℕ) (is_called : Bool) (old new : List Bool)
    → own ≡ own_places s.dossier c
    → length old ≡ length s.dossier.wishes → (holds_seat s c p || is_called) ≡ true
    → SetsAlso (λ k. is_among k own && is_open_at s bars p k) old new
    → SetsAlso (is_served_at s bars p c is_called) old new
visit_served s bars own p c is_called old new is as_long served sets =
    sets_same (λ k. is_among k own && is_open_at s bars p k) (is_served_at s bars p c is_called) old new
    (λ k lt.
    let his : is_among k own ≡ ((wish_in s.dossier.wishes k).candidate == c) =
    ap (is_among k) is ∙ among_own s.dossier c k (omega (arith, as_long)) in
    ap (λ b. b && is_open_at s bars p k) his
    ∙ and_true (((wish_in s.dossier.wishes k).candidate == c) && is_open_at s bars p k)
    (holds_seat s c p || is_called) served)
    sets

-- the proposed wishes of the programmes below a number
abbrev pub is_proposed_below : State → List CallOrder → List ℕ → ℕ → ℕ → Bool
is_proposed_below s orders bars n k =
    nat_lt (wish_in s.dossier.wishes k).programme n
    && is_proposed s orders bars (wish_in s.dossier.wishes k) (mark_in s.marks k)

join_below : (below here proposed : Bool) → ((below && proposed) || (proposed && here)) ≡ ((below || here) && proposed)
join_below true here true = refl
join_below true true false = refl
join_below true false false = refl
join_below false true true = refl
join_below false false true = refl
join_below false here false = sym (and_right here false refl)

lt_more : (a n : ℕ) → (nat_lt a n || nat_eq a n) ≡ nat_lt a (n + 1)
lt_more a n =
    elim (cases_order a n) [
      | inl same ↦ rw (lt-ltb a (n + 1) (omega (arith, same)), eq-eqb a n same) (or_right (nat_lt a n) true refl)
      | inr other ↦ elim other [
        | inl below ↦ rw (lt-ltb a n below, lt-ltb a (n + 1) (omega (arith, below))) refl
        | inr above ↦ rw (
          le-ltb a n (omega (arith, above)),
          ne_eqb a n (λ e. omega (arith, e, above)),
          le-ltb a (n + 1)
              (omega (arith, above)),
        ) refl
      ]
    ]

pub below_more : (s : State) (orders : List CallOrder) (bars : List ℕ) (n : ℕ) (old now new : List Bool)
    → SetsAlso (is_proposed_below s orders bars n) old now → SetsAlso (is_proposed_at s orders bars n) now new
    → SetsAlso (is_proposed_below s orders bars (n + 1)) old new
below_more s orders bars n old now new first second =
    sets_then (is_proposed_below s orders bars n) (is_proposed_at s orders bars n)
    (is_proposed_below s orders bars (n + 1)) old now new first second
    (λ k _.
    let w = wish_in s.dossier.wishes k in
    let m = mark_in s.marks k in
    join_below (nat_lt w.programme n) (nat_eq w.programme n) (is_proposed s orders bars w m)
    ∙ ap (λ b. b && is_proposed s orders bars w m) (lt_more w.programme n))

pub below_none : (s : State) (orders : List CallOrder) (bars : List ℕ) (flags : List Bool)
    → SetsAlso (is_proposed_below s orders bars 0) flags flags
below_none s orders bars flags =
    sets_none (is_proposed_below s orders bars 0) flags
    (λ k lt. and_left (nat_lt (wish_in s.dossier.wishes k).programme 0)
    (is_proposed s orders bars (wish_in s.dossier.wishes k) (mark_in s.marks k))
    (le-ltb (wish_in s.dossier.wishes k).programme 0 (omega arith)))

-- all flags are those of the proposed wishes
pub below_all : (s : State) (orders : List CallOrder) (bars : List ℕ) (n : ℕ) (flags : List Bool)
    → length s.marks ≡ length s.dossier.wishes
    → ((k : ℕ) → k < length s.dossier.wishes → (wish_in s.dossier.wishes k).programme < n)
    → SetsAlso (is_proposed_below s orders bars n) (replicate (length s.dossier.wishes) false) flags
    → (flags ≡ proposed_flags s orders bars) × (length flags ≡ length s.dossier.wishes)
below_all s orders bars n flags long below sets =
    let count = length s.dossier.wishes in
    let f = λ (e : Wish × Mark). is_proposed s orders bars e.0 e.1 in
    let as_long : length flags ≡ count = sets.as_long ∙ length-replicate count false in
    let at : (k : ℕ) → k < count → get_or flags k false ≡ f (entry_in s k) = λ k lt.
    sets.each k (omega (arith, length-replicate count false, lt))
    ∙ ap (λ b. b || is_proposed_below s orders bars n k) (get_or-replicate count k false false lt)
    ∙ ap (λ b. b && f (entry_in s k)) (lt-ltb (wish_in s.dossier.wishes k).programme n (below k lt)) in (
      fill_by_all (λ k. f (entry_in s k)) flags count false as_long at
          ∙ sym (map-map f (entry_in s) (range_with_len 0 count))
          ∙ ap (map f) (sym (entries_by_place s long)),
      as_long,
    )
