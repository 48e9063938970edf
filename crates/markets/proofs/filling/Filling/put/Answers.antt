use Rattle.std.proofs.Common.{◌≡◌, ℕ, ◌≤◌, ◌<◌, true, false, not, List, length, arith, sym, ◌∙◌, ap, subst, nat_lt}
use Rattle.std.proofs.Common.{get_or, None, Option}
use Rattle.std.specs.Prelude.{slice_index, is_some}
use Rattle.std.proofs.Math.Bool.{beq}
use Rattle.std.proofs.lemmas.Bool.{lt-ltb, le-ltb}
use Rattle.std.proofs.lemmas.List.{get_or_default}
use Rattle.std.specs.List.Sorted.{IsNonDecreasing}
use Rattle.admit_core.proofs.Plain.{unlike, alike}
use Rattle.linked_demand.proofs.Answered.{listed_rises, still_listed, room_for_one, one_listed, listed_within}
use Rattle.linked_demand.proofs.Answered.{one_dropped}
use Rattle.place_queue.specs.Queues.{Queue}
use Rattle.markets.specs.Fillings.{Fill}
use Rattle.markets.proofs.Filled.{mark, marks, some_mark, mark_at, long, as_answers, from_answers}
use Rattle.markets.proofs.filling.Filling.put.Goals as goal
use Rattle.markets.proofs.filling.Filling.put.Goals.{then-is_over-was_over+then-is_over}
use Rattle.markets.proofs.filling.Filling.put.Goals.{then-is_over-was_over+else-is_over, else-is_over-was_over}

-- what is read of a programme, and whether it is marked before and after its count is put
module _ (seats counts : List ℕ) {f : Fill} (same : record { seats = seats; counts = counts } ≡ f)
    (k : ℕ) (counts_lt : k < length f.counts) (seats_lt : k < length f.seats)
    {s : ℕ} (s_is : s ≡ get_or seats k s) {n : ℕ} (n_is : n ≡ get_or counts k n) (count : ℕ) where
  abbrev ms : List (Option ℕ)
  ms = marks seats counts

  abbrev new : Option ℕ
  new = mark (nat_lt (slice_index seats k) count)

  lt : k < length counts
  lt = omega (arith, counts_lt, ap (λ (g : Fill). length g.counts) same)

  within : k < length ms
  within = omega (arith, lt, long seats counts)

  seats_read : s ≡ slice_index seats k
  seats_read = s_is ∙ get_or_default seats k s 0 (omega (arith, seats_lt, ap (λ (g : Fill). length g.seats) same))

  was_marked : is_some (get_or ms k None) ≡ nat_lt s n
  was_marked =
      mark_at seats counts k lt ∙ ap (λ x. nat_lt x (slice_index counts k)) (sym seats_read)
      ∙ ap (nat_lt s) (sym (n_is ∙ get_or_default counts k n 0 lt))

  is_marked : is_some new ≡ nat_lt s count
  is_marked = some_mark (nat_lt (slice_index seats k) count) ∙ ap (λ x. nat_lt x count) (sym seats_read)

  was_unlisted : not (beq (nat_lt s count) (nat_lt s n)) ≡ true → s < count → is_some (get_or ms k None) ≡ false
  was_unlisted t over = was_marked ∙ unlike (nat_lt s count) (nat_lt s n) t ∙ ap not (lt-ltb s count over)

  was_listed : not (beq (nat_lt s count) (nat_lt s n)) ≡ true → count ≤ s → is_some (get_or ms k None) ≡ true
  was_listed t under = was_marked ∙ unlike (nat_lt s count) (nat_lt s n) t ∙ ap not (le-ltb s count under)

  still_marked : not (beq (nat_lt s count) (nat_lt s n)) ≡ false → is_some new ≡ is_some (get_or ms k None)
  still_marked t = is_marked ∙ alike (nat_lt s count) (nat_lt s n) t ∙ sym was_marked

pub first_not_below-at-requires : goal.first_not_below-at-requires
first_not_below-at-requires c =
    let seats = c.self.inside.seats.items in
    let counts = c.self.inside.counts.items in
    let P = λ (ks : List ℕ). IsNonDecreasing ks in
    subst P (sym c.as_slice.ensures)
    (listed_rises (marks seats counts) c.self.inside.overfilled.items _
    (as_answers seats counts c.self.inside.overfilled.items _ c.self.invariant))

pub insert-requires-clause-at : goal.insert-requires-clause-at
insert-requires-clause-at c =
    omega (arith, c.first_not_below-at.ensures.within, ap length c.as_slice.ensures)

pub insert-requires-clause-room : goal.insert-requires-clause-room
insert-requires-clause-room c =
    let seats = c.self.inside.seats.items in
    let counts = c.self.inside.counts.items in
    let places = c.self.inside.overfilled.items in
    let k : ℕ = c.args.programme in
    let none = was_unlisted seats counts c.self.view_is k c.requires.counts c.requires.seats c.index-seats.ensures
    c.index.ensures
    c.args.count c.if-is_over-was_over.true c.if-is_over.true in
    let m_lt = within seats counts c.self.view_is k c.requires.counts c.requires.seats c.index-seats.ensures
    c.index.ensures c.args.count in
    omega (
      arith,
      room_for_one (marks seats counts) places _ (as_answers seats counts places _ c.self.invariant) k
          (mark (nat_lt (slice_index seats k) c.args.count)) m_lt c.as_slice.result.now c.as_slice.ensures
          c.first_not_below-at.result
          c.first_not_below-at.ensures.within c.first_not_below-at.ensures.point none,
    )

pub remove-requires : goal.remove-requires
remove-requires c =
    let seats = c.self.inside.seats.items in
    let counts = c.self.inside.counts.items in
    let places = c.self.inside.overfilled.items in
    let k : ℕ = c.args.programme in
    let some = was_listed seats counts c.self.view_is k c.requires.counts c.requires.seats c.index-seats.ensures
    c.index.ensures
    c.args.count c.if-is_over-was_over.true c.if-is_over.false in
    let m_lt = within seats counts c.self.view_is k c.requires.counts c.requires.seats c.index-seats.ensures
    c.index.ensures c.args.count in
    omega (
      arith,
      listed_within (marks seats counts) places _ (as_answers seats counts places _ c.self.invariant) k
          (mark (nat_lt (slice_index seats k) c.args.count)) m_lt c.as_slice.result.now c.as_slice.ensures
          c.first_not_below-at.result
          c.first_not_below-at.ensures.within c.first_not_below-at.ensures.point some,
      ap length c.as_slice.ensures,
    )

pub invariant_of-self : goal.invariant_of-self
invariant_of-self c =
    let seats = c.self.inside.seats.items in
    let counts = c.self.inside.counts.items in
    let places = c.self.inside.overfilled.items in
    let k : ℕ = c.args.programme in
    let s : ℕ = c.index-seats.result.now in
    let v : ℕ = c.args.count in
    let x : Option ℕ = mark (nat_lt (slice_index seats k) v) in
    let k_lt = lt seats counts c.self.view_is k c.requires.counts c.requires.seats c.index-seats.ensures c.index.ensures
    v in
    let m_lt = within seats counts c.self.view_is k c.requires.counts c.requires.seats c.index-seats.ensures
    c.index.ensures v in
    let is = is_marked seats counts c.self.view_is k c.requires.counts c.requires.seats c.index-seats.ensures
    c.index.ensures v in
    elim c.if-is_over-was_over.branch [
      | then-is_over-was_over+then-is_over w ↦
          let none = was_unlisted seats counts c.self.view_is k c.requires.counts c.requires.seats c.index-seats.ensures
          c.index.ensures
          v w.if-is_over-was_over.true w.if-is_over.true in
          rw w.self-inside-is
          (from_answers seats counts w.insert.new.self.items k v _ k_lt
          (one_listed (marks seats counts) places _
          (as_answers seats counts places _ c.self.invariant) k x m_lt w.as_slice.result.now
          w.as_slice.ensures w.first_not_below-at.result w.first_not_below-at.ensures.within
          w.first_not_below-at.ensures.point none
          (is ∙ lt-ltb s v w.if-is_over.true) w.insert.new.self.items _ (ap (λ (q : Queue). q.items) w.insert.ensures)
          (omega (arith, ap (λ (q : Queue). q.room) w.insert.ensures))))
      | then-is_over-was_over+else-is_over w ↦
          let some = was_listed seats counts c.self.view_is k c.requires.counts c.requires.seats c.index-seats.ensures
          c.index.ensures
          v w.if-is_over-was_over.true w.if-is_over.false in
          rw w.self-inside-is
          (from_answers seats counts w.remove.new.self.items k v _ k_lt
          (one_dropped (marks seats counts) places _
          (as_answers seats counts places _ c.self.invariant) k x m_lt w.as_slice.result.now
          w.as_slice.ensures w.first_not_below-at.result w.first_not_below-at.ensures.within
          w.first_not_below-at.ensures.point some
          (is ∙ le-ltb s v w.if-is_over.false) w.remove.new.self.items _ (ap (λ (q : Queue). q.items) w.remove.ensures)
          (omega (arith, ap (λ (q : Queue). q.room) w.remove.ensures))))
      | else-is_over-was_over w ↦
          rw w.self-inside-is
          (from_answers seats counts places k v _ k_lt
          (still_listed (marks seats counts) places _ (as_answers seats counts places _ c.self.invariant) k x m_lt
          (still_marked seats counts c.self.view_is k c.requires.counts c.requires.seats c.index-seats.ensures
          c.index.ensures
          v w.if-is_over-was_over.false)))
    ]
