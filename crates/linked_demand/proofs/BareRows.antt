-- Rows of which all ranks are known and nobody has a bed yet: with them a round begins.
use Rattle.std.proofs.Common.{ℕ, zero, suc, ◌+◌, ◌≤◌, ◌<◌, ◌≡◌, Bool, true, false, List, [], ◌∷◌, ◌++◌, length, take}
use Rattle.std.proofs.Common.{get_or, inl, inr, refl, sym, ◌∙◌, ap, arith, Option, None, Some, replicate, subst, Vec}
use Rattle.std.proofs.Common.{is_some, nat_eq, unwrap_or}
use Rattle.std.specs.Prelude.{slice_get, slice_index}
use Rattle.std.specs.List.Sorted.{IsNonDecreasingBy}
use Rattle.std.specs.declared.alloc.Global.{Global}
use Rattle.std.proofs.lemmas.Bool.{cases_Bool, cases_eq, eq-eqb, false≢true, ltb-false, or_left, or_right}
use Rattle.std.proofs.lemmas.List.{get_or_append_left, length-append, length-replicate}
use Rattle.std.proofs.lemmas.List.Sorted.{IsNonDecreasingBy-take}
use Rattle.std.proofs.lemmas.Option.{slice_get_within}
use Rattle.admit_core.specs.Lists.{is_among}
use Rattle.linked_demand.specs.declared.rows.RowWish.{RowWish}
use Rattle.linked_demand.specs.Demand.{is_proposed_at}
use Rattle.linked_demand.specs.Housed.{last_rank, ranks_of, AllHoused, AreBare, IsBare}
use Rattle.linked_demand.specs.Links.{LinksRow}
use Rattle.linked_demand.specs.Rows.{needs_bed, rows_to, AreByRankEach, AreFirst}
use Rattle.linked_demand.specs.Rungs.{Rung, housed_in, is_first, rank_before, rank_in, rungs_to}
use Rattle.linked_demand.proofs.Passing.{passing_from}
use Rattle.linked_demand.proofs.RowRungs.{last_is, before_rises, rank_there, rung_at, rungs_rise_to}
use Rattle.linked_demand.proofs.Rungs.{among_push, housed_same, last_known}
use Rattle.linked_demand.proofs.RowsTo.{length_rows, row_back}

pub no_flag : (n k : ℕ) → get_or (replicate n false) k false ≡ false
no_flag zero k = refl
no_flag (suc n) zero = refl
no_flag (suc n) (suc k) = no_flag n k

-- without a flag nobody has a bed
pub none_housed : (row : List RowWish) (n m : ℕ) → housed_in (rungs_to row (replicate n false) m) ≡ []
none_housed row n zero = refl
none_housed row n (suc m) =
    let flags = replicate n false in
    let rest = none_housed row n m in
    elim (cases_Bool (is_first row m)) [
      | inl first ↦ rw first
          (housed_same (rungs_to row flags m) (rung_at row flags m) (no_flag n m) ∙ rest)
      | inr later ↦ rw later rest
    ]

module _ (row : List RowWish) (rises : IsNonDecreasingBy (λ (x : RowWish). x.rank) row) (n : ℕ) where
  -- the rank of each known place is known
  known_to : (m : ℕ) → m ≤ length row → (k : ℕ) → k < m → 0 < rank_in row k
      → is_among (rank_in row k) (ranks_of (rungs_to row (replicate n false) m)) ≡ true
  known_to zero le k less some = absurd (omega (arith, less))
  known_to (suc m) le k less some =
      let flags = replicate n false in
      let xs = rungs_to row flags m in
      let r = rank_in row k in
      let m_lt : m < length row = omega (arith, le) in
      elim (cases_Bool (is_first row m)) [
        | inl first ↦ rw first (among_push r xs (rung_at row flags m) ∙ elim (cases_eq k m) [
          | inl here ↦ or_right (is_among r (ranks_of xs)) (nat_eq r (rank_in row m))
              (eq-eqb r (rank_in row m) (ap (rank_in row) here))
          | inr other ↦ or_left (is_among r (ranks_of xs)) (nat_eq r (rank_in row m))
              (known_to m (omega (arith, m_lt)) k (omega (arith, less, other)) some)
        ])
        | inr later ↦ rw later (elim (cases_eq k m) [
          | inl here ↦
              let low = before_rises row rises m m_lt in
              let high = ltb-false (rank_before row m) (rank_in row m) later in
              let last = last_is row rises flags m (omega (arith, m_lt)) in
              let same : r ≡ last_rank xs = omega (arith, ap (rank_in row) here, low, high, last) in
              ap (λ q. is_among q (ranks_of xs)) same ∙ last_known xs (omega (arith, same, some))
          | inr other ↦ known_to m (omega (arith, m_lt)) k (omega (arith, less, other)) some
        ])
      ]

  pub bare_row : (m : ℕ) → m ≡ length row → IsBare row (rungs_to row (replicate n false) m)
  bare_row m is = record {
    rises = rungs_rise_to row rises (replicate n false) m (omega (arith, is));
    none = none_housed row n m;
    known = λ k x at some.
        let rank : rank_in row k ≡ x.rank = rank_there row k x at in
        ap (λ r. is_among r (ranks_of (rungs_to row (replicate n false) m))) (sym rank)
        ∙ known_to m (omega (arith, is)) k (omega (arith, is, slice_get_within row k x at)) (omega (arith, rank, some));
  }

-- the first boarders of a school come by rank
pub front_up : (boarders : List (Vec RowWish Global)) (ends : List ℕ) (h : ℕ) (front : List RowWish)
    → AreFirst boarders ends h front → AreByRankEach boarders → IsNonDecreasingBy (λ (x : RowWish). x.rank) front
front_up boarders ends h front first rise =
    let P = λ (xs : List RowWish). IsNonDecreasingBy (λ (x : RowWish). x.rank) xs in
    subst P (sym first.front_is) (IsNonDecreasingBy-take (λ (x : RowWish). x.rank) (slice_index ends h)
    first.own.items (rise h first.own first.found))

-- the rows of the first schools are so
pub record AreBareTo (boarders : List (Vec RowWish Global)) (ends : List ℕ) (i : ℕ) (housed : List (List Rung))
    : Type 0 where
  pub so_many : length housed ≡ i
  pub each : (h : ℕ) (own : Vec RowWish Global) → h < i → slice_get boarders h ≡ Some own
      → IsBare (take (slice_index ends h) own.items) (get_or housed h [])

module _ (boarders : List (Vec RowWish Global)) (ends : List ℕ) where
  pub bare_none : (housed : List (List Rung)) → housed ≡ [] → AreBareTo boarders ends 0 housed
  bare_none housed is = record {
    so_many = ap (λ (xs : List (List Rung)). length xs) is;
    each = λ h own lt at. absurd (omega (arith, lt));
  }

  pub bare_more : (i : ℕ) (housed new : List (List Rung)) (front : List RowWish) (xs : List Rung)
      → AreBareTo boarders ends i housed → AreFirst boarders ends i front → IsBare front xs
      → new ≡ housed ++ xs ∷ [] → AreBareTo boarders ends (i + 1) new
  bare_more i housed new front xs to first is new_is = rw new_is (record {
    so_many = length-append housed (xs ∷ []) ∙ (let e : length housed + 1 ≡ i + 1 = omega (arith, to.so_many) in e);
    each = λ h own lt at. elim (cases_eq h i) [
      | inl here ↦
          let P = λ (n : ℕ). slice_get boarders n ≡ Some own in
          let same : first.own ≡ own =
          ap (λ (o : Option (Vec RowWish Global)). unwrap_or o first.own) (sym first.found ∙ subst P here at) in
          let front_same : front ≡ take (slice_index ends i) own.items =
          first.front_is ∙ ap (λ (v : Vec RowWish Global). take (slice_index ends i) v.items) same in
          let last : get_or (housed ++ xs ∷ []) i [] ≡ xs =
          ap (λ (n : ℕ). get_or (housed ++ xs ∷ []) n []) (sym to.so_many) ∙ last_read housed xs in
          let Q = λ (ys : List RowWish). IsBare ys xs in
          rw (here, last) (subst Q front_same is)
      | inr other ↦
          let less : h < i = omega (arith, lt, other) in
          rw (get_or_append_left housed (xs ∷ []) [] h (omega (arith, less, to.so_many))) (to.each h own less at)
    ];
  })
    where
      last_read : (ys : List (List Rung)) (y : List Rung) → get_or (ys ++ y ∷ []) (length ys) [] ≡ y
      last_read [] y = refl
      last_read (z ∷ ys) y = last_read ys y

  pub bare_all : (i : ℕ) (housed : List (List Rung)) → i ≡ length boarders → AreBareTo boarders ends i housed
      → AreBare boarders ends housed
  bare_all i housed is to = record {
    one_each = to.so_many ∙ is;
    each = λ h own at. to.each h own (omega (arith, is, slice_get_within boarders h own at)) at;
  }

-- so the schools are housed, but for the wishes that are proposed
pub bare_housed : (l : LinksRow) (boarders : List (Vec RowWish Global)) (ends free : List ℕ)
    → length ends ≡ length boarders → (housed : List (List Rung)) → AreBare boarders ends housed
    → (overs : List (Option ℕ)) → overs ≡ replicate (length boarders) None → (left : ℕ → Bool)
    → ((h k : ℕ) (row : List RowWish) (x : RowWish) → slice_get (rows_to l.state boarders ends) h ≡ Some row
    → slice_get row k ≡ Some x → is_proposed_at l x.wish ≡ true → left x.wish ≡ true)
    → AllHoused l left (rows_to l.state boarders ends) free overs housed
bare_housed l boarders ends free long housed bare overs overs_are left all = record {
  one_each = bare.one_each ∙ sym (length_rows l.state boarders ends long);
  answer_each = ap (λ (os : List (Option ℕ)). length os) overs_are ∙ length-replicate (length boarders) None
      ∙ sym (length_rows l.state boarders ends long);
  each = λ h row at.
      let (own, found, row_is) = row_back l.state boarders ends long h row at in
      let one = bare.each h own found in
      let front = take (slice_index ends h) own.items in
      let none : get_or overs h None ≡ None = ap (λ (os : List (Option ℕ)). get_or os h None) overs_are
      ∙ no_answer (length boarders) h in
      rw none (record {
        noted_are = record {
          rises = one.rises;
          sound = λ r t. absurd (false≢true (ap (is_among r) (sym one.none) ∙ t));
          complete = λ k x there pass unmarked some low.
              absurd (false≢true (sym unmarked ∙ all h k row x at there pass));
          known = λ k x there some low.
              let P = λ (xs : List RowWish). slice_get xs k ≡ Some x in
              let (j, _, found_in) = passing_from (needs_bed l.state) front k x (subst P row_is there) in
              one.known j x found_in some;
          below = λ r t. refl;
        };
        few = omega (arith, ap (λ (ns : List ℕ). length ns) one.none);
        demanded = λ o is. absurd (false≢true (ap is_some is));
        full = λ o is. absurd (false≢true (ap is_some is));
      });
}
  where
    no_answer : (n h : ℕ) → get_or (replicate {A = Option ℕ} n None) h None ≡ None
    no_answer zero h = refl
    no_answer (suc n) zero = refl
    no_answer (suc n) (suc h) = no_answer n h
