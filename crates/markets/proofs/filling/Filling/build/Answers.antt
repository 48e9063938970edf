use Rattle.std.proofs.Common.{ℕ, List, [], ◌∷◌, ◌++◌, ◌≡◌, ◌<◌, ◌∙◌, sym, ap, arith, filter, length, true, false, Vec}
use Rattle.std.proofs.Common.{cond, Bool}
use Rattle.std.specs.Prelude.{slice_index}
use Rattle.std.specs.List.{range_with_len}
use Rattle.std.specs.declared.alloc.Global.{Global}
use Rattle.std.proofs.lemmas.Bool.{lt-ltb, le-ltb}
use Rattle.std.proofs.lemmas.List.{append-nil, get_or_default}
use Rattle.bar_fixpoint.proofs.Listing.{filter_more}
use Rattle.place_queue.specs.Queues.{Queue}
use Rattle.markets.specs.Fillings.{Fill, is_over}
use Rattle.markets.proofs.filling.Filling.build.Goals as goal
use Rattle.markets.proofs.filling.Filling.build.Goals.{then-index+in_ok-push, else-index}

pub loop-programme-preserved : goal.loop-programme-preserved
loop-programme-preserved c =
    let seats : List ℕ = c.in_ok-seats.seats.items in
    let counts : List ℕ = c.args.counts.items in
    let k : ℕ = c.loop-programme.programme in
    let lt : k < length counts = omega (arith, c.loop-programme-test.true, c.len-programme-end.ensures) in
    let t : ℕ → Bool = is_over seats counts in
    let front : List ℕ = filter t (range_with_len 0 k) in
    let count_is : c.index.result.now ≡ slice_index counts k =
    c.index.ensures ∙ get_or_default counts k c.index.result.now 0 lt in
    let seats_is : c.index-in-loop-programme.result.now ≡ slice_index seats k =
    c.index-in-loop-programme.ensures
    ∙ get_or_default seats k c.index-in-loop-programme.result.now 0
    (omega (arith, lt, c.in_ok-seats.ensures.len, c.requires.seats)) in
    elim c.if-index.branch [
      | then-index+in_ok-push w ↦
          let passes : t k ≡ true = lt-ltb (slice_index seats k) (slice_index counts k)
          (omega (arith, w.if-index.true, count_is, seats_is)) in (
            ap (λ (v : Vec ℕ Global). v.items) w.overfilled-is ∙ w.in_ok-push.ensures.items
                ∙ ap (λ (xs : List ℕ). xs ++ k ∷ []) c.loop-programme.invariant.0
                ∙ sym (filter_more t k ∙ ap (λ b. front ++ cond b (k ∷ []) []) passes),
            rw w.overfilled-is (omega (arith, c.loop-programme.invariant.1, w.in_ok-push.ensures.capacity)),
          )
      | else-index w ↦
          let fails : t k ≡ false = le-ltb (slice_index seats k) (slice_index counts k)
          (omega (arith, w.if-index.false, count_is, seats_is)) in (
            ap (λ (v : Vec ℕ Global). v.items) w.overfilled-is ∙ c.loop-programme.invariant.0
                ∙ sym (filter_more t k ∙ ap (λ b. front ++ cond b (k ∷ []) []) fails ∙ append-nil front),
            rw w.overfilled-is c.loop-programme.invariant.1,
          )
    ]

pub loop-programme-init : goal.loop-programme-init
loop-programme-init c =
    (c.in_ok-overfilled.ensures.items, omega (arith, c.in_ok-overfilled.ensures.capacity, c.len.ensures))

pub index-requires-in-loop-programme : goal.index-requires-in-loop-programme
index-requires-in-loop-programme c =
    omega (arith, c.loop-programme-test.true, c.len-programme-end.ensures, c.in_ok-seats.ensures.len, c.requires.seats)

pub invariant_of-result : goal.invariant_of-result
invariant_of-result c =
    let test : ℕ → Bool = is_over c.in_ok-seats.seats.items c.args.counts.items in
    let end : c.loop-programme.programme ≡ length c.args.counts.items =
    omega (arith, c.loop-programme-test.false, c.loop-programme.auto.programme-end, c.len-programme-end.ensures) in
    record {
      listed = ap (λ (q : Queue). q.items) c.from_vec-overfilled.ensures ∙ c.loop-programme.invariant.0
          ∙ ap (λ n. filter test (range_with_len 0 n)) end;
      room = omega (arith, ap (λ (q : Queue). q.room) c.from_vec-overfilled.ensures, c.len-2.ensures);
    }

pub returns : goal.returns
returns c =
    let filling : List ℕ → Fill = λ seats. record { seats = seats; counts = c.args.counts.items } in
    ap filling (c.in_ok-seats.ensures.items_if_clones_equal (λ x y e. e))
