-- The wishes of one candidate stand together in an order by candidate: one walk along it numbers the candidates.
use Rattle.std.proofs.Common.{ℕ, ◌+◌, ◌-◌, ◌≤◌, ◌<◌, ◌≡◌, Bool, true, ◌||◌, List, [], ◌∷◌, ◌++◌, length, get_or, take}
use Rattle.std.proofs.Common.{drop, false, inl, inr, refl, sym, ◌∙◌, ap, arith, filter, ltb, subst, nat_eq}
use Rattle.std.specs.Prelude.{◌==◌, All, slice_range}
use Rattle.std.specs.List.{range_with_len}
use Rattle.std.specs.List.Sorted.{IsNonDecreasingBy, IsPartitionPoint}
use Rattle.std.proofs.Math.ListN.{set}
use Rattle.std.proofs.Math.Seq.{get_or-append_seam, take-add}
use Rattle.std.proofs.lemmas.Bool.{cases_Bool, cases_lt, eqb-true, eq-eqb, eqb-false, false≢true, lt-ltb, le-ltb}
use Rattle.std.proofs.lemmas.Bool.{le-leb, lt-leb, ltb-false, ltb-true, ne_eqb, or_cases, or_parts}
use Rattle.std.proofs.lemmas.List.{get_or_append_left, get_or_default, get_or-drop, get_or-set_same, get_or-set_other}
use Rattle.std.proofs.lemmas.List.{get_or-take}
use Rattle.std.proofs.lemmas.List.{length-append, length-set, length-take, take_all}
use Rattle.std.proofs.lemmas.List.Folds.{list_any-append, list_any_more}
use Rattle.std.proofs.lemmas.Map.Views.{Contains-from_any}
use Rattle.admit_core.specs.Lists.{is_among}
use Rattle.admit_core.specs.declared.dossier.Wish.{Wish}
use Rattle.day_state.specs.declared.spans.Span.{Span}
use Rattle.day_state.specs.Kept.{candidate_in, span_at, IsIndex, HoldsOneKey, IsSpan, IsPut, IsNumber, AreNumbered}
use Rattle.admit_core.proofs.Plain.{filter_none}
use Rattle.day_state.proofs.Along.{among-filter}
use Rattle.day_state.proofs.Ordering.{between}

-- a run so far
pub record IsRunSoFar (key : ℕ → ℕ) (order : List ℕ) (from to : ℕ) : Type 0 where
  pub further : from < to
  pub within : to ≤ length order
  pub alike : (k : ℕ) → from ≤ k → k < to → key (get_or order k 0) ≡ key (get_or order from 0)

pub run_begins : (key : ℕ → ℕ) (order : List ℕ) (from : ℕ) → from < length order → IsRunSoFar key order from (from + 1)
run_begins key order from lt = record {
  further = omega arith;
  within = omega (arith, lt);
  alike = λ k low high. let at : k ≡ from = omega (arith, low, high) in ap (λ j. key (get_or order j 0)) at;
}

pub run_more : (key : ℕ → ℕ) (order : List ℕ) (from to : ℕ) → IsRunSoFar key order from to → to < length order
    → key (get_or order to 0) ≡ key (get_or order from 0) → IsRunSoFar key order from (to + 1)
run_more key order from to so_far lt same = record {
  further = omega (arith, so_far.further);
  within = omega (arith, lt);
  alike = λ k low high. elim (cases_lt k to) [
    | inl before ↦ so_far.alike k low before
    | inr after ↦
        let at : k ≡ to = omega (arith, after, high) in ap (λ j. key (get_or order j 0)) at ∙ same
  ];
}

-- what the walk has numbered, up to a place where a run begins, which is the one with this number
pub record AreNumberedTo (ws : List Wish) (order : List ℕ) (from number : ℕ) (numbers begins : List ℕ) : Type 0 where
  pub within : from ≤ length order
  pub few : number ≤ from
  pub one_each : length numbers ≡ length ws
  pub count : length begins ≡ number + 1
  pub last : get_or begins number 0 ≡ from
  pub below : (k : ℕ) → k < from → from < length order
      → candidate_in ws (get_or order k 0) < candidate_in ws (get_or order from 0)
  pub done : (k : ℕ) → is_among k (take from order) ≡ true
      → IsNumber ws order begins (candidate_in ws k) (get_or numbers k 0)

pub numbered_none : (ws : List Wish) (order numbers : List ℕ) → length numbers ≡ length ws
    → AreNumberedTo ws order 0 0 numbers (0 ∷ [])
numbered_none ws order numbers long = record {
  within = omega arith;
  few = omega arith;
  one_each = long;
  count = refl;
  last = refl;
  below = λ k lt in_order. absurd (omega (arith, lt));
  done = λ k among. absurd (false≢true among);
}

-- a number of a list, and of what is left of it
among_kept : (k : ℕ) (p : ℕ → Bool) (xs : List ℕ) → is_among k (filter p xs) ≡ true
    → (is_among k xs ≡ true) × (p k ≡ true)
among_kept k p [] among = absurd (false≢true among)
among_kept k p (x ∷ xs) among =
    elim (cases_Bool (p x)) [
      | inl kept ↦ elim (cases_Bool (nat_eq k x)) [
        | inl here ↦ (rw here refl, ap p (eqb-true k x here) ∙ kept)
        | inr other ↦
            let rest : is_among k (filter p xs) ≡ true = rw (kept, other) at among in
            let found = among_kept k p xs rest in (rw other found.0, found.1)
      ]
      | inr dropped ↦
          let rest : is_among k (filter p xs) ≡ true = rw dropped at among in
          let found = among_kept k p xs rest in
          elim (cases_Bool (nat_eq k x)) [
            | inl here ↦ (rw here refl, found.1)
            | inr other ↦ (rw other found.0, found.1)
          ]
    ]

among_within : (n k : ℕ) (xs : List ℕ) → All (λ j. j < n) xs → is_among k xs ≡ true → k < n
among_within n k xs all among =
    let found = Contains-from_any eqb-true k xs among in
    let P = λ (j : ℕ). j < n in
    subst P found.2 (all found.0 k found.1)

-- the span of a run is that of its candidate, and later ones are above
module _ (ws : List Wish) (order : List ℕ) (from to : ℕ) (rises : IsNonDecreasingBy (candidate_in ws) order)
    (lt : from < length order) (further : from < to) (within : to ≤ length order)
    (run : HoldsOneKey (candidate_in ws) order from to) where
  abbrev key : ℕ → ℕ
  key = candidate_in ws

  abbrev here : ℕ
  here = key (get_or order from 0)

  above : (k : ℕ) → to ≤ k → k < length order → here < key (get_or order k 0)
  above k low high =
      let to_in : to < length order = omega (arith, low, high) in
      let not_below : here ≤ key (get_or order to 0) = rises from to 0 (omega (arith, further)) to_in in
      let later : key (get_or order to 0) ≤ key (get_or order k 0) = rises to k 0 low high in
      elim (cases_lt here (key (get_or order to 0))) [
        | inl less ↦ omega (arith, less, later)
        | inr le ↦ absurd (run.ends to_in (omega (arith, le, not_below)))
      ]

  pub run_is_span : ((k : ℕ) → k < from → key (get_or order k 0) < here)
      → (span : Span) → span.from ≡ from → span.to ≡ to → IsSpan ws order here span
  run_is_span below span from_is to_is =
      let d0 = λ (k d : ℕ) (k_in : k < length order). ap key (get_or_default order k 0 d k_in) in
      let found = between key order here from to (omega (arith, lt)) within (
        λ k d low high.
            let k_in : k < length order = omega (arith, high, lt) in
            lt-ltb (key (get_or order k d)) here (omega (arith, below k high, d0 k d k_in)),
        λ k d low high.
            le-ltb (key (get_or order k d)) here (omega (arith, rises from k 0 low high, d0 k d high)),
      ) (
        λ k d low high.
            let k_in : k < length order = omega (arith, high, within) in
            elim (cases_lt k from) [
              | inl before ↦ le-leb (key (get_or order k d)) here (omega (arith, below k before, d0 k d k_in))
              | inr after ↦ le-leb (key (get_or order k d)) here (omega (arith, run.alike k after high, d0 k d k_in))
            ],
        λ k d low high.
            lt-leb (key (get_or order k d)) here (omega (arith, above k low high, d0 k d high)),
      ) in
      record {
        within = record { rises = omega (arith, from_is, to_is, further); within = omega (arith, to_is, within) };
        own = rw (from_is, to_is) found.1;
      }

-- numbers stay what they are where one more run ends
number_stays : (ws : List Wish) (order begins : List ℕ) (to c n : ℕ) → IsNumber ws order begins c n
    → IsNumber ws order (begins ++ to ∷ []) c n
number_stays ws order begins to c n is =
    let from : get_or (begins ++ to ∷ []) n 0 ≡ get_or begins n 0 =
    get_or_append_left begins (to ∷ []) 0 n (omega (arith, is.ends)) in
    let next : get_or (begins ++ to ∷ []) (n + 1) 0 ≡ get_or begins (n + 1) 0 =
    get_or_append_left begins (to ∷ []) 0 (n + 1) is.ends in
    record {
      ends = omega (arith, is.ends, length-append begins (to ∷ []));
      span = rw (from, next) is.span;
    }

-- one more run
pub numbered_more : (ws : List Wish) (order : List ℕ) (from to number : ℕ) (numbers next begins : List ℕ)
    → IsIndex ws order → from < length order → AreNumberedTo ws order from number numbers begins
    → from < to → to ≤ length order → HoldsOneKey (candidate_in ws) order from to
    → IsPut (slice_range order from to) number numbers next
    → AreNumberedTo ws order to (number + 1) next (begins ++ to ∷ [])
numbered_more ws order from to number numbers next begins index lt so_far further within run put =
    let key = candidate_in ws in
    let c = key (get_or order from 0) in
    let rises = index.rises in
    let ends = begins ++ to ∷ [] in
    let long : length ends ≡ length begins + 1 = length-append begins (to ∷ []) in
    let first : get_or ends number 0 ≡ from =
    get_or_append_left begins (to ∷ []) 0 number (omega (arith, so_far.count)) ∙ so_far.last in
    let last : get_or ends (number + 1) 0 ≡ to =
    ap (λ (n : ℕ). get_or ends n 0) (sym so_far.count) ∙ get_or-append_seam begins to [] 0 in
    let is = run_is_span ws order from to rises lt further within run (λ k k_lt. so_far.below k k_lt lt)
    (span_at ends number) first last in
    let own = slice_range order from to in
    let owned : own ≡ filter (λ j. key j == c) order =
    (λ i. slice_range order (sym first i) (sym last i)) ∙ is.own in
    let front : take to order ≡ take from order ++ own =
    ap (λ (n : ℕ). take n order) (omega (arith, further)) ∙ take-add from (to - from) order in
    record {
      within = within;
      few = omega (arith, so_far.few, further);
      one_each = put.as_long ∙ so_far.one_each;
      count = long ∙ ap (λ (n : ℕ). n + 1) so_far.count;
      last = last;
      below = λ k k_lt to_in.
          let over = above ws order from to rises lt further within run to (omega arith) to_in in
          elim (cases_lt k from) [
            | inl before ↦ omega (arith, so_far.below k before lt, over)
            | inr after ↦ omega (arith, run.alike k after k_lt, over)
          ];
      done = λ k among.
          let either : (is_among k (take from order) || is_among k own) ≡ true =
          sym (ap (is_among k) front ∙ list_any-append (nat_eq k) (take from order) own) ∙ among in
          let Q = λ (n : ℕ). IsNumber ws order ends (key k) n in
          elim (cases_Bool (is_among k own)) [
            | inl mine ↦
                let kept = among_kept k (λ j. key j == c) order (ap (is_among k) (sym owned) ∙ mine) in
                let k_in : k < length numbers = omega
                (arith, among_within (length ws) k order index.within kept.0, so_far.one_each) in
                let P = λ (n : ℕ). IsNumber ws order ends n number in
                let here : IsNumber ws order ends c number =
                record { ends = omega (arith, long, so_far.count); span = is } in
                subst Q (sym (put.here k k_in mine)) (subst P (sym (eqb-true (key k) c kept.1)) here)
            | inr not_mine ↦
                let before : is_among k (take from order) ≡ true =
                elim (or_cases (is_among k (take from order)) (is_among k own) either) [
                  | inl yes_before ↦ yes_before
                  | inr now ↦ absurd (false≢true (sym not_mine ∙ now))
                ] in
                subst Q (sym (put.others k not_mine))
                (number_stays ws order begins to (key k) (get_or numbers k 0) (so_far.done k before))
          ];
    }

pub numbered_all : (ws : List Wish) (order : List ℕ) (from number : ℕ) (numbers begins : List ℕ) → IsIndex ws order
    → AreNumberedTo ws order from number numbers begins → length order ≤ from → AreNumbered ws order numbers begins
numbered_all ws order from number numbers begins index so_far le = record {
  one_each = so_far.one_each;
  each = λ k lt.
      let key = candidate_in ws in
      let q = λ (j : ℕ). key j == key k in
      let in_range : is_among k (filter q (range_with_len 0 (length ws))) ≡ true =
      among-filter q k (length ws) lt ∙ eq-eqb (key k) (key k) refl in
      let in_order : is_among k (filter q order) ≡ true = ap (is_among k) (index.own (key k)) ∙ in_range in
      so_far.done k (ap (is_among k) (take_all from order le) ∙ (among_kept k q order in_order).0);
}

-- what a run takes of the order are places of wishes
pub run_within : (n : ℕ) (order : List ℕ) (from to : ℕ) → All (λ k. k < n) order → to ≤ length order
    → All (λ k. k < n) (slice_range order from to)
run_within n order from to all within k d lt =
    let k_in : k < to - from = omega (arith, lt, length-take (to - from) (drop from order)) in
    rw (get_or-take (to - from) (drop from order) k d k_in, get_or-drop from order k d)
    (all (from + k) d (omega (arith, k_in, within)))

-- a number is put at places, one after another
pub put_none : (places : List ℕ) (number : ℕ) (old : List ℕ) → IsPut (take 0 places) number old old
put_none places number old = record {
  as_long = refl;
  here = λ k lt among. absurd (false≢true among);
  others = λ k none. refl;
}

pub put_more : (places : List ℕ) (i number : ℕ) (old now new : List ℕ) → i < length places
    → get_or places i 0 < length old → IsPut (take i places) number old now → new ≡ set now (get_or places i 0) number
    → IsPut (take (i + 1) places) number old new
put_more places i number old now new lt within put is =
    let p = get_or places i 0 in
    let more = λ (k : ℕ). list_any_more (nat_eq k) places i 0 lt in
    let read = λ (k : ℕ). ap (λ (ns : List ℕ). get_or ns k 0) is in
    let kept : (k : ℕ) → (k ≡ p → ⊥) → get_or new k 0 ≡ get_or now k 0 =
    λ k other. read k ∙ get_or-set_other now p k number 0 other in
    record {
      as_long = ap length is ∙ length-set now p number ∙ put.as_long;
      here = λ k k_in among. elim (cases_Bool (nat_eq k p)) [
        | inl same ↦
            let k_is : k ≡ p = eqb-true k p same in
            read k ∙ ap (λ j. get_or (set now p number) j 0) k_is
            ∙ get_or-set_same now p number 0 (omega (arith, within, put.as_long))
        | inr other ↦
            let before : is_among k (take i places) ≡ true = elim (or_cases (is_among k (take i places)) (nat_eq k p)
            (sym (more k) ∙ among)) [
              | inl yes_before ↦ yes_before
              | inr now_here ↦ absurd (false≢true (sym other ∙ now_here))
            ] in
            kept k (eqb-false k p other) ∙ put.here k k_in before
      ];
      others = λ k none.
          let parts = or_parts (is_among k (take i places)) (nat_eq k p) (sym (more k) ∙ none) in
          kept k (eqb-false k p parts.1) ∙ put.others k parts.0;
    }

pub put_all : (places : List ℕ) (i number : ℕ) (old new : List ℕ) → length places ≤ i
    → IsPut (take i places) number old new → IsPut places number old new
put_all places i number old new le put =
    let P = λ (js : List ℕ). IsPut js number old new in
    subst P (take_all i places le) put

-- where the first place that is not below a candidate is another's, the candidate has none
pub none_there : (ws : List Wish) (order : List ℕ) (c from : ℕ) → IsNonDecreasingBy (candidate_in ws) order
    → IsPartitionPoint (λ k. ltb (candidate_in ws k) c ≡ true) (λ k. ltb (candidate_in ws k) c ≡ false) order from
    → (from < length order → (candidate_in ws (get_or order from 0) ≡ c → ⊥))
    → filter (λ k. candidate_in ws k == c) order ≡ []
none_there ws order c from rises point other =
    let key = candidate_in ws in
    filter_none (λ k. key k == c) order (λ k d lt.
    elim (cases_lt k from) [
      | inl before ↦ ne_eqb (key (get_or order k d)) c
          (λ e. omega (arith, e, ltb-true (key (get_or order k d)) c (point.0 k d (omega arith) before)))
      | inr after ↦
          let in_order : from < length order = omega (arith, after, lt) in
          let first = ltb-false (key (get_or order from 0)) c (point.1 from 0 (omega arith) in_order) in
          let apart = other in_order in
          let up = rises from k d after lt in
          let same : key (get_or order from d) ≡ key (get_or order from 0) =
          ap key (get_or_default order from d 0 in_order) in
          ne_eqb (key (get_or order k d)) c
          (λ e. apart (omega (arith, e, first, up, same)))
    ])
