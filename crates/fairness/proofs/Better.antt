-- To be better never means to be called later.
use Rattle.std.proofs.Common.{ℕ, zero, suc, ◌+◌, ◌*◌, ◌≤◌, ◌≡◌, ◌⊎◌, Bool, false, not, ◌&&◌, List, [], ◌∷◌, ◌++◌, map}
use Rattle.std.proofs.Common.{length, take, drop, inl, inr, refl, sym, ◌∙◌, ap, subst, arith, filter, nat_eq, nat_lt}
use Rattle.std.proofs.Common.{count_by, Option, Some, None}
use Rattle.std.specs.Prelude.{option_map, slice_get, zip}
use Rattle.std.specs.List.{AllByRecursion, IsDistinct, find, list_any}
use Rattle.std.proofs.lemmas.Bool.{both_ways, cases_Bool, cases_lt, eq-eqb, eqb-true, false≢true, or_parts, or_from}
use Rattle.std.proofs.lemmas.List.{append_assoc, length-map, length-take-le, take_all}
use Rattle.std.proofs.lemmas.List.Sums.{length-filter}
use Rattle.std.proofs.lemmas.Map.Keys.{IsDistinct-head, IsDistinct-tail}
use Rattle.std.proofs.Math.ListN.{take-append-drop}
use Rattle.admit_core.specs.declared.ranking.Bound.{Bound}
use Rattle.admit_core.specs.declared.ranking.Bound.TheVariants.{Free, Scholar, Resident, Both, Alone}
use Rattle.admit_core.specs.declared.ranking.CallOrder.{CallOrder}
use Rattle.admit_core.specs.declared.ranking.RankGroup.{RankGroup}
use Rattle.admit_core.specs.declared.ranking.Ranked.{Ranked}
use Rattle.admit_core.specs.CallOrder.{IsCallOrder, bound_after, bound_of, called, may_be_called, remaining}
use Rattle.admit_core.specs.Lists.{is_among}
use Rattle.admit_core.specs.Validity.{IsRanking}
use Rattle.admit_core.proofs.CallRows.{IsIn, among_front, in_list, same_row}
use Rattle.admit_core.proofs.LeastFirst.{next_is_first}
use Rattle.fairness.specs.OrderPromises.{BetterIsNeverLater, IsBetterFor, IsCalledNoLater, others_than, place_in}
use Rattle.fairness.specs.OrderPromises.{unranked}
use Rattle.fairness.proofs.NextCalled.{id_of, next_or_them, who}
use Rattle.fairness.proofs.PassedOver.{among_taken, place_at_most}
use Rattle.fairness.proofs.Seams.{one_more}

-- ---- ranks do not tell who is next, but by their order
filter_unranked : (t : Ranked → Bool) → ((x : Ranked) → t (unranked x) ≡ t x) → (xs : List Ranked)
    → filter t (map unranked xs) ≡ map unranked (filter t xs)
filter_unranked t same [] = refl
filter_unranked t same (x ∷ xs) =
    elim (cases_Bool (t x)) [
      | inl passes ↦ rw (same x, passes) (ap (λ ys. unranked x ∷ ys) (filter_unranked t same xs))
      | inr fails ↦ rw (same x, fails) (filter_unranked t same xs)
    ]

any_unranked : (t : Ranked → Bool) → ((x : Ranked) → t (unranked x) ≡ t x) → (xs : List Ranked)
    → list_any t (map unranked xs) ≡ list_any t xs
any_unranked t same [] = refl
any_unranked t same (x ∷ xs) = rw (same x, any_unranked t same xs) refl

count_unranked : (t : Ranked → Bool) → ((x : Ranked) → t (unranked x) ≡ t x) → (xs : List Ranked)
    → count_by t (map unranked xs) ≡ count_by t xs
count_unranked t same xs =
    omega (
      arith,
      length-filter t (map unranked xs),
      length-filter t xs,
      ap length
          (filter_unranked t same xs),
      length-map (filter t xs) unranked,
    )

find_unranked : (t : Ranked → Bool) → ((x : Ranked) → t (unranked x) ≡ t x) → (xs : List Ranked)
    → option_map id_of (find t (map unranked xs)) ≡ option_map id_of (find t xs)
find_unranked t same [] = refl
find_unranked t same (x ∷ xs) =
    elim (cases_Bool (t x)) [
      | inl passes ↦ rw (same x, passes) refl
      | inr fails ↦ rw (same x, fails) (find_unranked t same xs)
    ]

may_unranked : (b : Bound) (x : Ranked) → may_be_called b (unranked x) ≡ may_be_called b x
may_unranked Free x = refl
may_unranked Scholar x = refl
may_unranked Resident x = refl
may_unranked Both x = refl
may_unranked Alone x = refl

module _ (g : RankGroup) (before : List ℕ) where
  abbrev flat : RankGroup
  flat = record g { list = map unranked g.list }

  flat_remains : remaining flat before ≡ map unranked (remaining g before)
  flat_remains = filter_unranked (λ r. not (is_among r.candidate before)) (λ r. refl) g.list

  flat_called : called flat before ≡ map unranked (called g before)
  flat_called = filter_unranked (λ r. is_among r.candidate before) (λ r. refl) g.list

  flat_any : (t : Ranked → Bool) → ((x : Ranked) → t (unranked x) ≡ t x)
      → list_any t (remaining flat before) ≡ list_any t (remaining g before)
  flat_any t same = ap (list_any t) flat_remains ∙ any_unranked t same (remaining g before)

  flat_count : (t : Ranked → Bool) → ((x : Ranked) → t (unranked x) ≡ t x)
      → count_by t (called flat before) ≡ count_by t (called g before)
  flat_count t same = ap (count_by t) flat_called ∙ count_unranked t same (called g before)

  flat_bound : bound_after flat before ≡ bound_after g before
  flat_bound = λ i.
      bound_of (flat_any (λ r. r.scholar) (λ x. refl) i
      && nat_lt (100 * flat_count (λ r. r.scholar) (λ x. refl) i) (g.scholar_pct * (length before + 1)))
      (flat_any (λ r. r.resident) (λ x. refl) i
      && nat_lt (100 * flat_count (λ r. r.resident) (λ x. refl) i) (g.resident_pct * (length before + 1)))
      (flat_any (λ r. r.scholar && r.resident) (λ x. refl) i)

  who_flat : who flat before ≡ who g before
  who_flat =
      let b = bound_after g before in
      (λ i. option_map id_of (find (may_be_called (flat_bound i)) (flat_remains i)))
      ∙ find_unranked (may_be_called b) (may_unranked b) (remaining g before)

-- ---- a ranking is the others, with the one at their place
all_others : (c : ℕ) (xs : List Ranked) → AllByRecursion (λ k. nat_eq c k ≡ false) (map id_of xs)
    → filter (λ r. not (nat_eq c r.candidate)) xs ≡ xs
all_others c [] all = refl
all_others c (x ∷ xs) all = rw all.0 (ap (λ ys. x ∷ ys) (all_others c xs all.1))

later_split : (y u : Ranked) (ys os : List Ranked) (n : ℕ) → ys ≡ take n os ++ u ∷ drop n os
    → y ∷ ys ≡ take (1 + n) (y ∷ os) ++ u ∷ drop (1 + n) (y ∷ os)
later_split y u ys os n e = rw (one_more n) (ap (λ l. y ∷ l) e)

split_by : (xs : List Ranked) (c : ℕ) (r : Ranked) → IsDistinct nat_eq (map id_of xs) → IsIn r xs → r.candidate ≡ c
    → map unranked xs
    ≡ take (place_in (map id_of xs) c) (map unranked (filter (λ x. not (nat_eq c x.candidate)) xs))
    ++ unranked r ∷ drop (place_in (map id_of xs) c) (map unranked (filter (λ x. not (nat_eq c x.candidate)) xs))
split_by [] c r apart has is = absurd has
split_by (x ∷ xs) c r apart has is =
    elim (cases_Bool (nat_eq c x.candidate)) [
      | inl here ↦
          let x_is : x.candidate ≡ c = sym (eqb-true c x.candidate here) in
          let same : x ≡ r = same_row id_of x r (x ∷ xs) apart (inl refl) has (x_is ∙ sym is) in
          let head = subst (λ (d : ℕ). AllByRecursion (λ k. nat_eq d k ≡ false) (map id_of xs)) x_is
          (IsDistinct-head nat_eq x.candidate (map id_of xs) apart) in
          rw here (λ i. unranked (same i) ∷ map unranked (sym (all_others c xs head) i))
      | inr other ↦
          elim has [
            | inl same ↦ absurd (false≢true (sym other ∙ eq-eqb c x.candidate (sym (ap id_of same ∙ is))))
            | inr later ↦
                let rest = split_by xs c r (IsDistinct-tail nat_eq x.candidate (map id_of xs) apart) later is in
                rw other (later_split (unranked x) (unranked r) (map unranked xs)
                (map unranked (filter (λ y. not (nat_eq c y.candidate)) xs)) (place_in (map id_of xs) c) rest)
          ]
    ]

pub record Parts (os : List Ranked) (m n : ℕ) : Type 0 where
  pub front : List Ranked
  pub between : List Ranked
  pub back : List Ranked
  pub before_m : take m os ≡ front
  pub from_m : drop m os ≡ between ++ back
  pub before_n : take n os ≡ front ++ between
  pub from_n : drop n os ≡ back

parts_of : (os : List Ranked) (m n : ℕ) → m ≤ n → Parts os m n
parts_of os zero n le = record {
  front = [];
  between = take n os;
  back = drop n os;
  before_m = refl;
  from_m = sym (take-append-drop n os);
  before_n = refl;
  from_n = refl;
}
parts_of os (suc m) zero le = absurd (omega arith)
parts_of [] (suc m) (suc n) le = record {
  front = [];
  between = [];
  back = [];
  before_m = refl;
  from_m = refl;
  before_n = refl;
  from_n = refl;
}
parts_of (o ∷ os) (suc m) (suc n) le =
    let rest = parts_of os m n (omega arith) in
    record {
      front = o ∷ rest.front;
      between = rest.between;
      back = rest.back;
      before_m = ap (λ l. o ∷ l) rest.before_m;
      from_m = rest.from_m;
      before_n = ap (λ l. o ∷ l) rest.before_n;
      from_n = rest.from_n;
    }

-- ---- the call at each place
first_at : {A B : Type 0} (xs : List A) (ys : List B) (k : ℕ) → length ys ≡ length xs
    → option_map (λ (x : A × B). x.0) (slice_get (zip xs ys) k) ≡ slice_get xs k
first_at [] ys k long = refl
first_at (x ∷ xs) [] k long = absurd (omega arith)
first_at (x ∷ xs) (y ∷ ys) zero long = refl
first_at (x ∷ xs) (y ∷ ys) (suc k) long = first_at xs ys k (omega arith)

map_twice : (b : Bound) (o : Option Ranked)
    → option_map (λ (x : ℕ × Bound). x.0) (option_map (λ (r : Ranked). (r.candidate, b)) o) ≡ option_map id_of o
map_twice b None = refl
map_twice b (Some r) = refl

called_at : (g : RankGroup) (order : CallOrder) → IsRanking g → IsCallOrder g order → (k : ℕ)
    → who g (take k order.list) ≡ slice_get order.list k
called_at g order ranking calls k =
    let so_far = take k order.list in
    sym (map_twice (bound_after g so_far) (find (may_be_called (bound_after g so_far)) (remaining g so_far)))
    ∙ ap (option_map (λ (x : ℕ × Bound). x.0)) (sym (next_is_first g so_far ranking.ranks) ∙ calls.each_next k)
    ∙ first_at order.list order.trace k calls.as_long

take_same : (xs ys : List ℕ) (k : ℕ) → take k xs ≡ take k ys → slice_get xs k ≡ slice_get ys k
    → take (suc k) xs ≡ take (suc k) ys
take_same [] [] k front here = refl
take_same [] (y ∷ ys) zero front here = absurd (cc)
take_same [] (y ∷ ys) (suc k) front here = absurd (cc)
take_same (x ∷ xs) [] zero front here = absurd (cc)
take_same (x ∷ xs) [] (suc k) front here = absurd (cc)
take_same (x ∷ xs) (y ∷ ys) zero front here = let same : x ≡ y = (cc) in ap (λ z. z ∷ []) same
take_same (x ∷ xs) (y ∷ ys) (suc k) front here =
    let same : x ≡ y = (cc) in
    let tails : take k xs ≡ take k ys = (cc) in
    let rest = take_same xs ys k tails here in
    λ i. same i ∷ rest i

not_in_front : (c : ℕ) (xs : List ℕ) (k : ℕ) → is_among c (take (suc k) xs) ≡ false → is_among c (take k xs) ≡ false
not_in_front c xs zero none = refl
not_in_front c [] (suc k) none = refl
not_in_front c (x ∷ xs) (suc k) none =
    let parts = or_parts (nat_eq c x) (is_among c (take (suc k) xs)) none in
    or_from (nat_eq c x) (is_among c (take k xs)) parts.0 (not_in_front c xs k parts.1)

not_in_more : (c x : ℕ) (xs : List ℕ) (n : ℕ) → nat_eq c x ≡ false → is_among c (take n xs) ≡ false
    → is_among c (take (1 + n) (x ∷ xs)) ≡ false
not_in_more c x xs n other none = rw (one_more n) (or_from (nat_eq c x) (is_among c (take n xs)) other none)

not_before_first : (c : ℕ) (xs : List ℕ) → is_among c (take (place_in xs c) xs) ≡ false
not_before_first c [] = refl
not_before_first c (x ∷ xs) =
    elim (cases_Bool (nat_eq c x)) [
      | inl here ↦ rw here refl
      | inr other ↦ rw other (not_in_more c x xs (place_in xs c) other (not_before_first c xs))
    ]

-- a prefix that another list has too is no longer than that list
front_within : (xs ys : List ℕ) (n : ℕ) → take n xs ≡ take n ys → n ≤ length ys → n ≤ length xs
front_within xs ys n same le =
    elim (cases_lt (length xs) n) [
      | inr within ↦ within
      | inl short ↦
          let whole = take_all n xs (omega (arith, short)) in
          absurd (omega (arith, short, ap length (sym whole ∙ same), length-take-le n ys le))
    ]

module _ (g better : RankGroup) (r now : Ranked) (order better_order : CallOrder) (ranking : IsRanking g)
    (better_ranking : IsRanking better)
    (calls : IsCallOrder g order) (better_calls : IsCallOrder better better_order)
    (is : IsBetterFor g better r now) where
  abbrev c : ℕ
  c = r.candidate

  -- after the same calls, none of them theirs, the next call is the same or theirs
  step : (before : List ℕ) → is_among c before ≡ false
      → (who better before ≡ Some c) ⊎ (who better before ≡ who g before)
  step before not_called =
      let m = place_in (map id_of better.list) c in
      let n = place_in (map id_of g.list) c in
      let p = parts_of (others_than c g) m n is.rank in
      let old_list : map unranked g.list ≡ p.front ++ (p.between ++ unranked r ∷ p.back) =
      split_by g.list c r ranking.candidates (in_list r g.list is.ranked) refl
      ∙ (λ i. p.before_n i ++ unranked r ∷ p.from_n i)
      ∙ append_assoc p.front p.between (unranked r ∷ p.back) in
      let new_list : map unranked better.list ≡ p.front ++ unranked now ∷ (p.between ++ p.back) =
      split_by better.list c now better_ranking.candidates (in_list now better.list is.ranked_now) is.same
      ∙ (λ i. take m (is.others i) ++ unranked now ∷ drop m (is.others i))
      ∙ (λ i. p.before_m i ++ unranked now ∷ p.from_m i) in
      let old_who : who g before ≡ who (record g { list = p.front ++ (p.between ++ unranked r ∷ p.back) }) before =
      sym (who_flat g before) ∙ (λ i. who (record g { list = old_list i }) before) in
      let new_who : who better before ≡ who (record g { list = p.front ++ unranked now ∷ (p.between ++ p.back) }) before
      =
      sym (who_flat better before)
      ∙ (λ i. who (record g { scholar_pct = is.scholar_pct i; resident_pct = is.resident_pct i; list = new_list i })
      before) in
      elim (next_or_them g p.front p.between p.back (unranked r)
      (unranked now) before not_called is.same is.scholar is.resident) [
        | inl them ↦ inl (new_who ∙ them)
        | inr equal ↦ inr (new_who ∙ equal ∙ sym old_who)
      ]

  same_until : (k : ℕ) → is_among c (take k better_order.list) ≡ false → take k order.list ≡ take k better_order.list
  same_until zero not_yet = refl
  same_until (suc k) not_yet =
      let before = not_in_front c better_order.list k not_yet in
      let earlier = same_until k before in
      let here = called_at better better_order better_ranking better_calls k in
      elim (step (take k better_order.list) before) [
        | inl them ↦ absurd (false≢true (sym not_yet ∙ among_front better_order.list k c (sym here ∙ them)))
        | inr equal ↦
            take_same order.list better_order.list k earlier
            (sym (called_at g order ranking calls k) ∙ ap (who g) earlier ∙ sym equal ∙ here)
      ]

  pub no_later : IsCalledNoLater c order better_order
  no_later =
      let n = place_in better_order.list c in
      let none = not_before_first c better_order.list in
      let same = same_until n none in
      let within = front_within order.list better_order.list n same (place_at_most better_order.list c) in
      record {
        no_later =
            elim (cases_lt (place_in order.list c) n) [
              | inr le ↦ le
              | inl earlier ↦ absurd (both_ways (is_among c (take n better_order.list)) none
                  (ap (is_among c) (sym same) ∙ among_taken order.list c n earlier within))
            ];
        same_before = sym same;
      }

pub better_is_never_later : BetterIsNeverLater
better_is_never_later g better r now order better_order ranking better_ranking calls better_calls is =
    no_later g better r now order better_order ranking better_ranking calls better_calls is
