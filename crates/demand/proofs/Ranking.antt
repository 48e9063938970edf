-- The first of each rank in a list put in order by rank: the demanded ranks with their names.
use Rattle.std.proofs.Common.{ℕ, zero, suc, ◌+◌, ◌≤◌, ◌<◌, ◌≡◌, Bool, true, false, cond, not, ◌&&◌, ◌||◌, List, [], ◌∷◌}
use Rattle.std.proofs.Common.{map, length, get_or, inl, inr, refl, sym, ◌∙◌, ap, arith, nat_eq, filter, Option, Some}
use Rattle.std.proofs.Common.{None, nat_lt, add-zero, zero-add}
use Rattle.std.specs.Prelude.{◌==◌, option_map, unwrap_or, find}
use Rattle.std.specs.List.{list_any, enumerate_from, dedup, dedup_from, AllByRecursion}
use Rattle.std.specs.List.Sorted.{IsNonDecreasingBy, IsPermutation, IsStableByKey}
use Rattle.std.specs.Ordering.{nat_cmp}
use Rattle.std.proofs.lemmas.Bool.{cases_Bool, false≢true, eqb-true, eqb-false, eq-eqb, ne_eqb, and_right}
use Rattle.std.proofs.lemmas.Slice.Zip.{length-zip}
use Rattle.std.proofs.lemmas.List.FromFn.{get_or-map-range_with_len}
use Rattle.admit_core.specs.declared.dossier.Wish.{Wish}
use Rattle.admit_core.specs.declared.state.Mark.{Mark}
use Rattle.admit_core.specs.declared.ranking.CallOrder.{CallOrder}
use Rattle.admit_core.specs.Lists.{ascending, is_among}
use Rattle.admit_core.specs.State.{State, entries, has_school, holds_bed}
use Rattle.admit_core.specs.Proposals.{is_proposed, proposed, demands_bed}
use Rattle.admit_core.specs.Boarding.{name_of}
use Rattle.admit_core.proofs.Tests.{Ascends, same_members, ascends_ascending, among-ascending}
use Rattle.admit_core.proofs.Plain.{nat_eq_sym}
use Rattle.day_state.proofs.Ordering.{stable_own}
use Rattle.proposals.specs.declared.demands.Demand.{Demand}
use Rattle.day_state.specs.Kept.{wish_in}
use Rattle.day_state.proofs.Places.{entry_in, entries_by_place}
use Rattle.proposals.specs.Demands.{demands_of}
use Rattle.demand.specs.Needs.{needs_bed, demand_in, demands_in, first_wish, firsts_by_rank, same_rank}

-- at this rank
abbrev at_rank : ℕ → Demand → Bool
at_rank r x = x.rank == r

-- the ranks do not fall
abbrev Rises : List Demand → Type 0
Rises [] = Unit {0}
Rises (x ∷ xs) = AllByRecursion (λ y. x.rank ≤ y.rank) xs × Rises xs

not_below : (x : Demand) (xs : List Demand) → ((k : ℕ) (d : Demand) → k < length xs → x.rank ≤ (get_or xs k d).rank)
    → AllByRecursion (λ y. x.rank ≤ y.rank) xs
not_below x [] h = tt
not_below x (y ∷ ys) h = (h zero y (omega arith), not_below x ys (λ k d lt. h (suc k) d (omega arith)))

rises_from : (xs : List Demand) → IsNonDecreasingBy (λ x. x.rank) xs → Rises xs
rises_from [] h = tt
rises_from (x ∷ xs) h = (
  not_below x xs (λ k d lt. h zero (suc k) d (omega arith) (omega arith)),
  rises_from xs
      (λ i j d le lt. h (suc i) (suc j) d (omega arith) (omega arith)),
)

-- those that are kept behind a first one
abbrev kept : Demand → List Demand → List Demand
kept k [] = []
kept k (x ∷ xs) = cond (same_rank x k) (kept k xs) (x ∷ kept x xs)

dedup_kept : (k : Demand) (xs : List Demand) → dedup_from same_rank k xs ≡ k ∷ kept k xs
dedup_kept k [] = refl
dedup_kept k (x ∷ xs) =
    elim (cases_Bool (same_rank x k)) [
      | inl same ↦ rw same (dedup_kept k xs)
      | inr other ↦ rw other (ap (λ (ys : List Demand). k ∷ ys) (dedup_kept x xs))
    ]

-- a kept one is of greater rank, and is the first of its rank
record IsFirst (low : ℕ) (xs : List Demand) (y : Demand) : Type 0 where
  above : low < y.rank
  found : find (at_rank y.rank) xs ≡ Some y

later_first : (low : ℕ) (x : Demand) (xs ys : List Demand) → low ≤ x.rank → AllByRecursion (IsFirst x.rank xs) ys
    → AllByRecursion (IsFirst low (x ∷ xs)) ys
later_first low x xs [] le all = tt
later_first low x xs (y ∷ ys) le all =
    let first = all.0 in
    let other : (x.rank == y.rank) ≡ false = ne_eqb x.rank y.rank (λ e. omega (arith, e, first.above)) in
    (record { above = omega (arith, first.above); found = rw other first.found }, later_first low x xs ys le all.1)

firsts : (k : Demand) (xs : List Demand) → AllByRecursion (λ y. k.rank ≤ y.rank) xs → Rises xs
    → AllByRecursion (IsFirst k.rank xs) (kept k xs)
firsts k [] from rises = tt
firsts k (x ∷ xs) from rises =
    elim (cases_Bool (same_rank x k)) [
      | inl same ↦
          let is : x.rank ≡ k.rank = eqb-true x.rank k.rank same in
          let again : AllByRecursion (IsFirst x.rank xs) (kept k xs) = rw is (firsts k xs from.1 rises.1) in
          rw same (later_first k.rank x xs (kept k xs) (omega (arith, is)) again)
      | inr other ↦
          let above : k.rank < x.rank = omega (arith, from.0, eqb-false x.rank k.rank other) in
          rw other (
            record { above = above; found = rw (eq-eqb x.rank x.rank refl) refl },
            later_first k.rank x xs (kept x xs) (omega (arith, above)) (firsts x xs rises.0 rises.1),
          )
    ]

only_found : (xs ys : List Demand) (low : ℕ) → AllByRecursion (IsFirst low xs) ys
    → AllByRecursion (λ y. find (at_rank y.rank) xs ≡ Some y) ys
only_found xs [] low all = tt
only_found xs (y ∷ ys) low all = (all.0.found, only_found xs ys low all.1)

-- so are all after `dedup`
first_of : (xs : List Demand) → Rises xs → AllByRecursion (λ y. find (at_rank y.rank) xs ≡ Some y) (dedup same_rank xs)
first_of [] rises = tt
first_of (x ∷ xs) rises =
    rw (dedup_kept x xs) (
      rw (eq-eqb x.rank x.rank refl) refl,
      only_found (x ∷ xs) (kept x xs) x.rank
          (later_first x.rank x xs (kept x xs) (omega arith) (firsts x xs rises.0 rises.1)),
    )

-- their ranks rise
above_low : (low : ℕ) (xs ys : List Demand) → AllByRecursion (IsFirst low xs) ys
    → AllByRecursion (λ m. low < m) (map (λ x. x.rank) ys)
above_low low xs [] all = tt
above_low low xs (y ∷ ys) all = (all.0.above, above_low low xs ys all.1)

ascends_kept : (k : Demand) (xs : List Demand) → AllByRecursion (λ y. k.rank ≤ y.rank) xs → Rises xs
    → Ascends (map (λ x. x.rank) (kept k xs))
ascends_kept k [] from rises = tt
ascends_kept k (x ∷ xs) from rises =
    elim (cases_Bool (same_rank x k)) [
      | inl same ↦ rw same (ascends_kept k xs from.1 rises.1)
      | inr other ↦ rw other (
        above_low x.rank xs (kept x xs) (firsts x xs rises.0 rises.1),
        ascends_kept x xs rises.0 rises.1,
      )
    ]

ascends_dedup : (xs : List Demand) → Rises xs → Ascends (map (λ x. x.rank) (dedup same_rank xs))
ascends_dedup [] rises = tt
ascends_dedup (x ∷ xs) rises = rw (dedup_kept x xs) (
  above_low x.rank xs (kept x xs)
      (firsts x xs rises.0 rises.1),
  ascends_kept x xs rises.0 rises.1,
)

-- and none is lost
twice : (a b c : Bool) → a ≡ b → (a || (b || c)) ≡ (a || c)
twice true b c e = refl
twice false true c e = absurd (false≢true e)
twice false false c e = refl

ranks_kept : (r : ℕ) (k : Demand) (xs : List Demand)
    → is_among r (map (λ x. x.rank) (k ∷ kept k xs)) ≡ is_among r (map (λ x. x.rank) (k ∷ xs))
ranks_kept r k [] = refl
ranks_kept r k (x ∷ xs) =
    elim (cases_Bool (same_rank x k)) [
      | inl same ↦
          let is : nat_eq r k.rank ≡ nat_eq r x.rank = ap (nat_eq r) (sym (eqb-true x.rank k.rank same)) in
          rw same (ranks_kept r k xs ∙ sym (twice (nat_eq r k.rank) (nat_eq r x.rank)
          (is_among r (map (λ y. y.rank) xs)) is))
      | inr other ↦ rw other (ap (λ b. nat_eq r k.rank || b) (ranks_kept r x xs))
    ]

ranks_dedup : (r : ℕ) (xs : List Demand)
    → is_among r (map (λ x. x.rank) (dedup same_rank xs)) ≡ is_among r (map (λ x. x.rank) xs)
ranks_dedup r [] = refl
ranks_dedup r (x ∷ xs) = rw (dedup_kept x xs) (ranks_kept r x xs)

-- what a filter keeps tells whether there is one, and which is the first
abbrev first : {X : Type 0} → List X → Option X
first [] = None
first (x ∷ xs) = Some x

abbrev is_some : {X : Type 0} → Option X → Bool
is_some None = false
is_some (Some x) = true

find_first : {X : Type 0} (p : X → Bool) (xs : List X) → find p xs ≡ first (filter p xs)
find_first p [] = refl
find_first p (x ∷ xs) = elim (cases_Bool (p x)) [ inl passes ↦ rw passes refl | inr fails ↦ rw fails (find_first p xs) ]

any_first : {X : Type 0} (p : X → Bool) (xs : List X) → list_any p xs ≡ is_some (first (filter p xs))
any_first p [] = refl
any_first p (x ∷ xs) = elim (cases_Bool (p x)) [ inl passes ↦ rw passes refl | inr fails ↦ rw fails (any_first p xs) ]

any_turned : (r : ℕ) (xs : List Demand) → is_among r (map (λ x. x.rank) xs) ≡ list_any (at_rank r) xs
any_turned r [] = refl
any_turned r (x ∷ xs) = rw (nat_eq_sym r x.rank, any_turned r xs) refl

-- the demands by place
abbrev demand_at : ℕ × (Wish × Mark) → Demand
demand_at x = record { rank = x.1.0.board_rank; wish = x.0 }

abbrev placed : (Wish × Mark → Bool) → ℕ → List (Wish × Mark) → List Demand
placed test n es = map demand_at (filter (λ x. test x.1) (enumerate_from n es))

-- the demands of proposed wishes, by place
from_places : (s : State) (h : ℕ) (proposes : Wish × Mark → Bool) (n : ℕ) (es : List (Wish × Mark))
    → ((k : ℕ) (d : Wish × Mark) → k < length es → wish_in s.dossier.wishes (n + k) ≡ (get_or es k d).0)
    → map (demand_in s.dossier.wishes)
    (filter (needs_bed s h) (map (λ x. x.0) (filter (λ x. proposes x.1) (enumerate_from n es))))
    ≡ placed (λ e. has_school e.0 h && nat_lt 0 e.0.board_rank && not (holds_bed s e.0.candidate h) && proposes e) n es
from_places s h proposes n [] at = refl
from_places s h proposes n (e ∷ es) at =
    let ws = s.dossier.wishes in
    let needs = λ (w : Wish). has_school w h && nat_lt 0 w.board_rank && not (holds_bed s w.candidate h) in
    let here : wish_in ws n ≡ e.0 = ap (wish_in ws) (sym (add-zero n)) ∙ at 0 e (omega arith) in
    let later = from_places s h proposes (n + 1) es
    (λ k d lt. let next : (n + 1) + k ≡ n + suc k = omega arith in
    ap (wish_in ws) next ∙ at (suc k) d (omega arith)) in
    let demand : demand_in ws n ≡ demand_at (n, e) =
    ap (λ (w : Wish). let d : Demand = record { rank = w.board_rank; wish = n } in d) here in
    let need : needs_bed s h n ≡ needs e.0 = ap needs here in
    elim (cases_Bool (proposes e)) [
      | inl proposed ↦ elim (cases_Bool (needs e.0)) [
        | inl needed ↦ rw (proposed, need, needed)
            (ap (λ (d : Demand). d ∷ map (demand_in ws) (filter (needs_bed s h)
            (map (λ x. x.0) (filter (λ x. proposes x.1) (enumerate_from (n + 1) es))))) demand
            ∙ ap (λ (ys : List Demand). demand_at (n, e) ∷ ys) later)
        | inr not_needed ↦ rw (proposed, need, not_needed) later
      ]
      | inr not_proposed ↦ rw (not_proposed, and_right (needs e.0) false refl) later
    ]

ranks_placed : (test : Wish × Mark → Bool) (n : ℕ) (es : List (Wish × Mark))
    → map (λ x. x.rank) (placed test n es) ≡ map (λ e. e.0.board_rank) (filter test es)
ranks_placed test n [] = refl
ranks_placed test n (e ∷ es) =
    let later = ranks_placed test (n + 1) es in
    elim (cases_Bool (test e)) [
      | inl passes ↦ rw passes (ap (λ (ys : List ℕ). e.0.board_rank ∷ ys) later)
      | inr fails ↦ rw fails later
    ]

found_placed : (test : Wish × Mark → Bool) (r n : ℕ) (es : List (Wish × Mark))
    → find (at_rank r) (placed test n es) ≡ option_map demand_at (find (λ x. test x.1 && (x.1.0.board_rank == r))
    (enumerate_from n es))
found_placed test r n [] = refl
found_placed test r n (e ∷ es) =
    let later = found_placed test r (n + 1) es in
    elim (cases_Bool (test e)) [
      | inl passes ↦ rw passes (elim (cases_Bool (e.0.board_rank == r))
          [ inl here ↦ rw here refl | inr other ↦ rw other later ])
      | inr fails ↦ rw fails later
    ]

wish_of : (o : Option (ℕ × (Wish × Mark)))
    → unwrap_or (option_map (λ (x : Demand). x.wish) (option_map demand_at o)) 0 ≡ unwrap_or (option_map (λ x. x.0) o) 0
wish_of None = refl
wish_of (Some x) = refl

-- a list whose wishes are the names of its ranks
named : (name : ℕ → ℕ) (zs : List Demand) → AllByRecursion (λ y. name y.rank ≡ y.wish) zs
    → zs ≡ map (λ r. record { rank = r; wish = name r }) (map (λ x. x.rank) zs)
named name [] all = refl
named name (z ∷ zs) all =
    let with_wish = λ (n : ℕ). let d : Demand = record { rank = z.rank; wish = n } in d in
    ap (λ (ys : List Demand). z ∷ ys) (named name zs all.1)
    ∙ ap (λ (y : Demand). y ∷ map (λ r. record { rank = r; wish = name r }) (map (λ x. x.rank) zs))
    (sym (ap with_wish all.0))

each_named : (name : ℕ → ℕ) (xs zs : List Demand)
    → ((y : Demand) → find (at_rank y.rank) xs ≡ Some y → name y.rank ≡ y.wish)
    → AllByRecursion (λ y. find (at_rank y.rank) xs ≡ Some y) zs → AllByRecursion (λ y. name y.rank ≡ y.wish) zs
each_named name xs [] h all = tt
each_named name xs (z ∷ zs) h all = (h z all.0, each_named name xs zs h all.1)

entry_wishes : (s : State) → length s.marks ≡ length s.dossier.wishes → (k : ℕ) (d : Wish × Mark)
    → k < length (entries s)
    → wish_in s.dossier.wishes (0 + k) ≡ (get_or (entries s) k d).0
entry_wishes s long k d lt =
    let n = length s.dossier.wishes in
    let within : k < n = omega (arith, length-zip s.dossier.wishes s.marks) in
    ap (wish_in s.dossier.wishes) (zero-add k)
    ∙ sym (ap (λ (e : Wish × Mark). e.0) (ap (λ es. get_or es k d) (entries_by_place s long)
    ∙ get_or-map-range_with_len (entry_in s) 0 n k k d within (zero-add k)))

-- the firsts of what is put in order are the first of each rank
pub firsts_are : (by_place sorted : List Demand) → IsPermutation by_place sorted
    → IsNonDecreasingBy (λ x. x.rank) sorted → IsStableByKey (λ x. x.rank) nat_cmp by_place sorted
    → dedup same_rank sorted ≡ firsts_by_rank by_place
firsts_are by_place sorted moved rising stable =
    let name = first_wish by_place in
    let rank = λ (x : Demand). x.rank in
    let zs = dedup same_rank sorted in
    let rises = rises_from sorted rising in
    let own : (r : ℕ) → filter (at_rank r) sorted ≡ filter (at_rank r) by_place = λ r.
    stable_own rank by_place sorted moved stable r in
    let find_same : (r : ℕ) → find (at_rank r) sorted ≡ find (at_rank r) by_place = λ r.
    find_first (at_rank r) sorted ∙ ap first (own r) ∙ sym (find_first (at_rank r) by_place) in
    let named_so : (y : Demand) → find (at_rank y.rank) sorted ≡ Some y → name y.rank ≡ y.wish = λ y found.
    ap (λ (o : Option Demand). unwrap_or (option_map (λ (x : Demand). x.wish) o) 0)
    (sym (find_same y.rank) ∙ found) in
    let members : (r : ℕ) → is_among r (map rank zs) ≡ is_among r (ascending (map rank by_place)) = λ r.
    ranks_dedup r sorted ∙ any_turned r sorted
    ∙ any_first (at_rank r) sorted ∙ ap (λ ys. is_some (first ys)) (own r)
    ∙ sym (any_first (at_rank r) by_place)
    ∙ sym (any_turned r by_place)
    ∙ sym (among-ascending r (map rank by_place)) in
    named name zs (each_named name sorted zs named_so (first_of sorted rises))
    ∙ ap (map (λ r. record { rank = r; wish = name r }))
    (same_members (map rank zs) (ascending (map rank by_place)) (ascends_dedup sorted rises)
    (ascends_ascending (map rank by_place)) members)

-- of the proposed wishes they are the demanded ranks with their names
pub proposed_firsts : (s : State) (orders : List CallOrder) (bars : List ℕ) (h : ℕ) (places : List ℕ)
    → length s.marks ≡ length s.dossier.wishes → places ≡ proposed s orders bars
    → firsts_by_rank (demands_in s places h) ≡ demands_of s orders bars h
proposed_firsts s orders bars h places long are =
    let es = entries s in
    let test = λ (e : Wish × Mark). demands_bed s orders bars h e.0 e.1 in
    let is : demands_in s places h ≡ placed test 0 es =
    ap (λ ks. demands_in s ks h) are
    ∙ from_places s h (λ e. is_proposed s orders bars e.0 e.1) 0 es (entry_wishes s long) in
    let same_name : (r : ℕ) → first_wish (placed test 0 es) r ≡ name_of s orders bars h r = λ r.
    ap (λ (o : Option Demand). unwrap_or (option_map (λ (x : Demand). x.wish) o) 0) (found_placed test r 0 es)
    ∙ wish_of (find (λ x. test x.1 && (x.1.0.board_rank == r)) (enumerate_from 0 es)) in
    let demand = λ (name : ℕ → ℕ) (r : ℕ). let d : Demand = record { rank = r; wish = name r } in d in
    ap firsts_by_rank is
    ∙ ap (λ name. map (demand name) (ascending (map (λ x. x.rank) (placed test 0 es)))) (λ i r. same_name r i)
    ∙ ap (λ ranks. map (demand (name_of s orders bars h)) (ascending ranks)) (ranks_placed test 0 es)
