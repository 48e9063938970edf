-- The demands that a row tells are the demanded ranks with their names.
use Rattle.std.proofs.Common.{ℕ, ◌+◌, ◌≤◌, ◌<◌, ◌≡◌, Bool, true, false, ◌&&◌, List, [], ◌∷◌, map, inl, inr, refl, sym}
use Rattle.std.proofs.Common.{◌∙◌, ap, arith, nat_eq, nat_lt, zero, suc, Option, Some, option_map, unwrap_or, find}
use Rattle.std.proofs.Common.{subst, zero-add}
use Rattle.std.specs.Prelude.{slice_get}
use Rattle.std.specs.List.{enumerate_from}
use Rattle.std.proofs.lemmas.Bool.{cases_Bool, cases_order, false≢true, and_parts, and_from, eqb-true, eq-eqb, ltb-true}
use Rattle.std.proofs.lemmas.Bool.{lt-ltb}
use Rattle.std.proofs.lemmas.Option.{slice_get_within}
use Rattle.admit_core.specs.declared.dossier.Wish.{Wish}
use Rattle.admit_core.specs.declared.state.Mark.{Mark}
use Rattle.admit_core.specs.State.{entries}
use Rattle.admit_core.specs.Proposals.{demands_bed}
use Rattle.admit_core.specs.Boarding.{name_of}
use Rattle.proposals.specs.declared.demands.Demand.{Demand}
use Rattle.proposals.specs.Demands.{demands_of}
use Rattle.linked_demand.specs.declared.rows.RowWish.{RowWish}
use Rattle.linked_demand.specs.Links.{LinksRow}
use Rattle.linked_demand.specs.Opens.{opens_of}
use Rattle.linked_demand.specs.Rows.{IsRow}
use Rattle.linked_demand.specs.Demand.{is_proposed_at, counted, firsts}
use Rattle.linked_demand.proofs.Demanded.{demander, demands_at, demands_back, ranks_told}

abbrev demand_of : RowWish → Demand
demand_of x = record { rank = x.rank; wish = x.wish }

-- the ranks of the firsts are those that are counted
ranks_first : (p : ℕ → Bool) (last : ℕ) (xs : List RowWish)
    → map (λ (y : Demand). y.rank) (firsts p last xs) ≡ counted p last xs
ranks_first p last [] = refl
ranks_first p last (x ∷ xs) =
    elim (cases_Bool (nat_lt last x.rank && p x.wish)) [
      | inl counts ↦ rw counts (ap (λ (rs : List ℕ). x.rank ∷ rs) (ranks_first p x.rank xs))
      | inr not_so ↦ rw not_so (ranks_first p last xs)
    ]

-- one that leads those of its rank: it passes, and none before it of its rank does
record Leads (p : ℕ → Bool) (last : ℕ) (xs : List RowWish) (x : RowWish) : Type 0 where
  place : ℕ
  here : slice_get xs place ≡ Some x
  passes : p x.wish ≡ true
  above : last < x.rank
  alone : (j : ℕ) (z : RowWish) → j < place → slice_get xs j ≡ Some z → z.rank ≡ x.rank → p z.wish ≡ false

second : (a b : Bool) → a ≡ true → (a && b) ≡ false → b ≡ false
second true b t none = none
second false b t none = absurd (false≢true t)

-- with one more before, which does not pass where it has the rank
before : (p : ℕ → Bool) (x z : RowWish) (xs : List RowWish) (place : ℕ)
    → ((j : ℕ) (u : RowWish) → j < place → slice_get xs j ≡ Some u → u.rank ≡ z.rank → p u.wish ≡ false)
    → (x.rank ≡ z.rank → p x.wish ≡ false) → (j : ℕ) (u : RowWish) → j < suc place
    → slice_get (x ∷ xs) j ≡ Some u → u.rank ≡ z.rank → p u.wish ≡ false
before p x z xs place alone first zero u lt there same =
    let is : x ≡ u = ap (λ (o : Option RowWish). unwrap_or o x) there in
    let P = λ (v : RowWish). v.rank ≡ z.rank → p v.wish ≡ false in
    subst P is first same
before p x z xs place alone first (suc j) u lt there same = alone j u (omega arith) there same

further : (p : ℕ → Bool) (last : ℕ) (x : RowWish) (xs : List RowWish) (y : Demand) (low : ℕ) → last ≤ low
    → ((z : RowWish) → low < z.rank → x.rank ≡ z.rank → p x.wish ≡ false)
    → (z : RowWish) × (demand_of z ≡ y) × Leads p low xs z → (z : RowWish) × (demand_of z ≡ y) × Leads p last (x ∷ xs) z
further p last x xs y low le first (z, is, leads) = (
  z,
  is,
  record {
    place = suc leads.place;
    here = leads.here;
    passes = leads.passes;
    above = omega (arith, leads.above);
    alone = before p x z xs leads.place leads.alone (first z leads.above);
  },
)

leads_counted : (p : ℕ → Bool) (last : ℕ) (x : RowWish) (xs : List RowWish) → (nat_lt last x.rank && p x.wish) ≡ true
    → ((i : ℕ) (y : Demand) → slice_get (firsts p x.rank xs) i ≡ Some y
    → (z : RowWish) × (demand_of z ≡ y) × Leads p x.rank xs z)
    → (i : ℕ) (y : Demand) → slice_get (demand_of x ∷ firsts p x.rank xs) i ≡ Some y
    → (z : RowWish) × (demand_of z ≡ y) × Leads p last (x ∷ xs) z
leads_counted p last x xs counts later zero y at =
    let parts = and_parts (nat_lt last x.rank) (p x.wish) counts in (
      x,
      ap (λ (o : Option Demand). unwrap_or o y) at,
      record {
        place = 0;
        here = refl;
        passes = parts.1;
        above = ltb-true last x.rank parts.0;
        alone = λ j z lt there same. absurd (omega arith);
      },
    )
leads_counted p last x xs counts later (suc i) y at =
    let above = ltb-true last x.rank (and_parts (nat_lt last x.rank) (p x.wish) counts).0 in
    further p last x xs y x.rank (omega (arith, above)) (λ z high same. absurd (omega (arith, high, same)))
    (later i y at)

leads_first : (p : ℕ → Bool) (last : ℕ) (xs : List RowWish) (i : ℕ) (y : Demand)
    → slice_get (firsts p last xs) i ≡ Some y
    → (x : RowWish) × (demand_of x ≡ y) × Leads p last xs x
leads_first p last [] i y at = absurd (omega (arith, slice_get_within {A = Demand} [] i y at))
leads_first p last (x ∷ xs) i y at =
    elim (cases_Bool (nat_lt last x.rank && p x.wish)) [
      | inl counts ↦ leads_counted p last x xs counts (leads_first p x.rank xs) i y (rw counts at at)
      | inr not_so ↦
          further p last x xs y last (omega arith)
          (λ z high same. second (nat_lt last x.rank) (p x.wish)
          (lt-ltb last x.rank (omega (arith, high, same))) not_so)
          (leads_first p last xs i y (rw not_so at at))
    ]

-- what is found first is what passes, and nothing before it does
found_first : {X : Type 0} (t : ℕ × X → Bool) (xs : List X) (a k : ℕ) (x : X) → slice_get xs k ≡ Some x
    → t (a + k, x) ≡ true
    → ((j : ℕ) (y : X) → j < k → slice_get xs j ≡ Some y → t (a + j, y) ≡ false)
    → unwrap_or (option_map (λ z. z.0) (find t (enumerate_from a xs))) 0 ≡ a + k
found_first {X} t [] a k x at passes none = absurd (omega (arith, slice_get_within {A = X} [] k x at))
found_first {X} t (y ∷ xs) a zero x at passes none =
    let is : y ≡ x = ap (λ (o : Option X). unwrap_or o y) at in
    let P = λ (z : X). t (a, z) ≡ true in
    let Q = λ (n : ℕ). t (n, x) ≡ true in
    let same : a + 0 ≡ a = omega arith in
    let here : t (a, y) ≡ true = subst P (sym is) (subst Q same passes) in
    rw here (omega arith)
found_first {X} t (y ∷ xs) a (suc k) x at passes none =
    let Q = λ (n : ℕ). t (n, y) ≡ false in
    let R = λ (n : ℕ). t (n, x) ≡ true in
    let start : a + 0 ≡ a = omega arith in
    let end : a + suc k ≡ a + 1 + k = omega arith in
    let here : t (a, y) ≡ false = subst Q start (none 0 y (omega arith) refl) in
    let later = found_first t xs (a + 1) k x at (subst R end passes) (λ j z lt there.
    let S = λ (n : ℕ). t (n, z) ≡ false in
    let step : a + suc j ≡ a + 1 + j = omega arith in
    subst S step (none (suc j) z (omega arith) there)) in
    rw here (omega (arith, later))

-- a list whose wishes are the names of its ranks
named : (name : ℕ → ℕ) (zs : List Demand) → ((i : ℕ) (y : Demand) → slice_get zs i ≡ Some y → name y.rank ≡ y.wish)
    → zs ≡ map (λ r. record { rank = r; wish = name r }) (map (λ x. x.rank) zs)
named name [] all = refl
named name (z ∷ zs) all =
    let with_wish = λ (n : ℕ). let d : Demand = record { rank = z.rank; wish = n } in d in
    ap (λ (ys : List Demand). z ∷ ys) (named name zs (λ i y at. all (suc i) y at))
    ∙ ap (λ (y : Demand). y ∷ map (λ r. record { rank = r; wish = name r }) (map (λ x. x.rank) zs))
    (sym (ap with_wish (all 0 z refl)))

module _ (l : LinksRow) (bars : List ℕ) (h : ℕ) (row : List RowWish) (right : IsRow l.state bars h row)
    (opens_are : l.opens ≡ opens_of l.state bars) where
  abbrev named_by : ℕ → ℕ × (Wish × Mark) → Bool
  named_by r x = demands_bed l.state l.orders bars h x.1.0 x.1.1 && nat_eq x.1.0.board_rank r

  turned : (r : ℕ) (e : Wish × Mark) (k : ℕ) → named_by r (k, e) ≡ true → demands_at l.state l.orders bars h r e ≡ true
  turned r e k t =
      let parts = and_parts (demands_bed l.state l.orders bars h e.0 e.1) (nat_eq e.0.board_rank r) t in
      and_from (demands_bed l.state l.orders bars h e.0 e.1) (nat_eq r e.0.board_rank) parts.0
      (eq-eqb r e.0.board_rank (sym (eqb-true e.0.board_rank r parts.1)))

  -- none of a lesser place demands the rank of one that leads
  none_less : (x : RowWish) (leads : Leads (is_proposed_at l) 0 row x) (j : ℕ) (e : Wish × Mark)
      → j < x.wish → slice_get (entries l.state) j ≡ Some e
      → demands_at l.state l.orders bars h x.rank e ≡ true → ⊥
  none_less x leads j e lt there demands =
      let (i, y, found, rank, wish, passed, some) = demander l bars h row right opens_are x.rank j e there demands in
      elim (cases_order i leads.place) [
        | inl equal ↦
            let P = λ (n : ℕ). slice_get row n ≡ Some y in
            let same : y.wish ≡ x.wish = ap (λ (o : Option RowWish). (unwrap_or o x).wish)
            (sym (subst P equal found) ∙ leads.here) in
            omega (arith, lt, wish, same)
        | inr differ ↦ elim differ [
          | inl below ↦ false≢true (sym (leads.alone i y below found rank) ∙ ap (is_proposed_at l) wish ∙ passed)
          | inr above ↦
              let behind : x.wish < y.wish = right.in_order leads.place i x y above leads.here found (sym rank) in
              omega (arith, lt, wish, behind)
        ]
      ]

  name_right : (i : ℕ) (y : Demand) → slice_get (firsts (is_proposed_at l) 0 row) i ≡ Some y
      → name_of l.state l.orders bars h y.rank ≡ y.wish
  name_right i y at =
      let (x, is, leads) = leads_first (is_proposed_at l) 0 row i y at in
      let (e, there, both) = demands_back l bars h row right opens_are leads.place x leads.here leads.passes
      leads.above in
      let t = named_by x.rank in
      let parts = and_parts (demands_bed l.state l.orders bars h e.0 e.1) (nat_eq x.rank e.0.board_rank) both in
      let here : t (x.wish, e) ≡ true =
      and_from (demands_bed l.state l.orders bars h e.0 e.1) (nat_eq e.0.board_rank x.rank) parts.0
      (eq-eqb e.0.board_rank x.rank (sym (eqb-true x.rank e.0.board_rank parts.1))) in
      let P = λ (n : ℕ). t (n, e) ≡ true in
      let none : (j : ℕ) (f : Wish × Mark) → j < x.wish → slice_get (entries l.state) j ≡ Some f
      → t (0 + j, f) ≡ false =
      λ j f lt at_j. elim (cases_Bool (t (0 + j, f))) [
        | inl asks ↦ absurd (none_less x leads j f lt at_j (turned x.rank f (0 + j) asks))
        | inr asks_not ↦ asks_not
      ] in
      let Q = λ (d : Demand). name_of l.state l.orders bars h d.rank ≡ d.wish in
      subst Q is (found_first t (entries l.state) 0 x.wish e there (subst P (sym (zero-add x.wish)) here) none
      ∙ zero-add x.wish)

  -- the demands that the row tells are the demanded ranks with their names
  pub demands_told : firsts (is_proposed_at l) 0 row ≡ demands_of l.state l.orders bars h
  demands_told =
      named (name_of l.state l.orders bars h) (firsts (is_proposed_at l) 0 row) name_right
      ∙ ap (map (λ r. record { rank = r; wish = name_of l.state l.orders bars h r }))
      (ranks_first (is_proposed_at l) 0 row ∙ ranks_told l bars h row right opens_are)
