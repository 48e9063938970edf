-- The lists of the wishes by group, and each candidate's wishes in them.
use Rattle.std.proofs.Common.{ℕ, ◌+◌, ◌-◌, ◌≤◌, ◌<◌, ◌≡◌, Bool, true, false, not, ◌&&◌, List, [], ◌∷◌, map, length}
use Rattle.std.proofs.Common.{get_or, inl, inr, refl, sym, ◌∙◌, ap, arith, nat_eq, filter, subst, Some, Vec, ltb}
use Rattle.std.proofs.Common.{leb, take, drop}
use Rattle.std.specs.Prelude.{◌==◌, ◌^◌, slice_range, All}
use Rattle.std.specs.declared.alloc.Global.{Global}
use Rattle.std.specs.List.Sorted.{IsNonDecreasingBy, IsPartitionPoint}
use Rattle.std.proofs.Math.ListN.{set}
use Rattle.std.proofs.lemmas.Bool.{and_parts, cases_lt, eqb-true, le-leb, le-ltb, lt-leb, lt-ltb, ltb-true, ltb-false}
use Rattle.std.proofs.lemmas.Bool.{or_cases}
use Rattle.std.proofs.lemmas.List.{drop-map, get_or-map, get_or_default, length-map, length-set, take-map}
use Rattle.std.proofs.lemmas.Option.{slice_get-get_or}
use Rattle.std.proofs.lemmas.List.Elements.{All-drop, All-filter, All-take}
use Rattle.std.proofs.lemmas.List.Filters.{length-filter_both}
use Rattle.std.proofs.lemmas.List.Kept.{IsNonDecreasingBy-filter}
use Rattle.admit_core.proofs.Plain.{filter_same, get_set_other}
use Rattle.admit_core.specs.DossierRows.{DossierRows}
use Rattle.day_state.specs.Kept.{candidate_in, IsIndex}
use Rattle.day_state.proofs.Ordering.{between}
use Rattle.day_state.specs.declared.spans.Span.{Span}
use Rattle.day_state.specs.Spans.{IsWithin, part_of}
use Rattle.linked_demand.specs.declared.wishing.Application.{Application}
use Rattle.linked_demand.specs.Claims.{AreApplicationsFrom, AreApplicationsIn, AreWishesIn, IsSpanOf}
use Rattle.linked_demand.specs.Claims.{application_at, begins_at, candidates_of, lower_before, wishes_of}
use Rattle.linked_demand.specs.Keyed.{AreRowsOf}
use Rattle.std.proofs.lemmas.Simd.{map-map}
use Rattle.linked_demand.specs.Called.{group_claim, is_of_group}
use Rattle.linked_demand.proofs.Lining.{filter_twice}

pub turn_two : (a b : Bool) → (a && b) ≡ (b && a)
turn_two true true = refl
turn_two true false = refl
turn_two false true = refl
turn_two false false = refl

-- those in an order by candidate that are for a programme of a group
pub wishes_in : (s : DossierRows) (order : List ℕ) (p : ℕ) (wishes : List ℕ) → length s.wishes < 2 ^ 32
    → IsIndex s.wishes order
    → wishes ≡ filter (is_of_group s p) order → AreWishesIn s p wishes
wishes_in s order p wishes few index is =
    let ws = s.wishes in
    let q = is_of_group s p in
    let own_of = λ (c k : ℕ). candidate_in ws k == c in
    let right : AreWishesIn s p (filter q order) = record {
      few = omega (arith, few, index.as_long, length-filter_both q (λ k. not (q k)) (λ k. refl) order);
      within = All-filter q (λ k. k < length ws) order index.within;
      rises = IsNonDecreasingBy-filter (candidate_in ws) q order index.rises;
      own = λ c.
          filter_twice (own_of c) q order
          ∙ filter_same (λ k. q k && own_of c k) (λ k. own_of c k && q k) (λ k. turn_two (q k) (own_of c k)) order
          ∙ sym (filter_twice q (own_of c) order)
          ∙ ap (filter q) (index.own c);
    } in
    let P = λ (ks : List ℕ). AreWishesIn s p ks in
    subst P (sym is) right

-- what is kept of wishes shows them
pub shown_wishes : (s : DossierRows) (ks : List ℕ) → wishes_of (map (application_at s) ks) ≡ ks
shown_wishes s [] = refl
shown_wishes s (k ∷ ks) = ap (λ (l : List ℕ). k ∷ l) (shown_wishes s ks)

-- the list of a group, of an order by candidate
applications_in : (s : DossierRows) (order : List ℕ) (g : ℕ) (row : List Application)
    → length s.wishes < 2 ^ 32 → IsIndex s.wishes order
    → row ≡ map (application_at s) (filter (is_of_group s g) order) → AreApplicationsIn s g row
applications_in s order g row few index row_is =
    let ks = filter (is_of_group s g) order in
    let shown : wishes_of row ≡ ks = ap wishes_of row_is ∙ shown_wishes s ks in
    record {
      of_group = wishes_in s order g (wishes_of row) few index shown;
      each = row_is ∙ ap (map (application_at s)) (sym shown);
    }

-- the rows by group of an order by candidate
pub applications_from : (s : DossierRows) (order : List ℕ) (rows : List (Vec Application Global))
    → length s.wishes < 2 ^ 32 → IsIndex s.wishes order
    → AreRowsOf (application_at s) (is_of_group s) (length s.groups) order rows
    → AreApplicationsFrom s 0 rows
applications_from s order rows few index are = record {
  one_each = are.one_each;
  each = λ g row le at. applications_in s order g row.items few index (are.each g row at);
}

-- the list that is taken out for a group
pub applications_taken : (s : DossierRows) (n : ℕ) (rows : List (Vec Application Global))
    (row d : Vec Application Global) → n < length s.groups → row ≡ get_or rows n d → AreApplicationsFrom s n rows
    → AreApplicationsIn s n row.items
applications_taken s n rows row d lt is are =
    are.each n row (omega arith)
    (slice_get-get_or rows n d (omega (arith, lt, are.one_each)) ∙ ap Some (sym is))

-- once the list of a group is taken out, the later ones are left
pub applications_later : (s : DossierRows) (n : ℕ) (rows : List (Vec Application Global))
    (row : Vec Application Global) → AreApplicationsFrom s n rows
    → AreApplicationsFrom s (n + 1) (set rows n row)
applications_later s n rows row are = record {
  one_each = length-set rows n row ∙ are.one_each;
  each = λ p left le at.
      are.each p left (omega arith) (get_set_other rows n p row left (λ e. omega (arith, le, e)) at);
}

-- the candidates of wishes are those that their places tell
candidates_told : {s : DossierRows} {p : ℕ} {applications : List Application} → AreApplicationsIn s p applications
    → candidates_of applications ≡ map (candidate_in s.wishes) (wishes_of applications)
candidates_told {s} {p} {applications} own =
    ap candidates_of own.each ∙ map-map (λ (a : Application). a.candidate) (application_at s) (wishes_of applications)

-- the candidates of a list by candidate do not fall
keys_rise : (key : ℕ → ℕ) (xs : List ℕ) → IsNonDecreasingBy key xs → IsNonDecreasingBy (λ k. k) (map key xs)
keys_rise key xs rises i j d le lt =
    let j_in : j < length xs = omega (arith, lt, length-map xs key) in
    rw (get_or-map key xs i 0 d (omega (arith, le, j_in)), get_or-map key xs j 0 d j_in) (rises i j 0 le j_in)

pub candidates_rise : {s : DossierRows} {p : ℕ} {applications : List Application} → AreApplicationsIn s p applications
    → IsNonDecreasingBy (λ k. k) (candidates_of applications)
candidates_rise {s} {p} {applications} own =
    let P = λ (ks : List ℕ). IsNonDecreasingBy (λ k. k) ks in
    subst P (sym (candidates_told own))
    (keys_rise (candidate_in s.wishes) (wishes_of applications) own.of_group.rises)

-- nor do the applications, by their candidates
pub applications_rise : (applications : List Application) → IsNonDecreasingBy (λ k. k) (candidates_of applications)
    → IsNonDecreasingBy (λ (a : Application). a.candidate) applications
applications_rise applications rises i j d le lt =
    let candidate = λ (a : Application). a.candidate in
    let many = length-map applications candidate in
    omega (
      arith,
      get_or-map candidate applications i d 0 (omega (arith, le, lt)),
      get_or-map candidate applications j d 0 lt,
      rises i j 0 le (omega (arith, lt, many)),
    )

pub many_candidates : (applications : List Application) → length (candidates_of applications) ≡ length applications
many_candidates applications = length-map applications (λ (a : Application). a.candidate)

-- what is read past the end
abbrev pub nothing : Application
nothing = record { wish = 0; programme = 0; candidate = 0 }

-- the candidate at a place
pub candidate_read : (applications : List Application) (k : ℕ) → k < length applications
    → get_or (candidates_of applications) k 0 ≡ (get_or applications k nothing).candidate
candidate_read applications k lt = get_or-map (λ (a : Application). a.candidate) applications k nothing 0 lt

-- a point among applications by their candidates is one among the candidates
pub point_of_candidates : (applications : List Application) (P Q : ℕ → Type 0) (i : ℕ) → i ≤ length applications
    → IsPartitionPoint (λ (a : Application). P a.candidate) (λ (a : Application). Q a.candidate) applications i
    → IsPartitionPoint P Q (candidates_of applications) i
point_of_candidates applications P Q i le point =
    let candidate = λ (a : Application). a.candidate in (
      λ k d low high. subst P (sym (get_or-map candidate applications k nothing d (omega (arith, le, high))))
          (point.0 k nothing low high),
      λ k d low high.
          let in_list : k < length applications = omega (arith, high, many_candidates applications) in
          subst Q (sym (get_or-map candidate applications k nothing d in_list)) (point.1 k nothing low in_list),
    )

-- from one place up to another a list holds one number
pub record IsAlike (xs : List ℕ) (c from to : ℕ) : Type 0 where
  pub rises : from ≤ to
  pub within : to ≤ length xs
  pub alike : (k : ℕ) → from ≤ k → k < to → get_or xs k 0 ≡ c

pub alike_none : (xs : List ℕ) (c from : ℕ) → from ≤ length xs → IsAlike xs c from from
alike_none xs c from le = record {
  rises = omega arith;
  within = le;
  alike =
      λ k low high. absurd (omega (arith, low, high));
}

pub alike_more : (xs : List ℕ) (c from to : ℕ) → IsAlike xs c from to → to < length xs → get_or xs to 0 ≡ c
    → IsAlike xs c from (to + 1)
alike_more xs c from to are lt is = record {
  rises = omega (arith, are.rises);
  within = omega (arith, lt);
  alike = λ k low high. elim (cases_lt k to) [
    | inl before ↦ are.alike k low before
    | inr after ↦ ap (λ j. get_or xs j 0) (omega (arith, after, high)) ∙ is
  ];
}

-- where such a stretch from the first place that is not below the number ends, there is the first that is above
pub alike_ends : (xs : List ℕ) (c from to : ℕ) → IsNonDecreasingBy (λ k. k) xs
    → IsPartitionPoint (λ k. ltb k c ≡ true) (λ k. ltb k c ≡ false) xs from → IsAlike xs c from to
    → (to < length xs → get_or xs to 0 ≡ c → ⊥) → IsPartitionPoint (λ k. leb k c ≡ true) (λ k. leb k c ≡ false) xs to
alike_ends xs c from to rises point are other = (
  λ k d low high. elim (cases_lt k from) [
    | inl before ↦ le-leb (get_or xs k d) c (omega (arith, ltb-true (get_or xs k d) c (point.0 k d low before)))
    | inr after ↦
        let in_list : k < length xs = omega (arith, high, are.within) in
        le-leb (get_or xs k d) c (omega (arith, get_or_default xs k d 0 in_list, are.alike k after high))
  ],
  λ k d low high.
      let to_in : to < length xs = omega (arith, low, high) in
      let not_below : c ≤ get_or xs to 0 = ltb-false (get_or xs to 0) c (point.1 to 0 are.rises to_in) in
      let above : c < get_or xs to 0 = elim (cases_lt c (get_or xs to 0)) [
        | inl above ↦
            above
        | inr le ↦ absurd (other to_in (omega (arith, le, not_below)))
      ] in
      lt-leb (get_or xs k d) c (omega (arith, above, rises to k 0 low high, get_or_default xs k d 0 high)),
)

-- where a candidate stands, and those before are below them, they begin
pub begins_there : (xs : List ℕ) (c k : ℕ) → IsNonDecreasingBy (λ k. k) xs → begins_at xs c k ≡ true
    → (k ≤ length xs) × IsPartitionPoint (λ j. ltb j c ≡ true) (λ j. ltb j c ≡ false) xs k
begins_there xs c k rises begins =
    let parts = and_parts (ltb k (length xs)) (nat_eq (get_or xs k 0) c && lower_before xs c k) begins in
    let rest = and_parts (nat_eq (get_or xs k 0) c) (lower_before xs c k) parts.1 in
    let within : k < length xs = ltb-true k (length xs) parts.0 in
    let here : get_or xs k 0 ≡ c = eqb-true (get_or xs k 0) c rest.0 in
    let below : (j : ℕ) → j < k → get_or xs j 0 < c =
    λ j lt. elim (or_cases (nat_eq k 0) (ltb (get_or xs (k - 1) 0) c) rest.1) [
      | inl front ↦ absurd (omega (arith, lt, eqb-true k 0 front))
      | inr last ↦ omega (
        arith,
        ltb-true (get_or xs (k - 1) 0) c last,
        rises j (k - 1) 0
            (omega (arith, lt)) (omega (arith, lt, within)),
      )
    ] in (
      omega (arith, within),
      (
        λ j d low high. lt-ltb (get_or xs j d) c
            (omega (arith, get_or_default xs j d 0 (omega (arith, high, within)), below j high)),
        λ j d low high. le-ltb (get_or xs j d) c
            (omega (arith, here, get_or_default xs j d 0 high, rises k j 0 low high)),
      ),
    )

point_of_keys : (key : ℕ → ℕ) (xs : List ℕ) (P Q : ℕ → Type 0) (i : ℕ) → i ≤ length xs
    → IsPartitionPoint P Q (map key xs) i → IsPartitionPoint (λ k. P (key k)) (λ k. Q (key k)) xs i
point_of_keys key xs P Q i le point = (
  λ k d low high. subst P (get_or-map key xs k d 0 (omega (arith, le, high))) (point.0 k 0 low high),
  λ k d low high. subst Q (get_or-map key xs k d 0 high) (point.1 k 0 low (omega (arith, high, length-map xs key))),
)

-- where a candidate stands in the list of candidates, there their claim stands in that of the wishes
pub span_is_claim : (s : DossierRows) (p : ℕ) (wishes candidates : List ℕ) (c : ℕ) (span : Span)
    → AreWishesIn s p wishes → candidates ≡ map (candidate_in s.wishes) wishes → IsSpanOf candidates c span
    → IsWithin (length wishes) span × (part_of wishes span ≡ group_claim s p c)
span_is_claim s p wishes candidates c span waiting are is =
    let key = candidate_in s.wishes in
    let P = λ (ks : List ℕ). IsSpanOf ks c span in
    let here : IsSpanOf (map key wishes) c span = subst P are is in
    let begins : span.from ≤ length wishes = omega (arith, here.begins, length-map wishes key) in
    let ends : span.to ≤ length wishes = omega (arith, here.ends, length-map wishes key) in
    let found = between key wishes c span.from span.to begins ends
    (point_of_keys key wishes (λ k. ltb k c ≡ true) (λ k. ltb k c ≡ false) span.from begins here.lower)
    (point_of_keys key wishes (λ k. leb k c ≡ true) (λ k. leb k c ≡ false) span.to ends here.upper) in
    (record { rises = found.0; within = ends }, found.1 ∙ waiting.own c)

-- a part of what is made of a list is made of its part
part_mapped : {A B : Type 0} (f : A → B) (xs : List A) (from to : ℕ)
    → slice_range (map f xs) from to ≡ map f (slice_range xs from to)
part_mapped f xs from to = ap (take (to - from)) (drop-map f from xs) ∙ take-map f (to - from) (drop from xs)

-- a candidate's claim, as it is read
pub record IsClaimed (s : DossierRows) (p : ℕ) (applications : List Application) (c : ℕ) (span : Span)
    (claim : List Application) : Type 0 where
  pub within : IsWithin (length applications) span
  pub places : All (λ k. k < length s.wishes) (wishes_of claim)
  pub is : wishes_of claim ≡ group_claim s p c
  pub programmes : claim ≡ map (application_at s) (wishes_of claim)

pub claim_there : {s : DossierRows} {p : ℕ} {applications : List Application}
    → AreApplicationsIn s p applications
    → (c : ℕ) (span : Span) → IsSpanOf (candidates_of applications) c span
    → (claim : List Application) → claim ≡ slice_range applications span.from span.to
    → IsClaimed s p applications c span claim
claim_there {s} {p} {applications} own c span is claim part =
    let ks = wishes_of applications in
    let show = λ (a : Application). a.wish in
    let part_at = λ (l : List Application). slice_range l span.from span.to in
    let found = span_is_claim s p ks (candidates_of applications) c span own.of_group (candidates_told own) is in
    let shown : wishes_of claim ≡ part_of ks span =
    ap wishes_of part ∙ sym (part_mapped show applications span.from span.to) in
    let P = λ (n : ℕ). IsWithin n span in
    let Q = λ (k : ℕ). k < length s.wishes in
    record {
      within = subst P (length-map applications show) found.0;
      places = subst (All Q) (sym shown)
          (All-take Q (span.to - span.from) (drop span.from ks) (All-drop Q span.from ks own.of_group.within));
      is = shown ∙ found.1;
      programmes = part ∙ ap part_at own.each ∙ part_mapped (application_at s) ks span.from span.to
          ∙ ap (map (application_at s)) (sym shown);
    }

-- what is read of a claim
pub application_read : (s : DossierRows) (claim : List Application) (i : ℕ) (e : Application) → i < length claim
    → claim ≡ map (application_at s) (wishes_of claim)
    → (i < length (wishes_of claim)) × (get_or claim i e ≡ application_at s (get_or (wishes_of claim) i 0))
application_read s claim i e lt is =
    let within : i < length (wishes_of claim) = omega (arith, lt, length-map claim (λ (a : Application). a.wish)) in (
      within,
      ap (λ (xs : List Application). get_or xs i e) is
          ∙ get_or-map (application_at s) (wishes_of claim) i 0 e within,
    )
