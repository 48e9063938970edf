-- The line of a programme, of the wishes for it in call order: each candidate's stand together, and are their claim.
use Rattle.std.proofs.Common.{ℕ, zero, suc, ◌+◌, ◌-◌, ◌≤◌, ◌<◌, ◌≡◌, Bool, true, false, ◌&&◌, List, [], ◌∷◌, ◌++◌, map}
use Rattle.std.proofs.Common.{length, take, drop, get_or, inl, inr, refl, sym, ◌∙◌, ap, arith, nat_eq, nat_lt, filter}
use Rattle.std.proofs.Common.{subst, cond}
use Rattle.std.specs.Prelude.{All, ◌==◌}
use Rattle.std.specs.List.{before_first, enumerate_from, flat_map, range_with_len, IsDistinct}
use Rattle.std.proofs.Math.Seq.{drop-append_seam, get_or-append_right, take-append_seam}
use Rattle.std.proofs.lemmas.Bool.{and_parts, cases_Bool, cases_lt, cases_order, eqb-true, eq-eqb, false≢true}
use Rattle.std.proofs.lemmas.Bool.{ltb-true, ne_eqb, or_left}
use Rattle.std.proofs.lemmas.List.{get_or-drop, get_or-map, get_or_append_left, length-append, length-drop, length-map}
use Rattle.std.proofs.lemmas.List.{map-append, drop_more, flat_map_more, take-append-drop, take_all, take_more}
use Rattle.std.proofs.lemmas.List.Concat.{flat_map-append}
use Rattle.std.proofs.lemmas.List.Elements.{All-nil, All-push}
use Rattle.admit_core.proofs.Counting.{distinct_kept, pass_at_most}
use Rattle.admit_core.proofs.Tests.{any_implied}
use Rattle.admit_core.proofs.Plain.{any-filter}
use Rattle.admit_core.specs.declared.dossier.Wish.{Wish}
use Rattle.admit_core.specs.declared.ranking.CallOrder.{CallOrder}
use Rattle.admit_core.specs.DossierRows.{DossierRows, candidate_of, limit_of}
use Rattle.admit_core.specs.Lists.{is_among}
use Rattle.admit_core.specs.Proposals.{order_of}
use Rattle.day_state.specs.declared.spans.Span.{Span}
use Rattle.day_state.specs.Kept.{HoldsOneKey, wish_in}
use Rattle.day_state.specs.Spans.{IsWithin, part_of}
use Rattle.day_state.proofs.Places.{candidate_in}
use Rattle.proposals.proofs.Front.{before_is, up_to}
use Rattle.linked_demand.specs.Called.{before_at, called_for}
use Rattle.linked_demand.specs.Links.{claim_of}
use Rattle.linked_demand.specs.Notes.{IsNoted, Noted}
use Rattle.linked_demand.specs.Opens.{applies_in, line_of}
use Rattle.linked_demand.specs.Seats.{AreSeated, applies_at, is_below, is_passed}
use Rattle.linked_demand.proofs.CalledRows.{among_itself, flat_none, flat_same, kept_by, kept_by_both}
use Rattle.linked_demand.proofs.Lining.{applies_claim, claim_own, place_at}
use Rattle.linked_demand.proofs.Seating.{seated_more, seated_start}

-- where a stretch of one number begins a list's rest, the run from there is the stretch
run_ends : (A B C : List ℕ) (v from to : ℕ) (xs : List ℕ) → xs ≡ A ++ (B ++ C) → from ≡ length A → 0 < length B
    → ((j : ℕ) → j < length B → get_or B j 0 ≡ v) → (0 < length C → get_or C 0 0 ≡ v → ⊥)
    → from < to → to ≤ length xs → HoldsOneKey (λ k. k) xs from to → to ≡ from + length B
run_ends A B C v from to xs xs_is from_is some alike head further within run =
    let rest : drop from xs ≡ B ++ C = ap (λ n. drop n xs) from_is ∙ ap (drop (length A)) xs_is
    ∙ drop-append_seam A (B ++ C) in
    let read : (j : ℕ) → get_or xs (from + j) 0 ≡ get_or (B ++ C) j 0 =
    λ j. sym (get_or-drop from xs j 0) ∙ ap (λ (l : List ℕ). get_or l j 0) rest in
    let in_stretch : (j : ℕ) → j < length B → get_or xs (from + j) 0 ≡ v =
    λ j lt. read j ∙ get_or_append_left B C 0 j lt ∙ alike j lt in
    let no_shift : from + 0 ≡ from = omega arith in
    let first : get_or xs from 0 ≡ v = ap (λ j. get_or xs j 0) (sym no_shift) ∙ in_stretch 0 some in
    let long : length xs ≡ from + (length B + length C) = omega
    (arith, ap (λ (l : List ℕ). length l) xs_is, length-append A (B ++ C), length-append B C, from_is) in
    elim (cases_order to (from + length B)) [
      | inl same ↦ same
      | inr other ↦ elim other [
        | inl less ↦
            let j = to - from in
            let at : from + j ≡ to = omega (arith, further) in
            let here : get_or xs to 0 ≡ v = ap (λ n. get_or xs n 0) (sym at)
            ∙ in_stretch j (omega (arith, less, further)) in
            absurd (run.ends (omega (arith, less, long)) (here ∙ sym first))
        | inr more ↦
            let c_some : 0 < length C = omega (arith, more, within, long) in
            let n = length B in
            let none : n - n ≡ 0 = omega arith in
            let there : get_or xs (from + n) 0 ≡ get_or C 0 0 =
            read n ∙ get_or-append_right B C n 0 (omega arith) ∙ ap (λ j. get_or C j 0) none in
            absurd (head c_some (sym there ∙ run.alike (from + n) (omega arith) more ∙ first))
      ]
    ]

-- the place of one who is called
found_up_to : (c : ℕ) (xs : List ℕ) → is_among c xs ≡ true → get_or xs (length (up_to c xs)) 0 ≡ c
found_up_to c [] among = absurd (false≢true among)
found_up_to c (x ∷ xs) among =
    elim (cases_Bool (nat_eq c x)) [
      | inl here ↦ rw here (sym (eqb-true c x here))
      | inr other ↦ rw other (found_up_to c xs (rw other at among))
    ]

found_there : (c : ℕ) (xs : List ℕ) → is_among c xs ≡ true → get_or xs (length (before_first (nat_eq c) xs)) 0 ≡ c
found_there c xs among = ap (λ (l : List ℕ). get_or xs (length l) 0) (before_is c xs) ∙ found_up_to c xs among

among_filtered : (q : ℕ → Bool) (c : ℕ) (xs : List ℕ) → is_among c (filter q xs) ≡ true → is_among c xs ≡ true
among_filtered q c xs among =
    any_implied (λ x. q x && nat_eq c x) (nat_eq c) (λ x t. second (q x) (nat_eq c x) t) xs
    (sym (any-filter (nat_eq c) q xs) ∙ among)
  where
    second : (a b : Bool) → (a && b) ≡ true → b ≡ true
    second true b t = t
    second false b t = absurd (false≢true t)

-- what holds of all that is made of each
all_flat : (Q : ℕ → Type 0) (f : ℕ → List ℕ) (xs : List ℕ)
    → ((i : ℕ) → i < length xs → (j : ℕ) → j < length (f (get_or xs i 0)) → Q (get_or (f (get_or xs i 0)) j 0))
    → (j : ℕ) → j < length (flat_map f xs) → Q (get_or (flat_map f xs) j 0)
all_flat Q f [] all j lt = absurd (omega (arith, lt))
all_flat Q f (x ∷ xs) all j lt =
    let rest = all_flat Q f xs (λ i i_lt. all (suc i) (omega (arith, i_lt))) in
    elim (cases_lt j (length (f x))) [
      | inl here ↦ subst Q (sym (get_or_append_left (f x) (flat_map f xs) 0 j here)) (all 0 (omega arith) j here)
      | inr later ↦
          let n = length (f x) in
          subst Q (sym (get_or-append_right (f x) (flat_map f xs) j 0 later))
          (rest (j - n) (omega (arith, lt, later, length-append (f x) (flat_map f xs))))
    ]

-- the candidate and the programme of a wish in a claim, and who stands before them
in_claim : (d : DossierRows) (p c k : ℕ) → is_among k (claim_of d p c) ≡ true
    → ((wish_in d.wishes k).candidate ≡ c) × ((wish_in d.wishes k).programme ≡ p)
in_claim d p c k among =
    let kept = kept_by_both (applies_at d p) (λ n. candidate_of d n == c) k (range_with_len 0 (length d.wishes))
    (ap (is_among k) (claim_own d p c) ∙ among) in (
      sym (candidate_in d.wishes k) ∙ eqb-true (candidate_of d k) c kept.0,
      eqb-true
          (wish_in d.wishes k).programme p kept.1,
    )

abbrev pub before_of : DossierRows → List CallOrder → ℕ → ℕ → ℕ
before_of d orders p c = length (before_first (nat_eq c) (order_of d orders p))

claim_before : (d : DossierRows) (orders : List CallOrder) (p c k : ℕ) → is_among k (claim_of d p c) ≡ true
    → before_at d orders k ≡ before_of d orders p c
claim_before d orders p c k among =
    let w = wish_in d.wishes k in
    let own = in_claim d p c k among in
    ap (λ n. length (before_first (nat_eq n) (order_of d orders w.programme))) own.0
    ∙ ap (λ n. length (before_first (nat_eq c) (order_of d orders n))) own.1

-- each who stands in a line has a claim
line_some : (d : DossierRows) (orders : List CallOrder) (p m : ℕ) → m < length (line_of d orders p)
    → 0 < length (claim_of d p (get_or (line_of d orders p) m 0))
line_some d orders p m lt =
    let x = get_or (line_of d orders p) m 0 in
    let passes : applies_in d p x ≡ true =
    kept_by (applies_in d p) x (order_of d orders p) (among_itself (line_of d orders p) m lt) in
    ltb-true 0 (length (claim_of d p x)) (sym (applies_claim d p x) ∙ passes)

-- what has been walked of a line
pub record IsLined (d : DossierRows) (orders : List CallOrder) (p : ℕ) (wishes : List ℕ) (from : ℕ) (spans : List Span)
    (notes : Noted) : Type 0 where
  pub within : All (IsWithin (length wishes)) spans
  pub claims : map (part_of wishes) spans ≡ map (claim_of d p) (take (length spans) (line_of d orders p))
  pub at : from ≡ length (flat_map (claim_of d p) (take (length spans) (line_of d orders p)))
  pub seated : AreSeated d orders (is_passed p (take (length spans) (line_of d orders p))) notes

module _ (d : DossierRows) (orders : List CallOrder) (p : ℕ) (wishes before : List ℕ)
    (wishes_are : wishes ≡ called_for d orders p)
    (before_is : before ≡ map (before_at d orders) wishes) (once : IsDistinct nat_eq (line_of d orders p))
    (from : ℕ) (spans : List Span) (notes : Noted)
    (lined : IsLined d orders p wishes from spans notes)
    (lt : from < length wishes) where
  abbrev line : List ℕ
  line = line_of d orders p

  abbrev m : ℕ
  m = length spans

  abbrev claim : ℕ → List ℕ
  claim = claim_of d p

  abbrev x : ℕ
  x = get_or line m 0

  abbrev front : List ℕ
  front = flat_map claim (take m line)

  abbrev back : List ℕ
  back = flat_map claim (drop (m + 1) line)

  pub next_in_line : m < length line
  next_in_line = elim (cases_lt m (length line)) [
    | inl less ↦ less
    | inr le ↦
        let all : length front ≡ length wishes = ap (λ (l : List ℕ). length (flat_map claim l)) (take_all m line le)
        ∙ sym (ap (λ (l : List ℕ). length l) wishes_are) in
        absurd (omega (arith, lt, lined.at, all))
  ]

  abbrev pub value : ℕ
  value = before_of d orders p x

  parted : wishes ≡ front ++ (claim x ++ back)
  parted =
      wishes_are
      ∙ ap (flat_map claim) (sym (take-append-drop m line) ∙ ap (λ (l : List ℕ). take m line ++ l)
      (drop_more line m 0 next_in_line))
      ∙ flat_map-append claim (take m line) (x ∷ drop (m + 1) line)

  some : 0 < length (claim x)
  some = line_some d orders p m next_in_line

  pub claim_is_some : 0 < length (claim x)
  claim_is_some = some

  -- others stand elsewhere
  differs : (i : ℕ) → i < length (drop (m + 1) line) → before_of d orders p (get_or (drop (m + 1) line) i 0) ≡ value → ⊥
  differs i i_lt same =
      let order = order_of d orders p in
      let y = get_or (drop (m + 1) line) i 0 in
      let y_at : y ≡ get_or line (m + 1 + i) 0 = get_or-drop (m + 1) line i 0 in
      let in_line : m + 1 + i < length line = omega (arith, i_lt, length-drop (m + 1) line) in
      let called : (j : ℕ) → j < length line → is_among (get_or line j 0) order ≡ true =
      λ j j_lt. among_filtered (applies_in d p) (get_or line j 0) order (among_itself line j j_lt) in
      let y_there = ap (λ c. get_or order (before_of d orders p c) 0) y_at
      ∙ found_there (get_or line (m + 1 + i) 0) order (called (m + 1 + i) in_line) in
      let x_there = found_there x order (called m next_in_line) in
      let both : get_or line (m + 1 + i) 0 ≡ x = sym y_there ∙ ap (λ n. get_or order n 0) same ∙ x_there in
      let other = (place_at line m once next_in_line).once (m + 1 + i) in_line
      (ne_eqb (m + 1 + i) m (λ e. omega (arith, e))) in
      false≢true (sym other ∙ eq-eqb x (get_or line (m + 1 + i) 0) (sym both))

  pub run_is_claim : (to : ℕ) → from < to → to ≤ length before → HoldsOneKey (λ k. k) before from to
      → to ≡ from + length (claim x)
  run_is_claim to further within run =
      let pos = before_at d orders in
      let parts : before ≡ map pos front ++ (map pos (claim x) ++ map pos back) =
      before_is ∙ ap (map pos) parted ∙ map-append pos front (claim x ++ back)
      ∙ ap (λ (l : List ℕ). map pos front ++ l) (map-append pos (claim x) back) in
      let own : to ≡ from + length (map pos (claim x)) =
      run_ends (map pos front) (map pos (claim x)) (map pos back) value from to before parts
      (lined.at ∙ sym (length-map front pos))
      (omega (arith, some, length-map (claim x) pos))
      (λ j j_lt.
      let j_in : j < length (claim x) = omega (arith, j_lt, length-map (claim x) pos) in
      get_or-map pos (claim x) j 0 0 j_in ∙ claim_before d orders p x (get_or (claim x) j 0)
      (among_itself (claim x) j j_in))
      (λ c_some same.
      let b_some : 0 < length back = omega (arith, c_some, length-map back pos) in
      all_flat (λ k. pos k ≡ value → ⊥) claim (drop (m + 1) line)
      (λ i i_lt j j_lt e. differs i i_lt
      (sym (claim_before d orders p (get_or (drop (m + 1) line) i 0)
      (get_or (claim (get_or (drop (m + 1) line) i 0)) j 0)
      (among_itself (claim (get_or (drop (m + 1) line) i 0)) j j_lt)) ∙ e))
      0 b_some (sym (get_or-map pos back 0 0 0 b_some) ∙ same))
      further within run in
      omega (arith, own, length-map (claim x) pos)

  pub part_is_claim : (span : Span) → span.from ≡ from → span.to ≡ from + length (claim x)
      → part_of wishes span ≡ claim x
  part_is_claim span from_is to_is =
      let n = length (claim x) in
      let rest : drop from wishes ≡ claim x ++ back = ap (λ k. drop k wishes) lined.at ∙ ap (drop (length front)) parted
      ∙ drop-append_seam front (claim x ++ back) in
      let many : span.to - span.from ≡ n = omega (arith, from_is, to_is) in
      ap (λ k. take (span.to - span.from) (drop k wishes)) from_is
      ∙ ap (λ (l : List ℕ). take (span.to - span.from) l) rest
      ∙ ap (λ k. take k (claim x ++ back)) many
      ∙ take-append_seam (claim x) back

  -- the value that is read says how many stand before the candidate
  pub value_read : get_or before from 0 ≡ value
  value_read =
      let pos = before_at d orders in
      let none : from + 0 ≡ from = omega arith in
      let k = get_or wishes from 0 in
      let rest : drop from wishes ≡ claim x ++ back = ap (λ j. drop j wishes) lined.at ∙ ap (drop (length front)) parted
      ∙ drop-append_seam front (claim x ++ back) in
      let first : k ≡ get_or (claim x) 0 0 =
      ap (λ j. get_or wishes j 0) (sym none) ∙ sym (get_or-drop from wishes 0 0)
      ∙ ap (λ (l : List ℕ). get_or l 0 0) rest
      ∙ get_or_append_left (claim x) back 0 0 some in
      ap (λ (l : List ℕ). get_or l from 0) before_is ∙ get_or-map pos wishes from 0 0 lt ∙ ap pos first
      ∙ claim_before d orders p x (get_or (claim x) 0 0) (among_itself (claim x) 0 some)

-- THE WALK begins, goes on by a claim, and ends
pub lined_none : (d : DossierRows) (orders : List CallOrder) (p : ℕ) (wishes : List ℕ) (spans : List Span)
    (notes : Noted) → spans ≡ [] → AreSeated d orders (is_below p) notes
    → IsLined d orders p wishes 0 spans notes
lined_none d orders p wishes spans notes none seated =
    let P = λ (xs : List Span). IsLined d orders p wishes 0 xs notes in
    subst P (sym none) (record {
      within = All-nil (IsWithin (length wishes));
      claims = refl;
      at = refl;
      seated = seated_start d orders p (line_of d orders p) notes seated;
    })

pub lined_more : (d : DossierRows) (orders : List CallOrder) (p : ℕ) (wishes before : List ℕ)
    → wishes ≡ called_for d orders p
    → before ≡ map (before_at d orders) wishes → IsDistinct nat_eq (line_of d orders p)
    → (from to : ℕ) (span : Span) (spans next : List Span) (notes new : Noted)
    (place : ℕ) (is_called : Bool) → IsLined d orders p wishes from spans notes → from < length wishes
    → from < to
    → to ≤ length before → HoldsOneKey (λ k. k) before from to → span.from ≡ from → span.to ≡ to
    → next ≡ spans ++ span ∷ []
    → place ≡ length spans → is_called ≡ nat_lt (get_or before from 0) (limit_of d p)
    → IsNoted (part_of wishes span) place is_called notes new
    → IsLined d orders p wishes to next new
lined_more d orders p wishes before wishes_are before_is once from to span spans next notes new
    place is_called lined lt further within run from_is to_is next_is place_is called_is noted =
    let line = line_of d orders p in
    let m = length spans in
    let x = get_or line m 0 in
    let claim = claim_of d p in
    let in_line = next_in_line d orders p wishes before wishes_are before_is once from spans notes lined lt in
    let end = run_is_claim d orders p wishes before wishes_are before_is once from spans notes lined lt to
    further within run in
    let part = part_is_claim d orders p wishes before wishes_are before_is once from spans notes lined lt span
    from_is
    (to_is ∙ end) in
    let some = claim_is_some d orders p wishes before wishes_are before_is once from spans notes lined lt in
    let long : length next ≡ m + 1 = ap (λ (l : List Span). length l) next_is ∙ length-append spans (span ∷ []) in
    let ends : to ≤ length wishes = omega (
      arith,
      within,
      ap (λ (l : List ℕ). length l) before_is,
      length-map wishes
          (before_at d orders),
    ) in
    let front : take (m + 1) line ≡ take m line ++ x ∷ [] = take_more line m 0 in_line in
    let P = λ (n : ℕ). AreSeated d orders (is_passed p (take n line)) new in
    let Q = λ (ks : List ℕ). IsNoted ks place is_called notes new in
    let S = λ (xs : List Span). All (IsWithin (length wishes)) xs in
    record {
      within = subst S (sym next_is) (All-push (IsWithin (length wishes)) spans span lined.within
          (record { rises = omega (arith, from_is, to_is, further); within = omega (arith, to_is, ends) }));
      claims =
          ap (map (part_of wishes)) next_is ∙ map-append (part_of wishes) spans (span ∷ [])
          ∙ ap (λ (xs : List (List ℕ)). xs ++ part_of wishes span ∷ []) lined.claims
          ∙ ap (λ (y : List ℕ). map claim (take m line) ++ y ∷ []) part
          ∙ sym (map-append claim (take m line) (x ∷ []))
          ∙ ap (map claim) (sym front) ∙ ap (λ n. map claim (take n line)) (sym long);
      at =
          end ∙ ap (λ n. n + length (claim x)) lined.at
          ∙ sym (length-append (flat_map claim (take m line)) (claim x))
          ∙ ap (λ (l : List ℕ). length l) (flat_map_more claim [] (take m line) x)
          ∙ ap (λ (l : List ℕ). length (flat_map claim l)) (sym front)
          ∙ ap (λ n. length (flat_map claim (take n line))) (sym long);
      seated =
          subst P (sym long)
          (seated_more d orders p line m x in_line refl notes new place is_called refl once
          (called_is ∙ ap (λ n. nat_lt n (limit_of d p))
          (value_read d orders p wishes before wishes_are before_is once from spans notes lined lt))
          place_is lined.seated (subst Q part noted));
    }

-- the part that is read is a claim, and there are no more spans than wishes
pub part_read : (d : DossierRows) (orders : List CallOrder) (p : ℕ) (wishes before : List ℕ)
    → wishes ≡ called_for d orders p
    → before ≡ map (before_at d orders) wishes → IsDistinct nat_eq (line_of d orders p)
    → (from to : ℕ) (span : Span) (spans : List Span) (notes : Noted)
    → IsLined d orders p wishes from spans notes → from < length wishes → from < to
    → to ≤ length before → HoldsOneKey (λ k. k) before from to → span.from ≡ from → span.to ≡ to
    → part_of wishes span ≡ claim_of d p (get_or (line_of d orders p) (length spans) 0)
part_read d orders p wishes before wishes_are before_is once from to span spans notes lined lt further within
    run
    from_is to_is =
    let end = run_is_claim d orders p wishes before wishes_are before_is once from spans notes lined lt to
    further within run in
    part_is_claim d orders p wishes before wishes_are before_is once from spans notes lined lt span from_is
    (to_is ∙ end)

few_spans : (d : DossierRows) (orders : List CallOrder) (p n : ℕ) → n ≤ length (line_of d orders p)
    → n ≤ length (flat_map (claim_of d p) (take n (line_of d orders p)))
few_spans d orders p zero le = omega arith
few_spans d orders p (suc n) le =
    let line = line_of d orders p in
    let claim = claim_of d p in
    let x = get_or line n 0 in
    let lt : n < length line = omega (arith, le) in
    let next : suc n ≡ n + 1 = omega arith in
    let long : length (flat_map claim (take (suc n) line)) ≡ length (flat_map claim (take n line)) + length (claim x) =
    ap (λ k. length (flat_map claim (take k line))) next
    ∙ ap (λ (l : List ℕ). length (flat_map claim l)) (take_more line n 0 lt)
    ∙ sym (ap (λ (l : List ℕ). length l) (flat_map_more claim [] (take n line) x))
    ∙ length-append (flat_map claim (take n line)) (claim x) in
    omega (arith, long, few_spans d orders p n (omega (arith, le)), line_some d orders p n lt)

pub spans_fit : (d : DossierRows) (orders : List CallOrder) (p : ℕ) (wishes before : List ℕ)
    → wishes ≡ called_for d orders p
    → before ≡ map (before_at d orders) wishes → IsDistinct nat_eq (line_of d orders p)
    → (from : ℕ) (spans : List Span) (notes : Noted)
    → IsLined d orders p wishes from spans notes → from < length wishes → length spans ≤ from
spans_fit d orders p wishes before wishes_are before_is once from spans notes lined lt =
    let in_line = next_in_line d orders p wishes before wishes_are before_is once from spans notes lined lt in
    omega (arith, lined.at, few_spans d orders p (length spans) (omega (arith, in_line)))

pub lined_all : (d : DossierRows) (orders : List CallOrder) (p : ℕ) (wishes before : List ℕ)
    → wishes ≡ called_for d orders p
    → before ≡ map (before_at d orders) wishes → IsDistinct nat_eq (line_of d orders p)
    → (from : ℕ) (spans : List Span) (notes : Noted)
    → IsLined d orders p wishes from spans notes
    → length wishes ≤ from
    → (map (part_of wishes) spans ≡ map (claim_of d p) (line_of d orders p))
    × AreSeated d orders (is_passed p (line_of d orders p)) notes
lined_all d orders p wishes before wishes_are before_is once from spans notes lined le =
    let line = line_of d orders p in
    let m = length spans in
    let claim = claim_of d p in
    let all : take m line ≡ line = elim (cases_lt m (length line)) [
      | inl less ↦
          let whole : length wishes ≡ length (flat_map claim (take m line)) + length (flat_map claim (drop m line)) =
          ap (λ (l : List ℕ). length l) (wishes_are ∙ ap (flat_map claim) (sym (take-append-drop m line))
          ∙ flat_map-append claim (take m line) (drop m line))
          ∙ length-append (flat_map claim (take m line)) (flat_map claim (drop m line)) in
          let next : length (flat_map claim (drop m line))
          ≡ length (claim (get_or line m 0) ++ flat_map claim (drop (m + 1) line)) =
          ap (λ (l : List ℕ). length (flat_map claim l)) (drop_more line m 0 less) in
          let some = line_some d orders p m less in
          absurd (omega (
            arith,
            whole,
            next,
            lined.at,
            le,
            some,
            length-append (claim (get_or line m 0)) (flat_map claim (drop (m + 1) line)),
          ))
      | inr more ↦ take_all m line more
    ] in
    let P = λ (l : List ℕ). AreSeated d orders (is_passed p l) notes in
    (lined.claims ∙ ap (map claim) all, subst P all lined.seated)

-- how many wishes there are in a line
counted : (t : ℕ → Bool) (a : ℕ) (r : ℕ → List ℕ) (cs : List ℕ)
    → length (flat_map (λ c. cond (t c) (a ∷ r c) (r c)) cs) ≡ length (filter t cs) + length (flat_map r cs)
counted t a r [] = refl
counted t a r (c ∷ cs) =
    let rest = counted t a r cs in
    let f = λ (x : ℕ). cond (t x) (a ∷ r x) (r x) in
    let long : length (flat_map f (c ∷ cs)) ≡ length (f c) + length (flat_map f cs) =
    length-append (f c) (flat_map f cs) in
    let longer : length (flat_map r (c ∷ cs)) ≡ length (r c) + length (flat_map r cs) =
    length-append (r c) (flat_map r cs) in
    elim (cases_Bool (t c)) [
      | inl passes ↦
          let here : length (filter t (c ∷ cs)) ≡ suc (length (filter t cs)) = rw passes refl in
          let own : length (f c) ≡ suc (length (r c)) = rw passes refl in
          omega (arith, rest, long, longer, here, own)
      | inr fails ↦
          let here : length (filter t (c ∷ cs)) ≡ length (filter t cs) = rw fails refl in
          let own : length (f c) ≡ length (r c) = rw fails refl in
          omega (arith, rest, long, longer, here, own)
    ]

few_claims : (p : ℕ) (cs : List ℕ) → IsDistinct nat_eq cs → (ws : List Wish) (a : ℕ)
    → length (flat_map (λ c. map (λ (e : ℕ × Wish). e.0)
    (filter (λ (e : ℕ × Wish). (nat_eq e.1.candidate c) && (nat_eq e.1.programme p)) (enumerate_from a ws))) cs)
    ≤ length ws
few_claims p cs apart [] a = omega (arith, ap (λ (l : List ℕ). length l) (flat_none (λ c. []) (λ c. refl) cs))
few_claims p cs apart (w ∷ ws) a =
    let r = λ (c : ℕ). map (λ (e : ℕ × Wish). e.0)
    (filter (λ (e : ℕ × Wish). (nat_eq e.1.candidate c) && (nat_eq e.1.programme p)) (enumerate_from (a + 1) ws)) in
    let f = λ (c : ℕ). map (λ (e : ℕ × Wish). e.0)
    (filter (λ (e : ℕ × Wish). (nat_eq e.1.candidate c) && (nat_eq e.1.programme p)) (enumerate_from a (w ∷ ws))) in
    let t = λ (c : ℕ). nat_eq w.candidate c && nat_eq w.programme p in
    let each : (c : ℕ) → f c ≡ cond (t c) (a ∷ r c) (r c) = λ c. elim (cases_Bool (t c)) [
      | inl passes ↦ rw passes refl
      | inr fails ↦ rw fails refl
    ] in
    let one : length (filter t cs) ≤ length (filter t (w.candidate ∷ [])) =
    pass_at_most t cs (w.candidate ∷ []) apart (λ c passes.
    or_left (nat_eq c w.candidate) false
    (eq-eqb c w.candidate
    (sym (eqb-true w.candidate c (and_parts (nat_eq w.candidate c) (nat_eq w.programme p) passes).0)))) in
    let at_most : length (filter t (w.candidate ∷ [])) ≤ 1 = elim (cases_Bool (t w.candidate)) [
      | inl passes ↦ rw passes (omega arith)
      | inr fails ↦ rw fails (omega arith)
    ] in
    omega (
      arith,
      ap (λ (l : List ℕ). length l) (flat_same f (λ c. cond (t c) (a ∷ r c) (r c)) each cs),
      counted t a r cs,
      one,
      at_most,
      few_claims p cs apart ws (a + 1),
    )

pub few_called : (d : DossierRows) (orders : List CallOrder) (p : ℕ) → IsDistinct nat_eq (line_of d orders p)
    → length (called_for d orders p) ≤ length d.wishes
few_called d orders p apart = few_claims p (line_of d orders p) apart d.wishes 0

pub line_once : (d : DossierRows) (orders : List CallOrder) (p : ℕ) → IsDistinct nat_eq (order_of d orders p)
    → IsDistinct nat_eq (line_of d orders p)
line_once d orders p apart = distinct_kept (applies_in d p) (order_of d orders p) apart
