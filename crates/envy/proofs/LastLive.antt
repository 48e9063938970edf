-- The last live candidate of a line is the last one whom a candidate before them envies.
use Rattle.std.proofs.Common.{ℕ, zero, suc, ◌+◌, ◌-◌, ◌<◌, ◌≤◌, ◌≡◌, Bool, true, false, ◌&&◌, List, [], ◌∷◌, length}
use Rattle.std.proofs.Common.{drop, inl, inr, refl, sym, ◌∙◌, ap, arith, nat_eq, nat_le, get_or, filter, Option}
use Rattle.std.proofs.Common.{Some, None, All, IfSome, not}
use Rattle.std.specs.Prelude.{⊤, if◌then◌else◌, nat_lt, option_map}
use Rattle.std.specs.List.{IsDistinct, list_any, position_or_len}
use Rattle.std.proofs.lemmas.Bool.{and_parts, cases_Bool, cases_lt, eq-eqb, eqb-true, false_from_ne_true, false≢true}
use Rattle.std.proofs.lemmas.Bool.{le-leb, le-ltb, leb-true, lt-leb, lt-ltb}
use Rattle.std.proofs.lemmas.Option.{unwrap_or-slice_get}
use Rattle.std.proofs.lemmas.List.{get_or-drop, get_or_default, length-drop, length-take-le}
use Rattle.std.proofs.lemmas.List.Folds.{Any-from_list_any, list_any_at}
use Rattle.std.proofs.lemmas.List.Sums.{passes_at_first, prefix_len-le-length}
use Rattle.admit_core.specs.declared.dossier.Wish.{Wish}
use Rattle.admit_core.specs.declared.ranking.CallOrder.{CallOrder}
use Rattle.admit_core.specs.declared.state.Mark.{Mark}
use Rattle.admit_core.specs.Blocking.{behind, last_envied, last_of}
use Rattle.admit_core.specs.CallOrder.{AreCallOrders}
use Rattle.admit_core.specs.DossierRows.{DossierRows}
use Rattle.admit_core.specs.Proposals.{order_of}
use Rattle.admit_core.specs.State.{State, entries, holds_seat, is_live}
use Rattle.admit_core.specs.Validity.{IsValid}
use Rattle.admit_core.proofs.Evenings.{entry_wish}
use Rattle.admit_core.proofs.Plain.{filter_none}
use Rattle.admit_core.proofs.FirstPlaces.{last_more}
use Rattle.day_state.specs.Bundles.{number_in}
use Rattle.day_state.specs.Kept.{wish_in}
use Rattle.linked_demand.specs.Opens.{applies_in, line_of}
use Rattle.linked_demand.specs.Rows.{line_place}
use Rattle.linked_demand.proofs.Lined.{line_once}
use Rattle.linked_demand.proofs.Seating.{called_once}
use Rattle.envy.specs.Known.{AreLast, IsFor, envied_by, is_live_from, place_at, reaches}
use Rattle.envy.proofs.Orders.{first_there}

-- the last one who passes, where it is known
pub last_passes : (test : ℕ → Bool) (xs : List ℕ) (r : ℕ) → r < length xs → test (get_or xs r 0) ≡ true
    → ((k : ℕ) → r < k → k < length xs → test (get_or xs k 0) ≡ false) → last_of (filter test xs) ≡ Some (get_or xs r 0)
last_passes test [] r lt passes rest = absurd (omega arith)
last_passes test (x ∷ xs) zero lt passes rest =
    rw (
      passes,
      filter_none test xs (λ k d k_lt. ap test (get_or_default xs k d 0 k_lt)
          ∙ rest (suc k) (omega arith) (omega (arith, k_lt))),
    ) refl
last_passes test (x ∷ xs) (suc r) lt passes rest =
    let later = last_passes test xs r (omega arith) passes (λ k after k_lt. rest (suc k) (omega arith) (omega arith)) in
    elim (cases_Bool (test x)) [
      | inl kept ↦ rw kept (last_more x (filter test xs) (get_or xs r 0) later)
      | inr dropped ↦ rw dropped later
    ]

-- leaving out some who fail a test leaves those behind a candidate who pass it
abbrev behind_in : ℕ → List ℕ → List ℕ
behind_in c xs = drop (position_or_len (nat_eq c) xs + 1) xs

behind_more : (c x : ℕ) (xs : List ℕ) → nat_eq c x ≡ false → behind_in c (x ∷ xs) ≡ behind_in c xs
behind_more c x xs other =
    let n = position_or_len (nat_eq c) xs in
    let steps : 1 + n + 1 ≡ suc (n + 1) = omega arith in
    rw other (ap (λ k. drop k (x ∷ xs)) steps)

behind_first : (c x : ℕ) (xs : List ℕ) → nat_eq c x ≡ true → behind_in c (x ∷ xs) ≡ xs
behind_first c x xs here = rw here refl

module _ (test kept : ℕ → Bool) (implies : (x : ℕ) → test x ≡ true → kept x ≡ true) where
  filter_kept : (xs : List ℕ) → filter test (filter kept xs) ≡ filter test xs
  filter_kept [] = refl
  filter_kept (x ∷ xs) =
      let later = filter_kept xs in
      elim (cases_Bool (kept x)) [
        | inl stays ↦ elim (cases_Bool (test x)) [
          | inl passes ↦ rw (stays, passes) (ap (λ (ys : List ℕ). x ∷ ys) later)
          | inr fails ↦ rw (stays, fails) later
        ]
        | inr goes ↦
            let fails : test x ≡ false =
            false_from_ne_true (test x) (λ passes. false≢true (sym goes ∙ implies x passes)) in
            rw (goes, fails) later
      ]

  behind_kept : (c : ℕ) → kept c ≡ true → (xs : List ℕ)
      → filter test (behind_in c (filter kept xs)) ≡ filter test (behind_in c xs)
  behind_kept c own [] = refl
  behind_kept c own (x ∷ xs) =
      let later = behind_kept c own xs in
      elim (cases_Bool (nat_eq c x)) [
        | inl here ↦
            let stays : kept x ≡ true = ap kept (sym (eqb-true c x here)) ∙ own in
            ap (λ (ys : List ℕ). filter test (behind_in c ys)) (kept_first x xs stays)
            ∙ ap (filter test) (behind_first c x (filter kept xs) here) ∙ filter_kept xs
            ∙ ap (filter test) (sym (behind_first c x xs here))
        | inr other ↦
            elim (cases_Bool (kept x)) [
              | inl stays ↦
                  ap (λ (ys : List ℕ). filter test (behind_in c ys)) (kept_first x xs stays)
                  ∙ ap (filter test) (behind_more c x (filter kept xs) other) ∙ later
                  ∙ ap (filter test) (sym (behind_more c x xs other))
              | inr goes ↦
                  ap (λ (ys : List ℕ). filter test (behind_in c ys)) (kept_not x xs goes) ∙ later
                  ∙ ap (filter test) (sym (behind_more c x xs other))
            ]
      ]
    where
      kept_first : (x : ℕ) (xs : List ℕ) → kept x ≡ true → filter kept (x ∷ xs) ≡ x ∷ filter kept xs
      kept_first x xs stays = rw stays refl

      kept_not : (x : ℕ) (xs : List ℕ) → kept x ≡ false → filter kept (x ∷ xs) ≡ filter kept xs
      kept_not x xs goes = rw goes refl

-- those behind a wish's candidate in the order
behind_is : (s : State) (orders : List CallOrder) (w : Wish)
    → behind s orders w ≡ behind_in w.candidate (order_of s.dossier orders w.programme)
behind_is s orders w =
    let order = order_of s.dossier orders w.programme in
    let n = position_or_len (nat_eq w.candidate) order in
    ap (λ n. drop (n + 1) order)
    (length-take-le n order (prefix_len-le-length (λ x. not (nat_eq w.candidate x)) order))

-- whoever has a wish for a programme wishes for it
wish_applies : (d : DossierRows) (k : ℕ) → k < length d.wishes
    → applies_in d (wish_in d.wishes k).programme (wish_in d.wishes k).candidate ≡ true
wish_applies d k lt =
    let w = wish_in d.wishes k in
    let test = λ (v : Wish). nat_eq v.candidate w.candidate && nat_eq v.programme w.programme in
    let at : get_or d.wishes k (wish_in [] 0) ≡ w = sym (unwrap_or-slice_get d.wishes k (wish_in [] 0)) in
    list_any_at test d.wishes k (wish_in [] 0) lt
    (ap test at ∙ rw (eq-eqb w.candidate w.candidate refl, eq-eqb w.programme w.programme refl) refl)

live_applies : (s : State) (p c : ℕ) → holds_seat s c p ≡ true → applies_in s.dossier p c ≡ true
live_applies s p c held =
    let (j, e, j_lt, at, lives) =
    Any-from_list_any (λ (x : Wish × Mark). (is_live x.1 && nat_eq x.0.candidate c) && nat_eq x.0.programme p)
    (entries s) held in
    let outer = and_parts (is_live e.1 && nat_eq e.0.candidate c) (nat_eq e.0.programme p) lives in
    let inner = and_parts (is_live e.1) (nat_eq e.0.candidate c) outer.0 in
    let place = entry_wish s j e j_lt at in
    let test = λ (v : Wish). nat_eq v.candidate c && nat_eq v.programme p in
    list_any_at test s.dossier.wishes j e.0 place.0 (ap test (sym place.1) ∙ rw (inner.1, outer.1) refl)

three : (a b c : Bool) → a ≡ true → b ≡ true → c ≡ true → ((a && b) && c) ≡ true
three a b c x y z = rw (x, y, z) refl

-- who stands in a list stands at their place
stands_there : (c : ℕ) (xs : List ℕ) → position_or_len (nat_eq c) xs < length xs
    → c ≡ get_or xs (position_or_len (nat_eq c) xs) 0
stands_there c xs lt =
    eqb-true c (get_or xs (position_or_len (nat_eq c) xs) 0) (passes_at_first (nat_eq c) xs 0 lt)

-- the last place of a programme at which somebody is live
module _ (s : State) (orders : List CallOrder) (p : ℕ) (last : Option ℕ)
    (apart : IsDistinct nat_eq (line_of s.dossier orders p))
    (known : (k : ℕ) → reaches last k ≡ list_any (is_live_from s.dossier orders p k) (entries s)) where
  abbrev order : List ℕ
  order = line_of s.dossier orders p

  abbrev live : ℕ → Bool
  live c = holds_seat s c p

  -- one who is live does not stand behind it
  reached : (k : ℕ) → k < length order → live (get_or order k 0) ≡ true → reaches last k ≡ true
  reached k lt held =
      let c = get_or order k 0 in
      let (j, e, j_lt, at, lives) =
      Any-from_list_any (λ (x : Wish × Mark). (is_live x.1 && nat_eq x.0.candidate c)
      && nat_eq x.0.programme p) (entries s) held in
      let outer = and_parts (is_live e.1 && nat_eq e.0.candidate c) (nat_eq e.0.programme p) lives in
      let inner = and_parts (is_live e.1) (nat_eq e.0.candidate c) outer.0 in
      let place : line_place s.dossier orders e.0 ≡ k =
      ap (λ q. position_or_len (nat_eq e.0.candidate) (line_of s.dossier orders q)) (eqb-true e.0.programme p outer.1)
      ∙ ap (λ x. position_or_len (nat_eq x) order) (eqb-true e.0.candidate c inner.1)
      ∙ first_there order apart k lt in
      let passes : is_live_from s.dossier orders p k e ≡ true =
      three (is_live e.1) (nat_eq e.0.programme p) (nat_le k (line_place s.dossier orders e.0))
      inner.0 outer.1 (le-leb k (line_place s.dossier orders e.0) (omega (arith, place))) in
      known k ∙ list_any_at (is_live_from s.dossier orders p k) (entries s) j e j_lt
      (ap (is_live_from s.dossier orders p k) at ∙ passes)

  -- so nobody is live from a place on that it does not reach
  dead_from : (n : ℕ) → ((k : ℕ) → n ≤ k → reaches last k ≡ false) → All (λ c. live c ≡ false) (drop n order)
  dead_from n past j d lt =
      let within : n + j < length order = omega (arith, lt, length-drop n order) in
      let there : get_or (drop n order) j d ≡ get_or order (n + j) 0 =
      get_or-drop n order j d ∙ get_or_default order (n + j) d 0 within in
      ap live there
      ∙ false_from_ne_true (live (get_or order (n + j) 0))
      (λ held. false≢true (sym (past (n + j) (omega arith)) ∙ reached (n + j) within held))

  none_from : (n : ℕ) → ((k : ℕ) → n ≤ k → reaches last k ≡ false) → last_of (filter live (drop n order)) ≡ None
  none_from n past = ap last_of (filter_none live (drop n order) (dead_from n past))

-- somebody is live there
module _ (s : State) (orders : List CallOrder) (p n : ℕ) (within : n < length (line_of s.dossier orders p))
    (known : (k : ℕ) → nat_le k n ≡ list_any (is_live_from s.dossier orders p k) (entries s)) where
  abbrev line : List ℕ
  line = line_of s.dossier orders p

  there_is : holds_seat s (get_or line n 0) p ≡ true
  there_is =
      let (j, e, j_lt, at, lives) = Any-from_list_any (is_live_from s.dossier orders p n)
      (entries s) (sym (known n) ∙ le-leb n n (omega arith)) in
      let place = line_place s.dossier orders e.0 in
      let outer = and_parts (is_live e.1 && nat_eq e.0.programme p) (nat_le n place) lives in
      let inner = and_parts (is_live e.1) (nat_eq e.0.programme p) outer.0 in
      let same : e.0.programme ≡ p = eqb-true e.0.programme p inner.1 in
      let up : nat_le place n ≡ true =
      known place
      ∙ list_any_at (is_live_from s.dossier orders p place) (entries s) j e j_lt
      (ap (is_live_from s.dossier orders p place) at ∙ three (is_live e.1) (nat_eq e.0.programme p)
      (nat_le place place) inner.0 inner.1 (le-leb place place (omega arith))) in
      let is : place ≡ n = omega (arith, leb-true n place outer.1, leb-true place n up) in
      let first : place ≡ position_or_len (nat_eq e.0.candidate) line =
      ap (λ q. position_or_len (nat_eq e.0.candidate) (line_of s.dossier orders q)) same in
      let candidate : e.0.candidate ≡ get_or line n 0 =
      stands_there e.0.candidate line (omega (arith, within, is, first)) ∙ ap (λ k. get_or line k 0) (sym first ∙ is) in
      let holds : ((is_live e.1 && nat_eq e.0.candidate (get_or line n 0)) && nat_eq e.0.programme p) ≡ true =
      three (is_live e.1) (nat_eq e.0.candidate (get_or line n 0)) (nat_eq e.0.programme p) inner.0
      (eq-eqb e.0.candidate (get_or line n 0) candidate) inner.1 in
      let test = λ (x : Wish × Mark). (is_live x.1 && nat_eq x.0.candidate (get_or line n 0))
      && nat_eq x.0.programme p in
      list_any_at test (entries s) j e j_lt (ap test at ∙ holds)

-- the last one whom a wish's candidate envies, by the last place of the line at which somebody is live
abbrev envied_from : List ℕ → Option ℕ → ℕ → Option ℕ
envied_from xs None place = None
envied_from xs (Some last) place = if nat_lt place last then Some (get_or xs last 0) else None

abbrev IsWithin : List ℕ → Option ℕ → Type 0
IsWithin xs None = ⊤
IsWithin xs (Some last) = last < length xs

module _ (s : State) (orders : List CallOrder) (w : Wish)
    (apart : IsDistinct nat_eq (line_of s.dossier orders w.programme))
    (applies : applies_in s.dossier w.programme w.candidate ≡ true) where
  abbrev among : List ℕ
  among = line_of s.dossier orders w.programme

  abbrev lives : ℕ → Bool
  lives c = holds_seat s c w.programme

  turned : last_of (filter lives (behind_in w.candidate among)) ≡ last_envied s orders w
  turned =
      ap last_of (behind_kept lives (applies_in s.dossier w.programme) (live_applies s w.programme) w.candidate applies
      (order_of s.dossier orders w.programme))
      ∙ ap (λ (xs : List ℕ). last_of (filter lives xs)) (sym (behind_is s orders w))

  by_last : (last : Option ℕ) → IsWithin among last
      → ((k : ℕ) → reaches last k ≡ list_any (is_live_from s.dossier orders w.programme k) (entries s))
      → envied_from among last (line_place s.dossier orders w) ≡ last_envied s orders w
  by_last None within known =
      let n = line_place s.dossier orders w in
      sym (none_from s orders w.programme None apart known (n + 1) (λ k le. refl)) ∙ turned
  by_last (Some l) within known =
      let p = w.programme in
      let n = line_place s.dossier orders w in
      let past : (m : ℕ) → l < m → last_of (filter lives (drop m among)) ≡ None =
      λ m lt. none_from s orders p (Some l) apart known m (λ k le. lt-leb k l (omega (arith, lt, le))) in
      elim (cases_lt n l) [
        | inl before ↦
            let held = there_is s orders p l within known in
            let tail = drop (n + 1) among in
            let r = l - (n + 1) in
            let r_lt : r < length tail = omega (arith, within, before, length-drop (n + 1) among) in
            let there : (k d : ℕ) → get_or tail k d ≡ get_or among (n + 1 + k) d =
            λ k d. get_or-drop (n + 1) among k d in
            let r_is : n + 1 + r ≡ l = omega (arith, before) in
            let at : get_or tail r 0 ≡ get_or among l 0 = there r 0 ∙ ap (λ k. get_or among k 0) r_is in
            let dead : (k : ℕ) → r < k → k < length tail → lives (get_or tail k 0) ≡ false =
            λ k after k_lt.
            let deep : n + 1 + k < length among = omega (arith, k_lt, length-drop (n + 1) among) in
            let rest = dead_from s orders p (Some l) apart known (n + 1 + k)
            (λ j le. lt-leb j l (omega (arith, after, le, before))) in
            let first : get_or (drop (n + 1 + k) among) 0 0 ≡ get_or among (n + 1 + k + 0) 0 =
            get_or-drop (n + 1 + k) among 0 0 in
            let zero_is : n + 1 + k + 0 ≡ n + 1 + k = omega arith in
            ap lives (there k 0 ∙ sym (first ∙ ap (λ j. get_or among j 0) zero_is))
            ∙ rest 0 0 (omega (arith, deep, length-drop (n + 1 + k) among)) in
            rw (lt-ltb n l before)
            (ap (λ (c : ℕ). let o : Option ℕ = Some c in o) (sym at)
            ∙ sym (last_passes lives tail r r_lt (ap lives at ∙ held) dead) ∙ turned)
        | inr not_before ↦ rw (le-ltb n l not_before) (sym (past (n + 1) (omega (arith, not_before))) ∙ turned)
      ]

-- who stands last is the candidate of the last live wish
module _ (d : DossierRows) (orders : List CallOrder) (p k : ℕ) where
  last_within : (last : Option ℕ) → IfSome last (IsFor d orders p)
      → IsWithin (line_of d orders p) (option_map (place_at d orders) last)
  last_within None is = tt
  last_within (Some last) is = is.called

  envied_so : (last : Option ℕ) → IfSome last (IsFor d orders p)
      → envied_by d orders last k ≡ envied_from (line_of d orders p) (option_map (place_at d orders) last)
      (place_at d orders k)
  envied_so None is = refl
  envied_so (Some last) is =
      let v = wish_in d.wishes last in
      let line = line_of d orders p in
      let place_is : place_at d orders last ≡ position_or_len (nat_eq v.candidate) line =
      ap (λ q. position_or_len (nat_eq v.candidate) (line_of d orders q)) is.programme in
      let there : v.candidate ≡ get_or line (place_at d orders last) 0 =
      stands_there v.candidate line (omega (arith, is.called, place_is))
      ∙ ap (λ n. get_or line n 0) (sym place_is) in
      ap (λ (c : ℕ). if nat_lt (place_at d orders k) (place_at d orders last) then Some c else None) there

-- the last one whom a wish's candidate envies
pub envied_is : (s : State) (orders : List CallOrder) (lasts : List (Option ℕ)) (k : ℕ)
    → IsValid s.dossier → AreCallOrders s.dossier.groups orders → AreLast s orders lasts → k < length s.dossier.wishes
    → (wish_in s.dossier.wishes k).programme < length s.dossier.programmes
    → envied_by s.dossier orders (number_in lasts (wish_in s.dossier.wishes k).programme) k
    ≡ last_envied s orders (wish_in s.dossier.wishes k)
envied_is s orders lasts k valid called are k_lt lt =
    let d = s.dossier in
    let w = wish_in d.wishes k in
    let p = w.programme in
    let last = number_in lasts p in
    let fits = are.wishes p lt in
    envied_so d orders p k last fits
    ∙ by_last s orders w (line_once d orders p (called_once d valid orders called p)) (wish_applies d k k_lt)
    (option_map (place_at d orders) last) (last_within d orders p k last fits) (λ j. are.each p j lt)
