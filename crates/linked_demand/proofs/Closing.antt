-- The links of the programmes stay right where one wish is closed.
use Rattle.std.proofs.Common.{ℕ, ◌+◌, ◌≤◌, ◌<◌, ◌≡◌, Bool, true, false, ◌&&◌, ◌||◌, List, [], ◌∷◌, map, length, inl}
use Rattle.std.proofs.Common.{inr, refl, sym, ◌∙◌, ap, arith, nat_eq, nat_lt, filter, zero, suc, get_or, drop, Option}
use Rattle.std.proofs.Common.{Some, zip, add-one, option_map, unwrap_or, drop-cons, subst}
use Rattle.std.proofs.Math.ListN.{set}
use Rattle.std.specs.Prelude.{slice_index, slice_get}
use Rattle.std.specs.List.{list_any, enumerate_from, range_with_len, AllByRecursion}
use Rattle.std.proofs.lemmas.Bool.{cases_Bool, or_cases, or_left, or_right, eqb-false, ne_eqb, eq-eqb}
use Rattle.std.proofs.lemmas.List.{get_or_read, length-set, get_or-map, length-map}
use Rattle.std.proofs.lemmas.List.FromFn.{get_or-map-range_with_len, length-map-range_with_len, get_or-range_with_len}
use Rattle.std.proofs.lemmas.List.FromFn.{length-range_with_len}
use Rattle.std.proofs.lemmas.Option.{slice_get_within}
use Rattle.admit_core.proofs.Plain.{and_false, any_same, and_true, and_assoc}
use Rattle.admit_core.specs.declared.dossier.Wish.{Wish}
use Rattle.admit_core.specs.declared.state.Mark.{Mark}
use Rattle.admit_core.specs.declared.ranking.CallOrder.{CallOrder}
use Rattle.admit_core.specs.State.{State, entries, seats_left}
use Rattle.admit_core.specs.Proposals.{needs_no_seat}
use Rattle.day_state.specs.Kept.{wish_in}
use Rattle.linked_demand.specs.Line.{LineRow, is_reached}
use Rattle.linked_demand.specs.Opens.{flagged, is_flagged_in, wants_by, ahead_by, is_proposed_by, applies_in, line_of}
use Rattle.linked_demand.specs.Opens.{seat_row}
use Rattle.linked_demand.specs.Links.{LinksRow, IsSeatPlace, claim_of, WaitsAt, IsLinked}
use Rattle.linked_demand.specs.Demand.{is_proposed_at}
use Rattle.linked_demand.proofs.Opens.{row_own, row_other, map_at, reached_in_line}

-- the wish of an entry
pub wish_of : (ws : List Wish) (ms : List Mark) (i : ℕ) (w : Wish) (m : Mark)
    → slice_get (zip ws ms) i ≡ Some (w, m) → slice_get ws i ≡ Some w
wish_of [] ms i w m at = cc
wish_of (v ∷ ws) [] i w m at = cc
wish_of (v ∷ ws) (n ∷ ms) zero w m at = ap (λ (o : Option (Wish × Mark)). option_map (λ x. x.0) o) at
wish_of (v ∷ ws) (n ∷ ms) (suc i) w m at = wish_of ws ms i w m at

-- an element read of a list by place
pub read_range : {X : Type 0} (f : ℕ → X) (n p : ℕ) (xs : List X) (x : X) → xs ≡ map f (range_with_len 0 n)
    → p < n → x ≡ get_or xs p x → x ≡ f p
read_range f n p xs x is lt read = read ∙ ap (λ ys. get_or ys p x) is ∙ get_or-map-range_with_len f 0 n p p x lt
    (omega arith)

-- whether a wish of the claim is open
pub any_of_claim : (t : Wish → Bool) (ws : List Wish) (ms : List Mark) (a : ℕ) (opens : List Bool)
    → length ms ≡ length ws → a + length ws ≤ length opens
    → list_any (λ v. get_or opens v false) (map (λ x. x.0) (filter (λ x. t x.1) (enumerate_from a ws)))
    ≡ list_any (λ (x : (Wish × Mark) × Bool). x.1 && t x.0.0) (zip (zip ws ms) (drop a opens))
any_of_claim t [] ms a opens long le = refl
any_of_claim t (w ∷ ws) [] a opens long le = absurd (omega arith)
any_of_claim t (w ∷ ws) (m ∷ ms) a opens long le =
    let rest = any_of_claim t ws ms (a + 1) opens (omega arith) (omega arith) in
    let front : drop a opens ≡ get_or opens a false ∷ drop (a + 1) opens =
    rw (add-one, drop-cons opens a false (omega arith)) refl in
    rw front (elim (cases_Bool (t w)) [
      | inl passes ↦ rw (passes, and_true (get_or opens a false)) (ap (λ b. get_or opens a false || b) rest)
      | inr fails ↦ rw (fails, and_false (get_or opens a false)) rest
    ])

-- a claim's wishes are places of the list
pub places_below : {X : Type 0} (t : ℕ × X → Bool) (es : List X) (a n : ℕ) → n ≡ a + length es
    → AllByRecursion (λ v. v < n) (map (λ x. x.0) (filter t (enumerate_from a es)))
places_below t [] a n is = tt
places_below t (e ∷ es) a n is =
    let rest = places_below t es (a + 1) n (omega arith) in
    elim (cases_Bool (t (a, e))) [
      | inl passes ↦ rw passes (omega arith, rest)
      | inr fails ↦ rw fails rest
    ]

pub length_entries : (ws : List Wish) (ms : List Mark) → length ms ≡ length ws → length (zip ws ms) ≡ length ws
length_entries [] ms e = refl
length_entries (w ∷ ws) [] e = e
length_entries (w ∷ ws) (m ∷ ms) e = ap suc (length_entries ws ms (omega arith))

-- fewer flags find fewer
pub fewer : {X : Type 0} (q : X × Bool → Bool) → ((x : X) → q (x, false) ≡ false)
    → (xs : List X) (ys : List Bool) (i : ℕ)
    → list_any q (zip xs (set ys i false)) ≡ true → list_any q (zip xs ys) ≡ true
fewer q h [] ys i t = t
fewer q h (x ∷ xs) [] i t = t
fewer q h (x ∷ xs) (y ∷ ys) zero t = or_right (q (x, y)) (list_any q (zip xs ys)) (rw (h x) at t)
fewer q h (x ∷ xs) (y ∷ ys) (suc i) t =
    elim (or_cases (q (x, y)) (list_any q (zip xs (set ys i false))) t) [
      | inl here ↦ or_left (q (x, y)) (list_any q (zip xs ys)) here
      | inr later ↦ or_right (q (x, y)) (list_any q (zip xs ys)) (fewer q h xs ys i later)
    ]

-- a wish of the claim is open where the flags say so
pub claim_flagged : (s : State) (opens : List Bool) (p c : ℕ) → length opens ≡ length s.dossier.wishes
    → length s.marks ≡ length s.dossier.wishes
    → list_any (λ v. get_or opens v false) (claim_of s.dossier p c) ≡ list_any (is_flagged_in p c) (flagged s opens)
claim_flagged s opens p c long marks =
    let t = λ (w : Wish). (nat_eq w.candidate c) && (nat_eq w.programme p) in
    any_of_claim t s.dossier.wishes s.marks 0 opens marks (omega (arith, long))
    ∙ any_same (λ (x : (Wish × Mark) × Bool). x.1 && t x.0.0) (is_flagged_in p c)
    (λ x. and_assoc x.1 (nat_eq x.0.0.candidate c) (nat_eq x.0.0.programme p)) (zip (entries s) opens)

-- what is known where a wish is closed
pub record Closes (s : State) (orders : List CallOrder) (opens : List Bool) (lines : List LineRow)
    (claims : List (List (List ℕ))) (places : List ℕ) (exempt : List Bool) (i : ℕ) (w : Wish) : Type 0 where
  pub links : IsLinked s orders opens lines claims places exempt
  pub mark : Mark
  pub at : WaitsAt s i w mark

pub starts_within : {s : State} {orders : List CallOrder} {opens : List Bool} {lines : List LineRow}
    {claims : List (List (List ℕ))} {places : List ℕ} {exempt : List Bool}
    → IsLinked s orders opens lines claims places exempt → (row : LinksRow)
    → record { state = s; orders = orders; opens = opens } ≡ row
    → (i : ℕ) → ((w : Wish) × (m : Mark) × WaitsAt row.state i w m) → i < length s.dossier.wishes
starts_within {s} {orders} {opens} links row is i (w, m, at) =
    let P = λ (r : LinksRow). WaitsAt r.state i w m in
    let here = subst P (sym is) at in
    slice_get_within s.dossier.wishes i w (wish_of s.dossier.wishes s.marks i w m here.here)

closes : {s : State} {orders : List CallOrder} {opens : List Bool} {lines : List LineRow}
    {claims : List (List (List ℕ))} {places : List ℕ} {exempt : List Bool}
    → IsLinked s orders opens lines claims places exempt → (row : LinksRow)
    → record { state = s; orders = orders; opens = opens } ≡ row
    → (i : ℕ) → ((w : Wish) × (m : Mark) × WaitsAt row.state i w m) → (v : Wish) → slice_get s.dossier.wishes i ≡ Some v
    → Closes s orders opens lines claims places exempt i v
closes {s} {orders} {opens} {lines} {claims} {places} {exempt} links row is i (w, m, at) v found =
    let P = λ (r : LinksRow). WaitsAt r.state i w m in
    let here = subst P (sym is) at in
    let same : Some w ≡ Some v = sym (wish_of s.dossier.wishes s.marks i w m here.here) ∙ found in
    let Q = λ (o : Option Wish). WaitsAt s i (unwrap_or o w) m in
    record { links = links; mark = m; at = subst Q same here }

-- the wish that is read stands there
pub wish_there : (ws : List Wish) (i : ℕ) (v : Wish) → i < length ws → v ≡ wish_in ws i → slice_get ws i ≡ Some v
wish_there [] i v lt is = absurd (omega arith)
wish_there (w ∷ ws) zero v lt is = ap (λ (u : Wish). Some u) (sym is)
wish_there (w ∷ ws) (suc i) v lt is = wish_there ws i v (omega arith) is

pub closes_read : {s : State} {orders : List CallOrder} {opens : List Bool} {lines : List LineRow}
    {claims : List (List (List ℕ))} {places : List ℕ} {exempt : List Bool}
    → IsLinked s orders opens lines claims places exempt → (row : LinksRow)
    → record { state = s; orders = orders; opens = opens } ≡ row
    → (i : ℕ) → ((w : Wish) × (m : Mark) × WaitsAt row.state i w m) → (v : Wish) → v ≡ wish_in s.dossier.wishes i
    → Closes s orders opens lines claims places exempt i v
closes_read {s} links row is i waits v read = closes links row is i waits v
    (wish_there s.dossier.wishes i v (starts_within links row is i waits) read)

module _ {s : State} {orders : List CallOrder} {opens : List Bool} {lines : List LineRow}
    {claims : List (List (List ℕ))} {places : List ℕ} {exempt : List Bool} {i : ℕ} {w : Wish}
    (k : Closes s orders opens lines claims places exempt i w) where
  pub wish_within : i < length s.dossier.wishes
  wish_within = slice_get_within s.dossier.wishes i w (wish_of s.dossier.wishes s.marks i w k.mark k.at.here)

  pub programme_within : w.programme < length s.dossier.programmes
  programme_within = k.links.programmes_are i w (wish_of s.dossier.wishes s.marks i w k.mark k.at.here)

  pub place_right : (x : ℕ) → x ≡ get_or places i x → IsSeatPlace s.dossier orders w x
  place_right x read =
      let is : slice_index places i ≡ x = sym (get_or_read places i x (omega (arith, wish_within, k.links.places_each))
      read 0) in
      let P = λ (n : ℕ). IsSeatPlace s.dossier orders w n in
      subst P is (k.links.places_are i w (wish_of s.dossier.wishes s.marks i w k.mark k.at.here))

  -- the claim that is read is that of the wish
  pub claim_right : (place : ℕ) → IsSeatPlace s.dossier orders w place → (row : List (List ℕ))
      → row ≡ get_or claims w.programme row
      → (claim : List ℕ) → claim ≡ get_or row place [] → claim ≡ claim_of s.dossier w.programme w.candidate
  claim_right place at row row_read claim claim_read =
      let row_is : row ≡ map (claim_of s.dossier w.programme) (line_of s.dossier orders w.programme) =
      read_range (λ p. map (claim_of s.dossier p) (line_of s.dossier orders p))
      (length s.dossier.programmes) w.programme claims row k.links.claims_are programme_within row_read in
      claim_read
      ∙ ap (λ (r : List (List ℕ)). get_or r place []) row_is
      ∙ get_or-map (claim_of s.dossier w.programme) (line_of s.dossier orders w.programme) place 0 [] at.within
      ∙ ap (claim_of s.dossier w.programme) at.here

  -- the line that is read is that of the programme
  pub line_right : (line : LineRow) → line ≡ get_or lines w.programme line → line ≡ seat_row s orders opens w.programme
  line_right line read = read_range (seat_row s orders opens) (length s.dossier.programmes) w.programme
      lines line k.links.lines_are programme_within read

  -- the links with the flag cleared and the lines right for it
  pub links_with : (after : List LineRow)
      → after ≡ map (seat_row s orders (set opens i false)) (range_with_len 0 (length s.dossier.programmes))
      → IsLinked s orders (set opens i false) after claims places exempt
  links_with after is =
      record {
        marks_each = k.links.marks_each;
        opens_each = length-set opens i false ∙ k.links.opens_each;
        places_each = k.links.places_each;
        programmes_are = k.links.programmes_are;
        lines_are = is;
        claims_are = k.links.claims_are;
        places_are = k.links.places_are;
        exempt_each = k.links.exempt_each;
        exempt_are = k.links.exempt_are;
      }

  -- only the line of the wish's programme may change
  pub lines_set : (new : LineRow) → new ≡ seat_row s orders (set opens i false) w.programme
      → set lines w.programme new ≡ map (seat_row s orders (set opens i false))
      (range_with_len 0 (length s.dossier.programmes))
  lines_set new is =
      let n = length s.dossier.programmes in
      let old = seat_row s orders opens in
      let next = seat_row s orders (set opens i false) in
      let here : get_or (range_with_len 0 n) w.programme 0 ≡ w.programme = omega
      (arith, get_or-range_with_len 0 n w.programme 0 programme_within) in
      let changed : map next (range_with_len 0 n) ≡ set (map old (range_with_len 0 n)) w.programme
      (next (get_or (range_with_len 0 n) w.programme 0)) =
      map_at old next (range_with_len 0 n) w.programme (omega (arith, programme_within, length-range_with_len 0 n))
      (λ j lt ne.
      let there : get_or (range_with_len 0 n) j 0 ≡ j = omega
      (arith, get_or-range_with_len 0 n j 0 (omega (arith, length-range_with_len 0 n))) in
      rw there (row_other s opens i w k.mark k.at.here orders j
      (ne_eqb w.programme j (λ e. omega (arith, e, eqb-false j w.programme ne))))) in
      rw (k.links.lines_are, is) (sym (rw here at changed))

  pub row_is : (place : ℕ) → IsSeatPlace s.dossier orders w place
      → seat_row s orders (set opens i false) w.programme
      ≡ record {
        flags = set (seat_row s orders opens w.programme).flags place
            (wants_by s (set opens i false) w.programme w.candidate);
        quota = seats_left s w.programme;
      }
  row_is place at =
      ap (λ (flags : List Bool). let r : LineRow = record { flags = flags; quota = seats_left s w.programme } in r)
      (row_own s opens i w k.mark k.at.here orders place at)

  pub claims_each : length claims ≡ length s.dossier.programmes
  claims_each = ap length k.links.claims_are
      ∙ length-map-range_with_len (λ p. map (claim_of s.dossier p) (line_of s.dossier orders p)) 0
      (length s.dossier.programmes)

  -- the row that is read has the place
  pub row_within : (place : ℕ) → IsSeatPlace s.dossier orders w place → (row : List (List ℕ))
      → row ≡ get_or claims w.programme row → place < length row
  row_within place at row read =
      let row_is : row ≡ map (claim_of s.dossier w.programme) (line_of s.dossier orders w.programme) =
      read_range (λ p. map (claim_of s.dossier p) (line_of s.dossier orders p))
      (length s.dossier.programmes) w.programme claims row k.links.claims_are programme_within read in
      omega (
        arith,
        at.within,
        ap length row_is,
        length-map (line_of s.dossier orders w.programme)
            (claim_of s.dossier w.programme),
      )

pub any_at : {X : Type 0} (q : X → Bool) (xs : List X) (i : ℕ) (x : X) → slice_get xs i ≡ Some x
    → q x ≡ true → list_any q xs ≡ true
any_at q [] i x at t = absurd (omega (arith, slice_get_within [] i x at))
any_at q (y ∷ xs) zero x at t = or_left (q y) (list_any q xs) (ap (λ o. q (unwrap_or o x)) at ∙ t)
any_at q (y ∷ xs) (suc i) x at t = or_right (q y) (list_any q xs) (any_at q xs i x at t)

module _ {s : State} {orders : List CallOrder} {opens : List Bool} {lines : List LineRow}
    {claims : List (List (List ℕ))} {places : List ℕ} {exempt : List Bool} {i : ℕ} {w : Wish}
    (k : Closes s orders opens lines claims places exempt i w) where
  pub applies_in_programme : applies_in s.dossier w.programme w.candidate ≡ true
  applies_in_programme =
      any_at (λ (v : Wish). (nat_eq v.candidate w.candidate) && (nat_eq v.programme w.programme))
      s.dossier.wishes i w (wish_of s.dossier.wishes s.marks i w k.mark k.at.here)
      (rw (eq-eqb w.candidate w.candidate refl, eq-eqb w.programme w.programme refl) refl)

  pub exempt_each : length exempt ≡ length s.dossier.wishes
  exempt_each = k.links.exempt_each

  -- what is read says whether the wish is proposed
  pub proposed_right : (place : ℕ) → IsSeatPlace s.dossier orders w place → (line : LineRow)
      → line ≡ get_or lines w.programme line
      → (flag exempt_flag reached : Bool) → flag ≡ get_or opens i flag → exempt_flag ≡ get_or exempt i exempt_flag
      → reached ≡ is_reached line place
      → (flag && (exempt_flag || reached)) ≡ is_proposed_by s orders opens w k.mark (get_or opens i false)
  proposed_right place at line read flag exempt_flag reached flag_read exempt_read by =
      let wish = wish_of s.dossier.wishes s.marks i w k.mark k.at.here in
      let lt = slice_get_within s.dossier.wishes i w wish in
      let flag_is : flag ≡ get_or opens i false = get_or_read opens i flag
      (omega (arith, lt, k.links.opens_each)) flag_read false in
      let exempt_is : exempt_flag ≡ needs_no_seat s orders w =
      get_or_read exempt i exempt_flag (omega (arith, lt, k.links.exempt_each)) exempt_read false
      ∙ k.links.exempt_are i w wish in
      let line_is = line_right k line read in
      let reach_is : reached ≡ nat_lt (ahead_by s orders opens w) (seats_left s w.programme) =
      by ∙ ap (λ (r : LineRow). is_reached r place) line_is
      ∙ reached_in_line s orders opens w place applies_in_programme at in
      rw (flag_is, exempt_is, reach_is, k.at.waits) refl

-- the same, as the call says it
pub proposed_goal : {s : State} {orders : List CallOrder} {opens : List Bool} {lines : List LineRow}
    {claims : List (List (List ℕ))} {places : List ℕ} {exempt : List Bool}
    → IsLinked s orders opens lines claims places exempt → (row : LinksRow)
    → record { state = s; orders = orders; opens = opens } ≡ row
    → (i : ℕ) (w : Wish) (m : Mark) → WaitsAt row.state i w m → (v : Wish) → v ≡ wish_in s.dossier.wishes i
    → (place : ℕ) → place ≡ get_or places i place → (line : LineRow) → line ≡ get_or lines v.programme line
    → (flag exempt_flag reached served : Bool)
    → flag ≡ get_or opens i flag → exempt_flag ≡ get_or exempt i exempt_flag → reached ≡ is_reached line place
    → served ≡ (flag && (exempt_flag || reached))
    → served ≡ is_proposed_by row.state row.orders row.opens w m (get_or row.opens i false)
proposed_goal {s} {orders} {opens} {lines} {claims} {places} {exempt} links row is i w m waits v wish_read
    place place_read line line_read flag exempt_flag reached served flag_read exempt_read by served_is =
    let found = wish_there s.dossier.wishes i v (starts_within links row is i (w, m, waits)) wish_read in
    let P = λ (r : LinksRow). WaitsAt r.state i w m in
    let here : WaitsAt s i w m = subst P (sym is) waits in
    let same : v ≡ w = ap (λ (o : Option Wish). unwrap_or o w)
    (sym found ∙ wish_of s.dossier.wishes s.marks i w m here.here) in
    let k : Closes s orders opens lines claims places exempt i w = record { links = links; mark = m; at = here } in
    let read : line ≡ get_or lines w.programme line = rw same at line_read in
    let Q = λ (r : LinksRow). served ≡ is_proposed_by r.state r.orders r.opens w m (get_or r.opens i false) in
    subst Q is (served_is ∙ proposed_right k place (place_right k place place_read) line read flag exempt_flag
    reached flag_read exempt_read by)

pub proposed_at_is : (row : LinksRow) (i : ℕ) (w : Wish) (m : Mark) → WaitsAt row.state i w m
    → is_proposed_at row i ≡ is_proposed_by row.state row.orders row.opens w m (get_or row.opens i false)
proposed_at_is row i w m waits =
    ap (λ (o : Option (Wish × Mark)). unwrap_or
    (option_map (λ e. is_proposed_by row.state row.orders row.opens e.0 e.1 (get_or row.opens i false)) o) false)
    waits.here
