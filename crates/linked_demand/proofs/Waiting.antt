-- What is open waits, and needs a seat where it is its candidate's only wish in its programme.
use Rattle.std.proofs.Common.{ℕ, zero, suc, ◌<◌, ◌≡◌, Bool, true, false, not, ◌&&◌, ◌||◌, List, [], ◌∷◌, map, length}
use Rattle.std.proofs.Common.{get_or, set, inl, inr, refl, sym, ◌∙◌, ap, arith, nat_eq, Option, Some, None, subst}
use Rattle.std.specs.Prelude.{◌==◌, nat_lt, slice_get}
use Rattle.std.specs.List.{list_any, range_with_len}
use Rattle.std.proofs.Math.Bool.{or-false}
use Rattle.std.proofs.lemmas.Bool.{cases_Bool, and_parts, and_from, eqb-true, eq-eqb, or_from, or_parts, false≢true}
use Rattle.std.proofs.lemmas.Bool.{and_left, cases_eq, cases_lt}
use Rattle.std.proofs.lemmas.List.{get_or-map, get_or-set_other, get_or-set_same, get_or_past, length-map, length-set}
use Rattle.std.proofs.lemmas.List.Folds.{list_any_none}
use Rattle.std.proofs.lemmas.List.FromFn.{get_or-range_with_len, length-range_with_len}
use Rattle.admit_core.proofs.Plain.{any-filter}
use Rattle.admit_core.specs.declared.dossier.Wish.{Wish}
use Rattle.admit_core.specs.declared.state.Mark.{Mark}
use Rattle.admit_core.specs.declared.ranking.CallOrder.{CallOrder}
use Rattle.admit_core.specs.DossierRows.{DossierRows, candidate_of}
use Rattle.admit_core.specs.Lists.{is_among}
use Rattle.admit_core.specs.OwnWishes.{own_places}
use Rattle.admit_core.specs.Proposals.{is_open, is_barred}
use Rattle.admit_core.specs.State.{State, entries, has_school, holds_bed, holds_seat, is_live}
use Rattle.admit_core.specs.State.{is_waiting}
use Rattle.day_state.specs.Kept.{mark_in, wish_in, lives_at, has_bed_there, has_seat_there, holds_bed_in}
use Rattle.day_state.proofs.Waits.{waiting_not_live}
use Rattle.day_state.proofs.Places.{own_any, candidate_in as candidate_is}
use Rattle.linked_demand.specs.Links.{WaitsAt, AllOpenWait, NeedsSeatAlone, claim_of}
use Rattle.linked_demand.specs.Opens.{line_of, opens_of, wanting_at}
use Rattle.linked_demand.specs.Seats.{applies_at, same_school, may_share_school}
use Rattle.linked_demand.specs.Wants.{AllNeedSeatAlone}
use Rattle.linked_demand.proofs.Closing.{length_entries, wish_of}
use Rattle.linked_demand.proofs.Falling.{flag_map}
use Rattle.linked_demand.proofs.RowsRight.{entry_is, entry_there}
use Rattle.linked_demand.proofs.Lining.{among_claim, wish_in_is}
use Rattle.linked_demand.proofs.Marked.{marked_within}

-- another wish, of the same programme
abbrev is_beside : DossierRows → ℕ → ℕ → Bool
is_beside d k j = not (nat_eq j k) && applies_at d (wish_in d.wishes k).programme j

-- the candidate of the wish at a place has another one in its programme
abbrev is_doubled : DossierRows → ℕ → Bool
is_doubled d k = list_any (is_beside d k) (own_places d (candidate_of d k))

elsewhere : (live own other : Bool) → other ≡ true → (other && own) ≡ false → (live && own) ≡ false
elsewhere true own true t none = none
elsewhere false own other t none = refl
elsewhere live own false t none = absurd (false≢true t)

-- of some wishes none is live that passes a test, where one is not live and no other one passes
none_lives : (test : Wish → Bool) (d : DossierRows) (ms : List Mark) (k : ℕ) → is_live (mark_in ms k) ≡ false
    → (xs : List ℕ) → list_any (λ j. not (nat_eq j k) && test (wish_in d.wishes j)) xs ≡ false
    → list_any (lives_at d.wishes ms test) xs ≡ false
none_lives test d ms k not_live [] none = refl
none_lives test d ms k not_live (x ∷ xs) none =
    let others = λ (j : ℕ). not (nat_eq j k) && test (wish_in d.wishes j) in
    let own = test (wish_in d.wishes x) in
    let parts = or_parts (others x) (list_any others xs) none in
    let first : (is_live (mark_in ms x) && own) ≡ false =
    elim (cases_Bool (nat_eq x k)) [
      | inl here ↦ and_left (is_live (mark_in ms x)) own
          (ap (λ (j : ℕ). is_live (mark_in ms j)) (eqb-true x k here) ∙ not_live)
      | inr other ↦ elsewhere (is_live (mark_in ms x)) own (not (nat_eq x k)) (ap not other) parts.0
    ] in
    or_from (is_live (mark_in ms x) && own) (list_any (lives_at d.wishes ms test) xs) first
    (none_lives test d ms k not_live xs parts.1)

-- the mark of a wish that waits says so
pub mark_waits : (s : State) (k : ℕ) (w : Wish) (m : Mark) → WaitsAt s k w m → is_waiting (mark_in s.marks k) ≡ true
mark_waits s k w m at = ap is_waiting (entry_is s.dossier.wishes s.marks k w m at.here).1 ∙ at.waits

pub not_live : (s : State) (k : ℕ) (w : Wish) (m : Mark) → WaitsAt s k w m → is_live (mark_in s.marks k) ≡ false
not_live s k w m at = waiting_not_live s k (mark_waits s k w m at)

module _ (s : State) (long : length s.marks ≡ length s.dossier.wishes) (k : ℕ) where
  abbrev d : DossierRows
  d = s.dossier

  abbrev mine : Wish
  mine = wish_in d.wishes k

  -- a wish that waits is not live in its programme where no other one is of it
  pub no_seat : (w : Wish) (m : Mark) → WaitsAt s k w m → is_doubled s.dossier k ≡ false → has_seat_there s k ≡ false
  no_seat w m at single =
      let own = λ (w : Wish). w.programme == mine.programme in
      ap (λ (c : ℕ). holds_seat s c mine.programme) (sym (candidate_is d.wishes k))
      ∙ sym (own_any own s (candidate_of d k) long)
      ∙ none_lives own d s.marks k (not_live s k w m at) (own_places d (candidate_of d k)) single

  -- nor in its school where no other one can have it
  pub no_bed : is_waiting (mark_in s.marks k) ≡ true → may_share_school s.dossier k ≡ false → has_bed_there s k ≡ false
  no_bed waits single =
      by_school mine.school (or_parts (nat_lt 16 (length (own_places d (candidate_of d k)))) _ single).1
    where
      by_school : (school : Option ℕ)
          → list_any (λ j. not (nat_eq j k) && same_school school (wish_in d.wishes j).school)
          (own_places d (candidate_of d k)) ≡ false
          → holds_bed_in s mine.candidate school ≡ false
      by_school None none = refl
      by_school (Some h) none =
          let own = λ (w : Wish). has_school w h in
          ap (λ (c : ℕ). holds_bed s c h) (sym (candidate_is d.wishes k))
          ∙ sym (own_any own s (candidate_of d k) long)
          ∙ none_lives own d s.marks k (waiting_not_live s k waits) (own_places d (candidate_of d k)) none

wish_there : (ws : List Wish) (j : ℕ) → j < length ws → slice_get ws j ≡ Some (wish_in ws j)
wish_there [] j lt = absurd (omega arith)
wish_there (w ∷ ws) zero lt = refl
wish_there (w ∷ ws) (suc j) lt = wish_there ws j (omega arith)

-- of a claim of one wish no other one is of its programme
alone_single : (d : DossierRows) (p c k : ℕ) (w : Wish) → slice_get d.wishes k ≡ Some w → claim_of d p c ≡ k ∷ []
    → is_doubled d k ≡ false
alone_single d p c k w at claim =
    let ws = d.wishes in
    let n = length ws in
    let many = length-range_with_len 0 n in
    let among : is_among k (claim_of d p c) ≡ true =
    ap (is_among k) claim ∙ ap (λ b. b || false) (eq-eqb k k refl) in
    let own = and_parts (nat_eq w.candidate c) (nat_eq w.programme p) (sym (among_claim d p c k w at) ∙ among) in
    let w_is : wish_in ws k ≡ w = wish_in_is ws k w at in
    let is_own = λ (j : ℕ). candidate_of d j == candidate_of d k in
    let cand : candidate_of d k ≡ c =
    candidate_is ws k ∙ ap (λ (v : Wish). v.candidate) w_is ∙ eqb-true w.candidate c own.0 in
    let prog : (wish_in ws k).programme ≡ p = ap (λ (v : Wish). v.programme) w_is ∙ eqb-true w.programme p own.1 in
    any-filter (is_beside d k) is_own (range_with_len 0 n)
    ∙ list_any_none (λ j. is_own j && is_beside d k j) (range_with_len 0 n) (λ i e lt.
    let j = get_or (range_with_len 0 n) i e in
    let j_in : j < n =
    omega (arith, lt, many, get_or-range_with_len 0 n i e (omega (arith, lt, many))) in
    elim (cases_Bool (is_own j && is_beside d k j)) [
      | inl both ↦
          let parts = and_parts (is_own j) (is_beside d k j) both in
          let beside = and_parts (not (nat_eq j k)) ((wish_in ws j).programme == (wish_in ws k).programme) parts.1 in
          let j_at : slice_get ws j ≡ Some (wish_in ws j) = wish_there ws j j_in in
          let j_cand : (wish_in ws j).candidate ≡ c =
          sym (candidate_is ws j) ∙ eqb-true (candidate_of d j) (candidate_of d k) parts.0 ∙ cand in
          let j_prog : (wish_in ws j).programme ≡ p =
          eqb-true (wish_in ws j).programme (wish_in ws k).programme beside.1 ∙ prog in
          let there : is_among j (claim_of d p c) ≡ true =
          among_claim d p c j (wish_in ws j) j_at
          ∙ and_from (nat_eq (wish_in ws j).candidate c) (nat_eq (wish_in ws j).programme p)
          (eq-eqb (wish_in ws j).candidate c j_cand) (eq-eqb (wish_in ws j).programme p j_prog) in
          let same : (nat_eq j k || false) ≡ true = sym (ap (is_among j) claim) ∙ there in
          absurd (false≢true (sym (ap not (sym (or-false (nat_eq j k)) ∙ same)) ∙ beside.0))
      | inr not_both ↦ not_both
    ])

-- so a claim of one open wish needs a seat
pub claim_alone : (s : State) → length s.marks ≡ length s.dossier.wishes → (opens : List Bool) → AllOpenWait s opens
    → (p c : ℕ) → NeedsSeatAlone s opens (claim_of s.dossier p c)
claim_alone s long opens waits p c k claim opened =
    let (w, m, at) = waits k opened in
    no_seat s long k w m at (alone_single s.dossier p c k w (wish_of s.dossier.wishes s.marks k w m at.here) claim)

-- and is asked for its flag alone
pub single_wants : (s : State) (opens : List Bool) (claim : List ℕ) → length claim ≡ 1 → NeedsSeatAlone s opens claim
    → (wish : ℕ) (flag : Bool) → wish ≡ get_or claim 0 0 → flag ≡ get_or opens wish false
    → flag ≡ list_any (wanting_at s opens) claim
single_wants s opens [] one alone wish flag wish_is is = absurd (omega arith)
single_wants s opens (k ∷ []) one alone wish flag wish_is is =
    is
    ∙ ap (λ (j : ℕ). get_or opens j false) wish_is
    ∙ elim (cases_Bool (get_or opens k false)) [
      | inl opened ↦ rw (opened, alone k refl opened) refl
      | inr closed ↦ rw closed refl
    ]
single_wants s opens (k ∷ j ∷ ks) one alone wish flag wish_is is = absurd (omega arith)

-- so of each claim of a line
pub row_alone : (s : State) → length s.marks ≡ length s.dossier.wishes → (opens : List Bool) → AllOpenWait s opens
    → (orders : List CallOrder) (p : ℕ) (row : List (List ℕ))
    → row ≡ map (claim_of s.dossier p) (line_of s.dossier orders p) → AllNeedSeatAlone s opens row
row_alone s long opens waits orders p row is j lt =
    let d = s.dossier in
    let line = line_of d orders p in
    let in_line : j < length line = omega (arith, lt, ap length is, length-map line (claim_of d p)) in
    let P = λ (ks : List ℕ). NeedsSeatAlone s opens ks in
    let read = ap (λ (r : List (List ℕ)). get_or r j []) is ∙ get_or-map (claim_of d p) line j 0 [] in_line in
    subst P (sym read) (claim_alone s long opens waits p (get_or line j 0))

-- what is open under bars waits
pub all_open_wait : (s : State) → length s.marks ≡ length s.dossier.wishes → (bars : List ℕ) (opens : List Bool)
    → opens ≡ opens_of s bars → AllOpenWait s opens
all_open_wait s long bars opens is k opened =
    let ws = s.dossier.wishes in
    let f = λ (e : Wish × Mark). is_open s bars e.0 e.1 in
    let lt : k < length ws =
    omega (
      arith,
      marked_within opens k opened,
      ap length is,
      length-map
          (entries s) f,
      length_entries ws s.marks long,
    ) in
    let w = wish_in ws k in
    let m = mark_in s.marks k in
    let here = entry_there ws s.marks k long lt in
    let flag : get_or opens k false ≡ is_open s bars w m =
    ap (λ (os : List Bool). get_or os k false) is ∙ flag_map f (entries s) k (w, m) here in (
      w,
      m,
      record {
        here = here;
        waits = (and_parts (is_waiting m) (not (is_barred s bars w m)) (sym flag ∙ opened)).0;
      },
    )

-- where one more wish is closed, what is open waits still
pub closed_wait : (s : State) (opens : List Bool) (i : ℕ) → AllOpenWait s opens → AllOpenWait s (set opens i false)
closed_wait s opens i waits k opened =
    waits k (elim (cases_eq k i) [
      | inl here ↦
          let still = ap (λ (j : ℕ). get_or (set opens i false) j false) (sym here) ∙ opened in
          absurd (false≢true (sym unset ∙ still))
      | inr other ↦ sym (get_or-set_other opens i k false false other) ∙ opened
    ])
  where
    unset : get_or (set opens i false) i false ≡ false
    unset =
        elim (cases_lt i (length opens)) [
          | inl within ↦ get_or-set_same opens i false false within
          | inr past ↦ get_or_past (set opens i false) i false (omega (arith, past, length-set opens i false))
        ]
