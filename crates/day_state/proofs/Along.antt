-- Changes along a candidate's own wishes change what a change of all marks does.
use Rattle.std.proofs.Common.{ℕ, ◌+◌, ◌≤◌, ◌<◌, ◌≡◌, Bool, true, false, cond, ◌&&◌, ◌||◌, List, [], ◌∷◌, length, get_or}
use Rattle.std.proofs.Common.{set, drop, inl, inr, refl, sym, ◌∙◌, ap, arith, nat_eq, filter, zero, suc}
use Rattle.std.specs.Prelude.{slice_index, ◌==◌, All, if◌then◌else◌}
use Rattle.std.specs.List.{list_any, range_with_len}
use Rattle.std.proofs.lemmas.Bool.{cases_eq, eqb-true, eq-eqb, ne_eqb, or_from, and_right}
use Rattle.std.proofs.lemmas.Option.{unwrap_or-slice_get}
use Rattle.std.proofs.lemmas.List.{length-map, length-set, get_or-set_same, get_or-set_other, at_drop_more, at_drop_all}
use Rattle.std.proofs.lemmas.List.{get_or_default, same_lists, get_or-map}
use Rattle.std.proofs.lemmas.List.Elements.{filter_passes}
use Rattle.std.proofs.lemmas.Slice.Zip.{length-zip, get_or-zip}
use Rattle.admit_core.proofs.Plain.{map_same, any-filter}
use Rattle.admit_core.specs.declared.dossier.Wish.{Wish}
use Rattle.admit_core.specs.declared.state.Mark.{Mark}
use Rattle.admit_core.specs.Lists.{is_among}
use Rattle.admit_core.specs.DossierRows.{DossierRows, candidate_of}
use Rattle.admit_core.specs.declared.state.Status.TheVariants.{Refused, Quit}
use Rattle.admit_core.specs.declared.state.Stamp.{Stamp}
use Rattle.admit_core.specs.State.{State, entries, with_mark_at, with_marks, is_live, is_waiting, changed_to}
use Rattle.admit_core.specs.Answers.{refuse_live, quit_all}
use Rattle.admit_core.specs.OwnWishes.{own_places}
use Rattle.day_state.specs.Kept.{mark_in, wish_in}
use Rattle.day_state.specs.declared.mark.OwnChange.TheVariants.{RefuseLive, QuitOpen}
use Rattle.day_state.specs.Along.{change_along, change_own, changed_by}
use Rattle.day_state.proofs.Places.{candidate_in}
use Rattle.day_state.proofs.Change.{own_within}

-- no number stands twice
abbrev pub Apart : List ℕ → Type 0
Apart [] = Unit {0}
Apart (k ∷ ks) = (is_among k ks ≡ false) × Apart ks

not_below : (q : ℕ → Bool) (k a n : ℕ) → k < a → list_any (λ x. q x && nat_eq k x) (range_with_len a n) ≡ false
not_below q k a zero lt = refl
not_below q k a (suc n) lt =
    or_from (q a && nat_eq k a) (list_any (λ x. q x && nat_eq k x) (range_with_len (a + 1) n))
    (and_right (q a) (nat_eq k a) (ne_eqb k a (λ e. omega arith)))
    (not_below q k (a + 1) n (omega arith))

apart_step : (b : Bool) (a : ℕ) (xs : List ℕ) → is_among a xs ≡ false → Apart xs → Apart (cond b (a ∷ xs) xs)
apart_step true a xs none rest = (none, rest)
apart_step false a xs none rest = rest

apart-filter : (q : ℕ → Bool) (a n : ℕ) → Apart (filter q (range_with_len a n))
apart-filter q a zero = tt
apart-filter q a (suc n) =
    apart_step (q a) a (filter q (range_with_len (a + 1) n))
    (any-filter (nat_eq a) q (range_with_len (a + 1) n) ∙ not_below q a (a + 1) n (omega arith))
    (apart-filter q (a + 1) n)

and_true : (b : Bool) → ((b && true) || false) ≡ b
and_true true = refl
and_true false = refl

in_range : (q : ℕ → Bool) (j a n : ℕ) → a ≤ j → j < a + n → list_any (λ x. q x && nat_eq j x) (range_with_len a n) ≡ q j
in_range q j a zero le lt = absurd (omega arith)
in_range q j a (suc n) le lt =
    elim (cases_eq j a) [
      | inl same ↦ rw (← same, eq-eqb j j refl, not_below q j (j + 1) n (omega arith)) (and_true (q j))
      | inr other ↦ rw (ne_eqb j a other, and_right (q a) false refl)
          (in_range q j (a + 1) n (omega arith) (omega arith))
    ]

pub among-filter : (q : ℕ → Bool) (j n : ℕ) → j < n → is_among j (filter q (range_with_len 0 n)) ≡ q j
among-filter q j n lt = any-filter (nat_eq j) q (range_with_len 0 n) ∙ in_range q j 0 n (omega arith) (omega arith)

-- a change leaves the dossier and the number of marks
pub along_dossier : (f : Wish → Mark → Mark) (ks : List ℕ) (s : State) → (change_along f ks s).dossier ≡ s.dossier
along_dossier f [] s = refl
along_dossier f (k ∷ ks) s = along_dossier f ks (with_mark_at s k (f (wish_in s.dossier.wishes k) (mark_in s.marks k)))

pub along_long : (f : Wish → Mark → Mark) (ks : List ℕ) (s : State)
    → length (change_along f ks s).marks ≡ length s.marks
along_long f [] s = refl
along_long f (k ∷ ks) s =
    let m = f (wish_in s.dossier.wishes k) (mark_in s.marks k) in
    along_long f ks (with_mark_at s k m) ∙ length-set s.marks k m

pub mark_in-set_same : (ms : List Mark) (k : ℕ) (m : Mark) → k < length ms → mark_in (set ms k m) k ≡ m
mark_in-set_same ms k m lt = unwrap_or-slice_get (set ms k m) k (mark_in [] 0)
    ∙ get_or-set_same ms k m (mark_in [] 0) lt

pub mark_in-set_other : (ms : List Mark) (k j : ℕ) (m : Mark) → (j ≡ k → ⊥) → mark_in (set ms k m) j ≡ mark_in ms j
mark_in-set_other ms k j m ne =
    unwrap_or-slice_get (set ms k m) j (mark_in [] 0) ∙ get_or-set_other ms k j m (mark_in [] 0) ne
    ∙ sym (unwrap_or-slice_get ms j (mark_in [] 0))

-- the mark at a place after the changes
pub along_at : (f : Wish → Mark → Mark) (ks : List ℕ) (s : State) → Apart ks → All (λ k. k < length s.marks) ks
    → (j : ℕ)
    → mark_in (change_along f ks s).marks j
    ≡ (if is_among j ks then f (wish_in s.dossier.wishes j) (mark_in s.marks j) else mark_in s.marks j)
along_at f [] s apart within j = refl
along_at f (k ∷ ks) s apart within j =
    let m = f (wish_in s.dossier.wishes k) (mark_in s.marks k) in
    let next = with_mark_at s k m in
    let k_in : k < length s.marks = within 0 0 (omega arith) in
    let rest = along_at f ks next apart.1 (λ i d lt. rw (length-set s.marks k m) (within (suc i) d (omega arith))) j in
    elim (cases_eq j k) [
      | inl same ↦ rw (same, eq-eqb k k refl) (rw (same, apart.0) at rest ∙ mark_in-set_same s.marks k m k_in)
      | inr other ↦ rw (ne_eqb j k other) (rw (mark_in-set_other s.marks k j m other) at rest)
    ]

-- a change of all marks by place
with_marks_at : (f : Wish → Mark → Mark) (s : State) → length s.marks ≡ length s.dossier.wishes → (j : ℕ) (d : Mark)
    → j < length s.marks
    → get_or (with_marks s f).marks j d ≡ f (wish_in s.dossier.wishes j) (mark_in s.marks j)
with_marks_at f s long j d lt =
    let ws = s.dossier.wishes in
    let ms = s.marks in
    let e : Wish × Mark = (wish_in [] 0, mark_in [] 0) in
    let g = λ (x : Wish × Mark). f x.0 x.1 in
    get_or-map g (entries s) j e d (omega (arith, length-zip ws ms))
    ∙ ap g (get_or-zip ws ms j e (omega arith) lt)
    ∙ rw (unwrap_or-slice_get ws j (wish_in [] 0), unwrap_or-slice_get ms j (mark_in [] 0)) refl

abbrev made : DossierRows → List Mark → State
made d marks = record { dossier = d; marks = marks }

pub same_state : (s t : State) → s.dossier ≡ t.dossier → s.marks ≡ t.marks → s ≡ t
same_state s t a b = let e : made s.dossier s.marks ≡ made t.dossier t.marks = rw (a, b) refl in e

-- two lists of marks that are equal by place
pub same_marks : (xs ys : List Mark) → length xs ≡ length ys → ((k : ℕ) → k < length xs → mark_in xs k ≡ mark_in ys k)
    → xs ≡ ys
same_marks xs ys long same =
    same_lists xs ys long (λ k d lt.
    let b = mark_in [] 0 in
    get_or_default xs k d b lt ∙ sym (unwrap_or-slice_get xs k b) ∙ same k lt ∙ unwrap_or-slice_get ys k b
    ∙ get_or_default ys k b d (omega (arith, long)))

pub length-with_marks : (f : Wish → Mark → Mark) (s : State) → length s.marks ≡ length s.dossier.wishes
    → length (with_marks s f).marks ≡ length s.marks
length-with_marks f s long =
    let g = λ (x : Wish × Mark). f x.0 x.1 in
    omega (arith, length-map (entries s) g, length-zip s.dossier.wishes s.marks)

pub mark_in-with_marks : (f : Wish → Mark → Mark) (s : State) → length s.marks ≡ length s.dossier.wishes → (j : ℕ)
    → j < length s.marks
    → mark_in (with_marks s f).marks j ≡ f (wish_in s.dossier.wishes j) (mark_in s.marks j)
mark_in-with_marks f s long j lt = unwrap_or-slice_get (with_marks s f).marks j (mark_in [] 0)
    ∙ with_marks_at f s long j (mark_in [] 0) lt

-- the law of the loops: changes along a candidate's own wishes
pub along_own : (f : Wish → Mark → Mark) (c : ℕ) (s : State) → length s.marks ≡ length s.dossier.wishes
    → change_along f (own_places s.dossier c) s ≡ change_own f c s
along_own f c s long =
    let d = s.dossier in
    let n = length d.wishes in
    let q = λ (k : ℕ). candidate_of d k == c in
    let g = λ (w : Wish) (m : Mark). if w.candidate == c then f w m else m in
    let ks = own_places d c in
    same_state (change_along f ks s) (change_own f c s) (along_dossier f ks s)
    (same_marks (change_along f ks s).marks (change_own f c s).marks
    (along_long f ks s ∙ sym (length-with_marks g s long)) (λ j lt.
    let j_in : j < length s.marks = omega (arith, along_long f ks s) in
    along_at f ks s (apart-filter q 0 n) (λ k e k_lt. rw long (own_within d c k e k_lt)) j
    ∙ rw (among-filter q j n (omega arith), candidate_in d.wishes j) refl
    ∙ sym (mark_in-with_marks g s long j j_in)))

-- so far along the way: what is left of it leads to the same end
pub record IsOnWay (f : Wish → Mark → Mark) (start now : State) (own : List ℕ) (i : ℕ) : Type 0 where
  pub dossier : now.dossier ≡ start.dossier
  pub long : length now.marks ≡ length start.marks
  pub rest : change_along f (drop i own) now ≡ change_along f own start

pub on_way_none : (f : Wish → Mark → Mark) (s : State) (own : List ℕ) → IsOnWay f s s own 0
on_way_none f s own = record { dossier = refl; long = refl; rest = refl }

pub on_way_more : (f : Wish → Mark → Mark) (start now : State) (own : List ℕ) (i : ℕ) → IsOnWay f start now own i
    → i < length own
    → let k = slice_index own i in
    IsOnWay f start (with_mark_at now k (f (wish_in now.dossier.wishes k) (mark_in now.marks k))) own (i + 1)
on_way_more f start now own i way lt =
    let k = slice_index own i in
    let m = f (wish_in now.dossier.wishes k) (mark_in now.marks k) in
    record {
      dossier = way.dossier;
      long = length-set now.marks k m ∙ way.long;
      rest = sym (at_drop_more (λ (ks : List ℕ). change_along f ks now) own i 0 lt) ∙ way.rest;
    }

pub on_way_all : (f : Wish → Mark → Mark) (start now : State) (c i : ℕ)
    → length start.marks ≡ length start.dossier.wishes
    → IsOnWay f start now (own_places start.dossier c) i → length (own_places start.dossier c) ≤ i
    → now ≡ change_own f c start
on_way_all f start now c i long way le =
    let own = own_places start.dossier c in
    sym (at_drop_all (λ (ks : List ℕ). change_along f ks now) own i le) ∙ way.rest ∙ along_own f c start long

-- the place that the loop is at
pub own_at : (d : DossierRows) (c i : ℕ) → i < length (own_places d c)
    → (slice_index (own_places d c) i < length d.wishes) × (candidate_of d (slice_index (own_places d c) i) ≡ c)
own_at d c i lt =
    let q = λ (k : ℕ). candidate_of d k == c in
    let k = slice_index (own_places d c) i in
    (own_within d c i 0 lt, eqb-true (candidate_of d k) c (filter_passes q (range_with_len 0 (length d.wishes)) i 0 lt))

-- the next place of a loop along a candidate's wishes, as a change of its mark asks
pub on_way_place : (f : Wish → Mark → Mark) (start now : State) (own : List ℕ) (c i : ℕ)
    → length start.marks ≡ length start.dossier.wishes
    → own ≡ own_places start.dossier c → IsOnWay f start now own i → i < length own
    → (slice_index own i < length now.marks)
    × (own ≡ own_places now.dossier (candidate_of now.dossier (slice_index own i)))
on_way_place f start now own c i long is way lt =
    let at = own_at start.dossier c i (rw (← is) lt) in
    let within : slice_index own i < length start.dossier.wishes = rw is at.0 in
    let same : candidate_of start.dossier (slice_index own i) ≡ c = rw is at.1 in
    (omega (arith, within, long, way.long), rw (way.dossier, same) is)

-- the end of such a loop
pub on_way_end : (f : Wish → Mark → Mark) (start now : State) (own : List ℕ) (c i : ℕ)
    → length start.marks ≡ length start.dossier.wishes
    → own ≡ own_places start.dossier c → IsOnWay f start now own i → length own ≤ i → now ≡ change_own f c start
on_way_end f start now own c i long is way le = on_way_all f start now c i long (rw is at way) (rw is at le)

pub with_marks_same : (f g : Wish → Mark → Mark) (s : State) → ((w : Wish) (m : Mark) → f w m ≡ g w m)
    → with_marks s f ≡ with_marks s g
with_marks_same f g s same =
    same_state (with_marks s f) (with_marks s g) refl
    (map_same (λ (x : Wish × Mark). f x.0 x.1) (λ (x : Wish × Mark). g x.0 x.1) (λ x. same x.0 x.1) (entries s))

own_first : (own test : Bool) (m n : Mark)
    → (if own then (if test then n else m) else m) ≡ (if test && own then n else m)
own_first true true m n = refl
own_first true false m n = refl
own_first false true m n = refl
own_first false false m n = refl

pub refuse_live_is : (s : State) (c : ℕ) (stamp : Stamp)
    → change_own (changed_by RefuseLive stamp) c s ≡ refuse_live s c stamp
refuse_live_is s c stamp =
    with_marks_same (λ w m. if w.candidate == c then changed_by RefuseLive stamp w m else m)
    (λ w m. if is_live m && (w.candidate == c) then changed_to Refused stamp m else m) s
    (λ w m. own_first (w.candidate == c) (is_live m) m (changed_to Refused stamp m))

pub quit_all_is : (s : State) (c : ℕ) (stamp : Stamp) → change_own (changed_by QuitOpen stamp) c s ≡ quit_all s c stamp
quit_all_is s c stamp =
    with_marks_same (λ w m. if w.candidate == c then changed_by QuitOpen stamp w m else m)
    (λ w m. if (is_live m || is_waiting m) && (w.candidate == c) then changed_to Quit stamp m else m) s
    (λ w m. own_first (w.candidate == c) (is_live m || is_waiting m) m (changed_to Quit stamp m))
