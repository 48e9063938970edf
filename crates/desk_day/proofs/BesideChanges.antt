-- What changed, looked for among all wishes of some candidates alone.
use Rattle.std.proofs.Common.{ℕ, zero, suc, ◌+◌, ◌≤◌, ◌<◌, ◌≡◌, Bool, true, false, ◌&&◌, ◌||◌, List, [], ◌∷◌, ◌++◌, map}
use Rattle.std.proofs.Common.{length, take, get_or, inl, inr, refl, sym, ◌∙◌, ap, arith, nat_eq, filter, zip, eqb}
use Rattle.std.specs.Prelude.{◌==◌, All}
use Rattle.std.specs.List.{enumerate_from, range_with_len, flat_map, dedup}
use Rattle.std.specs.List.Sorted.{IsPermutation, IsSorted}
use Rattle.std.specs.Ordering.{nat_cmp}
use Rattle.std.proofs.lemmas.Bool.{cases_Bool, eqb-true, eq-eqb, false≢true}
use Rattle.std.proofs.lemmas.List.{flat_map_more, take_more, take_all}
use Rattle.std.proofs.lemmas.List.Elements.{All-filter}
use Rattle.std.proofs.lemmas.List.Concat.{flat_map-cons}
use Rattle.std.proofs.lemmas.List.Folds.{list_any-append}
use Rattle.std.proofs.lemmas.List.FromFn.{get_or-range_with_len, length-range_with_len}
use Rattle.std.proofs.lemmas.Map.Views.{any-filter_same}
use Rattle.admit_core.specs.declared.state.Mark.{Mark}
use Rattle.admit_core.specs.declared.state.Status.{Status}
use Rattle.admit_core.specs.declared.state.Change.{Change}
use Rattle.admit_core.specs.DossierRows.{DossierRows, candidate_of}
use Rattle.admit_core.specs.Lists.{is_among}
use Rattle.admit_core.specs.OwnWishes.{own_places}
use Rattle.admit_core.specs.State.{State, status_number}
use Rattle.day_state.specs.Kept.{mark_in}
use Rattle.day_state.specs.Others.{SameOthers}
use Rattle.linked_demand.proofs.Listing.{in_order_once}
use Rattle.desk_day.specs.Changes.{is_answered_change, answered_changes, wishes_beside}
use Rattle.desk_day.proofs.ChangedMarks.{change_of, is_answered}
use Rattle.desk_day.proofs.Listed.{listed, listed_some, listed_none}

or_and : (r t u : Bool) → ((t && r) || (u && r)) ≡ ((t || u) && r)
or_and true true u = refl
or_and true false u = refl
or_and false true true = refl
or_and false true false = refl
or_and false false true = refl
or_and false false false = refl

-- the own wishes of the candidates of some wishes, one candidate after another
among_own : (d : DossierRows) (places : List ℕ) (q : ℕ)
    → is_among q (flat_map (λ k. own_places d (candidate_of d k)) places)
    ≡ (is_among (candidate_of d q) (map (candidate_of d) places) && is_among q (range_with_len 0 (length d.wishes)))
among_own d [] q = refl
among_own d (k ∷ ks) q =
    let c = candidate_of d q in
    let x = candidate_of d k in
    let all = range_with_len 0 (length d.wishes) in
    let first : is_among q (own_places d x) ≡ ((c == x) && is_among q all) =
    any-filter_same (nat_eq q) (λ j. candidate_of d j == x) (c == x)
    (λ j t. ap (λ (i : ℕ). candidate_of d i == x) (sym (eqb-true q j t)))
    all in
    let own = λ (i : ℕ). own_places d (candidate_of d i) in
    ap (is_among q) (flat_map-cons own k ks)
    ∙ list_any-append (nat_eq q) (own_places d x) (flat_map own ks)
    ∙ rw (first, among_own d ks q) (or_and (is_among q all) (c == x) (is_among c (map (candidate_of d) ks)))

among_beside : (d : DossierRows) (places : List ℕ) (q : ℕ)
    → is_among q (wishes_beside d places) ≡
    (is_among (candidate_of d q) (map (candidate_of d) places) && is_among q (range_with_len 0 (length d.wishes)))
among_beside d places q =
    let t = λ (j : ℕ). is_among (candidate_of d j) (map (candidate_of d) places) in
    any-filter_same (nat_eq q) t (t q) (λ j e. ap t (sym (eqb-true q j e))) (range_with_len 0 (length d.wishes))

-- put in order, each once
pub in_order : (d : DossierRows) (places own sorted once : List ℕ)
    → own ≡ flat_map (λ k. own_places d (candidate_of d k)) places
    → IsPermutation own sorted → IsSorted nat_cmp sorted → once ≡ dedup eqb sorted → once ≡ wishes_beside d places
in_order d places own sorted once own_is moved rises once_is =
    in_order_once (λ k. is_among (candidate_of d k) (map (candidate_of d) places)) (length d.wishes) own sorted once
    (λ q. ap (is_among q) own_is ∙ among_own d places q ∙ sym (among_beside d places q)) moved rises once_is

-- whether the wish at a place changed, and its change
abbrev pub changed_at : List Mark → List Mark → ℕ → Bool
changed_at ms ns k = is_answered_change (mark_in ms k).status (mark_in ns k).status

abbrev pub change_at : List Mark → ℕ → Change
change_at ns k = record { wish = k; status = (mark_in ns k).status }

by_place : (test : ℕ → Bool) (give : ℕ → Change) (a : ℕ) (ms ns : List Mark) → length ns ≡ length ms
    → ((k : ℕ) → k < length ms → test (a + k) ≡ changed_at ms ns k)
    → ((k : ℕ) → k < length ms → give (a + k) ≡ record { wish = a + k; status = (mark_in ns k).status })
    → map change_of (filter is_answered (enumerate_from a (zip ms ns)))
    ≡ map give (filter test (range_with_len a (length ms)))
by_place test give a [] ns long tests gives = refl
by_place test give a (m ∷ ms) [] long tests gives = absurd (omega arith)
by_place test give a (m ∷ ms) (n ∷ ns) long tests gives =
    let none : a + 0 ≡ a = omega arith in
    let here : test a ≡ is_answered_change m.status n.status = rw none at (tests 0 (omega arith)) in
    let given : give a ≡ record { wish = a; status = n.status } = rw none at (gives 0 (omega arith)) in
    let rest =
    by_place test give (a + 1) ms ns (omega arith)
    (λ k lt. let on : a + suc k ≡ a + 1 + k = omega arith in rw on at (tests (suc k) (omega arith)))
    (λ k lt. let on : a + suc k ≡ a + 1 + k = omega arith in rw on at (gives (suc k) (omega arith))) in
    elim (cases_Bool (is_answered_change m.status n.status)) [
      | inl passes ↦ rw (here, passes, given) (ap (λ (l : List Change). record { wish = a; status = n.status } ∷ l)
          rest)
      | inr fails ↦ rw (here, fails) rest
    ]

-- a stronger test asks only among those that pass a weaker one
asked_within : (p q : ℕ → Bool) (a n : ℕ) → ((k : ℕ) → k < a + n → p k ≡ true → q k ≡ true)
    → filter p (filter q (range_with_len a n)) ≡ filter p (range_with_len a n)
asked_within p q a zero weaker = refl
asked_within p q a (suc n) weaker =
    let rest = asked_within p q (a + 1) n (λ k lt. weaker k (omega arith)) in
    elim (cases_Bool (p a)) [
      | inl passes ↦ rw (weaker a (omega arith) passes, passes) (ap (λ (l : List ℕ). a ∷ l) rest)
      | inr fails ↦ elim (cases_Bool (q a)) [
        | inl kept ↦ rw (kept, fails) rest
        | inr dropped ↦ rw (dropped, fails) rest
      ]
    ]

same_not_changed : (m : Mark) → is_answered_change m.status m.status ≡ false
same_not_changed m = rw (eq-eqb (status_number m.status) (status_number m.status) refl) refl

-- THE LIST: where all others have the same marks, the changes among these candidates' wishes are all changes
pub all_beside : (s t : State) (places own : List ℕ) → length s.marks ≡ length s.dossier.wishes
    → length t.marks ≡ length s.dossier.wishes
    → SameOthers places s t → own ≡ wishes_beside s.dossier places
    → map (change_at t.marks) (filter (changed_at s.marks t.marks) own) ≡ answered_changes s t
all_beside s t places own long long_too others own_is =
    let ms = s.marks in
    let ns = t.marks in
    let d = s.dossier in
    let n = length d.wishes in
    let q = λ (k : ℕ). is_among (candidate_of d k) (map (candidate_of d) places) in
    let weaker : (k : ℕ) → k < 0 + n → changed_at ms ns k ≡ true → q k ≡ true = λ k lt t_changed.
    elim (cases_Bool (q k)) [
      | inl among ↦ among
      | inr none ↦
          let same : mark_in ms k ≡ mark_in ns k = (others (candidate_of d k) none).each k (omega arith) refl in
          absurd (false≢true (sym (same_not_changed (mark_in ns k)) ∙ rw same at t_changed))
    ] in
    let no_shift : (k : ℕ) → 0 + k ≡ k = λ k. omega arith in
    ap (λ (l : List ℕ). map (change_at ns) (filter (changed_at ms ns) l)) own_is
    ∙ ap (map (change_at ns)) (asked_within (changed_at ms ns) q 0 n weaker)
    ∙ ap (λ (i : ℕ). map (change_at ns) (filter (changed_at ms ns) (range_with_len 0 i))) (sym long)
    ∙ sym (by_place (changed_at ms ns) (change_at ns) 0 ms ns (long_too ∙ sym long)
    (λ k lt. ap (changed_at ms ns) (no_shift k))
    (λ k lt. let e : 0 + k ≡ k = no_shift k in rw e refl))

-- THE WALKS, as the loops have them: one more candidate's own wishes
abbrev pub own_so_far : DossierRows → List ℕ → ℕ → List ℕ
own_so_far d places i = flat_map (λ k. own_places d (candidate_of d k)) (take i places)

pub own_more : (d : DossierRows) (places : List ℕ) (i : ℕ) (now own next : List ℕ) → now ≡ own_so_far d places i
    → i < length places
    → own ≡ own_places d (candidate_of d (get_or places i 0)) → next ≡ now ++ own → next ≡ own_so_far d places (i + 1)
own_more d places i now own next so_far lt own_is next_is =
    let f = λ (k : ℕ). own_places d (candidate_of d k) in
    next_is ∙ rw (so_far, own_is) (flat_map_more f [] (take i places) (get_or places i 0)
    ∙ ap (flat_map f) (sym (take_more places i 0 lt)))

pub own_all : (d : DossierRows) (places : List ℕ) (i : ℕ) (now : List ℕ) → now ≡ own_so_far d places i
    → length places ≤ i
    → now ≡ flat_map (λ k. own_places d (candidate_of d k)) places
own_all d places i now so_far le = so_far ∙ ap (flat_map (λ (k : ℕ). own_places d (candidate_of d k)))
    (take_all i places le)

pub beside_within : (d : DossierRows) (places own : List ℕ) (i : ℕ) → own ≡ wishes_beside d places → i < length own
    → get_or own i 0 < length d.wishes
beside_within d places own i own_is lt =
    let n = length d.wishes in
    let all : All (λ (k : ℕ). k < n) (range_with_len 0 n) = λ k e within.
    let in_range : k < n = omega (arith, within, length-range_with_len 0 n) in
    rw (get_or-range_with_len 0 n k e in_range) (omega arith) in
    rw own_is (All-filter (λ k. is_among (candidate_of d k) (map (candidate_of d) places)) (λ (k : ℕ). k < n)
    (range_with_len 0 n) all i 0
    (rw own_is at lt))

-- and one more of their wishes
pub beside_some : (ms ns : List Mark) (own : List ℕ) (i : ℕ) (x y : Status) (now : List Change)
    → now ≡ listed (change_at ns) (changed_at ms ns) own i
    → i < length own → x ≡ (mark_in ms (get_or own i 0)).status → y ≡ (mark_in ns (get_or own i 0)).status
    → is_answered_change x y ≡ true
    → now ++ record { wish = get_or own i 0; status = y } ∷ [] ≡ listed (change_at ns) (changed_at ms ns) own (i + 1)
beside_some ms ns own i x y now so_far lt x_is y_is passes =
    rw y_is (listed_some (change_at ns) (changed_at ms ns) own i 0 now so_far lt (rw (x_is, y_is) at passes))

pub beside_none : (ms ns : List Mark) (own : List ℕ) (i : ℕ) (x y : Status) (now : List Change)
    → now ≡ listed (change_at ns) (changed_at ms ns) own i
    → i < length own → x ≡ (mark_in ms (get_or own i 0)).status → y ≡ (mark_in ns (get_or own i 0)).status
    → is_answered_change x y ≡ false
    → now ≡ listed (change_at ns) (changed_at ms ns) own (i + 1)
beside_none ms ns own i x y now so_far lt x_is y_is fails =
    listed_none (change_at ns) (changed_at ms ns) own i 0 now so_far lt
    (rw (x_is, y_is) at fails)
