-- Lists that have wishes of the same candidates.
use Rattle.std.proofs.Common.{ℕ, ◌<◌, ◌≡◌, Bool, true, List, [], ◌∷◌, filter, map, length, get_or, sym}
use Rattle.std.proofs.Common.{◌+◌, ◌∙◌, ap, arith, nat_eq, inl, inr, eqb, refl, subst}
use Rattle.std.specs.Prelude.{All, Contains, ◌==◌, slice_index}
use Rattle.std.specs.List.{list_any, dedup, range_with_len}
use Rattle.std.specs.List.Sorted.{IsPermutation, IsSorted}
use Rattle.std.specs.Cmp.{both_ways}
use Rattle.std.specs.Ordering.{nat_cmp}
use Rattle.std.proofs.Math.ListN.{set}
use Rattle.std.proofs.Math.Seq.{map-set_same}
use Rattle.std.proofs.lemmas.List.{get_or-set_other, get_or-set_same, length-set}
use Rattle.std.proofs.lemmas.List.Elements.{All-cons}
use Rattle.std.proofs.lemmas.List.Filters.{All-dedup}
use Rattle.std.proofs.lemmas.List.Folds.{Any-from_list_any, list_any_at}
use Rattle.std.proofs.lemmas.List.Kept.{AllPairs-from_increasing, Contains-dedup_nat, Contains-from_dedup}
use Rattle.std.proofs.lemmas.Map.Keys.{IsStrictlyIncreasing-dedup}
use Rattle.std.proofs.lemmas.List.Sorted.{All-permutation, list_any-IsPermutation}
use Rattle.std.proofs.lemmas.Bool.{cases_Bool, cases_eq, cases_lt, eq-eqb, eqb-true, false≢true}
use Rattle.admit_core.specs.OwnWishes.{own_places}
use Rattle.day_state.proofs.Change.{own_within}
use Rattle.admit_core.proofs.Plain.{any-map}
use Rattle.admit_core.specs.DossierRows.{DossierRows, candidate_of}
use Rattle.admit_core.specs.Lists.{is_among}
use Rattle.admit_core.specs.State.{State, changed_to}
use Rattle.admit_core.specs.declared.state.Status.TheVariants.{Offered}
use Rattle.day_state.proofs.Along.{along_dossier, among-filter}
use Rattle.desk_day.specs.DayPasses.{offered_along}
use Rattle.day_state.specs.Others.{SameOthers}
use Rattle.admit_core.specs.declared.state.Stamp.{Stamp}
use Rattle.desk_day.specs.DayPlaces.{AreWishesOf}
use Rattle.desk_day.specs.Once.{AreOfOneEach, NamesSame, first_own}

any_in : (p : ℕ → Bool) (xs ys : List ℕ) → ((x : ℕ) → Contains xs x → Contains ys x) → list_any p xs ≡ true
    → list_any p ys ≡ true
any_in p xs ys in_both found =
    let (k, x, within, at, passes) = Any-from_list_any p xs found in
    let there = in_both x (k, within, at) in
    list_any_at p ys there.0 x there.1 (ap p there.2 ∙ passes)

any_dedup : (p : ℕ → Bool) (xs : List ℕ) → list_any p (dedup eqb xs) ≡ list_any p xs
any_dedup p xs =
    both_ways (list_any p (dedup eqb xs)) (list_any p xs)
    (any_in p (dedup eqb xs) xs (λ x. Contains-from_dedup eqb xs x))
    (any_in p xs (dedup eqb xs) (λ x. Contains-dedup_nat xs x))

-- wishes of the same candidates, put in order, each once
pub once_each : (d : DossierRows) (old firsts sorted once : List ℕ) → NamesSame d old firsts
    → IsPermutation firsts sorted
    → once ≡ dedup eqb sorted → NamesSame d old once
once_each d old firsts sorted once names moved once_is =
    let n = length d.wishes in
    let P = λ (k : ℕ). k < n in
    record {
      within = rw once_is (All-dedup eqb P sorted (All-permutation P firsts sorted moved names.within));
      same = λ c.
          let p = λ (k : ℕ). nat_eq c (candidate_of d k) in
          any-map (nat_eq c) (candidate_of d) once
          ∙ ap (list_any p) once_is
          ∙ any_dedup p sorted
          ∙ sym (list_any-IsPermutation p firsts sorted moved)
          ∙ sym (any-map (nat_eq c) (candidate_of d) firsts)
          ∙ names.same c;
    }

-- a candidate's own wishes are theirs
pub own_same : (d : DossierRows) (c : ℕ) (own : List ℕ) → own ≡ own_places d c → (k : ℕ) → k < length own
    → (get_or own k 0 < length d.wishes) × (candidate_of d (get_or own k 0) ≡ c)
own_same d c own is k lt =
    let n = length d.wishes in
    let q = λ (j : ℕ). candidate_of d j == c in
    let P = λ (l : List ℕ). k < length l in
    let in_own : k < length (own_places d c) = subst P is lt in
    let all : All (λ j. q j ≡ true) (own_places d c) = kept_pass q (range_with_len 0 n) in
    rw is (own_within d c k 0 in_own, eqb-true (candidate_of d (get_or (own_places d c) k 0)) c (all k 0 in_own))
  where
    kept_pass : (q : ℕ → Bool) (xs : List ℕ) → All (λ j. q j ≡ true) (filter q xs)
    kept_pass q [] = λ k d lt. absurd (omega (arith, lt))
    kept_pass q (x ∷ xs) =
        elim (cases_Bool (q x)) [
          | inl kept ↦ rw kept (All-cons (λ j. q j ≡ true) x (filter q xs) kept (kept_pass q xs))
          | inr dropped ↦ rw dropped (kept_pass q xs)
        ]

-- a candidate of a wish has one
pub some_own : (d : DossierRows) (k : ℕ) (own : List ℕ) → own ≡ own_places d (candidate_of d k)
    → k < length d.wishes → 0 < length own
some_own d k [] is lt =
    let q = λ (j : ℕ). candidate_of d j == candidate_of d k in
    absurd (false≢true (ap (is_among k) is ∙ among-filter q k (length d.wishes) lt ∙ eq-eqb (candidate_of d k) _ refl))
some_own d k (j ∷ own) is lt = omega arith

-- one that is the first wish of its own candidate
pub first_itself : (d : DossierRows) (k first : ℕ) → first ≡ first_own d k → candidate_of d first ≡ candidate_of d k
    → first ≡ first_own d first
first_itself d k first is same = is ∙ ap (λ c. slice_index (own_places d c) 0) (sym same)

-- what the walk to the first wishes has left, of which so many are led there
pub record AreLed (d : DossierRows) (i : ℕ) (old now : List ℕ) : Type 0 where
  pub within : AreWishesOf d now
  pub candidates : map (candidate_of d) now ≡ map (candidate_of d) old
  pub long : length now ≡ length old
  pub firsts : (k e : ℕ) → k < i → k < length now → get_or now k e ≡ first_own d (get_or now k e)

pub led_none : (d : DossierRows) (places : List ℕ) → AreWishesOf d places → AreLed d 0 places places
led_none d places within = record {
  within = within;
  candidates = refl;
  long = refl;
  firsts = λ k e none. absurd (omega (arith, none));
}

pub led_one : (d : DossierRows) (old now next : List ℕ) (i first : ℕ) → AreLed d i old now → i < length now
    → first < length d.wishes → candidate_of d first ≡ candidate_of d (get_or now i 0)
    → first ≡ first_own d first → next ≡ set now i first
    → AreLed d (i + 1) old next
led_one d old now next i first led lt in_range same itself is = record {
  within = λ k e k_in. elim (cases_eq k i) [
    | inl here ↦
        let read : get_or next k e ≡ first = ap (λ (l : List ℕ). get_or l k e) is
        ∙ ap (λ j. get_or (set now i first) j e) here
        ∙ get_or-set_same now i first e lt in
        rw read in_range
    | inr other ↦
        let k_now : k < length now = omega (arith, k_in, ap (λ (l : List ℕ). length l) is, length-set now i first) in
        let read : get_or next k e ≡ get_or now k e =
        ap (λ (l : List ℕ). get_or l k e) is ∙ get_or-set_other now i k first e other in
        rw read (led.within k e k_now)
  ];
  candidates = ap (map (candidate_of d)) is ∙ map-set_same (candidate_of d) now i first 0 same ∙ led.candidates;
  long = ap (λ (l : List ℕ). length l) is ∙ length-set now i first ∙ led.long;
  firsts = λ k e k_lt k_in. elim (cases_eq k i) [
    | inl here ↦
        let read : get_or next k e ≡ first = ap (λ (l : List ℕ). get_or l k e) is
        ∙ ap (λ j. get_or (set now i first) j e) here
        ∙ get_or-set_same now i first e lt in
        rw read itself
    | inr other ↦
        let k_now : k < length now = omega (arith, k_in, ap (λ (l : List ℕ). length l) is, length-set now i first) in
        let read : get_or next k e ≡ get_or now k e =
        ap (λ (l : List ℕ). get_or l k e) is ∙ get_or-set_other now i k first e other in
        let k_done : k < i = elim (cases_lt k i) [
          | inl below ↦ below
          | inr past ↦ absurd (other (omega (arith, k_lt, past)))
        ] in
        rw read (led.firsts k e k_done k_now)
  ];
}

pub led_names : (d : DossierRows) (i : ℕ) (old now : List ℕ) → AreLed d i old now → NamesSame d old now
led_names d i old now led = record { within = led.within; same = λ c. ap (is_among c) led.candidates }

-- first wishes, put in order, each once: no two are of one candidate
pub of_one_each : (d : DossierRows) (firsts sorted once : List ℕ) → All (λ k. k ≡ first_own d k) firsts
    → IsPermutation firsts sorted → IsSorted nat_cmp sorted → once ≡ dedup eqb sorted → AreOfOneEach d once
of_one_each d firsts sorted once are moved in_order once_is =
    let P = λ (k : ℕ). k ≡ first_own d k in
    let all = All-dedup eqb P sorted (All-permutation P firsts sorted moved are) in
    let rises = AllPairs-from_increasing (dedup eqb sorted) (IsStrictlyIncreasing-dedup sorted in_order) in
    rw once_is (λ i j e lt within same.
    omega (
      arith,
      rises i j e lt within,
      all i e (omega (arith, lt, within)),
      all j e within,
      ap (λ c. slice_index (own_places d c) 0) same,
    ))

-- and in the state that offers lead to
pub names_along : (s : State) (offers : List ℕ) (stamp : Stamp) (old new : List ℕ) → NamesSame s.dossier old new
    → NamesSame (offered_along offers stamp s).dossier old new
names_along s offers stamp old new names =
    let P = λ (d : DossierRows). NamesSame d old new in
    subst P (sym (along_dossier (λ w m. changed_to Offered stamp m) offers s)) names

-- whoever has none of the wishes of one list has none of the other
pub others_stay : (s t : State) (old new : List ℕ) → NamesSame s.dossier old new → SameOthers old s t
    → SameOthers new s t
others_stay s t old new names others c none = others c (sym (names.same c) ∙ none)
