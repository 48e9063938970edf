-- How many wishes of a bundle are live: at first, and after a change of one mark.
use Rattle.std.proofs.Common.{ℕ, ◌+◌, ◌-◌, ◌≤◌, ◌<◌, ◌≡◌, Bool, true, false, ◌&&◌, List, [], length, map, set}
use Rattle.std.proofs.Common.{replicate, inl, inr, refl, sym, ◌∙◌, ap, subst, arith, filter, Option, Some, None, zero}
use Rattle.std.proofs.Common.{suc}
use Rattle.std.specs.Prelude.{slice_index}
use Rattle.std.specs.Option.{ForSome}
use Rattle.std.specs.List.{range_with_len}
use Rattle.std.proofs.lemmas.Bool.{cases_Bool, cases_eq, ne_eqb, eq-eqb, and_right, false≢true}
use Rattle.std.proofs.lemmas.Option.{unwrap_or-slice_get}
use Rattle.std.proofs.lemmas.List.{length-map, length-set, length-replicate, get_or-replicate, get_or-set_same}
use Rattle.std.proofs.lemmas.List.{get_or-set_other}
use Rattle.std.proofs.Math.ListN.{get_or-map}
use Rattle.std.proofs.lemmas.List.Sums.{length-filter, count_by-le-length}
use Rattle.std.proofs.lemmas.List.FromFn.{length-range_with_len}
use Rattle.admit_core.specs.declared.dossier.Wish.{Wish}
use Rattle.admit_core.specs.declared.state.Mark.{Mark}
use Rattle.admit_core.specs.DossierRows.{DossierRows}
use Rattle.admit_core.specs.State.{State, is_live, with_mark_at}
use Rattle.admit_core.specs.Validity.{IsValid, IsValidWish}
use Rattle.day_state.specs.declared.bundles.Sites.{Sites}
use Rattle.day_state.specs.declared.bundles.Sites.TheVariants.{Programmes, Schools}
use Rattle.day_state.specs.declared.numbers.BundleNumber.{BundleNumber}
use Rattle.day_state.specs.declared.numbers.BundleNumber.TheVariants.{NoSite}
use Rattle.day_state.specs.Kept.{mark_in, wish_in, waiting_mark, one_if, recount_some, state_of}
use Rattle.day_state.specs.Bundles.{site_of, is_same, number_in, bundles_of, is_shared, rank_of, number_of, number_at}
use Rattle.day_state.specs.Bundles.{count_of, all_numbers, shared_in_all, live_in_bundle, AreLiveCounts, IsBundled}
use Rattle.day_state.specs.Bundles.{KeepsCounts}
use Rattle.day_state.proofs.Counting.{here_step, there_step}
use Rattle.day_state.proofs.Numbering.{bundles_are}
use Rattle.day_state.proofs.Sharing.{rank_within, rank_apart, count_parts}
use Rattle.day_state.proofs.Along.{mark_in-set_same, mark_in-set_other}
use Rattle.day_state.proofs.Change.{Fits, one_at_most}
use Rattle.day_state.proofs.Filled.{kept_waiting}

-- two tests that agree but at k
abbrev AgreeBut : ℕ → (ℕ → Bool) → (ℕ → Bool) → Type 0
AgreeBut k p q = (j : ℕ) → (j ≡ k → ⊥) → q j ≡ p j

count_beside : (p q : ℕ → Bool) (k a n : ℕ) → k < a → AgreeBut k p q
    → length (filter q (range_with_len a n)) ≡ length (filter p (range_with_len a n))
count_beside p q k a zero lt agree = refl
count_beside p q k a (suc n) lt agree =
    let there : (a ≡ k → ⊥) = λ e. omega arith in
    let step = there_step (q a) (p a) a 0 0 (filter q (range_with_len (a + 1) n))
    (filter p (range_with_len (a + 1) n)) (agree a there)
    (ap (λ x. x + 0) (count_beside p q k (a + 1) n (omega arith) agree)) in
    omega (arith, step)

-- how many of a range pass, where the test changes at one place
pub count_turned : (p q : ℕ → Bool) (k a n : ℕ) → a ≤ k → k < a + n → AgreeBut k p q
    → length (filter q (range_with_len a n)) + one_if (p k) ≡ length (filter p (range_with_len a n)) + one_if (q k)
count_turned p q k a zero le lt agree = absurd (omega arith)
count_turned p q k a (suc n) le lt agree =
    elim (cases_eq a k) [
      | inl here ↦
          rw here
          (here_step (q k) (p k) k (filter q (range_with_len (k + 1) n)) (filter p (range_with_len (k + 1) n))
          (count_beside p q k (k + 1) n (omega arith) agree))
      | inr other ↦
          there_step (q a) (p a) a (one_if (p k)) (one_if (q k)) (filter q (range_with_len (a + 1) n))
          (filter p (range_with_len (a + 1) n)) (agree a other)
          (count_turned p q k (a + 1) n (omega arith) (omega arith) agree)
    ]

-- the wish at a place is a live one of a bundle
abbrev pub counts_in : List Mark → List (Option ℕ) → ℕ → ℕ → Bool
counts_in ms numbers b k = is_live (mark_in ms k) && is_same (Some b) (number_in numbers k)

live_turned : (ms : List Mark) (numbers : List (Option ℕ)) (b k : ℕ) (m : Mark) → k < length ms
    → live_in_bundle (set ms k m) numbers b + one_if (counts_in ms numbers b k)
    ≡ live_in_bundle ms numbers b + one_if (is_live m && is_same (Some b) (number_in numbers k))
live_turned ms numbers b k m lt =
    rw (length-set ms k m)
    (count_turned (counts_in ms numbers b) (counts_in (set ms k m) numbers b) k 0 (length ms) (omega arith)
    (omega arith) (λ j other. rw (mark_in-set_other ms k j m other) refl)
    ∙ ap (λ n. live_in_bundle ms numbers b + one_if (is_live n && is_same (Some b) (number_in numbers k)))
    (mark_in-set_same ms k m lt))

alone : (live : Bool) (o : Option ℕ) (b : ℕ) → o ≡ Some b → one_if (live && is_same (Some b) o) ≡ one_if live
alone true o b e = rw (e, eq-eqb b b refl) refl
alone false o b e = refl

elsewhere : (live : Bool) (o : Option ℕ) (b : ℕ) → (o ≡ Some b → ⊥) → one_if (live && is_same (Some b) o) ≡ 0
elsewhere live None b other = rw (and_right live false refl) refl
elsewhere live (Some c) b other = rw (ne_eqb c b (λ e. other (rw e refl)), and_right live false refl) refl

live_here : (ms : List Mark) (numbers : List (Option ℕ)) (b k : ℕ) (m : Mark) → k < length ms
    → number_in numbers k ≡ Some b
    → live_in_bundle (set ms k m) numbers b + one_if (is_live (mark_in ms k))
    ≡ live_in_bundle ms numbers b + one_if (is_live m)
live_here ms numbers b k m lt is =
    omega (
      arith,
      live_turned ms numbers b k m lt,
      alone (is_live (mark_in ms k)) (number_in numbers k) b is,
      alone (is_live m) (number_in numbers k) b is,
    )

live_elsewhere : (ms : List Mark) (numbers : List (Option ℕ)) (b k : ℕ) (m : Mark) → k < length ms
    → (number_in numbers k ≡ Some b → ⊥)
    → live_in_bundle (set ms k m) numbers b ≡ live_in_bundle ms numbers b
live_elsewhere ms numbers b k m lt other =
    omega (
      arith,
      live_turned ms numbers b k m lt,
      elsewhere (is_live (mark_in ms k)) (number_in numbers k) b other,
      elsewhere (is_live m) (number_in numbers k) b other,
    )

-- the counts where the mark is of another bundle than each of those that are counted
counts_stay : (ms : List Mark) (bundles : List (Option ℕ)) (live : List ℕ) (k : ℕ) (m : Mark)
    → AreLiveCounts ms bundles live → k < length ms
    → ((b : ℕ) → is_shared bundles b ≡ true → number_in bundles k ≡ Some b → ⊥)
    → AreLiveCounts (set ms k m) bundles live
counts_stay ms bundles live k m are lt other = record {
  as_long = are.as_long;
  each = λ b b_lt shared. are.each b b_lt shared ∙ sym (live_elsewhere ms bundles b k m lt (other b shared));
}

-- the counts after a change of one mark
counts_turned : (ms : List Mark) (bundles : List (Option ℕ)) (live : List ℕ) (k : ℕ) (m : Mark) (o : Option ℕ)
    → AreLiveCounts ms bundles live → k < length ms
    → number_in bundles k ≡ o → ForSome o (λ b. b < length bundles)
    → AreLiveCounts (set ms k m) bundles (recount_some live (count_of (number_of bundles o)) (is_live (mark_in ms k))
    (is_live m))
counts_turned ms bundles live k m None are lt is within =
    counts_stay ms bundles live k m are lt (λ b shared e. let none = sym is ∙ e in cc)
counts_turned ms bundles live k m (Some c) are lt is within =
    elim (cases_Bool (is_shared bundles c)) [
      | inr alone ↦
          rw alone
          (counts_stay ms bundles live k m are lt (λ b shared e.
          let both : Some c ≡ Some b = sym is ∙ e in
          let same : c ≡ b = (cc) in
          false≢true (sym alone ∙ (rw same shared))))
      | inl c_shared ↦
          let r = rank_of bundles c in
          let next = slice_index live r + one_if (is_live m) - one_if (is_live (mark_in ms k)) in
          let c_in : c < length bundles = within c refl in
          let r_in : r < length live = omega (arith, are.as_long, rank_within bundles c c_shared c_in) in
          rw c_shared
          (record {
            as_long = length-set live r next ∙ are.as_long;
            each = λ b b_lt shared. elim (cases_eq b c) [
              | inl same ↦
                  rw same
                  (get_or-set_same live r next 0 r_in
                  ∙ (omega (arith, live_here ms bundles c k m lt is, are.each c c_in c_shared)))
              | inr other ↦
                  get_or-set_other live r (rank_of bundles b) next 0
                  (rank_apart bundles b c shared c_shared b_lt c_in other)
                  ∙ are.each b b_lt shared
                  ∙ sym (live_elsewhere ms bundles b k m lt (λ e. let both = sym is ∙ e in other (cc)))
            ];
          })
    ]

count_most : (ms : List Mark) (numbers : List (Option ℕ)) (b : ℕ) → live_in_bundle ms numbers b ≤ length ms
count_most ms numbers b =
    let ks = range_with_len 0 (length ms) in
    omega (
      arith,
      length-filter (counts_in ms numbers b) ks,
      count_by-le-length (counts_in ms numbers b) ks,
      length-range_with_len 0 (length ms),
    )

-- the number of a wish's bundle
pub number_is : (sites : Sites) (s : State) (numbers : List BundleNumber) (live : List ℕ) (k : ℕ)
    → IsBundled sites s numbers live
    → number_at numbers k ≡ number_of (bundles_of sites s.dossier.wishes)
    (number_in (bundles_of sites s.dossier.wishes) k)
number_is sites s numbers live k bundled =
    let bundles = bundles_of sites s.dossier.wishes in
    rw bundled.numbered
    (unwrap_or-slice_get (map (number_of bundles) bundles) k NoSite
    ∙ get_or-map (number_of bundles) bundles k None
    ∙ ap (number_of bundles) (sym (unwrap_or-slice_get bundles k None)))

pub bundled_more : (sites : Sites) (s : State) (numbers : List BundleNumber) (live : List ℕ) (k : ℕ) (m : Mark)
    → length s.marks ≡ length s.dossier.wishes → k < length s.marks
    → IsBundled sites s numbers live
    → IsBundled sites (with_mark_at s k m) numbers
    (recount_some live (count_of (number_at numbers k)) (is_live (mark_in s.marks k)) (is_live m))
bundled_more sites s numbers live k m long lt bundled =
    let ws = s.dossier.wishes in
    let are = bundles_are sites ws in
    record {
      numbered = bundled.numbered;
      counts = rw (number_is sites s numbers live k bundled)
          (counts_turned s.marks (bundles_of sites ws) live k m (number_in (bundles_of sites ws) k) bundled.counts
          lt refl (λ b e. omega (arith, are.as_long, are.within k (omega arith) b e)));
    }

-- the count of a wish's bundle, before its mark becomes m
bundle_fits : (sites : Sites) (s : State) (numbers : List BundleNumber) (live : List ℕ) (k : ℕ) (m : Mark)
    → length s.marks ≡ length s.dossier.wishes → k < length s.marks
    → length s.dossier.wishes ≤ 16000000 → IsBundled sites s numbers live
    → ForSome (count_of (number_at numbers k))
    (λ n. Fits live (length s.marks) n (is_live (mark_in s.marks k)) (is_live m))
bundle_fits sites s numbers live k m long lt short bundled n e =
    let bundles = bundles_of sites s.dossier.wishes in
    let bundles_are_so = bundles_are sites s.dossier.wishes in
    let parts = count_parts bundles (number_in bundles k) n (rw (number_is sites s numbers live k bundled) at e) in
    let b = parts.0 in
    let b_in : b < length bundles = omega (
      arith,
      bundles_are_so.as_long,
      bundles_are_so.within k
          (omega arith) b parts.1,
    ) in
    let is = bundled.counts.each b b_in parts.2 in
    rw (← parts.3)
    (record {
      place = omega (arith, bundled.counts.as_long, rank_within bundles b parts.2 b_in);
      comes = omega (arith, is, count_most s.marks bundles b, one_at_most (is_live m), long);
      goes = omega (arith, is, live_here s.marks bundles b k m lt parts.1);
    })

numbers_long : (sites : Sites) (s : State) (numbers : List BundleNumber) (live : List ℕ)
    → IsBundled sites s numbers live
    → length numbers ≡ length s.dossier.wishes
numbers_long sites s numbers live bundled =
    let bundles = bundles_of sites s.dossier.wishes in
    ap length bundled.numbered ∙ length-map bundles (number_of bundles) ∙ (bundles_are sites s.dossier.wishes).as_long

-- a wish's bundle has a place among the counts, where it has a number
number_within : (sites : Sites) (s : State) (numbers : List BundleNumber) (live : List ℕ) (k : ℕ)
    → length s.marks ≡ length s.dossier.wishes → k < length s.marks
    → IsBundled sites s numbers live → ForSome (count_of (number_at numbers k)) (λ n. n < length live)
number_within sites s numbers live k long lt bundled n e =
    let bundles = bundles_of sites s.dossier.wishes in
    let bundles_are_so = bundles_are sites s.dossier.wishes in
    let parts = count_parts bundles (number_in bundles k) n (rw (number_is sites s numbers live k bundled) at e) in
    let b_in : parts.0 < length bundles = omega (
      arith,
      bundles_are_so.as_long,
      bundles_are_so.within k
          (omega arith) parts.0 parts.1,
    ) in
    omega (arith, parts.3, bundled.counts.as_long, rank_within bundles parts.0 parts.2 b_in)

-- a wish has a number, and where that names a count, it is there
pub record HasNumber (numbers : List BundleNumber) (live : List ℕ) (k : ℕ) : Type 0 where
  pub place : k < length numbers
  pub number : ForSome (count_of (number_at numbers k)) (λ n. n < length live)

pub has_number : {sites : Sites} {s : State} {numbers : List BundleNumber} {live : List ℕ} {k : ℕ}
    → IsBundled sites s numbers live → length s.marks ≡ length s.dossier.wishes → k < length s.marks
    → HasNumber numbers live k
has_number {sites} {s} {numbers} {live} {k} bundled long lt = record {
  place = omega (arith, long, lt, numbers_long sites s numbers live bundled);
  number = number_within sites s numbers live k long lt bundled;
}

-- a wish's bundle can be counted anew
pub record CanTurn (numbers : List BundleNumber) (live : List ℕ) (k : ℕ) (was lives : Bool) : Type 0 where
  pub has : HasNumber numbers live k
  pub comes : ForSome (count_of (number_at numbers k)) (λ n. slice_index live n + one_if lives < 4294967296)
  pub goes : ForSome (count_of (number_at numbers k)) (λ n. one_if was ≤ slice_index live n + one_if lives)

pub can_turn : {sites : Sites} {s : State} {numbers : List BundleNumber} {live : List ℕ} {k : ℕ} {was lives : Bool}
    → IsBundled sites s numbers live → length s.marks ≡ length s.dossier.wishes → k < length s.marks
    → length s.dossier.wishes ≤ 16000000 → (m : Mark) → was ≡ is_live (mark_in s.marks k) → lives ≡ is_live m
    → CanTurn numbers live k was lives
can_turn {sites} {s} {numbers} {live} {k} bundled long lt short m was_is lives_is =
    let fits = bundle_fits sites s numbers live k m long lt short bundled in
    record {
      has = has_number bundled long lt;
      comes = rw lives_is (λ n e. (fits n e).comes);
      goes = rw (was_is, lives_is) (λ n e. (fits n e).goes);
    }

no_live_in : (n : ℕ) (numbers : List (Option ℕ)) (b a l : ℕ) → a + l ≤ n
    → length (filter (counts_in (replicate n waiting_mark) numbers b) (range_with_len a l)) ≡ 0
no_live_in n numbers b a zero le = refl
no_live_in n numbers b a (suc l) le =
    let waits : mark_in (replicate n waiting_mark) a ≡ waiting_mark =
    unwrap_or-slice_get (replicate n waiting_mark) a waiting_mark
    ∙ get_or-replicate n a waiting_mark waiting_mark (omega arith) in
    rw waits (no_live_in n numbers b (a + 1) l (omega arith))

-- where all wishes wait no bundle has a live one
bundled_waiting : (sites : Sites) (d : DossierRows)
    → IsBundled sites (state_of d (replicate (length d.wishes) waiting_mark)) (all_numbers sites d.wishes)
    (replicate (shared_in_all sites d.wishes) 0)
bundled_waiting sites d =
    let n = length d.wishes in
    let bundles = bundles_of sites d.wishes in
    let as_long = (bundles_are sites d.wishes).as_long in
    let long : length (replicate n waiting_mark) ≡ n = length-replicate n waiting_mark in
    record {
      numbered = refl;
      counts = record {
        as_long = length-replicate (shared_in_all sites d.wishes) 0;
        each = λ b lt shared.
            get_or-replicate (shared_in_all sites d.wishes) (rank_of bundles b) 0 0 (rank_within bundles b shared lt)
            ∙ rw long (sym (no_live_in n bundles b 0 n (omega arith)));
      };
    }

all_waiting : (d : DossierRows)
    → let n = length d.wishes in
    KeepsCounts (state_of d (replicate n waiting_mark)) (replicate (length d.programmes) 0)
    (replicate (length d.schools) 0) (all_numbers Programmes d.wishes)
    (replicate (shared_in_all Programmes d.wishes) 0) (all_numbers Schools d.wishes)
    (replicate (shared_in_all Schools d.wishes) 0)
all_waiting d = record {
  kept = kept_waiting d;
  programmes = bundled_waiting Programmes d;
  schools = bundled_waiting Schools d;
}

-- all wishes of a valid dossier wait, whose wishes, programmes and schools were read
module _ (d : DossierRows) (ws : List Wish) (wishes : ws ≡ d.wishes) where
  pub keeps_waiting : {marks : List Mark} {seats beds in_programmes in_schools : List ℕ}
      {of_programmes of_schools : List BundleNumber}
      {p h : ℕ} → p ≡ length d.programmes → h ≡ length d.schools → marks ≡ replicate (length ws) waiting_mark
      → seats ≡ replicate p 0 → beds ≡ replicate h 0 → of_programmes ≡ all_numbers Programmes ws
      → in_programmes ≡ replicate (shared_in_all Programmes ws) 0 → of_schools ≡ all_numbers Schools ws
      → in_schools ≡ replicate (shared_in_all Schools ws) 0
      → KeepsCounts (state_of d marks) seats beds of_programmes in_programmes of_schools in_schools
  keeps_waiting p_is h_is marks_are seats_are beds_are of_p in_p of_h in_h =
      rw (marks_are, seats_are, beds_are, of_p, in_p, of_h, in_h, p_is, h_is, wishes) (all_waiting d)

  module _ (valid : IsValid d) where
    valid_wish : (k : ℕ) → k < length ws → IsValidWish d (wish_in ws k)
    valid_wish k lt =
        let b = wish_in [] 0 in
        subst (IsValidWish d) (sym (ap (λ vs. wish_in vs k) wishes ∙ unwrap_or-slice_get d.wishes k b))
        (valid.wishes k b (subst (λ vs. k < length vs) wishes lt))

    pub programme_in : {p : ℕ} → p ≡ length d.programmes → (k : ℕ) → k < length ws
        → ForSome (site_of Programmes (wish_in ws k)) (λ h. h < p)
    programme_in same k lt h e = let is : (wish_in ws k).programme ≡ h = (cc) in
        omega (arith, (valid_wish k lt).programme, is, same)

    pub school_in : {n : ℕ} → n ≡ length d.schools → (k : ℕ) → k < length ws
        → ForSome (site_of Schools (wish_in ws k)) (λ h. h < n)
    school_in same k lt h e = subst (λ n. h < n) (sym same) ((valid_wish k lt).school h e)

    pub few_wishes : length ws < 2147483648
    few_wishes = omega (arith, valid.size.wishes, ap (λ (vs : List Wish). length vs) wishes)
