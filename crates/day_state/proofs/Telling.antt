-- What the count of a bundle tells of its candidate, and what it tells after a change of one mark.
use Rattle.std.proofs.Common.{ℕ, ◌+◌, ◌<◌, ◌≡◌, Bool, true, false, ◌&&◌, List, [], ◌∷◌, length, inl, inr, refl, sym}
use Rattle.std.proofs.Common.{◌∙◌, ap, arith, filter, get_or, map, Option, Some, None, zero, suc}
use Rattle.std.specs.Prelude.{slice_index, ◌==◌, nat_lt}
use Rattle.std.specs.Option.{ForSome}
use Rattle.std.specs.List.{list_any, range_with_len}
use Rattle.std.specs.Cmp.{both_ways}
use Rattle.std.proofs.lemmas.Bool.{cases_Bool, eqb-true, eq-eqb, lt-ltb, and_parts, and_right}
use Rattle.std.proofs.lemmas.List.{length-set, get_or_default}
use Rattle.std.proofs.lemmas.List.Folds.{list_any_at, Any-from_list_any}
use Rattle.std.proofs.lemmas.List.FromFn.{length-range_with_len}
use Rattle.admit_core.proofs.Plain.{any-map, any_none, and_assoc}
use Rattle.admit_core.specs.declared.dossier.Wish.{Wish}
use Rattle.admit_core.specs.declared.state.Mark.{Mark}
use Rattle.admit_core.specs.DossierRows.{DossierRows}
use Rattle.admit_core.specs.State.{State, entries, is_live, is_waiting, with_mark_at}
use Rattle.admit_core.specs.Validity.{IsValid}
use Rattle.day_state.specs.declared.bundles.Sites.{Sites}
use Rattle.day_state.specs.declared.bundles.Sites.TheVariants.{Programmes, Schools}
use Rattle.day_state.specs.declared.numbers.BundleNumber.{BundleNumber}
use Rattle.day_state.specs.Kept.{mark_in, wish_in, holds_one, holds_bed_in, recount, recount_some, has_seat_there}
use Rattle.day_state.specs.Kept.{has_bed_there, state_of}
use Rattle.day_state.specs.Bundles.{site_of, is_same, number_in, bundles_of, is_shared, number_of, number_at, count_of}
use Rattle.day_state.specs.Bundles.{has_live, seat_bundle, AreLiveCounts, IsBundled, KeepsCounts}
use Rattle.day_state.specs.Members.{waits_beside}
use Rattle.day_state.proofs.Waits.{waiting_not_live, waits_there}
use Rattle.day_state.proofs.Bundled.{counts_in, number_is, bundled_more}
use Rattle.day_state.proofs.Numbering.{range_at, bundles_are}
use Rattle.day_state.proofs.Sharing.{alone_first}
use Rattle.day_state.proofs.Places.{entry_in, entries_by_place}
use Rattle.day_state.proofs.Along.{mark_in-set_same}
use Rattle.day_state.proofs.Change.{kept_changed}

any_counts : {X : Type 0} (p : X → Bool) (xs : List X) → nat_lt 0 (length (filter p xs)) ≡ list_any p xs
any_counts p [] = refl
any_counts p (x ∷ xs) =
    elim (cases_Bool (p x)) [
      | inl passes ↦ rw passes (lt-ltb 0 (length (x ∷ filter p xs)) (omega arith))
      | inr fails ↦ rw fails (any_counts p xs)
    ]

any_in_range : (p q : ℕ → Bool) (a n : ℕ) → ((j : ℕ) → j < a + n → p j ≡ q j)
    → list_any p (range_with_len a n) ≡ list_any q (range_with_len a n)
any_in_range p q a zero same = refl
any_in_range p q a (suc n) same = rw (same a (omega arith), any_in_range p q (a + 1) n (λ j lt. same j (omega arith)))
    refl

same_some : (o : Option ℕ) (b : ℕ) → is_same (Some b) o ≡ true → o ≡ Some b
same_some None b e = absurd (cc)
same_some (Some c) b e = rw (eqb-true c b e) refl

-- where a wish is alone, its own mark tells whether one of its bundle is live
alone_any : (ms : List Mark) (bundles : List (Option ℕ)) (k b : ℕ) → k < length ms → length bundles ≡ length ms
    → is_shared bundles b ≡ false → number_in bundles k ≡ Some b
    → is_live (mark_in ms k) ≡ list_any (counts_in ms bundles b) (range_with_len 0 (length ms))
alone_any ms bundles k b lt long none is =
    let n = length ms in
    let q = counts_in ms bundles b in
    both_ways (is_live (mark_in ms k)) (list_any q (range_with_len 0 n))
    (λ lives.
    let here : q (slice_index (range_with_len 0 n) k) ≡ true = rw (range_at n k 0 lt, lives, is) (eq-eqb b b refl) in
    list_any_at q (range_with_len 0 n) k 0 (omega (arith, lt, length-range_with_len 0 n)) here)
    (λ some.
    let (j, x, within, at, passes) = Any-from_list_any q (range_with_len 0 n) some in
    let j_lt : j < n = omega (arith, within, length-range_with_len 0 n) in
    let same : x ≡ j = sym (get_or_default (range_with_len 0 n) j 0 x within ∙ at) ∙ range_at n j 0 j_lt in
    let parts = and_parts (is_live (mark_in ms x)) (is_same (Some b) (number_in bundles x)) passes in
    let x_is : number_in bundles x ≡ Some b = same_some (number_in bundles x) b parts.1 in
    let x_here : x ≡ b = alone_first bundles b x none (omega (arith, same, j_lt, long)) x_is in
    let k_here : k ≡ b = alone_first bundles b k none (omega (arith, long)) is in
    rw (k_here, ← x_here) parts.0)

bundle_any : (ms : List Mark) (bundles : List (Option ℕ)) (live : List ℕ) (k : ℕ) (o : Option ℕ)
    → AreLiveCounts ms bundles live → length bundles ≡ length ms → k < length ms
    → number_in bundles k ≡ o → ForSome o (λ b. b < length ms)
    → has_live live (number_of bundles o) (is_live (mark_in ms k))
    ≡ list_any (λ j. is_live (mark_in ms j) && is_same o (number_in bundles j)) (range_with_len 0 (length ms))
bundle_any ms bundles live k None are long lt is within =
    sym (any_none (λ j. is_live (mark_in ms j) && false) (λ j. and_right (is_live (mark_in ms j)) false refl)
    (range_with_len 0 (length ms)))
bundle_any ms bundles live k (Some b) are long lt is within =
    elim (cases_Bool (is_shared bundles b)) [
      | inl shared ↦ rw shared (ap (nat_lt 0) (are.each b (omega (arith, within b refl, long)) shared)
          ∙ any_counts (counts_in ms bundles b) (range_with_len 0 (length ms)))
      | inr none ↦ rw none (alone_any ms bundles k b lt long none is)
    ]

-- a bundle has a live wish where its candidate is live at its site
has_live_is : (sites : Sites) (s : State) (numbers : List BundleNumber) (live : List ℕ) (k : ℕ)
    → length s.marks ≡ length s.dossier.wishes → k < length s.marks
    → IsBundled sites s numbers live
    → let w = wish_in s.dossier.wishes k in
    has_live live (number_at numbers k) (is_live (mark_in s.marks k))
    ≡ holds_one (λ v. is_same (site_of sites w) (site_of sites v)) s w.candidate
has_live_is sites s numbers live k long lt bundled =
    let ws = s.dossier.wishes in
    let ms = s.marks in
    let w = wish_in ws k in
    let bundles = bundles_of sites ws in
    let bundles_are_so = bundles_are sites ws in
    let o = number_in bundles k in
    let test = λ (v : Wish). is_same (site_of sites w) (site_of sites v) in
    let holds = λ (e : Wish × Mark). is_live e.1 && (e.0.candidate == w.candidate) && test e.0 in
    let k_in : k < length ws = omega arith in
    ap (λ n. has_live live n (is_live (mark_in ms k))) (number_is sites s numbers live k bundled)
    ∙ bundle_any ms bundles live k o bundled.counts (bundles_are_so.as_long ∙ sym long) lt refl
    (λ b e. omega (arith, long, bundles_are_so.within k k_in b e))
    ∙ any_in_range (λ j. is_live (mark_in ms j) && is_same o (number_in bundles j)) (λ j. holds (entry_in s j)) 0
    (length ms)
    (λ j j_lt.
    let j_in : j < length ws = omega arith in
    ap (λ t. is_live (mark_in ms j) && t) (bundles_are_so.shared k j k_in j_in)
    ∙ and_assoc (is_live (mark_in ms j)) ((wish_in ws j).candidate == w.candidate) (test (wish_in ws j)))
    ∙ ap (λ n. list_any (λ j. holds (entry_in s j)) (range_with_len 0 n)) long
    ∙ sym (any-map holds (entry_in s) (range_with_len 0 (length ws)))
    ∙ ap (list_any holds) (sym (entries_by_place s long))

pub has_seat_is : {s : State} {numbers : List BundleNumber} {live : List ℕ} {k : ℕ}
    → IsBundled Programmes s numbers live → length s.marks ≡ length s.dossier.wishes → k < length s.marks
    → has_live live (number_at numbers k) (is_live (mark_in s.marks k)) ≡ has_seat_there s k
has_seat_is {s} {numbers} {live} {k} bundled long lt = has_live_is Programmes s numbers live k long lt bundled

-- so the number alone tells it where the wish is not live
pub seat_beside : {s : State} {numbers : List BundleNumber} {live : List ℕ} {k : ℕ}
    → IsBundled Programmes s numbers live → length s.marks ≡ length s.dossier.wishes → k < length s.marks
    → (n : BundleNumber) → n ≡ seat_bundle s.dossier k → is_live (mark_in s.marks k) ≡ false
    → has_live live n false ≡ has_seat_there s k
seat_beside {s} {numbers} {live} {k} bundled long lt n is none =
    ap (λ m. has_live live m false) (is ∙ ap (λ (ns : List BundleNumber). number_at ns k) (sym bundled.numbered))
    ∙ ap (has_live live (number_at numbers k)) (sym none)
    ∙ has_seat_is bundled long lt

-- and so of the wishes that wait
pub waits_beside_is : {s : State} {numbers : List BundleNumber} {live : List ℕ} → IsBundled Programmes s numbers live
    → length s.marks ≡ length s.dossier.wishes → (k : ℕ)
    → (get_or (map is_waiting s.marks) k false && has_live live (number_at numbers k) false) ≡ waits_beside s k
waits_beside_is {s} {numbers} {live} bundled long k = elim (cases_Bool (get_or (map is_waiting s.marks) k false)) [
  | inl is_set ↦
      let (lt, waits) = waits_there s k is_set in
      ap (λ b. get_or (map is_waiting s.marks) k false && b)
      (ap (has_live live (number_at numbers k)) (sym (waiting_not_live s k waits)) ∙ has_seat_is bundled long lt)
  | inr clear ↦ rw clear refl
]

-- a live wish at the site of another one, where that may have none
in_its_school : (s : State) (c : ℕ) (o : Option ℕ) → holds_one (λ v. is_same o v.school) s c ≡ holds_bed_in s c o
in_its_school s c None =
    any_none (λ (e : Wish × Mark). is_live e.1 && (e.0.candidate == c) && false)
    (λ e. and_right (is_live e.1 && (e.0.candidate == c)) false refl) (entries s)
in_its_school s c (Some h) = refl

pub has_bed_is : {s : State} {numbers : List BundleNumber} {live : List ℕ} {k : ℕ}
    → IsBundled Schools s numbers live → length s.marks ≡ length s.dossier.wishes → k < length s.marks
    → has_live live (number_at numbers k) (is_live (mark_in s.marks k)) ≡ has_bed_there s k
has_bed_is {s} {numbers} {live} {k} bundled long lt =
    let w = wish_in s.dossier.wishes k in
    has_live_is Schools s numbers live k long lt bundled ∙ in_its_school s w.candidate w.school

-- what the counts of a bundle tell of its candidate in a state
abbrev Tells : Sites → (State → ℕ → Bool) → List BundleNumber → ℕ → Type 0
Tells sites there numbers k =
    (s : State) (live : List ℕ) → length s.marks ≡ length s.dossier.wishes → k < length s.marks
    → IsBundled sites s numbers live
    → has_live live (number_at numbers k) (is_live (mark_in s.marks k)) ≡ there s k

-- a turn of a bundle tells whether its candidate was live there, and is
turned : (sites : Sites) (there : State → ℕ → Bool) (s : State) (numbers : List BundleNumber) (live : List ℕ) (k : ℕ)
    (m : Mark) (was lives had has : Bool) (after : List ℕ)
    → Tells sites there numbers k → length s.marks ≡ length s.dossier.wishes → k < length s.marks
    → IsBundled sites s numbers live
    → was ≡ is_live (mark_in s.marks k) → lives ≡ is_live m
    → after ≡ recount_some live (count_of (number_at numbers k)) was lives
    → had ≡ has_live live (number_at numbers k) was → has ≡ has_live after (number_at numbers k) lives
    → (had ≡ there s k) × (has ≡ there (with_mark_at s k m) k)
turned sites there s numbers live k m was lives had has after tells long lt bundled was_is lives_is after_is had_is
    has_is =
    let next = recount_some live (count_of (number_at numbers k)) (is_live (mark_in s.marks k)) (is_live m) in
    let more = bundled_more sites s numbers live k m long lt bundled in
    let after_is_so : after ≡ next = rw (← was_is, ← lives_is) after_is in (
      had_is ∙ rw was_is (tells s live long lt bundled),
      has_is
          ∙ rw (after_is_so, lives_is)
          (ap (λ n. has_live next (number_at numbers k) (is_live n)) (sym (mark_in-set_same s.marks k m lt))
          ∙ tells (with_mark_at s k m) next (length-set s.marks k m ∙ long)
          (omega (arith, length-set s.marks k m, lt)) more),
    )

-- where all counts are kept, and the mark of a wish becomes m
module _ {d : DossierRows} {marks : List Mark} {seats beds : List ℕ} {of_programmes : List BundleNumber}
    {in_programmes : List ℕ}
    {of_schools : List BundleNumber} {in_schools : List ℕ}
    (keeps : KeepsCounts (state_of d marks) seats beds of_programmes in_programmes of_schools in_schools)
    {wish : ℕ} (lt : wish < length marks) (m : Mark) where
  -- all counts are right after the change
  pub keeps_changed : IsValid d
      → let s = state_of d marks in let new = with_mark_at s wish m in
      let was = is_live (mark_in marks wish) in
      KeepsCounts new
      (recount seats (wish_in d.wishes wish).programme (has_seat_there s wish) (has_seat_there new wish))
      (recount_some beds (wish_in d.wishes wish).school (has_bed_there s wish) (has_bed_there new wish))
      of_programmes (recount_some in_programmes (count_of (number_at of_programmes wish)) was (is_live m))
      of_schools (recount_some in_schools (count_of (number_at of_schools wish)) was (is_live m))
  keeps_changed valid = record {
    kept = kept_changed valid keeps.kept lt m;
    programmes = bundled_more Programmes (state_of d marks) of_programmes in_programmes wish m keeps.kept.marks lt
        keeps.programmes;
    schools = bundled_more Schools (state_of d marks) of_schools in_schools wish m keeps.kept.marks lt keeps.schools;
  }

  -- whether the candidate was live in the programme of the wish, and is
  pub seat_turned : {was lives had has : Bool} {after : List ℕ} → was ≡ is_live (mark_in marks wish) → lives ≡ is_live m
      → after ≡ recount_some in_programmes (count_of (number_at of_programmes wish)) was lives
      → had ≡ has_live in_programmes (number_at of_programmes wish) was
      → has ≡ has_live after (number_at of_programmes wish) lives
      → (had ≡ has_seat_there (state_of d marks) wish)
      × (has ≡ has_seat_there (with_mark_at (state_of d marks) wish m) wish)
  seat_turned {was} {lives} {had} {has} {after} =
      turned Programmes has_seat_there (state_of d marks) of_programmes in_programmes wish m was lives had has after
      (λ s live long lt bundled. has_seat_is bundled long lt) keeps.kept.marks lt keeps.programmes

  -- and in its school
  pub bed_turned : {was lives had has : Bool} {after : List ℕ} → was ≡ is_live (mark_in marks wish) → lives ≡ is_live m
      → after ≡ recount_some in_schools (count_of (number_at of_schools wish)) was lives
      → had ≡ has_live in_schools (number_at of_schools wish) was
      → has ≡ has_live after (number_at of_schools wish) lives
      → (had ≡ has_bed_there (state_of d marks) wish)
      × (has ≡ has_bed_there (with_mark_at (state_of d marks) wish m) wish)
  bed_turned {was} {lives} {had} {has} {after} =
      turned Schools has_bed_there (state_of d marks) of_schools in_schools wish m was lives had has after
      (λ s live long lt bundled. has_bed_is bundled long lt) keeps.kept.marks lt keeps.schools
