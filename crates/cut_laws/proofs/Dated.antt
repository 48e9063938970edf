-- Each step of a day leaves open offers dated alike, as many days apart as before.
use Rattle.std.proofs.Common.{ℕ, ◌+◌, ◌<◌, ◌≡◌, ◌≢◌, Bool, true, false, ◌&&◌, List, length, map, None, inl, inr, refl}
use Rattle.std.proofs.Common.{sym, ◌∙◌, ap, arith, subst, get_or, nat_lt, zip}
use Rattle.std.specs.Prelude.{ℤ, pos, ◌+ℤ◌, ◌==◌, if◌then◌else◌, int_lt}
use Rattle.std.proofs.Math.ListN.{set, get_or-map as get_or-map_default}
use Rattle.std.proofs.lemmas.Bool.{cases_Bool, eqb-true}
use Rattle.std.proofs.lemmas.Bool.Decides.{nat_tests}
use Rattle.std.proofs.lemmas.Int.{ints}
use Rattle.std.proofs.lemmas.List.{get_or-map, get_or-set_other, get_or-set_same, length-map, length-set}
use Rattle.std.proofs.lemmas.Slice.Zip.{get_or-zip, length-zip}
use Rattle.admit_core.specs.declared.dossier.Wish.{Wish}
use Rattle.admit_core.specs.declared.state.Mark.{Mark}
use Rattle.admit_core.specs.declared.state.Stamp.{Stamp}
use Rattle.admit_core.specs.declared.state.Status.{Status}
use Rattle.admit_core.specs.declared.state.Status.TheVariants.{Waiting}
use Rattle.admit_core.specs.Days.{first_mark}
use Rattle.admit_core.specs.Lapses.{is_offered, lapses, offer_day}
use Rattle.admit_core.specs.State.{State, changed_to, status_number, with_mark_at, with_marks}
use Rattle.cut_laws.specs.Alike.{HaveEqualStatuses}
use Rattle.cut_laws.proofs.Unstamped.{bare}

abbrev pub no_mark : Mark
no_mark = first_mark Waiting

-- an open offer of one mark is dated a days after that of the other
abbrev pub IsDated : ℕ → ℤ → Mark → ℤ → Mark → Type 0
IsDated a b m c n = is_offered m.status ≡ true → offer_day b m ≡ offer_day c n +ℤ pos a

-- two stamps of one moment, a days apart, of which neither is of what came in
pub record AreApart (a : ℕ) (one other : Stamp) : Type 0 where
  pub apart : one.day ≡ other.day + a
  pub after_first : 0 < other.day

module _ (a : ℕ) (b c : ℤ) where
  chosen : (p : Bool) (m n k l : Mark) → IsDated a b m c n → IsDated a b k c l
      → IsDated a b (if p then m else k) c (if p then n else l)
  chosen true m n k l this that = this
  chosen false m n k l this that = that

  pub either_dated : (p q : Bool) (m n k l : Mark) → p ≡ q → IsDated a b m c n → IsDated a b k c l
      → IsDated a b (if p then m else k) c (if q then n else l)
  either_dated p q m n k l tests this that =
      subst (λ (r : Bool). IsDated a b (if p then m else k) c (if r then n else l)) tests (chosen p m n k l this that)

  day_if : (p : Bool) (day : ℕ) (before : ℤ) → p ≡ true → (if p then pos day else before) ≡ pos day
  day_if true day before t = refl
  day_if false day before t = absurd (cc)

  new_dated : (x y : Status) (one other : Stamp) → AreApart a one other
      → IsDated a b (record { status = x; stamp = one }) c (record { status = y; stamp = other })
  new_dated x y one other apart offered =
      let late : nat_lt 0 one.day ≡ true = grind (arith, nat_tests, apart.apart, apart.after_first) in
      let early : nat_lt 0 other.day ≡ true = grind (arith, nat_tests, apart.after_first) in
      day_if (nat_lt 0 one.day) one.day b late ∙ ap pos apart.apart
      ∙ ap (λ d. d +ℤ pos a) (sym (day_if (nat_lt 0 other.day) other.day c early))

  pub changed_dated : (x y : Status) (one other : Stamp) (m n : Mark) → AreApart a one other → x ≡ y
      → m.status ≡ n.status
      → IsDated a b m c n → IsDated a b (changed_to x one m) c (changed_to y other n)
  changed_dated x y one other m n apart to from old =
      either_dated (status_number m.status == status_number x) (status_number n.status == status_number y) m n
      (record { status = x; stamp = one }) (record { status = y; stamp = other })
      (λ i. status_number (from i) == status_number (to i)) old (new_dated x y one other apart)

  -- so it lapses on a day where the other does, a days earlier
  lapse_by : (p : Bool) (term late early : ℕ) (o e : ℤ) → (p ≡ true → o ≡ e +ℤ pos a) → late ≡ early + a
      → (p && int_lt (o +ℤ pos term) (pos late)) ≡ (p && int_lt (e +ℤ pos term) (pos early))
  lapse_by false term late early o e dated days = refl
  lapse_by true term late early o e dated days =
      let same : o ≡ e +ℤ pos a = dated refl in
      grind (arith, ints, same, days)

  pub lapse_alike : (term late early : ℕ) (m n : Mark) → late ≡ early + a → m.status ≡ n.status → IsDated a b m c n
      → lapses term late b m ≡ lapses term early c n
  lapse_alike term late early m n days from dated =
      lapse_by (is_offered m.status) term late early (offer_day b m) (offer_day c n) dated days
      ∙ (λ i. is_offered (from i) && int_lt (offer_day c n +ℤ pos term) (pos early))

-- ---- two states whose open offers are dated a days apart
pub record AreDated (a : ℕ) (bs cs : List ℤ) (s t : State) : Type 0 where
  pub marks : length s.marks ≡ length s.dossier.wishes
  pub others : length t.marks ≡ length s.marks
  pub terms : length bs ≡ length s.dossier.wishes
  pub other_terms : length cs ≡ length bs
  pub each : (k : ℕ) → k < length s.marks
      → IsDated a (get_or bs k (pos 0)) (get_or s.marks k no_mark) (get_or cs k (pos 0)) (get_or t.marks k no_mark)

pub same_at : (s t : State) (k : ℕ) → HaveEqualStatuses s t
    → (get_or s.marks k no_mark).status ≡ (get_or t.marks k no_mark).status
same_at s t k e =
    ap (λ (m : Mark). m.status) (sym (read_bare s.marks k))
    ∙ ap (λ (u : State). (get_or u.marks k no_mark).status) e
    ∙ ap (λ (m : Mark). m.status) (read_bare t.marks k)
  where
    read_bare : (ms : List Mark) (k : ℕ) → get_or (map bare ms) k no_mark ≡ bare (get_or ms k no_mark)
    read_bare ms k = get_or-map_default bare ms k no_mark

abbrev pub no_wish : Wish
no_wish = record { id = 0; candidate = 0; programme = 0; school = None; board_rank = 0; preference = 0 }

-- a mark that is given by wish and mark
marked_at : (s : State) (f : Wish → Mark → Mark) (k : ℕ) → length s.marks ≡ length s.dossier.wishes → k < length s.marks
    → get_or (with_marks s f).marks k no_mark
    ≡ f (get_or s.dossier.wishes k no_wish) (get_or s.marks k no_mark)
marked_at s f k long lt =
    let ws = s.dossier.wishes in
    let there : k < length (zip ws s.marks) = omega (arith, lt, long, length-zip ws s.marks) in
    let wish_there : k < length ws = omega (arith, lt, long) in
    get_or-map (λ (x : Wish × Mark). f x.0 x.1) (zip ws s.marks) k (no_wish, no_mark) no_mark there
    ∙ ap (λ (x : Wish × Mark). f x.0 x.1) (get_or-zip ws s.marks k (no_wish, no_mark) wish_there lt)

with_long : (s : State) (f : Wish → Mark → Mark) → length s.marks ≡ length s.dossier.wishes
    → length (with_marks s f).marks ≡ length s.marks
with_long s f long =
    let ws = s.dossier.wishes in
    length-map (zip ws s.marks) (λ (x : Wish × Mark). f x.0 x.1) ∙ omega (arith, long, length-zip ws s.marks)

pub with_dated : (a : ℕ) (bs cs : List ℤ) (s t : State) (f g : Wish → Mark → Mark) → HaveEqualStatuses s t
    → AreDated a bs cs s t
    → ((w : Wish) (m n : Mark) (b c : ℤ) → m.status ≡ n.status → IsDated a b m c n → IsDated a b (f w m) c (g w n))
    → AreDated a bs cs (with_marks s f) (with_marks t g)
with_dated a bs cs s t f g e are step =
    let wishes : s.dossier.wishes ≡ t.dossier.wishes = ap (λ (u : State). u.dossier.wishes) e in
    let long_there : length t.marks ≡ length t.dossier.wishes =
    are.others ∙ are.marks ∙ ap (λ (ws : List Wish). length ws) wishes in
    let long_s = with_long s f are.marks in
    let long_t = with_long t g long_there in
    record {
      marks = long_s ∙ are.marks;
      others = long_t ∙ are.others ∙ sym long_s;
      terms = are.terms;
      other_terms = are.other_terms;
      each = λ k lt.
          let here : k < length s.marks = omega (arith, lt, long_s) in
          let there : k < length t.marks = omega (arith, here, are.others) in
          let b = get_or bs k (pos 0) in
          let c = get_or cs k (pos 0) in
          let m = get_or s.marks k no_mark in
          let n = get_or t.marks k no_mark in
          let w = get_or s.dossier.wishes k no_wish in
          let same : g w n ≡ g (get_or t.dossier.wishes k no_wish) n =
          ap (λ (ws : List Wish). g (get_or ws k no_wish) n) wishes in
          subst (λ (x : Mark). IsDated a b x c (get_or (with_marks t g).marks k no_mark))
          (sym (marked_at s f k are.marks here))
          (subst (λ (x : Mark). IsDated a b (f w m) c x) (same ∙ sym (marked_at t g k long_there there))
          (step w m n b c (same_at s t k e) (are.each k here)));
    }

-- and one that is set
set_at : (a : ℕ) (b c : ℤ) (ms ns : List Mark) (place k : ℕ) (m n : Mark) → length ns ≡ length ms → k < length ms
    → (k ≡ place → IsDated a b m c n) → IsDated a b (get_or ms k no_mark) c (get_or ns k no_mark)
    → IsDated a b (get_or (set ms place m) k no_mark) c (get_or (set ns place n) k no_mark)
set_at a b c ms ns place k m n long lt here there =
    elim (cases_Bool (k == place)) [
      | inl is ↦
          let same : k ≡ place = eqb-true k place is in
          let in_ms : place < length ms = omega (arith, lt, same) in
          let in_ns : place < length ns = omega (arith, lt, same, long) in
          let one : get_or (set ms place m) k no_mark ≡ m =
          ap (λ j. get_or (set ms place m) j no_mark) same ∙ get_or-set_same ms place m no_mark in_ms in
          let other : get_or (set ns place n) k no_mark ≡ n =
          ap (λ j. get_or (set ns place n) j no_mark) same ∙ get_or-set_same ns place n no_mark in_ns in
          subst (λ (x : Mark). IsDated a b x c (get_or (set ns place n) k no_mark)) (sym one)
          (subst (λ (x : Mark). IsDated a b m c x) (sym other) (here same))
      | inr not ↦
          let differ : k ≢ place = grind (arith, nat_tests, not) in
          subst (λ (x : Mark). IsDated a b x c (get_or (set ns place n) k no_mark))
          (sym (get_or-set_other ms place k m no_mark differ))
          (subst (λ (x : Mark). IsDated a b (get_or ms k no_mark) c x)
          (sym (get_or-set_other ns place k n no_mark differ)) there)
    ]

pub set_dated : (a : ℕ) (bs cs : List ℤ) (s t : State) (place : ℕ) (m n : Mark) → AreDated a bs cs s t
    → (place < length s.marks → IsDated a (get_or bs place (pos 0)) m (get_or cs place (pos 0)) n)
    → AreDated a bs cs (with_mark_at s place m) (with_mark_at t place n)
set_dated a bs cs s t place m n are here =
    record {
      marks = length-set s.marks place m ∙ are.marks;
      others = length-set t.marks place n ∙ are.others ∙ sym (length-set s.marks place m);
      terms = are.terms;
      other_terms = are.other_terms;
      each = λ k lt.
          let inside : k < length s.marks = omega (arith, lt, length-set s.marks place m) in
          set_at a (get_or bs k (pos 0)) (get_or cs k (pos 0)) s.marks t.marks place k m n are.others inside
          (λ is. subst (λ j. IsDated a (get_or bs j (pos 0)) m (get_or cs j (pos 0)) n) (sym is)
          (here (subst (λ j. j < length s.marks) is inside))) (are.each k inside);
    }
