-- What changes of a candidate's marks free.
use Rattle.std.proofs.Common.{ℕ, ◌+◌, ◌≤◌, ◌<◌, ◌≡◌, Bool, true, false, not, ◌&&◌, List, [], ◌∷◌, length, set, get_or}
use Rattle.std.proofs.Common.{inl, inr, refl, sym, ◌∙◌, ap, arith, Option, Some, None, zero, suc, zip}
use Rattle.std.specs.Prelude.{◌==◌}
use Rattle.std.specs.Option.{ForSome}
use Rattle.std.specs.List.{list_any}
use Rattle.std.proofs.lemmas.Bool.{ne_eqb, or_cases, or_right}
use Rattle.std.proofs.lemmas.Option.{unwrap_or-slice_get}
use Rattle.std.proofs.lemmas.Slice.Zip.{length-zip, get_or-zip}
use Rattle.admit_core.specs.declared.dossier.Wish.{Wish}
use Rattle.admit_core.specs.declared.state.Mark.{Mark}
use Rattle.admit_core.specs.declared.state.Freed.{Freed}
use Rattle.admit_core.specs.State.{State, entries, is_live, has_school, with_mark_at, holds_seat, holds_bed}
use Rattle.admit_core.specs.DossierRows.{DossierRows}
use Rattle.admit_core.specs.AutoAnswer.{freed_by}
use Rattle.day_state.specs.Kept.{mark_in, wish_in, holds_one, holds_bed_in, one_if, has_seat_there, has_bed_there}
use Rattle.day_state.proofs.Places.{entry_in, entries-with_mark_at}
use Rattle.day_state.proofs.KeptCounts.{holds_same_other, school_fails, none_fails}
use Rattle.day_state.proofs.Lost.{Falls, lost_in, lost_none, lost_one, lost_both, lost_at_most}

pub freed_none : (s t : State) (c : ℕ) → ((k : ℕ) → holds_seat t c k ≡ holds_seat s c k)
    → ((k : ℕ) → holds_bed t c k ≡ holds_bed s c k)
    → freed_by s t c ≡ record { seats = 0; beds = 0 }
freed_none s t c seats beds =
    rw (
      lost_none (holds_seat s c) (holds_seat t c) (length s.dossier.programmes) seats,
      lost_none (holds_bed s c) (holds_bed t c) (length s.dossier.schools) beds,
    ) refl

beds_freed_at : (s : State) (place : ℕ) (m : Mark) → length s.marks ≡ length s.dossier.wishes → place < length s.marks
    → (o : Option ℕ) → (wish_in s.dossier.wishes place).school ≡ o → ForSome o (λ h. h < length s.dossier.schools)
    → let t = with_mark_at s place m in let c = (wish_in s.dossier.wishes place).candidate in
    lost_in (holds_bed s c) (holds_bed t c) (length s.dossier.schools)
    ≡ one_if (holds_bed_in s c o && not (holds_bed_in t c o))
beds_freed_at s place m long lt None is within =
    let c = (wish_in s.dossier.wishes place).candidate in
    let t = with_mark_at s place m in
    lost_none (holds_bed s c) (holds_bed t c) (length s.dossier.schools)
    (λ k. holds_same_other (λ w. has_school w k) s place m long lt
    (none_fails (wish_in s.dossier.wishes place).school k is) c)
beds_freed_at s place m long lt (Some h) is within =
    let c = (wish_in s.dossier.wishes place).candidate in
    let t = with_mark_at s place m in
    lost_one (holds_bed s c) (holds_bed t c) (length s.dossier.schools) h (within h refl)
    (λ k other. holds_same_other (λ w. has_school w k) s place m long lt
    (school_fails (wish_in s.dossier.wishes place).school h k is (λ e. other (sym e))) c)

-- a change of one wish's mark frees its programme, its school, both or nothing
pub freed_there : (s : State) (place : ℕ) (m : Mark) → length s.marks ≡ length s.dossier.wishes → place < length s.marks
    → (wish_in s.dossier.wishes place).programme < length s.dossier.programmes
    → ForSome (wish_in s.dossier.wishes place).school (λ h. h < length s.dossier.schools)
    → let t = with_mark_at s place m in
    freed_by s t (wish_in s.dossier.wishes place).candidate
    ≡ record {
      seats = one_if (has_seat_there s place && not (has_seat_there t place));
      beds = one_if (has_bed_there s place && not (has_bed_there t place));
    }
freed_there s place m long lt programme school =
    let w = wish_in s.dossier.wishes place in
    let c = w.candidate in
    let t = with_mark_at s place m in
    let seats : lost_in (holds_seat s c) (holds_seat t c) (length s.dossier.programmes)
    ≡ one_if (has_seat_there s place && not (has_seat_there t place)) =
    lost_one (holds_seat s c) (holds_seat t c) (length s.dossier.programmes) w.programme programme
    (λ k other. holds_same_other (λ v. v.programme == k) s place m long lt
    (ne_eqb w.programme k (λ e. other (sym e))) c) in
    rw (seats, beds_freed_at s place m long lt w.school refl school) refl

-- a test of one element that may only fail where it passed
pub any-set_falls : {X : Type 0} (p : X → Bool) (xs : List X) (i : ℕ) (y d : X) → i < length xs
    → (p y ≡ true → p (get_or xs i d) ≡ true)
    → list_any p (set xs i y) ≡ true → list_any p xs ≡ true
any-set_falls p [] i y d lt falls t = absurd (omega arith)
any-set_falls p (x ∷ xs) zero y d lt falls t =
    elim (or_cases (p y) (list_any p xs) t) [
      | inl here ↦ rw (falls here) refl
      | inr later ↦ or_right (p x) (list_any p xs) later
    ]
any-set_falls p (x ∷ xs) (suc i) y d lt falls t =
    elim (or_cases (p x) (list_any p (set xs i y)) t) [
      | inl here ↦ rw here refl
      | inr later ↦ or_right (p x) (list_any p xs) (any-set_falls p xs i y d (omega arith) falls later)
    ]

live_falls : (a b own test : Bool) → (a ≡ true → b ≡ true) → ((a && own) && test) ≡ true → ((b && own) && test) ≡ true
live_falls true b own test f t = rw (f refl) t
live_falls false b own test f t = absurd (cc)

-- who holds after a mark that is live only where the one before it was, held before
pub holds_falls : (test : Wish → Bool) (s : State) (place : ℕ) (m : Mark) (c : ℕ)
    → length s.marks ≡ length s.dossier.wishes → place < length s.marks
    → (is_live m ≡ true → is_live (mark_in s.marks place) ≡ true) → holds_one test (with_mark_at s place m) c ≡ true
    → holds_one test s c ≡ true
holds_falls test s place m c long lt falls t =
    let ws = s.dossier.wishes in
    let ms = s.marks in
    let d : Wish × Mark = (wish_in [] 0, mark_in [] 0) in
    let holds = λ (e : Wish × Mark). is_live e.1 && (e.0.candidate == c) && test e.0 in
    let at : get_or (zip ws ms) place d ≡ entry_in s place =
    get_or-zip ws ms place d (omega arith) lt
    ∙ rw (unwrap_or-slice_get ws place (wish_in [] 0), unwrap_or-slice_get ms place (mark_in [] 0)) refl in
    let w = wish_in ws place in
    any-set_falls holds (entries s) place (w, m) d (omega (arith, length-zip ws ms))
    (λ e. ap holds at ∙ live_falls (is_live m) (is_live (mark_in ms place)) (w.candidate == c) (test w) falls e)
    (sym (ap (list_any holds) (entries-with_mark_at s place m)) ∙ t)

-- what a candidate has freed so far, where each change only ends what is live
pub record HasFreed (start now : State) (c : ℕ) (freed : Freed) : Type 0 where
  pub counted : freed ≡ freed_by start now c
  pub seats_fall : Falls (holds_seat start c) (holds_seat now c)
  pub beds_fall : Falls (holds_bed start c) (holds_bed now c)

pub has_freed_none : (s : State) (c : ℕ) → HasFreed s s c (record { seats = 0; beds = 0 })
has_freed_none s c = record {
  counted = sym (freed_none s s c (λ k. refl) (λ k. refl));
  seats_fall = λ k t. t;
  beds_fall = λ k t. t;
}

-- one more change: what it frees comes to what was freed
pub freed_more : (start now next : State) (c : ℕ) (freed : Freed) → now.dossier ≡ start.dossier
    → HasFreed start now c freed
    → Falls (holds_seat now c) (holds_seat next c) → Falls (holds_bed now c) (holds_bed next c)
    → (freed.seats + (freed_by now next c).seats ≡ (freed_by start next c).seats) ×
    (freed.beds + (freed_by now next c).beds ≡ (freed_by start next c).beds)
freed_more start now next c freed same so_far seats beds =
    let programmes = length start.dossier.programmes in
    let schools = length start.dossier.schools in
    rw so_far.counted (
      ap (λ n. lost_in (holds_seat start c) (holds_seat now c) programmes + lost_in (holds_seat now c)
          (holds_seat next c) n) (ap (λ (d : DossierRows). length d.programmes) same)
          ∙ sym (lost_both (holds_seat start c) (holds_seat now c)
          (holds_seat next c) programmes so_far.seats_fall seats),
      ap (λ n. lost_in (holds_bed start c) (holds_bed now c) schools + lost_in (holds_bed now c) (holds_bed next c)
          n) (ap (λ (d : DossierRows). length d.schools) same)
          ∙ sym (lost_both (holds_bed start c) (holds_bed now c) (holds_bed next c) schools so_far.beds_fall beds),
    )

pub freed_at_most : (s t : State) (c : ℕ)
    → ((freed_by s t c).seats ≤ length s.dossier.programmes) × ((freed_by s t c).beds ≤ length s.dossier.schools)
freed_at_most s t c = (
  lost_at_most (holds_seat s c) (holds_seat t c) (length s.dossier.programmes),
  lost_at_most (holds_bed s c) (holds_bed t c) (length s.dossier.schools),
)
