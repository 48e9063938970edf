-- What the answer of one candidate does, beside the answers of all.
use Rattle.std.proofs.Common.{ℕ, zero, suc, ◌<◌, ◌≡◌, Bool, true, not, cond, ◌&&◌, List, [], ◌∷◌, map, length, refl}
use Rattle.std.proofs.Common.{sym, ◌∙◌, ap, arith, nat_eq, sum, count_by}
use Rattle.std.specs.Prelude.{◌==◌, if◌then◌else◌}
use Rattle.std.specs.List.{range_with_len}
use Rattle.std.proofs.lemmas.Bool.{eq-eqb, ne_eqb, or_left, or_right}
use Rattle.std.proofs.lemmas.List.Sums.{sum_by-cons}
use Rattle.admit_core.specs.declared.dossier.Wish.{Wish}
use Rattle.admit_core.specs.declared.state.Mark.{Mark}
use Rattle.admit_core.specs.declared.state.Stamp.{Stamp}
use Rattle.admit_core.specs.declared.state.Freed.{Freed}
use Rattle.admit_core.specs.Lists.{is_among, distinct}
use Rattle.admit_core.specs.State.{State, has_school, holds_seat, holds_bed}
use Rattle.admit_core.specs.AutoAnswer.{auto_mark, best_live, auto_one, auto_all, seats_freed, beds_freed, freed_by}
use Rattle.day_state.specs.Kept.{mark_in, wish_in}
use Rattle.day_state.proofs.Along.{mark_in-with_marks, length-with_marks}
use Rattle.day_state.proofs.Independence.{Agrees}
use Rattle.day_state.proofs.OneAccepted.{who}
use Rattle.auto_answer.proofs.OwnMarks.{own_holds, own_best}

-- what becomes of a mark by the answer of one candidate, and of all
abbrev pub one_mark : State → ℕ → Stamp → Wish → Mark → Mark
one_mark s c stamp w m = if w.candidate == c then auto_mark stamp (best_live s c) w m else m

abbrev pub all_mark : State → Stamp → Wish → Mark → Mark
all_mark s stamp w m = auto_mark stamp (best_live s w.candidate) w m

pub turned : (c : ℕ) (s t : State) → Agrees c s t → Agrees c t s
turned c s t a = record {
  dossier = sym a.dossier;
  long = rw a.dossier a.long_too;
  long_too = rw a.dossier a.long;
  same = λ k lt own. sym (a.same k (rw a.dossier at lt) (rw a.dossier at own));
}

pub joined : (c : ℕ) (s t u : State) → Agrees c s t → Agrees c t u → Agrees c s u
joined c s t u a b = record {
  dossier = b.dossier ∙ a.dossier;
  long = a.long;
  long_too = rw a.dossier at b.long_too;
  same = λ k lt own. a.same k lt own ∙ b.same k (rw a.dossier lt) (rw a.dossier own);
}

-- another candidate's answer leaves this one's wishes
pub one_other : (c d : ℕ) (s t : State) (stamp : Stamp) → (d ≡ c → ⊥) → Agrees c s t → Agrees c (auto_one s d stamp) t
one_other c d s t stamp differ a = record {
  dossier = a.dossier;
  long = length-with_marks (one_mark s d stamp) s a.long ∙ a.long;
  long_too = a.long_too;
  same = λ k lt own.
      mark_in-with_marks (one_mark s d stamp) s a.long k (omega (arith, a.long))
      ∙ ap (λ b. if b then auto_mark stamp (best_live s d) (wish_in s.dossier.wishes k)
      (mark_in s.marks k) else mark_in s.marks k)
      (ne_eqb (who s k) d (λ e. differ (sym e ∙ own)))
      ∙ a.same k lt own;
}

-- a candidate's own answer does the same in both states
pub one_both : (c : ℕ) (s t : State) (stamp : Stamp) → Agrees c s t → Agrees c (auto_one s c stamp) (auto_one t c stamp)
one_both c s t stamp a =
    let t_long : length t.marks ≡ length t.dossier.wishes = rw a.dossier a.long_too in
    record {
      dossier = a.dossier;
      long = length-with_marks (one_mark s c stamp) s a.long ∙ a.long;
      long_too = length-with_marks (one_mark t c stamp) t t_long ∙ a.long_too;
      same = λ k lt own.
          mark_in-with_marks (one_mark s c stamp) s a.long k (omega (arith, a.long))
          ∙ rw (own_best c s t a, a.same k lt own, ← a.dossier) refl
          ∙ sym (mark_in-with_marks (one_mark t c stamp) t t_long k (omega (arith, a.long_too)));
    }

-- the answers of all do to a candidate's wishes what their own answer does
pub one_as_all : (c : ℕ) (s : State) (stamp : Stamp) → length s.marks ≡ length s.dossier.wishes
    → Agrees c (auto_one s c stamp) (auto_all s stamp)
one_as_all c s stamp long = record {
  dossier = refl;
  long = length-with_marks (one_mark s c stamp) s long ∙ long;
  long_too = length-with_marks (all_mark s stamp) s long ∙ long;
  same = λ k lt own.
      mark_in-with_marks (one_mark s c stamp) s long k (omega (arith, long))
      ∙ rw own (rw (eq-eqb c c refl) refl)
      ∙ sym (mark_in-with_marks (all_mark s stamp) s long k (omega (arith, long)));
}

pub one_here : (c : ℕ) (s t : State) (stamp : Stamp) → Agrees c s t → Agrees c (auto_one s c stamp) (auto_all t stamp)
one_here c s t stamp a =
    joined c (auto_one s c stamp) (auto_one t c stamp) (auto_all t stamp) (one_both c s t stamp a)
    (one_as_all c t stamp (rw a.dossier a.long_too))

pub all_both : (c : ℕ) (s t : State) (stamp : Stamp) → Agrees c s t → Agrees c (auto_all s stamp) (auto_all t stamp)
all_both c s t stamp a =
    joined c (auto_all s stamp) (auto_one s c stamp) (auto_all t stamp)
    (turned c (auto_one s c stamp) (auto_all s stamp) (one_as_all c s stamp a.long))
    (one_here c s t stamp a)

-- what a candidate frees depends on their own wishes before and after
abbrev one : Bool → ℕ
one b = cond b 1 0

same_count : (p q : ℕ → Bool) → ((k : ℕ) → p k ≡ q k) → (ks : List ℕ) → count_by p ks ≡ count_by q ks
same_count p q same [] = refl
same_count p q same (k ∷ ks) =
    let first = ap one (same k) in
    omega (
      arith,
      sum_by-cons (λ x. cond (p x) 1 0) k ks,
      sum_by-cons
          (λ x. cond (q x) 1 0) k ks,
      first,
      same_count p q same ks,
    )

pub same_freed : (c : ℕ) (s t u v : State) → Agrees c s u → Agrees c t v → freed_by s t c ≡ freed_by u v c
same_freed c s t u v before after =
    let seats = same_count (λ p. holds_seat s c p && not (holds_seat t c p))
    (λ p. holds_seat u c p && not (holds_seat v c p))
    (λ p. rw (
      own_holds (λ (w : Wish). w.programme == p) c s u before,
      own_holds
          (λ (w : Wish). w.programme == p) c t v after,
    ) refl)
    (range_with_len 0 (length s.dossier.programmes)) in
    let beds = same_count (λ h. holds_bed s c h && not (holds_bed t c h))
    (λ h. holds_bed u c h && not (holds_bed v c h))
    (λ h. rw (
      own_holds (λ (w : Wish). has_school w h) c s u before,
      own_holds
          (λ (w : Wish). has_school w h) c t v after,
    ) refl)
    (range_with_len 0 (length s.dossier.schools)) in
    rw (seats, beds, before.dossier) refl

-- what those of a list freed
abbrev pub seats_of_all : State → State → List ℕ → ℕ
seats_of_all old new cs = sum (map (seats_freed old new) (distinct cs))

abbrev pub beds_of_all : State → State → List ℕ → ℕ
beds_of_all old new cs = sum (map (beds_freed old new) (distinct cs))

-- the candidate of a wish is among the wishes' candidates
pub own_among : (ws : List Wish) (k : ℕ) → k < length ws
    → is_among (wish_in ws k).candidate (map (λ (w : Wish). w.candidate) ws) ≡ true
own_among [] k lt = absurd (omega arith)
own_among (w ∷ ws) zero lt = or_left (nat_eq w.candidate w.candidate)
    (is_among w.candidate (map (λ (w : Wish). w.candidate) ws)) (eq-eqb w.candidate w.candidate refl)
own_among (w ∷ ws) (suc k) lt =
    or_right (nat_eq (wish_in ws k).candidate w.candidate)
    (is_among (wish_in ws k).candidate (map (λ (w : Wish). w.candidate) ws)) (own_among ws k (omega arith))

abbrev numbers : ℕ → ℕ → Freed
numbers seats beds = record { seats = seats; beds = beds }

pub same_numbers : (x y : Freed) → x.seats ≡ y.seats → x.beds ≡ y.beds → x ≡ y
same_numbers x y seats beds = let e : numbers x.seats x.beds ≡ numbers y.seats y.beds = rw (seats, beds) refl in e
