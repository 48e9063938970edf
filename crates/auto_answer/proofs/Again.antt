-- Who has been answered for is not answered for again: the second answer changes nothing.
use Rattle.std.proofs.Common.{ℕ, zero, ◌<◌, ◌≡◌, Bool, true, false, ◌&&◌, List, [], ◌∷◌, length, inl, inr, refl, sym}
use Rattle.std.proofs.Common.{◌∙◌, ap, arith, filter, zip, Option, Some, None}
use Rattle.std.specs.Prelude.{◌==◌, nat_lt}
use Rattle.std.specs.List.{list_any}
use Rattle.std.proofs.lemmas.Bool.{cases_Bool, eqb-true, eq-eqb, and_parts, and_from}
use Rattle.admit_core.specs.declared.dossier.Wish.{Wish}
use Rattle.admit_core.specs.declared.state.Mark.{Mark}
use Rattle.admit_core.specs.declared.state.Stamp.{Stamp}
use Rattle.admit_core.specs.declared.state.Status.{Status}
use Rattle.admit_core.specs.declared.state.Status.TheVariants.{Waiting, Offered, Accepted, Refused, Withdrawn, Quit}
use Rattle.admit_core.specs.declared.state.Status.TheVariants.{AutoRefused, AutoWithdrawn, Lapsed}
use Rattle.admit_core.specs.Lists.{lesser, least_by}
use Rattle.admit_core.specs.State.{State, is_live, is_live_status, changed_to, status_number}
use Rattle.admit_core.specs.AutoAnswer.{auto_mark, auto_status, best_live, auto_all}
use Rattle.admit_core.proofs.Remaining.{least_passes}
use Rattle.admit_core.proofs.Statuses.{status_of_auto}
use Rattle.admit_core.proofs.Plain.{any-filter}
use Rattle.day_state.specs.Kept.{mark_in, wish_in}
use Rattle.day_state.proofs.Along.{mark_in-with_marks, length-with_marks, same_state, same_marks}
use Rattle.day_state.proofs.Independence.{Agrees}
use Rattle.day_state.proofs.OneAccepted.{who}
use Rattle.auto_answer.proofs.Answering.{all_mark}
use Rattle.auto_answer.proofs.Freeing.{passing_place, place_passes}
use Rattle.auto_answer.proofs.OwnMarks.{holds, own_best}

abbrev pub preference : Wish × Mark → ℕ
preference x = x.0.preference

abbrev pub ranked : Wish → Bool
ranked w = nat_lt zero w.preference

-- the least of those that pass a test is one of them
pub least_stands : {X : Type 0} (q : X → Bool) (key : X → ℕ) (ys : List X) (x : X) → least_by key (filter q ys) ≡ Some x
    → list_any (λ y. q y && (key y == key x)) ys ≡ true
least_stands {X} q key ys x e =
    let t = λ (z : X). key z == key x in
    sym (any-filter t q ys) ∙ least_passes t key (filter q ys) x e (eq-eqb (key x) (key x) refl)

-- where one passes there is a least one
least_some : {X : Type 0} (q : X → Bool) (key : X → ℕ) (ys : List X) → list_any q ys ≡ true
    → (x : X) × (least_by key (filter q ys) ≡ Some x)
least_some q key [] e = absurd (cc)
least_some q key (y ∷ ys) e =
    elim (cases_Bool (q y)) [
      | inl passes ↦ (lesser key y (least_by key (filter q ys)), rw passes refl)
      | inr fails ↦ let rest = least_some q key ys (rw fails at e) in (rest.0, rw fails rest.1)
    ]

-- one who is live after the answer was the best
live_is_best : (x : Status) (is_best is_behind : Bool) → is_live_status (auto_status x is_best is_behind) ≡ true
    → is_best ≡ true
live_is_best Waiting is_best true live = absurd (cc)
live_is_best Waiting is_best false live = absurd (cc)
live_is_best Offered true is_behind live = refl
live_is_best Offered false is_behind live = absurd (cc)
live_is_best Accepted true is_behind live = refl
live_is_best Accepted false is_behind live = absurd (cc)
live_is_best Refused is_best is_behind live = absurd (cc)
live_is_best Withdrawn is_best is_behind live = absurd (cc)
live_is_best Quit is_best is_behind live = absurd (cc)
live_is_best AutoRefused is_best is_behind live = absurd (cc)
live_is_best AutoWithdrawn is_best is_behind live = absurd (cc)
live_is_best Lapsed is_best is_behind live = absurd (cc)

-- the best live one is live afterwards
best_lives : (x : Status) (is_best is_behind : Bool) → is_live_status x ≡ true → is_best ≡ true
    → is_live_status (auto_status x is_best is_behind) ≡ true
best_lives Waiting is_best is_behind live best = absurd (cc)
best_lives Offered is_best is_behind live best = rw best refl
best_lives Accepted is_best is_behind live best = rw best refl
best_lives Refused is_best is_behind live best = absurd (cc)
best_lives Withdrawn is_best is_behind live best = absurd (cc)
best_lives Quit is_best is_behind live best = absurd (cc)
best_lives AutoRefused is_best is_behind live best = absurd (cc)
best_lives AutoWithdrawn is_best is_behind live best = absurd (cc)
best_lives Lapsed is_best is_behind live best = absurd (cc)

status_again : (x : Status) (is_best is_behind : Bool)
    → auto_status (auto_status x is_best is_behind) is_best is_behind ≡ auto_status x is_best is_behind
status_again Waiting is_best true = refl
status_again Waiting is_best false = refl
status_again Offered true is_behind = refl
status_again Offered false is_behind = refl
status_again Accepted true is_behind = refl
status_again Accepted false is_behind = refl
status_again Refused is_best is_behind = refl
status_again Withdrawn is_best is_behind = refl
status_again Quit is_best is_behind = refl
status_again AutoRefused is_best is_behind = refl
status_again AutoWithdrawn is_best is_behind = refl
status_again Lapsed is_best is_behind = refl

-- a mark that gets the status that it has stays
unchanged : (x : Status) (stamp : Stamp) (m : Mark) → x ≡ m.status → changed_to x stamp m ≡ m
unchanged x stamp m same = rw (same, eq-eqb (status_number m.status) (status_number m.status) refl) refl

-- a second answer with a best wish of the same preference
mark_again : (stamp again : Stamp) (b y : Wish × Mark) (w : Wish) (m : Mark) → y.0.preference ≡ b.0.preference
    → auto_mark again (Some y) w (auto_mark stamp (Some b) w m) ≡ auto_mark stamp (Some b) w m
mark_again stamp again b y w m same =
    let is_best = w.preference == b.0.preference in
    let is_behind = nat_lt b.0.preference w.preference in
    let n = auto_mark stamp (Some b) w m in
    let status : n.status ≡ auto_status m.status is_best is_behind = status_of_auto stamp b w m in
    rw same (unchanged (auto_status n.status is_best is_behind) again n
    (ap (λ (x : Status). auto_status x is_best is_behind) status ∙ status_again m.status is_best is_behind
    ∙ sym status))

module _ (s : State) (stamp : Stamp) (long : length s.marks ≡ length s.dossier.wishes) where
  abbrev end : State
  end = auto_all s stamp

  end_long : length end.marks ≡ length end.dossier.wishes
  end_long = length-with_marks (all_mark s stamp) s long ∙ long

  mark_there : (k : ℕ) → k < length s.dossier.wishes
      → mark_in end.marks k ≡ auto_mark stamp (best_live s (who s k)) (wish_in s.dossier.wishes k) (mark_in s.marks k)
  mark_there k lt = mark_in-with_marks (all_mark s stamp) s long k (omega (arith, long))

  -- the mark of a candidate's wish where their best one is known
  mark_by : (c k : ℕ) (o : Option (Wish × Mark)) → best_live s c ≡ o → k < length s.dossier.wishes → who s k ≡ c
      → mark_in end.marks k ≡ auto_mark stamp o (wish_in s.dossier.wishes k) (mark_in s.marks k)
  mark_by c k o best lt own = mark_there k lt
      ∙ ap (λ (d : ℕ). auto_mark stamp (best_live s d) (wish_in s.dossier.wishes k) (mark_in s.marks k)) own
      ∙ ap (λ (x : Option (Wish × Mark)). auto_mark stamp x (wish_in s.dossier.wishes k) (mark_in s.marks k)) best

  -- without a best one nothing changes, and there is none afterwards
  pub none_changed : (c : ℕ) → best_live s c ≡ None → Agrees c s end
  none_changed c none = record {
    dossier = refl;
    long = long;
    long_too = end_long;
    same = λ k lt own. sym (mark_by c k None none lt own);
  }

  none_again : (c : ℕ) → best_live s c ≡ None → best_live end c ≡ None
  none_again c none = sym (own_best c s end (none_changed c none)) ∙ none

  -- else the best one stays the best
  best_again : (c : ℕ) (b : Wish × Mark) → best_live s c ≡ Some b
      → (y : Wish × Mark) × (best_live end c ≡ Some y) × (y.0.preference ≡ b.0.preference)
  best_again c b best =
      let ws = s.dossier.wishes in
      let test = holds ranked c in
      let (k, k_in, k_marks, here) = passing_place (λ x. test x && (preference x == preference b)) ws s.marks
      (least_stands test preference (zip ws s.marks) b best) in
      let w = wish_in ws k in
      let m = mark_in s.marks k in
      let outer = and_parts (test (w, m)) (w.preference == b.0.preference) here in
      let inner = and_parts (is_live m && (w.candidate == c)) (ranked w) outer.0 in
      let first = and_parts (is_live m) (w.candidate == c) inner.0 in
      let now : mark_in end.marks k ≡ auto_mark stamp (Some b) w m =
      mark_by c k (Some b) best k_in (eqb-true w.candidate c first.1) in
      let lives : is_live (mark_in end.marks k) ≡ true =
      ap is_live now ∙ ap is_live_status (status_of_auto stamp b w m)
      ∙ best_lives m.status (w.preference == b.0.preference) (nat_lt b.0.preference w.preference) first.0 outer.1 in
      let there : test (w, mark_in end.marks k) ≡ true =
      and_from (is_live (mark_in end.marks k) && (w.candidate == c)) (ranked w)
      (and_from (is_live (mark_in end.marks k)) (w.candidate == c) lives first.1) inner.1 in
      let some = least_some test preference (zip ws end.marks)
      (place_passes test ws end.marks k k_in (omega (arith, end_long, k_in)) there) in
      let y = some.0 in
      let (j, j_in, j_marks, at_j) = passing_place (λ x. test x && (preference x == preference y)) ws end.marks
      (least_stands test preference (zip ws end.marks) y some.1) in
      let v = wish_in ws j in
      let n = mark_in s.marks j in
      let outer_j = and_parts (test (v, mark_in end.marks j)) (v.preference == y.0.preference) at_j in
      let inner_j = and_parts (is_live (mark_in end.marks j) && (v.candidate == c)) (ranked v) outer_j.0 in
      let first_j = and_parts (is_live (mark_in end.marks j)) (v.candidate == c) inner_j.0 in
      let now_j : mark_in end.marks j ≡ auto_mark stamp (Some b) v n =
      mark_by c j (Some b) best j_in (eqb-true v.candidate c first_j.1) in
      let live_j : is_live_status (auto_status n.status (v.preference == b.0.preference)
      (nat_lt b.0.preference v.preference)) ≡ true =
      ap is_live_status (sym (status_of_auto stamp b v n)) ∙ sym (ap is_live now_j) ∙ first_j.0 in
      let is_best = live_is_best n.status (v.preference == b.0.preference)
      (nat_lt b.0.preference v.preference) live_j in
      (y, some.1, sym (eqb-true v.preference y.0.preference outer_j.1) ∙ eqb-true v.preference b.0.preference is_best)

  stays : (again : Stamp) (c k : ℕ) (o : Option (Wish × Mark)) → best_live s c ≡ o → k < length s.dossier.wishes
      → who s k ≡ c
      → auto_mark again (best_live end c) (wish_in s.dossier.wishes k) (mark_in end.marks k) ≡ mark_in end.marks k
  stays again c k None best lt own = rw (none_again c best) refl
  stays again c k (Some b) best lt own =
      let (y, is, same) = best_again c b best in
      rw (is, mark_by c k (Some b) best lt own)
      (mark_again stamp again b y (wish_in s.dossier.wishes k) (mark_in s.marks k) same)

  -- THE LAW: answering for all twice is answering once
  pub answered_once : (again : Stamp) → auto_all end again ≡ end
  answered_once again =
      same_state (auto_all end again) end refl
      (same_marks (auto_all end again).marks end.marks (length-with_marks (all_mark end again) end end_long)
      (λ k lt.
      let k_in : k < length s.dossier.wishes =
      omega (arith, lt, length-with_marks (all_mark end again) end end_long, end_long) in
      mark_in-with_marks (all_mark end again) end end_long k (omega (arith, k_in, end_long))
      ∙ stays again (who s k) k (best_live s (who s k)) refl k_in refl))
