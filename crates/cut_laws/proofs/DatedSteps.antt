-- The steps of a day, one by one, leave open offers dated as many days apart.
use Rattle.std.proofs.Common.{ℕ, ◌<◌, ◌≡◌, Bool, ◌&&◌, ◌||◌, List, [], ◌∷◌, length, Option, Some, None, refl, sym, ◌∙◌}
use Rattle.std.proofs.Common.{ap, arith, subst, get_or, nat_lt}
use Rattle.std.specs.Prelude.{ℤ, pos, ◌==◌, if◌then◌else◌}
use Rattle.std.proofs.lemmas.Option.{unwrap_or-slice_get}
use Rattle.admit_core.specs.declared.dossier.Answer.{Answer}
use Rattle.admit_core.specs.declared.dossier.AnswerKind.{AnswerKind}
use Rattle.admit_core.specs.declared.dossier.AnswerKind.TheVariants.{Accept, Refuse, Withdraw, Quit}
use Rattle.admit_core.specs.declared.dossier.Wish.{Wish}
use Rattle.admit_core.specs.declared.ranking.CallOrder.{CallOrder}
use Rattle.admit_core.specs.declared.state.Mark.{Mark}
use Rattle.admit_core.specs.declared.state.Stamp.{Stamp}
use Rattle.admit_core.specs.declared.state.Status.{Status}
use Rattle.admit_core.specs.declared.state.Status.TheVariants.{Offered, Accepted, Refused, Withdrawn, Quit as HasQuit}
use Rattle.admit_core.specs.Answers.{after, after_all, after_kind, candidate_at, mark_at, refuse_live}
use Rattle.admit_core.specs.AutoAnswer.{auto_mark, auto_status, best_live}
use Rattle.admit_core.specs.Days.{closing, first_mark, offered}
use Rattle.admit_core.specs.Proposals.{is_proposed}
use Rattle.admit_core.specs.State.{State, changed_to, is_live, is_live_status, is_waiting, is_waiting_status}
use Rattle.cut_laws.specs.Alike.{HaveEqualStatuses, undated}
use Rattle.cut_laws.proofs.Unstamped.{same_proposed}
use Rattle.cut_laws.proofs.Steps.{after_alike, best_preference, first_of, offers_alike, preference_alike, rest_of}
use Rattle.cut_laws.proofs.Steps.{who_alike}
use Rattle.cut_laws.proofs.Dated.{AreApart, AreDated, IsDated, changed_dated, either_dated, no_mark, same_at, set_dated}
use Rattle.cut_laws.proofs.Dated.{with_dated}

module _ (a : ℕ) (bs cs : List ℤ) (one other : Stamp) (apart : AreApart a one other) where
  -- a change where a test passes
  if_dated : (p q : Bool) (x : Status) (m n : Mark) (b c : ℤ) → p ≡ q → m.status ≡ n.status → IsDated a b m c n
      → IsDated a b (if p then changed_to x one m else m) c (if q then changed_to x other n else n)
  if_dated p q x m n b c tests same old =
      either_dated a b c p q (changed_to x one m) (changed_to x other n) m n tests
      (changed_dated a b c x x one other m n apart refl same old) old

  refused_dated : (s t : State) (c k : ℕ) → HaveEqualStatuses s t → c ≡ k → AreDated a bs cs s t
      → AreDated a bs cs (refuse_live s c one) (refuse_live t k other)
  refused_dated s t c k e who are =
      with_dated a bs cs s t (λ w m. if is_live m && (w.candidate == c) then changed_to Refused one m else m)
      (λ w m. if is_live m && (w.candidate == k) then changed_to Refused other m else m) e are
      (λ w m n b d same old. if_dated (is_live m && (w.candidate == c)) (is_live n && (w.candidate == k)) Refused
      m n b d
      (λ i. is_live_status (same i) && (w.candidate == who i)) same old)

  -- the mark of a place, changed
  place_dated : (s t : State) (place : ℕ) (x : Status) → HaveEqualStatuses s t → AreDated a bs cs s t
      → place < length s.marks
      → IsDated a (get_or bs place (pos 0)) (changed_to x one (mark_at s place)) (get_or cs place (pos 0))
      (changed_to x other (mark_at t place))
  place_dated s t place x e are lt =
      let b = get_or bs place (pos 0) in
      let c = get_or cs place (pos 0) in
      let m : Mark = get_or s.marks place no_mark in
      let n : Mark = get_or t.marks place no_mark in
      subst (λ (k : Mark). IsDated a b (changed_to x one k) c (changed_to x other (mark_at t place)))
      (sym (unwrap_or-slice_get s.marks place no_mark))
      (subst (λ (k : Mark). IsDated a b (changed_to x one m) c (changed_to x other k))
      (sym (unwrap_or-slice_get t.marks place no_mark))
      (changed_dated a b c x x one other m n apart refl (same_at s t place e) (are.each place lt)))

  kind_dated : (kind : AnswerKind) (s t : State) (target : ℕ) → HaveEqualStatuses s t → AreDated a bs cs s t
      → AreDated a bs cs (after_kind kind s target one) (after_kind kind t target other)
  kind_dated Accept s t target e are =
      let who = who_alike s t target e in
      let refused = refused_dated s t (candidate_at s target) (candidate_at t target) e who are in
      set_dated a bs cs (refuse_live s (candidate_at s target) one) (refuse_live t (candidate_at t target) other) target
      (changed_to Accepted one (mark_at s target)) (changed_to Accepted other (mark_at t target)) refused
      (λ lt. place_dated s t target Accepted e are
      (omega (arith, lt, refused.marks, are.marks)))
  kind_dated Refuse s t target e are =
      set_dated a bs cs s t target (changed_to Refused one (mark_at s target))
      (changed_to Refused other (mark_at t target)) are (place_dated s t target Refused e are)
  kind_dated Withdraw s t target e are =
      set_dated a bs cs s t target (changed_to Withdrawn one (mark_at s target))
      (changed_to Withdrawn other (mark_at t target)) are (place_dated s t target Withdrawn e are)
  kind_dated Quit s t c e are =
      with_dated a bs cs s t
      (λ w m. if (is_live m || is_waiting m) && (w.candidate == c) then changed_to HasQuit one m else m)
      (λ w m. if (is_live m || is_waiting m) && (w.candidate == c) then changed_to HasQuit other m else m) e are
      (λ w m n b d same old. if_dated ((is_live m || is_waiting m) && (w.candidate == c))
      ((is_live n || is_waiting n) && (w.candidate == c)) HasQuit m n b d
      (λ i. (is_live_status (same i) || is_waiting_status (same i)) && (w.candidate == c)) same old)

  after_dated : (s t : State) (x y : Answer) → HaveEqualStatuses s t → x.kind ≡ y.kind → x.target ≡ y.target
      → AreDated a bs cs s t → AreDated a bs cs (after s one x) (after t other y)
  after_dated s t x y e kind target are =
      subst (λ (u : State). AreDated a bs cs (after s one x) u)
      (λ i. after_kind (kind i) t (target i) other) (kind_dated x.kind s t x.target e are)

  pub answers_dated : (s t : State) (answers same : List Answer) → HaveEqualStatuses s t
      → undated answers ≡ undated same
      → AreDated a bs cs s t → AreDated a bs cs (after_all s one answers) (after_all t other same)
  answers_dated s t [] [] e they are = are
  answers_dated s t [] (y ∷ ys) e they are = absurd (cc)
  answers_dated s t (x ∷ xs) [] e they are = absurd (cc)
  answers_dated s t (x ∷ xs) (y ∷ ys) e they are =
      let here = first_of _ _ (undated xs) (undated ys) they in
      let later = rest_of _ _ (undated xs) (undated ys) they in
      let kind = ap (λ (z : Answer). z.kind) here in
      let target = ap (λ (z : Answer). z.target) here in
      answers_dated (after s one x) (after t other y) xs ys (after_alike s t x y one other e kind target) later
      (after_dated s t x y e kind target are)

  offers_dated : (s t : State) (orders : List CallOrder) (bars : List ℕ) → HaveEqualStatuses s t → AreDated a bs cs s t
      → AreDated a bs cs (offered s orders bars one) (offered t orders bars other)
  offers_dated s t orders bars e are =
      with_dated a bs cs s t (λ w m. if is_proposed s orders bars w m then changed_to Offered one m else m)
      (λ w m. if is_proposed t orders bars w m then changed_to Offered other m else m) e are
      (λ w m n b d same old. if_dated (is_proposed s orders bars w m) (is_proposed t orders bars w n) Offered m n b d
      (sym (same_proposed s orders bars w m) ∙ (λ i. is_proposed (e i) orders bars w (first_mark (same i)))
      ∙ same_proposed t orders bars w n) same old)

  auto_dated : (o p : Option (Wish × Mark)) (w : Wish) (m n : Mark) (b c : ℤ) → best_preference o ≡ best_preference p
      → m.status ≡ n.status → IsDated a b m c n → IsDated a b (auto_mark one o w m) c (auto_mark other p w n)
  auto_dated None None w m n b c best same old = old
  auto_dated None (Some y) w m n b c best same old = absurd (cc)
  auto_dated (Some x) None w m n b c best same old = absurd (cc)
  auto_dated (Some x) (Some y) w m n b c best same old =
      let same_best : x.0.preference ≡ y.0.preference = some_same x.0.preference y.0.preference best in
      changed_dated a b c _ _ one other m n apart
      (λ i. auto_status (same i) (w.preference == same_best i) (nat_lt (same_best i) w.preference)) same old
    where
      some_same : (j k : ℕ) → Some j ≡ Some k → j ≡ k
      some_same j k e = cc

  pub closed_dated : (s t : State) (orders : List CallOrder) (bars : List ℕ) → HaveEqualStatuses s t
      → AreDated a bs cs s t → AreDated a bs cs (closing s orders bars one) (closing t orders bars other)
  closed_dated s t orders bars e are =
      let u = offered s orders bars one in
      let v = offered t orders bars other in
      let alike = offers_alike s t orders bars one other e in
      with_dated a bs cs u v (λ w m. auto_mark one (best_live u w.candidate) w m)
      (λ w m. auto_mark other (best_live v w.candidate) w m) alike (offers_dated s t orders bars e are)
      (λ w m n b c same old. auto_dated (best_live u w.candidate) (best_live v w.candidate) w m n b c
      (preference_alike u v w.candidate alike) same old)
