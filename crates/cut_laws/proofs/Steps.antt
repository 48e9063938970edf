-- Each step of a day leads states with equal statuses to states with equal statuses.
use Rattle.std.proofs.Common.{ℕ, ◌+◌, ◌≡◌, Bool, true, false, ◌&&◌, ◌||◌, List, [], ◌∷◌, map, Option, Some, None, refl}
use Rattle.std.proofs.Common.{sym, ◌∙◌, ap, zip, option_map, unwrap_or}
use Rattle.std.specs.Prelude.{◌==◌, if◌then◌else◌, slice_get, nat_lt}
use Rattle.std.proofs.lemmas.List.{map-set}
use Rattle.std.proofs.lemmas.Option.{slice_get-map}
use Rattle.admit_core.specs.declared.dossier.Answer.{Answer}
use Rattle.admit_core.specs.declared.dossier.AnswerKind.{AnswerKind}
use Rattle.admit_core.specs.declared.dossier.AnswerKind.TheVariants.{Accept, Refuse, Withdraw, Quit}
use Rattle.admit_core.specs.declared.dossier.Wish.{Wish}
use Rattle.admit_core.specs.declared.ranking.CallOrder.{CallOrder}
use Rattle.admit_core.specs.declared.state.Mark.{Mark}
use Rattle.admit_core.specs.declared.state.Stamp.{Stamp}
use Rattle.admit_core.specs.declared.state.Status.{Status}
use Rattle.admit_core.specs.declared.state.Status.TheVariants.{Waiting, Offered, Accepted, Refused, Withdrawn}
use Rattle.admit_core.specs.declared.state.Status.TheVariants.{Quit as HasQuit}
use Rattle.admit_core.specs.Answers.{after, after_all, after_kind, candidate_at, first_unfit, kind_fits, mark_at}
use Rattle.admit_core.specs.Answers.{refuse_live, status_at}
use Rattle.admit_core.specs.AutoAnswer.{auto_all, auto_mark, auto_status, best_live}
use Rattle.admit_core.specs.Days.{first_mark, offered}
use Rattle.admit_core.specs.Proposals.{is_proposed}
use Rattle.admit_core.specs.State.{State, changed_to, is_live, is_live_status, is_waiting, is_waiting_status}
use Rattle.admit_core.specs.State.{with_mark_at, with_marks}
use Rattle.admit_core.proofs.Statuses.{changed_status}
use Rattle.cut_laws.specs.Alike.{HaveEqualStatuses, lasting, undated, unstamped}
use Rattle.cut_laws.proofs.Unstamped.{bare, bare_entry, same_best, same_proposed}

-- what is read of a state without stamps is read of both
pub read_alike : {X : Type 0} (read : State → X) → ((s : State) → read (unstamped s) ≡ read s) → (s t : State)
    → HaveEqualStatuses s t → read s ≡ read t
read_alike read same s t e = sym (same s) ∙ ap read e ∙ same t

-- the status of a mark that is changed where a test passes
status_if : (p : Bool) (x : Status) (stamp : Stamp) (m : Mark)
    → (if p then changed_to x stamp m else m).status ≡ (if p then x else m.status)
status_if true x stamp m = changed_status x stamp m
status_if false x stamp m = refl

pub status_alike : (p q : Bool) (x : Status) (one other : Stamp) (m n : Mark) → p ≡ q → m.status ≡ n.status
    → (if p then changed_to x one m else m).status ≡ (if q then changed_to x other n else n).status
status_alike p q x one other m n tests same =
    status_if p x one m ∙ (λ i. if tests i then x else same i) ∙ sym (status_if q x other n)

-- ---- marks that are given by wish and mark
marks_alike : (f g : Wish → Mark → Mark)
    → ((w : Wish) (m n : Mark) → m.status ≡ n.status → (f w m).status ≡ (g w n).status)
    → (ws : List Wish) (ms ns : List Mark) → map bare ms ≡ map bare ns
    → map bare (map (λ (e : Wish × Mark). f e.0 e.1) (zip ws ms))
    ≡ map bare (map (λ (e : Wish × Mark). g e.0 e.1) (zip ws ns))
marks_alike f g each [] ms ns e = refl
marks_alike f g each (w ∷ ws) [] [] e = refl
marks_alike f g each (w ∷ ws) [] (n ∷ ns) e = absurd (cc)
marks_alike f g each (w ∷ ws) (m ∷ ms) [] e = absurd (cc)
marks_alike f g each (w ∷ ws) (m ∷ ms) (n ∷ ns) e =
    let here : bare m ≡ bare n = cc in
    let rest : map bare ms ≡ map bare ns = cc in
    λ i. first_mark (each w m n (ap (λ (x : Mark). x.status) here) i) ∷ marks_alike f g each ws ms ns rest i

pub with_alike : (s t : State) (f g : Wish → Mark → Mark) → HaveEqualStatuses s t
    → ((w : Wish) (m n : Mark) → m.status ≡ n.status → (f w m).status ≡ (g w n).status)
    → HaveEqualStatuses (with_marks s f) (with_marks t g)
with_alike s t f g e each =
    let ws = ap (λ (u : State). u.dossier.wishes) e in
    let marks = marks_alike f g each s.dossier.wishes s.marks t.marks (ap (λ (u : State). u.marks) e)
    ∙ (λ i. map bare (map (λ (x : Wish × Mark). g x.0 x.1) (zip (ws i) t.marks))) in
    λ i. record { dossier = ap (λ (u : State). u.dossier) e i; marks = marks i }

-- and one that is set
set_alike : (s t : State) (place : ℕ) (m n : Mark) → HaveEqualStatuses s t → m.status ≡ n.status
    → HaveEqualStatuses (with_mark_at s place m) (with_mark_at t place n)
set_alike s t place m n e same =
    let one = map-set bare s.marks place m in
    let other = map-set bare t.marks place n in
    (λ i. record { dossier = lasting s.dossier; marks = one i })
    ∙ (λ i. with_mark_at (e i) place (first_mark (same i)))
    ∙ (λ i. record { dossier = lasting t.dossier; marks = sym other i })

unwrap_bare : (o : Option Mark)
    → unwrap_or (option_map bare o) (first_mark Waiting) ≡ bare (unwrap_or o (first_mark Waiting))
unwrap_bare None = refl
unwrap_bare (Some m) = refl

bare_at : (s : State) (place : ℕ) → mark_at (unstamped s) place ≡ bare (mark_at s place)
bare_at s place =
    ap (λ (o : Option Mark). unwrap_or o (first_mark Waiting)) (slice_get-map bare s.marks place)
    ∙ unwrap_bare (slice_get s.marks place)

same_status : (s : State) (place : ℕ) → status_at (unstamped s) place ≡ status_at s place
same_status s place = ap (λ (m : Mark). m.status) (bare_at s place)

status_at_alike : (s t : State) (place : ℕ) → HaveEqualStatuses s t → status_at s place ≡ status_at t place
status_at_alike s t place = read_alike (λ u. status_at u place) (λ u. same_status u place) s t

pub who_alike : (s t : State) (place : ℕ) → HaveEqualStatuses s t → candidate_at s place ≡ candidate_at t place
who_alike s t place e = ap (λ (u : State). candidate_at u place) e

-- ---- an answer
pub refused_alike : (s t : State) (c k : ℕ) (one other : Stamp) → HaveEqualStatuses s t → c ≡ k
    → HaveEqualStatuses (refuse_live s c one) (refuse_live t k other)
refused_alike s t c k one other e who =
    with_alike s t (λ w m. if is_live m && (w.candidate == c) then changed_to Refused one m else m)
    (λ w m. if is_live m && (w.candidate == k) then changed_to Refused other m else m) e
    (λ w m n same. status_alike (is_live m && (w.candidate == c)) (is_live n && (w.candidate == k)) Refused
    one other m n
    (λ i. is_live_status (same i) && (w.candidate == who i)) same)

set_to_alike : (s t u v : State) (place : ℕ) (x : Status) (one other : Stamp) → HaveEqualStatuses u v
    → HaveEqualStatuses (with_mark_at u place (changed_to x one (mark_at s place)))
    (with_mark_at v place (changed_to x other (mark_at t place)))
set_to_alike s t u v place x one other e =
    set_alike u v place (changed_to x one (mark_at s place)) (changed_to x other (mark_at t place)) e
    (changed_status x one (mark_at s place) ∙ sym (changed_status x other (mark_at t place)))

pub kind_alike : (kind : AnswerKind) (s t : State) (target : ℕ) (one other : Stamp) → HaveEqualStatuses s t
    → HaveEqualStatuses (after_kind kind s target one) (after_kind kind t target other)
kind_alike Accept s t target one other e =
    set_to_alike s t (refuse_live s (candidate_at s target) one) (refuse_live t (candidate_at t target) other) target
    Accepted one other
    (refused_alike s t (candidate_at s target) (candidate_at t target) one other e (who_alike s t target e))
kind_alike Refuse s t target one other e = set_to_alike s t s t target Refused one other e
kind_alike Withdraw s t target one other e = set_to_alike s t s t target Withdrawn one other e
kind_alike Quit s t c one other e =
    with_alike s t (λ w m. if (is_live m || is_waiting m) && (w.candidate == c) then changed_to HasQuit one m else m)
    (λ w m. if (is_live m || is_waiting m) && (w.candidate == c) then changed_to HasQuit other m else m) e
    (λ w m n same. status_alike ((is_live m || is_waiting m) && (w.candidate == c))
    ((is_live n || is_waiting n) && (w.candidate == c)) HasQuit one other m n
    (λ i. (is_live_status (same i) || is_waiting_status (same i)) && (w.candidate == c)) same)

-- answers whose days may differ
pub first_of : {X : Type 0} (x y : X) (xs ys : List X) → x ∷ xs ≡ y ∷ ys → x ≡ y
first_of x y xs ys e = cc

pub rest_of : {X : Type 0} (x y : X) (xs ys : List X) → x ∷ xs ≡ y ∷ ys → xs ≡ ys
rest_of x y xs ys e = cc

pub after_alike : (s t : State) (a b : Answer) (one other : Stamp) → HaveEqualStatuses s t → a.kind ≡ b.kind
    → a.target ≡ b.target
    → HaveEqualStatuses (after s one a) (after t other b)
after_alike s t a b one other e kind target =
    kind_alike a.kind s t a.target one other e ∙ (λ i. unstamped (after_kind (kind i) t (target i) other))

pub answers_alike : (s t : State) (one other : Stamp) (answers same : List Answer) → HaveEqualStatuses s t
    → undated answers ≡ undated same
    → HaveEqualStatuses (after_all s one answers) (after_all t other same)
answers_alike s t one other [] [] e they = e
answers_alike s t one other [] (b ∷ bs) e they = absurd (cc)
answers_alike s t one other (a ∷ rest) [] e they = absurd (cc)
answers_alike s t one other (a ∷ rest) (b ∷ bs) e they =
    let here = first_of _ _ (undated rest) (undated bs) they in
    let later_same = rest_of _ _ (undated rest) (undated bs) they in
    answers_alike (after s one a) (after t other b) one other rest bs
    (after_alike s t a b one other e (ap (λ (x : Answer). x.kind) here) (ap (λ (x : Answer). x.target) here)) later_same

pub unfit_alike : (k : ℕ) (s t : State) (one other : Stamp) (answers same : List Answer) → HaveEqualStatuses s t
    → undated answers ≡ undated same → first_unfit k s one answers ≡ first_unfit k t other same
unfit_alike k s t one other [] [] e they = refl
unfit_alike k s t one other [] (b ∷ bs) e they = absurd (cc)
unfit_alike k s t one other (a ∷ rest) [] e they = absurd (cc)
unfit_alike k s t one other (a ∷ rest) (b ∷ bs) e they =
    let here = first_of _ _ (undated rest) (undated bs) they in
    let later_same = rest_of _ _ (undated rest) (undated bs) they in
    let kind = ap (λ (x : Answer). x.kind) here in
    let target = ap (λ (x : Answer). x.target) here in
    let status : status_at s a.target ≡ status_at t b.target =
    status_at_alike s t a.target e ∙ ap (status_at t) target in
    let later = unfit_alike (k + 1) (after s one a) (after t other b) one other rest bs
    (after_alike s t a b one other e kind target) later_same in
    λ i. if kind_fits (kind i) (status i) then later i else Some (k, status i)

-- ---- the offers of a pass
pub offers_alike : (s t : State) (orders : List CallOrder) (bars : List ℕ) (one other : Stamp) → HaveEqualStatuses s t
    → HaveEqualStatuses (offered s orders bars one) (offered t orders bars other)
offers_alike s t orders bars one other e =
    with_alike s t (λ w m. if is_proposed s orders bars w m then changed_to Offered one m else m)
    (λ w m. if is_proposed t orders bars w m then changed_to Offered other m else m) e
    (λ w m n same. status_alike (is_proposed s orders bars w m) (is_proposed t orders bars w n) Offered one other m n
    (sym (same_proposed s orders bars w m) ∙ (λ i. is_proposed (e i) orders bars w (first_mark (same i)))
    ∙ same_proposed t orders bars w n) same)

-- ---- automatic answers
abbrev pub best_preference : Option (Wish × Mark) → Option ℕ
best_preference o = option_map (λ (x : Wish × Mark). x.0.preference) o

abbrev pub auto_by : Option ℕ → Wish → Status → Status
auto_by None w x = x
auto_by (Some best) w x = auto_status x (w.preference == best) (nat_lt best w.preference)

auto_is : (stamp : Stamp) (o : Option (Wish × Mark)) (w : Wish) (m : Mark)
    → (auto_mark stamp o w m).status ≡ auto_by (best_preference o) w m.status
auto_is stamp None w m = refl
auto_is stamp (Some best) w m = changed_status (auto_status m.status (w.preference == best.0.preference)
    (nat_lt best.0.preference w.preference)) stamp m

bare_preference : (o : Option (Wish × Mark)) → best_preference (option_map bare_entry o) ≡ best_preference o
bare_preference None = refl
bare_preference (Some x) = refl

pub preference_alike : (s t : State) (c : ℕ) → HaveEqualStatuses s t
    → best_preference (best_live s c) ≡ best_preference (best_live t c)
preference_alike s t c = read_alike (λ u. best_preference (best_live u c))
    (λ u. ap best_preference (same_best u c) ∙ bare_preference (best_live u c)) s t

pub autos_alike : (s t : State) (one other : Stamp) → HaveEqualStatuses s t
    → HaveEqualStatuses (auto_all s one) (auto_all t other)
autos_alike s t one other e =
    with_alike s t (λ w m. auto_mark one (best_live s w.candidate) w m)
    (λ w m. auto_mark other (best_live t w.candidate) w m) e
    (λ w m n same. auto_is one (best_live s w.candidate) w m
    ∙ (λ i. auto_by (preference_alike s t w.candidate e i) w (same i))
    ∙ sym (auto_is other (best_live t w.candidate) w n))
