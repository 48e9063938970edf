-- What a candidate's wishes become depends on their own answers alone.
use Rattle.std.proofs.Common.{ℕ, ◌+◌, ◌≤◌, ◌<◌, ◌≡◌, Bool, true, false, ◌&&◌, ◌||◌, List, [], ◌∷◌, ◌++◌, map, length}
use Rattle.std.proofs.Common.{filter, inl, inr, refl, sym, ◌∙◌, ap, arith, zero, suc, Some, None}
use Rattle.std.specs.Prelude.{slice_index, ◌==◌, if◌then◌else◌}
use Rattle.std.proofs.lemmas.Bool.{cases_Bool, cases_eq, cases_lt, and_parts, and_from, eqb-true, eqb-false, eq-eqb}
use Rattle.std.proofs.lemmas.Bool.{ne_eqb, and_right}
use Rattle.std.proofs.lemmas.List.{length-set}
use Rattle.admit_core.specs.declared.dossier.Answer.{Answer}
use Rattle.admit_core.specs.declared.dossier.AnswerKind.{AnswerKind}
use Rattle.admit_core.specs.declared.dossier.AnswerKind.TheVariants.{Accept, Refuse, Withdraw, Quit}
use Rattle.admit_core.specs.declared.dossier.Wish.{Wish}
use Rattle.admit_core.specs.declared.state.Mark.{Mark}
use Rattle.admit_core.specs.declared.state.Stamp.{Stamp}
use Rattle.admit_core.specs.declared.state.Status.{Status}
use Rattle.admit_core.specs.declared.state.Status.TheVariants.{Accepted, Refused, Withdrawn, Quit as HasQuit}
use Rattle.admit_core.specs.State.{State, with_mark_at, with_marks, is_live, is_waiting, is_live_status}
use Rattle.admit_core.specs.State.{is_waiting_status, changed_to}
use Rattle.admit_core.specs.Answers.{mark_at, candidate_at, refuse_live, after_kind, after, after_all, is_own_kind, own}
use Rattle.admit_core.specs.Answers.{status_at, kind_fits, fits, first_unfit}
use Rattle.day_state.specs.Kept.{mark_in, wish_in}
use Rattle.admit_core.specs.DossierRows.{DossierRows}
use Rattle.day_state.specs.Laws.{AnswersStayApart, FitsApart, OrderIsFree, MayExchange}
use Rattle.day_state.proofs.Answering.{dossier_after}
use Rattle.day_state.proofs.Places.{candidate_in}
use Rattle.day_state.proofs.Along.{mark_in-with_marks, length-with_marks, mark_in-set_same, mark_in-set_other}
use Rattle.day_state.proofs.Along.{same_state, same_marks}
use Rattle.day_state.proofs.OneAccepted.{who}

-- two states of one dossier in which the wishes of a candidate have the same marks
pub record Agrees (c : ℕ) (s t : State) : Type 0 where
  pub dossier : t.dossier ≡ s.dossier
  pub long : length s.marks ≡ length s.dossier.wishes
  pub long_too : length t.marks ≡ length s.dossier.wishes
  pub same : (k : ℕ) → k < length s.dossier.wishes → who s k ≡ c → mark_in s.marks k ≡ mark_in t.marks k

pub agrees_self : (c : ℕ) (s : State) → length s.marks ≡ length s.dossier.wishes → Agrees c s s
agrees_self c s long = record { dossier = refl; long = long; long_too = long; same = λ k lt own. refl }

-- a change at a place of another candidate
set_other : (c : ℕ) (s t : State) (place : ℕ) (m : Mark) → Agrees c s t → (who s place ≡ c → ⊥)
    → Agrees c (with_mark_at s place m) t
set_other c s t place m a other = record {
  dossier = a.dossier;
  long = length-set s.marks place m ∙ a.long;
  long_too = a.long_too;
  same = λ k lt own. mark_in-set_other s.marks place k m (λ e. other (rw e at own)) ∙ a.same k lt own;
}

-- a change at the same place to the same mark
set_both : (c : ℕ) (s t : State) (place : ℕ) (m n : Mark) → Agrees c s t
    → (place < length s.dossier.wishes → who s place ≡ c → m ≡ n)
    → Agrees c (with_mark_at s place m) (with_mark_at t place n)
set_both c s t place m n a same = record {
  dossier = a.dossier;
  long = length-set s.marks place m ∙ a.long;
  long_too = length-set t.marks place n ∙ a.long_too;
  same = λ k lt own. elim (cases_eq k place) [
    | inl here ↦
        let place_in : place < length s.dossier.wishes = rw here at lt in
        rw (
          here,
          mark_in-set_same s.marks place m (omega (arith, a.long)),
          mark_in-set_same t.marks place n (omega (arith, a.long_too)),
        ) (same place_in (rw here at own))
    | inr there ↦ rw (mark_in-set_other s.marks place k m there, mark_in-set_other t.marks place k n there)
        (a.same k lt own)
  ];
}

-- a change of all marks that leaves those of the candidate
all_other : (c : ℕ) (s t : State) (f : Wish → Mark → Mark) → Agrees c s t
    → ((w : Wish) (m : Mark) → w.candidate ≡ c → f w m ≡ m) → Agrees c (with_marks s f) t
all_other c s t f a leaves = record {
  dossier = a.dossier;
  long = length-with_marks f s a.long ∙ a.long;
  long_too = a.long_too;
  same = λ k lt own. mark_in-with_marks f s a.long k (omega (arith, a.long))
      ∙ leaves (wish_in s.dossier.wishes k) (mark_in s.marks k) own ∙ a.same k lt own;
}

-- the same change of all marks
all_both : (c : ℕ) (s t : State) (f : Wish → Mark → Mark) → Agrees c s t → Agrees c (with_marks s f) (with_marks t f)
all_both c s t f a =
    let t_long : length t.marks ≡ length t.dossier.wishes = rw a.dossier a.long_too in
    record {
      dossier = a.dossier;
      long = length-with_marks f s a.long ∙ a.long;
      long_too = length-with_marks f t t_long ∙ a.long_too;
      same = λ k lt own.
          mark_in-with_marks f s a.long k (omega (arith, a.long))
          ∙ rw (a.same k lt own, ← a.dossier) refl
          ∙ sym (mark_in-with_marks f t t_long k (omega (arith, a.long_too)));
    }

not_own : (b : Bool) (x y c : ℕ) (m n : Mark) → x ≡ c → (y == c) ≡ false → (if b && (x == y) then m else n) ≡ n
not_own b x y c m n e differ = rw (e, ne_eqb c y (λ same. eqb-false y c differ (sym same)), and_right b false refl) refl

of_place : (s : State) (place c : ℕ) → (candidate_at s place == c) ≡ false → who s place ≡ c → ⊥
of_place s place c differ same = eqb-false (candidate_at s place) c differ (candidate_in s.dossier.wishes place ∙ same)

-- an answer of another candidate
pub other_answer : (c : ℕ) (s t : State) (stamp : Stamp) (kind : AnswerKind) (target : ℕ) → Agrees c s t
    → is_own_kind kind s c target ≡ false → Agrees c (after_kind kind s target stamp) t
other_answer c s t stamp Accept target a other =
    let x = candidate_at s target in
    set_other c (refuse_live s x stamp) t target (changed_to Accepted stamp (mark_at s target))
    (all_other c s t (λ w m. if is_live m && (w.candidate == x) then changed_to Refused stamp m else m) a
    (λ w m own. not_own (is_live m) w.candidate x c (changed_to Refused stamp m) m own other))
    (of_place s target c other)
other_answer c s t stamp Refuse target a other =
    set_other c s t target (changed_to Refused stamp (mark_at s target)) a (of_place s target c other)
other_answer c s t stamp Withdraw target a other =
    set_other c s t target (changed_to Withdrawn stamp (mark_at s target)) a (of_place s target c other)
other_answer c s t stamp Quit target a other =
    all_other c s t (λ w m. if (is_live m || is_waiting m)
    && (w.candidate == target) then changed_to HasQuit stamp m else m) a
    (λ w m own. not_own (is_live m || is_waiting m) w.candidate target c (changed_to HasQuit stamp m) m own other)

-- an answer in both states
pub same_answer : (c : ℕ) (s t : State) (stamp : Stamp) (kind : AnswerKind) (target : ℕ) → Agrees c s t
    → Agrees c (after_kind kind s target stamp) (after_kind kind t target stamp)
same_answer c s t stamp Accept target a =
    let x = candidate_at s target in
    rw (ap (λ d. slice_index (map (λ w. w.candidate) d.wishes) target) a.dossier)
    (set_both c (refuse_live s x stamp) (refuse_live t x stamp) target (changed_to Accepted stamp (mark_at s target))
    (changed_to Accepted stamp (mark_at t target))
    (all_both c s t (λ w m. if is_live m && (w.candidate == x) then changed_to Refused stamp m else m) a)
    (λ lt own. ap (changed_to Accepted stamp) (a.same target lt own)))
same_answer c s t stamp Refuse target a =
    set_both c s t target (changed_to Refused stamp (mark_at s target)) (changed_to Refused stamp (mark_at t target))
    a (λ lt own. ap (changed_to Refused stamp) (a.same target lt own))
same_answer c s t stamp Withdraw target a =
    set_both c s t target (changed_to Withdrawn stamp (mark_at s target))
    (changed_to Withdrawn stamp (mark_at t target)) a
    (λ lt own. ap (changed_to Withdrawn stamp) (a.same target lt own))
same_answer c s t stamp Quit target a = all_both c s t
    (λ w m. if (is_live m || is_waiting m) && (w.candidate == target) then changed_to HasQuit stamp m else m) a

-- whose answer it is depends on the dossier alone
own_same : (s t : State) (c : ℕ) (kind : AnswerKind) (target : ℕ) → t.dossier ≡ s.dossier
    → is_own_kind kind t c target ≡ is_own_kind kind s c target
own_same s t c Accept target e = rw e refl
own_same s t c Refuse target e = rw e refl
own_same s t c Withdraw target e = rw e refl
own_same s t c Quit target e = refl

pub dossier_after_all : (s : State) (stamp : Stamp) (answers : List Answer)
    → (after_all s stamp answers).dossier ≡ s.dossier
dossier_after_all s stamp [] = refl
dossier_after_all s stamp (a ∷ rest) = dossier_after_all (after s stamp a) stamp rest
    ∙ dossier_after s stamp a.kind a.target

pub agrees_after : (c : ℕ) (first s t : State) (stamp : Stamp) → s.dossier ≡ first.dossier → Agrees c s t
    → (answers : List Answer)
    → Agrees c (after_all s stamp answers) (after_all t stamp (own first c answers))
agrees_after c first s t stamp e a [] = a
agrees_after c first s t stamp e a (x ∷ rest) =
    elim (cases_Bool (is_own_kind x.kind first c x.target)) [
      | inl mine ↦ rw mine (agrees_after c first (after s stamp x) (after t stamp x) stamp
          (dossier_after s stamp x.kind x.target ∙ e) (same_answer c s t stamp x.kind x.target a) rest)
      | inr other ↦ rw other (agrees_after c first (after s stamp x) t stamp
          (dossier_after s stamp x.kind x.target ∙ e)
          (other_answer c s t stamp x.kind x.target a (own_same first s c x.kind x.target e ∙ other)) rest)
    ]

pub answers_stay_apart : AnswersStayApart
answers_stay_apart s stamp answers long c place lt own_place =
    let a = agrees_after c s s s stamp refl (agrees_self c s long) answers in
    a.same place (rw (dossier_after_all s stamp answers) lt)
    (ap (λ (d : DossierRows). (wish_in d.wishes place).candidate) (dossier_after_all s stamp answers)
    ∙ sym (candidate_in s.dossier.wishes place) ∙ own_place)

pub some_not : (x : ℕ × Status) → Some x ≡ None → ⊥
some_not x e = (cc)

mark_past : (ms : List Mark) (k : ℕ) → length ms ≤ k → mark_in ms k ≡ mark_in [] 0
mark_past [] k le = refl
mark_past (m ∷ ms) zero le = absurd (omega arith)
mark_past (m ∷ ms) (suc k) le = mark_past ms k (omega arith)

-- the wish that an answer speaks of has one mark in both
same_target : (c : ℕ) (s t : State) (place : ℕ) → Agrees c s t → who s place ≡ c
    → mark_in s.marks place ≡ mark_in t.marks place
same_target c s t place a own =
    elim (cases_lt place (length s.dossier.wishes)) [
      | inl inside ↦ a.same place inside own
      | inr past ↦ mark_past s.marks place (omega (arith, a.long))
          ∙ sym (mark_past t.marks place (omega (arith, a.long_too)))
    ]

same_fit : (c : ℕ) (s t : State) (kind : AnswerKind) (target : ℕ) → Agrees c s t → is_own_kind kind s c target ≡ true
    → kind_fits kind (status_at s target) ≡ kind_fits kind (status_at t target)
same_fit c s t Accept target a own = ap (λ (m : Mark). is_live_status m.status)
    (same_target c s t target a (sym (candidate_in s.dossier.wishes target) ∙ eqb-true (candidate_at s target) c own))
same_fit c s t Refuse target a own = ap (λ (m : Mark). is_live_status m.status)
    (same_target c s t target a (sym (candidate_in s.dossier.wishes target) ∙ eqb-true (candidate_at s target) c own))
same_fit c s t Withdraw target a own = ap (λ (m : Mark). is_waiting_status m.status)
    (same_target c s t target a (sym (candidate_in s.dossier.wishes target) ∙ eqb-true (candidate_at s target) c own))
same_fit c s t Quit target a own = refl

-- each answer fits where it comes
abbrev pub all_fit : State → Stamp → List Answer → Bool
all_fit s stamp [] = true
all_fit s stamp (a ∷ rest) = fits s a && all_fit (after s stamp a) stamp rest

pub none_from_fit : (k : ℕ) (s : State) (stamp : Stamp) (answers : List Answer) → all_fit s stamp answers ≡ true
    → first_unfit k s stamp answers ≡ None
none_from_fit k s stamp [] t = refl
none_from_fit k s stamp (a ∷ rest) t =
    let parts = and_parts (fits s a) (all_fit (after s stamp a) stamp rest) t in
    rw parts.0 (none_from_fit (k + 1) (after s stamp a) stamp rest parts.1)

pub fit_from_none : (k : ℕ) (s : State) (stamp : Stamp) (answers : List Answer)
    → first_unfit k s stamp answers ≡ None → all_fit s stamp answers ≡ true
fit_from_none k s stamp [] e = refl
fit_from_none k s stamp (a ∷ rest) e =
    elim (cases_Bool (fits s a)) [
      | inl fit ↦ rw fit (fit_from_none (k + 1) (after s stamp a) stamp rest (rw fit at e))
      | inr unfit ↦ absurd (some_not (k, status_at s a.target) (rw unfit at e))
    ]

own_fit : (c : ℕ) (first s t : State) (stamp : Stamp) → s.dossier ≡ first.dossier → Agrees c s t
    → (answers : List Answer)
    → all_fit s stamp answers ≡ true → all_fit t stamp (own first c answers) ≡ true
own_fit c first s t stamp e a [] u = refl
own_fit c first s t stamp e a (x ∷ rest) u =
    let parts = and_parts (fits s x) (all_fit (after s stamp x) stamp rest) u in
    elim (cases_Bool (is_own_kind x.kind first c x.target)) [
      | inl mine ↦ rw mine (and_from (fits t x) (all_fit (after t stamp x) stamp (own first c rest))
          (sym (same_fit c s t x.kind x.target a (own_same first s c x.kind x.target e ∙ mine)) ∙ parts.0)
          (own_fit c first (after s stamp x) (after t stamp x) stamp (dossier_after s stamp x.kind x.target ∙ e)
          (same_answer c s t stamp x.kind x.target a) rest parts.1))
      | inr other ↦ rw other (own_fit c first (after s stamp x) t stamp (dossier_after s stamp x.kind x.target ∙ e)
          (other_answer c s t stamp x.kind x.target a (own_same first s c x.kind x.target e ∙ other)) rest parts.1)
    ]

-- whose answer it is
abbrev owner : State → AnswerKind → ℕ → ℕ
owner s Accept target = candidate_at s target
owner s Refuse target = candidate_at s target
owner s Withdraw target = candidate_at s target
owner s Quit target = target

owner_is : (s : State) (kind : AnswerKind) (target : ℕ) → is_own_kind kind s (owner s kind target) target ≡ true
owner_is s Accept target = eq-eqb (candidate_at s target) (candidate_at s target) refl
owner_is s Refuse target = eq-eqb (candidate_at s target) (candidate_at s target) refl
owner_is s Withdraw target = eq-eqb (candidate_at s target) (candidate_at s target) refl
owner_is s Quit target = eq-eqb target target refl

-- each candidate's own state after an answer
abbrev next_of : State → Stamp → Answer → (ℕ → State) → ℕ → State
next_of first stamp x t c = if is_own_kind x.kind first c x.target then after (t c) stamp x else t c

fit_from_own : (first s : State) (t : ℕ → State) (stamp : Stamp) → s.dossier ≡ first.dossier
    → ((c : ℕ) → Agrees c s (t c)) → (answers : List Answer)
    → ((c : ℕ) → all_fit (t c) stamp (own first c answers) ≡ true) → all_fit s stamp answers ≡ true
fit_from_own first s t stamp e a [] u = refl
fit_from_own first s t stamp e a (x ∷ rest) u =
    let c = owner first x.kind x.target in
    let mine = owner_is first x.kind x.target in
    let here = and_parts (fits (t c) x) (all_fit (after (t c) stamp x) stamp (own first c rest)) (rw mine at (u c)) in
    and_from (fits s x) (all_fit (after s stamp x) stamp rest)
    (same_fit c s (t c) x.kind x.target (a c) (own_same first s c x.kind x.target e ∙ mine) ∙ here.0)
    (fit_from_own first (after s stamp x) (next_of first stamp x t) stamp (dossier_after s stamp x.kind x.target ∙ e)
    (λ d. elim (cases_Bool (is_own_kind x.kind first d x.target)) [
      | inl own_one ↦ rw own_one (same_answer d s (t d) stamp x.kind x.target (a d))
      | inr other ↦ rw other (other_answer d s (t d) stamp x.kind x.target (a d)
          (own_same first s d x.kind x.target e ∙ other))
    ])
    rest
    (λ d. elim (cases_Bool (is_own_kind x.kind first d x.target)) [
      | inl own_one ↦ let v = and_parts (fits (t d) x) (all_fit (after (t d) stamp x) stamp (own first d rest))
          (rw own_one at (u d)) in rw own_one v.1
      | inr other ↦ rw other (rw other at (u d))
    ]))

pub fits_apart : FitsApart
fits_apart s stamp answers long = (
  λ e c. none_from_fit 0 s stamp (own s c answers)
      (own_fit c s s s stamp refl (agrees_self c s long) answers (fit_from_none 0 s stamp answers e)),
  λ each. none_from_fit 0 s stamp answers
      (fit_from_own s s (λ c. s) stamp refl (λ c. agrees_self c s long) answers
      (λ c. fit_from_none 0 s stamp (own s c answers) (each c))),
)

pub order_is_free : OrderIsFree
order_is_free s stamp one other long same =
    let end = after_all s stamp one in
    let end_too = after_all s stamp other in
    let dossier : end.dossier ≡ s.dossier = dossier_after_all s stamp one in
    let dossier_too : end_too.dossier ≡ s.dossier = dossier_after_all s stamp other in
    let long_one : length end.marks ≡ length s.dossier.wishes =
    (agrees_after 0 s s s stamp refl (agrees_self 0 s long) one).long
    ∙ ap (λ (d : DossierRows). length d.wishes) dossier in
    let long_other : length end_too.marks ≡ length s.dossier.wishes =
    (agrees_after 0 s s s stamp refl (agrees_self 0 s long) other).long
    ∙ ap (λ (d : DossierRows). length d.wishes) dossier_too in
    record {
      state = same_state end end_too (dossier ∙ sym dossier_too)
          (same_marks end.marks end_too.marks (long_one ∙ sym long_other) (λ k lt.
          let c = candidate_at s k in
          let k_in : k < length s.dossier.wishes = omega (arith, lt, long_one) in
          answers_stay_apart s stamp one long c k k_in refl
          ∙ ap (λ (l : List Answer). mark_at (after_all s stamp l) k) (same c)
          ∙ sym (answers_stay_apart s stamp other long c k k_in refl)));
      fits = (
        λ e. (fits_apart s stamp other long).1 (λ c. rw (← same c) ((fits_apart s stamp one long).0 e c)),
        λ e. (fits_apart s stamp one long).1 (λ c. rw (same c) ((fits_apart s stamp other long).0 e c)),
      );
    }

swapped : {X : Type 0} (p : X → Bool) (front : List X) (a b : X) (rest : List X) → (p a ≡ true → p b ≡ true → ⊥)
    → filter p (front ++ a ∷ b ∷ rest) ≡ filter p (front ++ b ∷ a ∷ rest)
swapped p [] a b rest apart =
    elim (cases_Bool (p a)) [
      | inl first ↦ elim (cases_Bool (p b)) [
        | inl second ↦ absurd (apart first second)
        | inr second ↦ rw (first, second) refl
      ]
      | inr first ↦ rw first refl
    ]
swapped p (x ∷ front) a b rest apart = rw (swapped p front a b rest apart) refl

pub may_exchange : MayExchange
may_exchange s stamp front a b rest long apart =
    order_is_free s stamp (front ++ a ∷ b ∷ rest) (front ++ b ∷ a ∷ rest) long
    (λ c. swapped (λ (x : Answer). is_own_kind x.kind s c x.target) front a b rest (apart c))
