-- What a pass, an answer, a lapse and an automatic answer can do to one mark.
use Rattle.std.proofs.Common.{ℕ, zero, suc, ◌≡◌, ◌⊎◌, Bool, true, false, not, ◌&&◌, ◌||◌, List, [], ◌∷◌, map, length}
use Rattle.std.proofs.Common.{Option, Some, None, inl, inr, refl, sym, ◌∙◌, ap, arith}
use Rattle.std.specs.Prelude.{ℤ, ◌==◌, if◌then◌else◌, nat_lt, slice_get, slice_index, unwrap_or, zip}
use Rattle.std.specs.List.{AllZip}
use Rattle.std.proofs.Math.ListN.{set}
use Rattle.std.proofs.lemmas.Bool.{and_parts, cases_Bool, eqb-true, false≢true}
use Rattle.admit_core.specs.declared.dossier.Answer.{Answer}
use Rattle.admit_core.specs.declared.dossier.AnswerKind.{AnswerKind}
use Rattle.admit_core.specs.declared.dossier.AnswerKind.TheVariants.{Accept, Refuse, Withdraw, Quit}
use Rattle.admit_core.specs.declared.dossier.Wish.{Wish}
use Rattle.admit_core.specs.declared.ranking.CallOrder.{CallOrder}
use Rattle.admit_core.specs.declared.records.Terms.{Terms}
use Rattle.admit_core.specs.declared.state.Mark.{Mark}
use Rattle.admit_core.specs.declared.state.Stamp.{Stamp}
use Rattle.admit_core.specs.declared.state.Status.{Status}
use Rattle.admit_core.specs.declared.state.Status.TheVariants.{Waiting, Offered, Accepted, Refused, Withdrawn}
use Rattle.admit_core.specs.declared.state.Status.TheVariants.{Quit as HasQuit, AutoRefused, AutoWithdrawn, Lapsed}
use Rattle.admit_core.specs.Answers.{after, after_kind, candidate_at, fits, kind_fits, mark_at, refuse_live}
use Rattle.admit_core.specs.AutoAnswer.{auto_all, auto_mark, auto_status, best_live}
use Rattle.admit_core.specs.Days.{offered}
use Rattle.admit_core.specs.Lapses.{is_offered, lapse, lapses}
use Rattle.admit_core.specs.Proposals.{is_barred, is_open, is_proposed}
use Rattle.admit_core.specs.State.{State, changed_to, entries, is_gone, is_live, is_live_status, is_waiting}
use Rattle.admit_core.specs.State.{is_waiting_status, with_marks}
use Rattle.admit_core.proofs.Holders.{entries_marked, marked_by}
use Rattle.admit_core.proofs.Statuses.{changed_status}

-- a mark that something was done to: it was not gone, it does not wait, and it is live only if it was
pub record IsTouched (m n : Mark) : Type 0 where
  pub not_gone : is_gone m ≡ false
  pub not_waiting : is_waiting n ≡ false
  pub lived : is_live n ≡ true → is_live m ≡ true

-- each entry of two lists names the same wish, and the marks are related
abbrev pub OfOneWish : (Wish → Mark → Mark → Type 0) → Wish × Mark → Wish × Mark → Type 0
OfOneWish T e f = (f.0 ≡ e.0) × T e.0 e.1 f.1

abbrev pub Marks : (Wish → Mark → Mark → Type 0) → State → State → Type 0
Marks T s t = AllZip (OfOneWish T) (entries s) (entries t)

-- a lapse and the automatic answers leave a mark or touch it; an answer touches marks of one candidate alone
abbrev pub KeptOrTouched : Wish → Mark → Mark → Type 0
KeptOrTouched w m n = (n ≡ m) ⊎ IsTouched m n

abbrev pub TouchedOf : ℕ → Wish → Mark → Mark → Type 0
TouchedOf c w m n = (n ≡ m) ⊎ ((w.candidate ≡ c) × IsTouched m n)

-- the offers of a pass leave a mark, or offer a wish that is proposed
abbrev pub KeptOrOffered : State → List CallOrder → List ℕ → Stamp → Wish → Mark → Mark → Type 0
KeptOrOffered s orders bars stamp w m n =
    ((is_proposed s orders bars w m ≡ false) × (n ≡ m)) ⊎ ((is_proposed s orders bars w m ≡ true) × (n ≡ changed_to
    Offered stamp m))

-- a lapse leaves a mark, or ends an offer
abbrev pub KeptOrLapsed : Wish → Mark → Mark → Type 0
KeptOrLapsed w m n = (n ≡ m) ⊎ ((is_offered m.status ≡ true) × (n.status ≡ Lapsed))

pub marks_imply : (T U : Wish → Mark → Mark → Type 0) → ((w : Wish) (m n : Mark) → T w m n → U w m n)
    → (xs ys : List (Wish × Mark)) → AllZip (OfOneWish T) xs ys → AllZip (OfOneWish U) xs ys
marks_imply T U h [] [] all = tt
marks_imply T U h [] (y ∷ ys) all = absurd all
marks_imply T U h (x ∷ xs) [] all = absurd all
marks_imply T U h (x ∷ xs) (y ∷ ys) all = ((all.0.0, h x.0 x.1 y.1 all.0.1), marks_imply T U h xs ys all.1)

-- marks that are given by wish and mark
mapped : (T : Wish → Mark → Mark → Type 0) (f : Wish → Mark → Mark) → ((w : Wish) (m : Mark) → T w m (f w m))
    → (xs : List (Wish × Mark)) → AllZip (OfOneWish T) xs (map (marked_by f) xs)
mapped T f each [] = tt
mapped T f each (x ∷ xs) = ((refl, each x.0 x.1), mapped T f each xs)

pub marked : (T : Wish → Mark → Mark → Type 0) (s : State) (f : Wish → Mark → Mark)
    → ((w : Wish) (m : Mark) → T w m (f w m)) → Marks T s (with_marks s f)
marked T s f each = rw (entries_marked s f) (mapped T f each (entries s))

-- and those in which one is set
one_set : (T : Wish → Mark → Mark → Type 0) (ws : List Wish) (ms ns : List Mark) (place : ℕ) (n : Mark)
    → AllZip (OfOneWish T) (zip ws ms) (zip ws ns)
    → ((w : Wish) (m : Mark) → slice_get ws place ≡ Some w → slice_get ms place ≡ Some m → T w m n)
    → AllZip (OfOneWish T) (zip ws ms) (zip ws (set ns place n))
one_set T [] ms ns place n all there = tt
one_set T (w ∷ ws) [] [] place n all there = tt
one_set T (w ∷ ws) [] (x ∷ ns) place n all there = absurd all
one_set T (w ∷ ws) (m ∷ ms) [] place n all there = absurd all
one_set T (w ∷ ws) (m ∷ ms) (x ∷ ns) zero n all there = ((refl, there w m refl refl), all.1)
one_set T (w ∷ ws) (m ∷ ms) (x ∷ ns) (suc place) n all there = (all.0, one_set T ws ms ns place n all.1 there)

-- who a wish at a place is of
who_at : (ws : List Wish) (k : ℕ) (w : Wish) → slice_get ws k ≡ Some w
    → slice_index (map (λ (v : Wish). v.candidate) ws) k ≡ w.candidate
who_at [] k w at = absurd (cc)
who_at (v ∷ ws) zero w at = ap (λ (o : Option Wish). (unwrap_or o v).candidate) at
who_at (v ∷ ws) (suc k) w at = who_at ws k w at

live_not_gone : (m : Mark) → is_live m ≡ true → is_gone m ≡ false
live_not_gone m live = rw live refl

pub waiting_not_gone : (a b : Bool) → b ≡ true → not (a || b) ≡ false
waiting_not_gone true b t = refl
waiting_not_gone false b t = rw t refl

-- a status that a mark is changed to
touched_by : (x : Status) (stamp : Stamp) (m : Mark) → is_gone m ≡ false → is_waiting_status x ≡ false
    → (is_live_status x ≡ true → is_live m ≡ true)
    → IsTouched m (changed_to x stamp m)
touched_by x stamp m not_gone waits_not lived =
    let is = changed_status x stamp m in
    record {
      not_gone = not_gone;
      not_waiting = ap is_waiting_status is ∙ waits_not;
      lived = λ lives. lived (sym (ap is_live_status is) ∙ lives);
    }

never : {P : Type 0} → false ≡ true → P
never e = absurd (false≢true e)

-- a lapse
offered_not_gone : (x : Status) (stamp : Stamp) → is_offered x ≡ true
    → is_gone (record { status = x; stamp = stamp }) ≡ false
offered_not_gone Waiting stamp t = refl
offered_not_gone Offered stamp t = refl
offered_not_gone Accepted stamp t = refl
offered_not_gone Refused stamp t = absurd (cc)
offered_not_gone Withdrawn stamp t = absurd (cc)
offered_not_gone HasQuit stamp t = absurd (cc)
offered_not_gone AutoRefused stamp t = absurd (cc)
offered_not_gone AutoWithdrawn stamp t = absurd (cc)
offered_not_gone Lapsed stamp t = absurd (cc)

pub touched_any : (c : ℕ) (w : Wish) (m n : Mark) → TouchedOf c w m n → KeptOrTouched w m n
touched_any c w m n (inl kept) = inl kept
touched_any c w m n (inr own) = inr own.1

pub lapsed_touched : (w : Wish) (m n : Mark) → KeptOrLapsed w m n → KeptOrTouched w m n
lapsed_touched w m n (inl kept) = inl kept
lapsed_touched w m n (inr ended) = inr (record {
  not_gone = offered_not_gone m.status m.stamp ended.0;
  not_waiting = ap is_waiting_status ended.1;
  lived = λ live. never (sym (ap is_live_status ended.1) ∙ live);
})

lapsed_at : (term day : ℕ) (stamp : Stamp) (before : ℤ) (m : Mark)
    → (w : Wish) → KeptOrLapsed w m (if lapses term day before m then changed_to Lapsed stamp m else m)
lapsed_at term day stamp before m w =
    elim (cases_Bool (lapses term day before m)) [
      | inl over ↦ rw over (inr ((and_parts (is_offered m.status) _ over).0, changed_status Lapsed stamp m))
      | inr stands ↦ rw stands (inl refl)
    ]

lapsed_marks : (term day : ℕ) (stamp : Stamp) (ws : List Wish) (bs : List ℤ) (ms : List Mark) → length bs ≡ length ws
    → AllZip (OfOneWish KeptOrLapsed) (zip ws ms)
    (zip ws (map (λ (x : ℤ × Mark). if lapses term day x.0 x.1 then changed_to Lapsed stamp x.1 else x.1)
    (zip bs ms)))
lapsed_marks term day stamp [] bs ms long = tt
lapsed_marks term day stamp (w ∷ ws) [] ms long = absurd (omega (arith, long))
lapsed_marks term day stamp (w ∷ ws) (b ∷ bs) [] long = tt
lapsed_marks term day stamp (w ∷ ws) (b ∷ bs) (m ∷ ms) long =
    ((refl, lapsed_at term day stamp b m w), lapsed_marks term day stamp ws bs ms (omega (arith, long)))

pub a_lapse : (t : Terms) (day : ℕ) (s : State) → length t.before ≡ length s.dossier.wishes
    → Marks KeptOrLapsed s (lapse t day s)
a_lapse t day s long = lapsed_marks t.term day (record { day = day; pass = 0 }) s.dossier.wishes t.before s.marks long

-- an answer, by its kind
abbrev pub of_kind : AnswerKind → State → ℕ → ℕ
of_kind Accept s target = candidate_at s target
of_kind Refuse s target = candidate_at s target
of_kind Withdraw s target = candidate_at s target
of_kind Quit s target = target

refused_one : (c : ℕ) (stamp : Stamp) (w : Wish) (m : Mark) → TouchedOf c w m
    (if is_live m && (w.candidate == c) then changed_to Refused stamp m else m)
refused_one c stamp w m =
    elim (cases_Bool (is_live m && (w.candidate == c))) [
      | inl own ↦
          let parts = and_parts (is_live m) (w.candidate == c) own in
          rw own (inr (
            eqb-true w.candidate c parts.1,
            touched_by Refused stamp m (live_not_gone m parts.0) refl
                (λ e. never e),
          ))
      | inr other ↦ rw other (inl refl)
    ]

quit_one : (c : ℕ) (stamp : Stamp) (w : Wish) (m : Mark) → TouchedOf c w m
    (if (is_live m || is_waiting m) && (w.candidate == c) then changed_to HasQuit stamp m else m)
quit_one c stamp w m =
    elim (cases_Bool ((is_live m || is_waiting m) && (w.candidate == c))) [
      | inl own ↦
          let parts = and_parts (is_live m || is_waiting m) (w.candidate == c) own in
          rw own (inr (eqb-true w.candidate c parts.1, touched_by HasQuit stamp m (ap not parts.0) refl (λ e. never e)))
      | inr other ↦ rw other (inl refl)
    ]

-- a wish at the place that an answer speaks of
module _ (s : State) (place : ℕ) (stamp : Stamp) (x : Status) (w : Wish) (m : Mark)
    (there : slice_get s.dossier.wishes place ≡ Some w) (marked_there : slice_get s.marks place ≡ Some m) where
  mark_is : mark_at s place ≡ m
  mark_is = ap (λ (o : Option Mark). unwrap_or o (record { status = Waiting; stamp = record { day = 0; pass = 0 } }))
      marked_there

  live_answered : is_live (mark_at s place) ≡ true → is_waiting_status x ≡ false
      → TouchedOf (candidate_at s place) w m (changed_to x stamp (mark_at s place))
  live_answered live waits_not =
      let lives : is_live m ≡ true = ap is_live (sym mark_is) ∙ live in
      rw mark_is (inr (
        sym (who_at s.dossier.wishes place w there),
        touched_by x stamp m (live_not_gone m lives) waits_not
            (λ e. lives),
      ))

  withdrawn : is_waiting (mark_at s place) ≡ true → TouchedOf (candidate_at s place) w m
      (changed_to Withdrawn stamp (mark_at s place))
  withdrawn waits =
      let waited : is_waiting m ≡ true = ap is_waiting (sym mark_is) ∙ waits in
      rw mark_is (inr (
        sym (who_at s.dossier.wishes place w there),
        touched_by Withdrawn stamp m
            (waiting_not_gone (is_live m) (is_waiting m) waited) refl (λ e. never e),
      ))

kept_all : (T : Wish → Mark → Mark → Type 0) → ((w : Wish) (m : Mark) → T w m m) → (xs : List (Wish × Mark))
    → AllZip (OfOneWish T) xs xs
kept_all T keep [] = tt
kept_all T keep (x ∷ xs) = ((refl, keep x.0 x.1), kept_all T keep xs)

by_kind : (kind : AnswerKind) (s : State) (target : ℕ) (stamp : Stamp) → kind_fits kind (mark_at s target).status ≡ true
    → Marks (TouchedOf (of_kind kind s target)) s (after_kind kind s target stamp)
by_kind Accept s target stamp fit =
    let c = candidate_at s target in
    one_set (TouchedOf c) s.dossier.wishes s.marks (refuse_live s c stamp).marks target
    (changed_to Accepted stamp (mark_at s target))
    (marked (TouchedOf c) s (λ w m. if is_live m && (w.candidate == c) then changed_to Refused stamp m else m)
    (refused_one c stamp))
    (λ w m there marked_there. live_answered s target stamp Accepted w m there marked_there fit refl)
by_kind Refuse s target stamp fit =
    let c = candidate_at s target in
    one_set (TouchedOf c) s.dossier.wishes s.marks s.marks target (changed_to Refused stamp (mark_at s target))
    (kept_all (TouchedOf c) (λ w m. inl refl) (entries s))
    (λ w m there marked_there. live_answered s target stamp Refused w m there marked_there fit refl)
by_kind Withdraw s target stamp fit =
    let c = candidate_at s target in
    one_set (TouchedOf c) s.dossier.wishes s.marks s.marks target (changed_to Withdrawn stamp (mark_at s target))
    (kept_all (TouchedOf c) (λ w m. inl refl) (entries s))
    (λ w m there marked_there. withdrawn s target stamp Withdrawn w m there marked_there fit)
by_kind Quit s target stamp fit =
    marked (TouchedOf target) s
    (λ w m. if (is_live m || is_waiting m) && (w.candidate == target) then changed_to HasQuit stamp m else m)
    (quit_one target stamp)

pub an_answer : (s : State) (stamp : Stamp) (a : Answer) → fits s a ≡ true
    → Marks (TouchedOf (of_kind a.kind s a.target)) s (after s stamp a)
an_answer s stamp a fit = by_kind a.kind s a.target stamp fit

-- automatic answers
auto_status_touches : (x : Status) (is_best is_behind : Bool) (stamp old : Stamp)
    → let m : Mark =
    record { status = x; stamp = old } in (changed_to (auto_status x is_best is_behind) stamp m ≡ m) ⊎ IsTouched m
    (changed_to (auto_status x is_best is_behind) stamp m)
auto_status_touches Waiting is_best true stamp old =
    inr (record { not_gone = refl; not_waiting = refl; lived = λ e. never e })
auto_status_touches Waiting is_best false stamp old = inl refl
auto_status_touches Offered true is_behind stamp old =
    inr (record { not_gone = refl; not_waiting = refl; lived = λ e. refl })
auto_status_touches Offered false is_behind stamp old =
    inr (record { not_gone = refl; not_waiting = refl; lived = λ e. refl })
auto_status_touches Accepted true is_behind stamp old = inl refl
auto_status_touches Accepted false is_behind stamp old =
    inr (record { not_gone = refl; not_waiting = refl; lived = λ e. refl })
auto_status_touches Refused is_best is_behind stamp old = inl refl
auto_status_touches Withdrawn is_best is_behind stamp old = inl refl
auto_status_touches HasQuit is_best is_behind stamp old = inl refl
auto_status_touches AutoRefused is_best is_behind stamp old = inl refl
auto_status_touches AutoWithdrawn is_best is_behind stamp old = inl refl
auto_status_touches Lapsed is_best is_behind stamp old = inl refl

auto_touches : (stamp : Stamp) (best : Option (Wish × Mark)) (w : Wish) (m : Mark)
    → KeptOrTouched w m (auto_mark stamp best w m)
auto_touches stamp None w m = inl refl
auto_touches stamp (Some best) w m = auto_status_touches m.status (w.preference == best.0.preference)
    (nat_lt best.0.preference w.preference) stamp m.stamp

pub automatic_answers : (s : State) (stamp : Stamp) → Marks KeptOrTouched s (auto_all s stamp)
automatic_answers s stamp = marked KeptOrTouched s (λ w m. auto_mark stamp (best_live s w.candidate) w m)
    (λ w m. auto_touches stamp (best_live s w.candidate) w m)

-- the offers of a pass
pub offers_of_a_pass : (s : State) (orders : List CallOrder) (bars : List ℕ) (stamp : Stamp)
    → Marks (KeptOrOffered s orders bars stamp) s (offered s orders bars stamp)
offers_of_a_pass s orders bars stamp =
    marked (KeptOrOffered s orders bars stamp) s
    (λ w m. if is_proposed s orders bars w m then changed_to Offered stamp m else m)
    (λ w m. elim (cases_Bool (is_proposed s orders bars w m)) [
      | inl given ↦ rw given (inr (refl, refl))
      | inr none ↦
          rw none (inl (refl, refl))
    ])

-- who is proposed waits, and waits behind no bar
pub proposed_open : (s : State) (orders : List CallOrder) (bars : List ℕ) (w : Wish) (m : Mark)
    → is_proposed s orders bars w m ≡ true
    → (is_waiting m ≡ true) × (not (is_barred s bars w m) ≡ true)
proposed_open s orders bars w m offers = and_parts (is_waiting m) (not (is_barred s bars w m))
    (and_parts (is_open s bars w m) _ offers).0
