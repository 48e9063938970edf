-- What is yours stays, and automatic answers climb.
use Rattle.std.proofs.Common.{ℕ, ◌≤◌, ◌≡◌, ◌⊎◌, Bool, true, false, ◌&&◌, filter, List, [], ◌∷◌, length, Option, Some}
use Rattle.std.proofs.Common.{None, inl, inr, refl, sym, ◌∙◌, ap, subst, arith, nat_eq, nat_lt, get_or, zip}
use Rattle.std.specs.Prelude.{IsSome, ◌==◌, nat_le, unwrap_or}
use Rattle.std.specs.List.{AllByRecursion, AllZip, list_any}
use Rattle.std.proofs.lemmas.Bool.{and_from, and_parts, both_ways, cases_Bool, eq-eqb, eqb-true, false≢true, leb-false}
use Rattle.std.proofs.lemmas.Bool.{leb-true, le-leb, ltb-true, or_cases, or_left, or_right}
use Rattle.std.proofs.lemmas.List.Elements.{recursion_from_All}
use Rattle.admit_core.specs.declared.dossier.Answer.{Answer}
use Rattle.admit_core.specs.declared.dossier.AnswerKind.{AnswerKind}
use Rattle.admit_core.specs.declared.dossier.AnswerKind.TheVariants.{Accept, Refuse, Withdraw, Quit}
use Rattle.admit_core.specs.declared.dossier.Wish.{Wish}
use Rattle.admit_core.specs.declared.ranking.CallOrder.{CallOrder}
use Rattle.admit_core.specs.declared.records.DayRecord.{DayRecord}
use Rattle.admit_core.specs.declared.records.Terms.{Terms}
use Rattle.admit_core.specs.declared.state.Mark.{Mark}
use Rattle.admit_core.specs.declared.state.Stamp.{Stamp}
use Rattle.admit_core.specs.declared.state.Status.{Status}
use Rattle.admit_core.specs.declared.state.Status.TheVariants.{Waiting, Offered, Accepted, Refused, Withdrawn}
use Rattle.admit_core.specs.declared.state.Status.TheVariants.{Quit as HasQuit, AutoRefused, AutoWithdrawn, Lapsed}
use Rattle.admit_core.specs.Answers.{after, is_own_kind, own}
use Rattle.admit_core.specs.AutoAnswer.{auto_all, auto_mark, auto_status, best_live}
use Rattle.admit_core.specs.Days.{answers_of, offered}
use Rattle.admit_core.specs.DossierRows.{DossierRows}
use Rattle.admit_core.specs.Lapses.{AreTermsFor, is_offered, lapse}
use Rattle.admit_core.specs.Lists.{least_by, lesser}
use Rattle.admit_core.specs.Relations.{is_accepted}
use Rattle.admit_core.specs.State.{State, entries, is_live, is_live_status, is_waiting_status}
use Rattle.admit_core.proofs.Holders.{entries_marked, marked_by}
use Rattle.admit_core.proofs.Plain.{any-filter, any-map}
use Rattle.admit_core.proofs.Remaining.{least_passes}
use Rattle.admit_core.proofs.Statuses.{status_of_auto}
use Rattle.admit_core.proofs.Tests.{any_implied}
use Rattle.cut_laws.proofs.Accepted.{accepted_is}
use Rattle.campaign_laws.specs.Kept.{AnswersThemself, AutomaticAnswersClimb, IsKept, NeverDescends, WhatIsYoursStays}
use Rattle.campaign_laws.specs.Moments.{moments, openings}
use Rattle.campaign_laws.proofs.GoneStays.{terms_long}
use Rattle.campaign_laws.proofs.OneMark.{KeptOrLapsed, KeptOrOffered, Marks, OfOneWish, TouchedOf, a_lapse, an_answer}
use Rattle.campaign_laws.proofs.OneMark.{marked, marks_imply, of_kind, offers_of_a_pass, proposed_open}
use Rattle.campaign_laws.proofs.Walks.{Nothing, Steps, all_of, any_two, campaign_steps}

-- what is kept from step to step
record StaysYours (terms : Option Terms) (m n : Mark) : Type 0 where
  accepted : m.status ≡ Accepted → n ≡ m
  offered : m.status ≡ Offered → (n ≡ m) ⊎ (IsSome terms × (n.status ≡ Lapsed))
  lapsed : m.status ≡ Lapsed → n ≡ m

kept_as_is : (terms : Option Terms) (m n : Mark) → n ≡ m → StaysYours terms m n
kept_as_is terms m n same = record { accepted = λ e. same; offered = λ e. inl same; lapsed = λ e. same }

abbrev Stays : Option Terms → ℕ → Wish → Mark → Mark → Type 0
Stays terms c w m n = w.candidate ≡ c → StaysYours terms m n

offered_only : (x y : Status) → x ≡ y → is_offered x ≡ true → is_offered y ≡ true
offered_only x y same t = ap is_offered (sym same) ∙ t

by_lapse : (terms : Option Terms) (t : Terms) (c : ℕ) → terms ≡ Some t → (w : Wish) (m n : Mark) → KeptOrLapsed w m n
    → Stays terms c w m n
by_lapse terms t c is w m n (inl kept) own = kept_as_is terms m n kept
by_lapse terms t c is w m n (inr ended) own =
    let some : IsSome terms = rw is refl in
    record {
      accepted = λ e. absurd (false≢true (offered_only m.status Accepted e ended.0));
      offered = λ e. inr (some, ended.1);
      lapsed = λ e. absurd (false≢true (offered_only m.status Lapsed e ended.0));
    }

by_answer : (terms : Option Terms) (a c : ℕ) → nat_eq a c ≡ false → (w : Wish) (m n : Mark) → TouchedOf a w m n
    → Stays terms c w m n
by_answer terms a c other w m n (inl kept) own = kept_as_is terms m n kept
by_answer terms a c other w m n (inr touched) own =
    absurd (both_ways (nat_eq a c) other (eq-eqb a c (sym touched.0 ∙ own)))

by_offer : (terms : Option Terms) (c : ℕ) (s : State) (orders : List CallOrder) (bars : List ℕ) (stamp : Stamp)
    (w : Wish) (m n : Mark)
    → KeptOrOffered s orders bars stamp w m n → Stays terms c w m n
by_offer terms c s orders bars stamp w m n (inl kept) own = kept_as_is terms m n kept.1
by_offer terms c s orders bars stamp w m n (inr given) own =
    let waits = (proposed_open s orders bars w m given.0).0 in
    record {
      accepted = λ e. absurd (false≢true (ap is_waiting_status (sym e) ∙ waits));
      offered = λ e. absurd (false≢true (ap is_waiting_status (sym e) ∙ waits));
      lapsed = λ e. absurd (false≢true (ap is_waiting_status (sym e) ∙ waits));
    }

-- the answers that are not the candidate's
not_own : (kind : AnswerKind) (s old : State) (target c : ℕ) → s.dossier ≡ old.dossier
    → is_own_kind kind old c target ≡ false → nat_eq (of_kind kind s target) c ≡ false
not_own Accept s old target c of other = rw of other
not_own Refuse s old target c of other = rw of other
not_own Withdraw s old target c of other = rw of other
not_own Quit s old target c of other = other

abbrev Other : State → ℕ → Answer → Type 0
Other old c a = is_own_kind a.kind old c a.target ≡ false

none_own : (old : State) (c : ℕ) (answers : List Answer) → own old c answers ≡ [] → AllByRecursion (Other old c) answers
none_own old c [] none = tt
none_own old c (a ∷ rest) none =
    elim (cases_Bool (is_own_kind a.kind old c a.target)) [
      | inl mine ↦ let some = rw mine at none in absurd (cc)
      | inr other ↦ (other, none_own old c rest (rw other at none))
    ]

each_day : (old : State) (c : ℕ) (days : List DayRecord) → AllByRecursion
    (λ (day : DayRecord). own old c (answers_of old.dossier day.day) ≡ []) days
    → AllByRecursion (λ (day : DayRecord). AllByRecursion (Other old c) (answers_of old.dossier day.day)) days
each_day old c [] none = tt
each_day old c (day ∷ days) none = (none_own old c (answers_of old.dossier day.day) none.0, each_day old c days none.1)

-- who ranks none of their wishes has no best one
none_ranked : (c : ℕ) (ws : List Wish) (ms : List Mark) → AllByRecursion
    (λ (w : Wish). w.candidate ≡ c → w.preference ≡ 0) ws
    → filter (λ (e : Wish × Mark). is_live e.1 && (e.0.candidate == c) && nat_lt 0 e.0.preference) (zip ws ms) ≡ []
none_ranked c [] ms all = refl
none_ranked c (w ∷ ws) [] all = refl
none_ranked c (w ∷ ws) (m ∷ ms) all =
    elim (cases_Bool (is_live m && (w.candidate == c) && nat_lt 0 w.preference)) [
      | inl passes ↦
          let outer = and_parts (is_live m && (w.candidate == c)) (nat_lt 0 w.preference) passes in
          let own = eqb-true w.candidate c (and_parts (is_live m) (w.candidate == c) outer.0).1 in
          absurd (omega (arith, all.0 own, ltb-true 0 w.preference outer.1))
      | inr fails ↦ rw fails (none_ranked c ws ms all.1)
    ]

no_best : (s : State) (c : ℕ) → AnswersThemself s.dossier c → best_live s c ≡ None
no_best s c themself =
    ap (least_by (λ (e : Wish × Mark). e.0.preference))
    (none_ranked c s.dossier.wishes s.marks
    (recursion_from_All (λ (w : Wish). w.candidate ≡ c → w.preference ≡ 0) s.dossier.wishes themself))

not_answered : (terms : Option Terms) (s : State) (c : ℕ) (stamp : Stamp) → AnswersThemself s.dossier c
    → Marks (Stays terms c) s (auto_all s stamp)
not_answered terms s c stamp themself =
    marked (Stays terms c) s (λ w m. auto_mark stamp (best_live s w.candidate) w m)
    (λ w m own. kept_as_is terms m (auto_mark stamp (best_live s w.candidate) w m)
    (ap (λ (o : Option (Wish × Mark)). auto_mark stamp o w m) (ap (best_live s) own ∙ no_best s c themself)))

stays_joined : (terms : Option Terms) (l m n : Mark) → StaysYours terms l m → StaysYours terms m n
    → StaysYours terms l n
stays_joined terms l m n first second = record {
  accepted = λ e. let same = first.accepted e in second.accepted (ap (λ (x : Mark). x.status) same ∙ e) ∙ same;
  offered = λ e. elim (first.offered e) [
    | inl same ↦ elim (second.offered (ap (λ (x : Mark). x.status) same ∙ e)) [
      | inl again ↦ inl (again ∙ same)
      | inr ended ↦ inr ended
    ]
    | inr ended ↦ inr (ended.0, ap (λ (x : Mark). x.status) (second.lapsed ended.1) ∙ ended.1)
  ];
  lapsed = λ e. let same = first.lapsed e in second.lapsed (ap (λ (x : Mark). x.status) same ∙ e) ∙ same;
}

zip_joined : (terms : Option Terms) (c : ℕ) (xs ys zs : List (Wish × Mark)) → AllZip (OfOneWish (Stays terms c)) xs ys
    → AllZip (OfOneWish (Stays terms c)) ys zs
    → AllZip (OfOneWish (Stays terms c)) xs zs
zip_joined terms c [] [] zs first second = second
zip_joined terms c [] (y ∷ ys) zs first second = absurd first
zip_joined terms c (x ∷ xs) [] zs first second = absurd first
zip_joined terms c (x ∷ xs) (y ∷ ys) [] first second = absurd second
zip_joined terms c (x ∷ xs) (y ∷ ys) (z ∷ zs) first second = (
  (
    second.0.0 ∙ first.0.0,
    λ own. stays_joined terms x.1 y.1 z.1 (first.0.1 own)
        (second.0.1 (ap (λ (w : Wish). w.candidate) first.0.0 ∙ own)),
  ),
  zip_joined terms c xs ys zs first.1 second.1,
)

zip_kept : (terms : Option Terms) (c : ℕ) (xs : List (Wish × Mark)) → AllZip (OfOneWish (Stays terms c)) xs xs
zip_kept terms c [] = tt
zip_kept terms c (x ∷ xs) = ((refl, λ own. kept_as_is terms x.1 x.1 refl), zip_kept terms c xs)

stays_steps : (old : State) (terms : Option Terms) (orders : List CallOrder) (c : ℕ) → AreTermsFor old.dossier terms
    → AnswersThemself old.dossier c
    → Steps old.dossier terms orders Nothing (Other old c) (Marks (Stays terms c))
stays_steps old terms orders c fit themself = record {
  stays = λ s. zip_kept terms c (entries s);
  lapses = λ t day s is of. marks_imply KeptOrLapsed (Stays terms c) (by_lapse terms t c is) (entries s)
      (entries (lapse t day s))
      (a_lapse t day s (terms_long old.dossier terms t fit is ∙ ap (λ (x : DossierRows). length x.wishes) (sym of)));
  answers = λ s stamp a of fits other. marks_imply (TouchedOf (of_kind a.kind s a.target)) (Stays terms c)
      (by_answer terms (of_kind a.kind s a.target) c (not_own a.kind s old a.target c of other)) (entries s)
      (entries (after s stamp a)) (an_answer s stamp a fits);
  offers = λ s day bars stamp of greatest known. marks_imply (KeptOrOffered s orders bars stamp) (Stays terms c)
      (by_offer terms c s orders bars stamp)
      (entries s) (entries (offered s orders bars stamp)) (offers_of_a_pass s orders bars stamp);
  autos = λ s stamp of. not_answered terms s c stamp
      (subst (λ (d : DossierRows). AnswersThemself d c) (sym of) themself);
}

as_kept : (terms : Option Terms) (c : ℕ) (xs ys : List (Wish × Mark)) → AllZip (OfOneWish (Stays terms c)) xs ys
    → AllZip (λ (e f : Wish × Mark). e.0.candidate ≡ c → IsKept terms e.1 f.1) xs ys
as_kept terms c [] [] all = tt
as_kept terms c [] (y ∷ ys) all = absurd all
as_kept terms c (x ∷ xs) [] all = absurd all
as_kept terms c (x ∷ xs) (y ∷ ys) all =
    (λ own. record { accepted = (all.0.1 own).accepted; offered = (all.0.1 own).offered }, as_kept terms c xs ys all.1)

pub what_is_yours_stays : WhatIsYoursStays
what_is_yours_stays terms orders d old days new c fit are themself silent i j e below lt =
    let xs = moments terms orders old days in
    let walk = campaign_steps old.dossier terms orders Nothing (Other old c) (Marks (Stays terms c))
    (stays_steps old terms orders c fit themself) d old days new refl are
    (all_of Nothing (λ o. tt) (openings terms orders old days))
    (each_day old c days
    (recursion_from_All (λ (day : DayRecord). own old c (answers_of old.dossier day.day) ≡ []) days silent)) in
    let all = old ∷ xs in
    as_kept terms c (entries (get_or all i e)) (entries (get_or all j e))
    (any_two (Marks (Stays terms c))
    (λ x y z first second. zip_joined terms c (entries x) (entries y) (entries z) first second) old xs new walk i
    j e below lt)

-- ---- automatic answers climb
-- a live wish that is the best is accepted
best_accepted : (x : Status) (is_behind : Bool) → is_live_status x ≡ true → auto_status x true is_behind ≡ Accepted
best_accepted Waiting is_behind live = absurd (cc)
best_accepted Offered is_behind live = refl
best_accepted Accepted is_behind live = refl
best_accepted Refused is_behind live = absurd (cc)
best_accepted Withdrawn is_behind live = absurd (cc)
best_accepted HasQuit is_behind live = absurd (cc)
best_accepted AutoRefused is_behind live = absurd (cc)
best_accepted AutoWithdrawn is_behind live = absurd (cc)
best_accepted Lapsed is_behind live = absurd (cc)

abbrev accepted_of : ℕ → ℕ → Wish × Mark → Bool
accepted_of c n e = is_accepted e.1.status && nat_eq e.0.candidate c && nat_lt 0 e.0.preference && nat_le
    e.0.preference n

any_on : (T : Wish → Mark → Mark → Type 0) (q : Wish × Mark → Bool)
    → ((w : Wish) (m n : Mark) → T w m n → q (w, m) ≡ true → q (w, n) ≡ true)
    → (xs ys : List (Wish × Mark)) → AllZip (OfOneWish T) xs ys → list_any q xs ≡ true → list_any q ys ≡ true
any_on T q on [] [] all t = t
any_on T q on [] (y ∷ ys) all t = absurd all
any_on T q on (x ∷ xs) [] all t = absurd all
any_on T q on (x ∷ xs) (y ∷ ys) all t =
    elim (or_cases (q x) (list_any q xs) t) [
      | inl here ↦ or_left (q y) (list_any q ys) (ap (λ (w : Wish). q (w, y.1)) all.0.0 ∙ on x.0 x.1 y.1 all.0.1 here)
      | inr later ↦ or_right (q y) (list_any q ys) (any_on T q on xs ys all.1 later)
    ]

stays_accepted : (terms : Option Terms) (c n : ℕ) (w : Wish) (m l : Mark) → Stays terms c w m l
    → accepted_of c n (w, m) ≡ true → accepted_of c n (w, l) ≡ true
stays_accepted terms c n w m l stays t =
    let outer = and_parts (is_accepted m.status && nat_eq w.candidate c && nat_lt 0 w.preference)
    (nat_le w.preference n) t in
    let inner = and_parts (is_accepted m.status && nat_eq w.candidate c) (nat_lt 0 w.preference) outer.0 in
    let first = and_parts (is_accepted m.status) (nat_eq w.candidate c) inner.0 in
    let same = (stays (eqb-true w.candidate c first.1)).accepted (accepted_is m.status first.0) in
    ap (λ (x : Mark). accepted_of c n (w, x)) same ∙ t

by_stays : (terms : Option Terms) (c : ℕ) (s t : State) → Marks (Stays terms c) s t → NeverDescends c s t
by_stays terms c s t marks n has = any_on (Stays terms c) (accepted_of c n) (stays_accepted terms c n) (entries s)
    (entries t) marks has

-- the least of those that pass a test
pub none_least : {X : Type 0} (test : X → Bool) (key : X → ℕ) (xs : List X) → least_by key (filter test xs) ≡ None
    → list_any test xs ≡ false
none_least test key [] none = refl
none_least test key (x ∷ xs) none =
    elim (cases_Bool (test x)) [
      | inl passes ↦ let some = rw passes at none in absurd (cc)
      | inr fails ↦ rw fails (none_least test key xs (rw fails at none))
    ]

lesser_first : {X : Type 0} (key : X → ℕ) (x : X) (o : Option X) → key (lesser key x o) ≤ key x
lesser_first key x None = omega arith
lesser_first key x (Some y) =
    elim (cases_Bool (nat_le (key x) (key y))) [
      | inl le ↦ rw le (omega arith)
      | inr gt ↦ let less = leb-false (key x) (key y) gt in rw gt (omega (arith, less))
    ]

lesser_other : {X : Type 0} (key : X → ℕ) (x y : X) → key (lesser key x (Some y)) ≤ key y
lesser_other key x y =
    elim (cases_Bool (nat_le (key x) (key y))) [
      | inl le ↦ let at_most = leb-true (key x) (key y) le in rw le at_most
      | inr gt ↦ rw gt (omega arith)
    ]

unwrapped : {X : Type 0} (x y : X) → Some x ≡ Some y → x ≡ y
unwrapped x y e = ap (λ o. unwrap_or o x) e

from_rest : {X : Type 0} (test : X → Bool) (key : X → ℕ) (n : ℕ) (x : X) (xs : List X) (b : X) (o : Option X)
    → least_by key (filter test xs) ≡ o
    → lesser key x (least_by key (filter test xs)) ≡ b → list_any (λ y. test y && nat_le (key y) n) xs ≡ true
    → ((y : X) → least_by key (filter test xs) ≡ Some y → key y ≤ n) → key b ≤ n
from_rest test key n x xs b None none is later within =
    absurd (both_ways (list_any test xs) (none_least test key xs none)
    (any_implied (λ y. test y && nat_le (key y) n) test (λ y both. (and_parts (test y) (nat_le (key y) n) both).0) xs
    later))
from_rest test key n x xs b (Some y) some is later within =
    let le = within y some in
    let other = lesser_other key x y in
    let now = ap key (ap (lesser key x) (sym some) ∙ is) in
    omega (arith, le, other, now)

pub least_within : {X : Type 0} (test : X → Bool) (key : X → ℕ) (n : ℕ) (xs : List X) (b : X)
    → least_by key (filter test xs) ≡ Some b
    → list_any (λ x. test x && nat_le (key x) n) xs ≡ true → key b ≤ n
least_within test key n [] b least t = absurd (false≢true t)
least_within test key n (x ∷ xs) b least t =
    elim (cases_Bool (test x)) [
      | inr fails ↦
          let rest : list_any (λ y. test y && nat_le (key y) n) xs ≡ true = rw fails at t in
          least_within test key n xs b (rw fails at least) rest
      | inl passes ↦
          let is : lesser key x (least_by key (filter test xs)) ≡ b =
          unwrapped (lesser key x (least_by key (filter test xs))) b (rw passes at least) in
          elim (or_cases (test x && nat_le (key x) n) (list_any (λ y. test y && nat_le (key y) n) xs) t) [
            | inl here ↦
                let le = leb-true (key x) n (and_parts (test x) (nat_le (key x) n) here).1 in
                let first = lesser_first key x (least_by key (filter test xs)) in
                let last = ap key is in
                omega (arith, le, first, last)
            | inr later ↦ from_rest test key n x xs b (least_by key (filter test xs)) refl is later
                (λ y some. least_within test key n xs y some later)
          ]
    ]

abbrev pub ranked_live : ℕ → Wish × Mark → Bool
ranked_live c e = is_live e.1 && nat_eq e.0.candidate c && nat_lt 0 e.0.preference

accepted_lives : (x : Status) → is_accepted x ≡ true → is_live_status x ≡ true
accepted_lives x t = ap is_live_status (accepted_is x t)

as_ranked : (c n : ℕ) (e : Wish × Mark) → accepted_of c n e ≡ true → (ranked_live c e && nat_le e.0.preference n) ≡ true
as_ranked c n e t =
    let w = e.0 in
    let m = e.1 in
    let outer = and_parts (is_accepted m.status && nat_eq w.candidate c && nat_lt 0 w.preference)
    (nat_le w.preference n) t in
    let inner = and_parts (is_accepted m.status && nat_eq w.candidate c) (nat_lt 0 w.preference) outer.0 in
    let first = and_parts (is_accepted m.status) (nat_eq w.candidate c) inner.0 in
    and_from (ranked_live c e) (nat_le w.preference n)
    (and_from (is_live m && nat_eq w.candidate c) (nat_lt 0 w.preference)
    (and_from (is_live m) (nat_eq w.candidate c) (accepted_lives m.status first.0) first.1) inner.1) outer.1

module _ (s : State) (stamp : Stamp) (c n : ℕ) where
  abbrev answered : Wish → Mark → Mark
  answered w m = auto_mark stamp (best_live s w.candidate) w m

  is_now_accepted : (b : Wish × Mark) → best_live s c ≡ Some b → b.0.preference ≤ n → (e : Wish × Mark)
      → (ranked_live c e && nat_eq e.0.preference b.0.preference) ≡ true → accepted_of c n (marked_by answered e) ≡ true
  is_now_accepted b best le e t =
      let w = e.0 in
      let m = e.1 in
      let outer = and_parts (ranked_live c e) (nat_eq w.preference b.0.preference) t in
      let inner = and_parts (is_live m && nat_eq w.candidate c) (nat_lt 0 w.preference) outer.0 in
      let first = and_parts (is_live m) (nat_eq w.candidate c) inner.0 in
      let same = eqb-true w.preference b.0.preference outer.1 in
      let which : best_live s w.candidate ≡ Some b = ap (best_live s) (eqb-true w.candidate c first.1) ∙ best in
      let status : (answered w m).status ≡ Accepted =
      ap (λ (o : Option (Wish × Mark)). (auto_mark stamp o w m).status) which ∙ status_of_auto stamp b w m
      ∙ ap (λ (is_best : Bool). auto_status m.status is_best (nat_lt b.0.preference w.preference)) outer.1
      ∙ best_accepted m.status (nat_lt b.0.preference w.preference) first.0 in
      and_from (is_accepted (answered w m).status && nat_eq w.candidate c && nat_lt 0 w.preference)
      (nat_le w.preference n)
      (and_from (is_accepted (answered w m).status && nat_eq w.candidate c) (nat_lt 0 w.preference)
      (and_from (is_accepted (answered w m).status) (nat_eq w.candidate c) (ap is_accepted status) first.1) inner.1)
      (le-leb w.preference n (omega (arith, le, same)))

  with_best : (o : Option (Wish × Mark)) → best_live s c ≡ o → list_any (accepted_of c n) (entries s) ≡ true
      → list_any (accepted_of c n) (entries (auto_all s stamp)) ≡ true
  with_best None none has =
      absurd (both_ways (list_any (ranked_live c) (entries s))
      (none_least (ranked_live c) (λ (e : Wish × Mark). e.0.preference) (entries s) none)
      (any_implied (accepted_of c n) (ranked_live c)
      (λ e t. (and_parts (ranked_live c e) (nat_le e.0.preference n) (as_ranked c n e t)).0) (entries s) has))
  with_best (Some b) best has =
      let key : Wish × Mark → ℕ = λ e. e.0.preference in
      let some = any_implied (accepted_of c n) (λ e. ranked_live c e && nat_le e.0.preference n) (as_ranked c n)
      (entries s) has in
      let le = least_within (ranked_live c) key n (entries s) b best some in
      let stands = sym (any-filter (λ e. nat_eq e.0.preference b.0.preference) (ranked_live c) (entries s))
      ∙ least_passes (λ e. nat_eq e.0.preference b.0.preference) key (filter (ranked_live c) (entries s)) b best
      (eq-eqb b.0.preference b.0.preference refl) in
      ap (list_any (accepted_of c n)) (entries_marked s answered)
      ∙ any-map (accepted_of c n) (marked_by answered) (entries s)
      ∙ any_implied (λ e. ranked_live c e && nat_eq e.0.preference b.0.preference)
      (λ e. accepted_of c n (marked_by answered e)) (is_now_accepted b best le) (entries s) stands

climb_steps : (old : State) (terms : Option Terms) (orders : List CallOrder) (c : ℕ) → AreTermsFor old.dossier terms
    → Steps old.dossier terms orders Nothing (Other old c) (NeverDescends c)
climb_steps old terms orders c fit = record {
  stays = λ s n has. has;
  lapses = λ t day s is of. by_stays terms c s (lapse t day s)
      (marks_imply KeptOrLapsed (Stays terms c) (by_lapse terms t c is) (entries s) (entries (lapse t day s))
      (a_lapse t day s (terms_long old.dossier terms t fit is ∙ ap (λ (x : DossierRows). length x.wishes) (sym of))));
  answers = λ s stamp a of fits other. by_stays terms c s (after s stamp a)
      (marks_imply (TouchedOf (of_kind a.kind s a.target)) (Stays terms c)
      (by_answer terms (of_kind a.kind s a.target) c (not_own a.kind s old a.target c of other)) (entries s)
      (entries (after s stamp a)) (an_answer s stamp a fits));
  offers = λ s day bars stamp of greatest known. by_stays terms c s (offered s orders bars stamp)
      (marks_imply (KeptOrOffered s orders bars stamp) (Stays terms c) (by_offer terms c s orders bars stamp)
      (entries s) (entries (offered s orders bars stamp)) (offers_of_a_pass s orders bars stamp));
  autos = λ s stamp of n has. with_best s stamp c n (best_live s c) refl has;
}

pub automatic_answers_climb : AutomaticAnswersClimb
automatic_answers_climb terms orders d old days new c fit are silent =
    let xs = moments terms orders old days in
    let walk = campaign_steps old.dossier terms orders Nothing (Other old c) (NeverDescends c)
    (climb_steps old terms orders c fit) d old days new refl are
    (all_of Nothing (λ o. tt) (openings terms orders old days))
    (each_day old c days
    (recursion_from_All (λ (day : DayRecord). own old c (answers_of old.dossier day.day) ≡ []) days silent)) in
    any_two (NeverDescends c) (λ x y z first second n has. second n (first n has)) old xs new walk
