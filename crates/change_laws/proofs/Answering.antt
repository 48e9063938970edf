-- Answers in person: given in both campaigns, or in the kinder one alone.
use Rattle.std.proofs.Common.{ℕ, ◌+◌, ◌<◌, ◌≡◌, ◌≢◌, ◌⊎◌, Bool, true, false, ◌&&◌, ◌||◌, List, [], ◌∷◌, length, map}
use Rattle.std.proofs.Common.{get_or, None, inl, inr, refl, sym, ◌∙◌, ap, subst, arith, nat_eq, nat_lt, set}
use Rattle.std.specs.Prelude.{All, ◌==◌, if◌then◌else◌, slice_index}
use Rattle.std.specs.List.{AllByRecursion}
use Rattle.std.proofs.lemmas.Bool.{and_parts, both_ways, cases_Bool, cases_eq, false_from_ne_true, false≢true, ltb-true}
use Rattle.std.proofs.lemmas.Grind.{get_or-set_at}
use Rattle.std.proofs.lemmas.List.{get_or-set_other, length-set}
use Rattle.std.proofs.lemmas.List.Elements.{All-filter, AllZip-get_or, recursion_from_All}
use Rattle.admit_core.specs.declared.dossier.Answer.{Answer}
use Rattle.admit_core.specs.declared.dossier.AnswerKind.{AnswerKind}
use Rattle.admit_core.specs.declared.dossier.AnswerKind.TheVariants.{Accept, Quit, Refuse, Withdraw}
use Rattle.admit_core.specs.declared.dossier.Wish.{Wish}
use Rattle.admit_core.specs.declared.ranking.CallOrder.{CallOrder}
use Rattle.admit_core.specs.declared.state.Mark.{Mark}
use Rattle.admit_core.specs.declared.state.Stamp.{Stamp}
use Rattle.admit_core.specs.declared.state.Status.{Status}
use Rattle.admit_core.specs.declared.state.Status.TheVariants.{Accepted, Quit as HasQuit, Refused, Withdrawn}
use Rattle.admit_core.specs.Answers.{after, after_all, after_kind, candidate_at, first_unfit, fits, mark_at}
use Rattle.admit_core.specs.Answers.{refuse_live}
use Rattle.admit_core.specs.CallOrder.{AreCallOrders}
use Rattle.admit_core.specs.Days.{answers_of}
use Rattle.admit_core.specs.DossierRows.{DossierRows, candidate_of}
use Rattle.admit_core.specs.Lists.{is_among}
use Rattle.admit_core.specs.Proposals.{before}
use Rattle.admit_core.specs.State.{State, changed_to, entries, is_gone, is_live, is_waiting, is_waiting_status}
use Rattle.admit_core.specs.Validity.{IsValid}
use Rattle.admit_core.proofs.Statuses.{changed_status}
use Rattle.campaign_laws.specs.Kept.{AnswersThemself}
use Rattle.campaign_laws.proofs.Kept.{ranked_live}
use Rattle.campaign_laws.proofs.Matchings.{gone_status}
use Rattle.campaign_laws.proofs.OneMark.{Marks, OfOneWish, TouchedOf, an_answer, of_kind}
use Rattle.change_laws.specs.Kinder.{HasAlso, IsKinder, IsSilent, giver}
use Rattle.change_laws.proofs.Further.{gone_from, gone_waits_not, has_better, waits_lives_not}
use Rattle.change_laws.proofs.Passing.{IsAheadThere}
use Rattle.change_laws.proofs.Places.{IsAt, IsOver, any_here, any_there, entry_there, mark_given, mark_in, over_given}

-- marks related entry by entry, at a place
mark_pair : (T : Wish → Mark → Mark → Type 0) (ws : List Wish) (s t : State) → IsOver ws s → IsOver ws t → Marks T s t
    → (k : ℕ) (w : Wish) → IsAt ws k w → T w (mark_in s k) (mark_in t k)
mark_pair T ws s t over over_too marks k w at =
    let first = entry_there ws s over k w at in
    let second = entry_there ws t over_too k w at in
    let e : Wish × Mark = (w, mark_in s k) in
    let f : Wish × Mark = (w, mark_in t k) in
    let pair : OfOneWish T (get_or (entries s) k e) (get_or (entries t) k f) =
    AllZip-get_or (OfOneWish T) (entries s) (entries t) k e f marks first.0 in
    let here : OfOneWish T e f = subst (λ (x : Wish × Mark). OfOneWish T e x) second.1
    (subst (λ (x : Wish × Mark). OfOneWish T x (get_or (entries t) k f)) first.1 pair) in
    here.1

-- one mark is set
pub set_over : (ws : List Wish) (s : State) (place : ℕ) (m : Mark) → IsOver ws s
    → IsOver ws (record s { marks = set s.marks place m })
set_over ws s place m over = record { wishes = over.wishes; long = length-set s.marks place m ∙ over.long }

pub set_mark : (ws : List Wish) (s : State) (place : ℕ) (m : Mark) → IsOver ws s → (k : ℕ) (w : Wish) → IsAt ws k w
    → ((k ≡ place) × (mark_in (record s { marks = set s.marks place m }) k ≡ m))
    ⊎ ((k ≢ place) × (mark_in (record s { marks = set s.marks place m }) k ≡ mark_in s k))
set_mark ws s place m over k w at =
    elim (cases_eq k place) [
      | inl same ↦
          let lt : place < length s.marks = omega (arith, same, at.within, over.long) in
          inl (same, get_or-set_at s.marks place k m _ same lt)
      | inr other ↦ inr (other, get_or-set_other s.marks place k m _ other)
    ]

abbrev refused : ℕ → Stamp → Wish → Mark → Mark
refused c stamp w m = if is_live m && (w.candidate == c) then changed_to Refused stamp m else m

pub after_over : (kind : AnswerKind) (ws : List Wish) (s : State) (target : ℕ) (stamp : Stamp) → IsOver ws s
    → IsOver ws (after_kind kind s target stamp)
after_over Accept ws s target stamp over =
    let c = candidate_at s target in
    set_over ws (refuse_live s c stamp) target (changed_to Accepted stamp (mark_at s target))
    (over_given ws s over (λ w m. if is_live m && (w.candidate == c) then changed_to Refused stamp m else m))
after_over Refuse ws s target stamp over = set_over ws s target (changed_to Refused stamp (mark_at s target)) over
after_over Withdraw ws s target stamp over = set_over ws s target (changed_to Withdrawn stamp (mark_at s target)) over
after_over Quit ws s target stamp over =
    over_given ws s over
    (λ w m. if (is_live m || is_waiting m) && (w.candidate == target) then changed_to HasQuit stamp m else m)

-- ---- the same answer, to a mark that has come further
pub record IsStillFurther (m n : Mark) : Type 0 where
  pub waits : is_waiting n ≡ true → is_waiting m ≡ true
  pub goes : is_gone m ≡ true → is_gone n ≡ true

gone_both : (x : Status) (stamp : Stamp) (m n o : Mark) → gone_status x ≡ true → o ≡ changed_to x stamp n
    → IsStillFurther m o
gone_both x stamp m n o gone is =
    let there : is_gone o ≡ true = ap is_gone is ∙ ap gone_status (changed_status x stamp n) ∙ gone in
    record {
      waits = λ waits. absurd (both_ways (is_waiting o) (gone_waits_not (is_live o) (is_waiting o) there) waits);
      goes = λ e. there;
    }

accepted_both : (first second : Stamp) (l m n o : Mark) → l ≡ changed_to Accepted first m
    → o ≡ changed_to Accepted second n → IsStillFurther l o
accepted_both first second l m n o is is_too =
    let one = ap is_gone is ∙ ap gone_status (changed_status Accepted first m) in
    let two = ap is_waiting is_too ∙ ap is_waiting_status (changed_status Accepted second n) in
    record {
      waits = λ waits. absurd (false≢true (sym two ∙ waits));
      goes = λ gone. absurd (false≢true (sym one ∙ gone));
    }

as_before : (l m n o : Mark) → IsStillFurther m n → l ≡ m → o ≡ n → IsStillFurther l o
as_before l m n o now is is_too = rw (is, is_too) now

refused_both : (c : ℕ) (first second : Stamp) (w : Wish) (m n : Mark) → IsStillFurther m n
    → IsStillFurther (refused c first w m) (refused c second w n)
refused_both c first second w m n now =
    elim (cases_Bool (w.candidate == c)) [
      | inr other ↦ rw other (by_other (is_live m) (is_live n))
      | inl own ↦ elim (cases_Bool (is_live n)) [
        | inl live ↦ gone_both Refused second (refused c first w m) n (refused c second w n) refl (rw (live, own) refl)
        | inr dead ↦
            let same : refused c second w n ≡ n = rw dead refl in
            elim (cases_Bool (is_live m)) [
              | inl lived ↦
                  let waits_not : is_waiting n ≡ false = false_from_ne_true (is_waiting n) (λ waits.
                  both_ways (is_live m) (waits_lives_not m (now.waits waits)) lived) in
                  rw same (record {
                    waits = λ waits. absurd (both_ways (is_waiting n) waits_not waits);
                    goes = λ e. gone_from (is_live n) (is_waiting n) dead waits_not;
                  })
              | inr none ↦ as_before (refused c first w m) m n (refused c second w n) now (rw none refl) same
            ]
      ]
    ]
  where
    by_other : (a b : Bool) → IsStillFurther (if a && false then changed_to Refused first m else m)
        (if b && false then changed_to Refused second n else n)
    by_other true true = now
    by_other true false = now
    by_other false true = now
    by_other false false = now

quit_both : (c : ℕ) (first second : Stamp) (w : Wish) (m n : Mark) → IsStillFurther m n
    → IsStillFurther
    (if (is_live m || is_waiting m) && (w.candidate == c) then changed_to HasQuit first m else m)
    (if (is_live n || is_waiting n) && (w.candidate == c) then changed_to HasQuit second n else n)
quit_both c first second w m n now =
    elim (cases_Bool (w.candidate == c)) [
      | inr other ↦ rw other (by_other (is_live m || is_waiting m) (is_live n || is_waiting n))
      | inl own ↦ elim (cases_Bool (is_live n || is_waiting n)) [
        | inl there ↦ gone_both HasQuit second _ n _ refl (rw (there, own) refl)
        | inr gone ↦
            let is : is_gone n ≡ true = rw gone refl in
            rw (gone, own) (record {
              waits = λ waits. absurd (both_ways (is_waiting n) (gone_waits_not (is_live n) (is_waiting n) is) waits);
              goes = λ e. is;
            })
      ]
    ]
  where
    by_other : (a b : Bool) → IsStillFurther (if a && false then changed_to HasQuit first m else m)
        (if b && false then changed_to HasQuit second n else n)
    by_other true true = now
    by_other true false = now
    by_other false true = now
    by_other false false = now

set_both : (ws : List Wish) (s t : State) (target : ℕ) (x : Status) (first second : Stamp) → gone_status x ≡ true
    → IsOver ws s → IsOver ws t
    → (k : ℕ) (w : Wish) → IsAt ws k w → IsStillFurther (mark_in s k) (mark_in t k)
    → IsStillFurther
    (mark_in (record s { marks = set s.marks target (changed_to x first (mark_at s target)) }) k)
    (mark_in (record t { marks = set t.marks target (changed_to x second (mark_at t target)) }) k)
set_both ws s t target x first second gone over over_too k w at now =
    elim (set_mark ws t target (changed_to x second (mark_at t target)) over_too k w at) [
      | inl here ↦ gone_both x second _ (mark_at t target) _ gone here.1
      | inr there ↦ elim (set_mark ws s target (changed_to x first (mark_at s target)) over k w at) [
        | inl here ↦ absurd (there.0 here.0)
        | inr too ↦ as_before _ (mark_in s k) (mark_in t k) _ now too.1 there.1
      ]
    ]

-- the candidate of the wish at the target is one in both
both_answered : (kind : AnswerKind) (ws : List Wish) (s t : State) (target : ℕ) (first second : Stamp) → IsOver ws s
    → IsOver ws t
    → (k : ℕ) (w : Wish) → IsAt ws k w → IsStillFurther (mark_in s k) (mark_in t k)
    → IsStillFurther (mark_in (after_kind kind s target first) k) (mark_in (after_kind kind t target second) k)
both_answered Refuse ws s t target first second over over_too k w at now =
    set_both ws s t target Refused first second refl over over_too k w at now
both_answered Withdraw ws s t target first second over over_too k w at now =
    set_both ws s t target Withdrawn first second refl over over_too k w at now
both_answered Quit ws s t target first second over over_too k w at now =
    let f : Stamp → Wish → Mark → Mark = λ stamp v m.
    if (is_live m || is_waiting m) && (v.candidate == target) then changed_to HasQuit stamp m else m in
    rw (mark_given ws s over (f first) k w at, mark_given ws t over_too (f second) k w at)
    (quit_both target first second w (mark_in s k) (mark_in t k) now)
both_answered Accept ws s t target first second over over_too k w at now =
    let c = candidate_at s target in
    let same : candidate_at t target ≡ c =
    ap (λ (vs : List Wish). slice_index (map (λ (v : Wish). v.candidate) vs) target)
    (over_too.wishes ∙ sym over.wishes) in
    let s1 = refuse_live s c first in
    let t1 = refuse_live t (candidate_at t target) second in
    let over1 = over_given ws s over (refused c first) in
    let over2 = over_given ws t over_too (refused (candidate_at t target) second) in
    let one = mark_given ws s over (refused c first) k w at in
    let two = mark_given ws t over_too (refused (candidate_at t target) second) k w at
    ∙ ap (λ (x : ℕ). refused x second w (mark_in t k)) same in
    elim (set_mark ws t1 target (changed_to Accepted second (mark_at t target)) over2 k w at) [
      | inl here ↦ elim (set_mark ws s1 target (changed_to Accepted first (mark_at s target)) over1 k w at) [
        | inl too ↦ accepted_both first second _ (mark_at s target) (mark_at t target) _ too.1 here.1
        | inr other ↦ absurd (other.0 here.0)
      ]
      | inr there ↦ elim (set_mark ws s1 target (changed_to Accepted first (mark_at s target)) over1 k w at) [
        | inl too ↦ absurd (there.0 too.0)
        | inr other ↦
            as_before _ (refused c first w (mark_in s k)) (refused c second w (mark_in t k)) _
            (refused_both c first second w (mark_in s k) (mark_in t k) now) (other.1 ∙ one) (there.1 ∙ two)
      ]
    ]

after_of : (kind : AnswerKind) (d : DossierRows) (s : State) (target : ℕ) (stamp : Stamp) → s.dossier ≡ d
    → (after_kind kind s target stamp).dossier ≡ d
after_of Accept d s target stamp of = of
after_of Refuse d s target stamp of = of
after_of Withdraw d s target stamp of = of
after_of Quit d s target stamp of = of

giver_is : (kind : AnswerKind) (d : DossierRows) (s : State) (target : ℕ) → s.dossier ≡ d
    → of_kind kind s target ≡ giver d kind target
giver_is Accept d s target of = ap (λ (x : DossierRows). candidate_of x target) of
giver_is Refuse d s target of = ap (λ (x : DossierRows). candidate_of x target) of
giver_is Withdraw d s target of = ap (λ (x : DossierRows). candidate_of x target) of
giver_is Quit d s target of = refl

module _ (d kinder : DossierRows) (orders : List CallOrder) (valid : IsValid d)
    (called : AreCallOrders d.groups orders) (plain : All (λ (w : Wish). w.school ≡ None) d.wishes)
    (kind : IsKinder d kinder) where
  abbrev Ahead : State → State → Type 0
  Ahead s t = IsAheadThere d kinder orders valid called plain kind s t

  -- a state of each dossier, of which the second has come further
  pub record IsPair (s t : State) : Type 0 where
    pub of : s.dossier ≡ d
    pub of_too : t.dossier ≡ kinder
    pub ahead : Ahead s t

  -- who gives an answer answers themself, and is not silent
  pub record IsGivers (a : Answer) : Type 0 where
    pub themself : AnswersThemself kinder (giver kinder a.kind a.target)
    pub spoke : IsSilent kinder (giver kinder a.kind a.target) → ⊥

  pub all_givers : (day : ℕ) → AllByRecursion IsGivers (answers_of kinder day)
  all_givers day =
      recursion_from_All IsGivers (answers_of kinder day)
      (All-filter (λ (a : Answer). a.day == day) IsGivers kinder.answers
      (λ k a lt. record { themself = kind.themselves k a lt; spoke = λ silent. silent.none k a lt refl }))

  -- answers of one candidate, there and maybe here
  module _ (s t s1 t1 : State) (ahead : Ahead s t) (c : ℕ) (over1 : IsOver d.wishes s1) (over2 : IsOver d.wishes t1)
      (same : t1.dossier ≡ t.dossier) (themself : AnswersThemself kinder c) (spoke : IsSilent kinder c → ⊥)
      (here : (k : ℕ) (w : Wish) → IsAt d.wishes k w → TouchedOf c w (mark_in s k) (mark_in s1 k))
      (there : (k : ℕ) (w : Wish) → IsAt d.wishes k w → TouchedOf c w (mark_in t k) (mark_in t1 k))
      (further : (k : ℕ) (w : Wish) → IsAt d.wishes k w → IsStillFurther (mark_in s1 k) (mark_in t1 k)) where
    waited : (m n : Mark) (w : Wish) → TouchedOf c w m n → is_waiting n ≡ true → is_waiting m ≡ true
    waited m n w (inl kept) waits = ap is_waiting (sym kept) ∙ waits
    waited m n w (inr touched) waits = absurd (both_ways (is_waiting n) touched.1.not_waiting waits)

    lived : (m n : Mark) (w : Wish) → TouchedOf c w m n → is_live n ≡ true → is_live m ≡ true
    lived m n w (inl kept) live = ap is_live (sym kept) ∙ live
    lived m n w (inr touched) live = touched.1.lived live

    kept_of : (m n : Mark) (w : Wish) → (w.candidate ≡ c → ⊥) → TouchedOf c w m n → n ≡ m
    kept_of m n w other (inl kept) = kept
    kept_of m n w other (inr touched) = absurd (other touched.0)

    not_theirs : (k : ℕ) (w : Wish) → IsAt d.wishes k w → 0 < w.preference → w.candidate ≡ c → ⊥
    not_theirs k w at some own =
        let lt : k < length kinder.wishes = rw kind.wishes at.within in
        let is : get_or kinder.wishes k w ≡ w = ap (λ (ws : List Wish). get_or ws k w) kind.wishes ∙ at.here in
        let none : w.preference ≡ 0 = subst (λ (v : Wish). v.candidate ≡ c → v.preference ≡ 0) is (themself k w lt)
        own in
        omega (arith, some, none)

    keeps_better : (x n : ℕ) → has_better t x n ≡ true → has_better t1 x n ≡ true
    keeps_better x n has =
        let found = any_there d.wishes t ahead.over_too (λ e. ranked_live x e && nat_lt e.0.preference n) has in
        let w = found.wish in
        let k = found.place in
        let m = mark_in t k in
        let inner = and_parts (is_live m && nat_eq w.candidate x) (nat_lt 0 w.preference)
        (and_parts (ranked_live x (w, m)) (nat_lt w.preference n) found.passes).0 in
        let stays = kept_of m (mark_in t1 k) w (not_theirs k w found.at (ltb-true 0 w.preference inner.1))
        (there k w found.at) in
        any_here d.wishes t1 over2 (λ e. ranked_live x e && nat_lt e.0.preference n) k w found.at
        (ap (λ (y : Mark). ranked_live x (w, y) && nat_lt w.preference n) stays ∙ found.passes)

    pub answered_ahead : Ahead s1 t1
    answered_ahead = record {
      over = over1;
      over_too = over2;
      each = λ k w at.
          let now = ahead.each k w at in
          let m = mark_in s k in
          let n = mark_in t k in
          record {
            waits = (further k w at).waits;
            goes = (further k w at).goes;
            better = λ some stood gone.
                let other = not_theirs k w at some in
                let same_here = kept_of m (mark_in s1 k) w other (here k w at) in
                let same_there = kept_of n (mark_in t1 k) w other (there k w at) in
                keeps_better w.candidate w.preference
                (now.better some (ap is_gone (sym same_here) ∙ stood) (ap is_gone (sym same_there) ∙ gone));
            first = λ waits live j v v_at v_waits same_p.
                ap (λ (x : DossierRows). is_among w.candidate (before (record t { dossier = x }) orders v)) same
                ∙ now.first (waited m (mark_in s1 k) w (here k w at) waits) (lived n (mark_in t1 k) w (there k w at)
                live)
                j v v_at (waited (mark_in t j) (mark_in t1 j) v (there j v v_at) v_waits) same_p;
            kept = λ still gone.
                let other : w.candidate ≡ c → ⊥ = λ own. spoke (subst (IsSilent kinder) own still) in
                let same_here = kept_of m (mark_in s1 k) w other (here k w at) in
                let same_there = kept_of n (mark_in t1 k) w other (there k w at) in
                ap is_gone same_here ∙ now.kept still (ap is_gone (sym same_there) ∙ gone);
          };
    }

  -- an answer there alone
  answer_there : (s t : State) (stamp : Stamp) (a : Answer) → IsPair s t → IsGivers a → fits t a ≡ true
      → IsPair s (after t stamp a)
  answer_there s t stamp a pair givers fit =
      let c = giver kinder a.kind a.target in
      let ahead = pair.ahead in
      let t1 = after t stamp a in
      let over2 = after_over a.kind d.wishes t a.target stamp ahead.over_too in
      let of1 : t1.dossier ≡ kinder = after_of a.kind kinder t a.target stamp pair.of_too in
      let touched : (k : ℕ) (w : Wish) → IsAt d.wishes k w → TouchedOf c w (mark_in t k) (mark_in t1 k) =
      λ k w at.
      mark_pair (TouchedOf c) d.wishes t t1 ahead.over_too over2
      (subst (λ (x : ℕ). Marks (TouchedOf x) t t1) (giver_is a.kind kinder t a.target pair.of_too)
      (an_answer t stamp a fit)) k w at in
      record {
        of = pair.of;
        of_too = of1;
        ahead = answered_ahead s t s t1 ahead c ahead.over over2 (of1 ∙ sym pair.of_too) givers.themself givers.spoke
            (λ k w at. inl refl) touched
            (λ k w at. there_alone c w (mark_in s k) (mark_in t k) (mark_in t1 k)
            (record { waits = (ahead.each k w at).waits; goes = (ahead.each k w at).goes }) (touched k w at));
      }
    where
      there_alone : (c : ℕ) (w : Wish) (m n o : Mark) → IsStillFurther m n → TouchedOf c w n o → IsStillFurther m o
      there_alone c w m n o now (inl kept) = as_before m m n o now refl kept
      there_alone c w m n o now (inr touched) = record {
        waits = λ waits. absurd (both_ways (is_waiting o) touched.1.not_waiting waits);
        goes = λ gone. absurd (both_ways (is_gone n) touched.1.not_gone (now.goes gone));
      }

  -- the same answer in both
  answer_in_both : (s t : State) (first second : Stamp) (a : Answer) → IsPair s t → IsGivers a → fits s a ≡ true
      → fits t a ≡ true → IsPair (after s first a) (after t second a)
  answer_in_both s t first second a pair givers fit fit_too =
      let c = giver kinder a.kind a.target in
      let ahead = pair.ahead in
      let s1 = after s first a in
      let t1 = after t second a in
      let over1 = after_over a.kind d.wishes s a.target first ahead.over in
      let over2 = after_over a.kind d.wishes t a.target second ahead.over_too in
      let of1 : t1.dossier ≡ kinder = after_of a.kind kinder t a.target second pair.of_too in
      record {
        of = after_of a.kind d s a.target first pair.of;
        of_too = of1;
        ahead = answered_ahead s t s1 t1 ahead c over1 over2 (of1 ∙ sym pair.of_too) givers.themself givers.spoke
            (λ k w at.
            mark_pair (TouchedOf c) d.wishes s s1 ahead.over over1
            (subst (λ (x : ℕ). Marks (TouchedOf x) s s1)
            (giver_is a.kind d s a.target pair.of ∙ same_giver a.kind a.target)
            (an_answer s first a fit)) k w at)
            (λ k w at.
            mark_pair (TouchedOf c) d.wishes t t1 ahead.over_too over2
            (subst (λ (x : ℕ). Marks (TouchedOf x) t t1) (giver_is a.kind kinder t a.target pair.of_too)
            (an_answer t second a fit_too)) k w at)
            (λ k w at. both_answered a.kind d.wishes s t a.target first second ahead.over ahead.over_too k w at
            (record { waits = (ahead.each k w at).waits; goes = (ahead.each k w at).goes }));
      }
    where
      same_giver : (kind_of : AnswerKind) (target : ℕ) → giver d kind_of target ≡ giver kinder kind_of target
      same_giver Accept target = ap (λ (ws : List Wish). slice_index (map (λ (v : Wish). v.candidate) ws) target)
          (sym kind.wishes)
      same_giver Refuse target = ap (λ (ws : List Wish). slice_index (map (λ (v : Wish). v.candidate) ws) target)
          (sym kind.wishes)
      same_giver Withdraw target = ap (λ (ws : List Wish). slice_index (map (λ (v : Wish). v.candidate) ws) target)
          (sym kind.wishes)
      same_giver Quit target = refl

  -- what fits in a list of answers that all fit
  fits_first : (i : ℕ) (s : State) (stamp : Stamp) (a : Answer) (rest : List Answer)
      → first_unfit i s stamp (a ∷ rest) ≡ None
      → (fits s a ≡ true) × (first_unfit (i + 1) (after s stamp a) stamp rest ≡ None)
  fits_first i s stamp a rest none =
      elim (cases_Bool (fits s a)) [
        | inl fit ↦ (fit, rw fit at none)
        | inr unfit ↦ let some = rw unfit at none in absurd (cc)
      ]

  -- the answers of a day
  pub answers_ahead : (i j : ℕ) (s t : State) (first second : Stamp) (xs ys : List Answer) → HasAlso xs ys
      → first_unfit i s first xs ≡ None → first_unfit j t second ys ≡ None → AllByRecursion IsGivers ys → IsPair s t
      → IsPair (after_all s first xs) (after_all t second ys)
  answers_ahead i j s t first second [] [] also fit fit_too givers pair = pair
  answers_ahead i j s t first second (a ∷ rest) [] also fit fit_too givers pair = absurd also
  answers_ahead i j s t first second [] (b ∷ more) also fit fit_too givers pair =
      let there = fits_first j t second b more fit_too in
      answers_ahead i (j + 1) s (after t second b) first second [] more tt fit there.1 givers.1
      (answer_there s t second b pair givers.0 there.0)
  answers_ahead i j s t first second (a ∷ rest) (b ∷ more) (inr also) fit fit_too givers pair =
      let there = fits_first j t second b more fit_too in
      answers_ahead i (j + 1) s (after t second b) first second (a ∷ rest) more also fit there.1 givers.1
      (answer_there s t second b pair givers.0 there.0)
  answers_ahead i j s t first second (a ∷ rest) (b ∷ more) (inl also) fit fit_too givers pair =
      let here = fits_first i s first a rest fit in
      let there = fits_first j t second b more fit_too in
      let fit_b : fits s b ≡ true = ap (fits s) also.0 ∙ here.0 in
      let both = answer_in_both s t first second b pair givers.0 fit_b there.0 in
      answers_ahead (i + 1) (j + 1) (after s first a) (after t second b) first second rest more also.1 here.1 there.1
      givers.1 (subst (λ (x : Answer). IsPair (after s first x) (after t second b)) also.0 both)
