-- Who stands ahead of a wish in an opening did so in the one before, unless a bar rose.
use Rattle.std.proofs.Common.{ℕ, zero, suc, ◌+◌, ◌≤◌, ◌<◌, ◌≡◌, Bool, true, false, not, ◌&&◌, List, [], ◌∷◌, ◌++◌}
use Rattle.std.proofs.Common.{length, Option, Some, None, inl, inr, refl, sym, ◌∙◌, ap, subst, arith, nat_eq, nat_lt}
use Rattle.std.proofs.Common.{get_or, count_by, zip}
use Rattle.std.specs.Prelude.{⊤, AllPairs, slice_get, slice_index, unwrap_or}
use Rattle.std.specs.List.{before_first}
use Rattle.std.proofs.lemmas.Bool.{and_cases, and_from, and_parts, cases_order, eq-eqb, eqb-true, false≢true}
use Rattle.std.proofs.lemmas.Bool.{false_from_ne_true, ltb-false, ltb-true, not-false, not-true, not_from_false}
use Rattle.std.proofs.lemmas.List.{get_or_default}
use Rattle.std.proofs.lemmas.List.Folds.{Any-from_list_any}
use Rattle.std.proofs.lemmas.Option.{slice_get-get_or}
use Rattle.admit_core.specs.declared.dossier.Answer.{Answer}
use Rattle.admit_core.specs.declared.dossier.Wish.{Wish}
use Rattle.admit_core.specs.declared.ranking.CallOrder.{CallOrder}
use Rattle.admit_core.specs.declared.records.DayRecord.{DayRecord}
use Rattle.admit_core.specs.declared.records.PassEnd.{PassEnd}
use Rattle.admit_core.specs.declared.records.Terms.{Terms}
use Rattle.admit_core.specs.declared.state.Mark.{Mark}
use Rattle.admit_core.specs.declared.state.Stamp.{Stamp}
use Rattle.admit_core.specs.declared.state.Status.TheVariants.{Offered}
use Rattle.admit_core.specs.Answers.{after}
use Rattle.admit_core.specs.AutoAnswer.{auto_all}
use Rattle.admit_core.specs.Days.{Days, after_lapse, answers_of, ceilings_of, closing, morning, offered}
use Rattle.admit_core.specs.DossierRows.{DossierRows}
use Rattle.admit_core.specs.Lapses.{AreTermsFor, lapse}
use Rattle.admit_core.specs.Proposals.{ahead, has_open_wish, is_barred, is_behind_bar, is_open, is_open_in}
use Rattle.admit_core.specs.Proposals.{order_of, wants_seat}
use Rattle.admit_core.specs.State.{State, entries, has_school, holds_bed, holds_seat, is_live, is_waiting}
use Rattle.admit_core.specs.State.{is_waiting_status}
use Rattle.admit_core.specs.Validity.{IsValid}
use Rattle.admit_core.proofs.DemandLaws.{not_barred_step, not_over}
use Rattle.admit_core.proofs.Holders.{holds, lives_with}
use Rattle.admit_core.proofs.Plain.{waits_open}
use Rattle.admit_core.proofs.Statuses.{changed_status}
use Rattle.admit_core.proofs.Tests.{count_implied}
use Rattle.fairness.proofs.Beds.{ranks_tell}
use Rattle.linked_demand.proofs.Closing.{any_at}
use Rattle.round.proofs.NewHolders.{becomes_live, entry_wish}
use Rattle.campaign_laws.specs.Moments.{Opening, after_each, evening_after, evening_of, openings, pass_openings}
use Rattle.campaign_laws.specs.PassedOver.{WaitsAt}
use Rattle.campaign_laws.proofs.GoneStays.{IsLaterOf, later_of_steps, live_waits_not, terms_long}
use Rattle.campaign_laws.proofs.Holding.{entry_before, held_already}
use Rattle.campaign_laws.proofs.OneMark.{KeptOrLapsed, KeptOrOffered, KeptOrTouched, Marks, TouchedOf, a_lapse}
use Rattle.campaign_laws.proofs.OneMark.{an_answer, automatic_answers, lapsed_touched, marks_imply, of_kind}
use Rattle.campaign_laws.proofs.OneMark.{offers_of_a_pass, touched_any}
use Rattle.campaign_laws.proofs.PassedOver.{waited_at}
use Rattle.campaign_laws.proofs.Walks.{Nothing, Steps, all_of, evening_dossier, evening_is, morning_of, morning_steps}
use Rattle.campaign_laws.proofs.Walks.{throughout}
use Rattle.campaign_bars.specs.Ahead.{EachToNext, NoBarRose, NoMoreAhead, NotSameProgramme}

-- ---- from the offers of a pass to the next opening: who waits has waited, and nobody becomes live
record Follows (s t : State) : Type 0 where
  same : t.dossier ≡ s.dossier
  waited : (k : ℕ) (w : Wish) → WaitsAt t k w → WaitsAt s k w
  nobody_new : (test : Wish → Bool) (c : ℕ) → holds test t c ≡ true → holds test s c ≡ true

follows_on : (a b c : State) → Follows a b → Follows b c → Follows a c
follows_on a b c first second = record {
  same = second.same ∙ first.same;
  waited = λ k w at. first.waited k w (second.waited k w at);
  nobody_new = λ test x held. first.nobody_new test x (second.nobody_new test x held);
}

by_marks : (s t : State) → IsLaterOf s t → Marks KeptOrTouched s t → Follows s t
by_marks s t later marks = record {
  same = later.0;
  waited = λ k w at. waited_at s t k w later.1 at;
  nobody_new = λ test c held. held_already test s t c marks held;
}

abbrev Never : Opening → Type 0
Never o = ⊥

follow_steps : (d : DossierRows) (terms : Option Terms) (orders : List CallOrder) → AreTermsFor d terms
    → Steps d terms orders Never Nothing Follows
follow_steps d terms orders fit =
    let later = later_of_steps d terms orders Never Nothing fit in
    record {
      stays = λ s. record { same = refl; waited = λ k w at. at; nobody_new = λ test c held. held };
      lapses = λ t day s is of. by_marks s (lapse t day s) (later.lapses t day s is of)
          (marks_imply KeptOrLapsed KeptOrTouched lapsed_touched (entries s) (entries (lapse t day s))
          (a_lapse t day s (terms_long d terms t fit is ∙ ap (λ (x : DossierRows). length x.wishes) (sym of))));
      answers = λ s stamp a of fits known. by_marks s (after s stamp a) (later.answers s stamp a of fits known)
          (marks_imply (TouchedOf (of_kind a.kind s a.target)) KeptOrTouched (touched_any (of_kind a.kind s a.target))
          (entries s) (entries (after s stamp a)) (an_answer s stamp a fits));
      offers = λ s day bars stamp of greatest known. absurd known;
      autos = λ s stamp of. by_marks s (auto_all s stamp) (later.autos s stamp of) (automatic_answers s stamp);
    }

-- each opening is followed so by the next
abbrev Chain : List CallOrder → State → List Opening → Type 0
Chain orders s [] = ⊤
Chain orders s (o ∷ os) =
    Follows s o.state × ((stamp : Stamp) × Chain orders (offered o.state orders o.bars stamp) os)

module _ (d : DossierRows) (terms : Option Terms) (orders : List CallOrder) (fit : AreTermsFor d terms) where
  abbrev steps : Steps d terms orders Never Nothing Follows
  steps = follow_steps d terms orders fit

  chain_passes : (day k : ℕ) (s : State) (passes : List PassEnd) (rest : List Opening) (t : State) → s.dossier ≡ d
      → Follows t s → ((u : State) → Follows u (evening_after orders day k s passes) → Chain orders u rest)
      → Chain orders t (pass_openings orders day k s passes ++ rest)
  chain_passes day k s [] rest t of follows tail = tail t follows
  chain_passes day k s (pass ∷ passes) rest t of follows tail =
      let stamp : Stamp = record { day = day; pass = k } in
      let offers = offered s orders pass.pass.bars stamp in (
        follows,
        (
          stamp,
          chain_passes day (k + 1) (closing s orders pass.pass.bars stamp) passes rest offers of
              (steps.autos offers stamp of) tail,
        ),
      )

  chain_days : (days : List DayRecord) (n : ℕ) (old new t : State) → old.dossier ≡ d → Follows t old
      → Days terms orders n old days new → Chain orders t (openings terms orders old days)
  chain_days [] n old new t of follows are = tt
  chain_days (day ∷ days) n old new t of follows are =
      let (evening, is_number, is_day, rest) = are in
      let dawn = morning terms day.day old in
      let stamp : Stamp = record { day = day.day; pass = 0 } in
      let lapsed = after_lapse terms day.day old in
      let walk = morning_steps d terms orders Never Nothing Follows steps old day.day of is_day.fits
      (all_of Nothing (λ (a : Answer). tt) (answers_of old.dossier day.day)) in
      let there = throughout Follows (Follows t) (λ a b step so_far. follows_on t a b so_far step) old
      (lapsed ∷ after_each lapsed stamp (answers_of old.dossier day.day)) dawn walk follows in
      let left : evening ≡ evening_of terms orders old day =
      evening_is orders (ceilings_of old.dossier n) day.day 1 dawn day.passes evening is_day.passes in
      let of_dawn : dawn.dossier ≡ d = morning_of d terms day.day old of in
      let kept : (evening_of terms orders old day).dossier ≡ d =
      evening_dossier orders day.day 1 dawn day.passes ∙ of_dawn in
      let later : Days terms orders (n + 1) (evening_of terms orders old day) days new =
      subst (λ (s : State). Days terms orders (n + 1) s days new) left rest in
      chain_passes day.day 1 dawn day.passes (openings terms orders (evening_of terms orders old day) days) t of_dawn
      there.end (λ u found. chain_days days (n + 1) (evening_of terms orders old day) new u kept found later)

-- ---- an opening and the next, where no bar rose
listed_at : (ws : List Wish) (ms : List Mark) (k : ℕ) (v : Wish) (m : Mark) → slice_get (zip ws ms) k ≡ Some (v, m)
    → (k < length ws) × (get_or ws k v ≡ v)
listed_at [] ms k v m at = absurd (cc)
listed_at (w ∷ ws) [] k v m at = absurd (cc)
listed_at (w ∷ ws) (n ∷ ms) zero v m at = (omega arith, ap (λ (o : Option (Wish × Mark)). (unwrap_or o (v, m)).0) at)
listed_at (w ∷ ws) (n ∷ ms) (suc k) v m at =
    let rest = listed_at ws ms k v m at in
    (omega (arith, rest.0), rest.1)

module _ (o p : Opening) (orders : List CallOrder) (stamp : Stamp) (valid : IsValid o.state.dossier)
    (one : AllPairs NotSameProgramme o.state.dossier.wishes)
    (follows : Follows (offered o.state orders o.bars stamp) p.state) (no_rise : NoBarRose o p) where
  abbrev s : State
  s = o.state

  abbrev t : State
  t = p.state

  -- what waits in the next opening waited
  waited_here : (k : ℕ) (v : Wish) → WaitsAt t k v
      → (m : Mark) × (slice_get (entries s) k ≡ Some (v, m)) × (is_waiting m ≡ true)
  waited_here k v at =
      let there = follows.waited k v at in
      let (m, here, step) = entry_before (KeptOrOffered s orders o.bars stamp) (entries s)
      (entries (offered s orders o.bars stamp)) k v there.mark (offers_of_a_pass s orders o.bars stamp) there.there in
      elim step [
        | inl kept ↦ (m, here, ap is_waiting (sym kept.1) ∙ there.waits)
        | inr given ↦
            absurd (false≢true
            (sym (ap is_waiting given.1 ∙ ap is_waiting_status (changed_status Offered stamp m)) ∙ there.waits))
      ]

  -- and who is behind no bar there was behind none
  was_not_behind : (k : ℕ) (v : Wish) (m : Mark) → slice_get (entries s) k ≡ Some (v, m) → (school : Option ℕ)
      → v.school ≡ school → is_behind_bar t p.bars v school ≡ false → is_behind_bar s o.bars v school ≡ false
  was_not_behind k v m here None is within = refl
  was_not_behind k v m here (Some h) is within =
      let c = v.candidate in
      let r = v.board_rank in
      false_from_ne_true (is_behind_bar s o.bars v (Some h)) (λ behind.
      let parts = and_parts (not (holds_bed s c h)) (nat_lt (slice_index o.bars h) r) behind in
      let over = ltb-true (slice_index o.bars h) r parts.1 in
      elim (and_cases (not (holds_bed t c h)) (nat_lt (slice_index p.bars h) r) within) [
        | inl has_bed ↦
            let after_offers = follows.nobody_new (λ (w : Wish). has_school w h) c
            (not-false (holds_bed t c h) has_bed) in
            let makes = becomes_live s orders o.bars stamp (λ (w : Wish). has_school w h) c after_offers
            (not-true (holds_bed s c h) parts.0) in
            let x = makes.entry.0 in
            let own : x.candidate ≡ c = eqb-true x.candidate c makes.own in
            let no_bed : not (holds_bed s x.candidate h) ≡ true = rw own parts.0 in
            let opens = (and_parts (is_open s o.bars x makes.entry.1) _ makes.offers).0 in
            let at_most = not_over s o.bars x x.school h makes.passes no_bed
            (not_barred_step (is_waiting makes.entry.1) (is_behind_bar s o.bars x x.school) opens) in
            let place = entry_wish s makes.place makes.entry makes.within makes.here in
            let listed = listed_at s.dossier.wishes s.marks k v m here in
            let has : has_school v h ≡ true = rw is (eq-eqb h h refl) in
            let same = (ranks_tell s.dossier h v x valid (k, listed.0, listed.1) (makes.place, place.0, place.1) has
            makes.passes).1 (sym own) in
            omega (arith, at_most, same, over)
        | inr low ↦ omega (arith, ltb-false (slice_index p.bars h) r low, no_rise h, over)
      ])

  -- who waits for a programme by their only wish of it is not live there
  not_live_there : (k : ℕ) (v : Wish) (m : Mark) → slice_get (entries s) k ≡ Some (v, m) → is_waiting m ≡ true
      → holds_seat s v.candidate v.programme ≡ false
  not_live_there k v m here waits =
      let ws = s.dossier.wishes in
      let in_p : Wish → Bool = λ w. nat_eq w.programme v.programme in
      false_from_ne_true (holds_seat s v.candidate v.programme) (λ held.
      let (j, e, lt, at, lives) = Any-from_list_any (lives_with in_p v.candidate) (entries s) held in
      let outer = and_parts (is_live e.1 && nat_eq e.0.candidate v.candidate) (in_p e.0) lives in
      let inner = and_parts (is_live e.1) (nat_eq e.0.candidate v.candidate) outer.0 in
      let there : slice_get (entries s) j ≡ Some (e.0, e.1) = slice_get-get_or (entries s) j e lt ∙ ap Some at in
      let mine = listed_at ws s.marks k v m here in
      let theirs = listed_at ws s.marks j e.0 e.1 there in
      let same_c : e.0.candidate ≡ v.candidate = eqb-true e.0.candidate v.candidate inner.1 in
      let same_p : e.0.programme ≡ v.programme = eqb-true e.0.programme v.programme outer.1 in
      elim (cases_order j k) [
        | inl equal ↦
            let both : Some (e.0, e.1) ≡ Some (v, m) = sym there ∙ ap (slice_get (entries s)) equal ∙ here in
            let mark : e.1 ≡ m = ap (λ (x : Option (Wish × Mark)). (unwrap_or x (v, m)).1) both in
            false≢true (sym (live_waits_not m.status (ap is_live (sym mark) ∙ inner.0)) ∙ waits)
        | inr differ ↦ elim differ [
          | inl below ↦
              let v_there : get_or ws k e.0 ≡ v = get_or_default ws k e.0 v mine.0 ∙ mine.1 in
              let apart = rw (theirs.1, v_there) at (one j k e.0 below mine.0) in
              apart same_c same_p
          | inr above ↦
              let e_there : get_or ws j v ≡ e.0 = get_or_default ws j v e.0 theirs.0 ∙ theirs.1 in
              let apart = rw (mine.1, e_there) at (one k j v above theirs.0) in
              apart (sym same_c) (sym same_p)
        ]
      ])

  wanted_before : (q c : ℕ) → wants_seat t p.bars q c ≡ true → wants_seat s o.bars q c ≡ true
  wanted_before q c wants =
      let parts = and_parts (has_open_wish t p.bars q c) (not (holds_seat t c q)) wants in
      let (k, x, lt, at, there) = Any-from_list_any (λ (e : Wish × Mark). is_open_in t p.bars q c e.0 e.1) (entries t)
      parts.0 in
      let v = x.0 in
      let n = x.1 in
      let outer = and_parts (is_open t p.bars v n && nat_eq v.candidate c) (nat_eq v.programme q) there in
      let inner = and_parts (is_open t p.bars v n) (nat_eq v.candidate c) outer.0 in
      let waiting = (and_parts (is_waiting n) (not (is_barred t p.bars v n)) inner.0).0 in
      let (m, here, waits) = waited_here k v
      (record { mark = n; there = slice_get-get_or (entries t) k x lt ∙ ap Some at; waits = waiting }) in
      let unbarred = was_not_behind k v m here v.school refl
      (not_barred_step (is_waiting n) (is_behind_bar t p.bars v v.school) inner.0) in
      let opens : is_open s o.bars v m ≡ true =
      waits_open (is_waiting m) (is_behind_bar s o.bars v v.school) waits unbarred in
      let in_it : is_open_in s o.bars q c v m ≡ true =
      and_from (is_open s o.bars v m && nat_eq v.candidate c) (nat_eq v.programme q)
      (and_from (is_open s o.bars v m) (nat_eq v.candidate c) opens inner.1) outer.1 in
      let has : has_open_wish s o.bars q c ≡ true =
      any_at (λ (e : Wish × Mark). is_open_in s o.bars q c e.0 e.1) (entries s) k (v, m) here in_it in
      let not_live = not_live_there k v m here waits in
      let no_seat : holds_seat s c q ≡ false =
      subst (λ (b : ℕ). holds_seat s c b ≡ false) (eqb-true v.programme q outer.1)
      (subst (λ (a : ℕ). holds_seat s a v.programme ≡ false) (eqb-true v.candidate c inner.1) not_live) in
      and_from (has_open_wish s o.bars q c) (not (holds_seat s c q)) has (not_from_false (holds_seat s c q) no_seat)

  no_more : (w : Wish) → ahead t orders p.bars w ≤ ahead s orders o.bars w
  no_more w =
      let q = w.programme in
      let those = λ (d : DossierRows). before_first (nat_eq w.candidate) (order_of d orders q) in
      let fewer = count_implied (wants_seat t p.bars q) (wants_seat s o.bars q) (wanted_before q) (those s.dossier) in
      let same : count_by (wants_seat t p.bars q) (those t.dossier)
      ≡ count_by (wants_seat t p.bars q) (those s.dossier) =
      ap (λ (d : DossierRows). count_by (wants_seat t p.bars q) (those d)) follows.same in
      omega (arith, fewer, same)

each_to_next : (d : DossierRows) (orders : List CallOrder) (t : State) (os : List Opening) → IsValid d
    → AllPairs NotSameProgramme d.wishes → t.dossier ≡ d → Chain orders t os
    → EachToNext (NoMoreAhead orders) os
each_to_next d orders t [] valid one of chain = tt
each_to_next d orders t (o ∷ []) valid one of chain = tt
each_to_next d orders t (o ∷ (p ∷ rest)) valid one of chain =
    let of_it : o.state.dossier ≡ d = chain.0.same ∙ of in
    let stamp = chain.1.0 in
    let next = chain.1.1 in (
      no_more o p orders stamp (subst IsValid (sym of_it) valid)
          (subst (λ (x : DossierRows). AllPairs NotSameProgramme x.wishes) (sym of_it) one) next.0,
      each_to_next d orders (offered o.state orders o.bars stamp) (p ∷ rest) valid one of_it next,
    )

pub ahead_grows_only_with_a_bar : (terms : Option Terms) (orders : List CallOrder) (d : ℕ) (old : State)
    (days : List DayRecord) (new : State) → IsValid old.dossier → AllPairs NotSameProgramme old.dossier.wishes
    → AreTermsFor old.dossier terms → Days terms orders d old days new
    → EachToNext (NoMoreAhead orders) (openings terms orders old days)
ahead_grows_only_with_a_bar terms orders d old days new valid one fit are =
    each_to_next old.dossier orders old (openings terms orders old days) valid one refl
    (chain_days old.dossier terms orders fit days d old new old refl
    (record { same = refl; waited = λ k w at. at; nobody_new = λ test c held. held }) are)
