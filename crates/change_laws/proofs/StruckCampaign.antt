-- A campaign in which a wish that no bar stops, and that waits to the end, was given up before.
use Rattle.std.proofs.Common.{ℕ, ◌+◌, ◌<◌, ◌≡◌, ◌≢◌, Bool, true, false, not, ◌&&◌, ◌||◌, List, [], ◌∷◌, length, map}
use Rattle.std.proofs.Common.{get_or, Option, Some, None, inl, inr, refl, sym, ◌∙◌, ap, subst, arith, set, count_by}
use Rattle.std.specs.Prelude.{ℤ, pos, ◌==◌, All, if◌then◌else◌, sum}
use Rattle.std.specs.List.{AllByRecursion, range_with_len}
use Rattle.std.proofs.lemmas.Bool.{both_ways, cases_Bool, cases_lt, eq-eqb, not-true}
use Rattle.std.proofs.lemmas.List.{get_or-set_other, get_or_default}
use Rattle.std.proofs.lemmas.List.Elements.{recursion_from_All}
use Rattle.std.proofs.lemmas.Option.{get_or_from_slice_get, slice_get_past, unwrap_or-slice_get}
use Rattle.admit_core.specs.declared.dossier.Answer.{Answer}
use Rattle.admit_core.specs.declared.dossier.AnswerKind.{AnswerKind}
use Rattle.admit_core.specs.declared.dossier.AnswerKind.TheVariants.{Accept, Quit, Refuse, Withdraw}
use Rattle.admit_core.specs.declared.dossier.Wish.{Wish}
use Rattle.admit_core.specs.declared.ranking.CallOrder.{CallOrder}
use Rattle.admit_core.specs.declared.records.DayRecord.{DayRecord}
use Rattle.admit_core.specs.declared.records.PassEnd.{PassEnd}
use Rattle.admit_core.specs.declared.records.Terms.{Terms}
use Rattle.admit_core.specs.declared.state.Mark.{Mark}
use Rattle.admit_core.specs.declared.state.Stamp.{Stamp}
use Rattle.admit_core.specs.declared.state.Status.{Status}
use Rattle.admit_core.specs.declared.state.Status.TheVariants.{Waiting, Offered, Accepted, Refused, Withdrawn}
use Rattle.admit_core.specs.declared.state.Status.TheVariants.{Quit as HasQuit, AutoRefused, AutoWithdrawn, Lapsed}
use Rattle.admit_core.specs.Answers.{after, after_all, after_kind, candidate_at, first_unfit, fits, kind_fits, mark_at}
use Rattle.admit_core.specs.Answers.{refuse_live}
use Rattle.admit_core.specs.AutoAnswer.{auto_all, auto_mark, best_live, freed}
use Rattle.admit_core.specs.Boarding.{boarding}
use Rattle.admit_core.specs.Days.{Days, IsDay, IsPassEnd, Passes, after_lapse, answers_of, ceilings_of, changes}
use Rattle.admit_core.specs.Days.{closing, first_mark, lapsed_on, morning, offered}
use Rattle.admit_core.specs.DossierRows.{DossierRows, candidates_of}
use Rattle.admit_core.specs.Falls.{IsGreatest}
use Rattle.admit_core.specs.Lapses.{AreTermsFor, is_offered, lapses, offer_day}
use Rattle.admit_core.specs.Proposals.{is_behind_bar, is_open, is_proposed}
use Rattle.admit_core.specs.State.{State, changed_to, entries, is_gone, is_live, is_waiting, is_waiting_status}
use Rattle.admit_core.specs.State.{status_number, with_mark_at}
use Rattle.admit_core.proofs.DemandLaws.{boarding_is_lawful}
use Rattle.admit_core.proofs.Evenings.{entry_wish}
use Rattle.admit_core.proofs.FallsLaw.{run_is_greatest}
use Rattle.admit_core.proofs.FilledSeats.{offer_if, waits_still}
use Rattle.admit_core.proofs.Plain.{waits_open}
use Rattle.admit_core.proofs.Statuses.{changed_status, waiting_is}
use Rattle.campaign_laws.specs.Moments.{after_each, after_passes, day_moments, day_openings, evening_after, evening_of}
use Rattle.campaign_laws.specs.Moments.{moments, openings, pass_openings}
use Rattle.campaign_laws.specs.OneMark.{IsLater}
use Rattle.campaign_laws.specs.PassedOver.{IsUnbarred, WaitsAt}
use Rattle.campaign_laws.proofs.GoneStays.{gone_stays_gone, later_steps}
use Rattle.campaign_laws.proofs.Matchings.{gone_status}
use Rattle.campaign_laws.proofs.PassedOver.{waited_at}
use Rattle.campaign_laws.proofs.Walks.{Nothing, SameDossier, Steps, all_both, all_imply, all_split, evening_dossier}
use Rattle.campaign_laws.proofs.Walks.{evening_is, morning_of, plain_steps, same_dossier, throughout}
use Rattle.change_laws.proofs.Answering.{after_over, set_mark}
use Rattle.change_laws.proofs.Further.{gone_lives_not}
use Rattle.change_laws.proofs.OnePlaceUp.{over_lapse}
use Rattle.change_laws.proofs.Places.{IsAt, IsOver, entry_there, mark_given, mark_in, over_given}
use Rattle.change_laws.proofs.Struck.{IsWaiting, same_after_offers, same_answers, same_bed, same_free, same_left}
use Rattle.change_laws.proofs.Struck.{same_offers, same_seat, struck}
use Rattle.change_laws.proofs.StruckBars.{run_too}
use Rattle.change_laws.proofs.StruckLists.{both_struck, map_struck, placed_struck, set_set}
use Rattle.change_laws.proofs.UnreadDays.{to_the_end}

gone_offered_not : (x : Status) → gone_status x ≡ true → is_offered x ≡ false
gone_offered_not Waiting gone = refl
gone_offered_not Offered gone = absurd (cc)
gone_offered_not Accepted gone = refl
gone_offered_not Refused gone = refl
gone_offered_not Withdrawn gone = refl
gone_offered_not HasQuit gone = refl
gone_offered_not AutoRefused gone = refl
gone_offered_not AutoWithdrawn gone = refl
gone_offered_not Lapsed gone = refl

-- a wish that waits, by its place
waiting_of : (s : State) (place : ℕ) (w : Wish) → length s.marks ≡ length s.dossier.wishes → WaitsAt s place w
    → IsWaiting s place w
waiting_of s place w long found =
    let es = entries s in
    let e : Wish × Mark = (w, found.mark) in
    let lt : place < length es = elim (cases_lt place (length es)) [
      | inl lt ↦ lt
      | inr past ↦ let none = slice_get_past es place past in let some = found.there in absurd (cc)
    ] in
    let here : get_or es place e ≡ e = get_or_from_slice_get es place e e found.there in
    let standing = entry_wish s place e lt here in
    let at : IsAt s.dossier.wishes place w = record { within = standing.0; here = sym standing.1 } in
    let there = entry_there s.dossier.wishes s (record { wishes = refl; long = long }) place w at in
    let one : (w, mark_in s place) ≡ e = sym there.1
    ∙ get_or_from_slice_get es place e (w, mark_in s place) found.there in
    record { at = at; long = long; waits = ap (λ (x : Wish × Mark). is_waiting x.1) one ∙ found.waits }

module _ (place : ℕ) (w : Wish) (g : Mark) (gone : is_gone g ≡ true) where
  abbrev Z : State → State
  Z s = struck place w g gone s

  abbrev W : State → Type 0
  W s = IsWaiting s place w

  -- ---- a pass
  changes_struck : (a b : State) → W a → W b → changes (Z a) (Z b) ≡ changes a b
  changes_struck a b is is_too =
      let test : Mark × Mark → Bool = λ x. not (status_number x.0.status == status_number x.1.status) in
      let in_a : place < length a.marks = omega (arith, is.long, is.at.within) in
      let in_b : place < length b.marks = omega (arith, is_too.long, is_too.at.within) in
      let first : (get_or a.marks place g).status ≡ Waiting =
      ap (λ (m : Mark). m.status) (get_or_default a.marks place g (first_mark Waiting) in_a)
      ∙ waiting_is (mark_in a place).status is.waits in
      let second : (get_or b.marks place g).status ≡ Waiting =
      ap (λ (m : Mark). m.status) (get_or_default b.marks place g (first_mark Waiting) in_b)
      ∙ waiting_is (mark_in b place).status is_too.waits in
      let same : test (g, g) ≡ false = ap not (eq-eqb (status_number g.status) (status_number g.status) refl) in
      let fails : test (get_or a.marks place g, get_or b.marks place g) ≡ false =
      λ i. not (status_number (first i) == status_number (second i)) in
      ap (map (λ (x : ℕ × (Mark × Mark)). record { wish = x.0; status = x.1.1.status }))
      (both_struck test 0 a.marks b.marks place g in_a in_b same fails)

  freed_struck : (a b : State) → W a → W b → freed (Z a) (Z b) ≡ freed a b
  freed_struck a b is is_too =
      λ i. record {
        seats = sum (map (λ c. count_by (λ p. same_seat place w g gone a is c p i
            && not (same_seat place w g gone b is_too c p i))
            (range_with_len 0 (length a.dossier.programmes))) (candidates_of a.dossier));
        beds = sum (map (λ c. count_by (λ h. same_bed place w g gone a is c h i
            && not (same_bed place w g gone b is_too c h i))
            (range_with_len 0 (length a.dossier.schools))) (candidates_of a.dossier));
      }

  module _ (orders : List CallOrder) (s : State) (is : W s) (bars : List ℕ) (stamp : Stamp)
      (unbarred : is_behind_bar s bars w w.school ≡ false) (offers_wait : W (offered s orders bars stamp)) where
    opens : is_open s bars w (mark_in s place) ≡ true
    opens = waits_open (is_waiting (mark_in s place)) (is_behind_bar s bars w w.school) is.waits unbarred

    none : is_proposed s orders bars w (mark_in s place) ≡ false
    none =
        let over : IsOver s.dossier.wishes s = record { wishes = refl; long = is.long } in
        (waits_still stamp (is_proposed s orders bars w (mark_in s place)) (mark_in s place)
        (ap is_waiting (sym (mark_given s.dossier.wishes s over
        (λ v m. offer_if stamp (is_proposed s orders bars v m) m) place w is.at)) ∙ offers_wait.waits)).0

    offers_same : offered (Z s) orders bars stamp ≡ Z (offered s orders bars stamp)
    offers_same = same_after_offers place w g gone s is orders bars opens none stamp

    closes_same : closing (Z s) orders bars stamp ≡ Z (closing s orders bars stamp)
    closes_same = ap (λ (t : State). auto_all t stamp) offers_same
        ∙ same_answers place w g gone (offered s orders bars stamp) offers_wait stamp

  end_struck : (orders : List CallOrder) (ceilings : List ℕ) (s : State) (stamp : Stamp) (pass : PassEnd) → W s
      → is_behind_bar s pass.pass.bars w w.school ≡ false → W (offered s orders pass.pass.bars stamp)
      → W (closing s orders pass.pass.bars stamp) → IsPassEnd s orders ceilings stamp pass
      → IsPassEnd (Z s) orders ceilings stamp pass
  end_struck orders ceilings s stamp pass is unbarred offers_wait closing_waits it =
      let bars = pass.pass.bars in
      let opened = opens orders s is bars stamp unbarred offers_wait in
      let not_offered = none orders s is bars stamp unbarred offers_wait in
      let offers = offers_same orders s is bars stamp unbarred offers_wait in
      let closes = closes_same orders s is bars stamp unbarred offers_wait in
      let run = run_too place w g gone s is orders ceilings bars opened not_offered pass.pass.falls it.pass.bars
      it.pass.falls in
      record {
        pass = record {
          greatest = subst (IsGreatest (boarding (Z s) orders ceilings)) (sym it.pass.bars)
              (run_is_greatest (boarding (Z s) orders ceilings) (boarding_is_lawful (Z s) orders ceilings)
              pass.pass.falls run);
          falls = run;
          bars = it.pass.bars;
          offers = it.pass.offers ∙ sym (same_offers place w g gone s is orders bars opened not_offered);
        };
        autos = it.autos ∙ sym ((λ i. changes (offers i) (closes i))
            ∙ changes_struck (offered s orders bars stamp) (closing s orders bars stamp) offers_wait closing_waits);
        freed = it.freed ∙ sym ((λ i. freed (offers i) (closes i))
            ∙ freed_struck (offered s orders bars stamp) (closing s orders bars stamp) offers_wait closing_waits);
      }

  passes_struck : (orders : List CallOrder) (ceilings : List ℕ) (day k : ℕ) (s : State) (passes : List PassEnd)
      (evening : State) → W s → AllByRecursion W (after_passes orders day k s passes)
      → AllByRecursion (IsUnbarred w) (pass_openings orders day k s passes)
      → Passes orders ceilings day k s passes evening → Passes orders ceilings day k (Z s) passes (Z evening)
  passes_struck orders ceilings day k s [] evening is waits unbarred are = absurd are
  passes_struck orders ceilings day k s (pass ∷ []) evening is waits unbarred are =
      let stamp : Stamp = record { day = day; pass = k } in (
        end_struck orders ceilings s stamp pass is unbarred.0 waits.0 waits.1.0 are.0,
        are.1,
        ap (λ (x : State). Z x) are.2 ∙ sym (closes_same orders s is pass.pass.bars stamp unbarred.0 waits.0),
      )
  passes_struck orders ceilings day k s (pass ∷ (next ∷ rest)) evening is waits unbarred are =
      let stamp : Stamp = record { day = day; pass = k } in
      let bars = pass.pass.bars in (
        end_struck orders ceilings s stamp pass is unbarred.0 waits.0 waits.1.0 are.0,
        are.1,
        subst (λ (t : State). Passes orders ceilings day (k + 1) t (next ∷ rest) (Z evening))
            (sym (closes_same orders s is bars stamp unbarred.0 waits.0))
            (passes_struck orders ceilings day (k + 1) (closing s orders bars stamp) (next ∷ rest) evening waits.1.0
            waits.1.1 unbarred.1 are.2),
      )

  -- ---- mornings
  lapse_struck : (terms : Option Terms) (day : ℕ) (s : State) → after_lapse terms day (Z s)
      ≡ Z (after_lapse terms day s)
  lapse_struck None day s = refl
  lapse_struck (Some t) day s =
      let stamp : Stamp = record { day = day; pass = 0 } in
      ap (λ (ms : List Mark). record s { marks = ms })
      (map_struck (λ (x : ℤ × Mark). if lapses t.term day x.0 x.1 then changed_to Lapsed stamp x.1 else x.1) t.before
      s.marks place g (λ b. rw (gone_offered_not g.status gone) refl))

  lapsed_struck : (terms : Option Terms) (day : ℕ) (s : State) → AreTermsFor s.dossier terms → W s
      → lapsed_on terms day (Z s) ≡ lapsed_on terms day s
  lapsed_struck None day s fit is = refl
  lapsed_struck (Some t) day s fit is =
      let f : ℤ × Mark → Bool = λ x. lapses t.term day x.0 x.1 in
      let m = mark_in s place in
      let b : ℤ = get_or t.before place (pos 0) in
      let within : place < length t.before = omega (arith, fit, is.at.within) in
      let marked : place < length s.marks = omega (arith, is.long, is.at.within) in
      let waits_so : is_offered m.status ≡ false = ap is_offered (waiting_is m.status is.waits) in
      ap (map (λ (x : ℕ × (ℤ × Mark)). record { wish = x.0; offered = offer_day x.1.0 x.1.1 }))
      (placed_struck f 0 t.before s.marks place g (record {
        first = b;
        mark = m;
        within = within;
        marked = marked;
        here = get_or_default t.before place b (pos 0) within;
        there = get_or_default s.marks place m (first_mark Waiting) marked;
        fails = rw waits_so refl;
        fails_too = rw (gone_offered_not g.status gone) refl;
      }))

  -- an answer that leaves the wish waiting does not speak of it
  not_there : (s : State) (target : ℕ) (x : Status) (stamp : Stamp) (m : Mark) → W s → is_waiting_status x ≡ false
      → W (record s { marks = set s.marks target (changed_to x stamp m) }) → place ≢ target
  not_there s target x stamp m is other after_waits =
      elim (set_mark s.dossier.wishes s target (changed_to x stamp m) (record { wishes = refl; long = is.long }) place w
      is.at) [
        | inl here ↦
            absurd (both_ways (is_waiting (mark_in (record s { marks = set s.marks target (changed_to x stamp m) })
            place))
            (ap is_waiting here.1 ∙ ap is_waiting_status (changed_status x stamp m) ∙ other) after_waits.waits)
        | inr there ↦ there.0
      ]

  mark_there : (s : State) (target : ℕ) → place ≢ target → mark_at (Z s) target ≡ mark_at s target
  mark_there s target other =
      let blank : Mark = record { status = Waiting; stamp = record { day = 0; pass = 0 } } in
      unwrap_or-slice_get (set s.marks place g) target blank
      ∙ get_or-set_other s.marks place target g blank (λ same. other (sym same))
      ∙ sym (unwrap_or-slice_get s.marks target blank)

  set_struck : (s : State) (target : ℕ) (x : Status) (stamp : Stamp) → place ≢ target
      → record (Z s) { marks = set (Z s).marks target (changed_to x stamp (mark_at (Z s) target)) }
      ≡ Z (record s { marks = set s.marks target (changed_to x stamp (mark_at s target)) })
  set_struck s target x stamp other =
      ap (λ (m : Mark). record s { marks = set (set s.marks place g) target (changed_to x stamp m) })
      (mark_there s target other)
      ∙ ap (λ (ms : List Mark). record s { marks = ms })
      (set_set s.marks place target g (changed_to x stamp (mark_at s target)) other)

  gone_neither : (is_live g || is_waiting g) ≡ false
  gone_neither = not-true (is_live g || is_waiting g) gone

  gone_dead : is_live g ≡ false
  gone_dead = gone_lives_not (is_live g) (is_waiting g) gone

  refuse_struck : (s : State) (c : ℕ) (stamp : Stamp) → refuse_live (Z s) c stamp ≡ Z (refuse_live s c stamp)
  refuse_struck s c stamp =
      ap (λ (ms : List Mark). record s { marks = ms })
      (map_struck (λ (e : Wish × Mark). if is_live e.1 && (e.0.candidate == c) then changed_to Refused stamp e.1 else
      e.1)
      s.dossier.wishes s.marks place g (λ v. rw gone_dead refl))

  -- what an answer does, and that it fits
  record IsAnsweredAlike (s : State) (stamp : Stamp) (a : Answer) : Type 0 where
    does : after (Z s) stamp a ≡ Z (after s stamp a)
    may : fits (Z s) a ≡ fits s a

  by_kind : (kind : AnswerKind) (s : State) (target : ℕ) (stamp : Stamp) → W s → W (after_kind kind s target stamp)
      → (after_kind kind (Z s) target stamp ≡ Z (after_kind kind s target stamp))
      × (kind_fits kind (mark_at (Z s) target).status ≡ kind_fits kind (mark_at s target).status)
  by_kind Quit s target stamp is later = (
    ap (λ (ms : List Mark). record s { marks = ms })
        (map_struck (λ (e : Wish × Mark). if (is_live e.1 || is_waiting e.1) && (e.0.candidate == target)
        then changed_to HasQuit stamp e.1 else e.1) s.dossier.wishes s.marks place g (λ v. rw gone_neither refl)),
    refl,
  )
  by_kind Refuse s target stamp is later =
      let other = not_there s target Refused stamp (mark_at s target) is refl later in (
        set_struck s target Refused stamp other,
        ap (λ (m : Mark). kind_fits Refuse m.status) (mark_there s target
            other),
      )
  by_kind Withdraw s target stamp is later =
      let other = not_there s target Withdrawn stamp (mark_at s target) is refl later in (
        set_struck s target Withdrawn stamp other,
        ap (λ (m : Mark). kind_fits Withdraw m.status) (mark_there s target
            other),
      )
  by_kind Accept s target stamp is later =
      let c = candidate_at s target in
      let t = refuse_live s c stamp in
      let over : IsOver s.dossier.wishes s = record { wishes = refl; long = is.long } in
      let over_t = over_given s.dossier.wishes s over
      (λ v m. if is_live m && (v.candidate == c) then changed_to Refused stamp m else m) in
      let x : Mark = changed_to Accepted stamp (mark_at s target) in
      let other : place ≢ target =
      elim (set_mark s.dossier.wishes t target x over_t place w is.at) [
        | inl here ↦
            absurd (both_ways (is_waiting (mark_in (record t { marks = set t.marks target x }) place))
            (ap is_waiting here.1 ∙ ap is_waiting_status (changed_status Accepted stamp (mark_at s target)))
            later.waits)
        | inr there ↦ there.0
      ] in (
        ap (λ (m : Mark). with_mark_at (refuse_live (Z s) c stamp) target (changed_to Accepted stamp m))
            (mark_there s target other)
            ∙ ap (λ (u : State). with_mark_at u target x) (refuse_struck s c stamp)
            ∙ ap (λ (ms : List Mark). record s { marks = ms }) (set_set t.marks place target g x other),
        ap (λ (m : Mark). kind_fits Accept m.status) (mark_there s target other),
      )

  answers_struck : (s : State) (stamp : Stamp) (answers : List Answer) → W s
      → AllByRecursion W (after_each s stamp answers)
      → after_all (Z s) stamp answers ≡ Z (after_all s stamp answers)
  answers_struck s stamp [] is waits = refl
  answers_struck s stamp (a ∷ rest) is waits =
      ap (λ (t : State). after_all t stamp rest) (by_kind a.kind s a.target stamp is waits.0).0
      ∙ answers_struck (after s stamp a) stamp rest waits.0 waits.1

  unfit_struck : (k : ℕ) (s : State) (stamp : Stamp) (answers : List Answer) → W s
      → AllByRecursion W (after_each s stamp answers) → first_unfit k s stamp answers ≡ None
      → first_unfit k (Z s) stamp answers ≡ None
  unfit_struck k s stamp [] is waits none_unfit = refl
  unfit_struck k s stamp (a ∷ rest) is waits none_unfit =
      let both = by_kind a.kind s a.target stamp is waits.0 in
      elim (cases_Bool (fits s a)) [
        | inl fit ↦
            let fit_too : fits (Z s) a ≡ true = both.1 ∙ fit in
            let later = unfit_struck (k + 1) (after s stamp a) stamp rest waits.0 waits.1 (rw fit at none_unfit) in
            rw fit_too (ap (λ (t : State). first_unfit (k + 1) t stamp rest) both.0 ∙ later)
        | inr unfit ↦ let some = rw unfit at none_unfit in absurd (cc)
      ]

  -- ---- days
  day_struck : (terms : Option Terms) (orders : List CallOrder) (n : ℕ) (old : State) (day : DayRecord) (evening :
      State)
      → AreTermsFor old.dossier terms → W old → AllByRecursion W (day_moments terms orders old day)
      → AllByRecursion (IsUnbarred w) (day_openings terms orders old day)
      → W (morning terms day.day old) → W evening → IsDay terms orders (ceilings_of old.dossier n) old day evening
      → IsDay terms orders (ceilings_of old.dossier n) (Z old) day (Z evening)
  day_struck terms orders n old day evening fit is waits unbarred dawn_waits evening_waits it =
      let lapsed = after_lapse terms day.day old in
      let stamp : Stamp = record { day = day.day; pass = 0 } in
      let answers = answers_of old.dossier day.day in
      let dawn = morning terms day.day old in
      let parts = all_split W (after_each lapsed stamp answers) (after_passes orders day.day 1 dawn day.passes)
      waits.1 in
      let ceilings = ceilings_of old.dossier n in
      let morning_same : morning terms day.day (Z old) ≡ Z dawn =
      ap (λ (t : State). after_all t stamp answers) (lapse_struck terms day.day old)
      ∙ answers_struck lapsed stamp answers waits.0 parts.0 in
      record {
        lapsed = it.lapsed ∙ sym (lapsed_struck terms day.day old fit is);
        fits = ap (λ (t : State). first_unfit 0 t stamp answers) (lapse_struck terms day.day old)
            ∙ unfit_struck 0 lapsed stamp answers waits.0 parts.0 it.fits;
        passes = subst (λ (t : State). Passes orders ceilings day.day 1 t day.passes (Z evening)) (sym morning_same)
            (passes_struck orders ceilings day.day 1 dawn day.passes evening dawn_waits parts.1 unbarred it.passes);
        left = it.left ∙ sym (λ i. map (λ p. same_left place w g gone evening evening_waits p i)
            (range_with_len 0 (length evening.dossier.programmes)));
        free = it.free ∙ sym (λ i. map (λ h. same_free place w g gone evening evening_waits h i)
            (range_with_len 0 (length evening.dossier.schools)));
      }

  dawn_waits_on : (s : State) (stamp : Stamp) (answers : List Answer) → W s
      → AllByRecursion W (after_each s stamp answers)
      → W (after_all s stamp answers)
  dawn_waits_on s stamp [] is waits = is
  dawn_waits_on s stamp (a ∷ rest) is waits = dawn_waits_on (after s stamp a) stamp rest waits.0 waits.1

  night_waits_on : (orders : List CallOrder) (day k : ℕ) (s : State) (passes : List PassEnd) → W s
      → AllByRecursion W (after_passes orders day k s passes) → W (evening_after orders day k s passes)
  night_waits_on orders day k s [] is waits = is
  night_waits_on orders day k s (pass ∷ rest) is waits =
      night_waits_on orders day (k + 1) (closing s orders pass.pass.bars (record { day = day; pass = k })) rest
      waits.1.0
      waits.1.1

  days_struck : (terms : Option Terms) (orders : List CallOrder) (n : ℕ) (old : State) (days : List DayRecord)
      (new : State) → AreTermsFor old.dossier terms → W old → AllByRecursion W (moments terms orders old days)
      → AllByRecursion (IsUnbarred w) (openings terms orders old days) → Days terms orders n old days new
      → Days terms orders n (Z old) days (Z new)
  days_struck terms orders n old [] new fit is waits unbarred are = ap (λ (x : State). Z x) are
  days_struck terms orders n old (day ∷ days) new fit is waits unbarred are =
      let (evening, is_number, is_day, rest) = are in
      let lapsed = after_lapse terms day.day old in
      let stamp : Stamp = record { day = day.day; pass = 0 } in
      let answers = answers_of old.dossier day.day in
      let dawn = morning terms day.day old in
      let left : evening ≡ evening_of terms orders old day =
      evening_is orders (ceilings_of old.dossier n) day.day 1 dawn day.passes evening is_day.passes in
      let whole = all_split W (day_moments terms orders old day)
      (moments terms orders (evening_of terms orders old day) days) waits in
      let opening_parts = all_split (IsUnbarred w) (day_openings terms orders old day)
      (openings terms orders (evening_of terms orders old day) days) unbarred in
      let parts = all_split W (after_each lapsed stamp answers) (after_passes orders day.day 1 dawn day.passes)
      whole.0.1 in
      let dawn_waits = dawn_waits_on lapsed stamp answers whole.0.0 parts.0 in
      let night_waits = night_waits_on orders day.day 1 dawn day.passes dawn_waits parts.1 in
      let evening_waits = subst W (sym left) night_waits in
      let kept : evening.dossier ≡ old.dossier =
      ap (λ (x : State). x.dossier) left ∙ evening_dossier orders day.day 1 dawn day.passes
      ∙ morning_of old.dossier terms day.day old refl in
      let fit_later = subst (λ (x : DossierRows). AreTermsFor x terms) (sym kept) fit in
      let later = subst (λ (x : State). AllByRecursion W (moments terms orders x days)) (sym left) whole.1 in
      let later_openings = subst (λ (x : State). AllByRecursion (IsUnbarred w) (openings terms orders x days)) (sym
      left)
      opening_parts.1 in (
        Z evening,
        is_number,
        day_struck terms orders n old day evening fit is whole.0 opening_parts.0 dawn_waits evening_waits is_day,
        days_struck terms orders (n + 1) evening days new fit_later evening_waits later later_openings rest,
      )

-- each state of a campaign has a mark for each wish
over_steps : (d : DossierRows) (terms : Option Terms) (orders : List CallOrder) → AreTermsFor d terms
    → Steps d terms orders Nothing Nothing (λ s t. IsOver d.wishes s → IsOver d.wishes t)
over_steps d terms orders fit = record {
  stays = λ s over. over;
  lapses = λ t day s is of over. over_lapse d (Some t) day s (subst (AreTermsFor d) is fit) over;
  answers = λ s stamp a of fits_here known over. after_over a.kind d.wishes s a.target stamp over;
  offers = λ s day bars stamp of greatest known over.
      over_given d.wishes s over (λ v m. offer_if stamp (is_proposed s orders bars v m) m);
  autos = λ s stamp of over. over_given d.wishes s over (λ v m. auto_mark stamp (best_live s v.candidate) v m);
}

pub unbarred_wish_may_be_struck_out : (terms : Option Terms) (orders : List CallOrder) (d : ℕ) (old : State)
    (days : List DayRecord) (new : State) (place : ℕ) (w : Wish) (g : Mark) → AreTermsFor old.dossier terms
    → length old.marks ≡ length old.dossier.wishes → Days terms orders d old days new → WaitsAt new place w
    → All (IsUnbarred w) (openings terms orders old days) → is_gone g ≡ true
    → Days terms orders d (with_mark_at old place g) days (with_mark_at new place g)
unbarred_wish_may_be_struck_out terms orders d old days new place w g fit long are found unbarred gone =
    let x = old.dossier in
    let xs = moments terms orders old days in
    let walk = plain_steps terms orders SameDossier d old days new (same_dossier x terms orders Nothing Nothing) are in
    let later = to_the_end SameDossier IsLater old xs new walk (gone_stays_gone terms orders d old days new fit are)
    ((later_steps x terms orders Nothing Nothing fit).stays new) in
    let Keeps : State → State → Type 0 = λ s t. IsOver x.wishes s → IsOver x.wishes t in
    let start : IsOver x.wishes old = record { wishes = refl; long = long } in
    let over_walk = plain_steps terms orders Keeps d old days new (over_steps x terms orders fit) are in
    let overs = throughout Keeps (IsOver x.wishes) (λ s t step over. step over) old xs new over_walk start in
    let both = all_both (λ (s : State). IsLater s new) (IsOver x.wishes) (old ∷ xs)
    (recursion_from_All (λ (s : State). IsLater s new) (old ∷ xs) later) (start, overs.moments) in
    let waits = all_imply (λ (s : State). IsLater s new × IsOver x.wishes s) (λ (s : State). IsWaiting s place w)
    (λ s facts. waiting_of s place w (facts.1.long ∙ ap (λ (ws : List Wish). length ws) (sym facts.1.wishes))
    (waited_at s new place w facts.0 found)) (old ∷ xs) both in
    days_struck place w g gone terms orders d old days new fit waits.0 waits.1
    (recursion_from_All (IsUnbarred w) (openings terms orders old days) unbarred) are
