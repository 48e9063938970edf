-- A quiet day changes nothing.
use Rattle.std.proofs.Common.{ℕ, ◌+◌, ◌≡◌, Bool, true, not, ◌&&◌, ◌||◌, filter, List, [], ◌∷◌, length, map, Option}
use Rattle.std.proofs.Common.{Some, None, inl, inr, refl, sym, ◌∙◌, ap, subst, arith, nat_eq, zip}
use Rattle.std.specs.Prelude.{ℤ, All, ◌==◌, if◌then◌else◌, sum}
use Rattle.std.specs.List.{AllByRecursion, enumerate_from, range_with_len}
use Rattle.std.proofs.lemmas.Bool.{and_from, both_ways, cases_Bool, eq-eqb, not-true}
use Rattle.std.proofs.lemmas.List.{length-map, length-set}
use Rattle.std.proofs.lemmas.List.Elements.{All-from_recursion}
use Rattle.std.proofs.lemmas.List.Sums.{sum-map, sum_by-cons}
use Rattle.std.proofs.lemmas.Slice.Zip.{length-zip}
use Rattle.admit_core.specs.declared.dossier.Answer.{Answer}
use Rattle.admit_core.specs.declared.dossier.AnswerKind.{AnswerKind}
use Rattle.admit_core.specs.declared.dossier.AnswerKind.TheVariants.{Accept, Refuse, Withdraw, Quit}
use Rattle.admit_core.specs.declared.dossier.Wish.{Wish}
use Rattle.admit_core.specs.declared.ranking.CallOrder.{CallOrder}
use Rattle.admit_core.specs.declared.records.DayRecord.{DayRecord}
use Rattle.admit_core.specs.declared.records.PassEnd.{PassEnd}
use Rattle.admit_core.specs.declared.records.Terms.{Terms}
use Rattle.admit_core.specs.declared.state.Mark.{Mark}
use Rattle.admit_core.specs.declared.state.Stamp.{Stamp}
use Rattle.admit_core.specs.declared.state.Status.TheVariants.{Accepted, Lapsed, Offered, Quit as HasQuit, Refused}
use Rattle.admit_core.specs.declared.state.Status.TheVariants.{Withdrawn}
use Rattle.admit_core.specs.Answers.{after, after_all, after_kind, candidate_at, mark_at, refuse_live}
use Rattle.admit_core.specs.AutoAnswer.{auto_all, auto_mark, beds_freed, best_live, freed, seats_freed}
use Rattle.admit_core.specs.Boarding.{boarding}
use Rattle.admit_core.specs.CallOrder.{AreCallOrders}
use Rattle.admit_core.specs.Days.{IsDay, Passes, after_lapse, answers_of, ceilings_of, closing, frees_nothing}
use Rattle.admit_core.specs.Days.{freed_after, lapsed_on, morning, offered}
use Rattle.admit_core.specs.DossierRows.{DossierRows, candidates_of}
use Rattle.admit_core.specs.Falls.{IsGreatest}
use Rattle.admit_core.specs.Lapses.{AreTermsFor, lapses, offer_day}
use Rattle.admit_core.specs.Proposals.{is_proposed, proposed}
use Rattle.admit_core.specs.State.{State, changed_to, holds_bed, holds_seat, is_live, is_waiting, with_marks}
use Rattle.admit_core.specs.Validity.{IsValid}
use Rattle.admit_core.proofs.ClosedEvenings.{evenings_are_closed}
use Rattle.admit_core.proofs.Plain.{and_not}
use Rattle.auto_answer.proofs.Again.{answered_once}
use Rattle.auto_answer.proofs.Bounds.{count_none}
use Rattle.day_state.proofs.Along.{length-with_marks}
use Rattle.campaign_laws.proofs.Walks.{all_of}
use Rattle.campaign_laws.specs.QuietDays.{QuietDaysChangeNothing}

-- ---- each wish keeps a mark
abbrev IsMarked : State → Type 0
IsMarked s = length s.marks ≡ length s.dossier.wishes

kind_marked : (kind : AnswerKind) (s : State) (target : ℕ) (stamp : Stamp) → IsMarked s
    → length (after_kind kind s target stamp).marks ≡ length s.marks
kind_marked Accept s target stamp long =
    let c = candidate_at s target in
    let m : Mark = changed_to Accepted stamp (mark_at s target) in
    length-set (refuse_live s c stamp).marks target m
    ∙ length-with_marks (λ v x. if is_live x && (v.candidate == c) then changed_to Refused stamp x else x) s long
kind_marked Refuse s target stamp long = length-set s.marks target (changed_to Refused stamp (mark_at s target))
kind_marked Withdraw s target stamp long = length-set s.marks target (changed_to Withdrawn stamp (mark_at s target))
kind_marked Quit s target stamp long =
    length-with_marks
    (λ v x. if (is_live x || is_waiting x) && (v.candidate == target) then changed_to HasQuit stamp x else x) s long

kind_of : (d : DossierRows) (kind : AnswerKind) (s : State) (target : ℕ) (stamp : Stamp) → s.dossier ≡ d
    → (after_kind kind s target stamp).dossier ≡ d
kind_of d Accept s target stamp of = of
kind_of d Refuse s target stamp of = of
kind_of d Withdraw s target stamp of = of
kind_of d Quit s target stamp of = of

-- a state of the dossier with a mark for each wish
pub record IsOf (d : DossierRows) (s : State) : Type 0 where
  pub of : s.dossier ≡ d
  pub long : length s.marks ≡ length d.wishes

marked_here : (d : DossierRows) (s : State) → IsOf d s → IsMarked s
marked_here d s whole = whole.long ∙ ap (λ (x : DossierRows). length x.wishes) (sym whole.of)

answers_of_it : (d : DossierRows) (s : State) (stamp : Stamp) (answers : List Answer) → IsOf d s
    → IsOf d (after_all s stamp answers)
answers_of_it d s stamp [] whole = whole
answers_of_it d s stamp (a ∷ rest) whole =
    answers_of_it d (after s stamp a) stamp rest (record {
      of = kind_of d a.kind s a.target stamp whole.of;
      long = kind_marked a.kind s a.target stamp (marked_here d s whole) ∙ whole.long;
    })

lapse_of_it : (d : DossierRows) (terms : Option Terms) (day : ℕ) (s : State) → AreTermsFor d terms → IsOf d s
    → IsOf d (after_lapse terms day s)
lapse_of_it d None day s fit whole = whole
lapse_of_it d (Some t) day s fit whole = record {
  of = whole.of;
  long =
      length-map (zip t.before s.marks)
      (λ (x : ℤ × Mark). if lapses t.term day x.0 x.1 then changed_to Lapsed (record { day = day; pass = 0 }) x.1
      else x.1)
      ∙ omega (arith, length-zip t.before s.marks, fit, whole.long);
}

morning_of_it : (d : DossierRows) (terms : Option Terms) (day : ℕ) (s : State) → AreTermsFor d terms → IsOf d s
    → IsOf d (morning terms day s)
morning_of_it d terms day s fit whole =
    answers_of_it d (after_lapse terms day s) (record { day = day; pass = 0 }) (answers_of s.dossier day)
    (lapse_of_it d terms day s fit whole)

by_marks : (d : DossierRows) (s : State) (f : Wish → Mark → Mark) → IsOf d s → IsOf d (with_marks s f)
by_marks d s f whole = record { of = whole.of; long = length-with_marks f s (marked_here d s whole) ∙ whole.long }

offered_of_it : (d : DossierRows) (s : State) (orders : List CallOrder) (bars : List ℕ) (stamp : Stamp) → IsOf d s
    → IsOf d (offered s orders bars stamp)
offered_of_it d s orders bars stamp whole =
    by_marks d s (λ w x. if is_proposed s orders bars w x then changed_to Offered stamp x else x) whole

answered_of_it : (d : DossierRows) (s : State) (stamp : Stamp) → IsOf d s → IsOf d (auto_all s stamp)
answered_of_it d s stamp whole = by_marks d s (λ w x. auto_mark stamp (best_live s w.candidate) w x) whole

-- the evening is what automatic answers leave of such a state
record IsSettled (d : DossierRows) (evening : State) : Type 0 where
  state : State
  stamp : Stamp
  is : evening ≡ auto_all state stamp
  whole : IsOf d state

settled_by : (d : DossierRows) (orders : List CallOrder) (ceilings : List ℕ) (day k : ℕ) (s : State)
    (passes : List PassEnd) (evening : State) → IsOf d s
    → Passes orders ceilings day k s passes evening → IsSettled d evening
settled_by d orders ceilings day k s [] evening whole are = absurd are
settled_by d orders ceilings day k s (pass ∷ []) evening whole are =
    let stamp : Stamp = record { day = day; pass = k } in
    record {
      state = offered s orders pass.pass.bars stamp;
      stamp = stamp;
      is = are.2;
      whole =
          offered_of_it d s orders pass.pass.bars stamp whole;
    }
settled_by d orders ceilings day k s (pass ∷ (next ∷ rest)) evening whole are =
    let stamp : Stamp = record { day = day; pass = k } in
    settled_by d orders ceilings day (k + 1) (closing s orders pass.pass.bars stamp) (next ∷ rest) evening
    (answered_of_it d (offered s orders pass.pass.bars stamp) stamp
    (offered_of_it d s orders pass.pass.bars stamp whole)) are.2

settled_whole : (d : DossierRows) (evening : State) → IsSettled d evening → IsOf d evening
settled_whole d evening settled =
    subst (IsOf d) (sym settled.is) (answered_of_it d settled.state settled.stamp settled.whole)

-- so is the evening of a day that begins with one
pub evening_of_it : (d : DossierRows) (terms : Option Terms) (orders : List CallOrder) (ceilings : List ℕ) (old : State)
    (day : DayRecord) (evening : State) → AreTermsFor d terms → IsOf d old
    → IsDay terms orders ceilings old day evening → IsOf d evening
evening_of_it d terms orders ceilings old day evening fit whole is =
    settled_whole d evening (settled_by d orders ceilings day.day 1 (morning terms day.day old) day.passes evening
    (morning_of_it d terms day.day old fit whole) is.passes)

-- ---- where nothing passes a test, nothing changes
kept_where_none : {X Y : Type 0} (test : X × Mark → Bool) (change : Mark → Mark) (pick : ℕ × (X × Mark) → Y) (n : ℕ)
    (xs : List X) (ms : List Mark)
    → length xs ≡ length ms → map pick (filter (λ (p : ℕ × (X × Mark)). test p.1) (enumerate_from n (zip xs ms))) ≡ []
    → map (λ (e : X × Mark). if test e then change e.1 else e.1) (zip xs ms) ≡ ms
kept_where_none test change pick n [] [] long none = refl
kept_where_none test change pick n [] (m ∷ ms) long none = absurd (omega (arith, long))
kept_where_none test change pick n (x ∷ xs) [] long none = absurd (omega (arith, long))
kept_where_none test change pick n (x ∷ xs) (m ∷ ms) long none =
    elim (cases_Bool (test (x, m))) [
      | inl passes ↦ let some = rw passes at none in absurd (cc)
      | inr fails ↦
          rw fails (ap (λ l. m ∷ l)
          (kept_where_none test change pick (n + 1) xs ms (omega (arith, long)) (rw fails at none)))
    ]

no_lapse : (d : DossierRows) (terms : Option Terms) (day : ℕ) (s : State) → AreTermsFor d terms → IsOf d s
    → lapsed_on terms day s ≡ [] → after_lapse terms day s ≡ s
no_lapse d None day s fit whole none = refl
no_lapse d (Some t) day s fit whole none =
    ap (λ (ms : List Mark). record s { marks = ms })
    (kept_where_none (λ (x : ℤ × Mark). lapses t.term day x.0 x.1) (changed_to Lapsed (record { day = day; pass = 0 }))
    (λ (x : ℕ × (ℤ × Mark)). record { wish = x.0; offered = offer_day x.1.0 x.1.1 }) 0 t.before s.marks
    (omega (arith, fit, whole.long)) none)

no_offer : (d : DossierRows) (s : State) (orders : List CallOrder) (bars : List ℕ) (stamp : Stamp) → IsOf d s
    → proposed s orders bars ≡ [] → offered s orders bars stamp ≡ s
no_offer d s orders bars stamp whole none =
    ap (λ (ms : List Mark). record s { marks = ms })
    (kept_where_none (λ (x : Wish × Mark). is_proposed s orders bars x.0 x.1) (changed_to Offered stamp)
    (λ (x : ℕ × (Wish × Mark)). x.0) 0 s.dossier.wishes s.marks
    (sym (marked_here d s whole)) none)

-- what frees nothing
zeros : (f : ℕ → ℕ) (cs : List ℕ) → AllByRecursion (λ (c : ℕ). f c ≡ 0) cs → sum (map f cs) ≡ 0
zeros f [] all = refl
zeros f (c ∷ cs) all = omega (arith, sum-map f (c ∷ cs), sum_by-cons f c cs, sum-map f cs, all.0, zeros f cs all.1)

nothing_freed_here : (s : State) → frees_nothing (freed s s) ≡ true
nothing_freed_here s =
    let cs = candidates_of s.dossier in
    let seats = zeros (seats_freed s s) cs
    (all_of (λ (c : ℕ). seats_freed s s c ≡ 0)
    (λ c. count_none (λ p. holds_seat s c p && not (holds_seat s c p)) (λ p. and_not (holds_seat s c p))
    (range_with_len 0 (length s.dossier.programmes))) cs) in
    let beds = zeros (beds_freed s s) cs
    (all_of (λ (c : ℕ). beds_freed s s c ≡ 0)
    (λ c. count_none (λ h. holds_bed s c h && not (holds_bed s c h)) (λ h. and_not (holds_bed s c h))
    (range_with_len 0 (length s.dossier.schools))) cs) in
    and_from (nat_eq (freed s s).seats 0) (nat_eq (freed s s).beds 0) (eq-eqb (freed s s).seats 0 seats)
    (eq-eqb (freed s s).beds 0 beds)

-- ---- a day that begins with an evening in which nothing is proposed, and all are answered for
module _ (d : DossierRows) (orders : List CallOrder) (ceilings : List ℕ) (s : State) (whole : IsOf d s)
    (closed : (bars : List ℕ) → IsGreatest (boarding s orders ceilings) bars → proposed s orders bars ≡ [])
    (again : (stamp : Stamp) → auto_all s stamp ≡ s) where
  closing_same : (bars : List ℕ) (stamp : Stamp) → IsGreatest (boarding s orders ceilings) bars
      → closing s orders bars stamp ≡ s
  closing_same bars stamp greatest = ap (λ (x : State). auto_all x stamp)
      (no_offer d s orders bars stamp whole (closed bars greatest)) ∙ again stamp

  freed_none : (bars : List ℕ) (stamp : Stamp) → IsGreatest (boarding s orders ceilings) bars
      → frees_nothing (freed_after s orders bars stamp) ≡ true
  freed_none bars stamp greatest =
      ap (λ (x : State). frees_nothing (freed x (closing s orders bars stamp)))
      (no_offer d s orders bars stamp whole (closed bars greatest))
      ∙ ap (λ (x : State). frees_nothing (freed s x)) (closing_same bars stamp greatest) ∙ nothing_freed_here s

  quiet_passes : (n : ℕ) (passes : List PassEnd) (new : State) → Passes orders ceilings n 1 s passes new
      → (length passes ≡ 1) × All (λ (pass : PassEnd). pass.pass.offers ≡ []) passes × (new ≡ s)
  quiet_passes n [] new are = absurd are
  quiet_passes n (pass ∷ []) new are =
      let stamp : Stamp = record { day = n; pass = 1 } in
      let greatest = are.0.pass.greatest in (
        refl,
        All-from_recursion (λ (p : PassEnd). p.pass.offers ≡ []) (pass ∷ [])
            (are.0.pass.offers ∙ closed pass.pass.bars greatest, tt),
        are.2 ∙ closing_same pass.pass.bars stamp greatest,
      )
  quiet_passes n (pass ∷ (next ∷ rest)) new are =
      let stamp : Stamp = record { day = n; pass = 1 } in
      let none = ap frees_nothing are.0.freed ∙ freed_none pass.pass.bars stamp are.0.pass.greatest in
      absurd (both_ways (frees_nothing pass.freed) (not-true (frees_nothing pass.freed) are.1) none)

-- a morning on which no offer lapses and nobody answers is the evening before
pub quiet_morning : (d : DossierRows) (terms : Option Terms) (day : ℕ) (s : State) → AreTermsFor d terms → IsOf d s
    → lapsed_on terms day s ≡ [] → answers_of s.dossier day ≡ [] → morning terms day s ≡ s
quiet_morning d terms day s fit whole none silent =
    ap (λ (answers : List Answer). after_all (after_lapse terms day s) (record { day = day; pass = 0 }) answers) silent
    ∙ no_lapse d terms day s fit whole none

pub quiet_days_change_nothing : QuietDaysChangeNothing
quiet_days_change_nothing terms orders n old day next evening new valid called fit long first second same_ceilings
    no_lapses no_answers =
    let d = old.dossier in
    let here : IsOf d old = record { of = refl; long = long } in
    let is_day = first.2 in
    let dawn = morning terms day.day old in
    let dawn_whole = morning_of_it d terms day.day old fit here in
    let passes : Passes orders (ceilings_of d n) day.day 1 dawn day.passes evening =
    subst (λ (e : State). Passes orders (ceilings_of d n) day.day 1 dawn day.passes e) first.3 is_day.passes in
    let settled = settled_by d orders (ceilings_of d n) day.day 1 dawn day.passes evening dawn_whole passes in
    let evening_whole = settled_whole d evening settled in
    let again : (stamp : Stamp) → auto_all evening stamp ≡ evening = λ stamp.
    subst (λ (e : State). auto_all e stamp ≡ e) (sym settled.is)
    (answered_once settled.state settled.stamp (marked_here d settled.state settled.whole) stamp) in
    let valid_dawn = subst IsValid (sym dawn_whole.of) valid in
    let called_dawn = subst (λ (x : DossierRows). AreCallOrders x.groups orders) (sym dawn_whole.of) called in
    let closed = evenings_are_closed orders (ceilings_of d n) day.day 1 dawn day.passes evening valid_dawn called_dawn
    passes in
    let number : next.day ≡ n + 1 = second.1 in
    let lapsed : lapsed_on terms next.day evening ≡ [] = sym second.2.lapsed ∙ no_lapses in
    let silent : answers_of evening.dossier next.day ≡ [] = rw (evening_whole.of, number) no_answers in
    let morning_same = quiet_morning d terms next.day evening fit evening_whole lapsed silent in
    let ceilings : ceilings_of evening.dossier (n + 1) ≡ ceilings_of d n =
    ap (λ (x : DossierRows). ceilings_of x (n + 1)) evening_whole.of ∙ same_ceilings in
    let next_passes : Passes orders (ceilings_of d n) next.day 1 evening next.passes second.0 =
    subst (λ (s : State). Passes orders (ceilings_of d n) next.day 1 s next.passes second.0) morning_same
    (subst (λ (cs : List ℕ). Passes orders cs next.day 1 (morning terms next.day evening) next.passes second.0)
    ceilings second.2.passes) in
    let quiet = quiet_passes d orders (ceilings_of d n) evening evening_whole closed again next.day next.passes
    second.0 next_passes in
    record { one_pass = quiet.0; no_offers = quiet.1; same = sym second.3 ∙ quiet.2 }
