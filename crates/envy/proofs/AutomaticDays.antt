-- After a day that is answered automatically alone nobody has a blocking wish.
use Rattle.std.proofs.Common.{ℕ, ◌+◌, ◌<◌, ◌≡◌, Bool, true, false, not, ◌&&◌, ◌||◌, List, [], ◌∷◌, map, length, inl}
use Rattle.std.proofs.Common.{inr, refl, sym, ◌∙◌, ap, subst, arith, nat_eq, nat_lt, get_or, filter, Option, Some, None}
use Rattle.std.proofs.Common.{All}
use Rattle.std.specs.Prelude.{ℤ, zip, if◌then◌else◌, is_some}
use Rattle.std.specs.List.{enumerate_from}
use Rattle.std.proofs.lemmas.Bool.{and_parts, cases_Bool, false_from_ne_true, false≢true, ltb-true, and_left, and_right}
use Rattle.std.proofs.lemmas.List.{get_or_default, length-map}
use Rattle.std.proofs.lemmas.List.Elements.{All-head, All-map, All-tail}
use Rattle.std.proofs.lemmas.List.Folds.{Any-from_list_any}
use Rattle.std.proofs.lemmas.Slice.Zip.{get_or-zip, length-zip}
use Rattle.admit_core.specs.declared.dossier.Answer.{Answer}
use Rattle.admit_core.specs.declared.dossier.Wish.{Wish}
use Rattle.admit_core.specs.declared.ranking.CallOrder.{CallOrder}
use Rattle.admit_core.specs.declared.records.DayRecord.{DayRecord}
use Rattle.admit_core.specs.declared.records.PassEnd.{PassEnd}
use Rattle.admit_core.specs.declared.records.Terms.{Terms}
use Rattle.admit_core.specs.declared.state.Mark.{Mark}
use Rattle.admit_core.specs.declared.state.Stamp.{Stamp}
use Rattle.admit_core.specs.declared.state.Status.{Status}
use Rattle.admit_core.specs.declared.state.Status.TheVariants.{Waiting, Offered, Accepted, Refused, Withdrawn, Quit}
use Rattle.admit_core.specs.declared.state.Status.TheVariants.{AutoRefused, AutoWithdrawn, Lapsed}
use Rattle.admit_core.specs.Answers.{after_all}
use Rattle.admit_core.specs.Blocking.{behind, blocking, has_better, has_envy, is_blocking, is_missed, lacks_school}
use Rattle.admit_core.specs.Blocking.{last_of, wants_more}
use Rattle.admit_core.specs.CallOrder.{AreCallOrders}
use Rattle.admit_core.specs.Days.{Days, IsDay, Passes, after_lapse, answers_of, ceilings_of, closing, first_evening}
use Rattle.admit_core.specs.Days.{first_mark, morning}
use Rattle.admit_core.specs.DossierRows.{DossierRows}
use Rattle.admit_core.specs.EveningLaws.{IsFilled, last_bars}
use Rattle.admit_core.specs.Lapses.{AreTermsFor, is_offered, lapses}
use Rattle.admit_core.specs.Proposals.{is_barred, is_behind_bar}
use Rattle.admit_core.specs.State.{State, changed_to, entries, holds_seat, is_live, is_live_status, is_waiting}
use Rattle.admit_core.specs.State.{is_waiting_status, seats_left}
use Rattle.admit_core.specs.Validity.{IsValid}
use Rattle.admit_core.proofs.Evenings.{after_offers, answer, entry_wish, offer, seats_are_filled}
use Rattle.admit_core.proofs.Plain.{filter_none}
use Rattle.admit_core.proofs.Statuses.{waiting_is}
use Rattle.day_state.proofs.Along.{length-with_marks}
use Rattle.envy.specs.AutomaticDays.{DaysEndFair, FirstEveningsBlockNone, LaterEveningsBlockNone, HoldsBetter, IsFair}
use Rattle.envy.specs.AutomaticDays.{IsFairEvening, IsRankedPlainly, IsSettled, NobodyBehind, PassesKeepFair}
use Rattle.envy.specs.AutomaticDays.{QuietDaysEndFair, WaitingIsFair, is_given_up}
use Rattle.envy.proofs.OnePass.{closing_fair}

pub passes_keep_fair : PassesKeepFair
passes_keep_fair orders s bars stamp valid called plain long fair =
    closing_fair orders s bars stamp valid called plain fair

placed_none : {X : Type 0} (test : X → Bool) (k : ℕ) (xs : List X) → All (λ x. test x ≡ false) xs
    → filter (λ (x : ℕ × X). test x.1) (enumerate_from k xs) ≡ []
placed_none test k [] none = refl
placed_none test k (x ∷ xs) none = rw (All-head (λ y. test y ≡ false) x xs none)
    (placed_none test (k + 1) xs (All-tail (λ y. test y ≡ false) x xs none))

-- where nobody behind a candidate is live, they envy nobody
nobody_envied : (s : State) (orders : List CallOrder) (w : Wish)
    → All (λ c. holds_seat s c w.programme ≡ false) (behind s orders w)
    → has_envy s orders w ≡ false
nobody_envied s orders w none = ap (λ (cs : List ℕ). is_some (last_of cs))
    (filter_none (λ c. holds_seat s c w.programme) (behind s orders w) none)

-- of a status that neither waits nor was given up nothing is missed
kept_in_person : (st : Status) → is_waiting_status st ≡ false → is_given_up st ≡ false → is_missed st ≡ false
kept_in_person Waiting waits given = absurd (cc)
kept_in_person Offered waits given = refl
kept_in_person Accepted waits given = refl
kept_in_person Refused waits given = refl
kept_in_person Withdrawn waits given = refl
kept_in_person Quit waits given = refl
kept_in_person AutoRefused waits given = absurd (cc)
kept_in_person AutoWithdrawn waits given = absurd (cc)
kept_in_person Lapsed waits given = refl

none_of : (a b c d : Bool) → c ≡ false → (((a && b) && c) && d) ≡ false
none_of true true c d is = rw is refl
none_of true false c d is = refl
none_of false b c d is = refl

none_last : (a b : Bool) → b ≡ true → (a && not b) ≡ false
none_last true b is = rw is refl
none_last false b is = refl

module _ (orders : List CallOrder) (s : State) (bars : List ℕ) (plain : IsRankedPlainly s.dossier)
    (fair : IsFair orders s) (filled : All (IsFilled s bars) (entries s)) where
  -- a waiting wish finds its programme full
  no_seat : (w : Wish) (m : Mark) → w.school ≡ None → is_waiting m ≡ true → IsFilled s bars (w, m)
      → nat_lt 0 (seats_left s w.programme) ≡ false
  no_seat w m none waits full =
      false_from_ne_true (nat_lt 0 (seats_left s w.programme)) (λ left.
      let barred : is_barred s bars w m ≡ true = full waits (ltb-true 0 (seats_left s w.programme) left) in
      let behind_none : (is_waiting m && is_behind_bar s bars w None) ≡ true =
      ap (λ (h : Option ℕ). is_waiting m && is_behind_bar s bars w h) (sym none) ∙ barred in
      false≢true (and_parts (is_waiting m) false behind_none).1)

  blocks_not : (k : ℕ) (x : Wish × Mark) → k < length (entries s) → get_or (entries s) k x ≡ x
      → is_blocking s orders x.0 x.1 ≡ false
  blocks_not k x lt at =
      let w = x.0 in
      let m = x.1 in
      let place = entry_wish s k x lt at in
      let none : w.school ≡ None = ap (λ (v : Wish). v.school) place.1 ∙ plain.schools k w place.0 in
      let rest = nat_lt 0 (seats_left s w.programme) || has_envy s orders w in
      elim (cases_Bool (is_waiting m)) [
        | inl waits ↦
            let full : IsFilled s bars x = subst (IsFilled s bars) at (filled k x lt) in
            let free : NobodyBehind orders s x = subst (NobodyBehind orders s) at (fair.behind k x lt) in
            let neither : rest ≡ false = rw (no_seat w m none waits full) (nobody_envied s orders w (free waits)) in
            and_right (wants_more s w m) rest neither
        | inr waits_not ↦ elim (cases_Bool (is_given_up m.status)) [
          | inl given ↦
              let better : HoldsBetter s x = subst (HoldsBetter s) at (fair.better k x lt) in
              and_left (wants_more s w m) rest
              (none_last (lacks_school w.school && nat_lt 0 w.preference && is_missed m.status
              && not (holds_seat s w.candidate w.programme)) (has_better s w) (better given))
          | inr given_not ↦
              and_left (wants_more s w m) rest
              (and_left (lacks_school w.school && nat_lt 0 w.preference && is_missed m.status
              && not (holds_seat s w.candidate w.programme)) (not (has_better s w))
              (none_of (lacks_school w.school) (nat_lt 0 w.preference) (is_missed m.status)
              (not (holds_seat s w.candidate w.programme))
              (kept_in_person m.status waits_not given_not)))
        ]
      ]

  pub none_blocks : blocking s orders ≡ []
  none_blocks =
      ap (map (λ (x : ℕ × (Wish × Mark)). x.0))
      (placed_none (λ (x : Wish × Mark). is_blocking s orders x.0 x.1) 0 (entries s)
      (λ k d lt. blocks_not k (get_or (entries s) k d) lt (get_or_default (entries s) k (get_or (entries s) k d) d lt)))

-- what passes leave
record IsAfter (orders : List CallOrder) (opening evening : State) : Type 0 where
  fair : IsFair orders evening
  dossier : evening.dossier ≡ opening.dossier
  long : length evening.marks ≡ length opening.dossier.wishes

closing_long : (s : State) (orders : List CallOrder) (bars : List ℕ) (stamp : Stamp)
    → length s.marks ≡ length s.dossier.wishes
    → length (closing s orders bars stamp).marks ≡ length s.dossier.wishes
closing_long s orders bars stamp long =
    let offers = length-with_marks (offer s orders bars stamp) s long in
    length-with_marks (answer s orders bars stamp) (after_offers s orders bars stamp) (offers ∙ long) ∙ offers ∙ long

-- the passes of a day
fair_after : (orders : List CallOrder) (ceilings : List ℕ) (day k : ℕ) (opening : State)
    (passes : List PassEnd) (evening : State) → IsValid opening.dossier
    → AreCallOrders opening.dossier.groups orders
    → IsRankedPlainly opening.dossier → length opening.marks ≡ length opening.dossier.wishes
    → IsFair orders opening → Passes orders ceilings day k opening passes evening
    → IsAfter orders opening evening
fair_after orders ceilings day k s [] evening valid called plain long fair passes = absurd passes
fair_after orders ceilings day k s (pass ∷ []) evening valid called plain long fair passes =
    let stamp : Stamp = record { day = day; pass = k } in
    let night = closing s orders pass.pass.bars stamp in
    let at_night : IsAfter orders s night =
    record {
      fair = closing_fair orders s pass.pass.bars stamp valid called plain fair;
      dossier = refl;
      long = closing_long s orders pass.pass.bars stamp long;
    } in
    subst (IsAfter orders s) (sym passes.2) at_night
fair_after orders ceilings day k s (pass ∷ next ∷ rest) evening valid called plain long fair passes =
    let stamp : Stamp = record { day = day; pass = k } in
    let later =
    fair_after orders ceilings day (k + 1) (closing s orders pass.pass.bars stamp)
    (next ∷ rest) evening valid called plain (closing_long s orders pass.pass.bars stamp long)
    (closing_fair orders s pass.pass.bars stamp valid called plain fair) passes.2 in
    record { fair = later.fair; dossier = later.dossier; long = later.long }

pub days_end_fair : DaysEndFair
days_end_fair orders ceilings day k opening passes evening valid called plain long fair are =
    let after = fair_after orders ceilings day k opening passes evening valid called plain long fair are in
    record {
      fair = after.fair;
      none_blocks = none_blocks orders evening (last_bars passes)
          (subst IsRankedPlainly (sym after.dossier) plain) after.fair
          (seats_are_filled orders ceilings day k opening passes evening valid called are);
    }

-- the mark of an entry
entry_mark : (s : State) (k : ℕ) (x : Wish × Mark) → k < length (entries s)
    → get_or (entries s) k x ≡ x → (k < length s.marks) × (x.1 ≡ get_or s.marks k x.1)
entry_mark s k x lt at =
    let ws = s.dossier.wishes in
    let ms = s.marks in
    let long = length-zip ws ms in
    let w_lt : k < length ws = omega (arith, long, lt) in
    let m_lt : k < length ms = omega (arith, long, lt) in
    (m_lt, ap (λ (e : Wish × Mark). e.1) (sym at ∙ get_or-zip ws ms k x w_lt m_lt))

module _ (orders : List CallOrder) (s : State) (waiting : All (λ m. is_waiting m ≡ true) s.marks) where
  waits_at : (k : ℕ) (x : Wish × Mark) → k < length (entries s) → get_or (entries s) k x ≡ x → is_waiting x.1 ≡ true
  waits_at k x lt at =
      let place = entry_mark s k x lt at in
      ap is_waiting place.1 ∙ waiting k x.1 place.0

  nobody_live : (c p : ℕ) → holds_seat s c p ≡ false
  nobody_live c p =
      false_from_ne_true (holds_seat s c p) (λ held.
      let (j, e, lt, at, lives) = Any-from_list_any (λ (e : Wish × Mark). is_live e.1
      && nat_eq e.0.candidate c && nat_eq e.0.programme p) (entries s) held in
      let outer = and_parts (is_live e.1 && nat_eq e.0.candidate c) (nat_eq e.0.programme p) lives in
      false≢true (sym (ap is_live_status (waiting_is e.1.status (waits_at j e lt at)))
      ∙ (and_parts (is_live e.1) (nat_eq e.0.candidate c) outer.0).0))

  at_entry : (P : Wish × Mark → Type 0) → ((k : ℕ) (x : Wish × Mark) → k < length (entries s)
      → get_or (entries s) k x ≡ x → P x) → All P (entries s)
  at_entry P holds_at k d lt = holds_at k (get_or (entries s) k d) lt (get_or_default (entries s) k
      (get_or (entries s) k d) d lt)

  pub waiting_fair : IsFair orders s
  waiting_fair = record {
    behind = at_entry (NobodyBehind orders s)
        (λ k x lt at waits j d j_lt. nobody_live (get_or (behind s orders x.0) j d) x.0.programme);
    better = at_entry (HoldsBetter s) (λ k x lt at given. absurd
        (false≢true (sym (ap is_given_up (waiting_is x.1.status (waits_at k x lt at))) ∙ given)));
    settled = λ k d lt. ap is_offered (waiting_is (get_or s.marks k d).status (waiting k d lt));
  }

pub waiting_is_fair : WaitingIsFair
waiting_is_fair orders s waiting = waiting_fair orders s waiting

-- where no wish is merely offered, nothing lapses
kept_marks : (term day : ℕ) (bs : List ℤ) (ms : List Mark) → length bs ≡ length ms
    → All (λ m. is_offered m.status ≡ false) ms
    → map (λ (x : ℤ × Mark). if lapses term day x.0 x.1
    then changed_to Lapsed (record { day = day; pass = 0 }) x.1 else x.1) (zip bs ms) ≡ ms
kept_marks term day [] [] long none = refl
kept_marks term day [] (m ∷ ms) long none = absurd (omega (arith, long))
kept_marks term day (b ∷ bs) [] long none = absurd (omega (arith, long))
kept_marks term day (b ∷ bs) (m ∷ ms) long none =
    rw (All-head (λ n. is_offered n.status ≡ false) m ms none)
    (ap (λ l. m ∷ l) (kept_marks term day bs ms (omega (arith, long))
    (All-tail (λ n. is_offered n.status ≡ false) m ms none)))

-- so a day on which nobody answers begins with the evening before
lapsed_none : (terms : Option Terms) (day : ℕ) (s : State) → AreTermsFor s.dossier terms
    → length s.marks ≡ length s.dossier.wishes → All IsSettled s.marks → after_lapse terms day s ≡ s
lapsed_none None day s fit long settled = refl
lapsed_none (Some terms) day s fit long settled =
    ap (λ (ms : List Mark). record s { marks = ms })
    (kept_marks terms.term day terms.before s.marks (fit ∙ sym long) settled)

quiet_morning : (terms : Option Terms) (day : ℕ) (s : State) → AreTermsFor s.dossier terms
    → length s.marks ≡ length s.dossier.wishes → All IsSettled s.marks
    → answers_of s.dossier day ≡ []
    → morning terms day s ≡ s
quiet_morning terms day s fit long settled quiet =
    ap (λ (answers : List Answer). after_all (after_lapse terms day s)
    (record { day = day; pass = 0 }) answers) quiet ∙ lapsed_none terms day s fit long settled

quiet_passes : (terms : Option Terms) (orders : List CallOrder) (ceilings : List ℕ) (old : State)
    (day : DayRecord) (evening : State) → AreTermsFor old.dossier terms
    → length old.marks ≡ length old.dossier.wishes
    → answers_of old.dossier day.day ≡ [] → IsFair orders old
    → IsDay terms orders ceilings old day evening
    → Passes orders ceilings day.day 1 old day.passes evening
quiet_passes terms orders ceilings old day evening fit long quiet fair is =
    subst (λ (o : State). Passes orders ceilings day.day 1 o day.passes evening)
    (quiet_morning terms day.day old fit long fair.settled quiet) is.passes

pub quiet_days_end_fair : QuietDaysEndFair
quiet_days_end_fair terms orders ceilings old day evening valid called fit plain long quiet fair is =
    days_end_fair orders ceilings day.day 1 old day.passes evening valid called plain long fair
    (quiet_passes terms orders ceilings old day evening fit long quiet fair is)

-- so do several days
several : (terms : Option Terms) (orders : List CallOrder) (k : ℕ) (old : State) (days : List
    DayRecord) (evening : State) → IsValid old.dossier → AreCallOrders old.dossier.groups orders
    → AreTermsFor old.dossier terms → IsRankedPlainly old.dossier → length old.marks ≡ length old.dossier.wishes
    → 0 < length days
    → ((d : ℕ) → d < k + length days → answers_of old.dossier d ≡ []) → IsFair orders old
    → Days terms orders k old days evening → IsFairEvening orders evening
several terms orders k old [] evening valid called fit plain long some quiet fair are = absurd (omega (arith, some))
several terms orders k old (day ∷ []) evening valid called fit plain long some quiet fair are =
    let today : answers_of old.dossier day.day ≡ [] = quiet day.day (omega (arith, are.1)) in
    subst (IsFairEvening orders) are.3 (quiet_days_end_fair terms orders
    (ceilings_of old.dossier k) old day are.0 valid called fit plain long today fair are.2)
several terms orders k old (day ∷ next ∷ rest) evening valid called fit plain long some quiet fair are =
    let today : answers_of old.dossier day.day ≡ [] = quiet day.day (omega (arith, are.1)) in
    let mid = are.0 in
    let after = fair_after orders (ceilings_of old.dossier k) day.day 1 old day.passes mid valid
    called plain long fair (quiet_passes terms orders
    (ceilings_of old.dossier k) old day mid fit long today fair are.2) in
    let same = sym after.dossier in
    several terms orders (k + 1) mid (next ∷ rest) evening (subst IsValid same valid)
    (subst (λ (d : DossierRows). AreCallOrders d.groups orders) same called)
    (subst (λ (d : DossierRows). AreTermsFor d terms) same fit) (subst IsRankedPlainly same plain)
    (after.long ∙ ap (λ (d : DossierRows). length d.wishes) same) (omega arith)
    (λ d lt. subst (λ (e : DossierRows). answers_of e d ≡ []) same (quiet d (omega (arith, lt)))) after.fair are.3

-- the evening that a dossier comes in with, where all of its wishes wait
module _ (d : DossierRows) (valid : IsValid d) (orders : List CallOrder)
    (waiting : All (λ st. is_waiting_status st ≡ true) d.statuses) where
  first_fair : IsFair orders (first_evening d)
  first_fair = waiting_fair orders (first_evening d)
      (All-map (λ (m : Mark). is_waiting m ≡ true) first_mark d.statuses waiting)

  first_long : length (first_evening d).marks ≡ length d.wishes
  first_long = length-map d.statuses first_mark ∙ valid.one_status_each

pub first_evening_blocks_none : FirstEveningsBlockNone
first_evening_blocks_none orders evening valid called is =
    let d = evening.dossier in
    let automatic = is.automatic in
    (quiet_days_end_fair is.terms orders is.ceilings (first_evening d) is.day evening valid called
    automatic.terms_fit automatic.plain (first_long d valid orders automatic.waiting)
    (ap (answers_of d) is.first ∙ is.quiet) (first_fair d valid orders automatic.waiting) is.is_day).none_blocks

pub later_evening_blocks_none : LaterEveningsBlockNone
later_evening_blocks_none orders evening valid called is =
    let d = evening.dossier in
    let automatic = is.automatic in
    (several is.terms orders 1 (first_evening d) is.days evening valid called automatic.terms_fit
    automatic.plain (first_long d valid orders automatic.waiting) is.some
    (λ day lt. is.quiet day (omega (arith, lt))) (first_fair d valid orders automatic.waiting) is.are_days).none_blocks
