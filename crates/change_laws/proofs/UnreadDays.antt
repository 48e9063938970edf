-- Days in which the order above what a candidate has at last is another one.
use Rattle.std.proofs.Common.{ℕ, suc, zero, ◌+◌, ◌≡◌, List, [], ◌∷◌, length, map, get_or, Option, inl, inr, refl, sym}
use Rattle.std.proofs.Common.{◌∙◌, ap, subst, arith}
use Rattle.std.specs.Prelude.{All, AllPairs}
use Rattle.std.specs.List.{AllByRecursion, range_with_len}
use Rattle.std.proofs.lemmas.Bool.{cases_lt}
use Rattle.std.proofs.lemmas.List.Elements.{recursion_from_All}
use Rattle.admit_core.specs.declared.dossier.Wish.{Wish}
use Rattle.admit_core.specs.declared.ranking.CallOrder.{CallOrder}
use Rattle.admit_core.specs.declared.records.DayRecord.{DayRecord}
use Rattle.admit_core.specs.declared.records.PassEnd.{PassEnd}
use Rattle.admit_core.specs.declared.records.Terms.{Terms}
use Rattle.admit_core.specs.declared.state.Stamp.{Stamp}
use Rattle.admit_core.specs.AutoAnswer.{auto_all, freed}
use Rattle.admit_core.specs.Days.{Days, IsDay, IsPassEnd, Passes, after_lapse, answers_of, ceilings_of, changes}
use Rattle.admit_core.specs.Days.{closing, morning, offered}
use Rattle.admit_core.specs.Falls.{FallingSystem, IsGreatest, IsRunOfFalls}
use Rattle.admit_core.specs.Lapses.{AreTermsFor}
use Rattle.admit_core.specs.State.{State, entries}
use Rattle.campaign_laws.specs.Kept.{GivesNoAnswer, NeverDescends}
use Rattle.campaign_laws.specs.Moments.{after_each, after_passes, day_moments, evening_of, moments}
use Rattle.campaign_laws.specs.OneMark.{IsLater}
use Rattle.campaign_laws.proofs.GoneStays.{gone_stays_gone, later_steps}
use Rattle.campaign_laws.proofs.Kept.{automatic_answers_climb}
use Rattle.campaign_laws.proofs.Walks.{Nothing, SameDossier, Walk, all_both, all_imply, all_split, evening_is}
use Rattle.campaign_laws.proofs.Walks.{plain_steps, same_dossier}
use Rattle.change_laws.specs.Unread.{IsUnread, reranked}
use Rattle.change_laws.proofs.Reranked.{over, same_after_offers, same_fits, same_free, same_freed, same_lapsed}
use Rattle.change_laws.proofs.Reranked.{same_left, same_morning, same_offers, same_system}
use Rattle.change_laws.proofs.Unread.{AllUnread, same_answers, unread_before}

-- ---- what relates any two moments relates each to the last
last_is : (R : State → State → Type 0) (s : State) (xs : List State) (e : State) → Walk R s xs e → (n : ℕ) (x : State)
    → length xs ≡ n → get_or (s ∷ xs) n x ≡ e
last_is R s [] e walk n x long = rw (← long) walk
last_is R s (y ∷ ys) e walk zero x long = absurd (omega (arith, long))
last_is R s (y ∷ ys) e walk (suc n) x long = last_is R y ys e walk.1 n x (omega (arith, long))

pub to_the_end : (T R : State → State → Type 0) (s : State) (xs : List State) (e : State) → Walk T s xs e
    → AllPairs R (s ∷ xs) → R e e → All (λ x. R x e) (s ∷ xs)
to_the_end T R s xs e walk pairs same k x lt =
    elim (cases_lt k (length xs)) [
      | inl below ↦
          subst (R (get_or (s ∷ xs) k x)) (last_is T s xs e walk (length xs) x refl)
          (pairs k (length xs) x below (omega arith))
      | inr past ↦
          let at : length xs ≡ k = omega (arith, lt, past) in
          subst (λ y. R y e) (sym (last_is T s xs e walk k x at)) same
    ]

module _ (rank : Wish → ℕ) (c : ℕ) (orders : List CallOrder) where
  closing_ranked : (s : State) (bars : List ℕ) (stamp : Stamp) → AllUnread rank c (closing s orders bars stamp)
      → closing (over rank s) orders bars stamp ≡ over rank (closing s orders bars stamp)
  closing_ranked s bars stamp unread =
      ap (λ (t : State). auto_all t stamp) (same_after_offers rank s orders bars stamp)
      ∙ same_answers rank c (offered s orders bars stamp) stamp unread

  end_ranked : (s : State) (ceilings : List ℕ) (stamp : Stamp) (pass : PassEnd)
      → AllUnread rank c (closing s orders pass.pass.bars stamp) → IsPassEnd s orders ceilings stamp pass
      → IsPassEnd (over rank s) orders ceilings stamp pass
  end_ranked s ceilings stamp pass unread is =
      let bars = pass.pass.bars in
      let system = same_system rank s orders ceilings in
      let offers = same_after_offers rank s orders bars stamp in
      let closes = closing_ranked s bars stamp unread in
      record {
        pass = record {
          greatest = subst (λ (x : FallingSystem). IsGreatest x bars) (sym system) is.pass.greatest;
          falls = subst (λ (x : FallingSystem). IsRunOfFalls x pass.pass.falls) (sym system) is.pass.falls;
          bars = is.pass.bars;
          offers = is.pass.offers ∙ sym (same_offers rank s orders bars);
        };
        autos = is.autos ∙ sym (λ i. changes (offers i) (closes i));
        freed = is.freed ∙ sym ((λ i. freed (offers i) (closes i))
            ∙ same_freed rank (offered s orders bars stamp) (closing s orders bars stamp));
      }

  passes_ranked : (ceilings : List ℕ) (day k : ℕ) (s : State) (passes : List PassEnd) (evening : State)
      → AllByRecursion (AllUnread rank c) (after_passes orders day k s passes)
      → Passes orders ceilings day k s passes evening
      → Passes orders ceilings day k (over rank s) passes (over rank evening)
  passes_ranked ceilings day k s [] evening unread are = absurd are
  passes_ranked ceilings day k s (pass ∷ []) evening unread are =
      let stamp : Stamp = record { day = day; pass = k } in (
        end_ranked s ceilings stamp pass unread.1.0 are.0,
        are.1,
        ap (over rank) are.2 ∙ sym (closing_ranked s pass.pass.bars stamp unread.1.0),
      )
  passes_ranked ceilings day k s (pass ∷ (next ∷ rest)) evening unread are =
      let stamp : Stamp = record { day = day; pass = k } in
      let bars = pass.pass.bars in (
        end_ranked s ceilings stamp pass unread.1.0 are.0,
        are.1,
        subst (λ (t : State). Passes orders ceilings day (k + 1) t (next ∷ rest) (over rank evening))
            (sym (closing_ranked s bars stamp unread.1.0))
            (passes_ranked ceilings day (k + 1) (closing s orders bars stamp) (next ∷ rest) evening unread.1.1 are.2),
      )

  day_ranked : (terms : Option Terms) (n : ℕ) (old : State) (day : DayRecord) (evening : State)
      → AllByRecursion (AllUnread rank c) (after_passes orders day.day 1 (morning terms day.day old) day.passes)
      → IsDay terms orders (ceilings_of old.dossier n) old day evening
      → IsDay terms orders (ceilings_of (over rank old).dossier n) (over rank old) day (over rank evening)
  day_ranked terms n old day evening unread is =
      let ceilings = ceilings_of old.dossier n in
      record {
        lapsed = is.lapsed ∙ sym (same_lapsed rank terms day.day old);
        fits = same_fits rank terms day.day old ∙ is.fits;
        passes = subst (λ (t : State). Passes orders ceilings day.day 1 t day.passes (over rank evening))
            (sym (same_morning rank terms day.day old))
            (passes_ranked ceilings day.day 1 (morning terms day.day old) day.passes evening unread is.passes);
        left = is.left ∙ sym (λ i. map (λ p. same_left rank evening p i)
            (range_with_len 0 (length evening.dossier.programmes)));
        free = is.free ∙ sym (λ i. map (λ h. same_free rank evening h i)
            (range_with_len 0 (length evening.dossier.schools)));
      }

  days_ranked : (terms : Option Terms) (n : ℕ) (old : State) (days : List DayRecord) (new : State)
      → AllByRecursion (AllUnread rank c) (moments terms orders old days) → Days terms orders n old days new
      → Days terms orders n (over rank old) days (over rank new)
  days_ranked terms n old [] new unread are = ap (over rank) are
  days_ranked terms n old (day ∷ days) new unread are =
      let (evening, is_number, is_day, rest) = are in
      let dawn = morning terms day.day old in
      let stamp : Stamp = record { day = day.day; pass = 0 } in
      let lapsed = after_lapse terms day.day old in
      let left : evening ≡ evening_of terms orders old day =
      evening_is orders (ceilings_of old.dossier n) day.day 1 dawn day.passes evening is_day.passes in
      let whole = all_split (AllUnread rank c) (day_moments terms orders old day)
      (moments terms orders (evening_of terms orders old day) days) unread in
      let parts = all_split (AllUnread rank c) (after_each lapsed stamp (answers_of old.dossier day.day))
      (after_passes orders day.day 1 dawn day.passes) whole.0.1 in
      let later = subst (λ (x : State). AllByRecursion (AllUnread rank c) (moments terms orders x days)) (sym left)
      whole.1 in (
        over rank evening,
        is_number,
        day_ranked terms n old day evening parts.1 is_day,
        days_ranked terms (n + 1) evening days new later rest,
      )

pub order_above_is_never_read : (terms : Option Terms) (orders : List CallOrder) (d : ℕ) (old : State)
    (days : List DayRecord) (new : State) (c : ℕ) (rank : Wish → ℕ) → AreTermsFor old.dossier terms
    → Days terms orders d old days new → GivesNoAnswer old c days → All (IsUnread rank c new) (entries new)
    → Days terms orders d (reranked rank old) days (reranked rank new)
order_above_is_never_read terms orders d old days new c rank fit are silent unread =
    let xs = moments terms orders old days in
    let walk = plain_steps terms orders SameDossier d old days new
    (same_dossier old.dossier terms orders Nothing Nothing) are in
    let later = to_the_end SameDossier IsLater old xs new walk (gone_stays_gone terms orders d old days new fit are)
    ((later_steps old.dossier terms orders Nothing Nothing fit).stays new) in
    let climbs = to_the_end SameDossier (NeverDescends c) old xs new walk
    (automatic_answers_climb terms orders d old days new c fit are silent) (λ n has. has) in
    let both = all_both (λ (x : State). IsLater x new) (λ (x : State). NeverDescends c x new) (old ∷ xs)
    (recursion_from_All (λ (x : State). IsLater x new) (old ∷ xs) later)
    (recursion_from_All (λ (x : State). NeverDescends c x new) (old ∷ xs) climbs) in
    let at_last = recursion_from_All (IsUnread rank c new) (entries new) unread in
    let all = all_imply (λ (x : State). IsLater x new × NeverDescends c x new) (AllUnread rank c)
    (λ x facts. unread_before rank c x new facts.0 facts.1 at_last) (old ∷ xs) both in
    days_ranked rank c orders terms d old days new all.1 are
