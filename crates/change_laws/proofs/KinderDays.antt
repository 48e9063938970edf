-- Days of a kinder dossier: in each evening every wish has come at least as far.
use Rattle.std.proofs.Common.{ℕ, suc, ◌+◌, ◌<◌, ◌≡◌, true, false, ◌&&◌, List, [], ◌∷◌, length, map, get_or, None, inl}
use Rattle.std.proofs.Common.{inr, refl, sym, ◌∙◌, ap, subst, arith, nat_eq, nat_lt, zip}
use Rattle.std.specs.Prelude.{All, nat_le}
use Rattle.std.specs.List.{AllByRecursion, AllZip}
use Rattle.std.proofs.lemmas.Bool.{and_from, and_parts, both_ways, eqb-true, false_from_ne_true, leb-true, le-leb}
use Rattle.std.proofs.lemmas.Bool.{ltb-true}
use Rattle.std.proofs.lemmas.List.{get_or_default, length-map}
use Rattle.admit_core.specs.declared.dossier.Answer.{Answer}
use Rattle.admit_core.specs.declared.dossier.Wish.{Wish}
use Rattle.admit_core.specs.declared.ranking.CallOrder.{CallOrder}
use Rattle.admit_core.specs.declared.ranking.RankGroup.{RankGroup}
use Rattle.admit_core.specs.declared.records.DayRecord.{DayRecord}
use Rattle.admit_core.specs.declared.records.PassEnd.{PassEnd}
use Rattle.admit_core.specs.declared.state.Mark.{Mark}
use Rattle.admit_core.specs.declared.state.Stamp.{Stamp}
use Rattle.admit_core.specs.declared.state.Status.{Status}
use Rattle.admit_core.specs.declared.state.Status.TheVariants.{Waiting}
use Rattle.admit_core.specs.AutoAnswer.{auto_all}
use Rattle.admit_core.specs.Boarding.{boarding}
use Rattle.admit_core.specs.CallOrder.{AreCallOrders}
use Rattle.admit_core.specs.Days.{Days, Passes, answers_of, ceilings_of, closing, first_evening, first_mark, morning}
use Rattle.admit_core.specs.Days.{offered}
use Rattle.admit_core.specs.DossierRows.{DossierRows}
use Rattle.admit_core.specs.Falls.{IsGreatest}
use Rattle.admit_core.specs.Lists.{ascending}
use Rattle.admit_core.specs.Proposals.{demanded_ranks, demands_bed, is_proposed}
use Rattle.admit_core.specs.State.{State, entries, is_gone, is_live, is_waiting}
use Rattle.admit_core.specs.Validity.{IsValid}
use Rattle.admit_core.proofs.ClosedEvenings.{evenings_are_closed}
use Rattle.admit_core.proofs.Evenings.{entry_wish}
use Rattle.admit_core.proofs.Plain.{filter_none}
use Rattle.admit_core.proofs.Tests.{any_implied}
use Rattle.campaign_laws.specs.AutomaticDay.{has_as_good}
use Rattle.campaign_laws.proofs.Kept.{ranked_live}
use Rattle.campaign_laws.proofs.Matchings.{none_placed}
use Rattle.change_laws.specs.Kinder.{HasAlso, IsKinder, IsNotHurt, IsSilent, MoreSeatsAndAnswersHurtNobody, RanksWishes}
use Rattle.change_laws.proofs.Answering.{IsGivers, IsPair, all_givers, answers_ahead}
use Rattle.change_laws.proofs.Further.{ahead_of_answers, answers_behind, gone_lives_not, has_better, live_or_gone}
use Rattle.change_laws.proofs.Further.{nothing_worse, waits_lives_not}
use Rattle.change_laws.proofs.Passing.{ahead_of_offers, offers_behind, ranked, unranked}
use Rattle.change_laws.proofs.Places.{IsAt, IsOver, any_here, any_there, entry_there, mark_in}

-- two lists of marks of the same wishes, place by place
all_zip : (R : Wish × Mark → Wish × Mark → Type 0) (ws : List Wish) (ms ns : List Mark) → length ms ≡ length ws
    → length ns ≡ length ws
    → ((k : ℕ) (w : Wish) → IsAt ws k w
    → R (w, get_or ms k (first_mark Waiting)) (w, get_or ns k (first_mark Waiting)))
    → AllZip R (zip ws ms) (zip ws ns)
all_zip R [] ms ns long long_too each = tt
all_zip R (w ∷ ws) [] ns long long_too each = absurd (omega (arith, long))
all_zip R (w ∷ ws) (m ∷ ms) [] long long_too each = absurd (omega (arith, long_too))
all_zip R (w ∷ ws) (m ∷ ms) (n ∷ ns) long long_too each = (
  each 0 w (record { within = omega arith; here = refl }),
  all_zip R ws ms ns (omega (arith, long)) (omega (arith, long_too))
      (λ k v at. each (suc k) v (record { within = omega (arith, at.within); here = at.here })),
)

-- ---- without boarding nobody demands a bed, so the ceilings are the greatest bars
no_demand : (s : State) (orders : List CallOrder) (bars : List ℕ) (h : ℕ)
    → All (λ (w : Wish). w.school ≡ None) s.dossier.wishes → demanded_ranks s orders bars h ≡ []
no_demand s orders bars h plain =
    ap (λ (es : List (Wish × Mark)). ascending (map (λ (e : Wish × Mark). e.0.board_rank) es))
    (filter_none (λ (e : Wish × Mark). demands_bed s orders bars h e.0 e.1) (entries s) (λ k x lt.
    let e = get_or (entries s) k x in
    let place = entry_wish s k e lt (get_or_default (entries s) k e x lt) in
    let none : e.0.school ≡ None = ap (λ (w : Wish). w.school) place.1 ∙ plain k e.0 place.0 in
    rw none refl))

pub ceilings_are_greatest : (s : State) (orders : List CallOrder) (ceilings : List ℕ)
    → All (λ (w : Wish). w.school ≡ None) s.dossier.wishes → IsGreatest (boarding s orders ceilings) ceilings
ceilings_are_greatest s orders ceilings plain = record {
  fits = record {
    under_ceilings = record { as_many = refl; each = λ i. omega arith };
    room = λ h lt. let none = ap length (no_demand s orders ceilings h plain) in omega (arith, none);
  };
  greatest = λ others fits. fits.under_ceilings;
}

module _ (d kinder : DossierRows) (orders : List CallOrder) (valid : IsValid d) (valid_too : IsValid kinder)
    (called : AreCallOrders d.groups orders) (plain : All (λ (w : Wish). w.school ≡ None) d.wishes)
    (kind : IsKinder d kinder) where
  abbrev Pair : State → State → Type 0
  Pair s t = IsPair d kinder orders valid called plain kind s t

  plain_there : All (λ (w : Wish). w.school ≡ None) kinder.wishes
  plain_there = subst (All (λ (w : Wish). w.school ≡ None)) (sym kind.wishes) plain

  -- ---- the passes of a day there
  record IsReached (s evening : State) : Type 0 where
    pair : Pair s evening
    state : State
    over : IsOver d.wishes state
    stamp : Stamp
    is : evening ≡ auto_all state stamp

  after_pass : (s t : State) (bars : List ℕ) (stamp : Stamp) → Pair s t → Pair s (closing t orders bars stamp)
  after_pass s t bars stamp pair =
      let offers = ahead_of_offers d kinder orders valid called plain kind s t pair.of pair.of_too pair.ahead bars
      stamp in
      record {
        of = pair.of;
        of_too = pair.of_too;
        ahead = ahead_of_answers d.wishes orders (IsSilent kinder)
            (ranked d kinder orders valid called plain kind) (unranked d kinder orders valid called plain kind)
            s (offered t orders bars stamp) stamp offers;
      }

  passes_there : (ceilings : List ℕ) (day k : ℕ) (s t : State) (passes : List PassEnd) (evening : State) → Pair s t
      → Passes orders ceilings day k t passes evening → IsReached s evening
  passes_there ceilings day k s t [] evening pair are = absurd are
  passes_there ceilings day k s t (pass ∷ []) evening pair are =
      let stamp : Stamp = record { day = day; pass = k } in
      let bars = pass.pass.bars in
      let offers = ahead_of_offers d kinder orders valid called plain kind s t pair.of pair.of_too pair.ahead bars
      stamp in
      record {
        pair = subst (Pair s) (sym are.2) (after_pass s t bars stamp pair);
        state = offered t orders bars stamp;
        over = offers.over_too;
        stamp = stamp;
        is = are.2;
      }
  passes_there ceilings day k s t (pass ∷ (next ∷ rest)) evening pair are =
      let stamp : Stamp = record { day = day; pass = k } in
      passes_there ceilings day (k + 1) s (closing t orders pass.pass.bars stamp) (next ∷ rest) evening
      (after_pass s t pass.pass.bars stamp pair) are.2

  -- ---- and here, where that evening is closed and answered for
  record IsDone (t : State) : Type 0 where
    bars : List ℕ
    closed : (k : ℕ) (w : Wish) → IsAt d.wishes k w → is_proposed t orders bars w (mark_in t k) ≡ false
    settled : (k : ℕ) (w : Wish) → IsAt d.wishes k w → has_better t w.candidate w.preference ≡ true
        → is_gone (mark_in t k) ≡ true

  behind_pass : (s t : State) (bars : List ℕ) (stamp : Stamp) → Pair s t → IsDone t
      → Pair (closing s orders bars stamp) t
  behind_pass s t bars stamp pair done =
      let offers = offers_behind d kinder orders valid called plain kind s t pair.of pair.of_too pair.ahead done.bars
      done.closed bars stamp in
      record {
        of = pair.of;
        of_too = pair.of_too;
        ahead = answers_behind d.wishes orders (IsSilent kinder)
            (ranked d kinder orders valid called plain kind) (unranked d kinder orders valid called plain kind)
            (offered s orders bars stamp) t stamp offers done.settled;
      }

  passes_here : (ceilings : List ℕ) (day k : ℕ) (s t : State) (passes : List PassEnd) (evening : State) → Pair s t
      → IsDone t → Passes orders ceilings day k s passes evening → Pair evening t
  passes_here ceilings day k s t [] evening pair done are = absurd are
  passes_here ceilings day k s t (pass ∷ []) evening pair done are =
      subst (λ (e : State). Pair e t) (sym are.2)
      (behind_pass s t pass.pass.bars (record { day = day; pass = k }) pair done)
  passes_here ceilings day k s t (pass ∷ (next ∷ rest)) evening pair done are =
      let stamp : Stamp = record { day = day; pass = k } in
      passes_here ceilings day (k + 1) (closing s orders pass.pass.bars stamp) t (next ∷ rest) evening
      (behind_pass s t pass.pass.bars stamp pair done) done are.2

  -- ---- a day
  done_there : (ceilings : List ℕ) (day : ℕ) (s dawn : State) (passes : List PassEnd) (evening : State)
      → dawn.dossier ≡ kinder → Passes orders ceilings day 1 dawn passes evening → IsReached s evening
      → IsDone evening
  done_there ceilings day s dawn passes evening of are reached =
      let pair = reached.pair in
      let valid_dawn = subst IsValid (sym of) valid_too in
      let called_dawn = subst (λ (x : DossierRows). AreCallOrders x.groups orders) (sym of)
      (subst (λ (gs : List RankGroup). AreCallOrders gs orders) (sym kind.groups) called) in
      let plain_here = subst (λ (x : DossierRows). All (λ (w : Wish). w.school ≡ None) x.wishes) (sym pair.of_too)
      plain_there in
      let none = evenings_are_closed orders ceilings day 1 dawn passes evening valid_dawn called_dawn are ceilings
      (ceilings_are_greatest evening orders ceilings plain_here) in
      record {
        bars = ceilings;
        closed = λ k w at.
            let there = entry_there d.wishes evening pair.ahead.over_too k w at in
            ap (λ (e : Wish × Mark). is_proposed evening orders ceilings e.0 e.1) (sym there.1)
            ∙ none_placed (λ (e : Wish × Mark). is_proposed evening orders ceilings e.0 e.1) 0 (entries evening) none k
            (w, mark_in evening k) there.0;
        settled = λ k w at has.
            subst (λ (e : State). has_better e w.candidate w.preference ≡ true → is_gone (mark_in e k) ≡ true)
            (sym reached.is)
            (nothing_worse d.wishes orders (IsSilent kinder) (ranked d kinder orders valid called plain kind)
            (unranked d kinder orders valid called plain kind) reached.state reached.over reached.stamp k w at) has;
      }

  days_ahead : (n : ℕ) (s t : State) (days others : List DayRecord) (evening other : State) → Pair s t
      → length others ≡ length days → Days None orders n s days evening → Days None orders n t others other
      → Pair evening other
  days_ahead n s t [] [] evening other pair long are are_too =
      subst (λ (x : State). Pair x other) are (subst (Pair s) are_too pair)
  days_ahead n s t [] (o ∷ os) evening other pair long are are_too = absurd (omega (arith, long))
  days_ahead n s t (day ∷ days) [] evening other pair long are are_too = absurd (omega (arith, long))
  days_ahead n s t (day ∷ days) (o ∷ os) evening other pair long are are_too =
      let (night, is_number, is_day, rest) = are in
      let (night_too, is_number_too, is_day_too, rest_too) = are_too in
      let xs = answers_of s.dossier day.day in
      let ys = answers_of t.dossier o.day in
      let of_xs : answers_of d n ≡ xs = rw (pair.of, is_number) refl in
      let of_ys : answers_of kinder n ≡ ys = rw (pair.of_too, is_number_too) refl in
      let also : HasAlso xs ys = subst (λ (l : List Answer). HasAlso l ys) of_xs
      (subst (HasAlso (answers_of d n)) of_ys (kind.answers n)) in
      let givers = subst (AllByRecursion (IsGivers d kinder orders valid called plain kind)) of_ys
      (all_givers d kinder orders valid called plain kind n) in
      let dawn = answers_ahead d kinder orders valid called plain kind 0 0 s t (record { day = day.day; pass = 0 })
      (record { day = o.day; pass = 0 }) xs ys also is_day.fits is_day_too.fits givers pair in
      let there = morning None o.day t in
      let here = morning None day.day s in
      let reached = passes_there (ceilings_of t.dossier n) o.day 1 here there o.passes night_too dawn
      is_day_too.passes in
      let done = done_there (ceilings_of t.dossier n) o.day here there o.passes night_too dawn.of_too
      is_day_too.passes reached in
      let night_pair = passes_here (ceilings_of s.dossier n) day.day 1 here night_too day.passes night reached.pair done
      is_day.passes in
      days_ahead (n + 1) night night_too days os evening other night_pair (omega (arith, long)) rest rest_too

  -- ---- at first all is the same
  first_over : (x : DossierRows) → IsValid x → x.wishes ≡ d.wishes → IsOver d.wishes (first_evening x)
  first_over x valid_x same = record {
    wishes = same;
    long = length-map x.statuses first_mark ∙ valid_x.one_status_each ∙ ap (λ (ws : List Wish). length ws) same;
  }

  first_pair : Pair (first_evening d) (first_evening kinder)
  first_pair = record {
    of = refl;
    of_too = refl;
    ahead = record {
      over = first_over d valid refl;
      over_too = first_over kinder valid_too kind.wishes;
      each = λ k w at.
          let m = mark_in (first_evening d) k in
          let n = mark_in (first_evening kinder) k in
          let same : n ≡ m = ap (λ (l : List Status). get_or (map first_mark l) k (first_mark Waiting)) kind.statuses in
          record {
            waits = λ waits. ap is_waiting (sym same) ∙ waits;
            goes = λ gone. ap is_gone same ∙ gone;
            better = λ some stood gone. absurd (both_ways (is_gone m) stood (ap is_gone (sym same) ∙ gone));
            first = λ waits live. absurd (both_ways (is_live m) (waits_lives_not m waits)
                (ap is_live (sym same) ∙ live));
            kept = λ still gone. ap is_gone (sym same) ∙ gone;
          };
    };
  }

  -- ---- what the candidates see
  as_good : (s t : State) → Pair s t → (c n : ℕ) → RanksWishes kinder c → has_as_good s c n ≡ true
      → has_as_good t c n ≡ true
  as_good s t pair c n ranks has =
      let ahead = pair.ahead in
      let found = any_there d.wishes s ahead.over
      (λ e. is_live e.1 && nat_eq e.0.candidate c && nat_le e.0.preference n) has in
      let w = found.wish in
      let k = found.place in
      let m = mark_in s k in
      let x = mark_in t k in
      let now = ahead.each k w found.at in
      let outer = and_parts (is_live m && nat_eq w.candidate c) (nat_le w.preference n) found.passes in
      let inner = and_parts (is_live m) (nat_eq w.candidate c) outer.0 in
      let own = eqb-true w.candidate c inner.1 in
      let lt : k < length kinder.wishes = rw kind.wishes found.at.within in
      let is : get_or kinder.wishes k w ≡ w = ap (λ (ws : List Wish). get_or ws k w) kind.wishes ∙ found.at.here in
      let some : 0 < w.preference = subst (λ (v : Wish). v.candidate ≡ c → 0 < v.preference) is (ranks k w lt) own in
      let waits_not : is_waiting x ≡ false = false_from_ne_true (is_waiting x) (λ waits.
      both_ways (is_live m) (waits_lives_not m (now.waits waits)) inner.0) in
      elim (live_or_gone x waits_not) [
        | inl live ↦
            any_here d.wishes t ahead.over_too
            (λ e. is_live e.1 && nat_eq e.0.candidate c && nat_le e.0.preference n) k w found.at
            (and_from (is_live x && nat_eq w.candidate c) (nat_le w.preference n)
            (and_from (is_live x) (nat_eq w.candidate c) live inner.1) outer.1)
        | inr gone ↦
            let stood : is_gone m ≡ false = false_from_ne_true (is_gone m) (λ e.
            both_ways (is_live m) (gone_lives_not (is_live m) (is_waiting m) e) inner.0) in
            let better = ap (λ (z : ℕ). has_better t z w.preference) (sym own) ∙ now.better some stood gone in
            let le = leb-true w.preference n outer.1 in
            any_implied (λ (e : Wish × Mark). ranked_live c e && nat_lt e.0.preference w.preference)
            (λ (e : Wish × Mark). is_live e.1 && nat_eq e.0.candidate c && nat_le e.0.preference n)
            (λ e both.
            let parts = and_parts (ranked_live c e) (nat_lt e.0.preference w.preference) both in
            let less = ltb-true e.0.preference w.preference parts.1 in
            and_from (is_live e.1 && nat_eq e.0.candidate c) (nat_le e.0.preference n)
            (and_parts (is_live e.1 && nat_eq e.0.candidate c) (nat_lt 0 e.0.preference) parts.0).0
            (le-leb e.0.preference n (omega (arith, le, less)))) (entries t) better
      ]

  not_hurt : (s t : State) → Pair s t → IsNotHurt kinder s t
  not_hurt s t pair =
      let ahead = pair.ahead in
      let zipped : (R : Wish × Mark → Wish × Mark → Type 0)
      → ((k : ℕ) (w : Wish) → IsAt d.wishes k w → R (w, mark_in s k) (w, mark_in t k))
      → AllZip R (entries s) (entries t) = λ R each.
      subst (λ (ws : List Wish). AllZip R (zip ws s.marks) (entries t)) (sym ahead.over.wishes)
      (subst (λ (ws : List Wish). AllZip R (zip d.wishes s.marks) (zip ws t.marks)) (sym ahead.over_too.wishes)
      (all_zip R d.wishes s.marks t.marks ahead.over.long ahead.over_too.long each)) in
      record {
        waits = zipped (λ e f. is_waiting f.1 ≡ true → is_waiting e.1 ≡ true) (λ k w at. (ahead.each k w at).waits);
        silent = λ c silent. zipped (λ e f. e.0.candidate ≡ c → is_live e.1 ≡ true → is_live f.1 ≡ true)
            (λ k w at own live.
            let now = ahead.each k w at in
            let m = mark_in s k in
            let n = mark_in t k in
            let waits_not : is_waiting n ≡ false = false_from_ne_true (is_waiting n) (λ waits.
            both_ways (is_live m) (waits_lives_not m (now.waits waits)) live) in
            elim (live_or_gone n waits_not) [
              | inl lives ↦ lives
              | inr gone ↦ absurd (both_ways (is_live m)
                  (gone_lives_not (is_live m) (is_waiting m)
                  (now.kept (subst (IsSilent kinder) (sym own) silent) gone)) live)
            ]);
        ranked = λ c n ranks has. as_good s t pair c n ranks has;
      }

pub kindness_hurts_nobody : MoreSeatsAndAnswersHurtNobody
kindness_hurts_nobody orders d kinder days others evening other valid valid_too called plain kind long are are_too =
    not_hurt d kinder orders valid valid_too called plain kind evening other
    (days_ahead d kinder orders valid valid_too called plain kind 1 (first_evening d) (first_evening kinder) days others
    evening other (first_pair d kinder orders valid valid_too called plain kind) long are are_too)
