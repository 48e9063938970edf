-- One place up in a programme's own call order: until the wish is offered, the days are the same.
use Rattle.std.proofs.Common.{ℕ, suc, zero, ◌+◌, ◌<◌, ◌≡◌, ◌⊎◌, Bool, true, false, ◌&&◌, filter, List, [], ◌∷◌, length}
use Rattle.std.proofs.Common.{map, get_or, Option, Some, None, inl, inr, refl, sym, ◌∙◌, ap, subst, arith, zip}
use Rattle.std.specs.Prelude.{ℤ, All, if◌then◌else◌, slice_get}
use Rattle.std.specs.List.{enumerate_from, list_any}
use Rattle.std.proofs.lemmas.Bool.{both_ways, cases_Bool, cases_lt, eq-eqb, false_from_ne_true, ne_eqb, not-true}
use Rattle.std.proofs.lemmas.Bool.{or_from, or_left, or_right}
use Rattle.std.proofs.lemmas.List.{length-map}
use Rattle.std.proofs.lemmas.Option.{get_or_from_slice_get, slice_get-get_or, slice_get_past}
use Rattle.std.proofs.lemmas.Slice.Zip.{length-zip}
use Rattle.admit_core.specs.declared.dossier.Answer.{Answer}
use Rattle.admit_core.specs.declared.dossier.Wish.{Wish}
use Rattle.admit_core.specs.declared.ranking.CallOrder.{CallOrder}
use Rattle.admit_core.specs.declared.records.DayRecord.{DayRecord}
use Rattle.admit_core.specs.declared.records.PassEnd.{PassEnd}
use Rattle.admit_core.specs.declared.records.Terms.{Terms}
use Rattle.admit_core.specs.declared.state.Mark.{Mark}
use Rattle.admit_core.specs.declared.state.Stamp.{Stamp}
use Rattle.admit_core.specs.declared.state.Status.TheVariants.{Lapsed, Offered}
use Rattle.admit_core.specs.Answers.{after, after_all}
use Rattle.admit_core.specs.AutoAnswer.{auto_all, auto_mark, best_live, freed}
use Rattle.admit_core.specs.Boarding.{boarding}
use Rattle.admit_core.specs.Days.{Days, IsPassEnd, Passes, after_lapse, answers_of, ceilings_of, closing, frees_nothing}
use Rattle.admit_core.specs.Days.{morning, offered, unfit_on}
use Rattle.admit_core.specs.DossierRows.{DossierRows}
use Rattle.admit_core.specs.Falls.{IsGreatest}
use Rattle.admit_core.specs.Lapses.{AreTermsFor, lapses}
use Rattle.admit_core.specs.Lists.{is_among}
use Rattle.admit_core.specs.Proposals.{is_behind_bar, is_open, is_proposed, proposed}
use Rattle.admit_core.specs.State.{State, changed_to, entries, is_waiting}
use Rattle.admit_core.specs.Validity.{IsValid}
use Rattle.admit_core.proofs.FilledSeats.{auto_waits, offer_if, waits_still}
use Rattle.admit_core.proofs.Plain.{waits_open}
use Rattle.bar_fixpoint.proofs.RunLaws.{unique_greatest}
use Rattle.fairness.specs.Exchanges.{IsMovedUp}
use Rattle.fairness.proofs.PassedOver.{refused_by}
use Rattle.campaign_laws.specs.Moments.{after_each}
use Rattle.campaign_laws.specs.OneMark.{IsLater}
use Rattle.campaign_laws.specs.PassedOver.{WaitsAt}
use Rattle.campaign_laws.proofs.GoneStays.{later_steps}
use Rattle.campaign_laws.proofs.OneMark.{proposed_open}
use Rattle.campaign_laws.proofs.PassedOver.{waited_at}
use Rattle.campaign_laws.proofs.QuietDays.{IsOf}
use Rattle.campaign_laws.proofs.Walks.{Nothing, all_along, all_of, morning_of, morning_steps}
use Rattle.change_laws.specs.OnePlaceUp.{is_ever_offered, is_offered_on}
use Rattle.change_laws.proofs.Answering.{after_over}
use Rattle.change_laws.proofs.KinderDays.{ceilings_are_greatest}
use Rattle.change_laws.proofs.Neighbours.{same_seats}
use Rattle.change_laws.proofs.Places.{IsAt, IsOver, entry_there, mark_given, mark_in, over_given}

-- ---- lists that go by the wish alone
map_same_there : {X : Type 0} (f g : Wish → Mark → X) (ws : List Wish) (ms : List Mark)
    → ((k : ℕ) (w : Wish) (m : Mark) → IsAt ws k w → f w m ≡ g w m)
    → map (λ (e : Wish × Mark). f e.0 e.1) (zip ws ms) ≡ map (λ (e : Wish × Mark). g e.0 e.1) (zip ws ms)
map_same_there f g [] ms same = refl
map_same_there f g (w ∷ ws) [] same = refl
map_same_there f g (w ∷ ws) (m ∷ ms) same =
    let rest = map_same_there f g ws ms (λ k v x at.
    same (suc k) v x (record { within = omega (arith, at.within); here = at.here })) in
    let first : f w m ≡ g w m = same 0 w m (record { within = omega arith; here = refl }) in
    λ i. first i ∷ rest i

-- whether a place is among those that pass, from n on
abbrev places_from : (Wish × Mark → Bool) → ℕ → List (Wish × Mark) → List ℕ
places_from test n es = map (λ (x : ℕ × (Wish × Mark)). x.0) (filter (λ (x : ℕ × (Wish × Mark)). test x.1)
    (enumerate_from n es))

none_earlier : (test : Wish × Mark → Bool) (n j : ℕ) (es : List (Wish × Mark)) → j < n
    → is_among j (places_from test n es) ≡ false
none_earlier test n j [] less = refl
none_earlier test n j (e ∷ es) less =
    let rest = none_earlier test (n + 1) j es (omega (arith, less)) in
    elim (cases_Bool (test e)) [
      | inl passes ↦ rw (passes, ne_eqb j n (λ same. omega (arith, same, less))) rest
      | inr fails ↦ rw fails rest
    ]

among_passing : (test : Wish × Mark → Bool) (n k : ℕ) (es : List (Wish × Mark)) (e : Wish × Mark) → k < length es
    → get_or es k e ≡ e → is_among (n + k) (places_from test n es) ≡ test e
among_passing test n k [] e lt at = absurd (omega (arith, lt))
among_passing test n zero (x ∷ es) e lt at =
    let here : (n + 0) ≡ n = omega arith in
    let first : x ≡ e = at in
    rw here (elim (cases_Bool (test x)) [
      | inl passes ↦ rw (passes, eq-eqb n n refl) (sym passes ∙ ap test first)
      | inr fails ↦ rw fails (none_earlier test (n + 1) n es (omega arith) ∙ sym fails ∙ ap test first)
    ])
among_passing test n (suc k) (x ∷ es) e lt at =
    let there : (n + 1) + k ≡ n + suc k = omega arith in
    let rest : is_among (n + suc k) (places_from test (n + 1) es) ≡ test e =
    ap (λ (j : ℕ). is_among j (places_from test (n + 1) es)) (sym there)
    ∙ among_passing test (n + 1) k es e (omega (arith, lt)) at in
    elim (cases_Bool (test x)) [
      | inl passes ↦ rw (passes, ne_eqb (n + suc k) n (λ same. omega (arith, same))) rest
      | inr fails ↦ rw fails rest
    ]

-- ---- in the morning each wish has a mark still
pub over_lapse : (d : DossierRows) (terms : Option Terms) (day : ℕ) (s : State) → AreTermsFor d terms
    → IsOver d.wishes s
    → IsOver d.wishes (after_lapse terms day s)
over_lapse d None day s fit over = over
over_lapse d (Some t) day s fit over = record {
  wishes = over.wishes;
  long =
      length-map (zip t.before s.marks)
      (λ (x : ℤ × Mark). if lapses t.term day x.0 x.1 then changed_to Lapsed (record { day = day; pass = 0 }) x.1
      else x.1)
      ∙ omega (arith, length-zip t.before s.marks, fit, over.long);
}

over_answers : (ws : List Wish) (s : State) (stamp : Stamp) (answers : List Answer) → IsOver ws s
    → IsOver ws (after_all s stamp answers)
over_answers ws s stamp [] over = over
over_answers ws s stamp (a ∷ rest) over =
    over_answers ws (after s stamp a) stamp rest (after_over a.kind ws s a.target stamp over)

-- ---- days
module _ (d : DossierRows) (valid : IsValid d) (plain : All (λ (v : Wish). v.school ≡ None) d.wishes)
    (terms : Option Terms) (fit : AreTermsFor d terms) (orders moved : List CallOrder) (place : ℕ) (w : Wish)
    (at : IsAt d.wishes place w) (is : IsMovedUp d orders moved w.programme w.candidate) where
  dawn_of : (day : ℕ) (s : State) → IsOf d s → IsOf d (morning terms day s)
  dawn_of day s whole =
      let over : IsOver d.wishes s =
      record { wishes = ap (λ (x : DossierRows). x.wishes) whole.of; long = whole.long } in
      let dawn = over_answers d.wishes (after_lapse terms day s) (record { day = day; pass = 0 })
      (answers_of s.dossier day) (over_lapse d terms day s fit over) in
      record { of = morning_of d terms day s whole.of; long = dawn.long }

  over_of : (s : State) → IsOf d s → IsOver d.wishes s
  over_of s whole =
      record { wishes = ap (λ (x : DossierRows). x.wishes) whole.of; long = whole.long }

  of_given : (s t : State) → IsOf d s → t.dossier ≡ s.dossier → IsOver d.wishes t → IsOf d t
  of_given s t whole same over = record { of = same ∙ whole.of; long = over.long }

  abbrev waits_now : State → Bool
  waits_now s = is_waiting (mark_in s place)

  -- without boarding the bars of each pass are the ceilings
  bars_are : (s : State) (these : List CallOrder) (ceilings bars : List ℕ) → IsOf d s
      → IsGreatest (boarding s these ceilings) bars → bars ≡ ceilings
  bars_are s these ceilings bars whole greatest =
      unique_greatest (boarding s these ceilings) bars ceilings greatest
      (ceilings_are_greatest s these ceilings
      (subst (λ (x : DossierRows). All (λ (v : Wish). v.school ≡ None) x.wishes) (sym whole.of) plain))

  offers_it : (s : State) (these : List CallOrder) (bars : List ℕ) → IsOf d s
      → is_among place (proposed s these bars) ≡ is_proposed s these bars w (mark_in s place)
  offers_it s these bars whole =
      let there = entry_there d.wishes s (over_of s whole) place w at in
      let named : 0 + place ≡ place = omega arith in
      rw named at (among_passing (λ (e : Wish × Mark). is_proposed s these bars e.0 e.1) 0 place (entries s)
      (w, mark_in s place) there.0 there.1)

  -- the next state is one of the dossier too
  next_whole : (s : State) (these : List CallOrder) (bars : List ℕ) (stamp : Stamp) → IsOf d s
      → IsOf d (closing s these bars stamp)
  next_whole s these bars stamp whole =
      let over = over_given d.wishes s (over_of s whole) (λ v m. offer_if stamp (is_proposed s these bars v m) m) in
      of_given s (closing s these bars stamp) whole refl
      (over_given d.wishes (offered s these bars stamp) over
      (λ v m. auto_mark stamp (best_live (offered s these bars stamp) v.candidate) v m))

  -- what does not wait is not offered, and does not wait afterwards
  stays_done : (s : State) (these : List CallOrder) (bars : List ℕ) (stamp : Stamp) → IsOf d s
      → waits_now s ≡ false → waits_now (closing s these bars stamp) ≡ false
  stays_done s these bars stamp whole done =
      let t = offered s these bars stamp in
      let over = over_given d.wishes s (over_of s whole) (λ v m. offer_if stamp (is_proposed s these bars v m) m) in
      false_from_ne_true (waits_now (closing s these bars stamp)) (λ waits.
      let earlier : is_waiting (mark_in t place) ≡ true =
      auto_waits stamp (best_live t w.candidate) w (mark_in t place)
      (ap is_waiting (sym (mark_given d.wishes t over (λ v m. auto_mark stamp (best_live t v.candidate) v m) place w
      at)) ∙ waits) in
      let first = waits_still stamp (is_proposed s these bars w (mark_in s place)) (mark_in s place)
      (ap is_waiting (sym (mark_given d.wishes s (over_of s whole)
      (λ v m. offer_if stamp (is_proposed s these bars v m) m) place w at)) ∙ earlier) in
      both_ways (waits_now s) done first.1)

  done_offers_not : (s : State) (these : List CallOrder) (bars : List ℕ) → IsOf d s → waits_now s ≡ false
      → is_among place (proposed s these bars) ≡ false
  done_offers_not s these bars whole done =
      offers_it s these bars whole
      ∙ false_from_ne_true (is_proposed s these bars w (mark_in s place)) (λ offers.
      both_ways (waits_now s) done (proposed_open s these bars w (mark_in s place) offers).0)

  abbrev in_passes : List PassEnd → Bool
  in_passes passes = list_any (λ (pass : PassEnd). is_among place pass.pass.offers) passes

  -- a record of passes in which it is not offered
  record IsDone (passes : List PassEnd) (evening : State) : Type 0 where
    never : in_passes passes ≡ false
    done : waits_now evening ≡ false
    whole : IsOf d evening

  done_passes : (these : List CallOrder) (ceilings : List ℕ) (day k : ℕ) (s : State) (passes : List PassEnd)
      (evening : State) → IsOf d s → waits_now s ≡ false → Passes these ceilings day k s passes evening
      → IsDone passes evening
  done_passes these ceilings day k s [] evening whole done are = absurd are
  done_passes these ceilings day k s (pass ∷ []) evening whole done are =
      let stamp : Stamp = record { day = day; pass = k } in
      let bars = pass.pass.bars in
      let none = ap (is_among place) are.0.pass.offers ∙ done_offers_not s these bars whole done in
      record {
        never = or_from (is_among place pass.pass.offers) false none refl;
        done = ap waits_now are.2 ∙ stays_done s these bars stamp whole done;
        whole = subst (IsOf d) (sym are.2) (next_whole s these bars stamp whole);
      }
  done_passes these ceilings day k s (pass ∷ (next ∷ rest)) evening whole done are =
      let stamp : Stamp = record { day = day; pass = k } in
      let bars = pass.pass.bars in
      let none = ap (is_among place) are.0.pass.offers ∙ done_offers_not s these bars whole done in
      let later = done_passes these ceilings day (k + 1) (closing s these bars stamp) (next ∷ rest) evening
      (next_whole s these bars stamp whole) (stays_done s these bars stamp whole done) are.2 in
      record {
        never = or_from (is_among place pass.pass.offers) (in_passes (next ∷ rest)) none later.never;
        done = later.done;
        whole = later.whole;
      }

  -- ---- the same pass
  opened : (s : State) (bars : List ℕ) → waits_now s ≡ true → is_open s bars w (mark_in s place) ≡ true
  opened s bars waits =
      let none : is_behind_bar s bars w w.school ≡ false =
      rw (subst (λ (u : Wish). u.school ≡ None) at.here (plain place w at.within)) refl in
      waits_open (is_waiting (mark_in s place)) (is_behind_bar s bars w w.school) waits none

  same_offers : (s : State) (bars : List ℕ) → IsOf d s → waits_now s ≡ true
      → is_proposed s moved bars w (mark_in s place) ≡ false
      → (k : ℕ) (v : Wish) (m : Mark) → IsAt d.wishes k v → is_proposed s orders bars v m ≡ is_proposed s moved bars v m
  same_offers s bars whole waits none k v m v_at =
      let moved_up : IsMovedUp s.dossier orders moved w.programme w.candidate =
      subst (λ (x : DossierRows). IsMovedUp x orders moved w.programme w.candidate) (sym whole.of) is in
      let why = refused_by s moved bars w (mark_in s place) (opened s bars waits) none in
      let there : v.programme < length s.dossier.programmes =
      subst (λ (x : DossierRows). v.programme < length x.programmes) (sym whole.of)
      (subst (λ (u : Wish). u.programme < length d.programmes) v_at.here (valid.wishes k v v_at.within).programme) in
      ap (λ (b : Bool). is_open s bars v m && b)
      (same_seats s orders moved w.programme w.candidate moved_up bars why.not_live why.beyond why.no_seat v.programme
      v.candidate there)

  same_state : (s : State) (bars : List ℕ) (stamp : Stamp) → IsOf d s
      → ((k : ℕ) (v : Wish) (m : Mark) → IsAt d.wishes k v
      → is_proposed s orders bars v m ≡ is_proposed s moved bars v m)
      → offered s orders bars stamp ≡ offered s moved bars stamp
  same_state s bars stamp whole same =
      ap (λ (ms : List Mark). record s { marks = ms })
      (map_same_there (λ v m. if is_proposed s orders bars v m then changed_to Offered stamp m else m)
      (λ v m. if is_proposed s moved bars v m then changed_to Offered stamp m else m) s.dossier.wishes s.marks
      (λ k v m v_at. ap (λ (b : Bool). if b then changed_to Offered stamp m else m)
      (same k v m (subst (λ (ws : List Wish). IsAt ws k v) (ap (λ (x : DossierRows). x.wishes) whole.of) v_at))))

  -- it is offered there, or not here and the evening is the same, or it does not wait any more
  record IsAlike (passes : List PassEnd) (evening other : State) : Type 0 where
    never : in_passes passes ≡ false
    whole : IsOf d evening
    evenings : (evening ≡ other) ⊎ (waits_now evening ≡ false)

  -- a pass of both, in which it is not offered there
  record IsSamePass (s : State) (stamp : Stamp) (pass o : PassEnd) : Type 0 where
    never : is_among place pass.pass.offers ≡ false
    after : closing s orders pass.pass.bars stamp ≡ closing s moved o.pass.bars stamp
    frees : pass.freed ≡ o.freed

  look : (s : State) (ceilings : List ℕ) (stamp : Stamp) (pass o : PassEnd) → IsOf d s → waits_now s ≡ true
      → IsPassEnd s orders ceilings stamp pass → IsPassEnd s moved ceilings stamp o
      → (is_among place o.pass.offers ≡ true) ⊎ IsSamePass s stamp pass o
  look s ceilings stamp pass o whole waits first second =
      let bars = pass.pass.bars in
      let m = mark_in s place in
      let same_bars : o.pass.bars ≡ bars =
      bars_are s moved ceilings o.pass.bars whole second.pass.greatest
      ∙ sym (bars_are s orders ceilings bars whole first.pass.greatest) in
      elim (cases_Bool (is_proposed s moved bars w m)) [
        | inl offers ↦
            inl (ap (is_among place) second.pass.offers ∙ offers_it s moved o.pass.bars whole
            ∙ ap (λ (b : List ℕ). is_proposed s moved b w m) same_bars ∙ offers)
        | inr none ↦
            let same = same_offers s bars whole waits none in
            let after : offered s orders bars stamp ≡ offered s moved o.pass.bars stamp =
            same_state s bars stamp whole same ∙ ap (λ (b : List ℕ). offered s moved b stamp) (sym same_bars) in
            inr (record {
              never = ap (is_among place) first.pass.offers ∙ offers_it s orders bars whole ∙ same place w m at ∙ none;
              after = ap (λ (t : State). auto_all t stamp) after;
              frees = first.freed ∙ ap (λ (t : State). freed t (auto_all t stamp)) after ∙ sym second.freed;
            })
      ]

  done_alike : (ceilings : List ℕ) (day k : ℕ) (s : State) (passes : List PassEnd) (evening other : State) → IsOf d s
      → waits_now s ≡ false → Passes orders ceilings day k s passes evening → IsAlike passes evening other
  done_alike ceilings day k s passes evening other whole done are =
      let it = done_passes orders ceilings day k s passes evening whole done are in
      record { never = it.never; whole = it.whole; evenings = inr it.done }

  passes_alike : (ceilings : List ℕ) (day k : ℕ) (s : State) (passes others : List PassEnd) (evening other : State)
      → IsOf d s → Passes orders ceilings day k s passes evening → Passes moved ceilings day k s others other
      → (in_passes others ≡ true) ⊎ IsAlike passes evening other
  passes_alike ceilings day k s [] others evening other whole are are_too = absurd are
  passes_alike ceilings day k s (pass ∷ rest) [] evening other whole are are_too = absurd are_too
  passes_alike ceilings day k s (pass ∷ []) (o ∷ []) evening other whole are are_too =
      let stamp : Stamp = record { day = day; pass = k } in
      elim (cases_Bool (waits_now s)) [
        | inr done ↦ inr (done_alike ceilings day k s (pass ∷ []) evening other whole done are)
        | inl waits ↦ elim (look s ceilings stamp pass o whole waits are.0 are_too.0) [
          | inl there ↦ inl (or_left (is_among place o.pass.offers) false there)
          | inr same ↦ inr (record {
            never = or_from (is_among place pass.pass.offers) false same.never refl;
            whole = subst (IsOf d) (sym are.2) (next_whole s orders pass.pass.bars stamp whole);
            evenings = inl (are.2 ∙ same.after ∙ sym are_too.2);
          })
        ]
      ]
  passes_alike ceilings day k s (pass ∷ []) (o ∷ (x ∷ xs)) evening other whole are are_too =
      let stamp : Stamp = record { day = day; pass = k } in
      elim (cases_Bool (waits_now s)) [
        | inr done ↦ inr (done_alike ceilings day k s (pass ∷ []) evening other whole done are)
        | inl waits ↦ elim (look s ceilings stamp pass o whole waits are.0 are_too.0) [
          | inl there ↦ inl (or_left (is_among place o.pass.offers) (in_passes (x ∷ xs)) there)
          | inr same ↦ absurd (both_ways (frees_nothing o.freed) (not-true (frees_nothing o.freed) are_too.1)
              (ap frees_nothing (sym same.frees) ∙ are.1))
        ]
      ]
  passes_alike ceilings day k s (pass ∷ (y ∷ ys)) (o ∷ []) evening other whole are are_too =
      let stamp : Stamp = record { day = day; pass = k } in
      elim (cases_Bool (waits_now s)) [
        | inr done ↦ inr (done_alike ceilings day k s (pass ∷ (y ∷ ys)) evening other whole done are)
        | inl waits ↦ elim (look s ceilings stamp pass o whole waits are.0 are_too.0) [
          | inl there ↦ inl (or_left (is_among place o.pass.offers) false there)
          | inr same ↦ absurd (both_ways (frees_nothing pass.freed) (not-true (frees_nothing pass.freed) are.1)
              (ap frees_nothing same.frees ∙ are_too.1))
        ]
      ]
  passes_alike ceilings day k s (pass ∷ (y ∷ ys)) (o ∷ (x ∷ xs)) evening other whole are are_too =
      let stamp : Stamp = record { day = day; pass = k } in
      elim (cases_Bool (waits_now s)) [
        | inr done ↦ inr (done_alike ceilings day k s (pass ∷ (y ∷ ys)) evening other whole done are)
        | inl waits ↦ elim (look s ceilings stamp pass o whole waits are.0 are_too.0) [
          | inl there ↦ inl (or_left (is_among place o.pass.offers) (in_passes (x ∷ xs)) there)
          | inr same ↦
              elim (passes_alike ceilings day (k + 1) (closing s orders pass.pass.bars stamp) (y ∷ ys) (x ∷ xs)
              evening other (next_whole s orders pass.pass.bars stamp whole) are.2
              (subst (λ (t : State). Passes moved ceilings day (k + 1) t (x ∷ xs) other) (sym same.after) are_too.2)) [
                | inl there ↦ inl (or_right (is_among place o.pass.offers) (in_passes (x ∷ xs)) there)
                | inr later ↦ inr (record {
                  never = or_from (is_among place pass.pass.offers) (in_passes (y ∷ ys)) same.never later.never;
                  whole = later.whole;
                  evenings = later.evenings;
                })
              ]
        ]
      ]

  -- ---- what does not wait in an evening does not wait in the morning
  morning_done : (s : State) (day : ℕ) → IsOf d s → unfit_on terms day s ≡ None → waits_now s ≡ false
      → waits_now (morning terms day s) ≡ false
  morning_done s day whole fits done =
      let dawn = morning terms day s in
      let dawn_whole = dawn_of day s whole in
      let lapsed = after_lapse terms day s in
      let stamp : Stamp = record { day = day; pass = 0 } in
      let answers = answers_of s.dossier day in
      let walk = morning_steps d terms orders Nothing Nothing IsLater (later_steps d terms orders Nothing Nothing fit)
      s day whole.of fits (all_of Nothing (λ a. tt) answers) in
      false_from_ne_true (waits_now dawn) (λ waits.
      let there = entry_there d.wishes dawn (over_of dawn dawn_whole) place w at in
      let waits_there : WaitsAt dawn place w = record {
        mark = mark_in dawn place;
        there = slice_get-get_or (entries dawn) place (w, mark_in dawn place) there.0
            ∙ ap (λ (e : Wish × Mark). Some e) there.1;
        waits = waits;
      } in
      let held = all_along IsLater (λ (x : State). WaitsAt x place w)
      (λ a b step later. waited_at a b place w step later) s
      (lapsed ∷ after_each lapsed stamp answers) dawn walk waits_there in
      let first = held.start in
      let here = entry_there d.wishes s (over_of s whole) place w at in
      let one : (w, mark_in s place) ≡ (w, first.mark) = sym here.1
      ∙ get_or_from_slice_get (entries s) place (w, first.mark) (w, mark_in s place) first.there in
      both_ways (waits_now s) done (ap (λ (e : Wish × Mark). is_waiting e.1) one ∙ first.waits))

  days_done : (n : ℕ) (s : State) (days : List DayRecord) (new : State) → IsOf d s → waits_now s ≡ false
      → Days terms orders n s days new → is_ever_offered place days ≡ false
  days_done n s [] new whole done are = refl
  days_done n s (day ∷ days) new whole done are =
      let (night, is_number, is_day, rest) = are in
      let dawn = morning terms day.day s in
      let it = done_passes orders (ceilings_of s.dossier n) day.day 1 dawn day.passes night
      (dawn_of day.day s whole) (morning_done s day.day whole is_day.fits done) is_day.passes in
      or_from (is_offered_on place day) (is_ever_offered place days) it.never
      (days_done (n + 1) night days new it.whole it.done rest)

  days_alike : (n : ℕ) (s : State) (days others : List DayRecord) (new other : State) → IsOf d s
      → length others ≡ length days → Days terms orders n s days new → Days terms moved n s others other
      → (is_ever_offered place others ≡ true) ⊎ (is_ever_offered place days ≡ false)
  days_alike n s [] others new other whole long are are_too = inr refl
  days_alike n s (day ∷ days) [] new other whole long are are_too = absurd (omega (arith, long))
  days_alike n s (day ∷ days) (o ∷ os) new other whole long are are_too =
      let (night, is_number, is_day, rest) = are in
      let (night_too, is_number_too, is_day_too, rest_too) = are_too in
      let ceilings = ceilings_of s.dossier n in
      let same_day : o.day ≡ day.day = is_number_too ∙ sym is_number in
      let passes_too : Passes moved ceilings day.day 1 (morning terms day.day s) o.passes night_too =
      subst (λ (x : ℕ). Passes moved ceilings x 1 (morning terms x s) o.passes night_too) same_day
      is_day_too.passes in
      elim (passes_alike ceilings day.day 1 (morning terms day.day s) day.passes o.passes night night_too
      (dawn_of day.day s whole) is_day.passes passes_too) [
        | inl there ↦ inl (or_left (is_offered_on place o) (is_ever_offered place os) there)
        | inr alike ↦ elim alike.evenings [
          | inr done ↦
              inr (or_from (is_offered_on place day) (is_ever_offered place days) alike.never
              (days_done (n + 1) night days new alike.whole done rest))
          | inl same ↦
              elim (days_alike (n + 1) night days os new other alike.whole (omega (arith, long)) rest
              (subst (λ (x : State). Days terms moved (n + 1) x os other) (sym same) rest_too)) [
                | inl there ↦ inl (or_right (is_offered_on place o) (is_ever_offered place os) there)
                | inr never ↦
                    inr (or_from (is_offered_on place day) (is_ever_offered place days) alike.never never)
              ]
        ]
      ]

pub one_place_up_keeps_each_offer : (terms : Option Terms) (orders moved : List CallOrder) (n : ℕ) (old : State)
    (days others : List DayRecord) (new other : State) (place : ℕ) (w : Wish) → IsValid old.dossier
    → All (λ (v : Wish). v.school ≡ None) old.dossier.wishes → length old.marks ≡ length old.dossier.wishes
    → AreTermsFor old.dossier terms → slice_get old.dossier.wishes place ≡ Some w
    → IsMovedUp old.dossier orders moved w.programme w.candidate → length others ≡ length days
    → Days terms orders n old days new → Days terms moved n old others other
    → is_ever_offered place days ≡ true → is_ever_offered place others ≡ true
one_place_up_keeps_each_offer terms orders moved n old days others new other place w valid plain long fit there is
    as_many are are_too ever =
    let d = old.dossier in
    let at : IsAt d.wishes place w = record {
      within = elim (cases_lt place (length d.wishes)) [
        | inl lt ↦ lt
        | inr past ↦ let none = slice_get_past d.wishes place past in absurd (cc)
      ];
      here = get_or_from_slice_get d.wishes place w w there;
    } in
    elim (days_alike d valid plain terms fit orders moved place w at is n old days others new other
    (record { of = refl; long = long }) as_many are are_too) [
      | inl ever_there ↦ ever_there
      | inr never ↦ absurd (both_ways (is_ever_offered place days) never ever)
    ]
