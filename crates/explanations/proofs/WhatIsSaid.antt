-- What an explanation says holds in the evening.
use Rattle.std.proofs.Common.{ℕ, ◌<◌, ◌≡◌, true, false, not, List, length, get_or, inl, inr, refl, sym, ◌∙◌, ap, subst}
use Rattle.std.proofs.Common.{arith, nat_lt, Option, Some, None, zero-add}
use Rattle.std.specs.Prelude.{IsTrue, slice_index}
use Rattle.std.proofs.lemmas.Bool.{and_from, and_parts, cases_Bool, cases_eq, eq-eqb, false≢true, ltb-true, ne_eqb}
use Rattle.std.proofs.lemmas.Bool.{not_from_false}
use Rattle.std.proofs.lemmas.List.FromFn.{get_or-map-range_with_len}
use Rattle.std.proofs.lemmas.Slice.Zip.{length-zip}
use Rattle.admit_core.specs.declared.dossier.Wish.{Wish}
use Rattle.admit_core.specs.declared.explanation.BarCause.TheVariants.{Ceiling, Full}
use Rattle.admit_core.specs.declared.explanation.Explanation.{Explanation}
use Rattle.admit_core.specs.declared.state.Mark.{Mark}
use Rattle.admit_core.specs.declared.state.Stamp.{Stamp}
use Rattle.admit_core.specs.Boarding.{boarding}
use Rattle.admit_core.specs.Days.{closing, freed_after, frees_nothing}
use Rattle.admit_core.specs.DossierRows.{DossierRows, beds_of}
use Rattle.admit_core.specs.Explanations.{LastPass, barred_at, cause_of, explanation, no_seat}
use Rattle.admit_core.specs.Falls.{IsGreatest}
use Rattle.admit_core.specs.Proposals.{is_barred, is_behind_bar, is_proposed}
use Rattle.admit_core.specs.State.{State, entries, has_school, holds_bed, is_gone, is_live, is_waiting}
use Rattle.admit_core.specs.AutoAnswer.{best_live}
use Rattle.admit_core.specs.Validity.{IsValid}
use Rattle.admit_core.proofs.Evenings.{after_offers, answer, no_bed, offer}
use Rattle.admit_core.proofs.FilledSeats.{auto_waits, waits_still}
use Rattle.day_state.proofs.Along.{length-with_marks, mark_in-with_marks}
use Rattle.day_state.proofs.Change.{wish_valid}
use Rattle.day_state.proofs.Places.{entries_by_place, entry_in}
use Rattle.day_state.specs.Kept.{mark_in, wish_in}
use Rattle.round.proofs.OfferLaws.{lowered_for_beds}
use Rattle.desk_day.specs.LastPasses.{IsLastPass, IsOfDossier}
use Rattle.explanations.specs.Sayings.{Explains, IsCause, Says, explanation_at}
use Rattle.explanations.proofs.FullSchools.{beds_taken}
use Rattle.explanations.proofs.CaseByCase.{waits_else, when_barred, when_gone, when_live, when_seatless}
use Rattle.explanations.proofs.Seatless.{finds_none}

module _ (last : LastPass) (stamp : Stamp) (of_dossier : IsOfDossier last) (valid : IsValid last.opening.dossier)
    (greatest : IsGreatest (boarding last.opening last.orders last.ceilings) last.bars)
    (none : IsTrue (frees_nothing (freed_after last.opening last.orders last.bars stamp))) where
  abbrev o : State
  o = last.opening

  abbrev night : State
  night = closing last.opening last.orders last.bars stamp

  -- a bar at its ceiling, or below it and the school full
  cause_is : (h : ℕ) → h < length o.dossier.schools → IsCause last night h (cause_of last h)
  cause_is h there =
      let bar = slice_index last.bars h in
      let ceiling = slice_index last.ceilings h in
      elim (cases_eq bar ceiling) [
        | inl same ↦
            let e : cause_of last h ≡ Ceiling = rw (eq-eqb bar ceiling same) refl in
            subst (IsCause last night h) (sym e) same
        | inr differ ↦
            let e : cause_of last h ≡ Full (beds_of o.dossier h) = rw (ne_eqb bar ceiling differ) refl in
            let fell : bar < ceiling = omega (arith, differ, greatest.fits.under_ceilings.each h) in
            let full = lowered_for_beds o last.orders last.ceilings last.bars stamp valid greatest h fell in
            subst (IsCause last night h) (sym e)
            (record {
              all_beds = refl;
              fell = fell;
              taken = beds_taken o last.orders last.bars stamp none h there full;
            })
      ]

  module _ (long : length o.marks ≡ length o.dossier.wishes) (k : ℕ) (lt : k < length o.dossier.wishes) where
    abbrev w : Wish
    w = wish_in o.dossier.wishes k

    abbrev m : Mark
    m = mark_in o.marks k

    abbrev now : Mark
    now = mark_in night.marks k

    barred_says : (school : Option ℕ) → w.school ≡ school
        → is_behind_bar o last.bars w school ≡ true
        → Says last night w (barred_at last w.board_rank school)
    barred_says None is t = absurd (false≢true t)
    barred_says (Some h) is t =
        let parts = and_parts (not (holds_bed o w.candidate h)) (nat_lt (slice_index last.bars h) w.board_rank) t in
        let behind = ltb-true (slice_index last.bars h) w.board_rank parts.1 in
        let has : has_school w h ≡ true = rw is (eq-eqb h h refl) in
        let at = ap (λ (es : List (Wish × Mark)). get_or es k (w, m)) (entries_by_place o long)
        ∙ get_or-map-range_with_len (entry_in o) 0 (length o.dossier.wishes) k k (w, m) lt (zero-add k) in
        let there : h < length o.dossier.schools = (wish_valid o.dossier valid k lt).school h is in
        let within : k < length (entries o) = omega (arith, length-zip o.dossier.wishes o.marks, long, lt) in
        record {
          school = is;
          there = there;
          behind = behind;
          bedless = no_bed o last.orders last.bars stamp valid k (w, m) within at h has parts.0 behind;
          because = cause_is h there;
        }

    now_is : now ≡ answer o last.orders last.bars stamp w (offer o last.orders last.bars stamp w m)
    now_is =
        let offers = offer o last.orders last.bars stamp in
        let answers = answer o last.orders last.bars stamp in
        let mid = after_offers o last.orders last.bars stamp in
        let as_long = length-with_marks offers o long in
        let in_o : k < length o.marks = omega (arith, long, lt) in
        let in_mid : k < length mid.marks = omega (arith, as_long, long, lt) in
        mark_in-with_marks answers mid (as_long ∙ long) k in_mid
        ∙ ap (answers w) (mark_in-with_marks offers o long k in_o)

    seatless_says : is_waiting now ≡ true → is_barred o last.bars w m ≡ false → Says last night w (no_seat last w)
    seatless_says waits not_barred =
        let answered = ap is_waiting (sym now_is) ∙ waits in
        let still = waits_still stamp (is_proposed o last.orders last.bars w m) m
        (auto_waits stamp (best_live (after_offers o last.orders last.bars stamp) w.candidate) w
        (offer o last.orders last.bars stamp w m) answered) in
        let opens = and_from (is_waiting m) (not (is_barred o last.bars w m)) still.1
        (not_from_false (is_barred o last.bars w m) not_barred) in
        finds_none o last.orders last.bars stamp w m valid of_dossier.called none
        (wish_valid o.dossier valid k lt).programme opens still.0

    pub said_at_night : Says last night w (explanation last now w m)
    said_at_night =
        let P = Says last night w in
        elim (cases_Bool (is_gone now)) [
          | inl gone ↦ subst P (sym (when_gone last now w m gone)) tt
          | inr not_gone ↦ elim (cases_Bool (is_live now)) [
            | inl live ↦ subst P (sym (when_live last now w m live)) tt
            | inr not_live ↦
                let waits = waits_else (is_live now) (is_waiting now) not_gone not_live in
                elim (cases_Bool (is_barred o last.bars w m)) [
                  | inl barred ↦
                      subst P (sym (when_barred last now w m not_live waits barred))
                      (barred_says w.school refl (and_parts (is_waiting m)
                      (is_behind_bar o last.bars w w.school) barred).1)
                  | inr not_barred ↦ subst P (sym (when_seatless last now w m not_live waits not_barred))
                      (seatless_says waits not_barred)
                ]
          ]
        ]

-- the last pass leaves the dossier
pub same_dossier : (last : LastPass) (evening : State) → IsLastPass last evening
    → evening.dossier ≡ last.opening.dossier
same_dossier last evening is = ap (λ (s : State). s.dossier) is.leaves

pub said : (last : LastPass) (evening : State) → IsLastPass last evening → IsValid evening.dossier
    → length last.opening.marks ≡ length last.opening.dossier.wishes
    → (k : ℕ) → k < length evening.dossier.wishes
    → Says last evening (wish_in evening.dossier.wishes k) (explanation_at last evening k)
said last evening is valid long k lt =
    let same = same_dossier last evening is in
    let P : State → Type 0 = λ s. Says last s (wish_in s.dossier.wishes k) (explanation_at last s k) in
    subst P (sym is.leaves)
    (said_at_night last is.stamp is.of_dossier (subst IsValid same valid) is.greatest is.freed_none
    long k (subst (λ (d : DossierRows). k < length d.wishes) same lt))

-- the case of a wish by its mark of the evening
pub explains_so : (last : LastPass) (evening : State) → IsLastPass last evening
    → IsValid evening.dossier → length last.opening.marks ≡ length last.opening.dossier.wishes
    → (k : ℕ) → k < length evening.dossier.wishes → (mark : Mark) (x : Explanation) → mark ≡ mark_in evening.marks k
    → x ≡ explanation last mark (wish_in last.opening.dossier.wishes k) (mark_in last.opening.marks k)
    → Explains last evening k x
explains_so last evening is valid long k lt mark x mark_is x_is =
    let was = mark_in last.opening.marks k in
    let same = same_dossier last evening is in
    let case_is : x ≡ explanation_at last evening k =
    x_is
    ∙ ap (λ (n : Mark). explanation last n (wish_in last.opening.dossier.wishes k) was) mark_is
    ∙ ap (λ (d : DossierRows). explanation last (mark_in evening.marks k) (wish_in d.wishes k) was) (sym same) in
    record {
      is_case = case_is;
      says = subst (Says last evening (wish_in evening.dossier.wishes k))
          (sym case_is) (said last evening is valid long k lt);
    }

-- the same of what equals the pass and the evening
pub explains_there : (one last : LastPass) (night evening : State) (k : ℕ) (x : Explanation)
    → one ≡ last → night ≡ evening → Explains one night k x → Explains last evening k x
explains_there one last night evening k x one_is night_is explains =
    let by_pass = subst (λ (l : LastPass). Explains l night k x) one_is explains in
    subst (λ (s : State). Explains last s k x) night_is by_pass
