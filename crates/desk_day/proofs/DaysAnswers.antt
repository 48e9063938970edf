-- The answers of a day stand together in the dossier.
use Rattle.std.proofs.Common.{ℕ, ◌+◌, ◌-◌, ◌≤◌, ◌<◌, ◌≡◌, true, false, List, [], ◌∷◌, map, length, take, drop, get_or}
use Rattle.std.proofs.Common.{inl, inr, refl, sym, ◌∙◌, ap, arith, ltb, leb, Option, Some, None, Ok, Err}
use Rattle.std.specs.Prelude.{◌==◌, slice_index}
use Rattle.std.specs.List.{enumerate_from}
use Rattle.std.specs.List.Sorted.{IsPartitionPoint, IsNonDecreasingBy}
use Rattle.std.specs.Option.{IsSomeAnd}
use Rattle.std.proofs.lemmas.Bool.{cases_Bool}
use Rattle.std.proofs.lemmas.List.{length-map, length-take, length-drop, get_or-map, get_or-take, get_or-drop}
use Rattle.std.proofs.lemmas.List.Elements.{All-filter}
use Rattle.std.proofs.lemmas.List.FromFn.{length-enumerate_from, get_or-enumerate_from}
use Rattle.admit_core.specs.declared.dossier.Answer.{Answer}
use Rattle.admit_core.specs.declared.dossier.AnswerKind.TheVariants.{Quit}
use Rattle.admit_core.specs.declared.state.Status.{Status}
use Rattle.admit_core.specs.declared.state.Stamp.{Stamp}
use Rattle.admit_core.specs.DossierRows.{DossierRows}
use Rattle.admit_core.specs.State.{State}
use Rattle.admit_core.specs.Answers.{after, after_all, fits, first_unfit, status_at}
use Rattle.admit_core.specs.Days.{answers_of}
use Rattle.admit_core.specs.Validity.{IsTarget, IsValid}
use Rattle.day_state.specs.declared.day.UnfitAt.{UnfitAt}
use Rattle.day_state.specs.Applied.{refused_at, after_fitting_front}
use Rattle.day_state.proofs.Answering.{dossier_after}
use Rattle.day_state.proofs.Ordering.{between}
use Rattle.day_state.proofs.FittingLists.{front_all}
use Rattle.desk_day.specs.AnswersOn.{places_on, AreAnswersOn, IsApplied, unfit_refusal, refusal_at, answers_stamp}
use Rattle.desk_day.specs.declared.refusal.DayRefusal.{DayRefusal}
use Rattle.desk_day.specs.declared.refusal.DayRefusal.TheVariants as refusals

no_answer : Answer
no_answer = record { day = 0; kind = Quit; target = 0 }

-- THE ANSWERS of a day
pub answers_found : (d : DossierRows) (day from to : ℕ) → IsValid d → from ≤ length d.answers → to ≤ length d.answers
    → IsPartitionPoint (λ (a : Answer). ltb a.day day ≡ true) (λ (a : Answer). ltb a.day day ≡ false) d.answers from
    → IsPartitionPoint (λ (a : Answer). leb a.day day ≡ true) (λ (a : Answer). leb a.day day ≡ false) d.answers to
    → AreAnswersOn d day from (take (to - from) (drop from d.answers))
answers_found d day from to valid from_in to_in lower upper =
    let xs = d.answers in
    let p = λ (a : Answer). a.day == day in
    let (le, span) = between (λ (a : Answer). a.day) xs day from to from_in to_in lower upper in
    let rows = enumerate_from 0 xs in
    let key = λ (x : ℕ × Answer). x.1.day in
    let long : length rows ≡ length xs = length-enumerate_from 0 xs in
    let at : (k : ℕ) (e : ℕ × Answer) → k < length xs → get_or rows k e ≡ (0 + k, get_or xs k e.1) =
    λ k e lt. get_or-enumerate_from 0 xs k e lt in
    let below : (k : ℕ) (e : ℕ × Answer) → k < length rows
    → ltb (key (get_or rows k e)) day ≡ ltb (get_or xs k e.1).day day =
    λ k e lt. ap (λ (x : ℕ × Answer). ltb (key x) day) (at k e (omega (arith, long, lt))) in
    let until : (k : ℕ) (e : ℕ × Answer) → k < length rows
    → leb (key (get_or rows k e)) day ≡ leb (get_or xs k e.1).day day =
    λ k e lt. ap (λ (x : ℕ × Answer). leb (key x) day) (at k e (omega (arith, long, lt))) in
    let span_rows = (between key rows day from to (omega (arith, long, from_in)) (omega (arith, long, to_in)) (
      λ k e low high. below k e (omega (arith, long, high, from_in)) ∙ lower.0 k e.1 low high,
      λ k e low high. below k e high ∙ lower.1 k e.1 low (omega (arith, long, high)),
    ) (
      λ k e low high. until k e (omega (arith, long, high, to_in)) ∙ upper.0 k e.1 low high,
      λ k e low high. until k e high ∙ upper.1 k e.1 low (omega (arith, long, high)),
    )).1 in
    let count : length (take (to - from) (drop from xs)) ≡ to - from = omega
    (arith, length-take (to - from) (drop from xs), length-drop from xs) in
    record {
      all = span;
      place = λ k lt.
          let k_in : k < to - from = omega (arith, count) in
          let e : ℕ × Answer = (0, no_answer) in
          let ys = take (to - from) (drop from rows) in
          ap (λ (l : List (ℕ × Answer)). slice_index (map (λ (x : ℕ × Answer). x.0) l) k) (sym span_rows)
          ∙ get_or-map (λ (x : ℕ × Answer). x.0) ys k e 0 (omega (
            arith,
            length-take (to - from) (drop from rows),
            length-drop from rows,
            long,
          ))
          ∙ ap (λ (x : ℕ × Answer). x.0) (get_or-take (to - from) (drop from rows) k e k_in ∙ get_or-drop from rows k e
          ∙ at (from + k) e (omega arith))
          ∙ zero_plus (from + k);
      targets = rw span (All-filter p (λ (a : Answer). IsTarget d a.kind a.target) xs
          (λ k a lt. (valid.answers k a lt).target));
      few = omega (arith, count, valid.size.answers);
    }
  where
    zero_plus : (n : ℕ) → 0 + n ≡ n
    zero_plus n = omega arith

-- the first answer that does not fit is one of the list
index_within : (k : ℕ) (s : State) (stamp : Stamp) (answers : List Answer) (x : ℕ × Status)
    → first_unfit k s stamp answers ≡ Some x
    → (k ≤ x.0) × (x.0 < k + length answers)
index_within k s stamp [] x e = absurd (cc)
index_within k s stamp (a ∷ rest) x e =
    elim (cases_Bool (fits s a)) [
      | inl fit ↦ let later = index_within (k + 1) (after s stamp a) stamp rest x
          (rw fit at e) in (omega (arith, later.0), omega (arith, later.1))
      | inr unfit ↦
          let found : Some (k, status_at s a.target) ≡ Some x = rw unfit at e in
          let same : k ≡ x.0 = ap (λ (o : Option (ℕ × Status)). index_of o) found in
          (omega arith, omega arith)
    ]
  where
    index_of : Option (ℕ × Status) → ℕ
    index_of None = 0
    index_of (Some y) = y.0

some_refused : (o : Option (ℕ × Status)) (u : UnfitAt) → Err u ≡ refused_at o
    → (x : ℕ × Status) × (o ≡ Some x) × (u.index ≡ x.0) × (u.status ≡ x.1)
some_refused None u e = absurd (cc)
some_refused (Some x) u e =
    let same : u ≡ record { index = x.0; status = x.1 } = (cc) in
    (x, refl, ap (λ (v : UnfitAt). v.index) same, ap (λ (v : UnfitAt). v.status) same)

some_and : (o : Option (ℕ × Status)) (x : ℕ × Status) (P : ℕ × Status → Type 0) → o ≡ Some x → P x → IsSomeAnd o P
some_and o x P e h = rw e h

refused_there : (d : DossierRows) (day first : ℕ) (x : ℕ × Status) (index : ℕ) (status : Status) (refusal : DayRefusal)
    → slice_index (places_on d day) x.0 ≡ first + x.0 → index ≡ x.0 → status ≡ x.1
    → refusal ≡ refusals.Unfit (refusal_at (first + index) status) → refusal ≡ refusals.Unfit (unfit_refusal d day x)
refused_there d day first x index status refusal place index_is status_is is =
    is ∙ rw (index_is, status_is) (ap (λ k. refusals.Unfit (refusal_at k x.1)) (sym place))

-- what an unfit answer leads to
pub unfit_applied : (s t : State) (day first : ℕ) (answers : List Answer) (u : UnfitAt) (refusal : DayRefusal)
    → AreAnswersOn s.dossier day first answers
    → Err u ≡ refused_at (first_unfit 0 s (answers_stamp day) answers)
    → refusal ≡ refusals.Unfit (refusal_at (first + u.index) u.status)
    → IsApplied s day (Err refusal) t
unfit_applied s t day first answers u refusal are e is =
    let d = s.dossier in
    let found = some_refused (first_unfit 0 s (answers_stamp day) answers) u e in
    let x = found.0 in
    let here : first_unfit 0 s (answers_stamp day) (answers_of d day) ≡ Some x = ap
    (λ (l : List Answer). first_unfit 0 s (answers_stamp day) l) (sym are.all) ∙ found.1 in
    let within = index_within 0 s (answers_stamp day) answers x found.1 in
    some_and (first_unfit 0 s (answers_stamp day) (answers_of d day)) x
    (λ y. refusal ≡ refusals.Unfit (unfit_refusal d day y)) here
    (refused_there d day first x u.index u.status refusal (are.place x.0 (omega (arith, within.1))) found.2 found.3 is)

none_refused : (o : Option (ℕ × Status)) → Ok tt ≡ refused_at o → o ≡ None
none_refused None e = refl
none_refused (Some x) e = absurd (cc)

-- what fitting answers lead to
pub fit_applied : (s t : State) (day first : ℕ) (answers : List Answer) → AreAnswersOn s.dossier day first answers
    → Ok tt ≡ refused_at (first_unfit 0 s (answers_stamp day) answers)
    → t ≡ after_fitting_front s (answers_stamp day) answers
    → IsApplied s day (Ok tt) t
fit_applied s t day first answers are e end =
    let none = none_refused (first_unfit 0 s (answers_stamp day) answers) e in (
      ap (λ (l : List Answer). first_unfit 0 s (answers_stamp day) l) (sym are.all) ∙ none,
      end ∙ front_all 0 s (answers_stamp day) answers none
          ∙ ap (λ (l : List Answer). after_all s (answers_stamp day) l) are.all,
    )

-- the dossier stays
pub front_dossier : (s : State) (stamp : Stamp) (answers : List Answer)
    → (after_fitting_front s stamp answers).dossier ≡ s.dossier
front_dossier s stamp [] = refl
front_dossier s stamp (a ∷ rest) =
    elim (cases_Bool (fits s a)) [
      | inl fit ↦ rw fit (front_dossier (after s stamp a) stamp rest ∙ dossier_after s stamp a.kind a.target)
      | inr unfit ↦ rw unfit refl
    ]

-- a dossier's answers are in the order of their days
pub by_day : (d : DossierRows) → IsValid d → IsNonDecreasingBy (λ (a : Answer). a.day) d.answers
by_day d valid i j a le lt =
    let xs = d.answers in
    let day = λ (x : Answer). x.day in
    let rises = valid.answers_by_day i j 0 le (omega (arith, length-map xs day)) in
    omega (arith, rises, get_or-map day xs i a 0 (omega arith), get_or-map day xs j a 0 lt)
