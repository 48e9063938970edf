-- Candidates are asked at their live wishes, and who has none is not changed.
use Rattle.std.proofs.Common.{ℕ, ◌+◌, ◌≤◌, ◌<◌, ◌^◌, ◌≡◌, cond, true, false, ◌&&◌, ◌||◌, List, [], ◌∷◌, ◌++◌}
use Rattle.std.proofs.Common.{length, inl, inr, refl, sym, ◌∙◌, ap, arith, nat_eq, zip, Option, Some, None}
use Rattle.std.specs.Prelude.{◌==◌, nat_lt}
use Rattle.std.proofs.lemmas.Bool.{cases_Bool, cases_eq, eqb-true, or_left, and_parts, and_from, false≢true}
use Rattle.admit_core.specs.declared.dossier.Wish.{Wish}
use Rattle.admit_core.specs.declared.state.Mark.{Mark}
use Rattle.admit_core.specs.declared.state.Stamp.{Stamp}
use Rattle.admit_core.specs.declared.state.Freed.{Freed}
use Rattle.admit_core.specs.DossierRows.{DossierRows, candidate_of}
use Rattle.admit_core.specs.Lists.{is_among}
use Rattle.admit_core.specs.State.{State, is_live}
use Rattle.admit_core.specs.AutoAnswer.{best_live, auto_one, auto_all, freed_by, freed}
use Rattle.day_state.specs.Kept.{mark_in, wish_in}
use Rattle.day_state.proofs.OneAccepted.{who}
use Rattle.day_state.proofs.Places.{candidate_in}
use Rattle.auto_answer.specs.AnsweredAt.{IsCount, answered_at, asked_at, freed_asked, freed_at, freed_with}
use Rattle.auto_answer.specs.AnsweredAt.{is_live_ranked}
use Rattle.auto_answer.proofs.Again.{preference, ranked, least_stands, none_changed}
use Rattle.auto_answer.proofs.Answering.{turned}
use Rattle.auto_answer.proofs.Freeing.{passing_place}
use Rattle.auto_answer.proofs.LawsOfAnswers.{same_own}
use Rattle.auto_answer.proofs.NewOffers.{AreAnswered, answered_nobody, dossier_stays, among_more, among_last, one_more}
use Rattle.auto_answer.proofs.NewOffers.{all_answered, wishes_here, at_start, counts_next}
use Rattle.auto_answer.proofs.OwnMarks.{holds}

-- who has no live wish that they rank has no best one
best_by : (s : State) (c : ℕ) → ((k : ℕ) → k < length s.dossier.wishes → who s k ≡ c → is_live_ranked s k ≡ true → ⊥)
    → (best : Option (Wish × Mark)) → best_live s c ≡ best → best_live s c ≡ None
best_by s c none None is = is
best_by s c none (Some b) is =
    let (k, k_in, k_marks, here) = passing_place (λ x. holds ranked c x && (preference x == preference b))
    s.dossier.wishes s.marks
    (least_stands (holds ranked c) preference (zip s.dossier.wishes s.marks) b is) in
    let w = wish_in s.dossier.wishes k in
    let m = mark_in s.marks k in
    let outer = and_parts (holds ranked c (w, m)) (w.preference == b.0.preference) here in
    let inner = and_parts (is_live m && (w.candidate == c)) (ranked w) outer.0 in
    let first = and_parts (is_live m) (w.candidate == c) inner.0 in
    absurd (none k k_in (eqb-true w.candidate c first.1) (and_from (is_live m) (ranked w) first.0 inner.1))

-- the candidates of the live wishes before a place have been answered for, and nobody who waits has changed
pub record AreAsked (start now : State) (stamp : Stamp) (i : ℕ) (all : Freed) : Type 0 where
  pub asked : List ℕ
  pub answered : AreAnswered start now stamp asked all
  pub each : (k : ℕ) → k < i → is_live_ranked start k ≡ true → is_among (candidate_of start.dossier k) asked ≡ true

pub asked_nobody : (s : State) (stamp : Stamp) → length s.marks ≡ length s.dossier.wishes
    → AreAsked s s stamp 0 (record { seats = 0; beds = 0 })
asked_nobody s stamp long = record {
  asked = [];
  answered = answered_nobody s stamp long;
  each = λ k lt live. absurd (omega (arith, lt));
}

module _ (start now : State) (stamp : Stamp) (i : ℕ) (all : Freed) (so_far : AreAsked start now stamp i all) where
  pub same_rows : now.dossier ≡ start.dossier
  same_rows = dossier_stays start now stamp so_far.asked all so_far.answered

  -- a wish is live at the start where it is now, but for who has been answered for
  still_live : i < length start.dossier.wishes → is_among (candidate_of start.dossier i) so_far.asked ≡ false
      → is_live_ranked start i ≡ is_live_ranked now i
  still_live lt waits =
      let c = candidate_of start.dossier i in
      let agrees = turned c now start (so_far.answered.waits c waits) in
      ap (λ (m : Mark). is_live m && nat_lt 0 (wish_in start.dossier.wishes i).preference)
      (agrees.same i lt (sym (candidate_in start.dossier.wishes i)))
      ∙ ap (λ (d : DossierRows). is_live (mark_in now.marks i) && nat_lt 0 (wish_in d.wishes i).preference)
      (sym same_rows)

  -- a wish that is not live now is passed over
  passed_over : i < length start.dossier.wishes → is_live_ranked now i ≡ false
      → AreAsked start now stamp (i + 1) all
  passed_over lt dead = record {
    asked = so_far.asked;
    answered = so_far.answered;
    each = λ k k_in live. elim (cases_eq k i) [
      | inl is ↦ elim (cases_Bool (is_among (candidate_of start.dossier k) so_far.asked)) [
        | inl some ↦ some
        | inr none ↦
            let waits = ap (λ (j : ℕ). is_among (candidate_of start.dossier j) so_far.asked) (sym is) ∙ none in
            absurd (false≢true (sym dead ∙ sym (still_live lt waits) ∙ ap (is_live_ranked start) (sym is) ∙ live))
      ]
      | inr other ↦ so_far.each k (omega (arith, k_in, other)) live
    ];
  }

  -- the candidate of a wish may be answered for: what is freed fits
  pub counts_there : i < length start.dossier.wishes → length start.dossier.wishes < 2 ^ 32
      → IsCount (freed_at now i stamp all)
  counts_there = counts_next start now stamp so_far.asked i all so_far.answered

  -- the candidate of a live wish is answered for: one more has been asked
  one_asked : (next : State) (own next_all : Freed) → i < length start.dossier.wishes
      → next ≡ auto_one now (candidate_of now.dossier i) stamp → own ≡ freed_by now next (candidate_of now.dossier i)
      → next_all ≡ record { seats = all.seats + own.seats; beds = all.beds + own.beds }
      → AreAsked start next stamp (i + 1) next_all
  one_asked next own next_all lt next_is own_is in_all =
      let x = candidate_of start.dossier i in
      let cs = so_far.asked in
      let (next_here, own_here) = at_start start now next stamp cs i all own so_far.answered next_is own_is in
      record {
        asked = cs ++ x ∷ [];
        answered = rw next_here
            (one_more start now stamp x cs all so_far.answered next_all (wishes_here start.dossier i lt)
            (ap (λ (f : Freed). f.seats) in_all ∙ ap (λ (f : Freed). all.seats + f.seats) own_here)
            (ap (λ (f : Freed). f.beds) in_all ∙ ap (λ (f : Freed). all.beds + f.beds) own_here));
        each = λ k k_in live. elim (cases_eq k i) [
          | inl is ↦ ap (λ (j : ℕ). is_among (candidate_of start.dossier j) (cs ++ x ∷ [])) is ∙ among_last x cs
          | inr other ↦
              let c = candidate_of start.dossier k in
              among_more c x cs
              ∙ or_left (is_among c cs) (nat_eq c x || false) (so_far.each k (omega (arith, k_in, other)) live)
        ];
      }

  -- one more wish has been gone along
  pub asked_here : (next : State) (next_all : Freed) → i < length start.dossier.wishes
      → next ≡ asked_at now i stamp → next_all ≡ freed_asked now i stamp all
      → AreAsked start next stamp (i + 1) next_all
  asked_here next next_all lt next_is all_is =
      let there : State = answered_at now i stamp in
      let own : Freed = freed_by now there (candidate_of now.dossier i) in
      elim (cases_Bool (is_live_ranked now i)) [
        | inl live ↦
            let next_here : next ≡ there = next_is ∙ ap (λ b. cond b there now) live in
            let all_here : next_all ≡ freed_with all own =
            all_is ∙ ap (λ b. cond b (freed_with all own) all) live in
            rw next_here (one_asked there own next_all lt refl refl all_here)
        | inr dead ↦
            let next_here : next ≡ now = next_is ∙ ap (λ b. cond b there now) dead in
            let all_here : next_all ≡ all = all_is ∙ ap (λ b. cond b (freed_with all own) all) dead in
            rw (next_here, all_here) (passed_over lt dead)
      ]

  -- after the last wish all have been answered for
  pub all_asked : length start.dossier.wishes ≤ i
      → (now ≡ auto_all start stamp) × (all ≡ freed start (auto_all start stamp))
  all_asked le =
      all_answered start now stamp so_far.asked all so_far.answered (λ c none.
      same_own c start (auto_all start stamp)
      (none_changed start stamp so_far.answered.long c (best_by start c (λ k lt own live.
      false≢true (sym none ∙ ap (λ (x : ℕ). is_among x so_far.asked) (sym (candidate_in start.dossier.wishes k ∙ own))
      ∙ so_far.each k (omega (arith, lt, le)) live)) (best_live start c) refl)))
