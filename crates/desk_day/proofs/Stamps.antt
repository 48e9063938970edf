-- The marks of an evening have stamps of its day, or of the evening before.
use Rattle.std.proofs.Common.{ℕ, ◌+◌, ◌≤◌, Bool, true, false, List, [], ◌∷◌, Option, None, Some, All, arith, inl, inr}
use Rattle.std.proofs.Common.{map, subst, sym}
use Rattle.std.specs.Prelude.{ℤ, zip, ◌==◌, ◌&&◌, ◌||◌, nat_lt, if◌then◌else◌}
use Rattle.std.proofs.lemmas.List.Elements.{All-cons, All-head, All-nil, All-set, All-tail}
use Rattle.std.proofs.lemmas.Option.{slice_get_cases}
use Rattle.admit_core.specs.Answers.{after_all, after_kind, candidate_at, mark_at, refuse_live}
use Rattle.admit_core.specs.AutoAnswer.{auto_mark, auto_status, best_live}
use Rattle.admit_core.specs.Days.{IsDay, Passes, after_lapse, answers_of, closing, morning, offered}
use Rattle.admit_core.specs.Lapses.{lapses}
use Rattle.admit_core.specs.Proposals.{is_proposed}
use Rattle.admit_core.specs.State.{State, changed_to, is_live, is_waiting, status_number}
use Rattle.admit_core.specs.declared.dossier.Answer.{Answer}
use Rattle.admit_core.specs.declared.dossier.AnswerKind.{AnswerKind}
use Rattle.admit_core.specs.declared.dossier.AnswerKind.TheVariants as kinds
use Rattle.admit_core.specs.declared.dossier.Wish.{Wish}
use Rattle.admit_core.specs.declared.ranking.CallOrder.{CallOrder}
use Rattle.admit_core.specs.declared.records.DayRecord.{DayRecord}
use Rattle.admit_core.specs.declared.records.PassEnd.{PassEnd}
use Rattle.admit_core.specs.declared.records.Terms.{Terms}
use Rattle.admit_core.specs.declared.state.Mark.{Mark}
use Rattle.admit_core.specs.declared.state.Stamp.{Stamp}
use Rattle.admit_core.specs.declared.state.Status.{Status}
use Rattle.admit_core.specs.declared.state.Status.TheVariants as statuses
use Rattle.desk_day.specs.RunDay.{IsStampedBy, KeepsStamps}

module _ (last : ℕ) where
  either : (b : Bool) (x y : Mark) → IsStampedBy last x → IsStampedBy last y → IsStampedBy last (if b then x else y)
  either true x y one other = one
  either false x y one other = other

  changed : (status : Status) (stamp : Stamp) (m : Mark) → stamp.day ≤ last → IsStampedBy last m
      → IsStampedBy last (changed_to status stamp m)
  changed status stamp m new old = either (status_number m.status == status_number status) m
      (record { status = status; stamp = stamp }) old
      new

  -- marks that are made of marks and of what stands beside them
  marks_made : {A : Type 0} (f : A → Mark → Mark) (xs : List A) (ms : List Mark)
      → ((x : A) (m : Mark) → IsStampedBy last m → IsStampedBy last (f x m)) → All (IsStampedBy last) ms
      → All (IsStampedBy last) (map (λ (x, m). f x m) (zip xs ms))
  marks_made f [] ms each all = All-nil (IsStampedBy last)
  marks_made f (x ∷ xs) [] each all = All-nil (IsStampedBy last)
  marks_made f (x ∷ xs) (m ∷ ms) each all =
      All-cons (IsStampedBy last) (f x m) _ (each x m (All-head (IsStampedBy last) m ms all))
      (marks_made f xs ms each (All-tail (IsStampedBy last) m ms all))

  mark_stamped : (s : State) (place : ℕ) → All (IsStampedBy last) s.marks → IsStampedBy last (mark_at s place)
  mark_stamped s place all =
      elim ((slice_get_cases s.marks place).1) [
        | inl found ↦ rw found.2 (subst (IsStampedBy last) found.3 (all place found.0 found.1))
        | inr none ↦ rw none.1 (omega arith)
      ]

  module _ (stamp : Stamp) (now : stamp.day ≤ last) where
    after_one : (kind : AnswerKind) (s : State) (place : ℕ) → All (IsStampedBy last) s.marks
        → All (IsStampedBy last) (after_kind kind s place stamp).marks
    after_one kinds.Accept s place all =
        All-set (IsStampedBy last) (refuse_live s (candidate_at s place) stamp).marks place
        (changed_to statuses.Accepted stamp (mark_at s place))
        (changed statuses.Accepted stamp (mark_at s place) now (mark_stamped s place all))
        (marks_made (λ (w : Wish) (m : Mark). if is_live m
        && (w.candidate == candidate_at s place) then changed_to statuses.Refused stamp m
        else m) s.dossier.wishes s.marks
        (λ w m old. either (is_live m && (w.candidate == candidate_at s place)) _ m
        (changed statuses.Refused stamp m now old) old) all)
    after_one kinds.Refuse s place all =
        All-set (IsStampedBy last) s.marks place (changed_to statuses.Refused stamp (mark_at s place))
        (changed statuses.Refused stamp (mark_at s place) now (mark_stamped s place all)) all
    after_one kinds.Withdraw s place all =
        All-set (IsStampedBy last) s.marks place (changed_to statuses.Withdrawn stamp (mark_at s place))
        (changed statuses.Withdrawn stamp (mark_at s place) now (mark_stamped s place all)) all
    after_one kinds.Quit s c all =
        marks_made (λ (w : Wish) (m : Mark). if (is_live m || is_waiting m)
        && (w.candidate == c) then changed_to statuses.Quit stamp m
        else m) s.dossier.wishes s.marks
        (λ w m old. either ((is_live m || is_waiting m) && (w.candidate == c)) _ m
        (changed statuses.Quit stamp m now old) old) all

    after_each : (s : State) (answers : List Answer) → All (IsStampedBy last) s.marks
        → All (IsStampedBy last) (after_all s stamp answers).marks
    after_each s [] all = all
    after_each s (a ∷ rest) all = after_each (after_kind a.kind s a.target stamp) rest (after_one a.kind s a.target all)

    auto_stamped : (best : Option (Wish × Mark)) (w : Wish) (m : Mark) → IsStampedBy last m
        → IsStampedBy last (auto_mark stamp best w m)
    auto_stamped None w m old = old
    auto_stamped (Some best) w m old =
        changed (auto_status m.status (w.preference == best.0.preference) (nat_lt best.0.preference w.preference)) stamp
        m now old

    after_pass : (s : State) (orders : List CallOrder) (bars : List ℕ) → All (IsStampedBy last) s.marks
        → All (IsStampedBy last) (closing s orders bars stamp).marks
    after_pass s orders bars all =
        let o = offered s orders bars stamp in
        marks_made (λ (w : Wish) (m : Mark). auto_mark stamp (best_live o w.candidate) w m) o.dossier.wishes o.marks
        (λ w m old. auto_stamped (best_live o w.candidate) w m old)
        (marks_made (λ (w : Wish) (m : Mark). if is_proposed s orders bars w m then changed_to statuses.Offered stamp
        m else m)
        s.dossier.wishes s.marks
        (λ w m old. either (is_proposed s orders bars w m) _ m (changed statuses.Offered stamp m now old) old) all)

  after_passes : (orders : List CallOrder) (ceilings : List ℕ) (day k : ℕ) (s : State) (passes : List PassEnd)
      (evening : State)
      → day ≤ last
      → Passes orders ceilings day k s passes evening → All (IsStampedBy last) s.marks
      → All (IsStampedBy last) evening.marks
  after_passes orders ceilings day k s [] evening within p all = absurd p
  after_passes orders ceilings day k s (pass ∷ []) evening within p all =
      subst (λ (e : State). All (IsStampedBy last) e.marks) (sym p.2)
      (after_pass (record { day = day; pass = k }) within s orders
      pass.pass.bars all)
  after_passes orders ceilings day k s (pass ∷ next ∷ rest) evening within p all =
      let stamp : Stamp = record { day = day; pass = k } in
      after_passes orders ceilings day (k + 1) (closing s orders pass.pass.bars stamp) (next ∷ rest) evening within p.2
      (after_pass stamp within s orders pass.pass.bars all)

  after_lapses : (terms : Option Terms) (day : ℕ) (s : State) → day ≤ last → All (IsStampedBy last) s.marks
      → All (IsStampedBy last) (after_lapse terms day s).marks
  after_lapses None day s within all = all
  after_lapses (Some terms) day s within all =
      let stamp : Stamp = record { day = day; pass = 0 } in
      marks_made (λ (before : ℤ) (m : Mark). if lapses terms.term day before m then changed_to statuses.Lapsed stamp
      m else m) terms.before
      s.marks
      (λ before m old. either (lapses terms.term day before m) _ m (changed statuses.Lapsed stamp m within old) old) all

  -- a day of the campaign
  pub after_day : (terms : Option Terms) (orders : List CallOrder) (ceilings : List ℕ) (old : State) (day : DayRecord)
      (evening : State)
      → day.day ≤ last
      → IsDay terms orders ceilings old day evening → All (IsStampedBy last) old.marks
      → All (IsStampedBy last) evening.marks
  after_day terms orders ceilings old day evening within is all =
      after_passes orders ceilings day.day 1 (morning terms day.day old) day.passes evening within is.passes
      (after_each (record { day = day.day; pass = 0 }) within (after_lapse terms day.day old)
      (answers_of old.dossier day.day)
      (after_lapses terms day.day old within all))

pub stamps_kept : (terms : Option Terms) (orders : List CallOrder) (ceilings : List ℕ) (old : State) (day : DayRecord)
    (evening : State)
    → IsDay terms orders ceilings old day evening → KeepsStamps day.day old evening
stamps_kept terms orders ceilings old day evening is last within all =
    after_day last terms orders ceilings old day evening within is all
