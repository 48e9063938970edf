-- Of each wish exactly one explanation holds.
use Rattle.std.proofs.Common.{ℕ, ◌≡◌, true, false, inl, inr, refl, sym, ◌∙◌, ap, subst, Option, Some, None}
use Rattle.std.proofs.lemmas.Bool.{and_parts, cases_Bool, false≢true, not-true, not_from_false}
use Rattle.admit_core.specs.declared.dossier.Wish.{Wish}
use Rattle.admit_core.specs.declared.explanation.Explanation.{Explanation}
use Rattle.admit_core.specs.declared.explanation.Explanation.TheVariants.{Gone, Live, Barred, NoSeat}
use Rattle.admit_core.specs.declared.state.Mark.{Mark}
use Rattle.admit_core.specs.declared.state.Status.{Status}
use Rattle.admit_core.specs.declared.state.Status.TheVariants.{Waiting, Offered, Accepted, Refused, Withdrawn, Quit}
use Rattle.admit_core.specs.declared.state.Status.TheVariants.{AutoRefused, AutoWithdrawn, Lapsed}
use Rattle.admit_core.specs.State.{is_gone, is_live, is_waiting}
use Rattle.admit_core.specs.Proposals.{is_barred, is_behind_bar}
use Rattle.admit_core.specs.Explanations.{LastPass, barred_at, explanation}
use Rattle.explain.specs.Laws.{EachHasOne, IsExplanation}
use Rattle.explanations.proofs.CaseByCase.{waits_else, when_barred, when_gone, when_live, when_seatless}

waits_not_live : (status : Status)
    → is_waiting (record { status = status; stamp = record { day = 0; pass = 0 } }) ≡ true
    → is_live (record { status = status; stamp = record { day = 0; pass = 0 } }) ≡ false
waits_not_live Waiting t = refl
waits_not_live Offered t = absurd (false≢true t)
waits_not_live Accepted t = absurd (false≢true t)
waits_not_live Refused t = absurd (false≢true t)
waits_not_live Withdrawn t = absurd (false≢true t)
waits_not_live Quit t = absurd (false≢true t)
waits_not_live AutoRefused t = absurd (false≢true t)
waits_not_live AutoWithdrawn t = absurd (false≢true t)
waits_not_live Lapsed t = absurd (false≢true t)

module _ (last : LastPass) (now : Mark) (w : Wish) (m : Mark) where
  barred_holds : (school : Option ℕ) → w.school ≡ school → is_live now ≡ false
      → is_waiting now ≡ true → is_barred last.opening last.bars w m ≡ true
      → IsExplanation last now w m (explanation last now w m)
  barred_holds None is not_live waits barred =
      let behind = (and_parts (is_waiting m) (is_behind_bar last.opening last.bars w w.school) barred).1 in
      absurd (false≢true (sym (ap (is_behind_bar last.opening last.bars w) is) ∙ behind))
  barred_holds (Some h) is not_live waits barred =
      let e = when_barred last now w m not_live waits barred ∙ ap (barred_at last w.board_rank) is in
      subst (IsExplanation last now w m) (sym e) (
        record {
          waits = waits;
          barred = barred;
          school = is;
          own_rank = refl;
          own_bar = refl;
        },
        refl,
      )

  holds : IsExplanation last now w m (explanation last now w m)
  holds =
      let P = IsExplanation last now w m in
      elim (cases_Bool (is_gone now)) [
        | inl gone ↦ subst P (sym (when_gone last now w m gone)) (gone, refl)
        | inr not_gone ↦ elim (cases_Bool (is_live now)) [
          | inl live ↦ subst P (sym (when_live last now w m live)) (live, refl)
          | inr not_live ↦
              let waits = waits_else (is_live now) (is_waiting now) not_gone not_live in
              elim (cases_Bool (is_barred last.opening last.bars w m)) [
                | inl barred ↦ barred_holds w.school refl not_live waits barred
                | inr not_barred ↦
                    subst P (sym (when_seatless last now w m not_live waits not_barred))
                    (record {
                      waits = waits;
                      not_barred = not_from_false
                          (is_barred last.opening last.bars w m) not_barred;
                      numbers = refl;
                    })
              ]
        ]
      ]

  alone : (x : Explanation) → IsExplanation last now w m x → x ≡ explanation last now w m
  alone (Gone status stamp) is = ap (λ (n : Mark). Gone n.status n.stamp) (sym is.1) ∙ sym (when_gone last now w m is.0)
  alone (Live status stamp) is = ap (λ (n : Mark). Live n.status n.stamp) (sym is.1) ∙ sym (when_live last now w m is.0)
  alone (Barred h rank bar cause) is =
      let b = is.0 in
      let same : Barred h rank bar cause ≡ barred_at last w.board_rank (Some h) =
      rw (b.own_rank, b.own_bar, is.1) refl in
      same ∙ ap (barred_at last w.board_rank) (sym b.school)
      ∙ sym (when_barred last now w m (waits_not_live now.status b.waits) b.waits
      b.barred)
  alone (NoSeat ahead left position limit) is =
      is.numbers ∙ sym (when_seatless last now w m (waits_not_live now.status is.waits) is.waits
      (not-true (is_barred last.opening last.bars w m) is.not_barred))

pub each_has_one : EachHasOne
each_has_one last now w m x = (
  alone last now w m x,
  λ e. subst (IsExplanation last now w m) (sym e)
      (holds last now w m),
)
