-- The laws of automatic answers.
use Rattle.std.proofs.Common.{ℕ, ◌≡◌, length, inl, inr, refl, sym, ◌∙◌, ap, arith}
use Rattle.std.proofs.lemmas.Bool.{cases_eq}
use Rattle.admit_core.specs.DossierRows.{DossierRows}
use Rattle.admit_core.specs.State.{State}
use Rattle.admit_core.specs.AutoAnswer.{auto_one, auto_all}
use Rattle.day_state.proofs.Along.{length-with_marks, same_state, same_marks}
use Rattle.day_state.proofs.Independence.{Agrees, agrees_self}
use Rattle.day_state.proofs.OneAccepted.{who}
use Rattle.day_state.proofs.Places.{candidate_in}
use Rattle.auto_answer.specs.Laws.{SameOwnMarks, OwnWishesDecide, MayBeExchanged, AllIsEachAlone}
use Rattle.auto_answer.proofs.Answering.{one_mark, turned, joined, one_other, one_both, one_as_all, all_both}

-- the same own marks, by the two ways to say whose a wish is
pub agrees : (c : ℕ) (s t : State) → length s.marks ≡ length s.dossier.wishes
    → length t.marks ≡ length t.dossier.wishes → SameOwnMarks c s t → Agrees c s t
agrees c s t long long_too same = record {
  dossier = same.dossier;
  long = long;
  long_too = long_too ∙ ap (λ (d : DossierRows). length d.wishes) same.dossier;
  same = λ k lt own. same.each k lt (candidate_in s.dossier.wishes k ∙ own);
}

pub same_own : (c : ℕ) (s t : State) → Agrees c s t → SameOwnMarks c s t
same_own c s t a = record {
  dossier = a.dossier;
  each = λ k lt own. a.same k lt (sym (candidate_in s.dossier.wishes k) ∙ own);
}

pub own_wishes_decide : OwnWishesDecide
own_wishes_decide c s t stamp long long_too same =
    same_own c (auto_all s stamp) (auto_all t stamp) (all_both c s t stamp (agrees c s t long long_too same))

pub all_is_each_alone : AllIsEachAlone
all_is_each_alone c s stamp long = same_own c (auto_one s c stamp) (auto_all s stamp) (one_as_all c s stamp long)

-- states that agree for each candidate are one
pub all_agree : (s t : State) → ((c : ℕ) → Agrees c s t) → s ≡ t
all_agree s t each =
    let a = each 0 in
    same_state s t (sym a.dossier) (same_marks s.marks t.marks (a.long ∙ sym a.long_too)
    (λ k lt. (each (who s k)).same k (omega (arith, a.long)) refl))

pub may_be_exchanged : MayBeExchanged
may_be_exchanged c d s stamp long differ =
    let one = auto_one s c stamp in
    let other = auto_one s d stamp in
    let self = λ (x : ℕ). agrees_self x s long in
    all_agree (auto_one one d stamp) (auto_one other c stamp) (λ x.
    elim (cases_eq d x) [
      | inl is_d ↦
          let left : Agrees x (auto_one one x stamp) (auto_one s x stamp) =
          one_both x one s stamp (one_other x c s s stamp (λ e. differ (e ∙ sym is_d)) (self x)) in
          let right : Agrees x (auto_one (auto_one s x stamp) c stamp) (auto_one s x stamp) =
          one_other x c (auto_one s x stamp) (auto_one s x stamp) stamp (λ e. differ (e ∙ sym is_d))
          (agrees_self x (auto_one s x stamp) (length-with_marks (one_mark s x stamp) s long ∙ long)) in
          rw is_d (joined x (auto_one one x stamp) (auto_one s x stamp) (auto_one (auto_one s x stamp) c stamp) left
          (turned x (auto_one (auto_one s x stamp) c stamp) (auto_one s x stamp) right))
      | inr not_d ↦
          let first : Agrees x (auto_one one d stamp) one =
          one_other x d one one stamp not_d
          (agrees_self x one (length-with_marks (one_mark s c stamp) s long ∙ long)) in
          elim (cases_eq c x) [
            | inl is_c ↦
                let back : Agrees x one (auto_one other c stamp) =
                rw is_c (one_both x s other stamp (turned x other s (one_other x d s s stamp not_d (self x)))) in
                joined x (auto_one one d stamp) one (auto_one other c stamp) first back
            | inr not_c ↦
                let to_start : Agrees x one s = one_other x c s s stamp not_c (self x) in
                let from_start : Agrees x (auto_one other c stamp) s =
                one_other x c other s stamp not_c (one_other x d s s stamp not_d (self x)) in
                joined x (auto_one one d stamp) one (auto_one other c stamp) first
                (joined x one s (auto_one other c stamp) to_start (turned x (auto_one other c stamp) s from_start))
          ]
    ])
