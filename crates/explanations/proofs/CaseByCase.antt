-- What an explanation is, case by case.
use Rattle.std.proofs.Common.{◌≡◌, Bool, None, true, false, not, ◌||◌, refl, sym}
use Rattle.std.proofs.lemmas.Bool.{false≢true}
use Rattle.admit_core.specs.declared.dossier.Wish.{Wish}
use Rattle.admit_core.specs.declared.explanation.Explanation.TheVariants.{Gone, Live}
use Rattle.admit_core.specs.declared.state.Mark.{Mark}
use Rattle.admit_core.specs.State.{is_gone, is_live, is_waiting}
use Rattle.admit_core.specs.Proposals.{is_barred}
use Rattle.admit_core.specs.Explanations.{LastPass, barred_at, explanation, no_seat}
use Rattle.admit_core.proofs.Plain.{and_false}
use Rattle.explanations.specs.Sayings.{waiting_case}

-- neither gone nor live is a wish that waits
pub waits_else : (live waits : Bool) → not (live || waits) ≡ false → live ≡ false → waits ≡ true
waits_else true waits not_gone not_live = absurd (false≢true (sym not_live))
waits_else false true not_gone not_live = refl
waits_else false false not_gone not_live = absurd (false≢true (sym not_gone))

-- what the explanation is, case by case
module _ (last : LastPass) (now : Mark) (w : Wish) (m : Mark) where
  pub when_gone : is_gone now ≡ true → explanation last now w m ≡ Gone now.status now.stamp
  when_gone gone = rw gone refl

  pub when_live : is_live now ≡ true → explanation last now w m ≡ Live now.status now.stamp
  when_live live = rw live refl

  pub when_barred : is_live now ≡ false → is_waiting now ≡ true
      → is_barred last.opening last.bars w m ≡ true
      → explanation last now w m ≡ barred_at last w.board_rank w.school
  when_barred not_live waits barred = rw (not_live, waits, barred) refl

  pub when_seatless : is_live now ≡ false → is_waiting now ≡ true
      → is_barred last.opening last.bars w m ≡ false → explanation last now w m ≡ no_seat last w
  when_seatless not_live waits not_barred = rw (not_live, waits, not_barred) refl

-- a wish without a school finds no seat
pub unhoused : (last : LastPass) (w : Wish) (m : Mark) → w.school ≡ None
    → no_seat last w ≡ waiting_case last w m
unhoused last w m none = rw (none, and_false (is_waiting m)) refl
