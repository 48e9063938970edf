use Rattle.std.proofs.Common.{◌≡◌, ◌∙◌, ◌<◌, ap, sym, List, length, refl, arith, get_or, zip}
use mir.Val.{to_z, of_z}
use mir.Syntax.{w32}
use Rattle.std.specs.Prelude.{pos, ◌≤ℤ◌}
use Rattle.std.proofs.lemmas.Int.{ints}
use Rattle.std.specs.List.{enumerate_from}
use Rattle.admit_core.specs.declared.state.Mark.{Mark}
use Rattle.admit_core.specs.DossierRows.{DossierRows}
use Rattle.day_state.specs.Kept.{mark_in}
use Rattle.desk_day.proofs.Listed.{listed_all}
use Rattle.desk_day.proofs.LapsedOffers.{lapse_of, is_lapse, early_offer}
use Rattle.desk_day.proofs.MarkPairs.{lapsed_here, kept_here, pairs_long}
use Rattle.desk_day.proofs.lapses.lapses_on.Goals as goal
use Rattle.desk_day.proofs.lapses.lapses_on.Goals.{then-lapses+in_ok-push, else-lapses}

pub narrow-offered-requires-clause-high : goal.narrow-offered-requires-clause-high
narrow-offered-requires-clause-high c =
    let high : c.offer_day.result ≤ℤ pos 2147483647 =
    rw c.offer_day.ensures.day
    (early_offer c.args.terms.now.term c.args.day c.get-mark.result
    (get_or c.args.terms.now.before c.loop-wish.wish (pos 0))
    (sym c.lapses.ensures ∙ c.if-lapses.true) c.requires.day) in
    let low = c.offer_day.ensures.low in
    omega (arith, ints)

pub loop-wish-preserved : goal.loop-wish-preserved
loop-wish-preserved c =
    let ms = c.args.state.now.marks in
    let before = c.args.terms.now.before in
    let k = c.loop-wish.wish in
    let count : c.len-count.result ≡ length before =
    c.len-count.ensures ∙ ap (λ (d : DossierRows). length d.wishes) (c.behind-state.view_is ∙ c.dossier.ensures)
    ∙ sym c.requires.before in
    let mark = c.get-mark.result in
    let mark_is : mark ≡ mark_in ms k =
    c.get-mark.ensures ∙ ap (λ (l : List Mark). mark_in l k) c.marks-marks.ensures.marks in
    let lt : k < length before = omega (arith, count, c.loop-wish-test.true) in
    let lt_too : k < length ms = omega (
      arith,
      lt,
      c.requires.before,
      c.marks-marks.ensures.one_each,
      ap (λ (l : List Mark). length l) c.marks-marks.ensures.marks,
    ) in
    elim c.if-lapses.branch [
      | then-lapses+in_ok-push w ↦
          let high : w.offer_day.result ≤ℤ pos 2147483647 =
          rw w.offer_day.ensures.day (early_offer c.args.terms.now.term c.args.day mark (get_or before k (pos 0))
          (sym c.lapses.ensures ∙ w.if-lapses.true) c.requires.day) in
          let offered = to_z w32 (of_z w32 w.narrow-offered.result) in
          let narrowed : offered ≡ w.offer_day.result =
          omega (arith, ints, w.narrow-offered.ensures, w.offer_day.ensures.low, high) in
          rw w.lapsed-is (w.in_ok-push.ensures.items
          ∙ lapsed_here c.args.terms.now.term c.args.day before ms k
          (get_or before k (pos 0)) mark offered c.loop-wish.lapsed.items
          c.loop-wish.invariant lt lt_too refl mark_is
          (sym c.lapses.ensures ∙ w.if-lapses.true) (narrowed ∙ w.offer_day.ensures.day))
      | else-lapses w ↦
          rw w.lapsed-is
          (kept_here c.args.terms.now.term c.args.day before ms k
          (get_or before k (pos 0)) mark c.loop-wish.lapsed.items
          c.loop-wish.invariant lt lt_too refl mark_is (sym c.lapses.ensures ∙ w.if-lapses.false))
    ]

pub returns : goal.returns
returns c =
    let before = c.args.terms.now.before in
    let count : c.len-count.result ≡ length before =
    c.len-count.ensures ∙ ap (λ (d : DossierRows). length d.wishes) (c.behind-state.view_is ∙ c.dossier.ensures)
    ∙ sym c.requires.before in
    c.loop-wish.invariant
    ∙ listed_all lapse_of (is_lapse c.args.terms.now.term c.args.day) (enumerate_from 0
    (zip before c.args.state.now.marks)) c.loop-wish.wish
    (omega (arith, pairs_long before c.args.state.now.marks, count, c.loop-wish-test.false))
