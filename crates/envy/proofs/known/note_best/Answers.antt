use Rattle.std.proofs.Common.{◌≡◌, ◌||◌, ◌∙◌, ℕ, List, Option, Some, ap, arith, set, sym}
use Rattle.std.specs.Prelude.{nat_lt}
use Rattle.admit_core.specs.declared.dossier.Wish.{Wish}
use Rattle.admit_core.specs.State.{is_live}
use Rattle.day_state.specs.Bundles.{number_in}
use Rattle.day_state.specs.Kept.{wish_in}
use Rattle.envy.specs.Known.{first_own, is_below}
use Rattle.envy.proofs.Knowing.{best_more, best_still, number_at}
use Rattle.envy.proofs.known.note_best.Goals as goal

pub returns-then-is_live : goal.returns-then-is_live
returns-then-is_live c =
    let s = c.args.state.now in
    let k = c.args.place in
    let old = c.args.best.now.items in
    let first_is = c.first_own-first.ensures.first in
    let known : c.index.result.now ≡ number_in old (first_own s.dossier k) =
    number_at old c.first_own-first.result c.index.result.now
    (omega (arith, c.first_own-first.ensures.within, c.requires.best.as_long)) c.index.ensures
    ∙ ap (number_in old) first_is in
    best_more s (rw c.marks.ensures.marks at c.marks.ensures.one_each) k c.requires.place old _ c.lesser.result
    (sym (c.if-is_live.ensures ∙ ap is_live c.mark_at.ensures)) c.requires.best
    (ap (λ n. set old n (Some c.lesser.result)) first_is)
    (λ q. c.lesser.ensures q
    ∙ ap (λ (n : Option ℕ). is_below n q || nat_lt c.wish_at.result.preference q) known
    ∙ ap (λ (w : Wish). is_below (number_in old (first_own s.dossier k)) q || nat_lt w.preference q)
    c.wish_at.ensures.wish)

pub returns-else-is_live : goal.returns-else-is_live
returns-else-is_live c =
    best_still c.args.state.now (rw c.marks.ensures.marks at c.marks.ensures.one_each) c.args.place c.requires.place
    c.args.best.now.items (sym (c.if-is_live.ensures ∙ ap is_live c.mark_at.ensures)) c.requires.best
