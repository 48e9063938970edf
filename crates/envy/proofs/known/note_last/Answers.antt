use Rattle.std.proofs.Common.{◌≡◌, ◌<◌, ◌||◌, ◌∙◌, ℕ, IfSome, List, Option, Some, ap, arith, length, nat_le, set, subst}
use Rattle.std.proofs.Common.{sym}
use Rattle.std.specs.Prelude.{option_map}
use Rattle.admit_core.specs.declared.dossier.Wish.{Wish}
use Rattle.admit_core.specs.DossierRows.{DossierRows}
use Rattle.admit_core.specs.State.{is_live}
use Rattle.day_state.specs.Bundles.{number_in}
use Rattle.day_state.specs.Kept.{wish_in}
use Rattle.envy.specs.Known.{IsFor, place_at, reaches}
use Rattle.envy.proofs.Knowing.{last_more, last_still, number_at}
use Rattle.envy.proofs.known.note_last.Goals as goal

pub returns-then-is_live : goal.returns-then-is_live
returns-then-is_live c =
    let s = c.args.state.now in
    let d = s.dossier in
    let o = c.args.roster.now.orders in
    let same = c.requires.same in
    let k = c.args.place in
    let w = wish_in d.wishes k in
    let old = c.args.lasts.now.items in
    let kept = c.later.result in
    let q_lt : w.programme < length d.programmes =
    omega (arith, c.programme_count.ensures.each k c.requires.place, c.programme_count.ensures.count) in
    let wish_is = c.wish_at-programme.ensures.wish in
    let programme_is = ap (λ (v : Wish). v.programme) wish_is in
    let known : c.index.result.now ≡ number_in old w.programme =
    number_at old c.wish_at-programme.result.programme c.index.result.now
    (omega (arith, programme_is, q_lt, c.requires.lasts.as_long)) c.index.ensures
    ∙ ap (number_in old) programme_is in
    let Reaches : DossierRows → Option ℕ → ℕ → Type 0 =
    λ x n j. nat_le j (place_at x o kept)
    ≡ (reaches (option_map (place_at x o) n) j || nat_le j (place_at x o k)) in
    last_more s (rw c.marks.ensures.marks at c.marks.ensures.one_each) k c.requires.place o old _ kept q_lt
    (sym (c.if-is_live.ensures ∙ ap is_live c.mark_at.ensures)) c.requires.lasts
    (ap (λ p. set old p (Some kept)) programme_is)
    (λ j. subst (λ (n : Option ℕ). Reaches d n j) known
    (subst (λ (x : DossierRows). Reaches x c.index.result.now j) same (c.later.ensures.place j)))
    (λ is. subst (λ (x : DossierRows). IsFor x o w.programme kept) same
    (c.later.ensures.fits w.programme
    (subst (λ (n : Option ℕ). IfSome n (IsFor c.args.roster.now.dossier o w.programme)) (sym known)
    (subst (λ (x : DossierRows). IfSome (number_in old w.programme) (IsFor x o w.programme)) (sym same) is))
    (ap (λ (x : DossierRows). (wish_in x.wishes k).programme) same)))

pub returns-else-is_live : goal.returns-else-is_live
returns-else-is_live c =
    last_still c.args.state.now (rw c.marks.ensures.marks at c.marks.ensures.one_each) c.args.place c.requires.place
    c.args.roster.now.orders c.args.lasts.now.items (sym (c.if-is_live.ensures ∙ ap is_live c.mark_at.ensures))
    c.requires.lasts
