use Rattle.std.proofs.Common.{◌≡◌, ◌<◌, ◌∙◌, ℕ, None, Option, ap, arith, length, subst, sym, unwrap_or}
use Rattle.std.proofs.lemmas.Option.{slice_get-get_or}
use Rattle.admit_core.specs.declared.dossier.Wish.{Wish}
use Rattle.admit_core.specs.Blocking.{has_better}
use Rattle.day_state.specs.Bundles.{number_in}
use Rattle.day_state.specs.Kept.{wish_in}
use Rattle.envy.specs.Known.{first_own, is_below}
use Rattle.envy.specs.Noted.{Seen}
use Rattle.envy.proofs.noted.Noted.has_better.Goals as goal

pub returns : goal.returns
returns c =
    let s = c.self.inside.state.now in
    let k = c.args.place in
    let w = wish_in s.dossier.wishes k in
    let best = c.self.inside.best.items in
    let first = c.first_own.result in
    let there = subst (λ (n : Seen). k < length n.state.dossier.wishes) (sym c.self.view_is) c.requires in
    let at : first < length best = omega (arith, c.first_own.ensures.within, c.self.invariant.best.as_long) in
    let held : Option ℕ = c.index-held.result.now in
    let held_is : held ≡ number_in best first =
    c.index-held.ensures
    ∙ sym (ap (λ (o : Option (Option ℕ)). unwrap_or o None) (slice_get-get_or best first held at)) in
    subst (λ (n : Seen). c.is_below.result ≡ has_better n.state (wish_in n.state.dossier.wishes k)) c.self.view_is
    (c.is_below.ensures
    ∙ ap (λ (n : Option ℕ). is_below n c.wish_at.result.preference)
    (held_is ∙ ap (number_in best) c.first_own.ensures.first)
    ∙ ap (λ (v : Wish). is_below (number_in best (first_own s.dossier k)) v.preference) c.wish_at.ensures.wish
    ∙ c.self.invariant.best.each k w.preference there)
