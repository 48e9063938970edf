use Rattle.std.proofs.Common.{◌≡◌, ◌<◌, ◌∙◌, ℕ, None, Option, length, sym, ap, subst, arith, unwrap_or}
use Rattle.std.proofs.lemmas.Option.{slice_get-get_or}
use Rattle.admit_core.specs.declared.dossier.Wish.{Wish}
use Rattle.admit_core.specs.Blocking.{last_envied}
use Rattle.admit_core.specs.CallOrder.{AreCallOrders}
use Rattle.admit_core.specs.DossierRows.{DossierRows}
use Rattle.admit_core.specs.State.{seats_left}
use Rattle.admit_core.specs.Validity.{IsValid}
use Rattle.day_state.specs.Bundles.{number_in}
use Rattle.day_state.specs.Kept.{wish_in}
use Rattle.envy.specs.declared.blocks.Block.{Block}
use Rattle.envy.specs.Blocks.{block_at}
use Rattle.envy.specs.Known.{envied_by}
use Rattle.envy.specs.Noted.{Seen}
use Rattle.envy.proofs.LastLive.{envied_is}
use Rattle.envy.proofs.Listing.{same_block}
use Rattle.envy.proofs.noted.Noted.block_at.Goals as goal

pub returns : goal.returns
returns c =
    let s = c.self.inside.state.now in
    let d = s.dossier in
    let os = c.self.inside.roster.now.orders in
    let P : DossierRows → Type 0 = IsValid in
    let valid = subst P (c.dossier.view_is ∙ c.dossier-dossier.ensures) c.dossier.invariant in
    let called = subst (λ (x : DossierRows). AreCallOrders x.groups os) c.self.invariant.same c.orders.ensures.right in
    let k = c.args.wish in
    let there = subst (λ (n : Seen). k < length n.state.dossier.wishes) (sym c.self.view_is) c.requires in
    let w = wish_in d.wishes k in
    let lasts = c.self.inside.lasts.items in
    let p = c.wish_at-programme.result.programme in
    let p_is = ap (λ (v : Wish). v.programme) c.wish_at-programme.ensures.wish in
    let lt : w.programme < length d.programmes =
    omega (arith, c.programme_count.ensures.each k there, c.programme_count.ensures.count) in
    let at : p < length lasts = omega (arith, lt, p_is, c.self.invariant.lasts.as_long) in
    let last : Option ℕ = c.index.result.now in
    let last_is : last ≡ number_in lasts w.programme =
    c.index.ensures ∙ sym (ap (λ (o : Option (Option ℕ)). unwrap_or o None) (slice_get-get_or lasts p last at))
    ∙ ap (number_in lasts) p_is in
    let asked : c.envied_by.result ≡ envied_by d os last k =
    subst (λ (n : Seen). c.envied_by.result ≡ envied_by n.state.dossier n.orders last k)
    (sym c.self.view_is) c.envied_by.ensures in
    let envied : c.envied_by.result ≡ last_envied s os w =
    asked
    ∙ ap (λ (last : Option ℕ). envied_by d os last k) last_is
    ∙ envied_is s os lasts k valid called c.self.invariant.lasts there lt in
    let is : (let b : Block = record { wish = k; left = c.seats_left.result; envied = c.envied_by.result } in b)
    ≡ block_at s os k =
    same_block k c.seats_left.result (seats_left s w.programme) c.envied_by.result (last_envied s os w)
    (c.seats_left.ensures ∙ ap (seats_left s) p_is) envied in
    subst (λ (n : Seen).
    (let b : Block = record { wish = k; left = c.seats_left.result; envied = c.envied_by.result } in b)
    ≡ block_at n.state n.orders k) c.self.view_is is
