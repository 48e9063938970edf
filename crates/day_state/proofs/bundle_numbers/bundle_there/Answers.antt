use Rattle.std.proofs.Common.{◌≡◌, ◌<◌, ◌∙◌, ℕ, Option, None, Some, length, sym, ap, arith}
use Rattle.std.specs.Prelude.{slice_index}
use Rattle.std.proofs.lemmas.List.{get_or_default}
use Rattle.std.proofs.lemmas.Option.{unwrap_or-slice_get}
use Rattle.day_state.specs.Bundles.{joined, number_in}
use Rattle.day_state.proofs.bundle_numbers.bundle_there.Goals as goal

pub returns-in-Some : goal.returns-in-Some
returns-in-Some c = λ ws are own.
    let firsts = c.args.last.now.firsts.items in
    let candidates = c.args.last.now.candidates.items in
    let h = c.in-Some.site in
    let h_in : h < length firsts = c.requires.site h c.in-Some.is in
    let found : number_in firsts h ≡ c.index.result.now =
    unwrap_or-slice_get firsts h None ∙ get_or_default firsts h None c.index.result.now h_in ∙ sym c.index.ensures in
    let theirs : c.index-in-Some.result.now ≡ slice_index candidates h =
    c.index-in-Some.ensures
    ∙ get_or_default candidates h c.index-in-Some.result.now 0 (omega (arith, h_in, are.long)) in
    let is = c.joined.ensures ws (λ b e. theirs ∙ are.each h h_in b (found ∙ e)) own in
    rw c.in-Some.is (ap (λ (k : ℕ). Some k) (is ∙ ap (λ (o : Option ℕ). joined ws o c.args.place) (sym found)))
