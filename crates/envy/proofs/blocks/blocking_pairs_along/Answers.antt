use Rattle.std.proofs.Common.{◌≡◌, ◌<◌, All, IfOk, List, length, subst, sym}
use Rattle.std.proofs.lemmas.Result.{IfOk-weaker}
use Rattle.envy.specs.Blocks.{blocks_of}
use Rattle.envy.specs.Noted.{Seen}
use Rattle.envy.specs.declared.blocks.Block.{Block}
use Rattle.envy.proofs.Listing.{blocks_within}
use Rattle.envy.proofs.blocks.blocking_pairs_along.Goals as goal

pub returns-clause-within : goal.returns-clause-within
returns-clause-within c =
    let s = c.args.state.now in
    let os = c.args.roster.now.orders in
    let within : List Block → Type 0 = All (λ (b : Block). b.wish < length s.dossier.wishes) in
    let listed = subst (λ (n : Seen). IfOk c.listed_blocks.result (λ blocks. blocks.items ≡ blocks_of n.state n.orders))
    c.in_ok-noted.ensures c.listed_blocks.ensures in
    IfOk-weaker c.listed_blocks.result
    (λ blocks. blocks.items ≡ blocks_of s os) (λ blocks. within blocks.items)
    (λ blocks is. subst within (sym is) (blocks_within s os)) listed
