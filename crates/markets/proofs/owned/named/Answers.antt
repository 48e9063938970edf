use Rattle.std.proofs.Common.{ℕ, List, [], ◌∙◌, ap, get_or, sym}
use Rattle.std.proofs.lemmas.List.{take_all}
use Rattle.admit_core.specs.declared.dossier.Wish.{Wish}
use Rattle.day_state.specs.Kept.{wish_in}
use Rattle.markets.specs.Dossiers.{named}
use Rattle.markets.proofs.InTurn.{named_more, noted}
use Rattle.markets.proofs.owned.named.Goals as goal

pub loop-wish-preserved : goal.loop-wish-preserved
loop-wish-preserved c =
    let wishes : List Wish = c.args.wishes.now in
    let none : Wish = wish_in [] 0 in
    let who : ℕ = (get_or wishes c.loop-wish.wish-index none).candidate in
    record {
      names =
          c.in_ok-insert.ensures.keys ∙ ap (λ (ks : List ℕ). noted ks who) c.loop-wish.invariant.names
          ∙ sym (named_more wishes c.loop-wish.wish-index none c.loop-wish-test.true);
      hashing = c.insert.ensures.hasher ∙ c.loop-wish.invariant.hashing;
    }

pub returns-clause-names : goal.returns-clause-names
returns-clause-names c =
    c.loop-wish.invariant.names
    ∙ ap named (take_all c.loop-wish.wish-index c.args.wishes.now c.loop-wish-test.false)
