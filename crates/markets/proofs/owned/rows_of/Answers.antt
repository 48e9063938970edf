use Rattle.std.proofs.Common.{◌∙◌, List, [], map, length, take, sym, ap}
use Rattle.std.proofs.lemmas.List.{length-map, take_all, take_more}
use Rattle.admit_core.specs.declared.dossier.Wish.{Wish}
use Rattle.markets.specs.Choices.{own_choices}
use Rattle.markets.proofs.owned.rows_of.Goals as goal

pub loop-wish-init : goal.loop-wish-init
loop-wish-init c =
    let rows = c.in_ok-rows.rows.items in
    let names = c.args.names.now.keys in
    record {
      laid = c.in_ok-rows.ensures;
      as_many =
          sym (length-map rows (λ r. r.items)) ∙ ap length c.in_ok-rows.ensures ∙ length-map names (own_choices []);
    }

pub lay-requires : goal.lay-requires
lay-requires c = c.loop-wish.invariant.as_many

pub loop-wish-preserved : goal.loop-wish-preserved
loop-wish-preserved c =
    let i = c.loop-wish.wish-index in
    let wishes = c.args.wishes.now in
    let names = c.args.names.now.keys in
    record {
      laid =
          c.in_ok-lay.ensures.laid (take i wishes) c.loop-wish.invariant.laid
          ∙ ap (λ (ws : List Wish). map (own_choices ws) names) (sym (take_more wishes i _ c.loop-wish-test.true));
      as_many = c.in_ok-lay.ensures.as_many ∙ c.loop-wish.invariant.as_many;
    }

pub returns : goal.returns
returns c =
    let all = take_all c.loop-wish.wish-index c.args.wishes.now c.loop-wish-test.false in
    c.loop-wish.invariant.laid ∙ ap (λ (ws : List Wish). map (own_choices ws) c.args.names.now.keys) all
