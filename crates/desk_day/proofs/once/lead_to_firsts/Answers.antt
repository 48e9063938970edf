use Rattle.std.proofs.Common.{◌<◌, length, refl, ◌∙◌, ap, arith}
use Rattle.std.proofs.lemmas.List.{get_or_default}
use Rattle.admit_core.specs.DossierRows.{candidate_of}
use Rattle.desk_day.proofs.OnceEach.{first_itself, led_names, led_none, led_one}
use Rattle.desk_day.proofs.once.lead_to_firsts.Goals as goal

pub loop-index-init : goal.loop-index-init
loop-index-init c = led_none c.args.state.now.dossier c.args.places.now.items c.requires

pub loop-index-preserved : goal.loop-index-preserved
loop-index-preserved c =
    let d = c.args.state.now.dossier in
    let now = c.loop-index.places.items in
    let i = c.loop-index.index in
    let lt : i < length now = omega (
      arith,
      c.loop-index-test.true,
      c.loop-index.auto.index-end,
      c.len-index-end.ensures,
      c.loop-index.invariant.long,
    ) in
    let same =
    c.first_beside.ensures.same ∙ ap (candidate_of d)
    (c.index.ensures ∙ get_or_default now i c.index.result.now 0 lt) in
    led_one d c.args.places.now.items now _ i c.first_beside.result
    c.loop-index.invariant lt c.first_beside.ensures.within same
    (first_itself d _ c.first_beside.result c.first_beside.ensures.first c.first_beside.ensures.same)
    refl

pub returns-clause-names : goal.returns-clause-names
returns-clause-names c =
    led_names c.args.state.now.dossier c.loop-index.index c.args.places.now.items c.loop-index.places.items
    c.loop-index.invariant

pub returns-clause-firsts : goal.returns-clause-firsts
returns-clause-firsts c = λ k e lt. c.loop-index.invariant.firsts k e
    (omega (
      arith,
      lt,
      c.loop-index-test.false,
      c.loop-index.auto.index-end,
      c.len-index-end.ensures,
      c.loop-index.invariant.long,
    ))
    lt
