use Rattle.std.proofs.Common.{◌∙◌, List, ap, arith, length, nat_eq, subst, sym}
use Rattle.std.proofs.lemmas.Result.{IfOk-weaker}
use Rattle.admit_core.specs.DossierRows.{DossierRows}
use Rattle.admit_core.specs.EveningLaws.{last_bars}
use Rattle.admit_core.specs.declared.ranking.CallOrder.{CallOrder}
use Rattle.desk_day.specs.DeskStates.{DeskStates}
use Rattle.desk_day.specs.LastPasses.{IsLastPass, last_pass}
use Rattle.explanations.specs.Sayings.{Explains}
use Rattle.dossier_check.proofs.Places.{position-any}
use Rattle.modes.proofs.OnDesks.{explains_on, found_within, pass_found}
use Rattle.modes.proofs.explained.explained_text.Goals as goal

pub unreachable-requires : goal.unreachable-requires
unreachable-requires c =
    let some = position-any (nat_eq c.args.wish) c.args.input.now.index.wishes c.requires.named in
    cc (c.in_default.is, c.wish_place.ensures, some)

pub explain_on_desk-why-requires-clause-last : goal.explain_on_desk-why-requires-clause-last
explain_on_desk-why-requires-clause-last c =
    let day = c.in-Some-last.day.now in
    let a = c.args.along.now in
    let orders = c.orders-orders.ensures.orders ∙ c.roster.ensures.orders in
    let last = pass_found c.args.input.now.dossier a.orders c.args.days.now day a.desk _ _ c.requires.desk
    (sym c.in-Some-last.ensures.value) (c.deref.ensures.value ∙ c.in_ok-ceilings.ensures.ceilings)
    (c.last_bars-bars.ensures ∙ ap last_bars c.as_slice.ensures) in
    subst (λ (k : DeskStates). IsLastPass
    (last_pass k.opening c.orders-orders.result.now.orders c.deref.result.now c.last_bars-bars.result.now) k.present)
    (sym c.desk.ensures)
    (subst (λ (o : List CallOrder). IsLastPass
    (last_pass a.desk.opening o c.deref.result.now c.last_bars-bars.result.now) a.desk.present) (sym orders) last)

pub explain_text-requires-clause-wish : goal.explain_text-requires-clause-wish
explain_text-requires-clause-wish c =
    found_within _ _ c.args.wish c.in-Some.place c.args.input.now.wishes_have_ids
    (sym c.wish_place.ensures ∙ c.in-Some.is)

pub explain_on_desk-why-requires-clause-wish : goal.explain_on_desk-why-requires-clause-wish
explain_on_desk-why-requires-clause-wish c =
    let place = found_within _ _ c.args.wish c.in-Some.place c.args.input.now.wishes_have_ids
    (sym c.wish_place.ensures ∙ c.in-Some.is) in
    omega (
      arith,
      place,
      ap (λ (k : DeskStates). length k.present.dossier.wishes) c.desk.ensures,
      ap (λ (d : DossierRows). length d.wishes) c.requires.desk.dossier,
    )

pub returns : goal.returns
returns c =
    let day = c.in-Some-last.day.now in
    let a = c.args.along.now in
    let orders = c.orders-orders.ensures.orders ∙ c.roster.ensures.orders in
    let place = c.in-Some.place in
    let why = c.explain_on_desk-why.result in
    let ceilings = c.deref.result.now in
    let bars = c.last_bars-bars.result.now in
    let explains : Explains (last_pass a.desk.opening a.orders ceilings bars) a.desk.present place why =
    subst (λ (o : List CallOrder). Explains (last_pass a.desk.opening o ceilings bars) a.desk.present place why) orders
    (subst (λ (k : DeskStates). Explains (last_pass k.opening c.orders-orders.result.now.orders ceilings bars)
    k.present place why) c.desk.ensures c.explain_on_desk-why.ensures) in
    IfOk-weaker c.explain_text.result _ _ (λ text same. record {
      place = place;
      is_place = sym c.wish_place.ensures ∙ c.in-Some.is;
      day = day;
      is_last = sym c.in-Some-last.ensures.value;
      explanation = why;
      explains = explains_on c.args.input.now.dossier a.orders day a.desk place why _ _
          (c.deref.ensures.value ∙ c.in_ok-ceilings.ensures.ceilings)
          (c.last_bars-bars.ensures ∙ ap last_bars c.as_slice.ensures) explains;
      is_line = same;
    }) c.explain_text.ensures
