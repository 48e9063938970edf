use Rattle.std.proofs.Common.{ℕ, ◌≡◌, ◌<◌, ◌∙◌, ◌&&◌, Bool, true, sym, length, nat_eq, refl}
use Rattle.std.proofs.lemmas.Bool.{OnTrue_at, eq-eqb, eqb-true}
use Rattle.std.proofs.lemmas.List.Elements.{All-contains}
use Rattle.std.proofs.lemmas.Map.Views.{Contains-from_any}
use Rattle.admit_core.specs.Lists.{is_among}
use Rattle.markets.specs.Markets.{is_list_below}
use Rattle.markets.proofs.Ordering.{stamped_same}
use Rattle.markets.proofs.orders.has_all_of.Goals as goal

and_true : (a b t : Bool) → a ≡ true → b ≡ true → t ≡ (a && b && t)
and_true a b t e f = rw (e, f) refl

pub returns-clause-all : goal.returns-clause-all
returns-clause-all c =
    let stamps = c.stamp_list.new.stamps in
    let is_list : is_list_below (length c.args.stamps.now) c.args.order.now ≡ true = sym c.stamp_list.ensures.listed
    ∙ c.if-not-stamp_list.false in
    let bear = OnTrue_at c.if-not-stamp_list.false c.stamp_list.ensures.bear in
    let within : (q : ℕ) → is_among q c.args.listers.now ≡ true → q < length stamps =
    λ q t. rw (c.stamp_list.ensures.as_many)
    (All-contains (λ x. x < length c.args.stamps.now) c.args.listers.now q c.requires.within
    (Contains-from_any eqb-true q c.args.listers.now t)) in
    c.all_bear.ensures ∙ stamped_same c.args.stamp c.args.order.now stamps c.args.listers.now bear within
    ∙ and_true (is_list_below (length c.args.stamps.now) c.args.order.now)
    (nat_eq (length c.args.order.now) (length c.args.listers.now)) _
    is_list
    (eq-eqb (length c.args.order.now) (length c.args.listers.now) c.if-order-listers.false)
