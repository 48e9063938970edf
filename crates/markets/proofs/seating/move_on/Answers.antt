use Rattle.std.proofs.Common.{ℕ, ◌+◌, ◌≡◌, ◌<◌, ◌∙◌, sym, ap, set, subst, arith, length, Some}
use Rattle.std.specs.Prelude.{slice_get, slice_index}
use Rattle.std.proofs.lemmas.List.{get_or_default}
use Rattle.markets.specs.Markets.{MarketRows, IsMarket, list_of}
use Rattle.markets.specs.Bars.{best_within}
use Rattle.markets.proofs.Lawful.{best_is_listed}
use Rattle.markets.proofs.Positions.{is_programme}
use Rattle.markets.specs.Standing.{AreBeyond, IsStand}
use Rattle.markets.proofs.Reading.{list_short}
use Rattle.markets.proofs.Rounds.{put_here}
use Rattle.markets.proofs.Tied.{placed_below}
use Rattle.markets.proofs.seating.move_on.Goals as goal

pub overflow_add-passed : goal.overflow_add-passed
overflow_add-passed c =
    let m = c.market.result.now in
    let now = c.args.seating.now in
    let x : ℕ = c.args.candidate in
    let leaves = c.requires.leaves in
    let x_lt : x < length m.lists = omega (
      arith,
      leaves.candidate,
      ap
          (λ (r : MarketRows). length r.lists) c.market.ensures,
    ) in
    let s_lt : x < length now.stands.items =
    omega (arith, placed_below now.places.items x c.args.had leaves.had, now.tied.one_place_each) in
    let read : c.index.result.now ≡ slice_index now.stands.items x =
    c.index.ensures ∙ get_or_default now.stands.items x c.index.result.now 0 s_lt in
    omega (
      arith,
      read,
      leaves.on_list,
      ap (λ (r : MarketRows). length (list_of r x)) c.market.ensures,
      list_short m c.stands.ensures.market x x_lt,
      c.stands.ensures.small.programmes,
    )

pub put_place-requires-clause-within : goal.put_place-requires-clause-within
put_place-requires-clause-within c =
    let m = c.args.market.now in
    let x : ℕ = c.args.candidate in
    let s : ℕ = c.first_within-stand.result in
    let P : MarketRows → Type 0 = IsMarket in
    let is = subst P c.market.ensures c.stands.ensures.market in
    λ p e.
    let best : best_within m c.args.bars.now x ≡ Some p =
    sym c.first_within-stand.ensures.best ∙ ap (λ (r : MarketRows). slice_get (list_of r x) s) (sym c.market-2.ensures)
    ∙ sym c.place_at-place.ensures ∙ e in
    omega (
      arith,
      is_programme m is p x (best_is_listed m c.args.bars.now x p best),
      is.one_seat_each,
      ap length c.requires.seats,
    )

pub first_within-stand-requires-clause-from : goal.first_within-stand-requires-clause-from
first_within-stand-requires-clause-from c =
    let now = c.args.seating.now in
    let stands = now.stands.items in
    let x : ℕ = c.args.candidate in
    let leaves = c.requires.leaves in
    let lt : x < length stands = omega (
      arith,
      placed_below now.places.items x c.args.had leaves.had,
      now.tied.one_place_each,
    ) in
    omega (arith, c.index.ensures ∙ get_or_default stands x c.index.result.now 0 lt, leaves.on_list)

pub first_within-stand-requires-clause-beyond : goal.first_within-stand-requires-clause-beyond
first_within-stand-requires-clause-beyond c =
    let now = c.args.seating.now in
    let stands = now.stands.items in
    let x : ℕ = c.args.candidate in
    let leaves = c.requires.leaves in
    let lt : x < length stands = omega (
      arith,
      placed_below now.places.items x c.args.had leaves.had,
      now.tied.one_place_each,
    ) in
    let P = λ (n : ℕ). AreBeyond c.args.market.now c.args.bars.now x (n + 1) in
    subst P (sym (c.index.ensures ∙ get_or_default stands x c.index.result.now 0 lt)) leaves.beyond

pub returns-clause-moved : goal.returns-clause-moved
returns-clause-moved c =
    let now = c.args.seating.now in
    let stands = now.stands.items in
    let x : ℕ = c.args.candidate in
    let s : ℕ = c.first_within-stand.result in
    let leaves = c.requires.leaves in
    let lt : x < length stands = omega (
      arith,
      placed_below now.places.items x c.args.had leaves.had,
      now.tied.one_place_each,
    ) in
    let here = put_here stands c.put_place.new.seating.stands.items x s lt c.put_place.ensures.stands in
    let best = c.place_at-place.ensures
    ∙ ap (λ (r : MarketRows). slice_get (list_of r x) s) c.market-2.ensures
    ∙ c.first_within-stand.ensures.best in
    record {
      stand = subst (IsStand c.args.market.now c.args.bars.now x) (sym here) c.first_within-stand.ensures;
      stood = c.put_place.ensures.stands ∙ ap (set stands x) (sym here);
      placed = c.put_place.ensures.places ∙ ap (set now.places.items x) best;
    }
