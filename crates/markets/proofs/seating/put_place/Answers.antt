use Rattle.std.proofs.Common.{ℕ, ◌-◌, ◌∙◌, ap, arith, length, set}
use Rattle.std.specs.Prelude.{slice_index}
use Rattle.markets.specs.Fillings.{Fill, counted_in}
use Rattle.markets.proofs.Noting.{one_holds, put_few}
use Rattle.markets.proofs.Tied.{placed_below, tied_put}
use Rattle.markets.proofs.seating.put_place.Goals as goal

pub overflow_sub-left : goal.overflow_sub-left
overflow_sub-left c =
    let places = c.args.seating.now.places.items in
    let tied = c.args.seating.now.tied in
    omega (
      arith,
      c.count-left.ensures,
      tied.counts.each c.args.had (tied.within c.args.candidate c.args.had c.requires.had),
      one_holds places c.args.candidate c.args.had
          (placed_below places c.args.candidate c.args.had c.requires.had) c.requires.had,
    )

pub count_in-requires-clause-few : goal.count_in-requires-clause-few
count_in-requires-clause-few c =
    let now = c.args.seating.now in
    let tied = now.tied in
    λ p e.
    omega (
      arith,
      ap (λ (f : Fill). slice_index f.counts p) c.put.ensures,
      put_few (length now.filling.seats) now.places.items now.filling.counts c.args.had
          (c.count-left.result - 1) p tied.counts
          (tied.within c.args.candidate c.args.had c.requires.had) (c.requires.within p e)
          (omega (arith, c.count-left.ensures)),
      tied.few,
    )

pub invariant_of-seating : goal.invariant_of-seating
invariant_of-seating c =
    let now = c.args.seating.now in
    let g : Fill = c.count_in.new.filling in
    record {
      tied = tied_put now.tied c.args.candidate c.args.had c.requires.had c.args.place c.requires.within g
          (c.count_in.ensures.seats ∙ ap (λ (f : Fill). f.seats) c.put.ensures)
          (c.count_in.ensures.counts ∙ ap (λ (f : Fill). counted_in f.counts c.args.place) c.put.ensures
          ∙ ap (λ (n : ℕ). counted_in (set now.filling.counts c.args.had (n - 1)) c.args.place) c.count-left.ensures);
    }
