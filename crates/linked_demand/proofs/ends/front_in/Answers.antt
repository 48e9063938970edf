use Rattle.std.proofs.Common.{List, ap, length, refl, take}
use Rattle.std.specs.Prelude.{slice_index}
use Rattle.std.proofs.lemmas.Option.{slice_get_read}
use Rattle.linked_demand.specs.declared.rows.RowWish.{RowWish}
use Rattle.linked_demand.proofs.ends.front_in.Goals as goal

pub returns : goal.returns
returns c =
    let boarders = c.args.boarders.now in
    let own = c.index-boarders-school.result in
    record {
      own = own;
      found = slice_get_read boarders (length boarders) c.args.school own refl c.requires.school
          c.index-boarders-school.is;
      front_is = ap (λ (xs : List RowWish). take (slice_index c.args.ends.now c.args.school) xs)
          c.as_slice-own.ensures.value;
    }
