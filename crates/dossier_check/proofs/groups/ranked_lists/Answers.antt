use Rattle.std.proofs.Common.{ℕ, List, false, map, slice_index_or, take, sym, ap, ◌∙◌, arith}
use Rattle.std.proofs.lemmas.List.{get_or-map, take_all, take_more}
use Rattle.admit_core.specs.declared.tables.RankRow.{RankRow}
use Rattle.admit_core.specs.Standing.{place_of, ranked_in}
use Rattle.dossier_check.proofs.groups.ranked_lists.Goals as goal

pub lay_row-requires-clause-place : goal.lay_row-requires-clause-place
lay_row-requires-clause-place c =
    let i = c.loop-number.number in
    let none : RankRow = record { group = 0; candidate = 0; rank = 0; scholar = false; resident = false } in
    ap (λ (places : List ℕ). slice_index_or places i 0) c.requires
    ∙ get_or-map (λ (r : RankRow). place_of c.args.groups.now.keys r.group) c.args.rankings.now i none 0
    c.loop-number-test.true

pub loop-number-preserved : goal.loop-number-preserved
loop-number-preserved c =
    let rs = c.args.rankings.now in
    let i = c.loop-number.number in
    record {
      laid = c.in_ok-lay_row.ensures.laid (take i rs) c.loop-number.invariant.laid
          ∙ ap (λ rows. map (ranked_in rows) c.args.groups.now.keys) (sym (take_more rs i _ c.loop-number-test.true));
      len = c.in_ok-lay_row.ensures.len ∙ c.loop-number.invariant.len;
    }

pub returns : goal.returns
returns c =
    let all = take_all c.loop-number.number c.args.rankings.now (omega (arith, c.loop-number-test.false)) in
    c.loop-number.invariant.laid ∙ ap (λ rows. map (ranked_in rows) c.args.groups.now.keys) all
