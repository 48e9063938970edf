use Rattle.std.proofs.Common.{sym, ap, ◌∙◌, is_some}
use Rattle.admit_core.proofs.FirstPlaces.{is_at}
use Rattle.markets.proofs.Choosing.{choice_laid, choice_lay_none}
use Rattle.markets.proofs.owned.lay.Goals as goal

pub returns-in-Some-clause-laid : goal.returns-in-Some-clause-laid
returns-in-Some-clause-laid c before e =
    let wish = c.args.wish in
    let ks = c.args.names.now.keys in
    c.in_ok-add.ensures.added ∙ rw (e, c.choice_of.ensures)
    (choice_laid before wish ks c.in-Some.place c.len.ensures.unique
    (is_at wish.candidate ks c.in-Some.place (sym c.get_index_of.ensures.index ∙ c.in-Some.is)))

pub returns-clause-laid : goal.returns-clause-laid
returns-clause-laid c before e =
    e ∙ choice_lay_none before c.args.wish c.args.names.now.keys
    (sym c.get_index_of.ensures.found ∙ ap is_some c.in_default.is)
