use Rattle.std.proofs.Common.{[], ◌∷◌, take, sym, ◌∙◌}
use Rattle.std.proofs.lemmas.List.{take_more, map-append}
use Rattle.dossier_check.specs.Dealt.{ascending}
use Rattle.dossier_check.proofs.ranks.ascending_lists.Goals as goal

pub loop-list-preserved : goal.loop-list-preserved
loop-list-preserved c =
    let ls = c.args.lists.now in
    let i = c.loop-list.list-index in
    let list = c.list-item.result in
    c.in_ok-push_candidates.ensures
    ∙ rw (c.loop-list.invariant, c.as_slice.ensures.value, take_more ls i list c.loop-list-test.true, ← c.list-item.is)
    (sym (map-append (λ v. ascending v.items) (take i ls) (list ∷ [])))
