use Rattle.std.proofs.Common.{ap, map, ◌∙◌}
use Rattle.dossier_check.specs.Dealt.{ascending, candidates_in}
use Rattle.dossier_check.proofs.BuiltGroups.{ascending_now}
use Rattle.dossier_check.proofs.ranks.deal.Goals as goal

pub returns : goal.returns
returns c =
    let lists = c.in_ok-lists.lists.items in
    record {
      rankings = c.in_ok-rank_groups.ensures;
      candidates = c.in_ok-candidates.ensures
          ∙ ap (map (λ l. ascending l.items)) c.as_slice.ensures.value
          ∙ ascending_now (λ l. l.items) _ _ lists c.in_ok-lists.ensures
          ∙ (λ i. map (candidates_in (c.as_slice-rows.ensures i)) (c.requires.groups i));
    }
