use Rattle.std.proofs.Common.{◌<◌, nat_eq, length, map, All}
use Rattle.std.specs.List.{IsDistinct}
use Rattle.admit_core.specs.Relations.{group_ids}
use Rattle.dossier_check.specs.Dealt.{HasItsGroup, places_in}
use Rattle.dossier_check.proofs.DealtRows.{all_there, no_rank_fault}
use Rattle.dossier_check.proofs.ranks.shows_no_fault.Goals as goal

pub returns : goal.returns
returns c e =
    let t = c.args.tables.now in
    let dealt = c.args.dealt.now in
    let below : All (λ place. place < length (group_ids t)) (places_in (group_ids t) t.rankings) =
    rw (← c.requires.places, ← c.requires.groups, ← c.len.ensures.len)
    (c.all_below.ensures c.if-not-all_below.false) in
    let known : All (HasItsGroup (group_ids t)) t.rankings = all_there (group_ids t) t.rankings below in
    let candidates : All (λ l. IsDistinct nat_eq l.items) dealt.candidates.items =
    rw (← c.as_slice.ensures.value) (c.candidates_apart.ensures c.if-not-candidates_apart.false) in
    let ranks : All (λ g. IsDistinct nat_eq (map (λ r. r.rank) g.list)) dealt.rankings.items =
    rw (← c.as_slice-2.ensures.value) (c.ranks_apart.ensures e) in
    no_rank_fault t dealt c.requires.dealt known candidates ranks
