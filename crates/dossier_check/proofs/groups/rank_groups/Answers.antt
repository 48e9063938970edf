use Rattle.std.proofs.Common.{map, sym, ap, ◌∙◌, rules}
use Rattle.std.proofs.lemmas.Iterator.{YieldsList-from_slice, YieldsList-from_zip}
use Rattle.std.proofs.lemmas.Iterator.Adapters.{YieldsList-from_vec}
use Rattle.std.proofs.lemmas.Iterator.Consumers.{YieldsList-end}
use Rattle.dossier_check.specs.Dealt.{built}
use Rattle.std.proofs.lemmas.Simd.{map-map}
use Rattle.dossier_check.proofs.BuiltGroups.{zip_built}
use Rattle.dossier_check.proofs.groups.rank_groups.Goals as goal

pub returns : goal.returns
returns c =
    let end = YieldsList-end (YieldsList-from_zip {s = c.into_iter-row-iterator.result}
    (YieldsList-from_slice c.args.tables.now.groups (search rules))
    (YieldsList-from_vec c.args.lists.items (search rules) (search rules))) c.loop-row.yielded
    c.loop-row.row-iterator c.loop-row.yielded_by c.next.result c.next.new.self c.in-None.is c.next.ensures.steps in
    c.loop-row.invariant
    ∙ sym (map-map (λ p. built p.0 p.1.items) (λ p. (p.0.now, p.1)) c.loop-row.yielded)
    ∙ ap (map (λ p. built p.0 p.1.items)) end.0
    ∙ zip_built (λ l. l.items) c.args.tables.now.rankings c.args.tables.now.groups c.args.lists.items c.requires
