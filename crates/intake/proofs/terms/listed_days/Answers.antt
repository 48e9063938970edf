use Rattle.std.proofs.Common.{◌∙◌, ap, map, rules, sym}
use Rattle.std.proofs.lemmas.Iterator.{YieldsList-from_slice, YieldsList-from_zip}
use Rattle.std.proofs.lemmas.Iterator.Consumers.{YieldsList-end}
use Rattle.std.proofs.lemmas.Simd.{map-map}
use Rattle.intake.specs.Dated.{offer_since}
use Rattle.intake.proofs.terms.listed_days.Goals as goal

pub returns : goal.returns
returns c =
    let end =
    YieldsList-end (YieldsList-from_zip {s = c.into_iter-status-iterator.result}
    (YieldsList-from_slice c.args.statuses.now (search rules)) (YieldsList-from_slice c.args.dates.now (search rules)))
    c.loop-status.yielded c.loop-status.status-iterator c.loop-status.yielded_by c.next.result c.next.new.self
    c.in-None.is c.next.ensures.steps in
    c.loop-status.invariant
    ∙ sym (map-map (offer_since c.args.start) (λ p. (p.0.now, p.1.now)) c.loop-status.yielded)
    ∙ ap (map (offer_since c.args.start)) end.0
