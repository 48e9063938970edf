use Rattle.std.proofs.Common.{◌≡◌, List, IfOk, length, map, subst}
use Rattle.std.specs.Prelude.{ℤ, pos, replicate, zip}
use Rattle.intake.specs.Dated.{offer_since}
use Rattle.intake.proofs.DatedOffers.{undated_days}
use Rattle.intake.proofs.terms.days_before.Goals as goal

pub returns-in-None : goal.returns-in-None
returns-in-None c =
    let start = c.args.start in
    let statuses = c.args.statuses.now in
    let dates = c.args.dates.now in
    let same : replicate (length statuses) (pos 0) ≡ map (offer_since start) (zip statuses dates) =
    undated_days start statuses dates c.requires (c.as_slice.ensures.undated c.in-None.is) in
    let P : List ℤ → Type 0 = λ days. IfOk c.no_days.result (λ v. v.items ≡ days) in
    subst P same c.no_days.ensures
