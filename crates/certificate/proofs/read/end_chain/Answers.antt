use Rattle.std.proofs.Common.{◌<◌, length, rules, ap}
use Rattle.certificate.specs.Open.{chain_with}
use Rattle.certificate.proofs.Saying.{bytes_follow}
use Rattle.certificate.proofs.read.end_chain.Goals as goal

pub returns-then-not-is_empty : goal.returns-then-not-is_empty
returns-then-not-is_empty c =
    let some : 0 < length c.args.after.now = search rules in
    rw c.fault_at.ensures (ap (chain_with c.args.reading) (bytes_follow c.args.row c.args.after.now some))
