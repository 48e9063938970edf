use Rattle.std.proofs.Common.{◌<◌, length, rules, ap, sym}
use Rattle.certificate.specs.Faults.{fault_in}
use Rattle.certificate.proofs.Saying.{bytes_follow}
use Rattle.certificate.proofs.fault.end_fault.Goals as goal

pub returns : goal.returns
returns c =
    let some : 0 < length c.args.after.now = search rules in
    sym (ap fault_in (bytes_follow c.args.row c.args.after.now some))
