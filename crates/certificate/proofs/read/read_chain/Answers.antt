use Rattle.std.proofs.Common.{Ok}
use Rattle.certificate.proofs.Counting.{read_counted}
use Rattle.certificate.proofs.read.read_chain.Goals as goal

pub returns-in-Ok-clause-counted : goal.returns-in-Ok-clause-counted
returns-in-Ok-clause-counted c = read_counted c.args.bytes.now (Ok c.in-Ok.chain) c.in-Ok.ensures
