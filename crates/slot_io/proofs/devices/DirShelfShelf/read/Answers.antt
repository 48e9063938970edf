use Rattle.std.proofs.Common.{rules}
use Rattle.slot_io.proofs.devices.DirShelfShelf.read.Goals as goal

pub returns-in-Err : goal.returns-in-Err
returns-in-Err g c = record {
  bound = search rules;
  bytes = search rules;
  taken = search rules;
  fault = search rules;
  others = search rules;
  memory = search rules;
}
