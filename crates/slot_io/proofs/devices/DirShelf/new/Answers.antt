use Rattle.std.proofs.Common.{ap}
use Rattle.slot_io.specs.Devices.{file_name, left_of_file}
use Rattle.slot_io.proofs.devices.DirShelf.new.Goals as goal

pub returns-clause-left : goal.returns-clause-left
returns-clause-left g c = λ slot.
    ap (left_of_file g.R.File.Read.remaining (g.R.Folder.bytes c.args.rt (file_name slot))) (c.from_fn.ensures slot).1
