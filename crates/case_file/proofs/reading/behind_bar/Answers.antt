use Rattle.case_file.proofs.Taking.{stripped}
use Rattle.case_file.proofs.reading.behind_bar.Goals as goal

pub returns : goal.returns
returns c = stripped c.args.line.now c.strip_prefix.result c.strip_prefix.ensures.cases
