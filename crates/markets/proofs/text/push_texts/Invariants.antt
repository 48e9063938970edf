use Rattle.std.proofs.Common.{flat_map, take}
use Rattle.report.specs.Pushes.{IsPushed}
use Rattle.markets.proofs.text.push_texts.Given as goal

abbrev pub invariant-loop-added : goal.invariant-loop-added
invariant-loop-added l = IsPushed l.fn.text l.text (flat_map (λ t. t.now) (take l.added-index l.texts))
