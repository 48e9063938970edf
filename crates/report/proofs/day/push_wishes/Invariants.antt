use Rattle.std.proofs.Common.{◌∷◌, decimal, flat_map, take}
use Rattle.report.specs.Ids.{wish_id}
use Rattle.report.specs.Pushes.{IsPushed}
use Rattle.report.proofs.day.push_wishes.Given as goal

abbrev pub invariant-loop-wish : goal.invariant-loop-wish
invariant-loop-wish l = IsPushed l.fn.text l.text (flat_map (λ w. 32 ∷ decimal (wish_id l.dossier w))
    (take l.wish-index l.wishes))
