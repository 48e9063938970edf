use Rattle.std.proofs.Common.{◌≡◌, ℕ, map, take}
use Rattle.day_state.specs.Kept.{wish_in}
use Rattle.certificate.proofs.named.ranks_of.Given as goal

abbrev pub invariant-loop-place : goal.invariant-loop-place
invariant-loop-place l = l.ranks.items ≡ map (λ (k : ℕ). (wish_in l.state.dossier.wishes k).board_rank)
    (take l.place-index l.places)
