-- Those who demand a bed of a school are as many as their names.
use Rattle.std.proofs.Common.{ℕ, ◌<◌, ◌≡◌, ◌∙◌, List, ap, filter, get_or, length, map, nat_le, Bool, true}
use Rattle.std.specs.Prelude.{slice_index}
use Rattle.std.specs.List.{All}
use Rattle.std.proofs.lemmas.Bool.{le-leb}
use Rattle.std.proofs.lemmas.List.{length-map}
use Rattle.std.proofs.lemmas.List.Elements.{Contains-get_or}
use Rattle.admit_core.specs.Falls.{FallingSystem, IsAtMost, IsLawful}
use Rattle.day_state.proofs.Ordering.{filter_all}

pub named_each : (sys : FallingSystem) (bars : List ℕ) (h bar : ℕ) → IsLawful sys → IsAtMost bars sys.ceilings
    → h < length bars → bar ≡ slice_index bars h
    → length (map (sys.name bars h) (filter (λ r. nat_le r bar) (sys.ranks bars h))) ≡ length (sys.ranks bars h)
named_each sys bars h bar lawful under within is =
    let ranks = sys.ranks bars h in
    let test : ℕ → Bool = λ r. nat_le r bar in
    let all : All (λ r. test r ≡ true) ranks = λ i x lt.
    let rank = get_or ranks i x in
    le-leb rank bar (rw is (lawful.to_bar bars h rank under within (Contains-get_or ranks i x lt))) in
    length-map (filter test ranks) (sys.name bars h) ∙ ap length (filter_all test ranks all)
