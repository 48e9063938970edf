use Rattle.std.proofs.Common.{◌≡◌, ℕ, drop}
use Rattle.std.specs.Prelude.{zip}
use Rattle.std.specs.List.{list_all}
use Rattle.admit_core.specs.Chains.{shows_rank}
use Rattle.certificate.proofs.pass_test.PassTest.show_ranks.Given as goal

abbrev pub invariant-loop-place : goal.invariant-loop-place
invariant-loop-place l =
    let shows : ℕ × ℕ → _ = λ x. shows_rank l.self.state l.self.orders l.self.bars l.school x.0 x.1 in
    list_all shows (zip l.ranks l.ids) ≡ list_all shows (zip (drop l.place l.ranks) (drop l.place l.ids))
