use Rattle.std.proofs.Common.{arith, ◌∙◌, length, replicate, ap, ℕ, List}
use Rattle.day_state.specs.Bundles.{bundles_of}
use Rattle.day_state.proofs.Numbered.{shared_long}
use Rattle.day_state.proofs.bundles.Bundles.build.Goals as goal

pub returns-clause-live : goal.returns-clause-live
returns-clause-live c =
    let bundles = bundles_of c.args.sites c.args.wishes.now in
    let shared = c.in_ok-shared.ensures bundles c.requires.laters in
    c.in_ok-live.ensures ∙ ap (λ (n : ℕ). replicate n 0)
    (omega (
      arith,
      c.len.ensures,
      c.in_ok-shared.shared.ok.0,
      ap (λ (xs : List ℕ). length xs) shared,
      shared_long bundles,
    ))
