use Rattle.std.proofs.Common.{◌≡◌, drop, map}
use Rattle.clap.specs.Words.{app_of}
use Rattle.request.specs.Command.{with_options}
use Rattle.request.proofs.command.with_options.Given as goal

abbrev pub invariant-loop-name : goal.invariant-loop-name
invariant-loop-name l =
    with_options (app_of l.command) (map (λ s. s.now) (drop l.name-index l.names))
    ≡ with_options (app_of l.fn.command) (map (λ s. s.now) l.names)
