use Rattle.std.proofs.Common.{◌+◌, drop, map, ap, sym, ◌∙◌}
use Rattle.std.proofs.lemmas.List.{drop_more}
use Rattle.clap.specs.Words.{App, app_of}
use Rattle.request.specs.Command.{with_options}
use Rattle.request.proofs.command.with_options.Goals as goal

pub loop-name-preserved : goal.loop-name-preserved
loop-name-preserved c =
    let names = c.args.names.now in
    let i = c.loop-name.name-index in
    ap (λ (app : App). with_options app (map (λ s. s.now) (drop (i + 1) names))) c.in_ok-command.ensures
    ∙ ap (λ rest. with_options (app_of c.loop-name.command) (map (λ s. s.now) rest))
    (sym (drop_more names i _ c.loop-name-test.true))
    ∙ c.loop-name.invariant
