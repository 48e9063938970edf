use Rattle.std.proofs.Common.{rules, ap, ap₂, codes, ◌≡◌, ◌∙◌}
use Rattle.std.proofs.lemmas.Result.{IfOk-weaker}
use Rattle.clap.specs.Words.{app_of, rule_of, with_rule, new_app}
use Rattle.request.specs.Command.{mode_rule, option_names, with_options}
use Rattle.request.proofs.command.command.Goals as goal

pub returns : goal.returns
returns c =
    let mode_is : rule_of c.required-mode.result ≡ mode_rule = search rules in
    let first : app_of c.in_ok-command.command ≡ with_rule (new_app (codes "parcours")) mode_rule =
    c.in_ok-command.ensures.shape (search rules) ∙ ap₂ with_rule c.new-2.ensures.app mode_is in
    IfOk-weaker c.with_options.result _ _ (λ m h. h ∙ ap (λ app. with_options app option_names) first)
    c.with_options.ensures
