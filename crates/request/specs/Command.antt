-- The command whose words are read: one required mode, and seven options of one text value each.
use Rattle.std.specs.Prelude.{true, List, [], ◌∷◌, Some, codes}
use Rattle.clap.specs.Words.{App, Rule, Text, new_app, new_rule, with_rule}

abbrev pub option_rule : Text → Rule
option_rule name = record (new_rule name) { long = Some name }

abbrev pub mode_rule : Rule
mode_rule = record (new_rule (codes "mode")) { required = true }

-- a command with options of these names, in this order
abbrev pub with_options : App → List Text → App
with_options app [] = app
with_options app (name ∷ names) = with_options (with_rule app (option_rule name)) names

abbrev pub option_names : List Text
option_names =
    codes "days" ∷ codes "wish" ∷ codes "school" ∷ codes "picker" ∷ codes "number"
    ∷ codes "start" ∷ codes "term" ∷ []

abbrev pub parcours : App
parcours = with_options (with_rule (new_app (codes "parcours")) mode_rule) option_names
