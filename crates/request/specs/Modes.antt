-- The tables by mode: its word, the slots that it reads, whether it runs days and picks after them,
-- and what it names.
use Rattle.std.specs.Prelude.{ℕ, ◌≤◌, Bool, true, false, List, [], ◌∷◌, ◌++◌, Option, Some, None, IfSome, codes}
use Rattle.std.specs.Prelude.{option_map, ⊤}
use Rattle.std.specs.Fmt.{decimal}
use Rattle.std.specs.Option.{option_and_then}
use Rattle.admit_core.specs.declared.slot.Slot.{Slot}
use Rattle.admit_core.specs.declared.slot.Slot.TheVariants.{Groups, Programmes, Schools, Rankings, Boarding, Wishes}
use Rattle.admit_core.specs.declared.slot.Slot.TheVariants.{State, Ceilings, Answers, Chain as ChainSlot}
use Rattle.clap.specs.Words.{Text}
use Rattle.dossier_csv.specs.Columns.{choice}
use Rattle.request.specs.declared.modes.Mode.{Mode}
use Rattle.request.specs.declared.modes.Mode.TheVariants.{Order, Replay, Chain, Check, Explain, Envy, Beds, Market}
use Rattle.request.specs.declared.modes.Mode.TheVariants.{Sample}
use Rattle.request.specs.declared.modes.Name.{Name}
use Rattle.request.specs.declared.modes.Name.TheVariants.{Wish, School}
use Rattle.request.specs.declared.modes.Numbers.{Numbers}

-- the numbers' ranges that a mode's data keeps
pub record AreNumbers (numbers : Numbers) : Type 0 where
  pub number : IfSome numbers.number (λ n. (1 ≤ n) × (n ≤ 1000000))

-- the words of the modes; a mode is none where a number that it needs isn't given
abbrev pub modes_by_word : Numbers → List (Text × Option Mode)
modes_by_word numbers =
    (codes "order", Some Order) ∷
    (codes "replay", Some Replay) ∷
    (codes "chain", Some Chain) ∷
    (codes "check", Some Check) ∷
    (codes "explain", option_map (λ wish. Explain wish) numbers.wish) ∷
    (codes "envy", Some Envy) ∷
    (codes "beds", option_map (λ school. Beds school) numbers.school) ∷
    (codes "market", Some Market) ∷
    (codes "sample", option_map (λ number. Sample number) numbers.number) ∷ []

-- the mode of a word, with what it needs
abbrev pub mode_of : Numbers → Text → Option Mode
mode_of numbers word = option_and_then (λ mode. mode) (choice (modes_by_word numbers) word)

-- the nine slots of a dossier, in their order
abbrev pub nine_slots : List Slot
nine_slots =
    Groups ∷ Programmes ∷ Schools ∷ Rankings ∷ Boarding ∷ Wishes ∷ State ∷ Ceilings ∷ Answers ∷ []

-- the slots that a mode reads, in this order: the nine, fewer where it needs less, and then the
-- chain where it is checked; a sample is made, and reads none
abbrev pub slots_of : Mode → List Slot
slots_of Order = Groups ∷ Rankings ∷ []
slots_of (Sample number) = []
slots_of Market = Groups ∷ Programmes ∷ Schools ∷ Rankings ∷ Boarding ∷ Wishes ∷ []
slots_of Check = nine_slots ++ ChainSlot ∷ []
slots_of _ = nine_slots

-- how many candidates the made-up dossier of a mode has
abbrev pub sample_of : Mode → Option ℕ
sample_of (Sample number) = Some number
sample_of _ = None

-- the modes that run days, for which pickers are asked
abbrev pub runs_days : Mode → Bool
runs_days Order = false
runs_days Check = false
runs_days Market = false
runs_days _ = true

-- the day whose picker the ending is lent, where so many days are asked for; most modes ask nobody
-- once their days are over. A market runs no day, and is solved with the picker of day 1
abbrev pub picks_after : Mode → ℕ → Option ℕ
picks_after (Beds school) days = Some days
picks_after Market days = Some 1
picks_after _ days = None

-- what a mode names in the dossier
abbrev pub named_by : Mode → Option Name
named_by (Explain wish) = Some (Wish wish)
named_by (Beds school) = Some (School school)
named_by _ = None

-- the words for it in a line
abbrev pub name_text : Name → List ℕ
name_text (Wish id) = codes "wish " ++ decimal id
name_text (School id) = codes "school " ++ decimal id

-- what is known of a mode's data
abbrev pub IsMode : Mode → Type 0
IsMode (Sample number) = (1 ≤ number) × (number ≤ 1000000)
IsMode _ = ⊤
