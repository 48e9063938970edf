-- The mode `envy`: the wishes that block the evening after the days.
use Rattle.std.specs.Prelude.{ℕ, List}
use Rattle.admit_core.specs.State.{State}
use Rattle.admit_core.specs.declared.ranking.CallOrder.{CallOrder}
use Rattle.envy.specs.Blocks.{blocks_of}
use Rattle.envy.specs.Text.{envy_text}

abbrev pub blocked_text : State → List CallOrder → List ℕ
blocked_text evening orders = envy_text evening.dossier (blocks_of evening orders)
