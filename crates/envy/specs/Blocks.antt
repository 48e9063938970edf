-- The wishes that block a state, each with its programme's seats left and the last candidate who is
-- envied.
use Rattle.std.specs.Prelude.{ℕ, Bool, List, Option, Some, None, if◌then◌else◌, map}
use Rattle.std.specs.List.{filter_map}
use Rattle.admit_core.specs.declared.ranking.CallOrder.{CallOrder}
use Rattle.admit_core.specs.Blocking.{blocking, is_blocking, last_envied}
use Rattle.admit_core.specs.State.{State, seats_left}
use Rattle.day_state.specs.Kept.{mark_in, wish_in}
use Rattle.envy.specs.declared.blocks.Block.{Block}
use Rattle.envy.specs.declared.blocks.Envy.{Envy}

-- what is told of the wish at a place
abbrev pub block_at : State → List CallOrder → ℕ → Block
block_at s orders place =
    let w = wish_in s.dossier.wishes place in
    record { wish = place; left = seats_left s w.programme; envied = last_envied s orders w }

-- whether a block is of a wish that blocks
abbrev pub is_block : State → List CallOrder → Block → Bool
is_block s orders block =
    is_blocking s orders (wish_in s.dossier.wishes block.wish) (mark_in s.marks block.wish)

-- what is told of the wish at a place, where it blocks
abbrev pub found_at : State → List CallOrder → ℕ → Option Block
found_at s orders place =
    if is_block s orders (block_at s orders place) then Some (block_at s orders place) else None

-- the blocks of a state, by place
abbrev pub blocks_of : State → List CallOrder → List Block
blocks_of s orders = map (block_at s orders) (blocking s orders)

-- a wish whose candidate envies somebody
abbrev pub envy_by : ℕ → Option ℕ → Option Envy
envy_by wish None = None
envy_by wish (Some envied) = Some (record { wish = wish; envied = envied })

abbrev pub envy_in : Block → Option Envy
envy_in block = envy_by block.wish block.envied

-- the blocks where somebody is envied
abbrev pub envies_of : State → List CallOrder → List Envy
envies_of s orders = filter_map envy_in (blocks_of s orders)
