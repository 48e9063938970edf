use Rattle.std.proofs.Common.{◌≡◌, ◌++◌, flat_map, string_bytes, take}
use Rattle.std.specs.Option.{option_copied}
use Rattle.modes.specs.Order.{orders_text}
use Rattle.modes.specs.Replay.{day_lines}
use Rattle.modes.proofs.replay.push_days.Given as goal

abbrev pub invariant-loop-day : goal.invariant-loop-day
invariant-loop-day l =
    string_bytes l.text
    ≡ string_bytes l.fn.text ++ orders_text l.dossier.groups l.orders
    ++ flat_map (day_lines l.dossier (option_copied l.dated)) (take l.day-index l.days)
