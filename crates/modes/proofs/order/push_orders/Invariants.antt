use Rattle.std.proofs.Common.{◌≡◌, ◌++◌, flat_map, string_bytes}
use Rattle.report.specs.OrderText.{order_text}
use Rattle.modes.proofs.order.push_orders.Given as goal

abbrev pub invariant-loop-group : goal.invariant-loop-group
invariant-loop-group l = string_bytes l.text ≡ string_bytes l.fn.text
    ++ flat_map (λ p. order_text p.0.now.id p.1.now) l.yielded
