-- The two lines of a group's call order.
use Rattle.std.specs.Prelude.{ℕ, List, ◌∷◌, ◌++◌, codes, map}
use Rattle.std.specs.Fmt.{decimal}
use Rattle.admit_core.specs.Lines.{bound_letter}
use Rattle.admit_core.specs.declared.ranking.CallOrder.{CallOrder}
use Rattle.report.specs.Words.{line}

-- the candidates in call order, and the bound of each position
abbrev pub order_text : ℕ → CallOrder → List ℕ
order_text id order =
    line (codes "order" ∷ (decimal id ++ codes ":") ∷ map decimal order.list)
    ++ line (codes "rule" ∷ (decimal id ++ codes ":") ∷ map bound_letter order.trace)
