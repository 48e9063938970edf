use Rattle.std.proofs.Common.{map}
use Rattle.std.specs.Option.{option_copied}
use Rattle.desk_day.specs.KeptDays.{kept_day}
use Rattle.round.specs.KeptFalls.{IsKeptOf, are_kept}
use Rattle.played.specs.Lent.{AreThere, lent}
use Rattle.played.proofs.DaysSoFar.{SoFar}
use Rattle.played.proofs.days.play_days.Given as goal

pub record Invariant (SoFar There : Type 0) : Type 0 where
  pub so_far : SoFar
  pub there : There

abbrev pub invariant-loop-played : goal.invariant-loop-played
invariant-loop-played g l =
    Invariant
    (IsKeptOf (map (kept_day (are_kept l.wanted.falls)))
    (λ days. SoFar (record { orders = l.roster.orders; terms = option_copied l.terms; who = l.wanted.who })
    (record {
      desk = l.fn.desk;
      pickers = lent (λ p. (goal.Picker-dyn g (p.vtable, p.value)).told p.value)
          (λ p. (goal.Picker-dyn g (p.vtable, p.value)).choice p.value) l.fn.pickers;
    })
    l.played days
    (record {
      desk = l.desk;
      pickers = lent (λ p. (goal.Picker-dyn g (p.vtable, p.value)).told p.value)
          (λ p. (goal.Picker-dyn g (p.vtable, p.value)).choice p.value) l.pickers;
    })) l.days.items)
    (AreThere l.pickers)
