use Rattle.desk_day.proofs.OnceEach.{AreLed}
use Rattle.desk_day.proofs.once.lead_to_firsts.Given as goal

abbrev pub invariant-loop-index : goal.invariant-loop-index
invariant-loop-index l = AreLed l.state.dossier l.index l.initial.places.items l.places.items
