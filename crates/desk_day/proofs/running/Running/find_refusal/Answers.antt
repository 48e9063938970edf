use Rattle.std.proofs.Common.{subst, sym}
use Rattle.std.specs.Option.{option_copied}
use Rattle.admit_core.specs.Lapses.{AreTermsFor}
use Rattle.desk_day.specs.Running.{RunningStates}
use Rattle.desk_day.proofs.running.Running.find_refusal.Goals as goal

pub find_refusal-requires : goal.find_refusal-requires
find_refusal-requires c =
    subst (λ (r : RunningStates). AreTermsFor r.present.dossier (option_copied c.args.terms)) (sym c.self.view_is)
    c.requires
