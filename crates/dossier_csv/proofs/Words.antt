-- The words of the statuses and of the answers are read back.
use Rattle.std.proofs.Common.{◌≡◌, Some, refl}
use Rattle.admit_core.specs.Lines.{status_word}
use Rattle.admit_core.specs.declared.dossier.AnswerKind.{AnswerKind}
use Rattle.admit_core.specs.declared.dossier.AnswerKind.TheVariants.{Accept, Refuse, Withdraw, Quit}
use Rattle.admit_core.specs.declared.state.Status.{Status}
use Rattle.admit_core.specs.declared.state.Status.TheVariants as status
use Rattle.dossier_csv.specs.Columns.{choice}
use Rattle.dossier_csv.specs.Rows.{kind_word, kinds, statuses}

pub each_status : (s : Status) → choice statuses (status_word s) ≡ Some s
each_status status.Waiting = refl
each_status status.Offered = refl
each_status status.Accepted = refl
each_status status.Refused = refl
each_status status.Withdrawn = refl
each_status status.Quit = refl
each_status status.AutoRefused = refl
each_status status.AutoWithdrawn = refl
each_status status.Lapsed = refl

pub each_kind : (k : AnswerKind) → choice kinds (kind_word k) ≡ Some k
each_kind Accept = refl
each_kind Refuse = refl
each_kind Withdraw = refl
each_kind Quit = refl
