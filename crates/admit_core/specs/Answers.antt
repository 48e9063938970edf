-- What candidates' answers do.
use Rattle.std.specs.Prelude.{filter, ℕ, ◌+◌, Bool, true, ◌&&◌, ◌||◌, List, [], ◌∷◌, Option, Some, None, unwrap_or}
use Rattle.std.specs.Prelude.{◌==◌, slice_get, if◌then◌else◌}
use Rattle.admit_core.specs.declared.dossier.Answer.{Answer}
use Rattle.admit_core.specs.declared.dossier.AnswerKind.{AnswerKind}
use Rattle.admit_core.specs.declared.dossier.AnswerKind.TheVariants.{Accept, Refuse, Withdraw, Quit}
use Rattle.admit_core.specs.declared.state.Status.{Status}
use Rattle.admit_core.specs.declared.state.Status.TheVariants.{Waiting, Accepted, Refused, Withdrawn, Quit as HasQuit}
use Rattle.admit_core.specs.declared.state.Stamp.{Stamp}
use Rattle.admit_core.specs.declared.state.Mark.{Mark}
use Rattle.admit_core.specs.DossierRows.{candidate_of}
use Rattle.admit_core.specs.State.{State, with_marks, with_mark_at, is_live, is_waiting, is_live_status}
use Rattle.admit_core.specs.State.{is_waiting_status, changed_to}

-- the mark, the status and the candidate of the wish at a place
abbrev pub mark_at : State → ℕ → Mark
mark_at s place =
    unwrap_or (slice_get s.marks place)
    (record { status = Waiting; stamp = record { day = 0; pass = 0 } })

abbrev pub status_at : State → ℕ → Status
status_at s place = (mark_at s place).status

abbrev pub candidate_at : State → ℕ → ℕ
candidate_at s place = candidate_of s.dossier place

abbrev pub kind_fits : AnswerKind → Status → Bool
kind_fits Accept status = is_live_status status
kind_fits Refuse status = is_live_status status
kind_fits Withdraw status = is_waiting_status status
kind_fits Quit status = true

-- accepting and refusing fit a live wish, withdrawing a waiting one, quitting always
abbrev pub fits : State → Answer → Bool
fits s a = kind_fits a.kind (status_at s a.target)

-- the state in which the wish at a place gets a status
abbrev pub change_at : State → ℕ → Status → Stamp → State
change_at s place status stamp = with_mark_at s place (changed_to status stamp (mark_at s place))

-- the state in which a candidate's live wishes become refused, and that in which all their live and
-- waiting ones become quit
abbrev pub refuse_live : State → ℕ → Stamp → State
refuse_live s c stamp =
    with_marks s (λ w m. if is_live m && (w.candidate == c) then changed_to Refused stamp m else m)

abbrev pub quit_all : State → ℕ → Stamp → State
quit_all s c stamp =
    with_marks s (λ w m. if (is_live m || is_waiting m) && (w.candidate == c)
    then changed_to HasQuit stamp m else m)

-- the state after an answer that fits
abbrev pub after_kind : AnswerKind → State → ℕ → Stamp → State
after_kind Accept s place stamp =
    with_mark_at (refuse_live s (candidate_at s place) stamp) place
    (changed_to Accepted stamp (mark_at s place))
after_kind Refuse s place stamp = change_at s place Refused stamp
after_kind Withdraw s place stamp = change_at s place Withdrawn stamp
after_kind Quit s c stamp = quit_all s c stamp

abbrev pub after : State → Stamp → Answer → State
after s stamp a = after_kind a.kind s a.target stamp

-- the state after a list of answers
abbrev pub after_all : State → Stamp → List Answer → State
after_all s stamp [] = s
after_all s stamp (a ∷ rest) = after_all (after s stamp a) stamp rest

-- the index of the first answer that does not fit where it comes, with the status found
abbrev pub first_unfit : ℕ → State → Stamp → List Answer → Option (ℕ × Status)
first_unfit k s stamp [] = None
first_unfit k s stamp (a ∷ rest) =
    if fits s a then first_unfit (k + 1) (after s stamp a) stamp rest
    else Some (k, status_at s a.target)

abbrev pub is_own_kind : AnswerKind → State → ℕ → ℕ → Bool
is_own_kind Accept s c target = candidate_at s target == c
is_own_kind Refuse s c target = candidate_at s target == c
is_own_kind Withdraw s c target = candidate_at s target == c
is_own_kind Quit s c target = target == c

-- the answers of a list that speak of a candidate or of their wishes
abbrev pub own : State → ℕ → List Answer → List Answer
own s c answers = filter (λ a. is_own_kind a.kind s c a.target) answers
