-- A mark that is set again leaves all as it is.
use Rattle.std.proofs.Common.{ℕ, ◌≡◌, true, ◌&&◌, List, sym, ◌∙◌, ap}
use Rattle.std.specs.Prelude.{◌==◌, slice_set}
use Rattle.std.proofs.Math.ListN.{set}
use Rattle.std.proofs.lemmas.Bool.{and_parts, eqb-true}
use Rattle.std.proofs.lemmas.List.{set-get_or}
use Rattle.std.proofs.lemmas.Option.{unwrap_or-slice_get}
use Rattle.admit_core.specs.declared.state.Mark.{Mark}
use Rattle.admit_core.specs.declared.state.Status.{Status}
use Rattle.admit_core.specs.State.{State, status_number, with_mark_at}
use Rattle.admit_core.proofs.Statuses.{changed_status}
use Rattle.day_state.specs.Kept.{mark_in, is_same_mark, waiting_mark}

status_same : (m : Mark) (x : Status) → (status_number m.status == status_number x) ≡ true → m.status ≡ x
status_same m x same = let e = changed_status x m.stamp m in rw same at e

pub mark_same : (m n : Mark) → is_same_mark m n ≡ true → m ≡ n
mark_same m n same =
    let parts = and_parts (status_number m.status == status_number n.status)
    ((m.stamp.day == n.stamp.day) && (m.stamp.pass == n.stamp.pass)) same in
    let stamps = and_parts (m.stamp.day == n.stamp.day) (m.stamp.pass == n.stamp.pass) parts.1 in
    let status : m.status ≡ n.status = status_same m n.status parts.0 in
    let day : m.stamp.day ≡ n.stamp.day = eqb-true m.stamp.day n.stamp.day stamps.0 in
    let pass : m.stamp.pass ≡ n.stamp.pass = eqb-true m.stamp.pass n.stamp.pass stamps.1 in
    λ i. let r : Mark = record { status = status i; stamp = record { day = day i; pass = pass i } } in r

-- the mark that a place has
pub set_again : (s : State) (k : ℕ) (m : Mark) → mark_in s.marks k ≡ m → s ≡ with_mark_at s k m
set_again s k m is =
    let kept : slice_set s.marks k m ≡ s.marks =
    ap (slice_set s.marks k) (sym is ∙ unwrap_or-slice_get s.marks k waiting_mark)
    ∙ set-get_or s.marks k waiting_mark in
    ap (λ (ms : List Mark). let t : State = record { dossier = s.dossier; marks = ms } in t) (sym kept)
