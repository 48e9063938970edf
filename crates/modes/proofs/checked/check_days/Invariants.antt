use Rattle.std.proofs.Common.{◌≡◌, ◌+◌, All, drop}
use Rattle.std.specs.Option.{option_copied}
use Rattle.certificate.specs.ProvedDays.{evening_after}
use Rattle.desk_day.specs.RunDay.{IsStampedBy}
use Rattle.modes.specs.Checking.{DaysMayLackMemory, why_not_all}
use Rattle.modes.proofs.checked.check_days.Given as goal

abbrev pub invariant-loop-place : goal.invariant-loop-place
invariant-loop-place l =
    let terms = option_copied l.terms in
    let orders = l.grounds.orders in
    let rest = drop l.place l.days in
    record {
      why : why_not_all terms orders 1 l.fn.present l.days ≡ why_not_all terms orders (l.place + 1) l.present rest;
      evening : evening_after terms orders 1 l.fn.present l.days
          ≡ evening_after terms orders (l.place + 1) l.present rest;
      dossier : l.present.dossier ≡ l.fn.present.dossier;
      stamped : All (IsStampedBy 366) l.fn.present.marks → All (IsStampedBy 366) l.present.marks;
      lacks : DaysMayLackMemory terms (l.place + 1) l.present rest → DaysMayLackMemory terms 1 l.fn.present l.days;
    }
