use Rattle.std.proofs.Common.{ℕ, ◌≡◌, map, take}
use Rattle.std.specs.List.{enumerate_from}
use Rattle.admit_core.specs.declared.dossier.Wish.{Wish}
use Rattle.admit_core.specs.Answers.{status_at}
use Rattle.text_laws.specs.ReadBack.{since_when}
use Rattle.next_morning.proofs.dates.dated_rows.Given as goal

abbrev pub invariant-loop-place : goal.invariant-loop-place
invariant-loop-place l =
    l.rows.items ≡ map (λ (x : ℕ × Wish). record {
      wish = x.1.id;
      status = status_at l.evening x.0;
      since = since_when l.evening l.start l.terms.before x.0;
    }) (enumerate_from 0 (take l.place l.wishes))
