use Rattle.std.proofs.Common.{◌≡◌, take, drop}
use Rattle.admit_core.specs.Faults.{first_after, first_in}
use Rattle.dossier_check.proofs.scan.scan.Given as goal

abbrev pub invariant-loop-place : goal.invariant-loop-place
invariant-loop-place g l = record {
  same_tests : g.C.RowChecks.tests l.checks ≡ g.C.RowChecks.tests l.initial.checks;
  seen : g.C.RowChecks.has_seen l.checks (take l.place l.rows);
  fault : first_in l.slot (g.C.RowChecks.tests l.initial.checks) l.rows
      ≡ first_after l.slot (g.C.RowChecks.tests l.initial.checks) (take l.place l.rows) (drop l.place l.rows);
}
