use Rattle.std.proofs.Common.{◌≡◌, ◌+◌, drop}
use Rattle.admit_core.specs.Chains.{day_fault, passes_fault}
use Rattle.certificate.specs.Checked.{state_after}
use Rattle.certificate.proofs.passes.check_day_on.Given as goal

abbrev pub invariant-loop-place : goal.invariant-loop-place
invariant-loop-place l =
    let rest = drop l.place l.passes in
    record {
      fault : day_fault l.grounds.orders l.ceilings l.day l.fn.present l.chain ≡ passes_fault
          l.grounds.orders l.ceilings l.day l.chain.next_row (l.place + 1) l.present rest;
      state : state_after l.grounds.orders l.ceilings l.day 1 l.fn.present l.chain.passes
          ≡ state_after l.grounds.orders l.ceilings l.day (l.place + 1) l.present rest;
      dossier : l.present.dossier ≡ l.fn.present.dossier;
    }
