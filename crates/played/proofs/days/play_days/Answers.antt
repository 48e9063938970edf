use Rattle.std.proofs.Common.{◌≡◌, arith}
use Rattle.std.specs.Option.{option_copied}
use Rattle.admit_core.specs.DossierRows.{DossierRows}
use Rattle.admit_core.specs.Lapses.{AreTermsFor}
use Rattle.played.proofs.KeptDays.{kept_all, kept_on, kept_out, kept_some, kept_still, none_kept}
use Rattle.played.proofs.days.play_days.Goals as goal

pub loop-played-init : goal.loop-played-init
loop-played-init g c = record { so_far = none_kept _ _ _ _ c.requires.none; there = c.requires.there }

pub next_day-requires-clause-roster : goal.next_day-requires-clause-roster
next_day-requires-clause-roster g c =
    kept_still _ c.loop-played.invariant.so_far (λ (d : DossierRows). c.args.roster.now.dossier ≡ d)
    c.requires.roster

pub next_day-requires-clause-terms : goal.next_day-requires-clause-terms
next_day-requires-clause-terms g c =
    kept_still _ c.loop-played.invariant.so_far (λ (d : DossierRows).
    AreTermsFor d (option_copied c.args.terms)) c.requires.terms

pub next_day-requires-clause-there : goal.next_day-requires-clause-there
next_day-requires-clause-there g c = c.loop-played.invariant.there

pub returns-in_err-day-clause-plays : goal.returns-in_err-day-clause-plays
returns-in_err-day-clause-plays g c =
    kept_some _ c.loop-played.invariant.so_far c.args.wanted.number c.in_err-day.field-0.0 _
    c.from_residual.result c.from_residual.ensures.1 c.loop-played-test.true
    c.in_err-day.ensures.ends

pub returns-in_err-keep-clause-plays : goal.returns-in_err-keep-clause-plays
returns-in_err-keep-clause-plays g c =
    kept_out _ c.loop-played.invariant.so_far c.args.wanted.number c.in_ok-day.day _ _
    c.from_residual-in_err-keep.result c.from_residual-in_err-keep.ensures.1
    c.loop-played-test.true c.in_ok-day.ensures.ends

pub loop-played-preserved : goal.loop-played-preserved
loop-played-preserved g c = record {
  so_far = kept_on _ c.loop-played.invariant.so_far c.in_ok-day.day _ _ c.in_ok-day.ensures.ends c.in_ok-keep.ensures;
  there = c.in_ok-day.ensures.there;
}

pub returns-clause-plays : goal.returns-clause-plays
returns-clause-plays g c = kept_all _ c.loop-played.invariant.so_far c.args.wanted.number (omega arith)
