use Rattle.std.proofs.Common.{ℕ, List, None, Option, ap, arith, sym, zip}
use Rattle.std.proofs.lemmas.Slice.Zip.{get_or-zip, length-zip}
use Rattle.markets.specs.Text.{match_line}
use Rattle.report.proofs.Pushing.{cut_item, cut_off, cut_off_as, pushed_all, pushed_as, pushed_item}
use Rattle.markets.proofs.text.push_matches.Goals as goal

pub returns-in_err-push_match : goal.returns-in_err-push_match
returns-in_err-push_match c =
    let candidates : List ℕ = c.args.candidates.now in
    let places : List (Option ℕ) = c.args.places.now in
    let i : ℕ = c.loop-at.at in
    cut_off c.from_residual.result c.from_residual.ensures.0
    (cut_item (match_line c.args.dossier.now) (zip candidates places) i (0, None)
    (omega (arith, length-zip candidates places)) c.loop-at.invariant
    (cut_off_as c.in_err-push_match.ensures
    (ap (match_line c.args.dossier.now) (sym (get_or-zip candidates places i (0, None) (omega arith) (omega arith))))))

pub loop-at-preserved : goal.loop-at-preserved
loop-at-preserved c =
    let candidates : List ℕ = c.args.candidates.now in
    let places : List (Option ℕ) = c.args.places.now in
    let i : ℕ = c.loop-at.at in
    pushed_item (match_line c.args.dossier.now) (zip candidates places) i (0, None)
    (omega (arith, length-zip candidates places)) c.loop-at.invariant
    (pushed_as c.in_ok-push_match.ensures
    (ap (match_line c.args.dossier.now) (sym (get_or-zip candidates places i (0, None) (omega arith) (omega arith)))))

pub returns : goal.returns
returns c =
    let candidates : List ℕ = c.args.candidates.now in
    let places : List (Option ℕ) = c.args.places.now in
    pushed_all (match_line c.args.dossier.now) (zip candidates places) c.loop-at.at
    (omega (arith, length-zip candidates places)) c.loop-at.invariant
