use Rattle.report.specs.FinalText.{status_row}
use Rattle.std.proofs.Common.{◌≡◌, List, None, ap, arith, flat_map, rules}
use Rattle.std.specs.List.{enumerate_from}
use Rattle.admit_core.specs.declared.dossier.Wish.{Wish}
use Rattle.report.proofs.Pushing.{cut_off, cut_off_as, cut_off_first, cut_off_next, pushed_as, pushed_then}
use Rattle.report.proofs.PushedItems.{cut_numbered, pushed_all_numbered, pushed_numbered}
use Rattle.report.proofs.final_state.push_final.Goals as goal

abbrev nobodys : Wish
nobodys = record { id = 0; candidate = 0; programme = 0; school = None; board_rank = 0; preference = 0 }

pub returns-in_err-push_text : goal.returns-in_err-push_text
returns-in_err-push_text c =
    let rows = flat_map (status_row c.args.state.now) (enumerate_from 0 c.args.state.now.dossier.wishes) in
    cut_off c.from_residual.result c.from_residual.ensures.0 (cut_off_first rows c.in_err-push_text.ensures)

pub returns-in_err-push_row : goal.returns-in_err-push_row
returns-in_err-push_row c =
    let k = c.loop-place.place in
    let wishes = c.as_slice-wishes.result.now in
    let f = status_row c.args.state.now in
    let same : wishes ≡ c.args.state.now.dossier.wishes = search rules in
    cut_off c.from_residual-in_err-push_row.result c.from_residual-in_err-push_row.ensures.0
    (cut_off_next c.in_ok-push_text.ensures
    (cut_off_as (cut_numbered f 0 wishes k k nobodys (omega arith) (omega arith) c.loop-place.invariant
    (rw c.status-status.ensures at c.in_err-push_row.ensures))
    (ap (λ (ws : List Wish). flat_map f (enumerate_from 0 ws)) same)))

pub loop-place-preserved : goal.loop-place-preserved
loop-place-preserved c =
    let k = c.loop-place.place in
    let wishes = c.as_slice-wishes.result.now in
    pushed_numbered (status_row c.args.state.now) 0 wishes k k nobodys (omega arith) (omega arith)
    c.loop-place.invariant (rw c.status-status.ensures at c.in_ok-push_row.ensures)

pub returns : goal.returns
returns c =
    let f = status_row c.args.state.now in
    let wishes = c.as_slice-wishes.result.now in
    let same : wishes ≡ c.args.state.now.dossier.wishes = search rules in
    pushed_then c.in_ok-push_text.ensures
    (pushed_as (pushed_all_numbered f 0 wishes c.loop-place.place (omega arith) c.loop-place.invariant)
    (ap (λ (ws : List Wish). flat_map f (enumerate_from 0 ws)) same))
