use Rattle.std.proofs.Common.{◌++◌, ◌∷◌, codes, decimal, map}
use Rattle.admit_core.specs.Lines.{bound_letter}
use Rattle.report.specs.Words.{further, line}
use Rattle.report.proofs.Pushing.{cut_off, cut_off_first, cut_off_next, pushed_then, pushes_then}
use Rattle.report.proofs.order.push_order.Goals as goal

pub returns-in_err-push_all : goal.returns-in_err-push_all
returns-in_err-push_all c =
    let order = c.args.order.now in
    let rule = line (codes "rule" ∷ (decimal c.args.id ++ codes ":") ∷ map bound_letter order.trace) in
    cut_off c.from_residual.result c.from_residual.ensures.0
    (cut_off_first rule (cut_off_first (further 32 (map decimal order.list)) c.in_err-push_all.ensures))

pub returns-in_err-push_list : goal.returns-in_err-push_list
returns-in_err-push_list c =
    let rule = line (codes "rule" ∷ (decimal c.args.id ++ codes ":") ∷ map bound_letter c.args.order.now.trace) in
    cut_off c.from_residual-in_err-push_list.result c.from_residual-in_err-push_list.ensures.0
    (cut_off_first rule
    (cut_off_next c.in_ok-push_all.ensures (rw c.as_slice.ensures at c.in_err-push_list.ensures)))

pub returns-in_err-push_all-2 : goal.returns-in_err-push_all-2
returns-in_err-push_all-2 c =
    cut_off c.from_residual-in_err-push_all-2.result c.from_residual-in_err-push_all-2.ensures.0
    (cut_off_next (pushed_then c.in_ok-push_all.ensures (rw c.as_slice.ensures at c.in_ok-push_list.ensures))
    (cut_off_first (further 32 (map bound_letter c.args.order.now.trace)) c.in_err-push_all-2.ensures))

pub returns : goal.returns
returns c =
    let letters = further 32 (map bound_letter c.args.order.now.trace) in
    let rule = line (codes "rule" ∷ (decimal c.args.id ++ codes ":") ∷ map bound_letter c.args.order.now.trace) in
    let list = rw c.as_slice.ensures at c.in_ok-push_list.ensures in
    pushes_then c.push_letters.result c.push_letters.new.text rule (pushed_then c.in_ok-push_all.ensures list)
    (pushes_then c.push_letters.result c.push_letters.new.text letters c.in_ok-push_all-2.ensures
    (rw c.as_slice-2.ensures at c.push_letters.ensures))
