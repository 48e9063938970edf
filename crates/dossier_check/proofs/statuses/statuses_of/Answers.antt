use Rattle.std.proofs.Common.{◌≡◌, ◌-◌, ◌≤◌, length, map, drop, replicate, subst, sym, ap, ◌∙◌}
use Rattle.admit_core.specs.declared.state.Status.TheVariants.{Waiting}
use Rattle.dossier_check.specs.Statuses.{status_in}
use Rattle.dossier_check.proofs.Firsts.{length-map-here}
use Rattle.dossier_check.proofs.PutStatuses.{none_put, row_before, all_put}
use Rattle.dossier_check.proofs.statuses.statuses_of.Goals as goal

pub loop-after-init : goal.loop-after-init
loop-after-init c =
    let t = c.args.tables.now in
    let put : c.in_ok-statuses.statuses.items ≡ map (status_in (drop (length t.state - 0) t.state)) t.wishes =
    c.in_ok-statuses.ensures.waiting ∙ ap (λ n. replicate n Waiting) c.len.ensures
    ∙ none_put t.state t.wishes in
    record {
      put = put;
      len = ap length put ∙ length-map-here _ t.wishes
          ∙ sym (ap length c.requires ∙ length-map-here (λ w. w.id) t.wishes);
    }

pub loop-after-preserved : goal.loop-after-preserved
loop-after-preserved c =
    let t = c.args.tables.now in
    let rows = c.as_slice-rows.result.now in
    let after = c.loop-after.after in
    let same : rows ≡ t.state = c.as_slice-rows.ensures in
    let so_far : c.loop-after.statuses.items ≡ map (status_in (drop (length rows - after) rows)) t.wishes =
    rw same c.loop-after.invariant.put in
    let put = c.put_status.ensures.put t.wishes (drop (length rows - after) rows) c.requires so_far
    ∙ ap (λ rs. map (status_in rs) t.wishes) (row_before rows after _ c.loop-after-test.true) in
    record {
      put = rw (← same) put;
      len = c.put_status.ensures.len ∙ c.loop-after.invariant.len;
    }

pub returns-clause-statuses : goal.returns-clause-statuses
returns-clause-statuses c =
    let t = c.args.tables.now in
    let after = c.loop-after.after in
    let le : length t.state ≤ after = subst (λ rows. length rows ≤ after) c.as_slice-rows.ensures
    c.loop-after-test.false in
    c.loop-after.invariant.put ∙ ap (λ rows. map (status_in rows) t.wishes) (all_put t.state after le)
