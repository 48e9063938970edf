use Rattle.std.proofs.Common.{◌≡◌, ◌<◌, ◌∙◌, ap, sym, length, arith, List}
use Rattle.admit_core.specs.declared.state.Mark.{Mark}
use Rattle.admit_core.specs.DossierRows.{DossierRows}
use Rattle.auto_answer.proofs.AnsweringAll.{all_asked, asked_here, asked_nobody, counts_there, same_rows}
use Rattle.auto_answer.proofs.answers.auto_all.Goals as goal

pub loop-place-init : goal.loop-place-init
loop-place-init c = asked_nobody c.args.state.now c.args.stamp
    (ap (λ (ms : List Mark). length ms) (sym c.marks.ensures.marks) ∙ c.marks.ensures.one_each)

pub ask_at-all-requires : goal.ask_at-all-requires
ask_at-all-requires c =
    let d = c.args.state.now.dossier in
    let few = ap (λ (d : DossierRows). length d.wishes) (c.behind-state.view_is ∙ c.dossier.ensures) in
    let count : c.len-count.result ≡ length d.wishes = c.len-count.ensures ∙ few in
    let lt : c.loop-place.place < length d.wishes = rw count at c.loop-place-test.true in
    record {
      place =
          rw (same_rows c.args.state.now c.loop-place.state c.args.stamp c.loop-place.place c.loop-place.all
          c.loop-place.invariant) lt;
      counts =
          counts_there c.args.state.now c.loop-place.state c.args.stamp c.loop-place.place c.loop-place.all
          c.loop-place.invariant lt (omega (arith, few, c.behind-state.invariant.size.wishes));
    }

pub loop-place-preserved : goal.loop-place-preserved
loop-place-preserved c =
    let d = c.args.state.now.dossier in
    let i = c.loop-place.place in
    let count : c.len-count.result ≡ length d.wishes = c.len-count.ensures
    ∙ ap (λ (d : DossierRows). length d.wishes) (c.behind-state.view_is ∙ c.dossier.ensures) in
    let lt : i < length d.wishes = rw count at c.loop-place-test.true in
    asked_here c.args.state.now c.loop-place.state c.args.stamp i c.loop-place.all c.loop-place.invariant
    c.ask_at-all.new.state c.ask_at-all.result lt c.ask_at-all.ensures.state c.ask_at-all.ensures.freed

pub returns : goal.returns
returns c =
    let d = c.args.state.now.dossier in
    let count : c.len-count.result ≡ length d.wishes = c.len-count.ensures
    ∙ ap (λ (d : DossierRows). length d.wishes) (c.behind-state.view_is ∙ c.dossier.ensures) in
    let end = all_asked c.args.state.now c.loop-place.state c.args.stamp c.loop-place.place c.loop-place.all
    c.loop-place.invariant (rw count at c.loop-place-test.false) in
    record { state = end.0; freed = rw end.0 end.1 }
