use Rattle.std.proofs.Common.{◌≡◌, ◌∙◌, sym, ap, ℕ, ◌<◌, get_or, length, false, true, None, List}
use Rattle.std.proofs.Common.{Option, replicate, subst}
use Rattle.std.proofs.lemmas.List.{get_or_default, length-replicate}
use Rattle.admit_core.specs.Lists.{is_among}
use Rattle.admit_core.specs.State.{State}
use Rattle.linked_demand.specs.Demand.{all_proposed}
use Rattle.linked_demand.specs.Housed.{AreBare}
use Rattle.linked_demand.specs.Lent.{left_of}
use Rattle.linked_demand.specs.Rounds.{IsRound}
use Rattle.linked_demand.specs.Rows.{rows_to, AreEnds}
use Rattle.linked_demand.proofs.BareRows.{bare_housed}
use Rattle.linked_demand.proofs.CalledRows.{among_itself}
use Rattle.linked_demand.proofs.Fronted.{all_listed, proposed_within}
use Rattle.linked_demand.proofs.RowsRight.{rows_right}
use Rattle.linked_demand.proofs.FirstBoarders.{by_rank_each}
use Rattle.linked_demand.proofs.Lent.{length_left}
use Rattle.linked_demand.proofs.Lowered.{round_built, answers_built}
use Rattle.linked_demand.proofs.RowsTo.{ends_within}
use Rattle.linked_demand.proofs.Waiting.{all_open_wait}
use Rattle.linked_demand.proofs.schools.schools_of.Goals as goal

pub ends_of-requires-clause-boarders : goal.ends_of-requires-clause-boarders
ends_of-requires-clause-boarders c =
    let links = c.args.links.now in
    by_rank_each links.state.dossier links.orders c.args.boarders.now c.requires.boarders

pub bare_rows-requires-clause-rows : goal.bare_rows-requires-clause-rows
bare_rows-requires-clause-rows c =
    let links = c.args.links.now in
    by_rank_each links.state.dossier links.orders c.args.boarders.now c.requires.boarders

pub bare_rows-requires-clause-ends : goal.bare_rows-requires-clause-ends
bare_rows-requires-clause-ends c =
    let E = λ (es : List ℕ). AreEnds c.args.boarders.now es in
    subst E (sym c.deref.ensures.value)
    (ends_within c.args.bars.now c.args.boarders.now c.in_ok-ends.ends.items c.in_ok-ends.ensures)

pub proposed_listed-requires : goal.proposed_listed-requires
proposed_listed-requires c =
    let s = c.args.links.now.state in
    let P = λ (t : State). length t.marks ≡ length t.dossier.wishes in
    let long = subst P c.state-state.ensures (rw c.marks.ensures.marks at c.marks.ensures.one_each) in
    all_open_wait s long c.args.bars.now c.args.links.now.opens c.requires.opens

pub house_listed-requires-clause-wishes : goal.house_listed-requires-clause-wishes
house_listed-requires-clause-wishes c = λ k d lt.
    let links = c.args.links.now in
    let listed = c.in_ok-proposed.proposed.items in
    let Within = λ (ks : List ℕ). k < length ks → get_or ks k d < length links.state.dossier.wishes in
    subst Within (sym c.deref-2.ensures.value)
    (λ less.
    let here = get_or_default listed k 0 d less in
    let own : is_among (get_or listed k d) listed ≡ true =
    ap (λ n. is_among n listed) (sym here) ∙ among_itself listed k less in
    proposed_within links listed c.in_ok-proposed.ensures (get_or listed k d) own) lt

pub house_listed-requires-clause-waits : goal.house_listed-requires-clause-waits
house_listed-requires-clause-waits c =
    let s = c.args.links.now.state in
    let P = λ (t : State). length t.marks ≡ length t.dossier.wishes in
    let long = subst P c.state-state.ensures (rw c.marks.ensures.marks at c.marks.ensures.one_each) in
    all_open_wait s long c.args.bars.now c.args.links.now.opens c.requires.opens

pub house_listed-requires-clause-housed : goal.house_listed-requires-clause-housed
house_listed-requires-clause-housed c =
    c.in_ok-housed.ensures.one_each ∙ c.requires.boarders.rows_are.one_each

pub house_listed-requires-clause-overfilled : goal.house_listed-requires-clause-overfilled
house_listed-requires-clause-overfilled c =
    ap length c.in_ok-overfilled.ensures
    ∙ length-replicate {A = Option ℕ} c.school_count.result None
    ∙ c.school_count.ensures
    ∙ ap (λ (t : State). length t.dossier.schools) c.state-state.ensures

pub returns : goal.returns
returns c =
    let links = c.args.links.now in
    let s = links.state in
    let bars = c.args.bars.now in
    let boarders = c.args.boarders.now in
    let free = left_of s c.args.beds.now in
    let ends = c.in_ok-ends.ends.items in
    let rows = rows_to s boarders ends in
    let P = λ (t : State). length t.marks ≡ length t.dossier.wishes in
    let long = subst P c.state-state.ensures (rw c.marks.ensures.marks at c.marks.ensures.one_each) in
    let right = rows_right s links.orders bars boarders ends long c.requires.boarders c.in_ok-ends.ensures in
    let round : IsRound links bars free rows =
    round_built links bars free rows c.requires.opens long c.requires.bars
    (length_left s c.args.beds.now) right.0 right.1 in
    let within = ends_within bars boarders ends c.in_ok-ends.ensures in
    let Bare = λ (es : List ℕ). AreBare boarders es c.in_ok-housed.housed.items in
    let listed = c.deref-2.result.now in
    let Alike = λ (ks : List ℕ). (k : ℕ) → is_among k ks ≡ is_among k (all_proposed links) in
    let listed_are = subst Alike (sym c.deref-2.ensures.value) c.in_ok-proposed.ensures in
    let count : c.school_count.result ≡ length boarders =
    c.school_count.ensures ∙ ap (λ (t : State). length t.dossier.schools) c.state-state.ensures
    ∙ sym c.requires.boarders.rows_are.one_each in
    let start = bare_housed links boarders ends free within.one_each c.in_ok-housed.housed.items
    (subst Bare c.deref.ensures.value c.in_ok-housed.ensures) c.in_ok-overfilled.overfilled
    (c.in_ok-overfilled.ensures ∙ ap (λ n. replicate {A = Option ℕ} n None) count) (λ k. is_among k listed)
    (λ h k row x at there pass.
    let (w, m, waits) = (right.0.each h row at).each k x there in
    all_listed links listed listed_are x.wish w m waits.waits pass) in
    record {
      under = answers_built links bars free rows round c.house_listed.new.overfilled c.in_ok-marked.marked
          c.house_listed.new.housed.items
          (ap length c.in_ok-marked.ensures ∙ length-replicate c.wish_count.result false ∙ c.wish_count.ensures
          ∙ ap (λ (t : State). length t.dossier.wishes) c.state-state.ensures)
          (c.house_listed.ensures bars rows round start);
      beds_each = c.requires.beds;
      boarders_are = c.requires.boarders;
      ends_are = within;
    }
