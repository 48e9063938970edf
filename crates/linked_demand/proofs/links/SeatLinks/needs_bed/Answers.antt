use Rattle.std.proofs.Common.{◌≡◌, true, ap, not, subst, sym, ◌∙◌}
use Rattle.admit_core.specs.State.{is_waiting}
use Rattle.day_state.specs.Kept.{mark_in}
use Rattle.linked_demand.specs.declared.rows.RowWish.{RowWish}
use Rattle.linked_demand.specs.Links.{LinksRow}
use Rattle.linked_demand.specs.Rows.{TellsOfSchool, needs_bed}
use Rattle.linked_demand.proofs.links.SeatLinks.needs_bed.Goals as goal

pub has_item_bed-requires : goal.has_item_bed-requires
has_item_bed-requires c =
    let P = λ (l : LinksRow). TellsOfSchool l.state.dossier c.args.item.now in
    subst P (sym c.self.view_is) (record {
      within = c.requires.within;
      shared = ap (λ (x : RowWish). x.shared) c.requires.item;
    })

pub returns-then-waits : goal.returns-then-waits
returns-then-waits c =
    let waits : is_waiting (mark_in c.self.inside.state.now.marks c.args.item.now.wish) ≡ true =
    sym c.waits.ensures ∙ c.if-waits.true in
    let P = λ (l : LinksRow). not c.has_item_bed.result ≡ needs_bed l.state c.args.item.now in
    subst P c.self.view_is (rw waits (ap not (c.has_item_bed.ensures waits)))
