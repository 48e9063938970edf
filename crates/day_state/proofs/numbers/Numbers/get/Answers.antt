use Rattle.std.proofs.Common.{◌∙◌, true, false, ap, sym, refl}
use Rattle.std.specs.Prelude.{slice_index_or}
use Rattle.day_state.specs.declared.numbers.BundleNumber.TheVariants.{Shared}
use Rattle.day_state.proofs.Entries.{number_read}
use Rattle.day_state.proofs.numbers.Numbers.get.Goals as goal

pub returns-then-get : goal.returns-then-get
returns-then-get c =
    let n = c.self.inside in
    ap Shared c.number_from.ensures
    ∙ number_read n.sited n.several n.entries.items c.args.self.now c.args.wish
    (slice_index_or n.sited c.args.wish false) true c.self.view_is c.requires refl (sym c.if-get.true ∙ c.get.ensures)

pub returns-then-get-2 : goal.returns-then-get-2
returns-then-get-2 c =
    let n = c.self.inside in
    number_read n.sited n.several n.entries.items c.args.self.now c.args.wish true false c.self.view_is c.requires
    (sym c.if-get-2.true ∙ c.get-2.ensures) (sym c.if-get.false ∙ c.get.ensures)

pub returns-else-get-2 : goal.returns-else-get-2
returns-else-get-2 c =
    let n = c.self.inside in
    number_read n.sited n.several n.entries.items c.args.self.now c.args.wish false false c.self.view_is c.requires
    (sym c.if-get-2.false ∙ c.get-2.ensures) (sym c.if-get.false ∙ c.get.ensures)
