use Rattle.std.proofs.Common.{List, length, ◌∙◌, sym, subst, refl, arith, ◌<◌}
use Rattle.std.specs.Prelude.{All}
use Rattle.day_state.specs.declared.numbers.SharedWish.{SharedWish}
use Rattle.day_state.specs.declared.numbers.BundleNumber.{BundleNumber}
use Rattle.day_state.specs.Bundles.{bundles_of, AreEntriesOf, HaveEntries}
use Rattle.day_state.proofs.Entries.{entries_tell, entries_within, numbers_are}
use Rattle.day_state.proofs.Numbered.{shared_fits}
use Rattle.day_state.proofs.Numbering.{bundles_are}
use Rattle.day_state.proofs.bundle_numbers.number_all.Goals as goal

pub entries_of-requires : goal.entries_of-requires
entries_of-requires c = record {
  few = shared_fits (bundles_of c.args.sites c.args.wishes.now) c.args.shared.now c.requires.shared
      (omega (arith, (bundles_are c.args.sites c.args.wishes.now).as_long, c.requires.few));
}

pub several_of-requires : goal.several_of-requires
several_of-requires c =
    let sites = c.args.sites in
    let ws = c.args.wishes.now in
    let P = λ (xs : List SharedWish). All (λ (e : SharedWish). e.wish < length ws) xs in
    subst P (sym c.deref.ensures.value)
    (entries_within sites ws c.in_ok-entries.entries.items (length ws)
    (c.in_ok-entries.ensures sites ws c.requires.shared c.requires.laters) refl)

pub new-requires : goal.new-requires
new-requires c =
    let sites = c.args.sites in
    let ws = c.args.wishes.now in
    let entries = c.in_ok-entries.entries.items in
    let are = c.in_ok-entries.ensures sites ws c.requires.shared c.requires.laters in
    let Have = λ (xs : List SharedWish). HaveEntries xs (length ws) c.in_ok-several.several in
    let Of = λ (ns : List BundleNumber). AreEntriesOf ns entries in
    subst Of
    (sym (numbers_are sites ws entries are c.in_ok-sited.sited c.in_ok-several.several
    c.in_ok-sited.ensures (subst Have c.deref.ensures.value c.in_ok-several.ensures)))
    (entries_tell sites ws entries are)

pub returns : goal.returns
returns c =
    let sites = c.args.sites in
    let ws = c.args.wishes.now in
    let P = λ (xs : List SharedWish). HaveEntries xs (length ws) c.in_ok-several.several in
    c.in_ok-new.ensures
    ∙ numbers_are sites ws c.in_ok-entries.entries.items
    (c.in_ok-entries.ensures sites ws c.requires.shared c.requires.laters) c.in_ok-sited.sited c.in_ok-several.several
    c.in_ok-sited.ensures (subst P c.deref.ensures.value c.in_ok-several.ensures)
