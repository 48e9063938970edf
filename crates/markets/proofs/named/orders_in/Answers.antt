use Rattle.std.proofs.Common.{◌≡◌, ◌∙◌, ℕ, List, length, sym, ap, subst, arith}
use Rattle.std.specs.List.{range_with_len}
use Rattle.std.specs.List.Sorted.{IsPermutation}
use Rattle.admit_core.specs.DossierRows.{DossierRows}
use Rattle.admit_core.specs.Validity.{IsValid}
use Rattle.markets.specs.Dossiers.{counted, lists_in}
use Rattle.markets.specs.Listers.{AreListers, AreLists}
use Rattle.markets.proofs.Called.{are_lists, market_small}
use Rattle.markets.proofs.named.orders_in.Goals as goal

pub listers_of-requires-clause-few : goal.listers_of-requires-clause-few
listers_of-requires-clause-few c =
    let d = c.args.dossier.now in
    let valid = (let P : DossierRows → Type 0 = IsValid in subst P c.dossier.view_is c.dossier.invariant) in
    omega (
      arith,
      ap length c.requires.lists,
      (market_small d valid c.args.orders.now.orders c.requires.orders).candidates,
    )

pub listers_of-requires-clause-lists : goal.listers_of-requires-clause-lists
listers_of-requires-clause-lists c =
    let d = c.args.dossier.now in
    let valid = (let P : DossierRows → Type 0 = IsValid in subst P c.dossier.view_is c.dossier.invariant) in
    let n_is : c.len-count.result ≡ length d.programmes = c.len-count.ensures
    ∙ ap (λ (e : DossierRows). length e.programmes) c.dossier.view_is in
    subst (AreLists c.len-count.result) (sym c.requires.lists)
    (are_lists d valid c.args.orders.now.orders c.requires.orders c.len-count.result n_is)

pub orders_along-requires-clause-rows : goal.orders_along-requires-clause-rows
orders_along-requires-clause-rows c =
    let d = c.args.dossier.now in
    let n_is : c.len-count.result ≡ length d.programmes = c.len-count.ensures
    ∙ ap (λ (e : DossierRows). length e.programmes) c.dossier.view_is in
    let lists : List (List ℕ) = lists_in (counted d) in
    let rows = c.in_ok-rows.rows.items in
    let one = subst (λ (ls : List (List ℕ)). AreListers ls c.len-count.result (length ls) rows) c.requires.lists
    c.in_ok-rows.ensures.listers in
    let two = subst (λ n. AreListers lists n (length lists) rows) n_is one in
    subst (AreListers lists (length d.programmes) (length lists)) (sym c.deref.ensures.value) two

pub orders_along-requires-clause-programmes : goal.orders_along-requires-clause-programmes
orders_along-requires-clause-programmes c =
    let d = c.args.dossier.now in
    let n_is : c.len-count.result ≡ length d.programmes = c.len-count.ensures
    ∙ ap (λ (e : DossierRows). length e.programmes) c.dossier.view_is in
    let programmes = c.in_ok-programmes.programmes.items in
    let all = subst (λ n. IsPermutation (range_with_len 0 n) programmes) n_is c.in_ok-programmes.ensures.all in
    subst (IsPermutation (range_with_len 0 (length d.programmes))) (sym c.deref-2.ensures.value) all
