use Rattle.std.proofs.Common.{ℕ, ◌<◌, List, length, get_or, nat_eq, sym, ◌∙◌, ap, arith, subst}
use Rattle.std.proofs.lemmas.List.{take_all}
use Rattle.admit_core.specs.declared.dossier.Wish.{Wish}
use Rattle.admit_core.specs.DossierRows.{DossierRows, group_of}
use Rattle.admit_core.specs.Validity.{IsValid}
use Rattle.day_state.specs.Kept.{wish_in}
use Rattle.day_state.proofs.Places.{candidate_in}
use Rattle.linked_demand.specs.Keyed.{AreEmpty, AreRowsOf}
use Rattle.linked_demand.specs.Called.{is_of_group}
use Rattle.linked_demand.specs.declared.wishing.Application.{Application}
use Rattle.linked_demand.specs.Claims.{application_at}
use Rattle.linked_demand.proofs.Keyed.{programme_at, rows_none, rows_more}
use Rattle.linked_demand.proofs.ClaimSpans.{applications_from}
use Rattle.linked_demand.proofs.wishing.wishes_by_group.Goals as goal

abbrev application : ℕ → ℕ → ℕ → Application
application wish programme candidate = record { wish = wish; programme = programme; candidate = candidate }

pub loop-place-init : goal.loop-place-init
loop-place-init c =
    let d = c.args.state.now.dossier in
    let wishes = c.in_ok-wishes.wishes.items in
    let P = λ (count : ℕ). AreEmpty count wishes in
    rows_none (application_at d) (is_of_group d) (length d.groups) wishes
    (subst P (ap length c.deref.ensures.value ∙ c.in_ok-counts.ensures.one_each) c.in_ok-wishes.ensures)

pub loop-place-preserved : goal.loop-place-preserved
loop-place-preserved c =
    let d = c.args.state.now.dossier in
    let places = c.places_by_candidate-places.result.now in
    let i = c.loop-place.place-index in
    let k = get_or places i 0 in
    let w = c.wish_at-wish.result in
    let here = λ (h : ℕ). ap (λ (g : ℕ). nat_eq g h) (c.group_of-group.ensures.group
    ∙ ap (λ (v : Wish). group_of d v.programme) c.wish_at-wish.ensures.wish) in
    rows_more (application_at d) (is_of_group d) (length d.groups) places i
    (λ h. nat_eq c.group_of-group.result h) (application k w.programme w.candidate)
    c.loop-place.wishes.items c.put_in.new.rows.items c.loop-place-test.true here
    (ap (λ (v : Wish). application k v.programme v.candidate) c.wish_at-wish.ensures.wish
    ∙ ap (application k (wish_in d.wishes k).programme) (sym (candidate_in d.wishes k)))
    c.loop-place.invariant c.in_ok-put_in.ensures

pub returns : goal.returns
returns c =
    let d = c.args.state.now.dossier in
    let places = c.places_by_candidate-places.result.now in
    let wishes = c.loop-place.wishes.items in
    let P : DossierRows → Type 0 = IsValid in
    let valid = subst P (c.dossier.view_is ∙ c.dossier-dossier.ensures) c.dossier.invariant in
    let Q = λ (ks : List ℕ). AreRowsOf (application_at d) (is_of_group d) (length d.groups) ks wishes in
    applications_from d places wishes (omega (arith, valid.size.wishes)) c.places_by_candidate-places.ensures
    (subst Q (take_all c.loop-place.place-index places (omega (arith, c.loop-place-test.false)))
    c.loop-place.invariant)

pub wish_at-wish-requires : goal.wish_at-wish-requires
wish_at-wish-requires c = c.places_by_candidate-places.ensures.within c.loop-place.place-index 0 c.loop-place-test.true

pub group_of-group-requires : goal.group_of-group-requires
group_of-group-requires c =
    let d = c.args.state.now.dossier in
    let P : DossierRows → Type 0 = IsValid in
    let valid = subst P (c.dossier.view_is ∙ c.dossier-dossier.ensures) c.dossier.invariant in
    let k = get_or c.places_by_candidate-places.result.now c.loop-place.place-index 0 in
    programme_at d valid k (c.places_by_candidate-places.ensures.within c.loop-place.place-index 0
    c.loop-place-test.true)
    c.wish_at-wish.result c.wish_at-wish.ensures.wish

pub put_in-requires : goal.put_in-requires
put_in-requires c =
    let Q = λ (n : ℕ). c.group_of-group.result < n in
    subst Q (sym c.loop-place.invariant.one_each) c.group_of-group.ensures.within
