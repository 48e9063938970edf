use Rattle.std.proofs.Common.{◌≡◌, ◌<◌, ◌∙◌, List, length, ap, sym}
use Rattle.std.specs.Prelude.{slice_index}
use Rattle.admit_core.specs.declared.dossier.Wish.{Wish}
use Rattle.day_state.specs.declared.bundles.Sites.TheVariants.{Programmes, Schools}
use Rattle.day_state.specs.Bundles.{site_of}
use Rattle.day_state.specs.Kept.{wish_in}
use Rattle.day_state.proofs.Laters.{followed_none, followed_more, followed_all, site_in}
use Rattle.day_state.proofs.bundle_numbers.laters_of.Goals as goal

pub loop-place-init : goal.loop-place-init
loop-place-init c =
    let ws = c.args.wishes.now in
    let last_p = c.in_ok-last_programmes in
    let last_h = c.in_ok-last_schools in
    record {
      ahead = c.in_ok-ahead.ensures;
      by_programme = followed_none Programmes ws c.args.order.now c.args.programmes
          last_p.last_programmes.firsts.items last_p.last_programmes.candidates.items _ last_p.ensures.firsts
          last_p.ensures.candidates c.new-in_programmes.ensures.items;
      by_school = followed_none Schools ws c.args.order.now c.args.schools last_h.last_schools.firsts.items
          last_h.last_schools.candidates.items _ last_h.ensures.firsts last_h.ensures.candidates
          c.new-in_schools.ensures.items;
    }

pub next-requires : goal.next-requires
next-requires c =
    let ws = c.args.wishes.now in
    let x = slice_index c.args.order.now c.loop-place.place-index in
    let within : x < length ws = c.requires.order.within c.loop-place.place-index 0 c.loop-place-test.true in
    rw c.loop-place.invariant.ahead within

pub walk_on-requires : goal.walk_on-requires
walk_on-requires c =
    let ws = c.args.wishes.now in
    let x = slice_index c.args.order.now c.loop-place.place-index in
    let seen : c.in_ok-wish.wish ≡ wish_in ws x =
    c.in_ok-wish.ensures.wish ∙ ap (λ (read : List Wish). wish_in read x) c.loop-place.invariant.ahead in
    let way = c.loop-place.invariant.by_programme in
    record {
      site = site_in Programmes ws c.args.order.now c.args.programmes _ _ _ c.loop-place.place-index
          c.site_of-programme.result c.requires.order c.loop-place-test.true c.requires.programmes
          (c.site_of-programme.ensures ∙ ap (λ (w : Wish). site_of Programmes w) seen) way;
      long = way.theirs.long;
    }

pub walk_on-requires-in-loop-place : goal.walk_on-requires-in-loop-place
walk_on-requires-in-loop-place c =
    let ws = c.args.wishes.now in
    let x = slice_index c.args.order.now c.loop-place.place-index in
    let seen : c.in_ok-wish.wish ≡ wish_in ws x =
    c.in_ok-wish.ensures.wish ∙ ap (λ (read : List Wish). wish_in read x) c.loop-place.invariant.ahead in
    let way = c.loop-place.invariant.by_school in
    record {
      site = site_in Schools ws c.args.order.now c.args.schools _ _ _ c.loop-place.place-index
          c.site_of-school.result c.requires.order c.loop-place-test.true c.requires.schools
          (c.site_of-school.ensures ∙ ap (λ (w : Wish). site_of Schools w) seen) way;
      long = way.theirs.long;
    }

pub loop-place-preserved : goal.loop-place-preserved
loop-place-preserved c =
    let ws = c.args.wishes.now in
    let order = c.args.order.now in
    let i = c.loop-place.place-index in
    let x = slice_index order i in
    let candidate = c.in_ok-wish.wish.candidate in
    let seen : c.in_ok-wish.wish ≡ wish_in ws x =
    c.in_ok-wish.ensures.wish ∙ ap (λ (read : List Wish). wish_in read x) c.loop-place.invariant.ahead in
    let own : (wish_in ws x).candidate ≡ candidate = ap (λ (w : Wish). w.candidate) (sym seen) in
    let way_p = c.loop-place.invariant.by_programme in
    let way_h = c.loop-place.invariant.by_school in
    record {
      ahead = c.in_ok-wish.ensures.same ∙ c.loop-place.invariant.ahead;
      by_programme = followed_more Programmes ws order c.args.programmes _ _ _ i c.site_of-programme.result
          c.requires.order c.loop-place-test.true c.requires.programmes
          (c.site_of-programme.ensures ∙ ap (λ (w : Wish). site_of Programmes w) seen) way_p candidate _ _ _ own
          (c.walk_on.ensures.last ws way_p.theirs own) c.walk_on.ensures.candidates
          (c.in_ok-walk_on.ensures.laters ws way_p.theirs own);
      by_school = followed_more Schools ws order c.args.schools _ _ _ i c.site_of-school.result
          c.requires.order c.loop-place-test.true c.requires.schools
          (c.site_of-school.ensures ∙ ap (λ (w : Wish). site_of Schools w) seen) way_h candidate _ _ _ own
          (c.walk_on-in-loop-place.ensures.last ws way_h.theirs own) c.walk_on-in-loop-place.ensures.candidates
          (c.in_ok-walk_on-2.ensures.laters ws way_h.theirs own);
    }

pub returns : goal.returns
returns c = record {
  programmes = followed_all Programmes c.args.wishes.now c.args.order.now c.args.programmes _ _ _
      c.loop-place.place-index c.requires.order c.loop-place-test.false c.loop-place.invariant.by_programme;
  schools = followed_all Schools c.args.wishes.now c.args.order.now c.args.schools _ _ _
      c.loop-place.place-index c.requires.order c.loop-place-test.false c.loop-place.invariant.by_school;
}
