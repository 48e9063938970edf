use Rattle.std.proofs.Common.{◌≡◌, ◌∙◌, ℕ, ◌<◌, ◌≤◌, arith, length, refl, subst, sym}
use Rattle.std.specs.Prelude.{IfNone, IfSome, slice_index}
use Rattle.linked_demand.specs.Rungs.{housed_in}
use Rattle.linked_demand.specs.Housed.{noted}
use Rattle.linked_demand.specs.Lent.{left_of}
use Rattle.linked_demand.proofs.Lent.{left_read}
use Rattle.linked_demand.proofs.HousedWishes.{houses_sought, housed_put, housed_quiet, nothing_sought}
use Rattle.linked_demand.proofs.housing.house_wish.Goals as goal

pub returns-in_default-clause-all : goal.returns-in_default-clause-all
returns-in_default-clause-all c = λ left bars rows right all.
    nothing_sought c.args.links.now bars (left_of c.args.links.now.state c.args.beds.now) rows left right c.args.wish
    c.requires.wish
    c.args.overfilled.now c.args.housed.now.items all (sym c.bed_sought.ensures.sought ∙ c.in_default.is)

pub returns-then-is_some-clause-all : goal.returns-then-is_some-clause-all
returns-then-is_some-clause-all c = λ left bars rows right all.
    let h = c.in-Some.school in
    let housed = c.args.housed.now.items in
    let s = c.args.links.now.state in
    let free = left_of s c.args.beds.now in
    let within : h < length c.args.links.now.state.dossier.schools = c.in-Some.ensures.school h refl in
    let lt : h < length housed = omega (arith, within, c.requires.housed) in
    let read : c.left_in-free.result ≡ slice_index free h =
    left_read c.state-state.result.now s c.args.beds.now h c.left_in-free.result c.state-state.ensures within
    c.left_in-free.ensures in
    housed_put c.args.links.now bars free rows left right c.args.wish c.requires.wish
    c.args.overfilled.now housed all h (sym c.bed_sought.ensures.sought ∙ c.in-Some.is) c.house-over.result
    c.house-over.new.self
    (houses_sought c.args.links.now _ c.args.wish h (slice_index free h) _ c.index_mut.result.now c.house-over.new.self
    c.house-over.result housed c.state-state.ensures c.wish_at-rank.ensures.wish lt c.index_mut.ensures.value
    (record {
      stays = c.house-over.ensures.stays;
      few = subst (λ (n : ℕ). IfNone c.house-over.result (length (housed_in c.house-over.new.self) ≤ n)) read
          c.house-over.ensures.few;
      gives_up = c.house-over.ensures.gives_up;
      many = subst (λ (n : ℕ). IfSome c.house-over.result (λ m. n < length (housed_in (noted
          c.wish_at-rank.result.board_rank c.index_mut.result.now)))) read c.house-over.ensures.many;
    })) lt (omega (arith, within, c.requires.overfilled)) (sym c.is_some.ensures ∙ c.if-is_some.true)
    c.put.new.self c.put.ensures

pub returns-else-is_some-clause-all : goal.returns-else-is_some-clause-all
returns-else-is_some-clause-all c = λ left bars rows right all.
    let h = c.in-Some.school in
    let housed = c.args.housed.now.items in
    let s = c.args.links.now.state in
    let free = left_of s c.args.beds.now in
    let within : h < length c.args.links.now.state.dossier.schools = c.in-Some.ensures.school h refl in
    let lt : h < length housed = omega (arith, within, c.requires.housed) in
    let read : c.left_in-free.result ≡ slice_index free h =
    left_read c.state-state.result.now s c.args.beds.now h c.left_in-free.result c.state-state.ensures within
    c.left_in-free.ensures in
    housed_quiet c.args.links.now bars free rows left right c.args.wish c.requires.wish
    c.args.overfilled.now housed all h (sym c.bed_sought.ensures.sought ∙ c.in-Some.is) c.house-over.result
    c.house-over.new.self
    (houses_sought c.args.links.now _ c.args.wish h (slice_index free h) _ c.index_mut.result.now c.house-over.new.self
    c.house-over.result housed c.state-state.ensures c.wish_at-rank.ensures.wish lt c.index_mut.ensures.value
    (record {
      stays = c.house-over.ensures.stays;
      few = subst (λ (n : ℕ). IfNone c.house-over.result (length (housed_in c.house-over.new.self) ≤ n)) read
          c.house-over.ensures.few;
      gives_up = c.house-over.ensures.gives_up;
      many = subst (λ (n : ℕ). IfSome c.house-over.result (λ m. n < length (housed_in (noted
          c.wish_at-rank.result.board_rank c.index_mut.result.now)))) read c.house-over.ensures.many;
    })) lt (sym c.is_some.ensures ∙ c.if-is_some.false)
