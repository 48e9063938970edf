use Rattle.std.proofs.Common.{ℕ, List, [], ◌∷◌, ◌++◌, ◌≡◌, ◌+◌, ◌∙◌, ap, arith, length, get_or, nat_eq}
use Rattle.std.specs.List.{before_first}
use Rattle.markets.specs.Ranked.{rank_in}
use Rattle.markets.specs.declared.ranked.Rank.{Rank}
use Rattle.markets.proofs.Listing.{put_more, put_whole}
use Rattle.markets.proofs.Ranking.{own_position}
use Rattle.markets.proofs.BelowCount.{list_distinct}
use Rattle.markets.proofs.ranked.put_ranks.Goals as goal

pub loop-place-preserved : goal.loop-place-preserved
loop-place-preserved c =
    let order : List ℕ = c.args.order.now in
    let p : ℕ = c.args.programme in
    let k : ℕ = c.loop-place.place in
    let item : ℕ → Rank = λ x. rank_in order p x in
    let own : k + 1 ≡ length (before_first (nat_eq (get_or order k 0)) order) + 1 =
    own_position order k (list_distinct (length c.args.rows.now.items) order c.requires.order)
    c.loop-place-test.true in
    let made : Rank = record { programme = p; position = k + 1 } in
    let same : made ≡ item (get_or order k 0) =
    ap (λ n. (let r : Rank = record { programme = p; position = n } in r)) own in
    put_more item order k c.args.rows.now.items c.loop-place.rows.items c.index_mut.result.now c.push.new.self
    c.requires.order c.loop-place-test.true c.index_mut.ensures.value
    (c.in_ok-push.ensures.items ∙ ap (λ (r : Rank). c.index_mut.result.now.items ++ r ∷ []) same) c.loop-place.invariant

pub returns : goal.returns
returns c =
    put_whole (λ x. rank_in c.args.order.now c.args.programme x) c.args.order.now c.loop-place.place
    c.args.rows.now.items c.loop-place.rows.items (omega (arith, c.loop-place-test.false)) c.loop-place.invariant
