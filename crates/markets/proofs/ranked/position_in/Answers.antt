use Rattle.std.proofs.Common.{ℕ, ◌<◌, ◌≤◌, ◌≡◌, Bool, List, false, inl, inr, ap, arith, get_or, length, nat_eq}
use Rattle.std.proofs.Common.{option_map, sym}
use Rattle.std.proofs.lemmas.Bool.{cases_lt, eq-eqb, ltb-false, ne_eqb}
use Rattle.markets.specs.declared.ranked.Rank.{Rank}
use Rattle.markets.proofs.Ranking.{found_first, found_none, passed_over}
use Rattle.markets.proofs.ranked.position_in.Goals as goal
use Rattle.markets.proofs.ranked.position_in.Goals.{else-at-own-via-then-at-own+else-own-at}
use Rattle.markets.proofs.ranked.position_in.Goals.{else-at-own-via-else-at-own}

pub returns-then-own-at : goal.returns-then-own-at
returns-then-own-at c =
    let own : List Rank = c.args.own.now in
    let p : ℕ = c.args.programme in
    let at : ℕ = c.first_not_below-at.result in
    let none : Rank = record { programme = 0; position = 0 } in
    let test : Rank → Bool = λ r. nat_eq p r.programme in
    let same : (get_or own at none).programme ≡ p = omega (arith, c.if-own-at.true) in
    sym (ap (option_map (λ r. r.position)) (found_first test own at none (omega (arith, c.if-at-own.true))
    (λ k lt. passed_over own p k (c.first_not_below-at.ensures.point.0 k none (omega arith) lt))
    (eq-eqb p (get_or own at none).programme (sym same))))

pub returns : goal.returns
returns c =
    let own : List Rank = c.args.own.now in
    let p : ℕ = c.args.programme in
    let at : ℕ = c.first_not_below-at.result in
    let none : Rank = record { programme = 0; position = 0 } in
    let test : Rank → Bool = λ r. nat_eq p r.programme in
    let later : (k : ℕ) → at ≤ k → k < length own → test (get_or own k none) ≡ false =
    λ k le lt. elim c.else-at-own.branch [
      | else-at-own-via-then-at-own+else-own-at w ↦
          ne_eqb p (get_or own k none).programme (λ e.
          omega (
            arith,
            e,
            w.if-own-at.false,
            ltb-false (get_or own at none).programme p
                (c.first_not_below-at.ensures.point.1 at none (omega arith) (omega (arith, le, lt))),
            c.requires at k none le lt,
          ))
      | else-at-own-via-else-at-own w ↦ absurd (omega (arith, w.if-at-own.false, le, lt))
    ] in
    sym (ap (option_map (λ r. r.position)) (found_none test own none (λ k lt.
    elim (cases_lt k at) [
      | inl before ↦ passed_over own p k (c.first_not_below-at.ensures.point.0 k none (omega arith) before)
      | inr past ↦ later k past lt
    ])))
