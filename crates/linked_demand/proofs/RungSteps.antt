-- Steps of a list of rungs: one is taken away, put, or noted in its place.
use Rattle.std.proofs.Common.{ℕ, suc, ◌+◌, ◌≤◌, ◌<◌, ◌≡◌, true, false, List, [], ◌∷◌, ◌++◌}
use Rattle.std.proofs.Common.{length, inl, inr, refl, sym, ◌∙◌, ap, arith, nat_lt, nat_le}
use Rattle.std.proofs.Common.{Some, None, Option, subst, append-nil, append_assoc}
use Rattle.std.specs.Prelude.{IfSome, IfNone}
use Rattle.std.proofs.lemmas.Bool.{cases_Bool}
use Rattle.std.proofs.lemmas.Bool.{false_from_ne_true, le-leb, leb-true}
use Rattle.std.proofs.lemmas.List.{length-append}
use Rattle.admit_core.specs.Lists.{is_among}
use Rattle.admit_core.proofs.Tests.{Ascends}
use Rattle.linked_demand.specs.Rungs.{Rung, housed_in, GoesBare}
use Rattle.linked_demand.specs.Housed.{ranks_of, kept, last_rank, GivesUp}
use Rattle.linked_demand.proofs.Rungs.{housed_append, kept_all, kept_push}
use Rattle.linked_demand.proofs.Rungs.{kept_seam, last_more}

-- ranks at most at a number are kept
pub cut_all : (xs : List Rung) (last to : ℕ) → ((r : ℕ) → is_among r (ranks_of xs) ≡ true → r ≤ last) → last ≤ to
    → kept (λ r. nat_le r to) xs ≡ xs
cut_all xs last to most le =
    kept_all (λ r. nat_le r to) xs (λ r t. le-leb r to (omega (arith, le, most r t)))

pub last_pushed : (xs : List Rung) (y : Rung) → last_rank (xs ++ y ∷ []) ≡ y.rank
last_pushed [] y = refl
last_pushed (z ∷ xs) y =
    let more : length xs + 1 ≡ suc (length xs) = omega arith in
    last_more z (xs ++ y ∷ []) (length xs) (length-append xs (y ∷ []) ∙ more) ∙ last_pushed xs y

-- the last one past a number goes
cut_one : (old new : List Rung) (x : Rung) (to : ℕ) → old ≡ new ++ x ∷ [] → to < last_rank old
    → kept (λ r. nat_le r to) new ≡ kept (λ r. nat_le r to) old
cut_one old new x to is past =
    let last : last_rank old ≡ x.rank = ap last_rank is ∙ last_pushed new x in
    let goes : nat_le x.rank to ≡ false = false_from_ne_true (nat_le x.rank to)
    (λ t. omega (arith, past, last, leb-true x.rank to t)) in
    sym (ap (kept (λ r. nat_le r to)) is ∙ kept_push (λ r. nat_le r to) new x goes)

pub cut_last : (old new : List Rung) (o : Option ℕ) (to : ℕ)
    → IfSome o (λ r. old ≡ new ++ record { rank = r; housed = true } ∷ []) → IfNone o (GoesBare old new)
    → to < last_rank old → kept (λ r. nat_le r to) new ≡ kept (λ r. nat_le r to) old
cut_last old new None to some bare past =
    elim bare.one [
      | inl same ↦ ap (kept (λ r. nat_le r to))
          (sym (bare.whole ∙ ap (λ (ys : List Rung). new ++ ys) same ∙ append-nil new))
      | inr one ↦ cut_one old new (record { rank = one.0; housed = false }) to
          (bare.whole ∙ ap (λ (ys : List Rung). new ++ ys) one.1) past
    ]
cut_last old new (Some r) to is bare past = cut_one old new (record { rank = r; housed = true }) to is past

-- what is left of a list whose last rungs went, none of which has a bed
pub record IsFrontOf (start now : List Rung) : Type 0 where
  pub rest : List Rung
  pub whole : start ≡ now ++ rest
  pub none : housed_in rest ≡ []

pub front_start : (start now : List Rung) → now ≡ start → IsFrontOf start now
front_start start now is = record { rest = []; whole = sym is ∙ sym (append-nil now); none = refl }

bare_housed : (old new : List Rung) → (bare : GoesBare old new) → housed_in bare.rest ≡ []
bare_housed old new bare =
    elim bare.one [
      | inl same ↦ ap housed_in same
      | inr one ↦ ap housed_in one.1
    ]

pub front_step : (start now new : List Rung) → IsFrontOf start now → GoesBare now new → IsFrontOf start new
front_step start now new front bare =
    record {
      rest = bare.rest ++ front.rest;
      whole = front.whole ∙ ap (λ (ys : List Rung). ys ++ front.rest) bare.whole
          ∙ append_assoc new bare.rest front.rest;
      none = housed_append bare.rest front.rest
          ∙ ap (λ (ns : List ℕ). ns ++ housed_in front.rest) (bare_housed now new bare) ∙ front.none;
    }

-- so as many have a bed
pub front_some : (start now : List Rung) → IsFrontOf start now
    → length (housed_in now) ≡ length (housed_in start)
front_some start now front =
    ap (λ (ns : List ℕ). length ns) (sym (ap housed_in front.whole ∙ housed_append now front.rest
    ∙ ap (λ (ns : List ℕ). housed_in now ++ ns) front.none ∙ append-nil (housed_in now)))

-- the last rank that has a bed is met
pub front_gives : (start now new : List Rung) (x : Rung) → Ascends (0 ∷ ranks_of start) → IsFrontOf start now
    → now ≡ new ++ x ∷ [] → x.housed ≡ true → GivesUp start new x.rank
front_gives start now new x rises front is has =
    let whole : start ≡ new ++ (x ∷ front.rest) = front.whole ∙ ap (λ (ys : List Rung). ys ++ front.rest) is
    ∙ append_assoc new (x ∷ []) front.rest in
    let P = λ (ys : List Rung). Ascends (0 ∷ ranks_of ys) in
    let up = subst P whole rises in
    let own : housed_in (x ∷ front.rest) ≡ x.rank ∷ [] = rw has (ap (λ (ns : List ℕ). x.rank ∷ ns) front.none) in
    record {
      housed = ap housed_in whole ∙ housed_append new (x ∷ front.rest)
          ∙ ap (λ (ns : List ℕ). housed_in new ++ ns) own;
      kept_are = kept_seam new x front.rest up.1 ∙ ap (kept (λ r. nat_lt r x.rank)) (sym whole);
    }

pub few_housed : (xs : List Rung) → length (housed_in xs) ≤ length xs
few_housed [] = omega arith
few_housed (x ∷ xs) =
    let rest = few_housed xs in
    elim (cases_Bool x.housed) [
      | inl has ↦ rw has (omega (arith, rest))
      | inr none ↦ rw none (omega (arith, rest))
    ]
