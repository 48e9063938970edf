-- Keys as functions of the numbers that they are made of.
use Rattle.std.specs.Prelude.{ℕ, ◌+◌, ◌*◌, ◌^◌, List, fold}
use Rattle.std.specs.Hash as fed
use Rattle.std.specs.Hash.DefaultHasher as sip
use Rattle.std.specs.Hash.FoldHasher as folding
use Rattle.keyed_hash.specs.declared.KeyMaker.{KeyMaker}
use Rattle.keyed_hash.specs.declared.Keyed.{Keyed}

-- two numbers as one, the first of them above
abbrev pub joined : ℕ × ℕ → ℕ
joined pair = pair.0 * 2 ^ 32 + pair.1

-- no number is mixed in
abbrev pub fresh : KeyMaker
fresh = record { mixed = sip.initial }

-- two more numbers are mixed in
abbrev pub mixed_in : KeyMaker → ℕ × ℕ → KeyMaker
mixed_in key pair = record { mixed = fold sip.write key.mixed (fed.u64 (joined pair)) }

-- the hashing by the key of what was mixed in
abbrev pub done : KeyMaker → Keyed
done key = record { begun = fold folding.write folding.initial (fed.u64 (sip.finish key.mixed)) }

-- the hashing by the key of lists of pairs of numbers, one list after another
abbrev pub keyed_by : List (List (ℕ × ℕ)) → Keyed
keyed_by lists = done (fold (fold mixed_in) fresh lists)

-- the hashing by the key of the two numbers of each item
abbrev pub keyed_by_each : {X : Type 0} → (X → ℕ × ℕ) → List X → Keyed
keyed_by_each numbers xs = done (fold (λ key x. mixed_in key (numbers x)) fresh xs)
