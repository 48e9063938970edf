-- The first head of several kinds is at the least of their places.
use Rattle.std.proofs.Common.{ℕ, zero, suc, ◌<◌, ◌≡◌, ◌∙◌, List, [], ◌∷◌, Bor, length, refl, sym, ap, subst, arith}
use Rattle.std.proofs.Common.{Option, Some, None}
use Rattle.std.specs.Prelude.{find, min, option_map, slice_get}
use Rattle.std.specs.List.{AllByRecursion}
use Rattle.std.specs.Slice.{IsGetResult}
use Rattle.std.proofs.lemmas.Option.{slice_get_past, slice_get_read}
use Rattle.admit_core.specs.CallOrder.{may_be_called}
use Rattle.admit_core.specs.declared.ranking.Bound.{Bound}
use Rattle.admit_core.specs.declared.ranking.Bound.TheVariants.{Free, Scholar, Resident, Both, Alone}
use Rattle.admit_core.specs.declared.ranking.Ranked.{Ranked}
use Rattle.admit_core.proofs.LeastFirst.{RisesBy, rises_by_key}
use Rattle.call_order.specs.declared.kind.Kind.{Kind}
use Rattle.call_order.specs.declared.kind.Kind.TheVariants.{Neither, ScholarOnly, ResidentOnly, BothKinds}
use Rattle.call_order.specs.declared.heads.Heads.{Heads}
use Rattle.call_order.specs.Heads.{first_place, place_of, remaining_of, AreHeads}
use Rattle.call_order.specs.Kinds.{head_of}
use Rattle.call_order.proofs.ByKinds.{earlier_of, earlier_same, earlier_left, earlier_right}
use Rattle.call_order.proofs.ByKinds.{find_scholar, find_resident, find_any_kind}
use Rattle.call_order.proofs.MovedHeads.{head-place}

-- what `get` gives
pub got : {X : Type 0} (xs : List X) (k : ℕ) (r : Option (Bor X)) → IsGetResult xs k k r
    → option_map (λ (x : Bor X). x.now) r ≡ slice_get xs k
got xs k None given = sym (slice_get_past xs k given.3)
got xs k (Some x) given = sym (slice_get_read xs (length xs) k x.now refl given.3.0 given.1)

-- what all have, one at a place has
at_place : (P : Ranked → Type 0) (rs : List Ranked) (k : ℕ) (r : Ranked) → AllByRecursion P rs
    → slice_get rs k ≡ Some r → P r
at_place P [] k r all at = absurd (cc)
at_place P (x ∷ xs) zero r all at = let same : x ≡ r = cc in subst P same all.0
at_place P (x ∷ xs) (suc k) r all at = at_place P xs k r all.1 at

-- where ranks ascend, the one of lesser rank of two places is at the lesser of them
earlier_place : (rs : List Ranked) (j k : ℕ) → RisesBy (λ r. r.rank) rs
    → earlier_of (slice_get rs j) (slice_get rs k) ≡ slice_get rs (min j k)
earlier_place [] j k rises = refl
earlier_place (x ∷ xs) zero zero rises = earlier_same x
earlier_place (x ∷ xs) zero (suc k) rises =
    let first : min zero (suc k) ≡ zero = omega arith in
    earlier_left x (slice_get xs k) (λ y e. at_place (λ z. x.rank < z.rank) xs k y rises.0 e)
    ∙ ap (slice_get (x ∷ xs)) (sym first)
earlier_place (x ∷ xs) (suc j) zero rises =
    let first : min (suc j) zero ≡ zero = omega arith in
    earlier_right x (slice_get xs j) (λ y e. at_place (λ z. x.rank < z.rank) xs j y rises.0 e)
    ∙ ap (slice_get (x ∷ xs)) (sym first)
earlier_place (x ∷ xs) (suc j) (suc k) rises =
    let less : min (suc j) (suc k) ≡ suc (min j k) = omega arith in
    earlier_place xs j k rises.1 ∙ ap (slice_get (x ∷ xs)) (sym less)

-- the head of lesser rank of two kinds
two_heads : {heads : Heads} {list : List Ranked} {taken capacity : ℕ} → AreHeads heads list taken capacity
    → (one other : Kind)
    → earlier_of (head_of one (remaining_of heads list)) (head_of other (remaining_of heads list))
    ≡ slice_get list (min (place_of heads one) (place_of heads other))
two_heads {heads} {list} are one other =
    ap (λ (o : Option Ranked). earlier_of o (head_of other (remaining_of heads list))) (head-place are one)
    ∙ ap (earlier_of (slice_get list (place_of heads one))) (head-place are other)
    ∙ earlier_place list (place_of heads one) (place_of heads other) (rises_by_key (λ (r : Ranked). r.rank) list
    are.all_ranks)

-- who may be called first stands at the first place of the kinds that may be called
pub first-place : {heads : Heads} {list : List Ranked} {taken capacity : ℕ} → AreHeads heads list taken capacity
    → (bound : Bound)
    → find (may_be_called bound) (remaining_of heads list) ≡ slice_get list (first_place heads bound)
first-place {heads} {list} are Free =
    let rs : List Ranked = remaining_of heads list in
    find_any_kind rs are.ranks
    ∙ ap (λ (o : Option Ranked). earlier_of o (earlier_of (head_of ResidentOnly rs) (head_of BothKinds rs)))
    (two_heads are Neither ScholarOnly)
    ∙ ap (earlier_of (slice_get list (min heads.neither heads.scholar_only))) (two_heads are ResidentOnly BothKinds)
    ∙ earlier_place list (min heads.neither heads.scholar_only) (min heads.resident_only heads.both_kinds)
    (rises_by_key (λ (r : Ranked). r.rank) list are.all_ranks)
first-place {heads} {list} are Scholar =
    find_scholar (remaining_of heads list) are.ranks ∙ two_heads are ScholarOnly BothKinds
first-place {heads} {list} are Resident =
    find_resident (remaining_of heads list) are.ranks ∙ two_heads are ResidentOnly BothKinds
first-place {heads} {list} are Both = head-place are BothKinds
first-place {heads} {list} are Alone =
    find_scholar (remaining_of heads list) are.ranks ∙ two_heads are ScholarOnly BothKinds
