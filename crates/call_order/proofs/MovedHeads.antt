-- The four heads and the queues: what `build` and `pop` rest on.
use Rattle.std.proofs.Common.{ℕ, ◌+◌, ◌≤◌, ◌<◌, ◌≡◌, Bool, true, false, List, length, drop, map, refl, arith, Some}
use Rattle.std.proofs.Common.{add-one, ◌∙◌, sym}
use Rattle.std.specs.Prelude.{slice_get}
use Rattle.std.specs.List.{position_or_len}
use Rattle.std.specs.List.Sorted.{IsStrictlyIncreasing}
use Rattle.std.proofs.lemmas.Option.{slice_get_within}
use Rattle.admit_core.specs.declared.ranking.Ranked.{Ranked}
use Rattle.call_order.specs.declared.kind.Kind.{Kind}
use Rattle.call_order.specs.declared.kind.Kind.TheVariants.{Neither, ScholarOnly, ResidentOnly, BothKinds}
use Rattle.call_order.specs.declared.heads.Heads.{Heads}
use Rattle.call_order.specs.Kinds.{has_flags, kind_by, kind_of, is_of, head_of, without_head, next_place}
use Rattle.call_order.specs.QueueLists.{QueueLists}
use Rattle.call_order.specs.Heads.{place_of, moved, remaining_of, AreHeads}
use Rattle.admit_core.proofs.NextCalls.{find_passes}
use Rattle.call_order.proofs.Firsts.{find-drop-position, find-drop-next, length-without_first, rises_without_first}
use Rattle.call_order.proofs.Standing.{find-standing, Moves, standing-moves, standing-all}

-- two flags are those of their kind, and of no other
pub own_flags : (scholar resident : Bool) → has_flags (kind_by scholar resident) scholar resident ≡ true
own_flags false false = refl
own_flags true false = refl
own_flags false true = refl
own_flags true true = refl

kind_is : (kind : Kind) (scholar resident : Bool) → has_flags kind scholar resident ≡ true
    → kind_by scholar resident ≡ kind
kind_is Neither false false e = refl
kind_is ScholarOnly true false e = refl
kind_is ResidentOnly false true e = refl
kind_is BothKinds true true e = refl
kind_is kind scholar resident e = cc

-- a fact on each kind and its place, after one kind's head moved
pub each_moved : (P : Kind → ℕ → Type 0) (heads : Heads) (kind : Kind) (place : ℕ)
    → ((k : Kind) → P k (place_of heads k)) → P kind place
    → (k : Kind) → P k (place_of (moved heads kind place) k)
each_moved P heads Neither place each here Neither = here
each_moved P heads ScholarOnly place each here ScholarOnly = here
each_moved P heads ResidentOnly place each here ResidentOnly = here
each_moved P heads BothKinds place each here BothKinds = here
each_moved P heads kind place each here k = each k

place_moved : (heads : Heads) (kind : Kind) (place : ℕ) → place_of (moved heads kind place) kind ≡ place
place_moved heads Neither place = refl
place_moved heads ScholarOnly place = refl
place_moved heads ResidentOnly place = refl
place_moved heads BothKinds place = refl

others_stay : (heads : Heads) (kind : Kind) (place : ℕ) (scholar resident : Bool)
    → has_flags kind scholar resident ≡ false
    → place_of (moved heads kind place) (kind_by scholar resident) ≡ place_of heads (kind_by scholar resident)
others_stay heads Neither place false false e = cc
others_stay heads Neither place true false e = refl
others_stay heads Neither place false true e = refl
others_stay heads Neither place true true e = refl
others_stay heads ScholarOnly place false false e = refl
others_stay heads ScholarOnly place true false e = cc
others_stay heads ScholarOnly place false true e = refl
others_stay heads ScholarOnly place true true e = refl
others_stay heads ResidentOnly place false false e = refl
others_stay heads ResidentOnly place true false e = refl
others_stay heads ResidentOnly place false true e = cc
others_stay heads ResidentOnly place true true e = refl
others_stay heads BothKinds place false false e = refl
others_stay heads BothKinds place true false e = refl
others_stay heads BothKinds place false true e = refl
others_stay heads BothKinds place true true e = cc

moves : (heads : Heads) (kind : Kind) (place : ℕ)
    → Moves (λ r. place_of heads (kind_of r)) (λ r. place_of (moved heads kind place) (kind_of r)) (is_of kind)
    (place_of heads kind) place
moves heads kind place =
    record {
      others = λ r e. others_stay heads kind place r.scholar r.resident e;
      was = λ r e. rw (kind_is kind r.scholar r.resident e) refl;
      is = λ r e. rw (kind_is kind r.scholar r.resident e) (place_moved heads kind place);
    }

-- the head of a kind's queue is the first of the kind from its place on
pub head-remaining : (heads : Heads) (list : List Ranked) (kind : Kind)
    → head_of kind (remaining_of heads list) ≡ head_of kind (drop (place_of heads kind) list)
head-remaining heads list kind =
    let p = place_of heads kind in
    find-standing (λ r. place_of heads (kind_of r)) (is_of kind) p 0 p
    (λ r e. rw (kind_is kind r.scholar r.resident e) refl) (omega arith) list

-- when a kind's head moves on to the next of the kind, exactly the head goes
pub remaining-moved : (heads : Heads) (list : List Ranked) (kind : Kind) (head : Ranked)
    → slice_get list (place_of heads kind) ≡ Some head → is_of kind head ≡ true
    → remaining_of (moved heads kind (next_place kind (place_of heads kind) list)) list
    ≡ without_head kind (remaining_of heads list)
remaining-moved heads list kind head here own =
    let p = place_of heads kind in
    let q = next_place kind p list in
    standing-moves (λ r. place_of heads (kind_of r)) (λ r. place_of (moved heads kind q) (kind_of r))
    (is_of kind) p q 0 p
    (moves heads kind q) (omega arith) list head here own (rw add-one refl)

-- heads at the first of each kind leave all
pub remaining-first : (heads : Heads) (list : List Ranked)
    → ((kind : Kind) → place_of heads kind ≡ position_or_len (is_of kind) list)
    → remaining_of heads list ≡ list
remaining-first heads list first =
    standing-all (λ r. place_of heads (kind_of r)) (λ r s. is_of (kind_of r) s) 0 list
    (λ r. own_flags r.scholar r.resident) (λ r. let is = first (kind_of r) in omega arith)

pub first-heads : (heads : Heads) (list : List Ranked) (taken capacity : ℕ)
    → ((kind : Kind) → place_of heads kind ≡ position_or_len (is_of kind) list)
    → IsStrictlyIncreasing (map (λ r. r.rank) list) → taken ≡ 0 → length list ≤ capacity
    → AreHeads heads list taken capacity
first-heads heads list taken capacity places ranks none room =
    let all = remaining-first heads list places in
    record {
      first = λ kind. rw places (find-drop-position (is_of kind) list);
      count = rw all (omega arith);
      room = room;
      all_ranks = ranks;
      ranks = rw all ranks;
    }

pub head-place : {heads : Heads} {list : List Ranked} {taken capacity : ℕ} → AreHeads heads list taken capacity
    → (kind : Kind)
    → head_of kind (remaining_of heads list) ≡ slice_get list (place_of heads kind)
head-place {heads} {list} are kind = head-remaining heads list kind ∙ are.first kind

-- what holds where a queue has a head, and when it goes
pub record HeadGoes (heads : Heads) (list : List Ranked) (taken capacity : ℕ) (kind : Kind) : Type 0 where
  pub within : place_of heads kind < length list
  pub room : taken < capacity
  pub remaining : remaining_of (moved heads kind (next_place kind (place_of heads kind) list)) list
      ≡ without_head kind (remaining_of heads list)
  pub ranks : IsStrictlyIncreasing (map (λ r. r.rank) (without_head kind (remaining_of heads list)))
  pub still : AreHeads (moved heads kind (next_place kind (place_of heads kind) list)) list (taken + 1) capacity

pub head-goes : {heads : Heads} {list : List Ranked} {taken capacity : ℕ} {ids : List ℕ} {queues : QueueLists}
    → AreHeads heads list taken capacity
    → ◌≡◌ {A = QueueLists} (record { remaining = remaining_of heads list; taken = ids }) queues
    → (kind : Kind) (head : Ranked) → Some head ≡ head_of kind queues.remaining
    → HeadGoes heads list taken capacity kind
head-goes {heads} {list} {taken} {capacity} are view kind head is_head =
    let p = place_of heads kind in
    let found : head_of kind (remaining_of heads list) ≡ Some head = rw (← view) at (sym is_head) in
    let here = sym (head-place are kind) ∙ found in
    let own = find_passes (is_of kind) (remaining_of heads list) head found in
    let fewer = length-without_first (is_of kind) (remaining_of heads list) head found in
    let goes = remaining-moved heads list kind head here own in
    let ranks = rises_without_first (λ (r : Ranked). r.rank) (is_of kind) (remaining_of heads list) are.ranks in
    record {
      within = slice_get_within list p head here;
      room = omega (arith, are.count, are.room);
      remaining = goes;
      ranks = ranks;
      still =
          record {
            first = each_moved (λ k place. head_of k (drop place list) ≡ slice_get list place) heads kind
                (next_place kind p list) are.first
                (find-drop-next (is_of kind) list (p + 1));
            count = rw goes (omega (arith, are.count));
            room = are.room;
            all_ranks = are.all_ranks;
            ranks = rw goes ranks;
          };
    }
