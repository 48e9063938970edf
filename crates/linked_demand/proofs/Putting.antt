-- A number is put at the places of a list, one after another, and what is read from it.
use Rattle.std.proofs.Common.{ℕ, suc, ◌+◌, ◌≤◌, ◌<◌, ◌≡◌, Bool, true, false, ◌||◌, List, [], ◌∷◌, length, map, take}
use Rattle.std.proofs.Common.{zero, get_or, inl, inr, refl, sym, ◌∙◌, ap, arith, nat_eq, subst}
use Rattle.std.specs.Prelude.{replicate, if◌then◌else◌}
use Rattle.std.proofs.Math.ListN.{set}
use Rattle.std.proofs.lemmas.Bool.{cases_Bool, eqb-true, eqb-false, or_right}
use Rattle.std.proofs.lemmas.List.{length-map, length-set, get_or-set_same, get_or-set_other, take_all}
use Rattle.std.proofs.lemmas.Nat.{div-mul-add, mod-mul-add}
use Rattle.admit_core.specs.Lists.{is_among}
use Rattle.proposals.proofs.Front.{among_more}
use Rattle.day_state.specs.Kept.{one_if}
use Rattle.linked_demand.specs.Notes.{IsNoted, PutAt, called_in, note_of, nothing_noted, place_in}
use Rattle.linked_demand.specs.Notes.{read_from}

pub put_none : (ks : List ℕ) (x : ℕ) (old : List ℕ) → PutAt (take 0 ks) x old old
put_none ks x old = record { as_long = refl; each = λ k lt. refl }

or_false : (a b : Bool) → b ≡ false → (a || b) ≡ a
or_false true b t = refl
or_false false b t = t

pub put_more : (ks : List ℕ) (i : ℕ) (x : ℕ) (old now new : List ℕ) → i < length ks
    → get_or ks i 0 < length old
    → PutAt (take i ks) x old now → new ≡ set now (get_or ks i 0) x → PutAt (take (i + 1) ks) x old new
put_more ks i x old now new lt within put is =
    let p = get_or ks i 0 in
    record {
      as_long = ap length is ∙ length-set now p x ∙ put.as_long;
      each = λ k k_in.
          let more : is_among k (take (i + 1) ks) ≡ (is_among k (take i ks) || nat_eq k p) = among_more k ks i lt in
          elim (cases_Bool (nat_eq k p)) [
            | inl here ↦
                let same = eqb-true k p here in
                ap (λ (ys : List ℕ). get_or ys k 0) is
                ∙ ap (λ j. get_or (set now p x) j 0) same
                ∙ get_or-set_same now p x 0 (omega (arith, within, put.as_long))
                ∙ sym (ap (λ b. if b then x else get_or old k 0)
                (more ∙ or_right (is_among k (take i ks)) (nat_eq k p) here))
            | inr other ↦
                ap (λ (ys : List ℕ). get_or ys k 0) is
                ∙ get_or-set_other now p k x 0 (eqb-false k p other)
                ∙ put.each k k_in
                ∙ sym (ap (λ b. if b then x else get_or old k 0)
                (more ∙ or_false (is_among k (take i ks)) (nat_eq k p) other))
          ];
    }

pub put_all : (ks : List ℕ) (i : ℕ) (x : ℕ) (old new : List ℕ) → length ks ≤ i
    → PutAt (take i ks) x old new → PutAt ks x old new
put_all ks i x old new le put =
    let P = λ (js : List ℕ). PutAt js x old new in
    subst P (take_all i ks le) put

-- what is read of a number that is kept, also past the end
pub read_at : {X : Type 0} (f : ℕ → X) (ns : List ℕ) (k : ℕ) → get_or (map f ns) k (f 0) ≡ f (get_or ns k 0)
read_at f [] k = refl
read_at f (n ∷ ns) zero = refl
read_at f (n ∷ ns) (suc k) = read_at f ns k

all_zero : {X : Type 0} (f : ℕ → X) (n : ℕ) → map f (replicate n 0) ≡ replicate n (f 0)
all_zero f zero = refl
all_zero {X} f (suc n) = ap (λ (xs : List X). f 0 ∷ xs) (all_zero f n)

-- of zeros nothing is known
pub reads_nothing : (n : ℕ) → read_from (replicate n 0) ≡ nothing_noted n
reads_nothing n =
    λ i. record {
      places = all_zero place_in n i;
      called_by_limit = all_zero called_in n i;
    }

flag_fits : (a : Bool) → one_if a < 2
flag_fits false = omega arith
flag_fits true = omega arith

-- what was put in one number is read from it
place_read : (p : ℕ) (a : Bool) → place_in (note_of p a) ≡ p
place_read p a = div-mul-add p 2 (one_if a) (flag_fits a)

called_read : (p : ℕ) (a : Bool) → called_in (note_of p a) ≡ a
called_read p a = ap (λ n. nat_eq n 1) (mod-mul-add p 2 (one_if a) (flag_fits a)) ∙ own a
  where
    own : (a : Bool) → nat_eq (one_if a) 1 ≡ a
    own false = refl
    own true = refl

-- what is read where a number is put, by what is read from that
read_put : {X : Type 0} (f : ℕ → X) (ks : List ℕ) (x : ℕ) (own : X) (old new : List ℕ) (k : ℕ) → k < length old
    → PutAt ks x old new → f x ≡ own
    → get_or (map f new) k (f 0) ≡ (if is_among k ks then own else get_or (map f old) k (f 0))
read_put {X} f ks x own old new k lt put is =
    read_at f new k ∙ ap f (put.each k lt) ∙ elim (cases_Bool (is_among k ks)) [
      | inl here ↦ rw here is
      | inr other ↦ rw other (sym (read_at f old k))
    ]

-- a claim is noted
pub noted_by : (claim : List ℕ) (place : ℕ) (is_called : Bool) (old new : List ℕ)
    → PutAt claim (note_of place is_called) old new
    → IsNoted claim place is_called (read_from old) (read_from new)
noted_by claim place is_called old new put =
    let note = note_of place is_called in
    let many : length (map place_in old) ≡ length old = length-map old place_in in
    record {
      as_long = length-map new place_in ∙ put.as_long ∙ sym many;
      places_are = λ k lt. read_put place_in claim note place old new k (omega (arith, lt, many)) put
          (place_read place is_called);
      called_are = λ k lt. read_put called_in claim note is_called old new k (omega (arith, lt, many)) put
          (called_read place is_called);
    }
