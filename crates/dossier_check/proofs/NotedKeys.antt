-- The keys of the rows before tell the first row with the key of the next one.
use Rattle.std.proofs.Common.{◌≡◌, ℕ, ◌+◌, ◌<◌, Bool, true, false, not, nat_eq, nat_lt, List, [], ◌∷◌, ◌++◌, map}
use Rattle.std.proofs.Common.{length, position}
use Rattle.std.proofs.Common.{option_map}
use Rattle.std.proofs.Common.{Some, None, refl, sym, ap, ◌∙◌, arith}
use Rattle.std.specs.List.{list_any, position_or_len}
use Rattle.std.proofs.lemmas.List.{map-append}
use Rattle.indexmap.specs.IndexSet.{insert_key}
use Rattle.admit_core.specs.Faults.{row_number, first_row}
use Rattle.dossier_check.proofs.Firsts.{position-none, position-map, one_passes, not_is_false, not_is_true}

module _ {R K : Type 0} (eq : K → K → Bool) (key : R → K) (before : List R) (row : R) (keys : List K)
    (same : keys ≡ map key before) where
  pub first_of_keys : option_map row_number (position (eq (key row)) keys)
      ≡ first_row (λ r. eq (key row) (key r)) before
  first_of_keys = ap (λ ks. option_map row_number (position (eq (key row)) ks)) same
      ∙ ap (option_map row_number) (position-map (eq (key row)) key before)

  -- a new key stands in no row before
  pub noted-new : not (list_any (eq (key row)) keys) ≡ true → None ≡ first_row (λ r. eq (key row) (key r)) before
  noted-new new = sym (ap (option_map row_number) (position-none (eq (key row)) keys (not_is_false _ new)))
      ∙ first_of_keys

  -- and a key that is there stands first in the row of its place
  pub noted-old : (place : ℕ) → not (list_any (eq (key row)) keys) ≡ false → place ≡ position_or_len (eq (key row)) keys
      → Some (place + 2) ≡ first_row (λ r. eq (key row) (key r)) before
  noted-old place old at =
      let lt : position_or_len (eq (key row)) keys < length keys = one_passes (eq (key row)) keys (not_is_true _ old) in
      let within : nat_lt (position_or_len (eq (key row)) keys) (length keys) ≡ true = grind arith in
      let found : position (eq (key row)) keys ≡ Some place = rw (within, at) refl in
      sym (ap (option_map row_number) found) ∙ first_of_keys

-- the keys with that of the next row, which is new
pub behind : {R K : Type 0} (key : R → K) (before : List R) (row : R) (own : K) (keys now : List K) → own ≡ key row
    → now ≡ keys ++ own ∷ [] → keys ≡ map key before → now ≡ map key (before ++ row ∷ [])
behind key before row own keys now is more same =
    more ∙ (λ i. same i ++ is i ∷ []) ∙ sym (map-append key before (row ∷ []))

pub inserted : {K : Type 0} (eq : K → K → Bool) (own : K) (keys now : List K) → now ≡ insert_key eq keys own
    → not (list_any (eq own) keys) ≡ true → now ≡ keys ++ own ∷ []
inserted eq own keys now is new =
    let none : list_any (eq own) keys ≡ false = not_is_false _ new in
    is ∙ rw none refl

-- the same of an id that is that of the next row
module _ {R : Type 0} (key : R → ℕ) (before : List R) (row : R) (ids : List ℕ) (id : ℕ) (own : id ≡ key row)
    (same : ids ≡ map key before) where
  pub id_found : option_map row_number (position (nat_eq id) ids) ≡ first_row (λ r. nat_eq (key row) (key r)) before
  id_found = rw own (first_of_keys nat_eq key before row ids same)

  pub id_is_new : list_any (nat_eq id) ids ≡ false → first_row (λ r. nat_eq (key row) (key r)) before ≡ None
  id_is_new new = sym id_found ∙ ap (option_map row_number) (position-none (nat_eq id) ids new)
