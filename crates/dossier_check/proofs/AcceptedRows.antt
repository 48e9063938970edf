-- Rows of the state that accept a wish.
use Rattle.std.proofs.Common.{◌≡◌, ℕ, Bool, true, false, ◌&&◌, nat_eq, List, [], ◌∷◌, if◌then◌else◌, option_map, Option}
use Rattle.std.proofs.Common.{Some, None, refl, ap}
use Rattle.std.specs.List.{list_any}
use Rattle.admit_core.proofs.Plain.{and_false, nat_eq_sym}
use Rattle.admit_core.specs.declared.refusal.Reason.TheVariants.{TwoAccepted}
use Rattle.admit_core.specs.declared.tables.StateRow.{StateRow}
use Rattle.admit_core.specs.declared.tables.Tables.{Tables}
use Rattle.admit_core.specs.Faults.{row_number, first_row}
use Rattle.admit_core.specs.Relations.{is_accepted, same_candidate, candidate_with, two_accepted}
use Rattle.dossier_check.specs.RowsBefore.{is_accepted_of}
use Rattle.dossier_check.proofs.Firsts.{position-none}

-- the candidate of an accepted row
abbrev pub accepting : Tables → StateRow → Option ℕ
accepting t row = if is_accepted row.status then candidate_with t row.wish else None

none_any : {X : Type 0} (p : X → Bool) (xs : List X) → ((x : X) → p x ≡ false) → list_any p xs ≡ false
none_any p [] never = refl
none_any p (x ∷ xs) never = rw (never x) (none_any p xs never)

accepting-some : (b : Bool) (o : Option ℕ) (c : ℕ) → (if b then o else None) ≡ Some c → (b ≡ true) × (o ≡ Some c)
accepting-some true o c e = (refl, e)
accepting-some false o c e = cc

module _ (t : Tables) (row : StateRow) where
  pub two_accepted-none : (before : List StateRow) → accepting t row ≡ None → two_accepted t before row ≡ None
  two_accepted-none before e = by (is_accepted row.status) refl
    where
      by : (b : Bool) → is_accepted row.status ≡ b → two_accepted t before row ≡ None
      by false f = rw f refl
      by true f =
          let nobody : candidate_with t row.wish ≡ None = rw f at e in
          rw (f, nobody)
          (ap (λ o. option_map TwoAccepted (option_map row_number o))
          (position-none (λ r. is_accepted r.status && same_candidate None (candidate_with t r.wish)) before
          (none_any (λ r. is_accepted r.status && same_candidate None (candidate_with t r.wish)) before
          (λ r. and_false (is_accepted r.status)))))

  pub is_accepted_of-none : (k : ℕ) → accepting t row ≡ None → is_accepted_of t k row ≡ false
  is_accepted_of-none k e = by (is_accepted row.status) refl
    where
      by : (b : Bool) → is_accepted row.status ≡ b → is_accepted_of t k row ≡ false
      by false f = rw f refl
      by true f = let nobody : candidate_with t row.wish ≡ None = rw f at e in rw (f, nobody) refl

  module _ (candidate : ℕ) (e : accepting t row ≡ Some candidate) where
    pub two_accepted-some : (before : List StateRow)
        → two_accepted t before row ≡ option_map TwoAccepted (first_row (is_accepted_of t candidate) before)
    two_accepted-some before = let (f, own) =
        accepting-some (is_accepted row.status) (candidate_with t row.wish) candidate e in rw (f, own) refl

    pub is_accepted_of-some : (k : ℕ) → is_accepted_of t k row ≡ nat_eq candidate k
    is_accepted_of-some k = let (f, own) = accepting-some (is_accepted row.status)
        (candidate_with t row.wish) candidate e in rw (f, own) (nat_eq_sym k candidate)
