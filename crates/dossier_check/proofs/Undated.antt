-- The dates of wishes whose statuses have none.
use Rattle.std.proofs.Common.{◌≡◌, nat_eq, Bool, true, false, List, [], ◌∷◌, Option, Some, None, find, length, map}
use Rattle.std.proofs.Common.{refl, is_some}
use Rattle.std.specs.Prelude.{not, replicate}
use Rattle.std.specs.List.{list_all}
use Rattle.std.specs.Option.{option_and_then}
use Rattle.std.proofs.lemmas.Bool.{and_parts}
use Rattle.admit_core.specs.declared.tables.Since.{Since}
use Rattle.admit_core.specs.declared.tables.StateRow.{StateRow}
use Rattle.admit_core.specs.declared.tables.Tables.{Tables}
use Rattle.dossier_check.specs.Dates.{dates_of, is_undated}

no_date : (since : Option Since) → not (is_some since) ≡ true → since ≡ None
no_date None is = refl
no_date (Some date) is = cc

-- no row that is found has a date
none_found : (p : StateRow → Bool) (rows : List StateRow) → list_all is_undated rows ≡ true
    → option_and_then (λ s. s.since) (find p rows) ≡ None
none_found p [] all = refl
none_found p (row ∷ rows) all = by (p row) refl (none_found p rows (and_parts _ _ all).1)
  where
    parts : (is_undated row ≡ true) × (list_all is_undated rows ≡ true)
    parts = and_parts _ _ all

    by : (here : Bool) → p row ≡ here → option_and_then (λ s. s.since) (find p rows) ≡ None
        → option_and_then (λ s. s.since) (find p (row ∷ rows)) ≡ None
    by true is later = rw is (no_date row.since parts.0)
    by false is later = rw is later

-- a map whose answers are all the same
pub map_same : {X Y : Type 0} (f : X → Y) (y : Y) (xs : List X) → ((x : X) → f x ≡ y)
    → map f xs ≡ replicate (length xs) y
map_same f y [] same = refl
map_same f y (x ∷ xs) same = cc (same x, map_same f y xs same)

pub undated : (t : Tables) → list_all is_undated t.state ≡ true → dates_of t ≡ replicate (length t.wishes) None
undated t all = map_same _ None t.wishes (λ w. none_found (λ s. nat_eq w.id s.wish) t.state all)
