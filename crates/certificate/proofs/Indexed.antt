-- The ids of tables are those of their dossier.
use Rattle.std.proofs.Common.{◌≡◌, ℕ, List, [], ◌∷◌, map, refl, sym, ap, ◌∙◌}
use Rattle.admit_core.specs.declared.dossier.School.{School}
use Rattle.admit_core.specs.declared.dossier.Wish.{Wish}
use Rattle.admit_core.specs.declared.tables.SchoolRow.{SchoolRow}
use Rattle.admit_core.specs.declared.tables.Tables.{Tables}
use Rattle.admit_core.specs.declared.tables.WishRow.{WishRow}
use Rattle.admit_core.specs.Relations.{school_ids}
use Rattle.admit_core.specs.Standing.{dossier_of, school_of_row, wish_of_row}
use Rattle.dossier_check.specs.Ids.{ids_of}
use Rattle.certificate.specs.Checked.{ids_in}

ids_same : {X Y : Type 0} (id : X → ℕ) (own : Y → ℕ) (made : X → Y) (xs : List X) → ((x : X) → own (made x) ≡ id x)
    → map id xs ≡ map own (map made xs)
ids_same id own made [] same = refl
ids_same id own made (x ∷ xs) same = ap (λ n. n ∷ map id xs) (sym (same x))
    ∙ ap (λ (ns : List ℕ). own (made x) ∷ ns) (ids_same id own made xs same)

pub ids_are : (t : Tables) → ids_of t ≡ ids_in (dossier_of t)
ids_are t =
    ap (λ (ws : List ℕ). record { wishes = ws; schools = school_ids t })
    (ids_same (λ (w : WishRow). w.id) (λ (w : Wish). w.id) (wish_of_row t) t.wishes (λ w. refl))
    ∙ ap (λ (hs : List ℕ). record { wishes = map (λ (w : Wish). w.id) (dossier_of t).wishes; schools = hs })
    (ids_same (λ (h : SchoolRow). h.id) (λ (h : School). h.id) school_of_row t.schools (λ h. refl))
