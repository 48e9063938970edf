-- Pickers by name.
use Rattle.std.proofs.Common.{◌≡◌, ◌∙◌, ℕ, Bool, true, false, List, [], ◌∷◌, ◌++◌, Option, ap, append_assoc, filter}
use Rattle.std.proofs.Common.{flat_map, inl, inr, refl, subst, sym}
use Rattle.std.proofs.lemmas.Bool.{cases_Bool}
use Rattle.std.proofs.lemmas.Grind.{flat_map-append}
use Rattle.std.proofs.lemmas.List.{append-nil}
use Rattle.std.proofs.lemmas.List.Elements.{filter-append}
use Rattle.admit_core.specs.declared.records.DayRecord.{DayRecord}
use Rattle.desk_day.proofs.PassesSoFar.{tells_on}
use Rattle.desk_day.specs.DayPasses.{schools_of_passes}
use Rattle.request.specs.Pickers.{picker_on}
use Rattle.request.specs.declared.pickers.PickerChoice.{PickerChoice}
use Rattle.request.specs.declared.pickers.PickerName.{PickerName}
use Rattle.request.specs.declared.pickers.PickerName.TheVariants.{First, Last, Turn}
use Rattle.played.specs.Lent.{AreBack, Lent, Told, choice_in, is_named, named, picked_by, told_in}

pub named_self : (name : PickerName) → is_named name name ≡ true
named_self First = refl
named_self Last = refl
named_self Turn = refl

named_same : (one other : PickerName) → is_named one other ≡ true → one ≡ other
named_same First First is = refl
named_same First Last is = cc
named_same First Turn is = cc
named_same Last First is = cc
named_same Last Last is = refl
named_same Last Turn is = cc
named_same Turn First is = cc
named_same Turn Last is = cc
named_same Turn Turn is = refl

-- what holds of the picker of a name and of each other one holds of all
pub each_named : (P : PickerName → Type 0) (name : PickerName) → P name
    → ((other : PickerName) → is_named other name ≡ false → P other) → (n : PickerName) → P n
each_named P name here others n =
    elim (cases_Bool (is_named n name)) [
      | inl is ↦ subst P (sym (named_same n name is)) here
      | inr none
          ↦ others n none
    ]

pub picked_here : (who : PickerChoice) (name : PickerName) (day : DayRecord)
    → is_named name (picker_on who day.day) ≡ true
    → picked_by who name (day ∷ []) ≡ schools_of_passes day.passes
picked_here who name day is = rw (is, append-nil (schools_of_passes day.passes)) refl

pub picked_none : (who : PickerChoice) (name : PickerName) (day : DayRecord)
    → is_named name (picker_on who day.day) ≡ false → picked_by who name (day ∷ []) ≡ []
picked_none who name day none = rw none refl

pub picked_by-append : (who : PickerChoice) (name : PickerName) (xs ys : List DayRecord)
    → picked_by who name (xs ++ ys) ≡ picked_by who name xs ++ picked_by who name ys
picked_by-append who name xs ys =
    let on : DayRecord → Bool = λ day. is_named name (picker_on who day.day) in
    let schools : DayRecord → List ℕ = λ day. schools_of_passes day.passes in
    ap (flat_map schools) (filter-append on xs ys) ∙ flat_map-append schools (filter on xs) (filter on ys)

pub back_again : (before between after : Lent) → AreBack before between → AreBack between after → AreBack before after
back_again before between after one two = record {
  choice = λ name. two.choice name ∙ one.choice name;
  told = λ name. tells_on (before.told name) (between.told name) (after.told name) (one.told name) (two.told name);
}

pub back_untouched : (before : Lent) → AreBack before before
back_untouched before = record { choice = λ name. refl; told = λ name. ([], sym (append-nil (before.told name))) }

pub told_more : (who : PickerChoice) (days : List DayRecord) (day : DayRecord)
    (before between after : Lent) → Told who days before between → Told who (day ∷ []) between after
    → Told who (days ++ day ∷ []) before after
told_more who days day before between after one two =
    λ name.
    two name ∙ ap (λ x. x ++ picked_by who name (day ∷ [])) (one name)
    ∙ append_assoc (before.told name) (picked_by who name days) (picked_by who name (day ∷ []))
    ∙ ap (λ x. before.told name ++ x) (sym (picked_by-append who name days (day ∷ [])))

-- only the picker of the name was lent
pub record OnlyNamed (name : PickerName) (before after : Lent) : Type 0 where
  pub told : (other : PickerName) → is_named other name ≡ false → after.told other ≡ before.told other
  pub choice : (other : PickerName) → is_named other name ≡ false → after.choice other ≡ before.choice other

-- pickers of which one alone is another
module _ {B : Type 0} (told : B → List ℕ) (choice : B → List ℕ → List ℕ → ℕ) (a b c new : Option B) where
  abbrev these : Option B → Option B → Option B → Lent
  these x y z = record { told = λ n. told_in told (named x y z n); choice = λ n. choice_in choice (named x y z n) }

  -- three of which the others of the name are as they were
  only_where : (name : PickerName) (x y z : Option B)
      → ((n : PickerName) → is_named n name ≡ false → named x y z n ≡ named a b c n)
      → OnlyNamed name (these a b c) (these x y z)
  only_where name x y z same = record {
    told = λ n other. ap (told_in told) (same n other);
    choice = λ n other. ap (choice_in choice) (same n other);
  }

  pub only_first : OnlyNamed First (these a b c) (these new b c)
  only_first = only_where First new b c same where
    same : (n : PickerName) → is_named n First ≡ false → named new b c n ≡ named a b c n
    same First other = cc
    same Last other = refl
    same Turn other = refl

  pub only_last : OnlyNamed Last (these a b c) (these a new c)
  only_last = only_where Last a new c same where
    same : (n : PickerName) → is_named n Last ≡ false → named a new c n ≡ named a b c n
    same First other = refl
    same Last other = cc
    same Turn other = refl

  pub only_turn : OnlyNamed Turn (these a b c) (these a b new)
  only_turn = only_where Turn a b new same where
    same : (n : PickerName) → is_named n Turn ≡ false → named a b new n ≡ named a b c n
    same First other = refl
    same Last other = refl
    same Turn other = cc
