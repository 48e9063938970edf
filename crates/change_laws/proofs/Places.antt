-- States over the same wishes, looked at place by place.
use Rattle.std.proofs.Common.{ℕ, ◌≤◌, ◌<◌, ◌≡◌, Bool, true, ◌&&◌, filter, List, length, Some, None, refl, sym, ◌∙◌, ap}
use Rattle.std.proofs.Common.{arith, nat_eq, get_or}
use Rattle.std.specs.Prelude.{nat_le}
use Rattle.std.specs.List.{list_any}
use Rattle.std.proofs.lemmas.Bool.{and_from, eq-eqb, false≢true, le-leb}
use Rattle.std.proofs.lemmas.List.{get_or-map, get_or_default}
use Rattle.std.proofs.lemmas.List.Folds.{Any-from_list_any, list_any_at}
use Rattle.std.proofs.lemmas.Slice.Zip.{get_or-zip, length-zip}
use Rattle.admit_core.specs.declared.dossier.Wish.{Wish}
use Rattle.admit_core.specs.declared.state.Mark.{Mark}
use Rattle.admit_core.specs.declared.state.Status.TheVariants.{Waiting}
use Rattle.admit_core.specs.AutoAnswer.{best_live}
use Rattle.admit_core.specs.Days.{first_mark}
use Rattle.admit_core.specs.State.{State, entries, with_marks}
use Rattle.admit_core.proofs.Evenings.{entry_wish}
use Rattle.admit_core.proofs.Plain.{any-filter}
use Rattle.admit_core.proofs.Remaining.{least_passes}
use Rattle.day_state.proofs.Along.{length-with_marks}
use Rattle.campaign_laws.proofs.Kept.{least_within, none_least, ranked_live}

-- a state of these wishes, with a mark for each
pub record IsOver (ws : List Wish) (s : State) : Type 0 where
  pub wishes : s.dossier.wishes ≡ ws
  pub long : length s.marks ≡ length ws

-- a wish by its place
pub record IsAt (ws : List Wish) (k : ℕ) (w : Wish) : Type 0 where
  pub within : k < length ws
  pub here : get_or ws k w ≡ w

abbrev pub mark_in : State → ℕ → Mark
mark_in s k = get_or s.marks k (first_mark Waiting)

module _ (ws : List Wish) (s : State) (over : IsOver ws s) where
  pub marked_too : length s.marks ≡ length s.dossier.wishes
  marked_too = over.long ∙ ap (λ (x : List Wish). length x) (sym over.wishes)

  pub entry_there : (k : ℕ) (w : Wish) → IsAt ws k w
      → (k < length (entries s)) × (get_or (entries s) k (w, mark_in s k) ≡ (w, mark_in s k))
  entry_there k w at =
      let x : Mark = mark_in s k in
      let w_lt : k < length s.dossier.wishes = rw over.wishes at.within in
      let x_lt : k < length s.marks = rw over.long at.within in
      let wish : get_or s.dossier.wishes k w ≡ w = ap (λ (y : List Wish). get_or y k w) over.wishes ∙ at.here in
      let mark : get_or s.marks k x ≡ x = get_or_default s.marks k x (first_mark Waiting) x_lt in (
        rw (length-zip s.dossier.wishes s.marks) (omega (arith, w_lt, x_lt)),
        get_or-zip s.dossier.wishes s.marks k (w, x) w_lt x_lt
            ∙ ap (λ (v : Wish). (v, get_or s.marks k x)) wish ∙ ap (λ (y : Mark). (w, y)) mark,
      )

  -- what passes at a place is some entry that passes
  pub any_here : (test : Wish × Mark → Bool) (k : ℕ) (w : Wish) → IsAt ws k w → test (w, mark_in s k) ≡ true
      → list_any test (entries s) ≡ true
  any_here test k w at passes =
      let there = entry_there k w at in
      list_any_at test (entries s) k (w, mark_in s k) there.0 (ap test there.1 ∙ passes)

  -- and the other way round
  pub record IsFound (test : Wish × Mark → Bool) : Type 0 where
    pub place : ℕ
    pub wish : Wish
    pub at : IsAt ws place wish
    pub passes : test (wish, mark_in s place) ≡ true

  pub any_there : (test : Wish × Mark → Bool) → list_any test (entries s) ≡ true → IsFound test
  any_there test t =
      let (k, e, lt, at, passes) = Any-from_list_any test (entries s) t in
      let place = entry_wish s k e lt at in
      let w_lt : k < length ws = rw (← over.wishes) place.0 in
      let x_lt : k < length s.marks = rw over.long w_lt in
      let both = get_or-zip s.dossier.wishes s.marks k e place.0 x_lt in
      let mark : e.1 ≡ mark_in s k =
      ap (λ (y : Wish × Mark). y.1) (sym at ∙ both) ∙ get_or_default s.marks k e.1 (first_mark Waiting) x_lt in
      record {
        place = k;
        wish = e.0;
        at = record { within = w_lt; here = ap (λ (y : List Wish). get_or y k e.0) (sym over.wishes) ∙ sym place.1 };
        passes = ap (λ (y : Mark). test (e.0, y)) (sym mark) ∙ passes;
      }

  -- marks that are given by wish and mark
  pub mark_given : (f : Wish → Mark → Mark) (k : ℕ) (w : Wish) → IsAt ws k w
      → mark_in (with_marks s f) k ≡ f w (mark_in s k)
  mark_given f k w at =
      let there = entry_there k w at in
      let g : Wish × Mark → Mark = λ (e : Wish × Mark). f e.0 e.1 in
      get_or-map g (entries s) k (w, mark_in s k) (first_mark Waiting) there.0 ∙ ap g there.1

  pub over_given : (f : Wish → Mark → Mark) → IsOver ws (with_marks s f)
  over_given f = record { wishes = over.wishes; long = length-with_marks f s marked_too ∙ over.long }

  -- ---- the best live wish of a candidate
  abbrev pub level : Wish × Mark → ℕ
  level e = e.0.preference

  pub best_found : (c : ℕ) (b : Wish × Mark) → best_live s c ≡ Some b
      → IsFound (λ e. ranked_live c e && nat_eq e.0.preference b.0.preference)
  best_found c b best =
      let same = λ (e : Wish × Mark). nat_eq e.0.preference b.0.preference in
      any_there (λ e. ranked_live c e && same e)
      (sym (any-filter same (ranked_live c) (entries s))
      ∙ least_passes same level (filter (ranked_live c) (entries s)) b best (eq-eqb b.0.preference b.0.preference refl))

  pub best_is_least : (c : ℕ) (b : Wish × Mark) → best_live s c ≡ Some b → (k : ℕ) (w : Wish) → IsAt ws k w
      → ranked_live c (w, mark_in s k) ≡ true → b.0.preference ≤ w.preference
  best_is_least c b best k w at passes =
      least_within (ranked_live c) level w.preference (entries s) b best
      (any_here (λ e. ranked_live c e && nat_le e.0.preference w.preference) k w at
      (and_from (ranked_live c (w, mark_in s k)) (nat_le w.preference w.preference) passes
      (le-leb w.preference w.preference (omega arith))))

  pub none_lives : (c : ℕ) → best_live s c ≡ None → (k : ℕ) (w : Wish) → IsAt ws k w
      → ranked_live c (w, mark_in s k) ≡ true → ⊥
  none_lives c none k w at passes =
      false≢true (sym (none_least (ranked_live c) level (entries s) none) ∙ any_here (ranked_live c) k w at passes)
