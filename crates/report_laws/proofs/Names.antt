-- Ids, status words, letters and dates tell what they stand for.
use Rattle.std.proofs.Common.{◌≡◌, ℕ, ◌<◌, Bool, cond, List, [], ◌∷◌, get_or, length, map, All, refl, sym, ap, ◌∙◌, inl}
use Rattle.std.proofs.Common.{inr, nat_eq, rules}
use Rattle.std.specs.Prelude.{codes, slice_index}
use Rattle.std.specs.Cmp.Lexicographic.{pointwise}
use Rattle.std.specs.Fmt.{decimal}
use Rattle.std.specs.List.{IsDistinct}
use Rattle.std.proofs.lemmas.Bool.{cases_order, eq-eqb, false≢true}
use Rattle.std.proofs.lemmas.List.{length-map}
use Rattle.std.proofs.lemmas.List.Elements.{All-head, All-tail}
use Rattle.std.proofs.lemmas.Map.Keys.{apart_from_distinct}
use Rattle.admit_core.specs.DossierRows.{DossierRows}
use Rattle.admit_core.specs.Lines.{bound_letter, status_word}
use Rattle.admit_core.specs.declared.dossier.School.{School}
use Rattle.admit_core.specs.declared.dossier.Wish.{Wish}
use Rattle.admit_core.specs.declared.ranking.Bound.{Bound}
use Rattle.admit_core.specs.declared.ranking.Bound.TheVariants as bound
use Rattle.admit_core.specs.declared.state.Status.{Status}
use Rattle.admit_core.specs.declared.state.Status.TheVariants.{Waiting, Offered, Accepted, Refused, Withdrawn, Quit}
use Rattle.admit_core.specs.declared.state.Status.TheVariants.{AutoRefused, AutoWithdrawn, Lapsed}
use Rattle.report.specs.Ids.{school_id, wish_id}
use Rattle.report_laws.specs.Told.{AreNames, HasNames, IsWishOf}
use Rattle.report_laws.proofs.Words.{AreTokens, IsToken, cons_told, longer, number_told, number_word}

-- ---- ids
-- two places with one id are the same
place_told : (ids : List ℕ) (j k : ℕ) → IsDistinct nat_eq ids → j < length ids → k < length ids
    → slice_index ids j ≡ slice_index ids k → j ≡ k
place_told ids j k distinct in_j in_k e =
    elim (cases_order j k) [
      | inl same ↦ same
      | inr other ↦
          elim other [
            | inl before ↦ absurd
                (false≢true (sym (apart_from_distinct nat_eq ids j k 0 distinct before in_k)
                ∙ eq-eqb (get_or ids j 0) (get_or ids k 0) e))
            | inr after ↦ absurd
                (false≢true (sym (apart_from_distinct nat_eq ids k j 0 distinct after in_j)
                ∙ eq-eqb (get_or ids k 0) (get_or ids j 0) (sym e)))
          ]
    ]

name_told : (ids : List ℕ) (j k : ℕ) → AreNames ids → j < length ids → k < length ids
    → decimal (slice_index ids j) ≡ decimal (slice_index ids k) → j ≡ k
name_told ids j k names in_j in_k e =
    place_told ids j k names.distinct in_j in_k
    (number_told (slice_index ids j) (slice_index ids k) (names.small j 0 in_j) (names.small k 0 in_k) e)

module _ (d : DossierRows) (names : HasNames d) where
  wish_in : (place : ℕ) → IsWishOf d place → place < length (map (λ (w : Wish). w.id) d.wishes)
  wish_in place is = rw length-map is

  school_in : (place : ℕ) → place < length d.schools → place < length (map (λ (h : School). h.id) d.schools)
  school_in place is = rw length-map is

  pub wish_word : (place : ℕ) → IsWishOf d place → IsToken (decimal (wish_id d place))
  wish_word place is = number_word (wish_id d place) (names.wishes.small place 0 (wish_in place is))

  pub school_word : (place : ℕ) → place < length d.schools → IsToken (decimal (school_id d place))
  school_word place is = number_word (school_id d place) (names.schools.small place 0 (school_in place is))

  pub wish_told : (j k : ℕ) → IsWishOf d j → IsWishOf d k → decimal (wish_id d j) ≡ decimal (wish_id d k) → j ≡ k
  wish_told j k in_j in_k e = name_told (map (λ (w : Wish). w.id) d.wishes) j k names.wishes (wish_in j in_j)
      (wish_in k in_k) e

  pub school_told : (j k : ℕ) → j < length d.schools → k < length d.schools
      → decimal (school_id d j) ≡ decimal (school_id d k) → j ≡ k
  school_told j k in_j in_k e = name_told (map (λ (h : School). h.id) d.schools) j k names.schools (school_in j in_j)
      (school_in k in_k) e

  pub wishes_words : (ws : List ℕ) → All (IsWishOf d) ws → AreTokens (map (λ w. decimal (wish_id d w)) ws)
  wishes_words [] are = tt
  wishes_words (w ∷ ws) are =
      (wish_word w (All-head (IsWishOf d) w ws are), wishes_words ws (All-tail (IsWishOf d) w ws are))

  pub wishes_told : (ws vs : List ℕ) → All (IsWishOf d) ws → All (IsWishOf d) vs
      → map (λ w. decimal (wish_id d w)) ws ≡ map (λ w. decimal (wish_id d w)) vs → ws ≡ vs
  wishes_told [] [] are is e = refl
  wishes_told [] (v ∷ vs) are is e = absurd (cc)
  wishes_told (w ∷ ws) [] are is e = absurd (cc)
  wishes_told (w ∷ ws) (v ∷ vs) are is e =
      let word : List ℕ → List (List ℕ) = map (λ k. decimal (wish_id d k)) in
      longer w v ws vs
      (wish_told w v (All-head (IsWishOf d) w ws are) (All-head (IsWishOf d) v vs is)
      (cons_told e).0)
      (wishes_told ws vs (All-tail (IsWishOf d) w ws are) (All-tail (IsWishOf d) v vs is)
      (cons_told e).1)

-- ---- statuses
abbrev is_word : List ℕ → List ℕ → Bool
is_word word other = pointwise nat_eq word other

status_in : List ℕ → Status
status_in w =
    cond (is_word w (codes "waiting")) Waiting
    (cond (is_word w (codes "offered")) Offered
    (cond (is_word w (codes "accepted")) Accepted
    (cond (is_word w (codes "refused")) Refused
    (cond (is_word w (codes "withdrawn")) Withdrawn
    (cond (is_word w (codes "quit")) Quit
    (cond (is_word w (codes "auto_refused")) AutoRefused
    (cond (is_word w (codes "auto_withdrawn")) AutoWithdrawn Lapsed)))))))

status_back : (x : Status) → status_in (status_word x) ≡ x
unfolding status_in
status_back Waiting = refl
status_back Offered = refl
status_back Accepted = refl
status_back Refused = refl
status_back Withdrawn = refl
status_back Quit = refl
status_back AutoRefused = refl
status_back AutoWithdrawn = refl
status_back Lapsed = refl

pub status_told : (x y : Status) → status_word x ≡ status_word y → x ≡ y
status_told x y e = sym (status_back x) ∙ ap status_in e ∙ status_back y

pub status_is_word : (x : Status) → IsToken (status_word x)
status_is_word Waiting = search rules
status_is_word Offered = search rules
status_is_word Accepted = search rules
status_is_word Refused = search rules
status_is_word Withdrawn = search rules
status_is_word Quit = search rules
status_is_word AutoRefused = search rules
status_is_word AutoWithdrawn = search rules
status_is_word Lapsed = search rules

-- ---- letters of the rules
bound_in : List ℕ → Bound
bound_in w =
    cond (is_word w (codes "-")) bound.Free
    (cond (is_word w (codes "s")) bound.Scholar
    (cond (is_word w (codes "r")) bound.Resident
    (cond (is_word w (codes "b")) bound.Both bound.Alone)))

bound_back : (x : Bound) → bound_in (bound_letter x) ≡ x
unfolding bound_in
bound_back bound.Free = refl
bound_back bound.Scholar = refl
bound_back bound.Resident = refl
bound_back bound.Both = refl
bound_back bound.Alone = refl

bound_told : (x y : Bound) → bound_letter x ≡ bound_letter y → x ≡ y
bound_told x y e = sym (bound_back x) ∙ ap bound_in e ∙ bound_back y

bound_is_word : (x : Bound) → IsToken (bound_letter x)
bound_is_word bound.Free = search rules
bound_is_word bound.Scholar = search rules
bound_is_word bound.Resident = search rules
bound_is_word bound.Both = search rules
bound_is_word bound.Alone = search rules

pub bounds_words : (xs : List Bound) → AreTokens (map bound_letter xs)
bounds_words [] = tt
bounds_words (x ∷ xs) = (bound_is_word x, bounds_words xs)

pub bounds_told : (xs ys : List Bound) → map bound_letter xs ≡ map bound_letter ys → xs ≡ ys
bounds_told [] [] e = refl
bounds_told [] (y ∷ ys) e = absurd (cc)
bounds_told (x ∷ xs) [] e = absurd (cc)
bounds_told (x ∷ xs) (y ∷ ys) e =
    longer x y xs ys (bound_told x y (cons_told e).0)
    (bounds_told xs ys (cons_told e).1)
