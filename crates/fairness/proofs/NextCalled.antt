-- The next call of a ranking in which one candidate stands earlier, or has a flag more: it is the same, or it is
-- theirs.
use Rattle.std.proofs.Common.{ℕ, ◌+◌, ◌*◌, ◌≡◌, ◌⊎◌, Bool, true, false, not, ◌&&◌, ◌||◌, List, [], ◌∷◌, ◌++◌, length}
use Rattle.std.proofs.Common.{inl, inr, refl, sym, ◌∙◌, ap, subst, filter, nat_lt, count_by, Option, Some}
use Rattle.std.specs.Prelude.{option_map}
use Rattle.std.specs.List.{find, list_any}
use Rattle.std.proofs.lemmas.Bool.{and_cases, and_from, and_parts, both_ways, cases_Bool, false≢true}
use Rattle.std.proofs.lemmas.Bool.{false_from_ne_true, or_cases, or_left, or_parts, or_right}
use Rattle.std.proofs.lemmas.List.{append_assoc}
use Rattle.std.proofs.lemmas.List.Elements.{filter-append}
use Rattle.admit_core.specs.declared.ranking.Bound.{Bound}
use Rattle.admit_core.specs.declared.ranking.Bound.TheVariants.{Free, Scholar, Resident, Both, Alone}
use Rattle.admit_core.specs.declared.ranking.RankGroup.{RankGroup}
use Rattle.admit_core.specs.declared.ranking.Ranked.{Ranked}
use Rattle.admit_core.specs.CallOrder.{bound_after, bound_of, called, may_be_called, remaining}
use Rattle.admit_core.specs.Lists.{is_among}
use Rattle.admit_core.proofs.Tests.{any_implied}
use Rattle.admit_core.proofs.Plain.{find_same}

-- ---- lists with one more
any_insert : {X : Type 0} (t : X → Bool) (xs ys : List X) (u : X)
    → list_any t (xs ++ u ∷ ys) ≡ (t u || list_any t (xs ++ ys))
any_insert t [] ys u = refl
any_insert t (x ∷ xs) ys u = ap (λ b. t x || b) (any_insert t xs ys u) ∙ turn (t x) (t u) (list_any t (xs ++ ys)) where
  turn : (a b c : Bool) → (a || (b || c)) ≡ (b || (a || c))
  turn true true c = refl
  turn true false c = refl
  turn false b c = refl

any_insert_second : {X : Type 0} (t : X → Bool) (xs ys zs : List X) (u : X)
    → list_any t (xs ++ (ys ++ u ∷ zs)) ≡ (t u || list_any t (xs ++ (ys ++ zs)))
any_insert_second t xs ys zs u = ap (list_any t) (sym (append_assoc xs ys (u ∷ zs))) ∙ any_insert t (xs ++ ys) zs u
    ∙ ap (λ l. t u || list_any t l) (append_assoc xs ys zs)

-- one who fails is not found
find_skip : {X : Type 0} (t : X → Bool) (xs ys : List X) (u : X) → t u ≡ false
    → find t (xs ++ u ∷ ys) ≡ find t (xs ++ ys)
find_skip t [] ys u fails = rw fails refl
find_skip t (x ∷ xs) ys u fails =
    elim (cases_Bool (t x)) [
      | inl passes ↦ rw passes refl
      | inr other ↦ rw other (find_skip t xs ys u fails)
    ]

-- the only one who passes is found
find_only : {X : Type 0} (t : X → Bool) (xs ys : List X) (u : X) → list_any t (xs ++ ys) ≡ false → t u ≡ true
    → find t (xs ++ u ∷ ys) ≡ Some u
find_only t [] ys u none passes = rw passes refl
find_only t (x ∷ xs) ys u none passes =
    let parts = or_parts (t x) (list_any t (xs ++ ys)) none in
    rw parts.0 (find_only t xs ys u parts.1 passes)

abbrev pub id_of : Ranked → ℕ
id_of r = r.candidate

-- where the tests agree on all others and one stands earlier, the same is found or that one
find_earlier : (p q : Ranked → Bool) → ((x : Ranked) → p x ≡ q x) → (u v : Ranked) → (p u ≡ true → q v ≡ true)
    → (xs ys zs : List Ranked)
    → (find q (xs ++ v ∷ (ys ++ zs)) ≡ Some v) ⊎ (find q (xs ++ v ∷ (ys ++ zs)) ≡ find p (xs ++ (ys ++ u ∷ zs)))
find_earlier p q same u v gains [] ys zs =
    elim (cases_Bool (q v)) [
      | inl passes ↦ inl (rw passes refl)
      | inr fails ↦
          let u_fails : p u ≡ false = false_from_ne_true (p u) (λ t. false≢true (sym fails ∙ gains t)) in
          inr (rw fails (find_same q p (λ x. sym (same x)) (ys ++ zs) ∙ sym (find_skip p ys zs u u_fails)))
    ]
find_earlier p q same u v gains (x ∷ xs) ys zs =
    elim (cases_Bool (q x)) [
      | inl passes ↦ inr (rw (passes, same x, passes) refl)
      | inr fails ↦ rw (fails, same x, fails) (find_earlier p q same u v gains xs ys zs)
    ]

-- ---- the bounds
-- somebody may be called, and of the others nobody
pub record IsOnly (t : Ranked → Bool) (v : Ranked) (others : List Ranked) : Type 0 where
  pub may : t v ≡ true
  pub no_other : list_any t others ≡ false

abbrev is_scholar : Ranked → Bool
is_scholar r = r.scholar

abbrev is_resident : Ranked → Bool
is_resident r = r.resident

abbrev is_both : Ranked → Bool
is_both r = r.scholar && r.resident

-- the two bounds admit the same, or the second admits one candidate alone
Admit : Bound → Bound → Ranked → List Ranked → Type 0
Admit a b v others = ((x : Ranked) → may_be_called a x ≡ may_be_called b x) ⊎ IsOnly (may_be_called b) v others

module _ (v : Ranked) (others : List Ranked) where
  -- of the others nobody is both where nobody is a scholar, or a resident
  only_both : IsOnly is_scholar v others ⊎ IsOnly is_resident v others → list_any is_both (v ∷ others) ≡ true
      → IsOnly is_both v others
  only_both h t =
      let none : list_any is_both others ≡ false =
      false_from_ne_true (list_any is_both others) (λ some.
      elim h [
        | inl s ↦ false≢true (sym s.no_other ∙ any_implied is_both is_scholar
            (λ x both. (and_parts x.scholar x.resident both).0) others some)
        | inr r ↦ false≢true (sym r.no_other ∙ any_implied is_both is_resident
            (λ x both. (and_parts x.scholar x.resident both).1) others some)
      ]) in
      record {
        may = elim (or_cases (is_both v) (list_any is_both others) t)
            [ inl here ↦ here | inr other ↦ absurd (false≢true (sym none ∙ other)) ];
        no_other = none;
      }

  scholars_newly : (r f : Bool) (a : Bound) → IsOnly is_scholar v others → f ≡ list_any is_both (v ∷ others)
      → Admit a (bound_of true r f) v others
  unfolding Admit
  scholars_newly false f a only is = inr (record { may = only.may; no_other = only.no_other })
  scholars_newly true true a only is =
      let both = only_both (inl only) (sym is) in
      inr (record { may = both.may; no_other = both.no_other })
  scholars_newly true false a only is = inr (record { may = only.may; no_other = only.no_other })

  residents_newly : (s f g : Bool) → IsOnly is_resident v others → g ≡ list_any is_both (v ∷ others)
      → Admit (bound_of s false f) (bound_of s true g) v others
  unfolding Admit
  residents_newly false f g only is = inr (record { may = only.may; no_other = only.no_other })
  residents_newly true f true only is =
      let both = only_both (inr only) (sym is) in
      inr (record { may = both.may; no_other = both.no_other })
  residents_newly true f false only is = inl (λ x. refl)

  both_newly : (s r f g : Bool) → (f ≡ true → g ≡ true) → (f ≡ false → g ≡ true → IsOnly is_both v others)
      → Admit (bound_of s r f) (bound_of s r g) v others
  unfolding Admit
  both_newly false false f g gains newly = inl (λ x. refl)
  both_newly true false f g gains newly = inl (λ x. refl)
  both_newly false true f g gains newly = inl (λ x. refl)
  both_newly true true true true gains newly = inl (λ x. refl)
  both_newly true true false false gains newly = inl (λ x. refl)
  both_newly true true true false gains newly = absurd (false≢true (gains refl))
  both_newly true true false true gains newly = let both = newly refl refl in
      inr (record { may = both.may; no_other = both.no_other })

  -- rates that bind newly, bind because of the one candidate alone
  bounds : (s t r q f g : Bool) → (s ≡ true → t ≡ true) → (r ≡ true → q ≡ true) → (f ≡ true → g ≡ true)
      → (s ≡ false → t ≡ true → IsOnly is_scholar v others)
      → (r ≡ false → q ≡ true → IsOnly is_resident v others)
      → (f ≡ false → g ≡ true → IsOnly is_both v others)
      → g ≡ list_any is_both (v ∷ others)
      → Admit (bound_of s r f) (bound_of t q g) v others
  bounds false true r q f g gains_s gains_r gains_f scholars residents both is =
      scholars_newly q g (bound_of false r f) (scholars refl refl) is
  bounds true false r q f g gains_s gains_r gains_f scholars residents both is = absurd (false≢true (gains_s refl))
  bounds false false false true f g gains_s gains_r gains_f scholars residents both is =
      residents_newly false f g (residents refl refl) is
  bounds true true false true f g gains_s gains_r gains_f scholars residents both is =
      residents_newly true f g (residents refl refl) is
  bounds false false true false f g gains_s gains_r gains_f scholars residents both is =
      absurd (false≢true (gains_r refl))
  bounds true true true false f g gains_s gains_r gains_f scholars residents both is =
      absurd (false≢true (gains_r refl))
  bounds false false false false f g gains_s gains_r gains_f scholars residents both is =
      both_newly false false f g gains_f both
  bounds false false true true f g gains_s gains_r gains_f scholars residents both is =
      both_newly false true f g gains_f both
  bounds true true false false f g gains_s gains_r gains_f scholars residents both is =
      both_newly true false f g gains_f both
  bounds true true true true f g gains_s gains_r gains_f scholars residents both is =
      both_newly true true f g gains_f both

-- ---- one candidate moves up, or gains a flag
gain_or : (a b x : Bool) → (a ≡ true → b ≡ true) → (a || x) ≡ true → (b || x) ≡ true
gain_or a b x gains t = elim (or_cases a x t) [ inl here ↦ or_left b x (gains here) | inr other ↦ or_right b x other ]

gain_and : (a b x l : Bool) → (a ≡ true → b ≡ true) → ((a || x) && l) ≡ true → ((b || x) && l) ≡ true
gain_and a b x l gains t = let parts = and_parts (a || x) l t in
    and_from (b || x) l (gain_or a b x gains parts.0) parts.1

newly_or : (a b x : Bool) → (a || x) ≡ false → (b || x) ≡ true → (b ≡ true) × (x ≡ false)
newly_or a b x fails holds =
    let none = (or_parts a x fails).1 in
    (elim (or_cases b x holds) [ inl here ↦ here | inr other ↦ absurd (both_ways x none other) ], none)

newly_and : (a b x l : Bool) → ((a || x) && l) ≡ false → ((b || x) && l) ≡ true → (b ≡ true) × (x ≡ false)
newly_and a b x l fails holds =
    let parts = and_parts (b || x) l holds in
    elim (and_cases (a || x) l fails) [
      | inl none ↦ newly_or a b x none parts.0
      | inr not_l ↦ absurd (both_ways l not_l parts.1)
    ]

may_gain : (b : Bound) (u v : Ranked) → (u.scholar ≡ true → v.scholar ≡ true) → (u.resident ≡ true → v.resident ≡ true)
    → may_be_called b u ≡ true → may_be_called b v ≡ true
may_gain Free u v scholar resident may = refl
may_gain Scholar u v scholar resident may = scholar may
may_gain Resident u v scholar resident may = resident may
may_gain Both u v scholar resident may =
    let parts = and_parts u.scholar u.resident may in
    and_from v.scholar v.resident (scholar parts.0) (resident parts.1)
may_gain Alone u v scholar resident may = scholar may

-- who is called next
abbrev pub who : RankGroup → List ℕ → Option ℕ
who g before = option_map id_of (find (may_be_called (bound_after g before)) (remaining g before))

module _ (g : RankGroup) (xs ys zs : List Ranked) (u v : Ranked) (before : List ℕ)
    (not_called : is_among u.candidate before ≡ false) (same : v.candidate ≡ u.candidate)
    (scholar : u.scholar ≡ true → v.scholar ≡ true) (resident : u.resident ≡ true → v.resident ≡ true) where
  abbrev old : RankGroup
  old = record g { list = xs ++ (ys ++ u ∷ zs) }

  abbrev new : RankGroup
  new = record g { list = xs ++ v ∷ (ys ++ zs) }

  abbrev keeps : Ranked → Bool
  keeps r = not (is_among r.candidate before)

  abbrev first : List Ranked
  first = filter keeps xs

  abbrev middle : List Ranked
  middle = filter keeps ys

  abbrev last : List Ranked
  last = filter keeps zs

  abbrev others : List Ranked
  others = first ++ (middle ++ last)

  not_called_now : is_among v.candidate before ≡ false
  not_called_now = ap (λ c. is_among c before) same ∙ not_called

  old_remains : remaining old before ≡ first ++ (middle ++ u ∷ last)
  old_remains =
      let kept : filter keeps (u ∷ zs) ≡ u ∷ last = rw not_called refl in
      filter-append keeps xs (ys ++ u ∷ zs) ∙ ap (λ l. first ++ l) (filter-append keeps ys (u ∷ zs)
      ∙ ap (λ l. middle ++ l) kept)

  new_remains : remaining new before ≡ first ++ v ∷ (middle ++ last)
  new_remains =
      let kept : filter keeps (v ∷ (ys ++ zs)) ≡ v ∷ filter keeps (ys ++ zs) = rw not_called_now refl in
      filter-append keeps xs (v ∷ (ys ++ zs)) ∙ ap (λ l. first ++ l) (kept
      ∙ ap (λ l. v ∷ l) (filter-append keeps ys zs))

  same_called : called new before ≡ called old before
  same_called =
      let t : Ranked → Bool = λ r. is_among r.candidate before in
      let passed : filter t (v ∷ (ys ++ zs)) ≡ filter t (ys ++ zs) = rw not_called_now refl in
      let passed_old : filter t (u ∷ zs) ≡ filter t zs = rw not_called refl in
      let fewer : filter t (ys ++ u ∷ zs) ≡ filter t (ys ++ zs) =
      filter-append t ys (u ∷ zs) ∙ ap (λ l. filter t ys ++ l) passed_old ∙ sym (filter-append t ys zs) in
      filter-append t xs (v ∷ (ys ++ zs)) ∙ ap (λ l. filter t xs ++ l) (passed ∙ sym fewer)
      ∙ sym (filter-append t xs (ys ++ u ∷ zs))

  any_old : (t : Ranked → Bool) → list_any t (remaining old before) ≡ (t u || list_any t others)
  any_old t = ap (list_any t) old_remains ∙ any_insert_second t first middle last u

  any_new : (t : Ranked → Bool) → list_any t (remaining new before) ≡ (t v || list_any t others)
  any_new t = ap (list_any t) new_remains ∙ any_insert t first (middle ++ last) v

  -- too few of a kind were called
  abbrev few : ℕ → (Ranked → Bool) → List Ranked → Bool
  few rate kind so_far = nat_lt (100 * count_by kind so_far) (rate * (length before + 1))

  abbrev few_scholars : Bool
  few_scholars = few g.scholar_pct is_scholar (called old before)

  abbrev few_residents : Bool
  few_residents = few g.resident_pct is_resident (called old before)

  abbrev bound_with : Ranked → Bound
  bound_with x =
      bound_of ((is_scholar x || list_any is_scholar others) && few_scholars)
      ((is_resident x || list_any is_resident others) && few_residents)
      (is_both x || list_any is_both others)

  old_bound : bound_after old before ≡ bound_with u
  old_bound = λ i. bound_of (any_old is_scholar i && few_scholars) (any_old is_resident i && few_residents)
      (any_old is_both i)

  new_bound : bound_after new before ≡ bound_with v
  new_bound = λ i.
      bound_of (any_new is_scholar i && few g.scholar_pct is_scholar (same_called i))
      (any_new is_resident i && few g.resident_pct is_resident (same_called i))
      (any_new is_both i)

  both_gain : is_both u ≡ true → is_both v ≡ true
  both_gain t = let parts = and_parts u.scholar u.resident t in
      and_from v.scholar v.resident (scholar parts.0) (resident parts.1)

  admit_with : Admit (bound_with u) (bound_with v) v others
  admit_with =
      let some_s = list_any is_scholar others in
      let some_r = list_any is_resident others in
      let some_b = list_any is_both others in
      bounds v others ((is_scholar u || some_s) && few_scholars) ((is_scholar v || some_s) && few_scholars)
      ((is_resident u || some_r) && few_residents)
      ((is_resident v || some_r) && few_residents) (is_both u || some_b) (is_both v || some_b)
      (gain_and (is_scholar u) (is_scholar v) some_s few_scholars scholar)
      (gain_and (is_resident u) (is_resident v) some_r few_residents resident)
      (gain_or (is_both u) (is_both v) some_b both_gain)
      (λ fails holds. let n = newly_and (is_scholar u) (is_scholar v) some_s few_scholars fails holds in
      record { may = n.0; no_other = n.1 })
      (λ fails holds. let n = newly_and (is_resident u) (is_resident v) some_r few_residents fails holds in
      record { may = n.0; no_other = n.1 })
      (λ fails holds. let n = newly_or (is_both u) (is_both v) some_b fails holds in
      record { may = n.0; no_other = n.1 })
      refl

  admits : Admit (bound_after old before) (bound_after new before) v others
  admits =
      subst (λ (a : Bound). Admit a (bound_after new before) v others) (sym old_bound)
      (subst (λ (b : Bound). Admit (bound_with u) b v others) (sym new_bound) admit_with)

  pub next_or_them : (who new before ≡ Some u.candidate) ⊎ (who new before ≡ who old before)
  unfolding Admit
  next_or_them =
      let p = may_be_called (bound_after old before) in
      let q = may_be_called (bound_after new before) in
      let found = ap (find q) new_remains in
      let is_them = λ (them : find q (first ++ v ∷ (middle ++ last)) ≡ Some v). ap (option_map id_of) (found ∙ them)
      ∙ ap Some same in
      elim admits [
        | inl agree ↦
            elim (find_earlier p q agree u v (λ t. may_gain (bound_after new before) u v scholar resident
            (sym (agree u) ∙ t)) first middle last) [
              | inl them ↦ inl (is_them them)
              | inr equal ↦ inr (ap (option_map id_of) (found ∙ equal ∙ sym (ap (find p) old_remains)))
            ]
        | inr only ↦ inl (is_them (find_only q first (middle ++ last) v only.no_other only.may))
      ]
