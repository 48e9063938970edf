-- What the law of automatic days rests on: places of wishes, and what is as good for a candidate.
use Rattle.std.proofs.Common.{ℕ, zero, suc, ◌+◌, ◌<◌, ◌≤◌, ◌≡◌, ◌≢◌, ◌⊎◌, Bool, true, false, not, ◌&&◌, ◌||◌, filter}
use Rattle.std.proofs.Common.{List, [], ◌∷◌, length, map, take, drop, get_or, None, inl, inr, refl, sym, ◌∙◌, ap, subst}
use Rattle.std.proofs.Common.{arith, nat_eq, nat_lt}
use Rattle.std.specs.Prelude.{All, is_some, nat_le, option_map, slice_get, slice_index, unwrap_or}
use Rattle.std.specs.List.{AllByRecursion, AllZip, before_first, enumerate_from, list_any, position_or_len}
use Rattle.std.proofs.lemmas.Bool.{and_from, and_parts, cases_Bool, cases_lt, cases_order, eq-eqb, eqb-true, false≢true}
use Rattle.std.proofs.lemmas.Bool.{false_from_ne_true, leb-true, le-leb, lt-ltb, or_cases}
use Rattle.std.proofs.lemmas.List.{drop_all, drop_more, get_or_default, length-take-le, take-append-drop}
use Rattle.std.proofs.lemmas.List.Elements.{All-head, All-tail}
use Rattle.std.proofs.lemmas.List.Folds.{list_any-append}
use Rattle.std.proofs.lemmas.List.Sums.{passes_at_first, prefix_len-le-length}
use Rattle.std.proofs.lemmas.Slice.Zip.{get_or-zip, length-zip}
use Rattle.admit_core.specs.declared.dossier.Programme.{Programme}
use Rattle.admit_core.specs.declared.dossier.Wish.{Wish}
use Rattle.admit_core.specs.declared.ranking.CallOrder.{CallOrder}
use Rattle.admit_core.specs.declared.ranking.RankGroup.{RankGroup}
use Rattle.admit_core.specs.declared.ranking.Ranked.{Ranked}
use Rattle.admit_core.specs.declared.state.Mark.{Mark}
use Rattle.admit_core.specs.declared.state.Status.{Status}
use Rattle.admit_core.specs.declared.state.Status.TheVariants.{Waiting, Offered, Accepted, Refused, Withdrawn, Quit}
use Rattle.admit_core.specs.declared.state.Status.TheVariants.{AutoRefused, AutoWithdrawn, Lapsed}
use Rattle.admit_core.specs.AutoAnswer.{auto_status}
use Rattle.admit_core.specs.Blocking.{last_of}
use Rattle.admit_core.specs.CallOrder.{IsCallOrder}
use Rattle.admit_core.specs.Days.{first_mark}
use Rattle.admit_core.specs.DossierRows.{DossierRows}
use Rattle.admit_core.specs.Lists.{is_among}
use Rattle.admit_core.specs.State.{State, entries, is_gone, is_live, is_live_status, is_waiting_status}
use Rattle.admit_core.specs.Validity.{IsApart, IsValid, IsValidGroup}
use Rattle.admit_core.proofs.Evenings.{entry_wish}
use Rattle.admit_core.proofs.OrderPermutes.{among-order}
use Rattle.admit_core.proofs.Tests.{any_implied}
use Rattle.campaign_laws.specs.AutomaticDay.{IsAllAutomatic, has_as_good}

-- the candidate is live by a wish that they rank below n
abbrev pub has_better_than : State → ℕ → ℕ → Bool
has_better_than s c n =
    list_any (λ (e : Wish × Mark). is_live e.1 && nat_eq e.0.candidate c && nat_lt e.0.preference n) (entries s)

-- what is kept of each wish: a live one is matched by one that is no worse, and what is gone by a better one
pub record IsMatched (m : State) (w : Wish) (x : Mark) : Type 0 where
  pub live : is_live x ≡ true → has_as_good m w.candidate w.preference ≡ true
  pub gone : is_gone x ≡ true → has_better_than m w.candidate w.preference ≡ true

abbrev pub AllMatched : State → State → Type 0
AllMatched m s = All (λ (e : Wish × Mark). IsMatched m e.0 e.1) (entries s)

-- ---- lists
-- an index of a list that passes
pub none_placed : {X : Type 0} (test : X → Bool) (n : ℕ) (xs : List X)
    → map (λ (x : ℕ × X). x.0) (filter (λ (x : ℕ × X). test x.1) (enumerate_from n xs)) ≡ []
    → (k : ℕ) (d : X) → k < length xs → test (get_or xs k d) ≡ false
none_placed test n [] none k d lt = absurd (omega (arith, lt))
none_placed test n (x ∷ xs) none zero d lt =
    false_from_ne_true (test x) (λ passes. let some = rw passes at none in absurd (cc))
none_placed test n (x ∷ xs) none (suc k) d lt =
    elim (cases_Bool (test x)) [
      | inl passes ↦ let some = rw passes at none in absurd (cc)
      | inr fails ↦ none_placed test (n + 1) xs (rw fails at none) k d (omega (arith, lt))
    ]

pub nobody_last : (xs : List ℕ) → is_some (last_of xs) ≡ false → xs ≡ []
nobody_last [] none = refl
nobody_last (x ∷ []) none = absurd (cc)
nobody_last (x ∷ (y ∷ ys)) none = let rest = nobody_last (y ∷ ys) none in absurd (cc)

-- who stands in a list stands before the first place of c, is c, or stands behind
pub around : (c x : ℕ) (xs : List ℕ) → is_among x xs ≡ true
    → (is_among x
    (before_first (nat_eq c) xs) ≡ true) ⊎ ((x ≡ c) ⊎ (is_among x
    (drop (length (before_first (nat_eq c) xs) + 1) xs) ≡ true))
around c x xs among =
    let i = position_or_len (nat_eq c) xs in
    let le : i ≤ length xs = prefix_len-le-length (λ y. not (nat_eq c y)) xs in
    let long : length (take i xs) ≡ i = length-take-le i xs le in
    let parts : (is_among x (take i xs) || is_among x (drop i xs)) ≡ true =
    sym (list_any-append (nat_eq x) (take i xs) (drop i xs)) ∙ ap (is_among x) (take-append-drop i xs) ∙ among in
    elim (or_cases (is_among x (take i xs)) (is_among x (drop i xs)) parts) [
      | inl first ↦ inl first
      | inr rest ↦ elim (cases_lt i (length xs)) [
        | inl lt ↦
            let here : is_among x (get_or xs i 0 ∷ drop (i + 1) xs) ≡ true =
            ap (is_among x) (sym (drop_more xs i 0 lt)) ∙ rest in
            elim (or_cases (nat_eq x (get_or xs i 0)) (is_among x (drop (i + 1) xs)) here) [
              | inl same ↦ inr (inl
                  (eqb-true x (get_or xs i 0) same
                  ∙ sym (eqb-true c (get_or xs i 0) (passes_at_first (nat_eq c) xs 0 lt))))
              | inr later ↦ inr (inr (rw long later))
            ]
        | inr past ↦ absurd (false≢true (sym (ap (is_among x) (drop_all i xs past)) ∙ rest))
      ]
    ]

-- ---- the call order of a programme has everyone who is ranked for it
pub ranked_called : (gs : List RankGroup) (os : List CallOrder) → All IsValidGroup gs → AllZip IsCallOrder gs os
    → (g c : ℕ)
    → is_among c (map (λ (r : Ranked). r.candidate)
    (unwrap_or (option_map (λ (x : RankGroup). x.list) (slice_get gs g)) [])) ≡ true
    → is_among c (unwrap_or (option_map (λ (o : CallOrder). o.list) (slice_get os g)) []) ≡ true
ranked_called [] [] valid calls g c t = t
ranked_called [] (o ∷ os) valid calls g c t = absurd calls
ranked_called (x ∷ gs) [] valid calls g c t = absurd calls
ranked_called (x ∷ gs) (o ∷ os) valid calls zero c t = among-order x o (All-head IsValidGroup x gs valid).ranking
    calls.0 c ∙ t
ranked_called (x ∷ gs) (o ∷ os) valid calls (suc g) c t = ranked_called gs os (All-tail IsValidGroup x gs valid)
    calls.1 g c t

pub false_ne : (a b : ℕ) → nat_eq a b ≡ false → a ≢ b
false_ne a b fails same = false≢true (sym fails ∙ eq-eqb a b same)

-- a wish of the dossier, by its place
pub record StandsAt (d : DossierRows) (k : ℕ) (w : Wish) : Type 0 where
  pub within : k < length d.wishes
  pub here : w ≡ get_or d.wishes k w

-- the wish of an entry stands at the entry's place
pub stands : (s : State) (d : DossierRows) → s.dossier ≡ d → (k : ℕ) (e : Wish × Mark) → k < length (entries s)
    → get_or (entries s) k e ≡ e → StandsAt d k e.0
stands s d of k e lt at =
    let place = entry_wish s k e lt at in
    record {
      within = subst (λ (x : DossierRows). k < length x.wishes) of place.0;
      here =
          subst (λ (x : DossierRows). e.0 ≡ get_or x.wishes k e.0) of place.1;
    }

module _ (d : DossierRows) (valid : IsValid d) (auto : IsAllAutomatic d) where
  pub no_school : (k : ℕ) (w : Wish) → StandsAt d k w → w.school ≡ None
  no_school k w at = ap (λ (v : Wish). v.school) at.here ∙ auto.schools k w at.within

  pub prefers : (k : ℕ) (w : Wish) → StandsAt d k w → 0 < w.preference
  prefers k w at = subst (λ (v : Wish). 0 < v.preference) (sym at.here) (auto.ranked k w at.within)

  pub apart : (j k : ℕ) (v w : Wish) → StandsAt d j v → StandsAt d k w → v.candidate ≡ w.candidate
      → v.programme ≡ w.programme → j < k → ⊥
  apart j k v w at_v at_w same_c same_p below =
      let both : IsApart (get_or d.wishes j v) (get_or d.wishes k v) = valid.wishes_apart j k v below at_w.within in
      let second : get_or d.wishes k v ≡ w = get_or_default d.wishes k v w at_w.within ∙ sym at_w.here in
      let are : IsApart v w = subst (λ (u : Wish). IsApart v u) second
      (subst (λ (u : Wish). IsApart u (get_or d.wishes k v)) (sym at_v.here) both) in
      are.named same_c same_p (no_school j v at_v ∙ sym (no_school k w at_w))

  -- a candidate has one wish of a programme
  pub one_wish : (j k : ℕ) (v w : Wish) → StandsAt d j v → StandsAt d k w → v.candidate ≡ w.candidate
      → v.programme ≡ w.programme → j ≡ k
  one_wish j k v w at_v at_w same_c same_p =
      elim (cases_order j k) [
        | inl same ↦ same
        | inr other ↦ elim other [
          | inl below ↦ absurd (apart j k v w at_v at_w same_c same_p below)
          | inr above ↦ absurd (apart k j w v at_w at_v (sym same_c) (sym same_p) above)
        ]
      ]

-- the mark of a state at a place
pub mark_of : (d : DossierRows) (s : State) → s.dossier ≡ d → length s.marks ≡ length d.wishes → (k : ℕ) (w : Wish)
    → StandsAt d k w
    → (x : Mark) × (k < length (entries s)) × (get_or (entries s) k (w, x) ≡ (w, x))
mark_of d s of long k w at =
    let blank : Mark = first_mark Waiting in
    let ws = s.dossier.wishes in
    let w_lt : k < length ws = rw of at.within in
    let x_lt : k < length s.marks = rw long at.within in
    let x = get_or s.marks k blank in
    let wish : get_or ws k w ≡ w = ap (λ (y : DossierRows). get_or y.wishes k w) of ∙ sym at.here in
    let mark : get_or s.marks k x ≡ x = get_or_default s.marks k x blank x_lt in (
      x,
      omega (arith, length-zip ws s.marks, w_lt, x_lt),
      get_or-zip ws s.marks k (w, x) w_lt x_lt
          ∙ ap (λ (v : Wish). (v, get_or s.marks k x)) wish ∙ ap (λ (y : Mark). (w, y)) mark,
    )

-- without call limits
pub no_limit : (ps : List Programme) (p : ℕ) → AllByRecursion (λ (q : Programme). q.limit ≡ 0) ps
    → slice_index (map (λ (q : Programme). q.limit) ps) p ≡ 0
no_limit [] p all = refl
no_limit (q ∷ ps) zero all = all.0
no_limit (q ∷ ps) (suc p) all = no_limit ps p all.1

-- a mark that an automatic answer ends was gone, or live beside a better one, or waited behind it
abbrev pub gone_status : Status → Bool
gone_status x = not (is_live_status x || is_waiting_status x)

pub gone_by_answer : (x : Status) (is_best is_behind : Bool) → gone_status (auto_status x is_best is_behind) ≡ true
    → (gone_status x ≡ true) ⊎ (((is_live_status x ≡ true) × (is_best ≡ false)) ⊎ (is_behind ≡ true))
gone_by_answer Waiting is_best true gone = inr (inr refl)
gone_by_answer Waiting is_best false gone = absurd (cc)
gone_by_answer Offered true is_behind gone = absurd (cc)
gone_by_answer Offered false is_behind gone = inr (inl (refl, refl))
gone_by_answer Accepted true is_behind gone = absurd (cc)
gone_by_answer Accepted false is_behind gone = inr (inl (refl, refl))
gone_by_answer Refused is_best is_behind gone = inl refl
gone_by_answer Withdrawn is_best is_behind gone = inl refl
gone_by_answer Quit is_best is_behind gone = inl refl
gone_by_answer AutoRefused is_best is_behind gone = inl refl
gone_by_answer AutoWithdrawn is_best is_behind gone = inl refl
gone_by_answer Lapsed is_best is_behind gone = inl refl

-- what is as good as n is as good as a greater number, and better than one that is greater still
pub as_good_as : (m : State) (c k n : ℕ) → k ≤ n → has_as_good m c k ≡ true → has_as_good m c n ≡ true
as_good_as m c k n le has =
    any_implied (λ (e : Wish × Mark). is_live e.1 && nat_eq e.0.candidate c && nat_le e.0.preference k)
    (λ (e : Wish × Mark). is_live e.1 && nat_eq e.0.candidate c && nat_le e.0.preference n)
    (λ e t.
    let outer = and_parts (is_live e.1 && nat_eq e.0.candidate c) (nat_le e.0.preference k) t in
    let within = leb-true e.0.preference k outer.1 in
    and_from (is_live e.1 && nat_eq e.0.candidate c) (nat_le e.0.preference n) outer.0
    (le-leb e.0.preference n (omega (arith, within, le)))) (entries m) has

pub better_by : (m : State) (c k n : ℕ) → k < n → has_as_good m c k ≡ true → has_better_than m c n ≡ true
better_by m c k n lt has =
    any_implied (λ (e : Wish × Mark). is_live e.1 && nat_eq e.0.candidate c && nat_le e.0.preference k)
    (λ (e : Wish × Mark). is_live e.1 && nat_eq e.0.candidate c && nat_lt e.0.preference n)
    (λ e t.
    let outer = and_parts (is_live e.1 && nat_eq e.0.candidate c) (nat_le e.0.preference k) t in
    let within = leb-true e.0.preference k outer.1 in
    and_from (is_live e.1 && nat_eq e.0.candidate c) (nat_lt e.0.preference n) outer.0
    (lt-ltb e.0.preference n (omega (arith, within, lt)))) (entries m) has
