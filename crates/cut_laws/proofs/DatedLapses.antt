-- Where open offers are dated alike the same ones lapse, and are told as many days apart.
use Rattle.std.proofs.Common.{ℕ, suc, ◌+◌, ◌<◌, ◌≡◌, Bool, true, false, filter, List, [], ◌∷◌, length, map, Option}
use Rattle.std.proofs.Common.{Some, None, inl, inr, refl, sym, ◌∙◌, ap, arith, subst, get_or, option_map, zip}
use Rattle.std.specs.Prelude.{ℤ, pos, ◌+ℤ◌, ◌-ℤ◌, if◌then◌else◌}
use Rattle.std.specs.List.{AllZip, enumerate_from}
use Rattle.std.proofs.Math.ListN.{get_or-map as get_or-map_default}
use Rattle.std.proofs.lemmas.Bool.{and_parts, cases_Bool}
use Rattle.std.proofs.lemmas.Int.{ints}
use Rattle.std.proofs.lemmas.List.{get_or-map, length-map}
use Rattle.std.proofs.lemmas.Slice.Zip.{get_or-zip, length-zip}
use Rattle.admit_core.specs.declared.records.Lapse.{Lapse}
use Rattle.admit_core.specs.declared.records.Terms.{Terms}
use Rattle.admit_core.specs.declared.state.Mark.{Mark}
use Rattle.admit_core.specs.declared.state.Stamp.{Stamp}
use Rattle.admit_core.specs.declared.state.Status.TheVariants.{Lapsed}
use Rattle.admit_core.specs.Days.{first_mark}
use Rattle.admit_core.specs.Lapses.{is_offered, lapse, lapses, lapses_of, offer_day}
use Rattle.admit_core.specs.State.{State, changed_to}
use Rattle.cut_laws.specs.Alike.{HaveEqualStatuses}
use Rattle.cut_laws.specs.Cut.{open_offers}
use Rattle.cut_laws.proofs.Unstamped.{bare}
use Rattle.cut_laws.proofs.Steps.{status_alike}
use Rattle.cut_laws.proofs.Dated.{AreDated, IsDated, changed_dated, either_dated, lapse_alike, no_mark, same_at}

-- what holds at each place holds of two lists place by place
all_zip_at : {X : Type 0} (R : X → X → Type 0) (d : X) (xs ys : List X) → length ys ≡ length xs
    → ((k : ℕ) → k < length xs → R (get_or xs k d) (get_or ys k d)) → AllZip R xs ys
all_zip_at R d [] [] long each = tt
all_zip_at R d [] (y ∷ ys) long each = absurd (omega (arith, long))
all_zip_at R d (x ∷ xs) [] long each = absurd (omega (arith, long))
all_zip_at R d (x ∷ xs) (y ∷ ys) long each =
    (each 0 (omega arith), all_zip_at R d xs ys (omega (arith, long)) (λ k lt. each (suc k) (omega (arith, lt))))

-- two marks with their offers' days: one status, and an open offer dated a days apart
abbrev pub AreRows : ℕ → ℤ × Mark → ℤ × Mark → Type 0
AreRows a x y = (x.1.status ≡ y.1.status) × IsDated a x.0 x.1 y.0 y.1

pub rows_dated : (a : ℕ) (bs cs : List ℤ) (s t : State) → HaveEqualStatuses s t → AreDated a bs cs s t
    → AllZip (AreRows a) (zip bs s.marks) (zip cs t.marks)
rows_dated a bs cs s t e are =
    let long = length-zip bs s.marks in
    let long_there = length-zip cs t.marks in
    let d : ℤ × Mark = (pos 0, no_mark) in
    all_zip_at (AreRows a) d (zip bs s.marks) (zip cs t.marks)
    (omega (arith, long, long_there, are.terms, are.other_terms, are.others, are.marks))
    (λ k lt.
    let in_bs : k < length bs = omega (arith, lt, long, are.terms, are.marks) in
    let in_ms : k < length s.marks = omega (arith, lt, long, are.terms, are.marks) in
    let in_cs : k < length cs = omega (arith, in_bs, are.other_terms) in
    let in_ns : k < length t.marks = omega (arith, in_ms, are.others) in
    subst (λ (x : ℤ × Mark). AreRows a x (get_or (zip cs t.marks) k d)) (sym (get_or-zip bs s.marks k d in_bs in_ms))
    (subst (λ (y : ℤ × Mark). AreRows a (get_or bs k (pos 0), get_or s.marks k no_mark) y)
    (sym (get_or-zip cs t.marks k d in_cs in_ns)) (same_at s t k e, are.each k in_ms)))

-- ---- the lapse of a day
module _ (a term late early : ℕ) (days : late ≡ early + a) where
  abbrev after_late : ℤ × Mark → Mark
  after_late x = if lapses term late x.0 x.1 then changed_to Lapsed (record { day = late; pass = 0 }) x.1 else x.1

  abbrev after_early : ℤ × Mark → Mark
  after_early x = if lapses term early x.0 x.1 then changed_to Lapsed (record { day = early; pass = 0 }) x.1 else x.1

  lapsed_marks : (xs ys : List (ℤ × Mark)) → AllZip (AreRows a) xs ys
      → map bare (map after_late xs) ≡ map bare (map after_early ys)
  lapsed_marks [] [] all = refl
  lapsed_marks [] (y ∷ ys) all = absurd all
  lapsed_marks (x ∷ xs) [] all = absurd all
  lapsed_marks (x ∷ xs) (y ∷ ys) all =
      let status = status_alike (lapses term late x.0 x.1) (lapses term early y.0 y.1) Lapsed
      (record { day = late; pass = 0 }) (record { day = early; pass = 0 }) x.1 y.1
      (lapse_alike a x.0 y.0 term late early x.1 y.1 days all.0.0 all.0.1) all.0.0 in
      λ i. first_mark (status i) ∷ lapsed_marks xs ys all.1 i

  abbrev told : ℕ × (ℤ × Mark) → Lapse
  told x = record { wish = x.0; offered = offer_day x.1.0 x.1.1 }

  abbrev pub told_earlier : Lapse → Lapse
  told_earlier l = record l { offered = l.offered -ℤ pos a }

  lapsed_rows : (n : ℕ) (xs ys : List (ℤ × Mark)) → AllZip (AreRows a) xs ys
      → map told (filter (λ (y : ℕ × (ℤ × Mark)). lapses term early y.1.0 y.1.1) (enumerate_from n ys))
      ≡ map told_earlier (map told
      (filter (λ (x : ℕ × (ℤ × Mark)). lapses term late x.1.0 x.1.1) (enumerate_from n xs)))
  lapsed_rows n [] [] all = refl
  lapsed_rows n [] (y ∷ ys) all = absurd all
  lapsed_rows n (x ∷ xs) [] all = absurd all
  lapsed_rows n (x ∷ xs) (y ∷ ys) all =
      let same : lapses term late x.0 x.1 ≡ lapses term early y.0 y.1 =
      lapse_alike a x.0 y.0 term late early x.1 y.1 days all.0.0 all.0.1 in
      let rest = lapsed_rows (n + 1) xs ys all.1 in
      elim (cases_Bool (lapses term late x.0 x.1)) [
        | inl ends ↦
            let dated : offer_day x.0 x.1 ≡ offer_day y.0 y.1 +ℤ pos a =
            all.0.1 (and_parts (is_offered x.1.status) _ ends).0 in
            let back : offer_day y.0 y.1 ≡ offer_day x.0 x.1 -ℤ pos a = grind (arith, ints, dated) in
            let there : lapses term early y.0 y.1 ≡ true = sym same ∙ ends in
            rw (ends, there) (λ i. record { wish = n; offered = back i } ∷ rest i)
        | inr stands ↦
            let there : lapses term early y.0 y.1 ≡ false = sym same ∙ stands in
            rw (stands, there) rest
      ]

-- ---- what a list of marks with their days has at a place
pub row_at : {Y : Type 0} (f : ℤ × Mark → Y) (bs : List ℤ) (ms : List Mark) (k : ℕ) (d : Y) → length bs ≡ length ms
    → k < length ms → get_or (map f (zip bs ms)) k d ≡ f (get_or bs k (pos 0), get_or ms k no_mark)
row_at f bs ms k d long lt =
    let in_bs : k < length bs = omega (arith, lt, long) in
    let there : k < length (zip bs ms) = omega (arith, lt, long, length-zip bs ms) in
    get_or-map f (zip bs ms) k (pos 0, no_mark) d there ∙ ap f (get_or-zip bs ms k (pos 0, no_mark) in_bs lt)

pub rows_long : {Y : Type 0} (f : ℤ × Mark → Y) (bs : List ℤ) (ms : List Mark) → length bs ≡ length ms
    → length (map f (zip bs ms)) ≡ length ms
rows_long f bs ms long = length-map (zip bs ms) f ∙ omega (arith, long, length-zip bs ms)

-- ---- the terms of one length, in two states whose open offers are dated a days apart
abbrev pub of_term : ℕ → List ℤ → Terms
of_term term before = record { term = term; before = before }

module _ (a term : ℕ) (bs cs : List ℤ) (s t : State) (late early : ℕ) (e : HaveEqualStatuses s t)
    (are : AreDated a bs cs s t) (days : late ≡ early + a) where
  long_s : length bs ≡ length s.marks
  long_s = are.terms ∙ sym are.marks

  long_t : length cs ≡ length t.marks
  long_t = are.other_terms ∙ long_s ∙ sym are.others

  pub lapse_statuses : HaveEqualStatuses (lapse (of_term term bs) late s) (lapse (of_term term cs) early t)
  lapse_statuses =
      let marks = lapsed_marks a term late early days (zip bs s.marks) (zip cs t.marks)
      (rows_dated a bs cs s t e are) in
      λ i. record { dossier = ap (λ (u : State). u.dossier) e i; marks = marks i }

  pub lapses_told : lapses_of (of_term term cs) early t
      ≡ map (told_earlier a term late early days) (lapses_of (of_term term bs) late s)
  lapses_told = lapsed_rows a term late early days 0 (zip bs s.marks) (zip cs t.marks) (rows_dated a bs cs s t e are)

  pub lapse_dated : 0 < early → AreDated a bs cs (lapse (of_term term bs) late s) (lapse (of_term term cs) early t)
  lapse_dated begun =
      let one : Stamp = record { day = late; pass = 0 } in
      let other : Stamp = record { day = early; pass = 0 } in
      let as_long = rows_long (after_late a term late early days) bs s.marks long_s in
      let other_long = rows_long (after_early a term late early days) cs t.marks long_t in
      record {
        marks = as_long ∙ are.marks;
        others = other_long ∙ are.others ∙ sym as_long;
        terms = are.terms;
        other_terms = are.other_terms;
        each = λ k lt.
            let here : k < length s.marks = omega (arith, lt, as_long) in
            let there : k < length t.marks = omega (arith, here, are.others) in
            let b = get_or bs k (pos 0) in
            let c = get_or cs k (pos 0) in
            let m : Mark = get_or s.marks k no_mark in
            let n : Mark = get_or t.marks k no_mark in
            let same = same_at s t k e in
            let old = are.each k here in
            subst (λ (x : Mark). IsDated a b x c (get_or (lapse (of_term term cs) early t).marks k no_mark))
            (sym (row_at (after_late a term late early days) bs s.marks k no_mark long_s here))
            (subst (λ (x : Mark). IsDated a b (after_late a term late early days (b, m)) c x)
            (sym (row_at (after_early a term late early days) cs t.marks k no_mark long_t there))
            (either_dated a b c (lapses term late b m) (lapses term early c n) (changed_to Lapsed one m)
            (changed_to Lapsed other n) m n (lapse_alike a b c term late early m n days same old)
            (changed_dated a b c Lapsed Lapsed one other m n (record { apart = days; after_first = begun }) refl same
            old)
            old));
      }

-- ---- the open offers of a state, place by place
abbrev open_of : ℤ × Mark → Option ℤ
open_of x = if is_offered x.1.status then Some (offer_day x.0 x.1) else None

abbrev days_later : ℕ → Option ℤ → Option ℤ
days_later a o = option_map (λ day. day +ℤ pos a) o

open_alike : (a : ℕ) (p : Bool) (o e : ℤ) → (p ≡ true → o ≡ e +ℤ pos a)
    → (if p then Some o else None) ≡ days_later a (if p then Some e else None)
open_alike a true o e dated = ap Some (dated refl)
open_alike a false o e dated = refl

dated_open : (a : ℕ) (p : Bool) (o e : ℤ) → (if p then Some o else None) ≡ days_later a (if p then Some e else None)
    → p ≡ true → o ≡ e +ℤ pos a
dated_open a true o e same is = cc
dated_open a false o e same is = absurd (cc)

pub stand_rows : (a : ℕ) (xs ys : List (ℤ × Mark)) → AllZip (AreRows a) xs ys
    → map open_of xs ≡ map (days_later a) (map open_of ys)
stand_rows a [] [] all = refl
stand_rows a [] (y ∷ ys) all = absurd all
stand_rows a (x ∷ xs) [] all = absurd all
stand_rows a (x ∷ xs) (y ∷ ys) all =
    let here = open_alike a (is_offered x.1.status) (offer_day x.0 x.1) (offer_day y.0 y.1) all.0.1
    ∙ (λ i. days_later a (if is_offered (all.0.0 i) then Some (offer_day y.0 y.1) else None)) in
    λ i. here i ∷ stand_rows a xs ys all.1 i

pub stand_dated : (a term : ℕ) (bs cs : List ℤ) (s t : State) → HaveEqualStatuses s t
    → length s.marks ≡ length s.dossier.wishes → length bs ≡ length s.dossier.wishes
    → length cs ≡ length bs → length t.marks ≡ length s.marks
    → open_offers (of_term term bs) s ≡ map (days_later a) (open_offers (of_term term cs) t) → AreDated a bs cs s t
stand_dated a term bs cs s t e marked terms other_terms others stand =
    let long_s : length bs ≡ length s.marks = terms ∙ sym marked in
    let long_t : length cs ≡ length t.marks = other_terms ∙ long_s ∙ sym others in
    record {
      marks = marked;
      others = others;
      terms = terms;
      other_terms = other_terms;
      each = λ k lt.
          let there : k < length t.marks = omega (arith, lt, others) in
          let m : Mark = get_or s.marks k no_mark in
          let n : Mark = get_or t.marks k no_mark in
          let o = offer_day (get_or bs k (pos 0)) m in
          let f = offer_day (get_or cs k (pos 0)) n in
          let same = same_at s t k e in
          let at_k : (if is_offered m.status then Some o else None)
          ≡ days_later a (if is_offered n.status then Some f else None) =
          sym (row_at open_of bs s.marks k None long_s lt)
          ∙ ap (λ os. get_or os k None) stand
          ∙ get_or-map_default (days_later a) (open_offers (of_term term cs) t) k None
          ∙ ap (days_later a) (row_at open_of cs t.marks k None long_t there) in
          dated_open a (is_offered m.status) o f
          (at_k ∙ (λ i. days_later a (if is_offered (sym same i) then Some f else None)));
    }
