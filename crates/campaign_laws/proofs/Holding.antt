-- Who waits or is live after a step did or was before it, or is offered a wish.
use Rattle.std.proofs.Common.{ℕ, zero, suc, ◌≡◌, ◌⊎◌, Bool, true, ◌&&◌, ◌||◌, List, [], ◌∷◌, Option, Some, inl, inr}
use Rattle.std.proofs.Common.{sym, ◌∙◌, ap, nat_eq}
use Rattle.std.specs.Prelude.{slice_get, unwrap_or}
use Rattle.std.specs.List.{AllZip, list_any}
use Rattle.std.proofs.lemmas.Bool.{and_from, and_parts, false≢true, or_cases, or_left, or_right}
use Rattle.admit_core.specs.declared.dossier.Wish.{Wish}
use Rattle.admit_core.specs.declared.ranking.CallOrder.{CallOrder}
use Rattle.admit_core.specs.declared.state.Mark.{Mark}
use Rattle.admit_core.specs.declared.state.Stamp.{Stamp}
use Rattle.admit_core.specs.Days.{offered}
use Rattle.admit_core.specs.Proposals.{is_proposed}
use Rattle.admit_core.specs.State.{State, entries, is_live}
use Rattle.admit_core.proofs.Holders.{holds, lives_with}
use Rattle.campaign_laws.proofs.OneMark.{KeptOrOffered, KeptOrTouched, Marks, OfOneWish, offers_of_a_pass}

-- one that passes afterwards comes from one that passed a test before
pub any_back : (T : Wish → Mark → Mark → Type 0) (q r : Wish × Mark → Bool)
    → ((w : Wish) (m n : Mark) → T w m n → r (w, n) ≡ true → q (w, m) ≡ true)
    → (xs ys : List (Wish × Mark)) → AllZip (OfOneWish T) xs ys → list_any r ys ≡ true → list_any q xs ≡ true
any_back T q r back [] [] all t = absurd (false≢true t)
any_back T q r back [] (y ∷ ys) all t = absurd all
any_back T q r back (x ∷ xs) [] all t = absurd all
any_back T q r back (x ∷ xs) (y ∷ ys) all t =
    elim (or_cases (r y) (list_any r ys) t) [
      | inl here ↦
          let moved : r (x.0, y.1) ≡ true = ap (λ (w : Wish). r (w, y.1)) (sym all.0.0) ∙ here in
          or_left (q x) (list_any q xs) (back x.0 x.1 y.1 all.0.1 moved)
      | inr later ↦ or_right (q x) (list_any q xs) (any_back T q r back xs ys all.1 later)
    ]

pub any_either : {X : Type 0} (a b : X → Bool) (xs : List X) → list_any (λ x. a x || b x) xs ≡ true
    → (list_any a xs ≡ true) ⊎ (list_any b xs ≡ true)
any_either a b [] t = absurd (false≢true t)
any_either a b (x ∷ xs) t =
    elim (or_cases (a x || b x) (list_any (λ y. a y || b y) xs) t) [
      | inl here ↦ elim (or_cases (a x) (b x) here) [
        | inl first ↦ inl (or_left (a x) (list_any a xs) first)
        | inr second ↦ inr (or_left (b x) (list_any b xs) second)
      ]
      | inr later ↦ elim (any_either a b xs later) [
        | inl first ↦ inl (or_right (a x) (list_any a xs) first)
        | inr second ↦ inr (or_right (b x) (list_any b xs) second)
      ]
    ]

-- the entry before, at a place
pub entry_before : (T : Wish → Mark → Mark → Type 0) (xs ys : List (Wish × Mark)) (k : ℕ) (w : Wish) (n : Mark)
    → AllZip (OfOneWish T) xs ys
    → slice_get ys k ≡ Some (w, n) → (m : Mark) × (slice_get xs k ≡ Some (w, m)) × T w m n
entry_before T [] [] k w n all at = absurd (cc)
entry_before T [] (y ∷ ys) k w n all at = absurd all
entry_before T (x ∷ xs) [] k w n all at = absurd all
entry_before T (x ∷ xs) (y ∷ ys) zero w n all at =
    let same : y ≡ (w, n) = ap (λ (o : Option (Wish × Mark)). unwrap_or o y) at in
    let wish : x.0 ≡ w = sym all.0.0 ∙ ap (λ (e : Wish × Mark). e.0) same in
    let mark : y.1 ≡ n = ap (λ (e : Wish × Mark). e.1) same in
    (x.1, ap (λ (v : Wish). Some (v, x.1)) wish, rw (← wish, ← mark) all.0.1)
entry_before T (x ∷ xs) (y ∷ ys) (suc k) w n all at = entry_before T xs ys k w n all.1 at

-- who is live after a lapse, an answer or the automatic answers was live
lived_step : (test : Wish → Bool) (c : ℕ) (w : Wish) (m n : Mark) → KeptOrTouched w m n
    → lives_with test c (w, n) ≡ true → lives_with test c (w, m) ≡ true
lived_step test c w m n (inl kept) t = ap (λ (x : Mark). lives_with test c (w, x)) (sym kept) ∙ t
lived_step test c w m n (inr touched) t =
    let outer = and_parts (is_live n && nat_eq w.candidate c) (test w) t in
    let inner = and_parts (is_live n) (nat_eq w.candidate c) outer.0 in
    and_from (is_live m && nat_eq w.candidate c) (test w)
    (and_from (is_live m) (nat_eq w.candidate c) (touched.lived inner.0) inner.1) outer.1

pub held_already : (test : Wish → Bool) (s t : State) (c : ℕ) → Marks KeptOrTouched s t → holds test t c ≡ true
    → holds test s c ≡ true
held_already test s t c marks held = any_back KeptOrTouched (lives_with test c) (lives_with test c)
    (lived_step test c) (entries s) (entries t) marks held

-- a proposed wish of the candidate that passes the test
abbrev pub offers_to : State → List CallOrder → List ℕ → (Wish → Bool) → ℕ → Wish × Mark → Bool
offers_to s orders bars test c e = is_proposed s orders bars e.0 e.1 && nat_eq e.0.candidate c && test e.0

offered_step : (s : State) (orders : List CallOrder) (bars : List ℕ) (stamp : Stamp) (test : Wish → Bool) (c : ℕ)
    (w : Wish) (m n : Mark)
    → KeptOrOffered s orders bars stamp w m n → lives_with test c (w, n) ≡ true
    → (lives_with test c (w, m) || offers_to s orders bars test c (w, m)) ≡ true
offered_step s orders bars stamp test c w m n (inl kept) t =
    or_left (lives_with test c (w, m)) (offers_to s orders bars test c (w, m))
    (ap (λ (x : Mark). lives_with test c (w, x)) (sym kept.1) ∙ t)
offered_step s orders bars stamp test c w m n (inr given) t =
    let outer = and_parts (is_live n && nat_eq w.candidate c) (test w) t in
    let inner = and_parts (is_live n) (nat_eq w.candidate c) outer.0 in
    or_right (lives_with test c (w, m)) (offers_to s orders bars test c (w, m))
    (and_from (is_proposed s orders bars w m && nat_eq w.candidate c) (test w)
    (and_from (is_proposed s orders bars w m) (nat_eq w.candidate c) given.0 inner.1) outer.1)

-- who is live after the offers of a pass was live, or is offered a wish
pub held_or_offered : (s : State) (orders : List CallOrder) (bars : List ℕ) (stamp : Stamp) (test : Wish → Bool)
    (c : ℕ) → holds test (offered s orders bars stamp) c ≡ true
    → (holds test s c ≡ true) ⊎ (list_any (offers_to s orders bars test c) (entries s) ≡ true)
held_or_offered s orders bars stamp test c held =
    any_either (lives_with test c) (offers_to s orders bars test c) (entries s)
    (any_back (KeptOrOffered s orders bars stamp) (λ e. lives_with test c e || offers_to s orders bars test c e)
    (lives_with test c)
    (offered_step s orders bars stamp test c) (entries s) (entries (offered s orders bars stamp))
    (offers_of_a_pass s orders bars stamp) held)
