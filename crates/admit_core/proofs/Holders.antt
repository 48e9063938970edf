-- Who holds a seat or a bed after marks have changed.
use Rattle.std.proofs.Common.{ℕ, ◌≡◌, Bool, true, false, cond, ◌&&◌, ◌||◌, List, [], ◌∷◌, map, inl, inr, refl, sym, ◌∙◌}
use Rattle.std.proofs.Common.{ap, nat_eq}
use Rattle.std.specs.Prelude.{zip}
use Rattle.std.specs.List.{list_any}
use Rattle.std.proofs.lemmas.Bool.{and_parts, cases_Bool, eqb-true, eq-eqb, or_left, or_right, or_cases, false≢true}
use Rattle.admit_core.specs.declared.dossier.Wish.{Wish}
use Rattle.admit_core.specs.declared.state.Mark.{Mark}
use Rattle.admit_core.specs.DossierRows.{candidates_of}
use Rattle.admit_core.specs.Lists.{is_among, distinct}
use Rattle.admit_core.specs.State.{State, entries, with_marks, is_live}
use Rattle.admit_core.proofs.Tests.{any_implied}
use Rattle.admit_core.proofs.Plain.{any-map}

-- an entry with the mark that f gives
abbrev pub marked_by : (Wish → Mark → Mark) → Wish × Mark → Wish × Mark
marked_by f e = (e.0, f e.0 e.1)

zip_marked : (f : Wish → Mark → Mark) (ws : List Wish) (ms : List Mark)
    → zip ws (map (λ (e : Wish × Mark). f e.0 e.1) (zip ws ms)) ≡ map (marked_by f) (zip ws ms)
zip_marked f [] ms = refl
zip_marked f (w ∷ ws) [] = refl
zip_marked f (w ∷ ws) (m ∷ ms) = ap (λ l. (w, f w m) ∷ l) (zip_marked f ws ms)

pub entries_marked : (s : State) (f : Wish → Mark → Mark) → entries (with_marks s f) ≡ map (marked_by f) (entries s)
entries_marked s f = zip_marked f s.dossier.wishes s.marks

-- a live entry of a candidate, of which a test of the wish holds
abbrev pub lives_with : (Wish → Bool) → ℕ → Wish × Mark → Bool
lives_with test c e = is_live e.1 && nat_eq e.0.candidate c && test e.0

-- of seats and beds alike: the candidate has a live wish that passes the test
abbrev pub holds : (Wish → Bool) → State → ℕ → Bool
holds test s c = list_any (lives_with test c) (entries s)

pub holds_after : (test : Wish → Bool) (s : State) (f : Wish → Mark → Mark) (c : ℕ)
    → holds test (with_marks s f) c ≡ list_any (λ e. lives_with test c (marked_by f e)) (entries s)
holds_after test s f c = ap (list_any (lives_with test c)) (entries_marked s f)
    ∙ any-map (lives_with test c) (marked_by f) (entries s)

live_step : (a b c d : Bool) → (a ≡ true → b ≡ true) → (a && c && d) ≡ true → (b && c && d) ≡ true
live_step true b c d h t = rw (h refl) t
live_step false b c d h t = absurd (false≢true t)

-- where live wishes stay live, who holds goes on holding
pub holds_kept : (test : Wish → Bool) (s : State) (f : Wish → Mark → Mark) (c : ℕ)
    → ((w : Wish) (m : Mark) → is_live m ≡ true → is_live (f w m) ≡ true)
    → holds test s c ≡ true → holds test (with_marks s f) c ≡ true
holds_kept test s f c kept t =
    holds_after test s f c
    ∙ any_implied (lives_with test c) (λ e. lives_with test c (marked_by f e))
    (λ e. live_step (is_live e.1) (is_live (f e.0 e.1)) (nat_eq e.0.candidate c) (test e.0) (kept e.0 e.1))
    (entries s) t

-- where no wish becomes live, who holds held before
pub held_before : (test : Wish → Bool) (s : State) (f : Wish → Mark → Mark) (c : ℕ)
    → ((w : Wish) (m : Mark) → is_live (f w m) ≡ true → is_live m ≡ true)
    → holds test (with_marks s f) c ≡ true → holds test s c ≡ true
held_before test s f c back t =
    any_implied (λ e. lives_with test c (marked_by f e)) (lives_with test c)
    (λ e. live_step (is_live (f e.0 e.1)) (is_live e.1) (nat_eq e.0.candidate c) (test e.0) (back e.0 e.1)) (entries s)
    (sym (holds_after test s f c) ∙ t)

among_distinct_step : (q x : ℕ) (xs ys : List ℕ) → is_among q ys ≡ is_among q xs
    → is_among q (cond (is_among x xs) ys (x ∷ ys)) ≡ (nat_eq q x || is_among q xs)
among_distinct_step q x xs ys e =
    elim (cases_Bool (is_among x xs)) [
      | inl there ↦ rw there (elim (cases_Bool (nat_eq q x)) [
        | inl same ↦ rw same (rw (eqb-true q x same) ((rw (eqb-true q x same) at e) ∙ there))
        | inr other ↦ rw other e
      ])
      | inr not_there ↦ rw not_there (ap (λ b. nat_eq q x || b) e)
    ]

-- a list with each number once has the same numbers
pub among_distinct : (q : ℕ) (xs : List ℕ) → is_among q (distinct xs) ≡ is_among q xs
among_distinct q [] = refl
among_distinct q (x ∷ xs) = among_distinct_step q x xs (distinct xs) (among_distinct q xs)

-- the candidate of an entry has a wish
among_candidates : (c : ℕ) (test : Wish → Bool) (ws : List Wish) (ms : List Mark)
    → list_any (lives_with test c) (zip ws ms) ≡ true
    → is_among c (map (λ w. w.candidate) ws) ≡ true
among_candidates c test [] ms t = t
among_candidates c test (w ∷ ws) [] t = absurd (false≢true t)
among_candidates c test (w ∷ ws) (m ∷ ms) t =
    elim (or_cases (lives_with test c (w, m)) (list_any (lives_with test c) (zip ws ms)) t) [
      | inl here ↦
          let outer = and_parts (is_live m && nat_eq w.candidate c) (test w) here in
          let inner = and_parts (is_live m) (nat_eq w.candidate c) outer.0 in
          or_left (nat_eq c w.candidate) (is_among c (map (λ v. v.candidate) ws))
          (eq-eqb c w.candidate (sym (eqb-true w.candidate c inner.1)))
      | inr later ↦ or_right (nat_eq c w.candidate) (is_among c (map (λ v. v.candidate) ws))
          (among_candidates c test ws ms later)
    ]

-- who holds has a wish
pub holder_has_wish : (test : Wish → Bool) (s : State) (c : ℕ) → holds test s c ≡ true
    → is_among c (candidates_of s.dossier) ≡ true
holder_has_wish test s c t = among_distinct c (map (λ w. w.candidate) s.dossier.wishes)
    ∙ among_candidates c test s.dossier.wishes s.marks t
