-- The entries of a state by place, and a change of one mark.
use Rattle.std.proofs.Common.{ℕ, ◌<◌, ◌≡◌, Bool, ◌&&◌, List, [], ◌∷◌, map, length, set, get_or, refl, sym, ◌∙◌, ap}
use Rattle.std.proofs.Common.{arith, zero, suc, zip}
use Rattle.std.specs.Prelude.{slice_index, ◌==◌}
use Rattle.std.specs.List.{list_any, range_with_len}
use Rattle.std.proofs.lemmas.Option.{unwrap_or-slice_get}
use Rattle.std.proofs.lemmas.Slice.Zip.{length-zip, get_or-zip}
use Rattle.std.proofs.lemmas.List.FromFn.{fill_by_all}
use Rattle.admit_core.proofs.Plain.{any-map, any_same, any-filter, turn_and}
use Rattle.admit_core.specs.declared.dossier.Wish.{Wish}
use Rattle.admit_core.specs.declared.state.Mark.{Mark}
use Rattle.admit_core.specs.State.{State, entries, is_live, with_mark_at}
use Rattle.admit_core.specs.OwnWishes.{own_places}
use Rattle.admit_core.specs.DossierRows.{candidate_of}
use Rattle.day_state.specs.Kept.{mark_in, wish_in, lives_at, holds_one}
use Rattle.day_state.proofs.Counting.{any-set_same}

pub zip-set : {X Y : Type 0} (xs : List X) (ys : List Y) (i : ℕ) (y : Y) (d : X)
    → zip xs (set ys i y) ≡ set (zip xs ys) i (get_or xs i d, y)
zip-set [] ys i y d = refl
zip-set (x ∷ xs) [] i y d = refl
zip-set (x ∷ xs) (z ∷ ys) zero y d = refl
zip-set (x ∷ xs) (z ∷ ys) (suc i) y d = ap (λ l. (x, z) ∷ l) (zip-set xs ys i y d)

pub candidate_in : (ws : List Wish) (k : ℕ) → slice_index (map (λ w. w.candidate) ws) k ≡ (wish_in ws k).candidate
candidate_in [] k = refl
candidate_in (w ∷ ws) zero = refl
candidate_in (w ∷ ws) (suc k) = candidate_in ws k

-- the entry at a place
abbrev pub entry_in : State → ℕ → Wish × Mark
entry_in s k = (wish_in s.dossier.wishes k, mark_in s.marks k)

pub entries_by_place : (s : State) → length s.marks ≡ length s.dossier.wishes
    → entries s ≡ map (entry_in s) (range_with_len 0 (length s.dossier.wishes))
entries_by_place s long =
    let ws = s.dossier.wishes in
    let ms = s.marks in
    let d : Wish × Mark = (wish_in [] 0, mark_in [] 0) in
    fill_by_all (entry_in s) (zip ws ms) (length ws) d (omega (arith, length-zip ws ms))
    (λ k lt. get_or-zip ws ms k d lt (omega arith)
    ∙ rw (unwrap_or-slice_get ws k (wish_in [] 0), unwrap_or-slice_get ms k (mark_in [] 0)) refl)

-- a look at a candidate's own wishes finds what a look at all finds
pub own_any : (test : Wish → Bool) (s : State) (c : ℕ) → length s.marks ≡ length s.dossier.wishes
    → list_any (lives_at s.dossier.wishes s.marks test) (own_places s.dossier c) ≡ holds_one test s c
own_any test s c long =
    let d = s.dossier in
    let places = range_with_len 0 (length d.wishes) in
    let is_own = λ (k : ℕ). candidate_of d k == c in
    let lives = lives_at d.wishes s.marks test in
    let holds = λ (e : Wish × Mark). is_live e.1 && (e.0.candidate == c) && test e.0 in
    any-filter lives is_own places
    ∙ any_same (λ k. is_own k && lives k) (λ k. holds (entry_in s k))
    (λ k. rw (candidate_in d.wishes k) (turn_and ((wish_in d.wishes k).candidate == c) (is_live (mark_in s.marks k))
    (test (wish_in d.wishes k)))) places
    ∙ sym (any-map holds (entry_in s) places)
    ∙ rw (entries_by_place s long) refl

-- the entries after a change of one mark
pub entries-with_mark_at : (s : State) (place : ℕ) (m : Mark)
    → entries (with_mark_at s place m) ≡ set (entries s) place (wish_in s.dossier.wishes place, m)
entries-with_mark_at s place m =
    zip-set s.dossier.wishes s.marks place m (wish_in [] 0)
    ∙ rw (unwrap_or-slice_get s.dossier.wishes place (wish_in [] 0)) refl

-- what a test of the entries finds is the same where it does not see the change
pub holds_same : (test : Wish → Bool) (s : State) (place : ℕ) (m : Mark) (c : ℕ)
    → length s.marks ≡ length s.dossier.wishes → place < length s.marks
    → (is_live m && ((wish_in s.dossier.wishes place).candidate == c) && test (wish_in s.dossier.wishes place))
    ≡ (is_live (mark_in s.marks place) && ((wish_in s.dossier.wishes place).candidate == c)
    && test (wish_in s.dossier.wishes place))
    → holds_one test (with_mark_at s place m) c ≡ holds_one test s c
holds_same test s place m c long lt e =
    let ws = s.dossier.wishes in
    let ms = s.marks in
    let d : Wish × Mark = (wish_in [] 0, mark_in [] 0) in
    let holds = λ (e : Wish × Mark). is_live e.1 && (e.0.candidate == c) && test e.0 in
    let at : get_or (zip ws ms) place d ≡ entry_in s place =
    get_or-zip ws ms place d (omega arith) lt
    ∙ rw (unwrap_or-slice_get ws place (wish_in [] 0), unwrap_or-slice_get ms place (mark_in [] 0)) refl in
    ap (list_any holds) (entries-with_mark_at s place m)
    ∙ any-set_same holds (entries s) place (wish_in ws place, m) d (omega (arith, length-zip ws ms))
    (e ∙ sym (ap holds at))
