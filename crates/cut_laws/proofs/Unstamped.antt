-- What a pass reads of a state it reads of the state without stamps.
use Rattle.std.proofs.Common.{ℕ, ◌+◌, ◌-◌, ◌≡◌, Bool, not, ◌&&◌, ◌||◌, filter, List, [], ◌∷◌, length, map, Option, Some}
use Rattle.std.proofs.Common.{None, inl, inr, refl, ◌∙◌, ap, nat_lt, nat_le, zip, count_by, option_map, unwrap_or}
use Rattle.std.specs.Prelude.{◌==◌, slice_index, sum, find}
use Rattle.std.specs.List.{enumerate_from, list_any, range_with_len}
use Rattle.std.proofs.lemmas.Bool.{cases_Bool}
use Rattle.std.proofs.lemmas.List.{length-map}
use Rattle.std.proofs.lemmas.Simd.{map-map}
use Rattle.admit_core.specs.declared.dossier.Wish.{Wish}
use Rattle.admit_core.specs.declared.dossier.School.{School}
use Rattle.admit_core.specs.declared.state.Mark.{Mark}
use Rattle.admit_core.specs.declared.state.Change.{Change}
use Rattle.admit_core.specs.declared.ranking.CallOrder.{CallOrder}
use Rattle.admit_core.specs.AutoAnswer.{best_live, freed}
use Rattle.admit_core.specs.Boarding.{boarding, name_of}
use Rattle.admit_core.specs.Days.{changes, first_mark}
use Rattle.admit_core.specs.DossierRows.{candidates_of, limit_of, seats_of}
use Rattle.admit_core.specs.Lists.{ascending, least_by, lesser}
use Rattle.admit_core.specs.Proposals.{ahead, before, demanded_ranks, demands_bed, has_open_wish, is_behind_bar}
use Rattle.admit_core.specs.Proposals.{is_open, is_open_in, is_proposed, needs_no_seat, position_of, proposed}
use Rattle.admit_core.specs.Proposals.{wants_seat}
use Rattle.admit_core.specs.State.{State, entries, free_beds, has_school, holds_bed, holds_seat, is_live, is_waiting}
use Rattle.admit_core.specs.State.{seats_left, status_number}
use Rattle.admit_core.proofs.Plain.{any-map}
use Rattle.cut_laws.specs.Alike.{unstamped, without_ceiling}

-- ---- lists that are made from others
pub filter_of_map : {X Y : Type 0} (test : Y → Bool) (f : X → Y) (xs : List X)
    → filter test (map f xs) ≡ map f (filter (λ x. test (f x)) xs)
filter_of_map test f [] = refl
filter_of_map test f (x ∷ xs) =
    elim (cases_Bool (test (f x))) [
      | inl passes ↦ rw passes (ap (λ l. f x ∷ l) (filter_of_map test f xs))
      | inr fails ↦ rw fails (filter_of_map test f xs)
    ]

abbrev pub placed : {X Y : Type 0} → (X → Y) → ℕ × X → ℕ × Y
placed f x = (x.0, f x.1)

pub enumerated_map : {X Y : Type 0} (f : X → Y) (n : ℕ) (xs : List X)
    → enumerate_from n (map f xs) ≡ map (placed f) (enumerate_from n xs)
enumerated_map f n [] = refl
enumerated_map f n (x ∷ xs) = ap (λ l. (n, f x) ∷ l) (enumerated_map f (n + 1) xs)

find_of_map : {X Y : Type 0} (test : Y → Bool) (f : X → Y) (xs : List X)
    → find test (map f xs) ≡ option_map f (find (λ x. test (f x)) xs)
find_of_map test f [] = refl
find_of_map test f (x ∷ xs) =
    elim (cases_Bool (test (f x))) [
      | inl passes ↦ rw passes refl
      | inr fails ↦ rw fails (find_of_map test f xs)
    ]

mapped_twice : {X Y Z : Type 0} (g : Y → Z) (f : X → Y) (o : Option X)
    → option_map g (option_map f o) ≡ option_map (λ x. g (f x)) o
mapped_twice g f None = refl
mapped_twice g f (Some x) = refl

lesser_of_map : {X Y : Type 0} (key : Y → ℕ) (f : X → Y) (x : X) (o : Option X)
    → lesser key (f x) (option_map f o) ≡ f (lesser (λ z. key (f z)) x o)
lesser_of_map key f x None = refl
lesser_of_map key f x (Some y) =
    elim (cases_Bool (nat_le (key (f x)) (key (f y)))) [
      | inl less ↦ rw less refl
      | inr more ↦ rw more refl
    ]

pub least_of_map : {X Y : Type 0} (key : Y → ℕ) (f : X → Y) (xs : List X)
    → least_by key (map f xs) ≡ option_map f (least_by (λ x. key (f x)) xs)
least_of_map key f [] = refl
least_of_map key f (x ∷ xs) =
    ap (λ o. Some (lesser key (f x) o)) (least_of_map key f xs)
    ∙ ap Some (lesser_of_map key f x (least_by (λ z. key (f z)) xs))

-- ---- entries
abbrev pub bare : Mark → Mark
bare m = first_mark m.status

abbrev pub bare_entry : Wish × Mark → Wish × Mark
bare_entry e = (e.0, bare e.1)

zip_bare : (ws : List Wish) (ms : List Mark) → zip ws (map bare ms) ≡ map bare_entry (zip ws ms)
zip_bare [] ms = refl
zip_bare (w ∷ ws) [] = refl
zip_bare (w ∷ ws) (m ∷ ms) = ap (λ l. (w, bare m) ∷ l) (zip_bare ws ms)

pub bare_entries : (s : State) → entries (unstamped s) ≡ map bare_entry (entries s)
bare_entries s = zip_bare s.dossier.wishes s.marks

any_bare : (test : Wish × Mark → Bool) (s : State)
    → list_any test (entries (unstamped s)) ≡ list_any (λ e. test (bare_entry e)) (entries s)
any_bare test s = ap (list_any test) (bare_entries s) ∙ any-map test bare_entry (entries s)

-- ---- who is live, and what is left
pub same_seat : (s : State) (c p : ℕ) → holds_seat (unstamped s) c p ≡ holds_seat s c p
same_seat s c p = any_bare (λ (x : Wish × Mark). is_live x.1 && (x.0.candidate == c) && (x.0.programme == p)) s

pub same_bed : (s : State) (c h : ℕ) → holds_bed (unstamped s) c h ≡ holds_bed s c h
same_bed s c h = any_bare (λ (x : Wish × Mark). is_live x.1 && (x.0.candidate == c) && has_school x.0 h) s

pub same_left : (s : State) (p : ℕ) → seats_left (unstamped s) p ≡ seats_left s p
same_left s p = λ i. seats_of s.dossier p - length (filter (λ c. same_seat s c p i) (candidates_of s.dossier))

pub same_beds : (s : State) (h : ℕ) → free_beds (unstamped s) h ≡ free_beds s h
same_beds s h =
    let beds : map (λ (x : School). x.beds) (map without_ceiling s.dossier.schools)
    ≡ map (λ (x : School). x.beds) s.dossier.schools =
    map-map (λ (x : School). x.beds) without_ceiling s.dossier.schools in
    λ i. slice_index (beds i) h - length (filter (λ c. same_bed s c h i) (candidates_of s.dossier))

-- ---- what is proposed
pub same_behind : (s : State) (bars : List ℕ) (w : Wish) (school : Option ℕ)
    → is_behind_bar (unstamped s) bars w school ≡ is_behind_bar s bars w school
same_behind s bars w None = refl
same_behind s bars w (Some h) = λ i. not (same_bed s w.candidate h i) && nat_lt (slice_index bars h) w.board_rank

pub same_open : (s : State) (bars : List ℕ) (w : Wish) (m : Mark)
    → is_open (unstamped s) bars w (bare m) ≡ is_open s bars w m
same_open s bars w m = λ i. is_waiting m && not (is_waiting m && same_behind s bars w w.school i)

same_open_wish : (s : State) (bars : List ℕ) (p c : ℕ)
    → has_open_wish (unstamped s) bars p c ≡ has_open_wish s bars p c
same_open_wish s bars p c =
    any_bare (λ (x : Wish × Mark). is_open_in (unstamped s) bars p c x.0 x.1) s
    ∙ (λ i. list_any (λ (x : Wish × Mark). same_open s bars x.0 x.1 i && (x.0.candidate == c)
    && (x.0.programme == p)) (entries s))

same_wants : (s : State) (bars : List ℕ) (p c : ℕ) → wants_seat (unstamped s) bars p c ≡ wants_seat s bars p c
same_wants s bars p c = λ i. same_open_wish s bars p c i && not (same_seat s c p i)

same_ahead : (s : State) (orders : List CallOrder) (bars : List ℕ) (w : Wish)
    → ahead (unstamped s) orders bars w ≡ ahead s orders bars w
same_ahead s orders bars w = λ i. count_by (λ c. same_wants s bars w.programme c i) (before s orders w)

same_needs : (s : State) (orders : List CallOrder) (w : Wish)
    → needs_no_seat (unstamped s) orders w ≡ needs_no_seat s orders w
same_needs s orders w = λ i. same_seat s w.candidate w.programme i
    || nat_le (position_of s orders w) (limit_of s.dossier w.programme)

pub same_proposed : (s : State) (orders : List CallOrder) (bars : List ℕ) (w : Wish) (m : Mark)
    → is_proposed (unstamped s) orders bars w (bare m) ≡ is_proposed s orders bars w m
same_proposed s orders bars w m = λ i. same_open s bars w m i && (same_needs s orders w i
    || nat_lt (same_ahead s orders bars w i) (same_left s w.programme i))

-- what passes a test of entries, with its place
pub placed_bare : (test : Wish × Mark → Bool) (s : State)
    → filter (λ (x : ℕ × (Wish × Mark)). test x.1) (enumerate_from 0 (entries (unstamped s)))
    ≡ map (placed bare_entry) (filter (λ (x : ℕ × (Wish × Mark)). test (bare_entry x.1)) (enumerate_from 0 (entries s)))
placed_bare test s =
    ap (λ es. filter (λ (x : ℕ × (Wish × Mark)). test x.1) (enumerate_from 0 es)) (bare_entries s)
    ∙ ap (filter (λ (x : ℕ × (Wish × Mark)). test x.1)) (enumerated_map bare_entry 0 (entries s))
    ∙ filter_of_map (λ (x : ℕ × (Wish × Mark)). test x.1) (placed bare_entry) (enumerate_from 0 (entries s))

pub same_offers : (s : State) (orders : List CallOrder) (bars : List ℕ)
    → proposed (unstamped s) orders bars ≡ proposed s orders bars
same_offers s orders bars =
    ap (map (λ (x : ℕ × (Wish × Mark)). x.0))
    (placed_bare (λ x. is_proposed (unstamped s) orders bars x.0 x.1) s)
    ∙ map-map (λ (x : ℕ × (Wish × Mark)). x.0) (placed bare_entry)
    (filter (λ (x : ℕ × (Wish × Mark)). is_proposed (unstamped s) orders bars x.1.0 (bare x.1.1))
    (enumerate_from 0 (entries s)))
    ∙ (λ i. map (λ (x : ℕ × (Wish × Mark)). x.0)
    (filter (λ (x : ℕ × (Wish × Mark)). same_proposed s orders bars x.1.0 x.1.1 i) (enumerate_from 0 (entries s))))

-- ---- the boarding schools
pub same_demands : (s : State) (orders : List CallOrder) (bars : List ℕ) (h : ℕ) (w : Wish) (m : Mark)
    → demands_bed (unstamped s) orders bars h w (bare m) ≡ demands_bed s orders bars h w m
same_demands s orders bars h w m = λ i. has_school w h && nat_lt 0 w.board_rank
    && not (same_bed s w.candidate h i) && same_proposed s orders bars w m i

same_ranks : (s : State) (orders : List CallOrder) (bars : List ℕ) (h : ℕ)
    → demanded_ranks (unstamped s) orders bars h ≡ demanded_ranks s orders bars h
same_ranks s orders bars h =
    let test : Wish × Mark → Bool = λ x. demands_bed (unstamped s) orders bars h x.0 x.1 in
    let rank : Wish × Mark → ℕ = λ x. x.0.board_rank in
    ap (λ es. ascending (map rank (filter test es))) (bare_entries s)
    ∙ ap (λ es. ascending (map rank es)) (filter_of_map test bare_entry (entries s))
    ∙ ap ascending (map-map rank bare_entry (filter (λ e. test (bare_entry e)) (entries s)))
    ∙ (λ i. ascending (map rank (filter (λ (x : Wish × Mark). same_demands s orders bars h x.0 x.1 i) (entries s))))

same_name : (s : State) (orders : List CallOrder) (bars : List ℕ) (h r : ℕ)
    → name_of (unstamped s) orders bars h r ≡ name_of s orders bars h r
same_name s orders bars h r =
    let test : ℕ × (Wish × Mark) → Bool =
    λ x. demands_bed (unstamped s) orders bars h x.1.0 x.1.1 && (x.1.0.board_rank == r) in
    let named : Option (ℕ × (Wish × Mark)) → ℕ = λ o. unwrap_or (option_map (λ x. x.0) o) 0 in
    ap (λ es. named (find test (enumerate_from 0 es))) (bare_entries s)
    ∙ ap (λ es. named (find test es)) (enumerated_map bare_entry 0 (entries s))
    ∙ ap named (find_of_map test (placed bare_entry) (enumerate_from 0 (entries s)))
    ∙ ap (λ o. unwrap_or o 0) (mapped_twice (λ (x : ℕ × (Wish × Mark)). x.0) (placed bare_entry)
    (find (λ x. test (placed bare_entry x)) (enumerate_from 0 (entries s))))
    ∙ (λ i. named (find (λ (x : ℕ × (Wish × Mark)). same_demands s orders bars h x.1.0 x.1.1 i
    && (x.1.0.board_rank == r)) (enumerate_from 0 (entries s))))

pub same_boarding : (s : State) (orders : List CallOrder) (ceilings : List ℕ)
    → boarding (unstamped s) orders ceilings ≡ boarding s orders ceilings
same_boarding s orders ceilings = λ i. record {
  ceilings = ceilings;
  free = map (λ h. same_beds s h i) (range_with_len 0 (length ceilings));
  ranks = λ bars h. same_ranks s orders bars h i;
  name = λ bars h r. same_name s orders bars h r i;
}

-- ---- automatic answers
pub same_best : (s : State) (c : ℕ) → best_live (unstamped s) c ≡ option_map bare_entry (best_live s c)
same_best s c =
    let test : Wish × Mark → Bool = λ x. is_live x.1 && (x.0.candidate == c) && nat_lt 0 x.0.preference in
    let key : Wish × Mark → ℕ = λ x. x.0.preference in
    ap (λ es. least_by key (filter test es)) (bare_entries s)
    ∙ ap (least_by key) (filter_of_map test bare_entry (entries s))
    ∙ least_of_map key bare_entry (filter test (entries s))

-- ---- from one state to another
zip_both : (xs ys : List Mark)
    → zip (map bare xs) (map bare ys) ≡ map (λ (x : Mark × Mark). (bare x.0, bare x.1)) (zip xs ys)
zip_both [] ys = refl
zip_both (x ∷ xs) [] = refl
zip_both (x ∷ xs) (y ∷ ys) = ap (λ l. (bare x, bare y) ∷ l) (zip_both xs ys)

pub same_changes : (old new : State) → changes (unstamped old) (unstamped new) ≡ changes old new
same_changes old new =
    let both : Mark × Mark → Mark × Mark = λ x. (bare x.0, bare x.1) in
    let test : ℕ × (Mark × Mark) → Bool =
    λ x. not (status_number x.1.0.status == status_number x.1.1.status) in
    let made : ℕ × (Mark × Mark) → Change = λ x. record { wish = x.0; status = x.1.1.status } in
    ap (λ l. map made (filter test (enumerate_from 0 l))) (zip_both old.marks new.marks)
    ∙ ap (λ l. map made (filter test l)) (enumerated_map both 0 (zip old.marks new.marks))
    ∙ ap (map made) (filter_of_map test (placed both) (enumerate_from 0 (zip old.marks new.marks)))
    ∙ map-map made (placed both) (filter test (enumerate_from 0 (zip old.marks new.marks)))

pub same_freed : (old new : State) → freed (unstamped old) (unstamped new) ≡ freed old new
same_freed old new =
    let schools = length-map old.dossier.schools without_ceiling in
    λ i. record {
      seats = sum (map (λ c. count_by (λ p. same_seat old c p i && not (same_seat new c p i))
          (range_with_len 0 (length old.dossier.programmes))) (candidates_of old.dossier));
      beds = sum (map (λ c. count_by (λ h. same_bed old c h i && not (same_bed new c h i))
          (range_with_len 0 (schools i))) (candidates_of old.dossier));
    }
