-- Each pass that is followed by another gives up a live wish.
use Rattle.std.proofs.Common.{ℕ, ◌+◌, ◌≤◌, ◌≡◌, ◌⊎◌, Bool, true, false, not, ◌&&◌, List, [], ◌∷◌, map, length, Option}
use Rattle.std.proofs.Common.{Some, None, inl, inr, refl, sym, ◌∙◌, ap, arith, nat_eq, zip, filter, count_by, cond}
use Rattle.std.proofs.Common.{nat_lt}
use Rattle.std.specs.Prelude.{◌==◌, IsTrue, sum}
use Rattle.std.specs.List.{AllByRecursion, enumerate_from, list_any, range_with_len}
use Rattle.std.proofs.lemmas.Bool.{and_from, and_parts, both_ways, cases_eq, eq-eqb, false≢true, not-true, or_cases}
use Rattle.std.proofs.lemmas.Bool.{or_left, or_right}
use Rattle.std.proofs.lemmas.List.Sums.{sum-map, sum_by-cons}
use Rattle.admit_core.specs.declared.dossier.Wish.{Wish}
use Rattle.admit_core.specs.declared.ranking.CallOrder.{CallOrder}
use Rattle.admit_core.specs.declared.records.DayRecord.{DayRecord}
use Rattle.admit_core.specs.declared.records.PassEnd.{PassEnd}
use Rattle.admit_core.specs.declared.records.Terms.{Terms}
use Rattle.admit_core.specs.declared.state.Change.{Change}
use Rattle.admit_core.specs.declared.state.Mark.{Mark}
use Rattle.admit_core.specs.declared.state.Stamp.{Stamp}
use Rattle.admit_core.specs.declared.state.Status.{Status}
use Rattle.admit_core.specs.declared.state.Status.TheVariants.{Waiting, Offered, Accepted, Refused, Withdrawn, Quit}
use Rattle.admit_core.specs.declared.state.Status.TheVariants.{AutoRefused, AutoWithdrawn, Lapsed}
use Rattle.admit_core.specs.AutoAnswer.{auto_all, auto_mark, auto_status, best_live, freed}
use Rattle.admit_core.specs.Days.{IsDay, Passes, changes, closing, frees_nothing, freed_after, morning, offered}
use Rattle.admit_core.specs.DossierRows.{candidates_of}
use Rattle.admit_core.specs.State.{State, changed_to, entries, has_school, holds_bed, holds_seat, is_live}
use Rattle.admit_core.specs.State.{is_live_status, status_number}
use Rattle.admit_core.proofs.Holders.{holds, holds_after, lives_with, marked_by}
use Rattle.auto_answer.proofs.Bounds.{count_none}
use Rattle.evening_laws.specs.FewPasses.{given_up, is_auto_refused}

-- an automatic answer leaves a live wish live, or gives it up
abbrev StaysOrIsGivenUp : Mark → Mark → Type 0
StaysOrIsGivenUp m n = (is_live n ≡ true) ⊎ (n.status ≡ AutoRefused)

by_status : (x : Status) (is_best is_behind : Bool) (stamp old : Stamp) → is_live_status x ≡ true
    → StaysOrIsGivenUp (record { status = x; stamp = old })
    (changed_to (auto_status x is_best is_behind) stamp (record { status = x; stamp = old }))
by_status Waiting is_best is_behind stamp old live = absurd (cc)
by_status Offered true is_behind stamp old live = inl refl
by_status Offered false is_behind stamp old live = inr refl
by_status Accepted true is_behind stamp old live = inl refl
by_status Accepted false is_behind stamp old live = inr refl
by_status Refused is_best is_behind stamp old live = absurd (cc)
by_status Withdrawn is_best is_behind stamp old live = absurd (cc)
by_status Quit is_best is_behind stamp old live = absurd (cc)
by_status AutoRefused is_best is_behind stamp old live = absurd (cc)
by_status AutoWithdrawn is_best is_behind stamp old live = absurd (cc)
by_status Lapsed is_best is_behind stamp old live = absurd (cc)

answered : (stamp : Stamp) (best : Option (Wish × Mark)) (w : Wish) (m : Mark) → is_live m ≡ true
    → StaysOrIsGivenUp m (auto_mark stamp best w m)
answered stamp None w m live = inl live
answered stamp (Some best) w m live = by_status m.status (w.preference == best.0.preference) (nat_lt best.0.preference
    w.preference) stamp m.stamp live

-- where no change gives a wish up, all live wishes stay live
abbrev differs : ℕ × (Mark × Mark) → Bool
differs x = not (status_number x.1.0.status == status_number x.1.1.status)

abbrev change_of : ℕ × (Mark × Mark) → Change
change_of x = record { wish = x.0; status = x.1.1.status }

abbrev StayLive : (Wish → Mark → Mark) → List (Wish × Mark) → Type 0
StayLive f es = AllByRecursion (λ e. is_live e.1 ≡ true → is_live (f e.0 e.1) ≡ true) es

abbrev gives_up : Change → Bool
gives_up c = is_auto_refused c.status

changed : (x : Status) (n : Mark) → is_live_status x ≡ true → n.status ≡ AutoRefused
    → not (status_number x == status_number n.status) ≡ true
changed Waiting n live is = absurd (cc)
changed Offered n live is = ap (λ (y : Status). not (1 == status_number y)) is
changed Accepted n live is = ap (λ (y : Status). not (2 == status_number y)) is
changed Refused n live is = absurd (cc)
changed Withdrawn n live is = absurd (cc)
changed Quit n live is = absurd (cc)
changed AutoRefused n live is = absurd (cc)
changed AutoWithdrawn n live is = absurd (cc)
changed Lapsed n live is = absurd (cc)

no_term : (b : Bool) (n total : ℕ) → total ≡ cond b 1 0 + n → total ≡ 0 → (b ≡ false) × (n ≡ 0)
no_term false n total is none = (refl, omega (arith, is, none))
no_term true n total is none = absurd (omega (arith, is, none))

none_given_up : (b : Bool) (x : ℕ × (Mark × Mark)) (xs : List (ℕ × (Mark × Mark)))
    → count_by gives_up (map change_of (cond b (x ∷ xs) xs)) ≡ 0
    → (b ≡ true → gives_up (change_of x) ≡ false) × (count_by gives_up (map change_of xs) ≡ 0)
none_given_up false x xs none = (λ e. absurd (false≢true e), none)
none_given_up true x xs none =
    let parts = no_term (gives_up (change_of x)) (count_by gives_up (map change_of xs))
    (count_by gives_up (change_of x ∷ map change_of xs))
    (sum_by-cons (λ (c : Change). cond (gives_up c) 1 0) (change_of x) (map change_of xs)) none in
    (λ e. parts.0, parts.1)

stay_live : (f : Wish → Mark → Mark) → ((w : Wish) (m : Mark) → is_live m ≡ true → StaysOrIsGivenUp m (f w m))
    → (n : ℕ) (ws : List Wish) (ms : List Mark)
    → count_by gives_up (map change_of (filter differs
    (enumerate_from n (zip ms (map (λ (e : Wish × Mark). f e.0 e.1) (zip ws ms)))))) ≡ 0
    → StayLive f (zip ws ms)
stay_live f each n [] ms none = tt
stay_live f each n (w ∷ ws) [] none = tt
stay_live f each n (w ∷ ws) (m ∷ ms) none =
    let x : ℕ × (Mark × Mark) = (n, (m, f w m)) in
    let parts = none_given_up (differs x) x
    (filter differs (enumerate_from (n + 1) (zip ms (map (λ (e : Wish × Mark). f e.0 e.1) (zip ws ms))))) none in (
      λ live.
          elim (each w m live) [
            | inl stays ↦ stays
            | inr given ↦
                absurd (false≢true
                (sym (parts.0 (changed m.status (f w m) live given)) ∙ ap is_auto_refused given))
          ],
      stay_live f each (n + 1) ws ms parts.1,
    )

-- then nobody loses a seat or a bed
holds_on : (f : Wish → Mark → Mark) (test : Wish → Bool) (c : ℕ) (es : List (Wish × Mark)) → StayLive f es
    → list_any (lives_with test c) es ≡ true → list_any (λ e. lives_with test c (marked_by f e)) es ≡ true
holds_on f test c [] stay t = t
holds_on f test c (e ∷ es) stay t =
    let now = λ (x : Wish × Mark). lives_with test c (marked_by f x) in
    elim (or_cases (lives_with test c e) (list_any (lives_with test c) es) t) [
      | inl here ↦
          let outer = and_parts (is_live e.1 && nat_eq e.0.candidate c) (test e.0) here in
          let inner = and_parts (is_live e.1) (nat_eq e.0.candidate c) outer.0 in
          or_left (now e) (list_any now es)
          (and_from (is_live (f e.0 e.1) && nat_eq e.0.candidate c) (test e.0)
          (and_from (is_live (f e.0 e.1)) (nat_eq e.0.candidate c) (stay.0 inner.0) inner.1) outer.1)
      | inr later ↦ or_right (now e) (list_any now es) (holds_on f test c es stay.1 later)
    ]

none_lost : (a b : Bool) → (a ≡ true → b ≡ true) → (a && not b) ≡ false
none_lost true b h = rw (h refl) refl
none_lost false b h = refl

nothing_lost : (old new : ℕ → ℕ → Bool) (n : ℕ) → ((c p : ℕ) → old c p ≡ true → new c p ≡ true) → (cs : List ℕ)
    → sum (map (λ c. count_by (λ p. old c p && not (new c p)) (range_with_len 0 n)) cs) ≡ 0
nothing_lost old new n kept [] = refl
nothing_lost old new n kept (c ∷ cs) =
    let f : ℕ → ℕ = λ x. count_by (λ p. old x p && not (new x p)) (range_with_len 0 n) in
    let none = count_none (λ p. old c p && not (new c p)) (λ p. none_lost (old c p) (new c p) (kept c p))
    (range_with_len 0 n) in
    omega (arith, sum-map f (c ∷ cs), sum_by-cons f c cs, sum-map f cs, none, nothing_lost old new n kept cs)

none_freed : (s : State) (stamp : Stamp) → count_by gives_up (changes s (auto_all s stamp)) ≡ 0
    → frees_nothing (freed s (auto_all s stamp)) ≡ true
none_freed s stamp none =
    let t = auto_all s stamp in
    let f : Wish → Mark → Mark = λ w m. auto_mark stamp (best_live s w.candidate) w m in
    let stay = stay_live f (λ w m live. answered stamp (best_live s w.candidate) w m live) 0 s.dossier.wishes s.marks
    none in
    let kept : (test : Wish → Bool) (c : ℕ) → holds test s c ≡ true → holds test t c ≡ true =
    λ test c held. holds_after test s f c ∙ holds_on f test c (entries s) stay held in
    let seats = nothing_lost (λ c p. holds_seat s c p) (λ c p. holds_seat t c p) (length s.dossier.programmes)
    (λ c p. kept (λ w. nat_eq w.programme p) c) (candidates_of s.dossier) in
    let beds = nothing_lost (λ c h. holds_bed s c h) (λ c h. holds_bed t c h) (length s.dossier.schools)
    (λ c h. kept (λ w. has_school w h) c) (candidates_of s.dossier) in
    and_from (nat_eq (freed s t).seats 0) (nat_eq (freed s t).beds 0) (eq-eqb (freed s t).seats 0 seats)
    (eq-eqb (freed s t).beds 0 beds)

-- so a pass that is followed by another gives a wish up
gave_one : (s : State) (orders : List CallOrder) (bars : List ℕ) (stamp : Stamp) (pass : PassEnd)
    → pass.autos ≡ changes (offered s orders bars stamp) (closing s orders bars stamp)
    → pass.freed ≡ freed_after s orders bars stamp → IsTrue (not (frees_nothing pass.freed)) → 1 ≤ given_up pass
gave_one s orders bars stamp pass autos freed_is goes_on =
    elim (cases_eq (given_up pass) 0) [
      | inl none ↦
          let quiet = none_freed (offered s orders bars stamp) stamp (ap (count_by gives_up) (sym autos) ∙ none) in
          absurd (both_ways (frees_nothing pass.freed) (not-true (frees_nothing pass.freed) goes_on)
          (ap frees_nothing freed_is ∙ quiet))
      | inr some ↦ omega (arith, some)
    ]

pub few_passes : (orders : List CallOrder) (ceilings : List ℕ) (day k : ℕ) (s : State) (passes : List PassEnd)
    (evening : State) → Passes orders ceilings day k s passes evening
    → length passes ≤ sum (map given_up passes) + 1
few_passes orders ceilings day k s [] evening are = absurd are
few_passes orders ceilings day k s (pass ∷ []) evening are = omega arith
few_passes orders ceilings day k s (pass ∷ (next ∷ rest)) evening are =
    let stamp : Stamp = record { day = day; pass = k } in
    let bars = pass.pass.bars in
    let later = few_passes orders ceilings day (k + 1) (closing s orders bars stamp) (next ∷ rest) evening are.2 in
    let given = gave_one s orders bars stamp pass are.0.autos are.0.freed are.1 in
    omega (
      arith,
      later,
      given,
      sum-map given_up (pass ∷ (next ∷ rest)),
      sum_by-cons given_up pass (next ∷ rest),
      sum-map given_up (next ∷ rest),
    )

pub passes_are_few : (terms : Option Terms) (orders : List CallOrder) (ceilings : List ℕ) (old : State)
    (day : DayRecord) (evening : State) → IsDay terms orders ceilings old day evening
    → length day.passes ≤ sum (map given_up day.passes) + 1
passes_are_few terms orders ceilings old day evening is =
    few_passes orders ceilings day.day 1 (morning terms day.day old) day.passes evening is.passes
