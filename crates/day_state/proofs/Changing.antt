-- Changes along a candidate's own wishes, with what they free.
use Rattle.std.proofs.Common.{ℕ, ◌+◌, ◌<◌, ◌≡◌, Bool, true, false, ◌||◌, List, length, inl, inr, refl, sym, ◌∙◌, ap}
use Rattle.std.proofs.Common.{arith}
use Rattle.std.specs.Prelude.{slice_index, nat_lt, ◌==◌, if◌then◌else◌}
use Rattle.std.proofs.lemmas.Bool.{cases_Bool}
use Rattle.admit_core.specs.declared.dossier.Wish.{Wish}
use Rattle.admit_core.specs.declared.state.Mark.{Mark}
use Rattle.admit_core.specs.declared.state.Stamp.{Stamp}
use Rattle.admit_core.specs.declared.state.Freed.{Freed}
use Rattle.admit_core.specs.declared.state.Status.{Status}
use Rattle.admit_core.specs.declared.state.Status.TheVariants.{Refused, Quit}
use Rattle.admit_core.specs.DossierRows.{DossierRows, candidate_of}
use Rattle.admit_core.specs.OwnWishes.{own_places}
use Rattle.admit_core.specs.State.{State, is_live, is_waiting, is_live_status, status_number, has_school, with_mark_at}
use Rattle.admit_core.specs.State.{changed_to}
use Rattle.admit_core.specs.AutoAnswer.{auto_status, freed_by}
use Rattle.admit_core.proofs.Statuses.{changed_status, live_before_answer}
use Rattle.admit_core.specs.Validity.{IsValid}
use Rattle.day_state.specs.declared.mark.OwnChange.{OwnChange}
use Rattle.day_state.specs.declared.mark.OwnChange.TheVariants.{RefuseLive, QuitOpen, TakeBest}
use Rattle.day_state.specs.Kept.{mark_in, wish_in, holds_one}
use Rattle.day_state.specs.Along.{changed_by}
use Rattle.day_state.proofs.Along.{IsOnWay, on_way_more, on_way_place, own_at}
use Rattle.day_state.proofs.Freeing.{HasFreed, holds_falls, freed_more, freed_at_most}

ends_if : (b : Bool) (status : Status) (stamp : Stamp) (m : Mark) → is_live_status status ≡ false
    → is_live (if b then changed_to status stamp m else m) ≡ true → is_live m ≡ true
ends_if false status stamp m ended t = t
ends_if true status stamp m ended t =
    elim (cases_Bool (status_number m.status == status_number status)) [
      | inl same ↦ rw same at t
      | inr differs ↦ let lives : is_live_status status ≡ true = rw differs at t in absurd (cc)
    ]

-- what is live after a change of all a candidate's wishes was live before
pub changed_falls : (change : OwnChange) (stamp : Stamp) (w : Wish) (m : Mark)
    → is_live (changed_by change stamp w m) ≡ true → is_live m ≡ true
changed_falls RefuseLive stamp w m t = ends_if (is_live m) Refused stamp m refl t
changed_falls QuitOpen stamp w m t = ends_if (is_live m || is_waiting m) Quit stamp m refl t
changed_falls (TakeBest best) stamp w m t =
    live_before_answer m.status (w.preference == best) (nat_lt best w.preference)
    (sym (ap is_live_status (changed_status (auto_status m.status (w.preference == best) (nat_lt best w.preference))
    stamp m)) ∙ t)

-- the way along a candidate's own wishes, and what was freed on it
pub record IsChanging (change : OwnChange) (stamp : Stamp) (c : ℕ) (own : List ℕ) (start now : State) (freed : Freed)
    (i : ℕ) : Type 0 where
  pub on_way : IsOnWay (changed_by change stamp) start now own i
  pub so_far : HasFreed start now c freed

-- the next step of the way
pub record IsStep (change : OwnChange) (stamp : Stamp) (now next : State) (k : ℕ) (m : Mark) (step : Freed) :
    Type 0 where
  pub mark : m ≡ changed_by change stamp (wish_in now.dossier.wishes k) (mark_in now.marks k)
  pub state : next ≡ with_mark_at now k m
  pub freed : step ≡ freed_by now next (candidate_of now.dossier k)

-- what a step frees comes to what was freed
pub record IsCounted (start next : State) (c : ℕ) (freed step : Freed) : Type 0 where
  pub seats : freed.seats + step.seats ≡ (freed_by start next c).seats
  pub beds : freed.beds + step.beds ≡ (freed_by start next c).beds
  pub seats_fit : freed.seats + step.seats < 4294967296
  pub beds_fit : freed.beds + step.beds < 4294967296

next_is_own : (start now : State) (c i : ℕ) (own : List ℕ) → now.dossier ≡ start.dossier
    → own ≡ own_places start.dossier c → i < length own
    → candidate_of now.dossier (slice_index own i) ≡ c
next_is_own start now c i own same is lt =
    let at = own_at start.dossier c i (rw (← is) lt) in
    rw (same, is) at.1

step_falls : (change : OwnChange) (stamp : Stamp) (c : ℕ) (own : List ℕ) (start now next : State) (freed step : Freed)
    (i : ℕ) (m : Mark)
    → length start.marks ≡ length start.dossier.wishes → own ≡ own_places start.dossier c
    → IsChanging change stamp c own start now freed i → i < length own
    → IsStep change stamp now next (slice_index own i) m step
    → (test : Wish → Bool) → holds_one test next c ≡ true → holds_one test now c ≡ true
step_falls change stamp c own start now next freed step i m long is way lt one test =
    let k = slice_index own i in
    let place = on_way_place (changed_by change stamp) start now own c i long is way.on_way lt in
    let long_now : length now.marks ≡ length now.dossier.wishes = way.on_way.long ∙ long
    ∙ ap (λ (d : DossierRows). length d.wishes) (sym way.on_way.dossier) in
    rw one.state
    (holds_falls test now k m c long_now place.0
    (rw one.mark (changed_falls change stamp (wish_in now.dossier.wishes k) (mark_in now.marks k))))

pub counted_step : (change : OwnChange) (stamp : Stamp) (c : ℕ) (own : List ℕ) (start now next : State)
    (freed step : Freed) (i : ℕ) (m : Mark)
    → IsValid start.dossier → length start.marks ≡ length start.dossier.wishes → own ≡ own_places start.dossier c
    → IsChanging change stamp c own start now freed i → i < length own
    → IsStep change stamp now next (slice_index own i) m step
    → IsCounted start next c freed step
counted_step change stamp c own start now next freed step i m valid long is way lt one =
    let falls = step_falls change stamp c own start now next freed step i m long is way lt one in
    let same = way.on_way.dossier in
    let sums = freed_more start now next c freed same way.so_far (λ p. falls (λ w. w.programme == p))
    (λ h. falls (λ w. has_school w h)) in
    let step_is : step ≡ freed_by now next c =
    one.freed ∙ ap (freed_by now next) (next_is_own start now c i own same is lt) in
    let seats : freed.seats + step.seats ≡ (freed_by start next c).seats = rw step_is sums.0 in
    let beds : freed.beds + step.beds ≡ (freed_by start next c).beds = rw step_is sums.1 in
    let most = freed_at_most start next c in
    record {
      seats = seats;
      beds = beds;
      seats_fit = omega (arith, seats, most.0, valid.size.programmes);
      beds_fit = omega (arith, beds, most.1, valid.size.schools);
    }

pub changing_more : (change : OwnChange) (stamp : Stamp) (c : ℕ) (own : List ℕ) (start now next : State)
    (freed step : Freed) (i : ℕ) (m : Mark)
    → IsValid start.dossier → length start.marks ≡ length start.dossier.wishes → own ≡ own_places start.dossier c
    → IsChanging change stamp c own start now freed i → i < length own
    → IsStep change stamp now next (slice_index own i) m step
    → IsChanging change stamp c own start next
    (record { seats = freed.seats + step.seats; beds = freed.beds + step.beds }) (i + 1)
changing_more change stamp c own start now next freed step i m valid long is way lt one =
    let falls = step_falls change stamp c own start now next freed step i m long is way lt one in
    let counted = counted_step change stamp c own start now next freed step i m valid long is way lt one in
    record {
      on_way = rw (one.state, one.mark) (on_way_more (changed_by change stamp) start now own i way.on_way lt);
      so_far = record {
        counted = rw (counted.seats, counted.beds) refl;
        seats_fall = λ p t. way.so_far.seats_fall p (falls (λ w. w.programme == p) t);
        beds_fall = λ h t. way.so_far.beds_fall h (falls (λ w. has_school w h) t);
      };
    }
