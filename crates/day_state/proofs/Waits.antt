-- Who waits, by the flags of all.
use Rattle.std.proofs.Common.{ℕ, ◌<◌, ◌≡◌, false, true, get_or, inl, inr, length, map, sym, ◌∙◌, ap, arith, refl}
use Rattle.std.proofs.lemmas.Bool.{cases_lt, false≢true}
use Rattle.std.proofs.lemmas.List.{get_or-map, get_or_past, length-map}
use Rattle.std.proofs.lemmas.Option.{unwrap_or-slice_get}
use Rattle.admit_core.specs.declared.state.Status.{Status}
use Rattle.admit_core.specs.declared.state.Status.TheVariants.{Waiting, Offered, Accepted, Refused, Withdrawn, Quit}
use Rattle.admit_core.specs.declared.state.Status.TheVariants.{AutoRefused, AutoWithdrawn, Lapsed}
use Rattle.admit_core.specs.State.{State, is_live, is_live_status, is_waiting, is_waiting_status}
use Rattle.day_state.specs.Kept.{mark_in, waiting_mark}

waiting_is_not_live : (status : Status) → is_waiting_status status ≡ true → is_live_status status ≡ false
waiting_is_not_live Waiting t = refl
waiting_is_not_live Offered t = absurd (false≢true t)
waiting_is_not_live Accepted t = absurd (false≢true t)
waiting_is_not_live Refused t = refl
waiting_is_not_live Withdrawn t = refl
waiting_is_not_live Quit t = refl
waiting_is_not_live AutoRefused t = refl
waiting_is_not_live AutoWithdrawn t = refl
waiting_is_not_live Lapsed t = refl

-- a wish that waits is not live
pub waiting_not_live : (s : State) (k : ℕ) → is_waiting (mark_in s.marks k) ≡ true → is_live (mark_in s.marks k) ≡ false
waiting_not_live s k = waiting_is_not_live (mark_in s.marks k).status

-- the flag of who waits, read from the list of all
pub waits_read : (s : State) (k : ℕ) → k < length s.marks
    → get_or (map is_waiting s.marks) k false ≡ is_waiting (mark_in s.marks k)
waits_read s k lt =
    get_or-map is_waiting s.marks k waiting_mark false lt
    ∙ ap is_waiting (sym (unwrap_or-slice_get s.marks k waiting_mark))

-- the mark of a wish whose flag is set
pub waits_there : (s : State) (k : ℕ) → get_or (map is_waiting s.marks) k false ≡ true
    → (k < length s.marks) × (is_waiting (mark_in s.marks k) ≡ true)
waits_there s k is_set = elim (cases_lt k (length s.marks)) [
  | inl lt ↦ (lt, sym (waits_read s k lt) ∙ is_set)
  | inr past ↦
      let none = get_or_past (map is_waiting s.marks) k false (omega (arith, past, length-map s.marks is_waiting)) in
      absurd (false≢true (sym none ∙ is_set))
]
