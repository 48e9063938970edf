-- Where memory runs out before there is a text, no read has failed and no slot was too large.
use Rattle.std.proofs.Common.{◌≡◌, ◌⊎◌, ℕ, ◌+◌, ◌≤◌, ◌<◌, List, Result, Ok, Err, IsErrAnd, ap, arith, inl, inr, length}
use Rattle.std.proofs.Common.{refl}
use Rattle.std.proofs.Common.{subst}
use Rattle.std.specs.Fmt.{digits}
use Rattle.admit_core.specs.Lines.{slot_name}
use Rattle.admit_core.specs.declared.refusal.Reason.TheVariants.{TooLarge}
use Rattle.admit_core.specs.declared.slot.Slot.{Slot}
use Rattle.admit_core.specs.declared.slot.Slot.TheVariants as slots
use Rattle.dossier_check.proofs.Pairs.{order as same_or_not}
use Rattle.intake.specs.Shelves.{IsTooLarge, OnShelf, TakesSlots}
use Rattle.intake.specs.Stops.{stop_text}
use Rattle.intake.specs.declared.stop.Stop.{Stop}
use Rattle.intake.specs.declared.stop.Stop.TheVariants as stops
use Rattle.modes.specs.Stopping.{HasNoLine}
use Rattle.replay_cli.specs.Run.{IsQuiet}

-- the lines of a fault of a slot, and of one that is too large, have room
fault_fits : (slot : Slot) → length (stop_text (stops.ReadFault slot)) ≤ 128
fault_fits slots.Groups = omega arith
fault_fits slots.Programmes = omega arith
fault_fits slots.Schools = omega arith
fault_fits slots.Rankings = omega arith
fault_fits slots.Boarding = omega arith
fault_fits slots.Wishes = omega arith
fault_fits slots.State = omega arith
fault_fits slots.Ceilings = omega arith
fault_fits slots.Answers = omega arith
fault_fits slots.Chain = omega arith

abbrev too_large : Slot → Stop
too_large slot = stops.Refused (record { slot = slot; row = 0; reason = TooLarge })

large_length : (slot : Slot) → length (stop_text (too_large slot)) ≡ 33 + length (slot_name slot)
unfolding digits
large_length slots.Groups = refl
large_length slots.Programmes = refl
large_length slots.Schools = refl
large_length slots.Rankings = refl
large_length slots.Boarding = refl
large_length slots.Wishes = refl
large_length slots.State = refl
large_length slots.Ceilings = refl
large_length slots.Answers = refl
large_length slots.Chain = refl

large_fits : (slot : Slot) → length (stop_text (too_large slot)) ≤ 128
large_fits slots.Groups = omega (arith, large_length slots.Groups)
large_fits slots.Programmes = omega (arith, large_length slots.Programmes)
large_fits slots.Schools = omega (arith, large_length slots.Schools)
large_fits slots.Rankings = omega (arith, large_length slots.Rankings)
large_fits slots.Boarding = omega (arith, large_length slots.Boarding)
large_fits slots.Wishes = omega (arith, large_length slots.Wishes)
large_fits slots.State = omega (arith, large_length slots.State)
large_fits slots.Ceilings = omega (arith, large_length slots.Ceilings)
large_fits slots.Answers = omega (arith, large_length slots.Answers)
large_fits slots.Chain = omega (arith, large_length slots.Chain)

-- so they have one
fault_has_line : (slot : Slot) → HasNoLine (stops.ReadFault slot) → ⊥
fault_has_line slot (inl is) = absurd (cc)
fault_has_line slot (inr long) = absurd (omega (arith, fault_fits slot, long))

large_has_line : (slot : Slot) → HasNoLine (too_large slot) → ⊥
large_has_line slot (inl is) = absurd (cc)
large_has_line slot (inr long) = absurd (omega (arith, large_fits slot, long))

-- what can't be otherwise
same : (a b : ℕ) → ((a ≡ b → ⊥) → ⊥) → a ≡ b
same a b never = by (same_or_not a b)
  where
    by : (a < b) ⊎ ((b < a) ⊎ (a ≡ b)) → a ≡ b
    by (inl lt) = absurd (never (λ is. omega (arith, lt, is)))
    by (inr (inl gt)) = absurd (never (λ is. omega (arith, gt, is)))
    by (inr (inr is)) = is

at_most : (a b : ℕ) → ((a ≤ b → ⊥) → ⊥) → a ≤ b
at_most a b never = by (same_or_not a b)
  where
    by : (a < b) ⊎ ((b < a) ⊎ (a ≡ b)) → a ≤ b
    by (inl lt) = omega (arith, lt)
    by (inr (inl gt)) = absurd (never (λ le. omega (arith, gt, le)))
    by (inr (inr is)) = omega (arith, is)

module _ {A : Type 0} (order : List Slot) (before after : OnShelf) (r : Result A Stop)
    (takes : TakesSlots order before after r)
    (no_fault : (slot : Slot) → IsErrAnd r (λ stop. stop ≡ stops.ReadFault slot) → ⊥)
    (not_large : (slot : Slot) → IsErrAnd r (IsTooLarge slot) → ⊥) where
  quiet : IsQuiet before after
  quiet = record {
    faults = λ slot. same (after.faults slot) (before.faults slot) (λ differs.
        differs (takes.others_faults slot (λ among.
        elim (takes.told slot among) [ inl is ↦ differs is | inr fault ↦ no_fault slot fault ])));
    sizes = λ slot. at_most (after.taken slot) (before.taken slot + 1073741824) (λ more.
        more (omega (
          arith,
          takes.others_taken slot (λ among.
              elim (takes.size slot among) [ inl le ↦ more le | inr large ↦ not_large slot large ]),
        )));
  }

-- of a stop that has no line
pub quiet_stop : {A : Type 0} (order : List Slot) (before after : OnShelf) (stop : Stop) → HasNoLine stop
    → TakesSlots {A = A} order before after (Err stop) → IsQuiet before after
quiet_stop {A} order before after stop none takes = quiet order before after (Err stop) takes
    (λ slot is. fault_has_line slot (subst HasNoLine is none))
    (λ slot is. large_has_line slot (subst HasNoLine is none))

-- where all was taken
pub quiet_taken : {A : Type 0} (order : List Slot) (before after : OnShelf) (x : A)
    → TakesSlots order before after (Ok x) → IsQuiet before after
quiet_taken order before after x takes = quiet order before after (Ok x) takes (λ slot is. is) (λ slot is. is)

-- where nothing was
pub quiet_untouched : (before after : OnShelf) → after ≡ before → IsQuiet before after
quiet_untouched before after is = record {
  faults = λ slot. ap (λ (x : OnShelf). x.faults slot) is;
  sizes = λ slot. omega (arith, ap (λ (x : OnShelf). x.taken slot) is);
}
