-- Reading slots in their order.
use Rattle.std.proofs.Common.{◌≡◌, ◌≢◌, ◌∙◌, ℕ, ◌+◌, ◌^◌, ◌<◌, ◌≤◌, ◌⊎◌, List, [], ◌∷◌, ◌++◌, AllPairs, Contains, Some}
use Rattle.std.proofs.Common.{Result, Ok, Err, IsErrAnd, arith, ap, drop, inl, inr, length, refl, slice_index_or, subst}
use Rattle.std.proofs.Common.{sym, take}
use Rattle.std.proofs.lemmas.Bool.{cases_lt}
use Rattle.std.proofs.lemmas.List.{get_or_default, take-append-drop, take_all, take_more}
use Rattle.admit_core.specs.declared.refusal.InFault.{InFault}
use Rattle.admit_core.specs.declared.refusal.InFault.TheVariants as faults
use Rattle.admit_core.specs.declared.slot.Slot.{Slot}
use Rattle.admit_core.specs.Ranges.{AreTables}
use Rattle.slot_io.specs.Faults.{NoneFell}
use Rattle.dossier_csv.specs.Shape.{Refuses}
use Rattle.intake.specs.Reading.{files_in, no_files, sized, with_slot, with_slots}
use Rattle.intake.specs.Shelves.{FaultsAt, HasCause, IsFaultAt, IsTooLarge, OnShelf, ReadsOnce, TakesSlots, Tells}
use Rattle.intake.specs.Stops.{◌>>=◌, Gives, Stopped, refused_as, stop_of}
use Rattle.intake.specs.declared.files.Files.{Files}
use Rattle.intake.specs.declared.stop.Stop.{Stop}
use Rattle.intake.specs.declared.stop.Stop.TheVariants as stops

-- the slots before a place of the order were read, into these files, and no other slot
pub record AreReadTo (order : List Slot) (before after : OnShelf) (place : ℕ) (files : Files) : Type 0 where
  pub files_are : (slots : Slot → List ℕ) → Tells order before.left slots → files_in (take place order) slots ≡ Ok files
  pub ranges : AreTables files.tables
  pub ends : (slots : Slot → List ℕ) → Tells order before.left slots → (i : ℕ) (slot : Slot) → i < place
      → slice_index_or order i slot ≡ slot → after.left slot ≡ Some []
  pub once : (i : ℕ) (slot : Slot) → i < place → slice_index_or order i slot ≡ slot
      → after.taken slot ≤ before.taken slot + 2 ^ 30
  pub rest : (i : ℕ) (slot : Slot) → place ≤ i → i < length order → slice_index_or order i slot ≡ slot
      → after.left slot ≡ before.left slot
  pub rest_taken : (i : ℕ) (slot : Slot) → place ≤ i → i < length order → slice_index_or order i slot ≡ slot
      → after.taken slot ≡ before.taken slot
  pub others : (slot : Slot) → ¬ Contains order slot → after.left slot ≡ before.left slot
  pub others_taken : (slot : Slot) → ¬ Contains order slot → after.taken slot ≡ before.taken slot
  pub none_fell : NoneFell before.faults after.faults
  pub quiet : (i : ℕ) (slot : Slot) → i < length order → slice_index_or order i slot ≡ slot
      → after.faults slot ≡ before.faults slot
  pub others_quiet : (slot : Slot) → ¬ Contains order slot → after.faults slot ≡ before.faults slot

-- the files of two lists of slots, one after the other
with_slots-append : (files : Files) (xs ys : List Slot) (slots : Slot → List ℕ)
    → with_slots files (xs ++ ys) slots ≡ (with_slots files xs slots >>= λ more. with_slots more ys slots)
unfolding with_slots
with_slots-append files [] ys slots = refl
with_slots-append files (x ∷ xs) ys slots =
    elim (sized x (slots x)) as (λ s. (s >>= λ bytes. refused_as (with_slot files x bytes) >>= λ more.
    with_slots more (xs ++ ys) slots)
    ≡ ((s >>= λ bytes. refused_as (with_slot files x bytes) >>= λ more. with_slots more xs slots) >>= λ more.
    with_slots more ys slots)) [
      | Err stop ↦ refl
      | Ok bytes ↦ elim (with_slot files x bytes) as (λ r. (refused_as r >>= λ more. with_slots more (xs ++ ys) slots)
          ≡ ((refused_as r >>= λ more. with_slots more xs slots) >>= λ more. with_slots more ys slots)) [
            | Err refusal ↦ refl
            | Ok more ↦ with_slots-append more xs ys slots
          ]
    ]

-- what stops a step stops those after it
pub stopped_then : {A B : Type 0} (stop : Stop) (r : Result A Stop) (next : A → Result B Stop) → Stopped stop r
    → Stopped stop (r >>= next)
stopped_then stops.OutOfMemory r next stopped = tt
stopped_then (stops.ReadFault slot) r next stopped = tt
stopped_then stops.BadWords r next stopped = rw stopped refl
stopped_then (stops.Refused refusal) r next stopped = rw stopped refl
stopped_then (stops.NoSuch name) r next stopped = rw stopped refl

-- a slot at two places of an order without repeats
not_twice : (order : List Slot) → AllPairs (λ one other. one ≢ other) order → (i j : ℕ) (one other : Slot) → i < j
    → j < length order
    → slice_index_or order i one ≡ one → slice_index_or order j other ≡ other → one ≢ other
not_twice order distinct i j one other lt within is is' same =
    distinct i j one lt within (is ∙ same ∙ sym is' ∙ get_or_default order j other one within)

module _ (order : List Slot) (distinct : AllPairs (λ one other. one ≢ other) order) (before mid after : OnShelf)
    (place : ℕ) (slot : Slot) (files : Files) (within : place < length order)
    (is_there : slice_index_or order place slot ≡ slot)
    (so_far : AreReadTo order before mid place files) (touches : ReadsOnce slot mid after) where
  left_there : mid.left slot ≡ before.left slot
  left_there = so_far.rest place slot (omega arith) within is_there

  taken_there : mid.taken slot ≡ before.taken slot
  taken_there = so_far.rest_taken place slot (omega arith) within is_there

  told_there : (slots : Slot → List ℕ) → Tells order before.left slots → mid.left slot ≡ Some (slots slot)
  told_there slots tells = left_there ∙ tells slot (place, within, is_there)

  front : take (place + 1) order ≡ take place order ++ slot ∷ []
  front = take_more order place slot within ∙ ap (λ s. take place order ++ s ∷ []) is_there

  -- the slot stands at its place alone
  is_other : (i : ℕ) (other : Slot) → i ≢ place → i < length order → slice_index_or order i other ≡ other → other ≢ slot
  is_other i other apart lt is = elim (cases_lt i place) [
    | inl first ↦ not_twice order distinct i place other slot first within is is_there
    | inr later ↦ λ e. not_twice order distinct place i slot other (omega arith) lt is_there is (sym e)
  ]

  same_there : (i : ℕ) (other : Slot) → i ≡ place → slice_index_or order i other ≡ other → slot ≡ other
  same_there i other at is = sym is_there ∙ get_or_default order place slot other within ∙ rw (← at) is

  not_among : (other : Slot) → ¬ Contains order other → other ≢ slot
  not_among other out e = out (place, within, subst (λ (s : Slot). slice_index_or order place s ≡ s) (sym e) is_there)

  sized_before : (i : ℕ) (other : Slot) → i < place → slice_index_or order i other ≡ other
      → after.taken other ≤ before.taken other + 2 ^ 30
  sized_before i other first is =
      let kept : after.taken other ≡ mid.taken other =
      touches.others.taken other (is_other i other (omega arith) (omega arith) is) in
      omega (arith, kept, so_far.once i other first is)

  once_to : (i : ℕ) (other : Slot) → i < place + 1 → slice_index_or order i other ≡ other
      → after.taken other ≤ before.taken other + (2 ^ 30 + 65536)
  once_to i other lt is = elim (cases_lt i place) [
    | inl first ↦ omega (arith, sized_before i other first is)
    | inr later ↦
        let at : i ≡ place = omega arith in
        let here : after.taken slot ≤ before.taken slot + (2 ^ 30 + 65536) = omega (arith, taken_there, touches.once) in
        subst (λ (s : Slot). after.taken s ≤ before.taken s + (2 ^ 30 + 65536)) (same_there i other at is) here
  ]

  -- the sizes of the slots so far
  sized_to : after.taken slot ≤ mid.taken slot + 2 ^ 30 → (i : ℕ) (other : Slot) → i < place + 1
      → slice_index_or order i other ≡ other → after.taken other ≤ before.taken other + 2 ^ 30
  sized_to small i other lt is = elim (cases_lt i place) [
    | inl first ↦ sized_before i other first is
    | inr later ↦
        let at : i ≡ place = omega arith in
        let here : after.taken slot ≤ before.taken slot + 2 ^ 30 = omega (arith, taken_there, small) in
        subst (λ (s : Slot). after.taken s ≤ before.taken s + 2 ^ 30) (same_there i other at is) here
  ]

  rest_left : (i : ℕ) (other : Slot) → place + 1 ≤ i → i < length order → slice_index_or order i other ≡ other
      → after.left other ≡ before.left other
  rest_left i other le lt is = touches.others.left other (is_other i other (omega arith) lt is)
      ∙ so_far.rest i other (omega arith) lt is

  rest_taken : (i : ℕ) (other : Slot) → place + 1 ≤ i → i < length order → slice_index_or order i other ≡ other
      → after.taken other ≡ before.taken other
  rest_taken i other le lt is = touches.others.taken other (is_other i other (omega arith) lt is)
      ∙ so_far.rest_taken i other (omega arith) lt is

  fell_none : NoneFell before.faults after.faults
  fell_none s = omega (arith, so_far.none_fell s, touches.others.counts s)

  others_quiet : (other : Slot) → ¬ Contains order other → after.faults other ≡ before.faults other
  others_quiet other out = touches.others.faults other (not_among other out) ∙ so_far.others_quiet other out

  size_here : (stop : Stop) → (after.taken slot ≤ mid.taken slot + 2 ^ 30) ⊎ IsTooLarge slot stop
      → (after.taken slot ≤ before.taken slot + 2 ^ 30) ⊎ IsTooLarge slot stop
  size_here stop (inl small) = inl (omega (arith, taken_there, small))
  size_here stop (inr large) = inr large

  quiet_apart : (i : ℕ) (other : Slot) → i ≢ place → i < length order → slice_index_or order i other ≡ other
      → after.faults other ≡ before.faults other
  quiet_apart i other apart lt is = touches.others.faults other (is_other i other apart lt is)
      ∙ so_far.quiet i other lt is

  quiet_here : after.faults slot ≡ mid.faults slot → after.faults slot ≡ before.faults slot
  quiet_here same = same ∙ so_far.quiet place slot within is_there

  quiet_to : after.faults slot ≡ mid.faults slot → (i : ℕ) (other : Slot) → i < length order
      → slice_index_or order i other ≡ other → after.faults other ≡ before.faults other
  quiet_to same i other lt is = elim (cases_lt i place) [
    | inl first ↦ quiet_apart i other (omega arith) lt is
    | inr later ↦ elim (cases_lt place i) [
      | inl past ↦ quiet_apart i other (omega arith) lt is
      | inr here ↦ subst (λ (s : Slot). after.faults s ≡ before.faults s) (same_there i other (omega arith) is)
          (quiet_here same)
    ]
  ]

  -- one more slot
  pub read_one : (bytes : List ℕ) (more : Files)
      → ((read : List ℕ) → mid.left slot ≡ Some read → sized slot read ≡ Ok bytes)
      → ((read : List ℕ) → mid.left slot ≡ Some read → after.left slot ≡ Some [])
      → with_slot files slot bytes ≡ Ok more → AreTables more.tables → after.faults slot ≡ mid.faults slot
      → after.taken slot ≤ mid.taken slot + 2 ^ 30
      → AreReadTo order before after (place + 1) more
  unfolding with_slots
  read_one bytes more has ends holds ranges same small = record {
    files_are = λ slots tells. rw (
      front,
      with_slots-append no_files (take place order)
          (slot ∷ []) slots,
      so_far.files_are slots tells,
      has (slots slot) (told_there slots tells),
      holds,
    ) refl;
    ranges = ranges;
    ends = λ slots tells i other lt is. elim (cases_lt i place) [
      | inl first ↦ touches.others.left other (is_other i other (omega arith) (omega arith) is)
          ∙ so_far.ends slots tells i other first is
      | inr later ↦ subst (λ (s : Slot). after.left s ≡ Some []) (same_there i other (omega arith) is)
          (ends (slots slot) (told_there slots tells))
    ];
    once = sized_to small;
    rest = rest_left;
    rest_taken = rest_taken;
    others = λ other out. touches.others.left other (not_among other out) ∙ so_far.others other out;
    others_taken = λ other out. touches.others.taken other (not_among other out) ∙ so_far.others_taken other out;
    none_fell = fell_none;
    quiet = quiet_to same;
    others_quiet = others_quiet;
  }

  -- the files that stop here or go on
  onward : (slots : Slot → List ℕ) → Tells order before.left slots
      → files_in order slots ≡ (with_slots files (slot ∷ []) slots >>= λ more.
      with_slots more (drop (place + 1) order) slots)
  onward slots tells =
      let parts = ap (λ xs. with_slots no_files xs slots) (sym (take-append-drop (place + 1) order)) in
      parts ∙ rw (
        with_slots-append no_files (take (place + 1) order)
            (drop (place + 1) order) slots,
        front,
        with_slots-append no_files (take place order) (slot ∷ []) slots,
        so_far.files_are slots tells,
      ) refl

  -- the size of the slot stops the reading
  pub size_stops : (stop : Stop) → ((read : List ℕ) → mid.left slot ≡ Some read → Stopped stop (sized slot read))
      → (slots : Slot → List ℕ) → Tells order before.left slots → Stopped stop (files_in order slots)
  unfolding with_slots
  size_stops stop stopped slots tells =
      rw (onward slots tells) (stopped_then stop (with_slots files (slot ∷ []) slots) _
      (stopped_then stop (sized slot (slots slot)) _ (stopped (slots slot) (told_there slots tells))))

  -- what it holds stops the reading
  pub rows_stop : (bytes : List ℕ) (fault : InFault)
      → ((read : List ℕ) → mid.left slot ≡ Some read → sized slot read ≡ Ok bytes)
      → Refuses fault (with_slot files slot bytes)
      → (slots : Slot → List ℕ) → Tells order before.left slots → Stopped (stop_of fault) (files_in order slots)
  unfolding with_slots
  rows_stop bytes faults.OutOfMemory has refuses slots tells = tt
  rows_stop bytes (faults.Refused refusal) has refuses slots tells =
      rw (onward slots tells, has (slots slot) (told_there slots tells), refuses) refl

  -- a fault of the shelf at the slot
  pub fault_there : (stop : Stop) → FaultsAt slot mid.faults after.faults stop → HasCause order before after stop
  fault_there stops.BadWords at = absurd at
  fault_there (stops.NoSuch name) at = absurd at
  fault_there (stops.Refused refusal) at = tt
  fault_there stops.OutOfMemory at = tt
  fault_there (stops.ReadFault other) at =
      subst (λ (s : Slot). IsFaultAt order before after s) (sym at.0)
      (record {
        place = place;
        within = within;
        is_there = is_there;
        rose = omega (arith, so_far.none_fell slot, at.1);
        shapes = λ slots tells. rw (so_far.files_are slots tells) refl;
      })

  -- its count is as it was, or its fault stops the reading
  pub told_at : (stop : Stop) → FaultsAt slot mid.faults after.faults stop
      → (after.faults slot ≡ mid.faults slot) ⊎ (stop ≡ stops.ReadFault slot)
  told_at stops.BadWords at = absurd at
  told_at (stops.NoSuch name) at = absurd at
  told_at (stops.Refused refusal) at = inl at
  told_at stops.OutOfMemory at = inl at
  told_at (stops.ReadFault other) at = inr (ap stops.ReadFault at.0)

  told_to : (stop : Stop) → (after.faults slot ≡ mid.faults slot) ⊎ (stop ≡ stops.ReadFault slot)
      → (i : ℕ) (other : Slot) → i < length order → slice_index_or order i other ≡ other
      → (after.faults other ≡ before.faults other) ⊎ (stop ≡ stops.ReadFault other)
  told_to stop (inl same) i other lt is = inl (quiet_to same i other lt is)
  told_to stop (inr fault) i other lt is = elim (cases_lt i place) [
    | inl first ↦ inl (quiet_apart i other (omega arith) lt is)
    | inr later ↦ elim (cases_lt place i) [
      | inl past ↦ inl (quiet_apart i other (omega arith) lt is)
      | inr here ↦ inr (fault ∙ ap stops.ReadFault (same_there i other (omega arith) is))
    ]
  ]

  stop_is : (s stop : Stop) (other : Slot) → s ≡ stop
      → (after.faults other ≡ before.faults other) ⊎ (stop ≡ stops.ReadFault other)
      → (after.faults other ≡ before.faults other) ⊎ (s ≡ stops.ReadFault other)
  stop_is s stop other from (inl same) = inl same
  stop_is s stop other from (inr fault) = inr (from ∙ fault)

  -- no slot is too large, or that is the stop
  size_to : (stop : Stop) → (after.taken slot ≤ mid.taken slot + 2 ^ 30) ⊎ IsTooLarge slot stop
      → (i : ℕ) (other : Slot) → i < length order → slice_index_or order i other ≡ other
      → (after.taken other ≤ before.taken other + 2 ^ 30) ⊎ IsTooLarge other stop
  size_to stop size i other lt is = elim (cases_lt i place) [
    | inl first ↦ inl (sized_before i other first is)
    | inr later ↦ elim (cases_lt place i) [
      | inl past ↦ inl (omega (arith, rest_taken i other (omega arith) lt is))
      | inr here ↦ subst (λ (s : Slot). (after.taken s ≤ before.taken s + 2 ^ 30) ⊎ IsTooLarge s stop)
          (same_there i other (omega arith) is) (size_here stop size)
    ]
  ]

  size_is : (s stop : Stop) (other : Slot) → s ≡ stop
      → (after.taken other ≤ before.taken other + 2 ^ 30) ⊎ IsTooLarge other stop
      → (after.taken other ≤ before.taken other + 2 ^ 30) ⊎ IsTooLarge other s
  size_is s stop other from (inl small) = inl small
  size_is s stop other from (inr large) = inr (from ∙ large)

  -- the slots as they stand where the reading stops
  pub taken_till : {A : Type 0} (r : Result A Stop) (stop : Stop) → IsErrAnd r (λ s. s ≡ stop)
      → HasCause order before after stop
      → (after.faults slot ≡ mid.faults slot) ⊎ (stop ≡ stops.ReadFault slot)
      → (after.taken slot ≤ mid.taken slot + 2 ^ 30) ⊎ IsTooLarge slot stop → TakesSlots order before after r
  taken_till (Ok x) stop from cause told size = absurd from
  taken_till (Err s) stop from cause told size = record {
    ends = λ slots tells. tt;
    once = λ other has. elim (cases_lt has.0 (place + 1)) [
      | inl first ↦ once_to has.0 other first has.2
      | inr later ↦ omega (arith, rest_taken has.0 other later has.1 has.2)
    ];
    size = λ other has. size_is s stop other from (size_to stop size has.0 other has.1 has.2);
    others = λ other out. touches.others.left other (not_among other out) ∙ so_far.others other out;
    others_taken = λ other out. touches.others.taken other (not_among other out) ∙ so_far.others_taken other out;
    counts = fell_none;
    cause = subst (HasCause order before after) (sym from) cause;
    told = λ other has. stop_is s stop other from (told_to stop told has.0 other has.1 has.2);
    others_faults = others_quiet;
  }

-- nothing is read at first, and all at the end
pub nothing_read : (order : List Slot) (before : OnShelf) (files : Files) → files ≡ no_files → AreTables files.tables
    → AreReadTo order before before 0 files
unfolding with_slots
nothing_read order before files is ranges = record {
  files_are = λ slots tells. rw is refl;
  ranges = ranges;
  ends = λ slots tells i slot lt. absurd (omega arith);
  once = λ i slot lt. absurd (omega arith);
  rest = λ i slot le lt is. refl;
  rest_taken = λ i slot le lt is. refl;
  others = λ slot out. refl;
  others_taken = λ slot out. refl;
  none_fell = λ slot. omega arith;
  quiet = λ i slot lt is. refl;
  others_quiet = λ slot out. refl;
}

pub all_read : (order : List Slot) (before after : OnShelf) (place : ℕ) (files : Files) → length order ≤ place
    → AreReadTo order before after place files → (slots : Slot → List ℕ) → Tells order before.left slots
    → files_in order slots ≡ Ok files
all_read order before after place files end so_far slots tells =
    ap (λ xs. files_in xs slots) (sym (take_all place order end)) ∙ so_far.files_are slots tells

pub all_taken : (order : List Slot) (before after : OnShelf) (place : ℕ) (files : Files) → length order ≤ place
    → AreReadTo order before after place files → let r : Result Files Stop = Ok files in TakesSlots order before after r
all_taken order before after place files end so_far = record {
  ends = λ slots tells slot has. so_far.ends slots tells has.0 slot (omega (arith, has.1)) has.2;
  once = λ slot has. omega (arith, so_far.once has.0 slot (omega (arith, has.1)) has.2);
  size = λ slot has. inl (so_far.once has.0 slot (omega (arith, has.1)) has.2);
  others = so_far.others;
  others_taken = so_far.others_taken;
  counts = so_far.none_fell;
  cause = tt;
  told = λ slot has. inl (so_far.quiet has.0 slot has.1 has.2);
  others_faults = so_far.others_quiet;
}

-- what a stop that is handed on gives
pub gives_stop : {X Y : Type 0} (view : X → Y) (r : Result X Stop) (stop : Stop) (expected : Result Y Stop)
    → IsErrAnd r (λ s. s ≡ stop) → Stopped stop expected → Gives view r expected
gives_stop view (Ok x) stop expected from stopped = absurd from
gives_stop view (Err s) stop expected from stopped = rw from stopped

-- a fault of the input has no cause outside
pub refusal_has_cause : (order : List Slot) (before after : OnShelf) (fault : InFault)
    → HasCause order before after (stop_of fault)
refusal_has_cause order before after (faults.Refused refusal) = tt
refusal_has_cause order before after faults.OutOfMemory = tt
