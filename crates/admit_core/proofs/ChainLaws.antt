-- A chain has no fault exactly where it is valid, and a valid one tells the passes of its day.
use Rattle.std.proofs.Common.{ℕ, ◌+◌, ◌≡◌, Bool, true, false, not, List, [], ◌∷◌, map, length, inl, inr, refl, sym, ◌∙◌}
use Rattle.std.proofs.Common.{ap, subst, nat_eq, Option, Some, None}
use Rattle.std.specs.Prelude.{slice_set, option_map, find, IsTrue, if◌then◌else◌}
use Rattle.std.specs.List.{list_all, range_with_len}
use Rattle.std.proofs.lemmas.Bool.{and_parts, and_from, cases_Bool, eqb-true, not-true, not_from_false}
use Rattle.admit_core.specs.declared.chain.FallLine.{FallLine}
use Rattle.admit_core.specs.declared.chain.PassChain.{PassChain}
use Rattle.admit_core.specs.declared.chain.CheckReason.{CheckReason}
use Rattle.admit_core.specs.declared.chain.CheckReason.TheVariants.{NotOver, WrongWishes, WrongBar, StillOver}
use Rattle.admit_core.specs.declared.chain.CheckReason.TheVariants.{PassMissing, PassExtra}
use Rattle.admit_core.specs.declared.ranking.CallOrder.{CallOrder}
use Rattle.admit_core.specs.declared.state.Stamp.{Stamp}
use Rattle.admit_core.specs.State.{State}
use Rattle.admit_core.specs.Falls.{AreFalls, IsRunOfFalls, is_overfilled, is_settled, bars_after, fallen, falls_by}
use Rattle.admit_core.specs.Falls.{fall_of, ranks_up_to_over}
use Rattle.admit_core.specs.Boarding.{boarding}
use Rattle.admit_core.specs.Days.{IsPassEnd, Passes}
use Rattle.admit_core.specs.Chains.{school_of_line, shows_ranks, tells_bars, IsFallLine, lowered, bars_by, AreFallLines}
use Rattle.admit_core.specs.Chains.{IsPassChain, closing_by, frees_nothing_by, ArePassChains, line_fault, lines_fault}
use Rattle.admit_core.specs.Chains.{first_overfilled, pass_fault, passes_fault}
use Rattle.admit_core.specs.ChainLaws.{falls_told, pass_told, passes_told, NoFaultWhereValid, ChainsTellTheDay}
use Rattle.admit_core.proofs.Rows.{passes_with}
use Rattle.admit_core.proofs.Plain.{mapped_none, none_or}

none_map : {X Y : Type 0} (f : X → Y) (a : Option X) → a ≡ None → option_map f a ≡ None
none_map f a e = rw e refl

some_is_none : {X : Type 0} (x : X) → Some x ≡ None → ⊥
some_is_none x e = cc

-- nothing is found exactly where all fail
fail_all : {X : Type 0} (p : X → Bool) (xs : List X) → find p xs ≡ None → list_all (λ x. not (p x)) xs ≡ true
fail_all p [] e = refl
fail_all p (x ∷ xs) e =
    elim (cases_Bool (p x)) [
      | inl passes ↦ absurd (some_is_none x (rw passes at e))
      | inr fails ↦ and_from (not (p x)) (list_all (λ y. not (p y)) xs) (not_from_false (p x) fails)
          (fail_all p xs (rw fails at e))
    ]

find_none : {X : Type 0} (p : X → Bool) (xs : List X) → list_all (λ x. not (p x)) xs ≡ true → find p xs ≡ None
find_none p [] t = refl
find_none p (x ∷ xs) t =
    let parts = and_parts (not (p x)) (list_all (λ y. not (p y)) xs) t in
    rw (not-true (p x) parts.0) (find_none p xs parts.1)

-- the three tests of a line
tests_hold : (a b c : Bool)
    → (if not a then Some NotOver else if not b then Some WrongWishes else if not c then Some WrongBar else None) ≡ None
    → (a ≡ true) × (b ≡ true) × (c ≡ true)
tests_hold true true true e = (refl, refl, refl)
tests_hold true true false e = absurd (cc)
tests_hold true false c e = absurd (cc)
tests_hold false b c e = absurd (cc)

module _ (s : State) (orders : List CallOrder) (ceilings : List ℕ) where
  line_valid : (bars : List ℕ) (line : FallLine) → line_fault s orders ceilings bars line ≡ None
      → IsFallLine s orders ceilings bars line
  line_valid bars line e =
      let sys = boarding s orders ceilings in
      let h = school_of_line s line in
      let t = tests_hold (is_overfilled sys bars h)
      (shows_ranks s orders bars h (ranks_up_to_over sys bars h) line.wishes)
      (tells_bars line (fall_of sys bars h)) e in
      record { over = t.0; names = t.1; tells = t.2 }

  valid_line : (bars : List ℕ) (line : FallLine) → IsFallLine s orders ceilings bars line
      → line_fault s orders ceilings bars line ≡ None
  valid_line bars line valid = rw (valid.over, valid.names, valid.tells) refl

  lines_valid : (bars : List ℕ) (lines : List FallLine) → lines_fault s orders ceilings bars lines ≡ None
      → AreFallLines s orders ceilings bars lines
  lines_valid bars [] e = tt
  lines_valid bars (line ∷ lines) e =
      let f : CheckReason → ℕ × CheckReason = λ reason. (line.row, reason) in
      let parts = none_or (option_map f (line_fault s orders ceilings bars line))
      (lines_fault s orders ceilings (lowered s bars line) lines) e in (
        line_valid bars line (mapped_none f (line_fault s orders ceilings bars line) parts.0),
        lines_valid
            (lowered s bars line) lines parts.1,
      )

  valid_lines : (bars : List ℕ) (lines : List FallLine) → AreFallLines s orders ceilings bars lines
      → lines_fault s orders ceilings bars lines ≡ None
  valid_lines bars [] are = refl
  valid_lines bars (line ∷ lines) are = rw (valid_line bars line are.0) (valid_lines (lowered s bars line) lines are.1)

  pass_valid : (pass : PassChain) → pass_fault s orders ceilings pass ≡ None → IsPassChain s orders ceilings pass
  pass_valid pass e =
      let sys = boarding s orders ceilings in
      let last = bars_by s ceilings pass.falls in
      let f : ℕ → ℕ × CheckReason = λ h. (pass.next_row, StillOver h) in
      let parts = none_or (lines_fault s orders ceilings ceilings pass.falls)
      (option_map f (first_overfilled sys last)) e in
      record {
        lines = lines_valid ceilings pass.falls parts.0;
        settled = fail_all (is_overfilled sys last) (range_with_len 0 (length ceilings))
            (mapped_none f (first_overfilled sys last) parts.1);
      }

  valid_pass : (pass : PassChain) → IsPassChain s orders ceilings pass → pass_fault s orders ceilings pass ≡ None
  valid_pass pass valid =
      let sys = boarding s orders ceilings in
      let last = bars_by s ceilings pass.falls in
      let none : first_overfilled sys last ≡ None =
      find_none (is_overfilled sys last) (range_with_len 0 (length ceilings)) valid.settled in
      rw (valid_lines ceilings pass.falls valid.lines, none) refl

  -- valid lines make falls
  lines_are_falls : (bars : List ℕ) (lines : List FallLine) → AreFallLines s orders ceilings bars lines
      → AreFalls (boarding s orders ceilings) bars
      (falls_by (boarding s orders ceilings) bars (map (school_of_line s) lines))
      × (bars_after bars (falls_by (boarding s orders ceilings) bars (map (school_of_line s) lines))
      ≡ bars_by s bars lines)
  lines_are_falls bars [] are = (tt, refl)
  lines_are_falls bars (line ∷ lines) are =
      let f = fall_of (boarding s orders ceilings) bars (school_of_line s line) in
      let told = (and_parts (nat_eq line.from f.from) (nat_eq line.to f.to) are.0.tells).1 in
      let low : lowered s bars line ≡ fallen bars f =
      ap (slice_set bars (school_of_line s line)) (eqb-true line.to f.to told) in
      let later = lines_are_falls (fallen bars f) lines
      (subst (λ (b : List ℕ). AreFallLines s orders ceilings b lines) low are.1) in
      ((are.0.over, refl, later.0), later.1 ∙ ap (λ b. bars_by s b lines) (sym low))

  pass_is_told : (stamp : Stamp) (pass : PassChain) → IsPassChain s orders ceilings pass
      → IsPassEnd s orders ceilings stamp (pass_told s orders ceilings stamp pass)
  pass_is_told stamp pass valid =
      let sys = boarding s orders ceilings in
      let made = lines_are_falls ceilings pass.falls valid.lines in
      let run : IsRunOfFalls sys (falls_told s orders ceilings pass.falls) =
      record {
        are_falls = made.0;
        settled = subst (λ (b : List ℕ). IsTrue (is_settled sys b))
            (sym made.1) valid.settled;
      } in
      let told = pass_told s orders ceilings stamp pass in
      record { pass = passes_with s orders ceilings told.pass run (sym made.1) refl; autos = refl; freed = refl }

-- passes without a fault are valid
passes_valid : (orders : List CallOrder) (ceilings : List ℕ) (day end k : ℕ) (s : State) (passes : List PassChain)
    → passes_fault orders ceilings day end k s passes ≡ None
    → (evening : State) × ArePassChains orders ceilings day k s passes evening
passes_valid orders ceilings day end k s [] e = absurd (cc)
passes_valid orders ceilings day end k s (pass ∷ []) e =
    let stamp : Stamp = record { day = day; pass = k } in
    let frees = frees_nothing_by s orders ceilings stamp pass in
    elim (cases_Bool frees) [
      | inl nothing ↦
          let parts = none_or (pass_fault s orders ceilings pass) None (rw nothing at e) in
          (closing_by s orders ceilings stamp pass, (pass_valid s orders ceilings pass parts.0, nothing, refl))
      | inr something ↦
          let fault : Option (ℕ × CheckReason) = Some (end, PassMissing) in
          let parts = none_or (pass_fault s orders ceilings pass) fault (rw something at e) in
          absurd (some_is_none (end, PassMissing) parts.1)
    ]
passes_valid orders ceilings day end k s (pass ∷ (next ∷ rest)) e =
    let stamp : Stamp = record { day = day; pass = k } in
    let frees = frees_nothing_by s orders ceilings stamp pass in
    elim (cases_Bool frees) [
      | inl nothing ↦
          let fault : Option (ℕ × CheckReason) = Some (next.row, PassExtra) in
          let parts = none_or (pass_fault s orders ceilings pass) fault (rw nothing at e) in
          absurd (some_is_none (next.row, PassExtra) parts.1)
      | inr something ↦
          let closed = closing_by s orders ceilings stamp pass in
          let parts = none_or (pass_fault s orders ceilings pass)
          (passes_fault orders ceilings day end (k + 1) closed (next ∷ rest)) (rw something at e) in
          let (evening, later) = passes_valid orders ceilings day end (k + 1) closed (next ∷ rest) parts.1 in
          (evening, (pass_valid s orders ceilings pass parts.0, not_from_false frees something, later))
    ]

-- valid passes have no fault
valid_passes : (orders : List CallOrder) (ceilings : List ℕ) (day end k : ℕ) (s : State) (passes : List PassChain)
    (evening : State)
    → ArePassChains orders ceilings day k s passes evening → passes_fault orders ceilings day end k s passes ≡ None
valid_passes orders ceilings day end k s [] evening are = absurd are
valid_passes orders ceilings day end k s (pass ∷ []) evening are =
    rw (valid_pass s orders ceilings pass are.0, are.1) refl
valid_passes orders ceilings day end k s (pass ∷ (next ∷ rest)) evening are =
    let stamp : Stamp = record { day = day; pass = k } in
    let something = not-true (frees_nothing_by s orders ceilings stamp pass) are.1 in
    rw (valid_pass s orders ceilings pass are.0, something)
    (valid_passes orders ceilings day end (k + 1) (closing_by s orders ceilings stamp pass) (next ∷ rest) evening are.2)

passes_are_told : (orders : List CallOrder) (ceilings : List ℕ) (day k : ℕ) (s : State) (passes : List PassChain)
    (evening : State)
    → ArePassChains orders ceilings day k s passes evening
    → Passes orders ceilings day k s (passes_told orders ceilings day k s passes) evening
passes_are_told orders ceilings day k s [] evening are = are
passes_are_told orders ceilings day k s (pass ∷ []) evening are =
    let stamp : Stamp = record { day = day; pass = k } in
    (pass_is_told s orders ceilings stamp pass are.0, are.1, are.2)
passes_are_told orders ceilings day k s (pass ∷ (next ∷ rest)) evening are =
    let stamp : Stamp = record { day = day; pass = k } in (
      pass_is_told s orders ceilings stamp pass are.0,
      are.1,
      passes_are_told orders ceilings day (k + 1) (closing_by s orders ceilings stamp pass) (next ∷ rest) evening are.2,
    )

pub no_fault_where_valid : NoFaultWhereValid
no_fault_where_valid orders ceilings day morning chain = (
  passes_valid orders ceilings day chain.next_row 1 morning chain.passes,
  λ (evening, are). valid_passes orders ceilings day chain.next_row 1 morning chain.passes evening are,
)

pub chains_tell_the_day : ChainsTellTheDay
chains_tell_the_day orders ceilings day morning chain evening are =
    passes_are_told orders ceilings day 1 morning chain.passes evening are
