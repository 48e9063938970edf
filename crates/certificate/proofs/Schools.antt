-- A school that a day's fault tells is one of the dossier.
use Rattle.std.proofs.Common.{◌≡◌, ℕ, ◌+◌, Bool, true, false, cond, not, List, [], ◌∷◌, length, Option, Some, None}
use Rattle.std.proofs.Common.{Result, Ok, Err, IfErr, IfSome, inl, inr, subst, nat_lt, slice_index}
use Rattle.std.specs.Prelude.{find, option_map, if◌then◌else◌}
use Rattle.std.specs.List.{range_with_len}
use Rattle.std.specs.Option.{option_or}
use Rattle.std.proofs.lemmas.Bool.{and_parts, cases_Bool, ltb-true}
use Rattle.admit_core.specs.declared.chain.CheckReason.{CheckReason}
use Rattle.admit_core.specs.declared.chain.CheckReason.TheVariants.{NotOver, WrongWishes, WrongBar, StillOver}
use Rattle.admit_core.specs.declared.chain.DayChain.{DayChain}
use Rattle.admit_core.specs.declared.chain.FallLine.{FallLine}
use Rattle.admit_core.specs.declared.chain.PassChain.{PassChain}
use Rattle.admit_core.specs.declared.ranking.CallOrder.{CallOrder}
use Rattle.admit_core.specs.State.{State}
use Rattle.admit_core.specs.Boarding.{boarding}
use Rattle.admit_core.specs.Falls.{FallingSystem, fall_of, ranks_up_to_over, is_overfilled}
use Rattle.admit_core.specs.Chains.{bars_by, closing_by, day_fault, extra_pass, first_overfilled, frees_nothing_by}
use Rattle.admit_core.specs.Chains.{lines_fault, lowered, pass_fault, passes_fault, school_of_line, shows_ranks}
use Rattle.admit_core.specs.Chains.{tells_bars}
use Rattle.certificate.specs.Checked.{Finds}
use Rattle.certificate.specs.Verdicts.{KeepsSchool, StopsAt}
use Rattle.certificate.specs.declared.stop.CheckStop.{CheckStop}
use Rattle.certificate.specs.declared.stop.CheckStop.TheVariants as stop

abbrev Tells : ℕ → Option (ℕ × CheckReason) → Type 0
Tells n fault = IfSome fault (λ x. KeepsSchool n x.1)

or_tells : (n : ℕ) (a b : Option (ℕ × CheckReason)) → Tells n a → Tells n b → Tells n (option_or a b)
or_tells n None b one other = other
or_tells n (Some x) b one other = one

cond_tells : (n : ℕ) (b : Bool) (one other : Option (ℕ × CheckReason)) → Tells n one → Tells n other
    → Tells n (cond b one other)
cond_tells n true one other is are = is
cond_tells n false one other is are = are

tests_tell : (n row : ℕ) (a b c : Bool)
    → Tells n (option_map (λ reason. (row, reason)) (if not a then Some NotOver
    else if not b then Some WrongWishes else if not c then Some WrongBar else None))
tests_tell n row false b c = tt
tests_tell n row true false c = tt
tests_tell n row true true false = tt
tests_tell n row true true true = tt

found_passes : (p : ℕ → Bool) (xs : List ℕ) → IfSome (find p xs) (λ x. p x ≡ true)
found_passes p [] = tt
found_passes p (x ∷ xs) =
    elim (cases_Bool (p x)) [
      | inl passes ↦ rw passes passes
      | inr fails ↦ rw fails (found_passes p xs)
    ]

over_tells : (sys : FallingSystem) (bars : List ℕ) (row : ℕ) (found : Option ℕ)
    → IfSome found (λ h. is_overfilled sys bars h ≡ true)
    → Tells (length sys.ceilings) (option_map (λ h. (row, StillOver h)) found)
over_tells sys bars row None passes = tt
over_tells sys bars row (Some h) passes =
    ltb-true h (length sys.ceilings) (and_parts (nat_lt h (length sys.ceilings))
    (nat_lt (slice_index sys.free h) (length (sys.ranks bars h))) passes).0

module _ (orders : List CallOrder) (ceilings : List ℕ) where
  lines_tell : (s : State) (bars : List ℕ) (lines : List FallLine)
      → Tells (length ceilings) (lines_fault s orders ceilings bars lines)
  lines_tell s bars [] = tt
  lines_tell s bars (line ∷ lines) =
      let sys = boarding s orders ceilings in
      let h = school_of_line s line in
      or_tells (length ceilings) _ (lines_fault s orders ceilings (lowered s bars line) lines)
      (tests_tell (length ceilings) line.row (is_overfilled sys bars h) (shows_ranks s orders bars h
      (ranks_up_to_over sys bars h) line.wishes) (tells_bars line (fall_of sys bars h)))
      (lines_tell s (lowered s bars line) lines)

  pass_tells : (s : State) (pass : PassChain) → Tells (length ceilings) (pass_fault s orders ceilings pass)
  pass_tells s pass =
      let sys = boarding s orders ceilings in
      let bars = bars_by s ceilings pass.falls in
      or_tells (length ceilings) (lines_fault s orders ceilings ceilings pass.falls) _
      (lines_tell s ceilings pass.falls)
      (over_tells sys bars pass.next_row (first_overfilled sys bars)
      (found_passes (is_overfilled sys bars) (range_with_len 0 (length ceilings))))

  extra_tells : (passes : List PassChain) → Tells (length ceilings) (extra_pass passes)
  extra_tells [] = tt
  extra_tells (pass ∷ rest) = tt

  passes_tell : (day end k : ℕ) (s : State) (passes : List PassChain)
      → Tells (length ceilings) (passes_fault orders ceilings day end k s passes)
  passes_tell day end k s [] = tt
  passes_tell day end k s (pass ∷ rest) =
      let after = closing_by s orders ceilings (record { day = day; pass = k }) pass in
      or_tells (length ceilings) (pass_fault s orders ceilings pass) _ (pass_tells s pass)
      (cond_tells (length ceilings)
      (frees_nothing_by s orders ceilings (record { day = day; pass = k }) pass)
      (extra_pass rest) (passes_fault orders ceilings day end (k + 1) after rest)
      (extra_tells rest) (passes_tell day end (k + 1) after rest))

-- where a check stops, it keeps a school of the dossier, if it keeps one
pub stops_school : {X : Type 0} (orders : List CallOrder) (ceilings : List ℕ) (day : ℕ) (morning : State)
    (chain : DayChain) (result : Result X CheckStop) → length ceilings ≡ length morning.dossier.schools
    → Finds result (day_fault orders ceilings day morning chain)
    → IfErr result (StopsAt (length morning.dossier.schools))
stops_school orders ceilings day morning chain (Ok x) as_many found = tt
stops_school orders ceilings day morning chain (Err stop.OutOfMemory) as_many found = tt
stops_school orders ceilings day morning chain (Err (stop.Rejected told)) as_many found =
    subst (λ n. KeepsSchool n told.reason) as_many (subst (Tells (length ceilings)) found
    (passes_tell orders ceilings day chain.next_row 1 morning chain.passes))
