-- Lines and passes, one after another.
use Rattle.std.proofs.Common.{◌≡◌, ℕ, suc, ◌+◌, ◌<◌, true, false, cond, List, ◌∷◌, length, drop, get_or, Option, None}
use Rattle.std.proofs.Common.{sym, ap, ◌∙◌, arith, drop-cons}
use Rattle.std.specs.Prelude.{option_map, slice_set}
use Rattle.admit_core.specs.declared.chain.CheckReason.{CheckReason}
use Rattle.admit_core.specs.declared.chain.FallLine.{FallLine}
use Rattle.admit_core.specs.declared.chain.PassChain.{PassChain}
use Rattle.admit_core.specs.declared.ranking.CallOrder.{CallOrder}
use Rattle.admit_core.specs.declared.state.Stamp.{Stamp}
use Rattle.admit_core.specs.State.{State}
use Rattle.admit_core.specs.Proposals.{proposed}
use Rattle.admit_core.specs.Chains.{school_of_line, lowered, bars_by, line_fault, lines_fault, pass_fault, passes_fault}
use Rattle.admit_core.specs.Chains.{extra_pass, frees_nothing_by, closing_by}
use Rattle.linked_demand.specs.Rounds.{Round}
use Rattle.certificate.specs.declared.stop.CheckStop.{CheckStop}
use Rattle.certificate.specs.Checked.{Stops, state_after}
use Rattle.certificate.proofs.Testing.{goes_on, stops_at}

-- the items from a place on
pub drop_item : {X : Type 0} (xs : List X) (i : ℕ) (x : X) → i < length xs → x ≡ get_or xs i x
    → drop i xs ≡ x ∷ drop (i + 1) xs
drop_item xs i x lt is =
    let next : suc i ≡ i + 1 = omega arith in
    drop-cons xs i x lt ∙ ap (λ y. y ∷ drop (suc i) xs) (sym is) ∙ ap (λ k. x ∷ drop k xs) next

module _ (now new : Round) (line : FallLine) (h : ℕ) (rest : List FallLine) (is : h ≡ school_of_line now.state line)
    (fell : new ≡ record now { bars = slice_set now.bars h line.to }) where
  pub bars_are : new.bars ≡ lowered now.state now.bars line
  bars_are = ap (λ (r : Round). r.bars) fell ∙ ap (λ k. slice_set now.bars k line.to) is

  -- a line that is valid
  pub line_passes : (whole : Option (ℕ × CheckReason))
      → whole ≡ lines_fault now.state now.orders now.ceilings now.bars (line ∷ rest)
      → option_map {U = ℕ × CheckReason} (λ reason.
      (line.row, reason)) (line_fault now.state now.orders now.ceilings now.bars line) ≡ None
      → whole ≡ lines_fault new.state new.orders new.ceilings new.bars rest
  line_passes whole e none =
      goes_on _ (lines_fault now.state now.orders now.ceilings (lowered now.state now.bars line) rest) whole e none
      ∙ ap (λ (bs : List ℕ). lines_fault now.state now.orders now.ceilings bs rest) (sym bars_are)
      ∙ ap (λ (r : Round). lines_fault r.state r.orders r.ceilings new.bars rest) (sym fell)

  pub bars_pass : (whole : List ℕ) → whole ≡ bars_by now.state now.bars (line ∷ rest)
      → whole ≡ bars_by new.state new.bars rest
  bars_pass whole e =
      e ∙ ap (λ (bs : List ℕ). bars_by now.state bs rest) (sym bars_are)
      ∙ ap (λ (r : Round). bars_by r.state new.bars rest) (sym fell)

-- only the bars change
pub keeps_round : (old now new : Round) (bars : List ℕ) → now ≡ record old { bars = now.bars }
    → new ≡ record now { bars = bars } → new ≡ record old { bars = new.bars }
keeps_round old now new bars kept fell =
    let put : Round → List ℕ → Round = λ r bs. record {
      state = r.state;
      orders = r.orders;
      ceilings = r.ceilings;
      bars = bs;
    } in
    fell ∙ ap (λ (r : Round). put r bars) kept ∙ ap (put old) (sym (ap (λ (r : Round). r.bars) fell))

-- a line that is not valid
pub line_stops : (now : Round) (line : FallLine) (rest : List FallLine) (found : CheckStop)
    (whole : Option (ℕ × CheckReason))
    → whole ≡ lines_fault now.state now.orders now.ceilings now.bars (line ∷ rest)
    → Stops found (option_map {U = ℕ × CheckReason} (λ reason. (line.row, reason))
    (line_fault now.state now.orders now.ceilings now.bars line)) → Stops found whole
line_stops now line rest found whole e stops =
    stops_at found (option_map {U = ℕ × CheckReason} (λ reason. (line.row, reason))
    (line_fault now.state now.orders now.ceilings now.bars line))
    (lines_fault now.state now.orders now.ceilings (lowered now.state now.bars line) rest) whole e stops

-- what a round that began at its ceilings proposes after the lines of a pass
pub offers_told : (old new : Round) (lines falls : List FallLine) (items : List ℕ) → old.bars ≡ old.ceilings
    → new ≡ record old { bars = bars_by old.state old.bars lines } → lines ≡ falls
    → items ≡ proposed new.state new.orders new.bars
    → items ≡ proposed old.state old.orders (bars_by old.state old.ceilings falls)
offers_told old new lines falls items begun new_is are told =
    told ∙ ap (λ (r : Round). proposed r.state r.orders r.bars) new_is
    ∙ ap (λ (bs : List ℕ). proposed old.state old.orders (bars_by old.state bs lines)) begun
    ∙ ap (λ (ls : List FallLine). proposed old.state old.orders (bars_by old.state old.ceilings ls)) are

module _ (orders : List CallOrder) (ceilings : List ℕ) (day end k : ℕ) (s : State)
    (pass : PassChain) (rest : List PassChain) (whole : Option (ℕ × CheckReason)) where
  stamp : Stamp
  stamp = record { day = day; pass = k }

  -- a pass whose lines are not valid
  pub pass_stops : (found : CheckStop) → whole ≡ passes_fault orders ceilings day end k s (pass ∷ rest)
      → Stops found (pass_fault s orders ceilings pass) → Stops found whole
  pass_stops found e stops = stops_at found (pass_fault s orders ceilings pass) _ whole e stops

  -- a valid pass that frees something
  pub pass_goes_on : (next : State) → whole ≡ passes_fault orders ceilings day end k s (pass ∷ rest)
      → pass_fault s orders ceilings pass ≡ None
      → frees_nothing_by s orders ceilings (record { day = day; pass = k }) pass ≡ false
      → next ≡ closing_by s orders ceilings (record { day = day; pass = k }) pass
      → whole ≡ passes_fault orders ceilings day end (k + 1) next rest
  pass_goes_on next e none frees is =
      let after = closing_by s orders ceilings (record { day = day; pass = k }) pass in
      goes_on (pass_fault s orders ceilings pass) _ whole e none
      ∙ ap (λ b. cond b (extra_pass rest) (passes_fault orders ceilings day end (k + 1) after rest)) frees
      ∙ ap (λ (t : State). passes_fault orders ceilings day end (k + 1) t rest) (sym is)

  -- a valid pass that frees nothing
  pub pass_is_last : whole ≡ passes_fault orders ceilings day end k s (pass ∷ rest)
      → pass_fault s orders ceilings pass ≡ None
      → frees_nothing_by s orders ceilings (record { day = day; pass = k }) pass ≡ true → whole ≡ extra_pass rest
  pass_is_last e none frees =
      let after = closing_by s orders ceilings (record { day = day; pass = k }) pass in
      goes_on (pass_fault s orders ceilings pass) _ whole e none
      ∙ ap (λ b. cond b (extra_pass rest) (passes_fault orders ceilings day end (k + 1) after rest)) frees

pub state_goes_on : (orders : List CallOrder) (ceilings : List ℕ) (day k : ℕ) (s next : State)
    (pass : PassChain) (rest : List PassChain) (whole : State)
    → whole ≡ state_after orders ceilings day k s (pass ∷ rest)
    → next ≡ closing_by s orders ceilings (record { day = day; pass = k }) pass
    → whole ≡ state_after orders ceilings day (k + 1) next rest
state_goes_on orders ceilings day k s next pass rest whole e is =
    e ∙ ap (λ (t : State). state_after orders ceilings day (k + 1) t rest) (sym is)
