-- What one closing counts and marks.
use Rattle.std.proofs.Common.{ℕ, ◌+◌, ◌-◌, ◌≤◌, ◌<◌, ◌≡◌, Bool, true, false, not, ◌&&◌, List, [], length, refl, sym}
use Rattle.std.proofs.Common.{◌∙◌, ap, arith, get_or, inl, inr, Option, None, Some, count_by, subst, nat_eq, nat_lt}
use Rattle.std.proofs.Common.{unwrap_or}
use Rattle.std.specs.Prelude.{slice_get, is_some, All, if◌then◌else◌}
use Rattle.std.proofs.Math.ListN.{set}
use Rattle.std.specs.List.{enumerate_from}
use Rattle.std.proofs.lemmas.Bool.{and_parts, cases_Bool, false≢true, ltb-true}
use Rattle.std.proofs.lemmas.List.Elements.{All-from_recursion, All-nil}
use Rattle.admit_core.specs.declared.dossier.Wish.{Wish}
use Rattle.admit_core.specs.declared.state.Mark.{Mark}
use Rattle.admit_core.specs.declared.ranking.CallOrder.{CallOrder}
use Rattle.admit_core.specs.Lists.{is_among}
use Rattle.admit_core.specs.State.{State, entries, is_waiting}
use Rattle.admit_core.specs.Proposals.{is_open, is_behind_bar}
use Rattle.day_state.specs.Kept.{wish_in}
use Rattle.linked_demand.specs.Line.{LineRow, last_new}
use Rattle.linked_demand.specs.Links.{LinksRow, IsSeatPlace, claim_of}
use Rattle.linked_demand.specs.Demand.{is_proposed_at}
use Rattle.linked_demand.specs.Marks.{is_new, is_fresh, MarksWishes}
use Rattle.linked_demand.specs.Opens.{line_of}
use Rattle.linked_demand.specs.Wants.{claim_at, seat_rows}
use Rattle.linked_demand.proofs.Closing.{Closes, wish_of, places_below}
use Rattle.linked_demand.proofs.Counting.{count_claim, count_entries, count_nothing}
use Rattle.linked_demand.proofs.RowsRight.{entry_is}
use Rattle.linked_demand.proofs.Lining.{among_claim}
use Rattle.linked_demand.proofs.Leaving.{Moves, claim_there, in_claims}
use Rattle.linked_demand.proofs.Marking.{marks_weaker}
use Rattle.linked_demand.proofs.Moving.{newly_none, newly_some}

-- the links before and after a wish is closed
abbrev before : State → List CallOrder → List Bool → LinksRow
before s orders opens = record { state = s; orders = orders; opens = opens }

abbrev newly : State → List CallOrder → List Bool → ℕ → ℕ → Bool
newly s orders opens i j = is_proposed_at (before s orders (set opens i false))
    j && not (is_proposed_at (before s orders opens) j)

pub claim_fits : {s : State} {orders : List CallOrder} {opens : List Bool} {lines : List LineRow}
    {claims : List (List (List ℕ))} {places : List ℕ} {exempt : List Bool} {i : ℕ} {w : Wish}
    → Closes s orders opens lines claims places exempt i w → (p c : ℕ) (claim : List ℕ)
    → claim ≡ claim_of s.dossier p c → (n : ℕ) → n ≡ length s.dossier.wishes → All (λ v. v < n) claim
claim_fits {s} k p c claim is n each =
    rw is (All-from_recursion (λ v. v < n) (claim_of s.dossier p c)
    (places_below (λ (x : ℕ × Wish). (nat_eq x.1.candidate c) && (nat_eq x.1.programme p)) s.dossier.wishes
    0 n (omega (arith, each))))

-- what a closing counts and marks, as the call says it
pub record Told (seen new : LinksRow) (bars : List ℕ) (count after : ℕ) (old now : List Bool) : Type 0 where
  pub steps : after ≡ count + count_by (is_new seen.state bars seen new) (enumerate_from 0 (entries seen.state))
  pub marked : MarksWishes seen.state (is_new seen.state bars seen new) old now

-- nothing, where nothing becomes proposed
told_none : (s : State) (orders : List CallOrder) (opens : List Bool) (i : ℕ) (seen : LinksRow)
    → before s orders opens ≡ seen
    → ((j : ℕ) (e : Wish × Mark) → slice_get (entries s) j ≡ Some e → newly s orders opens i j ≡ false)
    → (bars : List ℕ) (count after : ℕ) (old now : List Bool) → after ≡ count
    → (test : ℕ × (Wish × Mark) → Bool) → MarksWishes s test old now
    → Told seen (before s orders (set opens i false)) bars count after old now
told_none s orders opens i seen is none bars count after old now same test marks =
    let P = λ (r : LinksRow). Told r (before s orders (set opens i false)) bars count after old now in
    let new = is_new s bars (before s orders opens) (before s orders (set opens i false)) in
    let quiet : (j : ℕ) (e : Wish × Mark) → slice_get (entries s) j ≡ Some e → new (j, e) ≡ false =
    λ j e at. ap (λ b. b && is_open s bars e.0 e.1) (none j e at) in
    subst P is (record {
      steps = omega (arith, same, count_nothing new (entries s) quiet);
      marked = marks_weaker s test new old now
          (λ j e at passes. absurd (false≢true (sym (quiet j e at) ∙ passes))) marks;
    })

fresh_bits : (waits cand own flags behind : Bool)
    → ((((waits && cand) && own) && flags) && (waits && not (waits && behind)))
    ≡ ((cand && own) && (flags && (waits && not (waits && behind))))
fresh_bits true true true flags behind = refl
fresh_bits true true false flags behind = refl
fresh_bits true false own flags behind = refl
fresh_bits false true true true behind = refl
fresh_bits false true true false behind = refl
fresh_bits false true false flags behind = refl
fresh_bits false false own flags behind = refl

-- the fresh wishes of the claim
told_some : (s : State) (orders : List CallOrder) (opens exempt : List Bool) (i p c : ℕ) (seen : LinksRow)
    → before s orders opens ≡ seen
    → ((j : ℕ) (e : Wish × Mark) → slice_get (entries s) j ≡ Some e → newly s orders opens i j
    ≡ ((is_waiting e.1 && (nat_eq e.0.candidate c) && (nat_eq e.0.programme p)) && (get_or
    (set opens i false) j false && not (get_or exempt j false))))
    → length s.marks ≡ length s.dossier.wishes → (bars claim : List ℕ) → claim ≡ claim_of s.dossier p c
    → (flags exempts : List Bool) → flags ≡ set opens i false → exempts ≡ exempt
    → (count after : ℕ) (old now : List Bool)
    → after ≡ count + count_by (is_fresh s bars flags exempts) claim
    → MarksWishes s (λ x. is_among x.0 claim && is_fresh s bars flags exempts x.0) old now
    → Told seen (before s orders (set opens i false)) bars count after old now
told_some s orders opens exempt i p c seen is each marks_each bars claim claim_is flags exempts flags_are
    exempts_are count after old now sum marks =
    let P = λ (r : LinksRow). Told r (before s orders (set opens i false)) bars count after old now in
    let t = λ (w : Wish). (nat_eq w.candidate c) && (nat_eq w.programme p) in
    let q = is_fresh s bars (set opens i false) exempt in
    let new = is_new s bars (before s orders opens) (before s orders (set opens i false)) in
    let here : (j : ℕ) (e : Wish × Mark) → slice_get (entries s) j ≡ Some e → new (j, e) ≡ (t e.0 && q j) =
    λ j e at.
    let entry = entry_is s.dossier.wishes s.marks j e.0 e.1 at in
    ap (λ b. b && is_open s bars e.0 e.1) (each j e at)
    ∙ fresh_bits (is_waiting e.1) (nat_eq e.0.candidate c) (nat_eq e.0.programme p)
    (get_or (set opens i false) j false && not (get_or exempt j false)) (is_behind_bar s bars e.0 e.0.school)
    ∙ ap (λ b. t e.0 && ((get_or (set opens i false) j false && not (get_or exempt j false)) && b))
    (ap (λ (v : Wish). is_open s bars v e.1) (sym entry.0)
    ∙ ap (λ (m : Mark). is_open s bars (wish_in s.dossier.wishes j) m) (sym entry.1)) in
    let own_sum : after ≡ count + count_by q (claim_of s.dossier p c) =
    rw (← claim_is, ← flags_are, ← exempts_are) sum in
    let own_marks : MarksWishes s (λ x. is_among x.0 (claim_of s.dossier p c) && q x.0) old now =
    rw (← claim_is, ← flags_are, ← exempts_are) marks in
    subst P is (record {
      steps = omega (
        arith,
        own_sum,
        count_claim t q (λ (x : ℕ × Wish). t x.1 && q x.0) s.dossier.wishes
            (λ j w at. refl),
        count_entries (λ j w. t w && q j) new s.dossier.wishes s.marks marks_each here,
      );
      marked = marks_weaker s (λ x. is_among x.0 (claim_of s.dossier p c) && q x.0) new old now (λ j e at passes.
          let parts = and_parts (t e.0) (q j) (sym (here j e at) ∙ passes) in
          rw (among_claim s.dossier p c j e.0 (wish_of s.dossier.wishes s.marks j e.0 e.1 at), parts.0, parts.1) refl)
          own_marks;
    })

-- a last place that is reached is one of the line
last_within : (flags : List Bool) (before reached n : ℕ) → last_new flags before reached ≡ Some n → n < reached
last_within flags before reached n is =
    let test = nat_lt before reached && get_or flags (reached - 1) false in
    let found : Bool → Option ℕ = λ b. if b then Some (reached - 1) else None in
    elim (cases_Bool test) [
      | inl passes ↦
          let lt : before < reached =
          ltb-true before reached (and_parts (nat_lt before reached) (get_or flags (reached - 1) false) passes).0 in
          let here : reached - 1 ≡ n = ap (λ (o : Option ℕ). unwrap_or o n) (sym (ap found passes) ∙ is) in
          omega (arith, lt, here)
      | inr fails ↦ absurd (false≢true (ap is_some (sym (ap found fails) ∙ is)))
    ]

-- what is told where so many places of the line are reached now
module _ {s : State} {orders : List CallOrder} {opens : List Bool} {claims : List (List (List ℕ))}
    {places : List ℕ} {exempt : List Bool} {i : ℕ} {w : Wish}
    (k : Closes s orders opens (seat_rows s orders opens) claims places exempt i w) (place : ℕ)
    (at : IsSeatPlace s.dossier orders w place) (row : List (List ℕ)) (read : row ≡ get_or claims w.programme row)
    (seen : LinksRow) (is : before s orders opens ≡ seen) (was now : ℕ) (le : now ≤ length row)
    (after : List Bool) where
  fresh_right : (answer : Option ℕ) → answer ≡ last_new after was now → (n : ℕ)
      → n ≡ length s.dossier.wishes → All (λ v. v < n) (claim_at row answer)
  fresh_right None is_last n n_is = All-nil (λ v. v < n)
  fresh_right (Some next) is_last n n_is =
      let lt : next < length row = omega (arith, last_within after was now next (sym is_last), le) in
      claim_fits k w.programme (get_or (line_of s.dossier orders w.programme) next 0) (get_or row next [])
      (claim_there k row read next lt (get_or row next []) refl) n n_is

  pub fresh_fits : (claim : List ℕ) → claim ≡ claim_at row (last_new after was now) → (n : ℕ)
      → n ≡ length s.dossier.wishes → All (λ v. v < n) claim
  fresh_fits claim claim_is n n_is =
      let P = λ (ks : List ℕ). All (λ v. v < n) ks in
      subst P (sym claim_is) (fresh_right (last_new after was now) refl n n_is)

  told_by : (bars : List ℕ) (count ticked : ℕ) (old marked flags : List Bool) → flags ≡ set opens i false
      → (answer : Option ℕ) → answer ≡ last_new after was now → Moves k place at now answer
      → ticked ≡ count + count_by (is_fresh s bars flags exempt) (claim_at row answer)
      → MarksWishes s (λ x. is_among x.0 (claim_at row answer) && is_fresh s bars flags exempt x.0) old marked
      → Told seen (before s orders (set opens i false)) bars count ticked old marked
  told_by bars count ticked old marked flags flags_are None is_last moved sum marks =
      told_none s orders opens i seen is (newly_none k None moved.fresh refl) bars count ticked old marked
      (omega (arith, sum)) (λ x. is_among x.0 [] && is_fresh s bars flags exempt x.0) marks
  told_by bars count ticked old marked flags flags_are (Some next) is_last moved sum marks =
      let lt : next < length row = omega (arith, last_within after was now next (sym is_last), le) in
      told_some s orders opens exempt i w.programme (get_or (line_of s.dossier orders w.programme) next 0) seen is
      (newly_some k (Some next) moved.fresh next refl (omega (arith, lt, in_claims k row read)))
      k.links.marks_each bars (get_or row next []) (claim_there k row read next lt (get_or row next []) refl)
      flags exempt flags_are refl count ticked old marked sum marks

  pub told_front : Moves k place at now (last_new after was now) → (bars : List ℕ) (count ticked : ℕ)
      (old marked flags : List Bool) (claim : List ℕ) → flags ≡ set opens i false
      → claim ≡ claim_at row (last_new after was now)
      → ticked ≡ count + count_by (is_fresh s bars flags exempt) claim
      → MarksWishes s (λ x. is_among x.0 claim && is_fresh s bars flags exempt x.0) old marked
      → Told seen (before s orders (set opens i false)) bars count ticked old marked
  told_front moved bars count ticked old marked flags claim flags_are claim_is sum marks =
      let P = λ (ks : List ℕ). ticked ≡ count + count_by (is_fresh s bars flags exempt) ks in
      let Q = λ (ks : List ℕ). MarksWishes s (λ x. is_among x.0 ks && is_fresh s bars flags exempt x.0) old marked in
      told_by bars count ticked old marked flags flags_are (last_new after was now) refl moved
      (subst P claim_is sum) (subst Q claim_is marks)
