-- Lines of falls, tested at the present bars.
use Rattle.std.proofs.Common.{◌≡◌, ℕ, suc, ◌+◌, ◌-◌, ◌<◌, ◌≤◌, Bool, true, false, cond, not, ◌&&◌, List, length, map}
use Rattle.std.proofs.Common.{filter, Option, Some, None, refl, sym, ap, ◌∙◌, arith, nat_le, slice_index, zero-add, inl}
use Rattle.std.proofs.Common.{inr, subst}
use Rattle.std.specs.Prelude.{◌==◌, find, nat_lt, option_map, position, nat_eq, slice_get, slice_set, if◌then◌else◌}
use Rattle.std.specs.Option.{is_some, option_or}
use Rattle.std.specs.List.{range_with_len}
use Rattle.std.proofs.lemmas.Bool.{le-ltb}
use Rattle.std.proofs.lemmas.List.{length-set, length-map}
use Rattle.std.proofs.lemmas.List.Elements.{All-take}
use Rattle.std.proofs.lemmas.List.FromFn.{get_or-map-range_with_len}
use Rattle.admit_core.specs.declared.chain.CheckReason.{CheckReason}
use Rattle.admit_core.specs.declared.chain.CheckReason.TheVariants.{NotOver, WrongWishes, WrongBar}
use Rattle.admit_core.specs.declared.chain.FallLine.{FallLine}
use Rattle.admit_core.specs.declared.records.Fall.{Fall}
use Rattle.admit_core.specs.declared.ranking.CallOrder.{CallOrder}
use Rattle.admit_core.specs.State.{State, free_beds}
use Rattle.admit_core.specs.declared.state.Mark.{Mark}
use Rattle.admit_core.specs.Proposals.{demanded_ranks}
use Rattle.admit_core.specs.Boarding.{boarding, name_of}
use Rattle.admit_core.specs.Falls.{IsAtMost, FallingSystem, is_overfilled, ranks_up_to_over, fall_of}
use Rattle.admit_core.specs.Chains.{school_of_line, shows_ranks, tells_bars, line_fault}
use Rattle.admit_core.proofs.DemandLaws.{boarding_is_lawful}
use Rattle.admit_core.proofs.FallsLaw.{at_set}
use Rattle.certificate.specs.declared.stop.CheckStop.{CheckStop}
use Rattle.certificate.specs.declared.stop.CheckStop.TheVariants as stop
use Rattle.admit_core.specs.declared.dossier.School.{School}
use Rattle.dossier_check.specs.Ids.{Ids}
use Rattle.certificate.proofs.Cutting.{no_place, place_found}
use Rattle.certificate.specs.Checked.{Stops, ids_in}
use Rattle.certificate.specs.PassTests.{IsPassTest, round_of}
use Rattle.bar_fixpoint.specs.Overfilled.{rank_over}
use Rattle.bar_fixpoint.proofs.Listing.{overfilled_by_rank}
use Rattle.bar_fixpoint.proofs.OneFall.{rank_is, rank_from_one, falls_below, fall_made}
use Rattle.day_state.specs.Kept.{wish_in}
use Rattle.linked_demand.specs.Rounds.{Round, bar_each}
use Rattle.linked_demand.proofs.BarEach.{bar_each_is}
use Rattle.certificate.proofs.Naming.{IsNamed, map_back, ranks_back, all_ranks_named}

-- what three tests say of a line
line_tests : Bool → Bool → Bool → Option CheckReason
line_tests over shows tells =
    if not over then Some NotOver
    else if not shows then Some WrongWishes
    else if not tells then Some WrongBar
    else None

-- the rank that finds no bed, by the free beds of the state
pub rank_told : (s : State) (orders : List CallOrder) (ceilings bars : List ℕ) (h : ℕ) → h < length ceilings
    → rank_over (boarding s orders ceilings) bars h ≡ slice_get (demanded_ranks s orders bars h) (free_beds s h)
rank_told s orders ceilings bars h lt = ap (slice_get (demanded_ranks s orders bars h))
    (get_or-map-range_with_len (free_beds s) 0 (length ceilings) h h 0 lt (zero-add h))

-- a school is overfilled where there is such a rank
pub over_by_rank : (s : State) (orders : List CallOrder) (ceilings bars : List ℕ) (h : ℕ) (found : Option ℕ)
    → h < length ceilings
    → found ≡ slice_get (demanded_ranks s orders bars h) (free_beds s h)
    → is_overfilled (boarding s orders ceilings) bars h ≡ is_some found
over_by_rank s orders ceilings bars h found lt told =
    overfilled_by_rank (boarding s orders ceilings) bars h lt
    ∙ ap is_some (rank_told s orders ceilings bars h lt ∙ sym told)

module _ (s : State) (orders : List CallOrder) (ceilings bars : List ℕ) (line : FallLine) (h : ℕ)
    (is : school_of_line s line ≡ h) (lt : h < length ceilings) where
  sys : FallingSystem
  sys = boarding s orders ceilings

  by_tests : line_fault s orders ceilings bars line
      ≡ line_tests (is_overfilled (boarding s orders ceilings) bars h)
      (shows_ranks s orders bars h (ranks_up_to_over (boarding s orders ceilings) bars h) line.wishes)
      (tells_bars line (fall_of (boarding s orders ceilings) bars h))
  unfolding line_tests
  by_tests =
      ap (λ (k : ℕ). line_tests (is_overfilled (boarding s orders ceilings) bars k)
      (shows_ranks s orders bars k (ranks_up_to_over (boarding s orders ceilings) bars k) line.wishes)
      (tells_bars line (fall_of (boarding s orders ceilings) bars k))) is

  -- no rank finds no bed
  pub is_not_over : None ≡ slice_get (demanded_ranks s orders bars h) (free_beds s h)
      → line_fault s orders ceilings bars line ≡ Some NotOver
  unfolding line_tests
  is_not_over told = by_tests
      ∙ ap
      (λ b.
      line_tests b
      (shows_ranks s orders bars h (ranks_up_to_over (boarding s orders ceilings) bars h) line.wishes)
      (tells_bars line (fall_of (boarding s orders ceilings) bars h)))
      (over_by_rank s orders ceilings bars h None lt told)

  module _ (under : IsAtMost bars ceilings) (over : ℕ)
      (told : Some over ≡ slice_get (demanded_ranks s orders bars h) (free_beds s h)) where
    is_over : is_overfilled (boarding s orders ceilings) bars h ≡ true
    is_over = over_by_rank s orders ceilings bars h (Some over) lt told

    answered : Some over ≡ rank_over (boarding s orders ceilings) bars h
    answered = told ∙ sym (rank_told s orders ceilings bars h lt)

    pub from_one : 1 ≤ over
    from_one = rank_from_one (boarding s orders ceilings)
        (boarding_is_lawful s orders ceilings) bars h under is_over (Some over) over answered refl

    pub below : over - 1 < slice_index bars h
    below = falls_below (boarding s orders ceilings) (boarding_is_lawful s orders ceilings) bars h
        under is_over (Some over) over answered refl

    to_is : (fall_of (boarding s orders ceilings) bars h).to ≡ over - 1
    to_is =
        ap (λ r. r - 1) (sym (rank_is (boarding s orders ceilings)
        (boarding_is_lawful s orders ceilings) bars h under is_over (Some over) over answered refl))

    -- the ranks up to it are those that the fall shows
    front_is : length s.marks ≡ length s.dossier.wishes
        → filter (λ rank. nat_le rank over) (demanded_ranks s orders bars h)
        ≡ ranks_up_to_over (boarding s orders ceilings) bars h
    front_is long =
        let names = map (name_of s orders bars h)
        (filter (λ rank. nat_le rank over) (demanded_ranks s orders bars h)) in
        let made =
        fall_made (boarding s orders ceilings) (boarding_is_lawful s orders ceilings) bars h
        under is_over (Some over) over (slice_index bars h) names names answered refl refl refl
        refl in
        let rank_of = λ (k : ℕ). (wish_in s.dossier.wishes k).board_rank in
        sym (ranks_back s orders bars h over long)
        ∙ ap (λ (f : Fall). map rank_of f.wishes) made
        ∙ map_back rank_of (name_of s orders bars h) (ranks_up_to_over (boarding s orders ceilings) bars h)
        (λ k d k_in. (All-take (IsNamed s orders bars h) _ (demanded_ranks s orders bars h)
        (all_ranks_named s orders bars h long) k d k_in).1)

    module _ (long : length s.marks ≡ length s.dossier.wishes) (ranks : List ℕ) (are : ranks
        ≡ filter (λ rank. nat_le rank over) (demanded_ranks s orders bars h)) (shows : Bool)
        (shown : shows ≡ shows_ranks s orders bars h ranks line.wishes) where
      shows_is : shows_ranks s orders bars h (ranks_up_to_over (boarding s orders ceilings) bars h) line.wishes ≡ shows
      shows_is = ap (λ (rs : List ℕ). shows_ranks s orders bars h rs line.wishes) (sym (are ∙ front_is long))
          ∙ sym shown

      tests_are : (tells : Bool) → tells_bars line (fall_of (boarding s orders ceilings) bars h)
          ≡ tells → line_fault s orders ceilings bars line ≡ line_tests true shows tells
      tests_are tells told_bars =
          by_tests
          ∙ ap
          (λ b.
          line_tests b
          (shows_ranks s orders bars h (ranks_up_to_over (boarding s orders ceilings) bars h)
          line.wishes) (tells_bars line (fall_of (boarding s orders ceilings) bars h))) is_over
          ∙ ap (λ b. line_tests true b (tells_bars line (fall_of (boarding s orders ceilings) bars h))) shows_is
          ∙ ap (line_tests true shows) told_bars

      pub has_wrong_wishes : shows ≡ false → line_fault s orders ceilings bars line ≡ Some WrongWishes
      unfolding line_tests
      has_wrong_wishes fails = tests_are _ refl ∙ ap (λ b.
          line_tests true b (tells_bars line (fall_of (boarding s orders ceilings) bars h))) fails

      bars_told : (from : ℕ) (tells : Bool) → from ≡ slice_index bars h
          → tells ≡ ((line.from == from) && (line.to == over - 1))
          → tells_bars line (fall_of (boarding s orders ceilings) bars h) ≡ tells
      bars_told from tells is_from told_so =
          ap (λ (t : ℕ). (line.from == slice_index bars h) && (line.to == t)) to_is
          ∙ ap (λ (f : ℕ). (line.from == f) && (line.to == over - 1)) (sym is_from) ∙ sym told_so

      pub has_wrong_bar : (from : ℕ) (tells : Bool) → from ≡ slice_index bars h
          → tells ≡ ((line.from == from) && (line.to == over - 1)) → shows ≡ true → tells ≡ false
          → line_fault s orders ceilings bars line ≡ Some WrongBar
      unfolding line_tests
      has_wrong_bar from tells is_from told_so good fails =
          tests_are tells (bars_told from tells is_from told_so)
          ∙ ap (λ b. line_tests true b tells) good ∙ ap (line_tests true true) fails

      pub has_none : (from : ℕ) (tells : Bool) → from ≡ slice_index bars h
          → tells ≡ ((line.from == from) && (line.to == over - 1)) → shows ≡ true → tells ≡ true
          → line_fault s orders ceilings bars line ≡ None
      unfolding line_tests
      has_none from tells is_from told_so good holds =
          tests_are tells (bars_told from tells is_from told_so)
          ∙ ap (λ b. line_tests true b tells) good ∙ ap (line_tests true true) holds

-- the overfilled school of least place, place by place
from_place : (p : ℕ → Bool) (i m n : ℕ) → n ≡ suc m
    → find p (range_with_len i n) ≡ cond (p i) (Some i) (find p (range_with_len (i + 1) m))
from_place p i m n e = ap (λ (k : ℕ). find p (range_with_len i k)) e

pub none_at : (p : ℕ → Bool) (i n : ℕ) → i < n → p i ≡ false
    → find p (range_with_len i (n - i)) ≡ find p (range_with_len (i + 1) (n - (i + 1)))
none_at p i n lt fails = from_place p i (n - (i + 1)) (n - i) (omega arith)
    ∙ ap (λ b. cond b (Some i) (find p (range_with_len (i + 1) (n - (i + 1))))) fails

pub one_at : (p : ℕ → Bool) (i n : ℕ) → i < n → p i ≡ true → find p (range_with_len i (n - i)) ≡ Some i
one_at p i n lt passes = from_place p i (n - (i + 1)) (n - i) (omega arith)
    ∙ ap (λ b. cond b (Some i) (find p (range_with_len (i + 1) (n - (i + 1))))) passes

-- the school of a line, by its place in the index
pub line_place : (s : State) (index : Ids) (line : FallLine) (h : ℕ) → index ≡ ids_in s.dossier
    → position (nat_eq line.school) index.schools ≡ Some h
    → (h < length s.dossier.schools) × (school_of_line s line ≡ h)
line_place s index line h are found =
    let there = place_found (nat_eq line.school) (map (λ (x : School). x.id) s.dossier.schools) h
    (ap (λ (i : Ids). position (nat_eq line.school) i.schools) (sym are) ∙ found) in
    (omega (arith, there.0, length-map s.dossier.schools (λ (x : School). x.id)), there.1)

-- what a round tells, where its state is this
pub top_told : (told s : State) (orders : List CallOrder) (bars : List ℕ) (h : ℕ) (found : Option ℕ)
    → told ≡ s → found ≡ slice_get (demanded_ranks told orders bars h) (free_beds told h)
    → found ≡ slice_get (demanded_ranks s orders bars h) (free_beds s h)
top_told told s orders bars h found same is =
    is ∙ ap (λ (t : State). slice_get (demanded_ranks t orders bars h) (free_beds t h)) same

-- what a check of a line has found first in a round: the place of its school, and the rank there that finds no
-- bed; and the bars are at most the ceilings
pub record IsLookedUp (x : Round) (line : FallLine) (h : ℕ) (found : Option ℕ) : Type 0 where
  pub is : school_of_line x.state line ≡ h
  pub lt : h < length x.ceilings
  pub told : found ≡ slice_get (demanded_ranks x.state x.orders x.bars h) (free_beds x.state h)
  pub under : IsAtMost x.bars x.ceilings

module _ {s : State} (r : Round) {x : Round} (view : round_of s r ≡ x) where
  pub looked_up : {index : Ids} {h : ℕ} {found : Option ℕ} (line : FallLine) → IsPassTest r s index
      → position (nat_eq line.school) index.schools ≡ Some h
      → found ≡ slice_get (demanded_ranks r.state r.orders r.bars h) (free_beds r.state h)
      → IsLookedUp x line h found
  looked_up {index = index} {h = h} {found = found} line test there answered =
      let place = line_place s index line h test.index there in
      subst (λ (y : Round). IsLookedUp y line h found) view (record {
        is = place.1;
        lt = omega (arith, place.0, test.ceilings);
        told = top_told r.state s r.orders r.bars h found test.same answered;
        under = test.under;
      })

  pub bar_seen : (h from : ℕ) → from ≡ slice_index (bar_each r.ceilings r.bars) h
      → from ≡ slice_index (bar_each x.ceilings x.bars) h
  bar_seen h from is = subst (λ (y : Round). from ≡ slice_index (bar_each y.ceilings y.bars) h) view is

-- what it has found then: the ranks up to that one, and whether the wishes of the line show them
pub record AreShown (x : Round) (line : FallLine) (h over : ℕ) (ranks : List ℕ) (shows : Bool) : Type 0 where
  pub long : length x.state.marks ≡ length x.state.dossier.wishes
  pub are : ranks ≡ filter (λ rank. nat_le rank over) (demanded_ranks x.state x.orders x.bars h)
  pub shown : shows ≡ shows_ranks x.state x.orders x.bars h ranks line.wishes

pub are_shown : {s : State} {x : Round} {marks : List Mark} {ranks wishes : List ℕ} {shows : Bool} (r : Round)
    (view : round_of s r ≡ x) (line : FallLine) (h over : ℕ)
    → marks ≡ s.marks → length marks ≡ length s.dossier.wishes
    → ranks ≡ filter (λ rank. nat_le rank over) (demanded_ranks x.state x.orders x.bars h)
    → wishes ≡ line.wishes → shows ≡ shows_ranks x.state x.orders x.bars h ranks wishes
    → AreShown x line h over ranks shows
are_shown {x = x} {ranks = ranks} r view line h over marks_are long are named shown =
    record {
      long = subst (λ (y : Round). length y.state.marks ≡ length y.state.dossier.wishes) view
          (ap (λ (ms : List Mark). length ms) (sym marks_are) ∙ long);
      are = are;
      shown = shown ∙ ap (λ (ws : List ℕ). shows_ranks x.state x.orders x.bars h ranks ws) named;
    }

-- the fault of a line, with its row
abbrev fault_there : Round → FallLine → Option (ℕ × CheckReason)
fault_there x line =
    option_map (λ reason. (line.row, reason)) (line_fault x.state x.orders x.ceilings x.bars line)

module _ {x : Round} {line : FallLine} {h : ℕ} where
  pub stops_not_over : IsLookedUp x line h None → fault_there x line ≡ Some (line.row, NotOver)
  stops_not_over seen =
      ap (option_map (λ (reason : CheckReason). (line.row, reason)))
      (is_not_over x.state x.orders x.ceilings x.bars line h seen.is seen.lt seen.told)

  module _ {over : ℕ} (seen : IsLookedUp x line h (Some over)) where
    pub school_over : is_overfilled (boarding x.state x.orders x.ceilings) x.bars (school_of_line x.state line) ≡ true
    school_over = ap (is_overfilled (boarding x.state x.orders x.ceilings) x.bars) seen.is
        ∙ is_over x.state x.orders x.ceilings x.bars line h seen.is seen.lt seen.under over seen.told

    pub over_from_one : 1 ≤ over
    over_from_one = from_one x.state x.orders x.ceilings x.bars line h seen.is seen.lt seen.under over seen.told

    pub over_below : over - 1 < slice_index x.bars h
    over_below = below x.state x.orders x.ceilings x.bars line h seen.is seen.lt seen.under over seen.told

    module _ {ranks : List ℕ} {shows : Bool} (shown : AreShown x line h over ranks shows) where
      pub stops_wrong_wishes : shows ≡ false → fault_there x line ≡ Some (line.row, WrongWishes)
      stops_wrong_wishes fails =
          ap (option_map (λ (reason : CheckReason). (line.row, reason)))
          (has_wrong_wishes x.state x.orders x.ceilings x.bars line h seen.is seen.lt seen.under over seen.told
          shown.long ranks shown.are shows shown.shown fails)

      module _ {from : ℕ} {tells : Bool} (from_is : from ≡ slice_index (bar_each x.ceilings x.bars) h)
          (told : tells ≡ ((line.from == from) && (line.to == over - 1))) (good : shows ≡ true) where
        from_there : from ≡ slice_index x.bars h
        from_there = from_is ∙ ap (λ (bs : List ℕ). slice_index bs h)
            (bar_each_is x.ceilings x.bars seen.under.as_many)

        pub stops_wrong_bar : tells ≡ false → fault_there x line ≡ Some (line.row, WrongBar)
        stops_wrong_bar fails =
            ap (option_map (λ (reason : CheckReason). (line.row, reason)))
            (has_wrong_bar x.state x.orders x.ceilings x.bars line h seen.is seen.lt seen.under over seen.told
            shown.long ranks shown.are shows shown.shown from tells from_there told good fails)

        pub passes_line : tells ≡ true → fault_there x line ≡ None
        passes_line holds =
            ap (option_map (λ (reason : CheckReason). (line.row, reason)))
            (has_none x.state x.orders x.ceilings x.bars line h seen.is seen.lt seen.under over seen.told
            shown.long ranks shown.are shows shown.shown from tells from_there told good holds)

-- no school has the id of the line
pub stops_unknown : (x : Round) (index : Ids) (line : FallLine) → index ≡ ids_in x.state.dossier
    → length x.ceilings ≡ length x.state.dossier.schools → position (nat_eq line.school) index.schools ≡ None
    → fault_there x line ≡ Some (line.row, NotOver)
unfolding line_tests
stops_unknown x index line are as_many none =
    let s = x.state in
    let sys = boarding s x.orders x.ceilings in
    let h = school_of_line s line in
    let past = no_place (nat_eq line.school) (map (λ (school : School). school.id) s.dossier.schools)
    (ap (λ (i : Ids). position (nat_eq line.school) i.schools) (sym are) ∙ none) in
    let beyond : length x.ceilings ≤ h =
    omega (arith, past, as_many, length-map s.dossier.schools (λ (school : School). school.id)) in
    let idle : is_overfilled sys x.bars h ≡ false =
    ap (λ (b : Bool). b && nat_lt (slice_index sys.free h) (length (sys.ranks x.bars h)))
    (le-ltb h (length x.ceilings) beyond) in
    ap (λ (b : Bool). option_map (λ (reason : CheckReason). (line.row, reason))
    (line_tests b (shows_ranks s x.orders x.bars h (ranks_up_to_over sys x.bars h) line.wishes)
    (tells_bars line (fall_of sys x.bars h)))) idle

-- a fault at a line, or none there
pub stops_at : (found : CheckStop) (fault rest all : Option (ℕ × CheckReason)) → all ≡ option_or fault rest
    → Stops found fault → Stops found all
stops_at stop.OutOfMemory fault rest all is stops = tt
stops_at (stop.Rejected told) fault rest all is stops = is ∙ ap (λ o. option_or o rest) stops

pub goes_on : (fault rest all : Option (ℕ × CheckReason)) → all ≡ option_or fault rest → fault ≡ None → all ≡ rest
goes_on fault rest all is none = is ∙ ap (λ o. option_or o rest) none

-- a bar that falls stays under its ceiling
pub falls_under : (bars ceilings : List ℕ) (h to : ℕ) → IsAtMost bars ceilings → h < length bars
    → to < slice_index bars h → IsAtMost (slice_set bars h to) ceilings
falls_under bars ceilings h to under lt below = record {
  as_many = length-set bars h to ∙ under.as_many;
  each = λ i. elim (at_set bars h to i lt) [
    | inl here ↦ let u = under.each i in let e = here.1 in let same : slice_index bars i
        ≡ slice_index bars h = ap (slice_index bars) here.0 in omega arith
    | inr other ↦ let u = under.each i in omega arith
  ];
}
