-- The walk along the wishes that are called for a programme, claim by claim.
use Rattle.std.proofs.Common.{ℕ, zero, suc, ◌+◌, ◌-◌, ◌≤◌, ◌<◌, ◌≡◌, Bool, List, [], ◌∷◌, ◌++◌, map, length, take, drop}
use Rattle.std.proofs.Common.{get_or, refl, sym, ◌∙◌, ap, arith, nat_eq, nat_lt, Some, subst}
use Rattle.std.specs.Prelude.{slice_get, unwrap_or, Option, All}
use Rattle.std.proofs.lemmas.Option.{unwrap_or-slice_get}
use Rattle.std.specs.List.{IsDistinct}
use Rattle.std.proofs.lemmas.List.{drop-take, get_or-map, length-append, length-map, take_all}
use Rattle.std.proofs.lemmas.List.{take_more, take_rest}
use Rattle.admit_core.specs.declared.ranking.CallOrder.{CallOrder}
use Rattle.admit_core.specs.DossierRows.{DossierRows, limit_of}
use Rattle.day_state.specs.declared.spans.Span.{Span}
use Rattle.day_state.specs.Kept.{HoldsOneKey}
use Rattle.day_state.specs.Spans.{IsWithin, part_of}
use Rattle.day_state.proofs.Runs.{IsRunSoFar, run_more}
use Rattle.linked_demand.specs.declared.calling.CalledWish.{CalledWish}
use Rattle.linked_demand.specs.Called.{before_at, called_for}
use Rattle.linked_demand.specs.CalledWishes.{IsFrontOf, called_wishes_for, numbers_before, places_of}
use Rattle.linked_demand.specs.Ends.{last_end, spans_from, spans_in}
use Rattle.linked_demand.specs.Links.{claim_of}
use Rattle.linked_demand.specs.Notes.{IsNoted, Noted}
use Rattle.linked_demand.specs.Opens.{line_of}
use Rattle.linked_demand.specs.Seats.{AreSeated, is_below, is_passed}
use Rattle.linked_demand.proofs.CalledRows.{shown_before, shown_places}
use Rattle.linked_demand.proofs.Lined.{IsLined, lined_all, lined_more, lined_none, part_read, spans_fit}

-- SPANS by their ends
pub length-spans : (a : ℕ) (ends : List ℕ) → length (spans_from a ends) ≡ length ends
unfolding spans_from
length-spans a [] = refl
length-spans a (e ∷ es) = ap suc (length-spans e es)

spans_more : (a : ℕ) (ends : List ℕ) (e : ℕ)
    → spans_from a (ends ++ e ∷ []) ≡ spans_from a ends ++ record { from = last_end a ends; to = e } ∷ []
unfolding spans_from last_end
spans_more a [] e = refl
spans_more a (x ∷ xs) e = ap (λ (l : List Span). record { from = a; to = x } ∷ l) (spans_more x xs e)

last_more : (a : ℕ) (ends : List ℕ) (e : ℕ) → last_end a (ends ++ e ∷ []) ≡ e
unfolding last_end
last_more a [] e = refl
last_more a (x ∷ xs) e = last_more x xs e

-- each begins where the one before it ends
pub span_there : (a : ℕ) (ends : List ℕ) (k : ℕ) → k < length ends
    → slice_get (spans_from a ends) k ≡ Some (record { from = get_or (a ∷ ends) k 0; to = get_or ends k 0 })
unfolding spans_from
span_there a [] k lt = absurd (omega (arith, lt))
span_there a (e ∷ es) zero lt = refl
span_there a (e ∷ es) (suc k) lt = span_there e es k (omega (arith, lt))

-- the bounds of the part at a place
pub span_within : (bounds : List ℕ) (k : ℕ) → k + 1 < length bounds
    → slice_get (spans_in bounds) k ≡ Some (record { from = get_or bounds k 0; to = get_or bounds (k + 1) 0 })
unfolding spans_in
span_within [] k lt = absurd (omega (arith, lt))
span_within (a ∷ ends) k lt =
    let next : suc k ≡ k + 1 = omega arith in
    span_there a ends k (omega (arith, lt))
    ∙ ap (λ j. Some (record { from = get_or (a ∷ ends) k 0; to = get_or (a ∷ ends) j 0 })) next

-- there is a bound more than parts
spans_of_bounds : (bounds : List ℕ) → length (spans_in bounds) ≡ length bounds - 1
unfolding spans_in
spans_of_bounds [] = omega arith
spans_of_bounds (a ∷ ends) = omega (arith, length-spans a ends)

-- the part that is lent of a list of parts
pub part_lent : (wishes bounds : List ℕ) {parts : List (List ℕ)} (k : ℕ) {span : Span}
    → All (IsWithin (length wishes)) (spans_in bounds) → map (part_of wishes) (spans_in bounds) ≡ parts
    → k + 1 < length bounds → Some span ≡ slice_get (spans_in bounds) k
    → IsWithin (length wishes) span × (part_of wishes span ≡ get_or parts k [])
part_lent wishes bounds {parts} k {span} within are lt is =
    let spans = spans_in bounds in
    let there : k < length spans = omega (arith, lt, spans_of_bounds bounds) in
    let here : get_or spans k span ≡ span =
    sym (unwrap_or-slice_get spans k span) ∙ ap (λ (o : Option Span). unwrap_or o span) (sym is) in (
      subst (IsWithin (length wishes)) here (within k span there),
      ap (part_of wishes) (sym here) ∙ sym (get_or-map (part_of wishes) spans k span [] there)
          ∙ ap (λ (l : List (List ℕ)). get_or l k []) are,
    )

pub many_parts : (wishes bounds : List ℕ) {parts : List (List ℕ)} → map (part_of wishes) (spans_in bounds) ≡ parts
    → length parts ≡ length bounds - 1
many_parts wishes bounds are =
    ap (λ (l : List (List ℕ)). length l) (sym are) ∙ length-map (spans_in bounds) (part_of wishes)
    ∙ spans_of_bounds bounds

-- a wish that is read past the end
abbrev pub nobody : CalledWish
nobody = record { wish = 0; before = 0 }

-- a wish more is taken over
pub front_more : (called : List CalledWish) (wishes new : List ℕ) (i : ℕ) → IsFrontOf called wishes
    → length wishes < length called → i ≡ length wishes → new ≡ wishes ++ (get_or called i nobody).wish ∷ []
    → IsFrontOf called new
front_more called wishes new i front lt i_is is =
    let n = length wishes in
    let wish = λ (x : CalledWish). x.wish in
    let next = get_or called i nobody in
    let long : length new ≡ n + 1 = ap length is ∙ length-append wishes (next.wish ∷ []) in
    let in_places : n < length (places_of called) = omega (arith, lt, length-map called wish) in
    let read : next.wish ≡ get_or (places_of called) n 0 =
    ap (λ k. (get_or called k nobody).wish) i_is ∙ sym (get_or-map wish called n nobody 0 lt) in
    record {
      within = omega (arith, long, lt);
      are =
          is ∙ ap (λ (l : List ℕ). l ++ next.wish ∷ []) front.are
          ∙ ap (λ k. take n (places_of called) ++ k ∷ []) read
          ∙ sym (take_more (places_of called) n 0 in_places)
          ∙ ap (λ k. take k (places_of called)) (sym long);
    }

-- and as many stand before it
pub taken_more : (called : List CalledWish) (from : ℕ) (wishes new : List ℕ) (first i x : ℕ)
    → IsRunSoFar (λ k. k) (numbers_before called) from (length wishes)
    → length wishes < length called → first ≡ from → i ≡ length wishes → new ≡ wishes ++ x ∷ []
    → (get_or called i nobody).before ≡ (get_or called first nobody).before
    → IsRunSoFar (λ k. k) (numbers_before called) from (length new)
taken_more called from wishes new first i x run lt first_is i_is is same =
    let before = λ (y : CalledWish). y.before in
    let n = length wishes in
    let long : length new ≡ n + 1 = ap length is ∙ length-append wishes (x ∷ []) in
    let P = λ (k : ℕ). IsRunSoFar (λ k. k) (numbers_before called) from k in
    subst P (sym long) (run_more (λ k. k) (numbers_before called) from n run
    (omega (arith, lt, length-map called before))
    (get_or-map before called n nobody 0 lt ∙ ap (λ k. before (get_or called k nobody)) (sym i_is) ∙ same
    ∙ ap (λ k. before (get_or called k nobody)) first_is
    ∙ sym (get_or-map before called from nobody 0 (omega (arith, run.further, lt)))))

-- what is lent of a list from a place on
pub rest_read : (read next : List ℕ) (from n : ℕ) → read ≡ next → from ≡ n
    → take (length read - from) (drop from read) ≡ drop n next
rest_read read next from n read_is from_is =
    take_rest read from ∙ ap (λ k. drop k read) from_is ∙ ap (drop n) read_is

-- how far the walk is
pub record IsWalked (d : DossierRows) (orders : List CallOrder) (p : ℕ) (called : List CalledWish)
    (wishes ends : List ℕ) (notes : Noted) : Type 0 where
  pub front : IsFrontOf called wishes
  pub ends_there : last_end 0 ends ≡ length wishes
  pub lined : IsLined d orders p (places_of called) (length wishes) (spans_from 0 ends) notes

-- and the bounds of the claims
pub record IsWalkedBy (d : DossierRows) (orders : List CallOrder) (p : ℕ) (called : List CalledWish)
    (wishes bounds : List ℕ) (notes : Noted) : Type 0 where
  pub ends : List ℕ
  pub bounds_are : bounds ≡ 0 ∷ ends
  pub walked : IsWalked d orders p called wishes ends notes

pub walked_none : (d : DossierRows) (orders : List CallOrder) (p : ℕ) (called : List CalledWish)
    (wishes bounds : List ℕ) (notes : Noted) → wishes ≡ [] → bounds ≡ 0 ∷ [] → AreSeated d orders (is_below p) notes
    → IsWalkedBy d orders p called wishes bounds notes
unfolding spans_from last_end
walked_none d orders p called wishes bounds notes no_wish bounds_are seated =
    let P = λ (ws : List ℕ). IsWalked d orders p called ws [] notes in
    record {
      ends = [];
      bounds_are = bounds_are;
      walked = subst P (sym no_wish) (record {
        front = record { within = omega arith; are = refl };
        ends_there = refl;
        lined = lined_none d orders p (places_of called) [] notes refl seated;
      });
    }

module _ (d : DossierRows) (orders : List CallOrder) (p : ℕ) (called : List CalledWish)
    (is : called ≡ called_wishes_for d orders p) (once : IsDistinct nat_eq (line_of d orders p)) where
  places_are : places_of called ≡ called_for d orders p
  places_are = ap places_of is ∙ shown_places d orders (called_for d orders p)

  before_are : numbers_before called ≡ map (before_at d orders) (places_of called)
  before_are = ap numbers_before is ∙ shown_before d orders (called_for d orders p)
      ∙ ap (map (before_at d orders)) (sym places_are)

  many_places : length (places_of called) ≡ length called
  many_places = length-map called (λ (x : CalledWish). x.wish)

  many_numbers : length (numbers_before called) ≡ length called
  many_numbers = length-map called (λ (x : CalledWish). x.before)

  module _ {wishes ends : List ℕ} {notes : Noted} (walked : IsWalked d orders p called wishes ends notes)
      (left : length wishes < length called) where
    left_places : length wishes < length (places_of called)
    left_places = omega (arith, left, many_places)

    -- there are no more claims than wishes
    pub few_ends : length ends ≤ length wishes
    few_ends =
        omega (
          arith,
          length-spans 0 ends,
          spans_fit d orders p (places_of called) (numbers_before called) places_are before_are once
              (length wishes) (spans_from 0 ends) notes walked.lined left_places,
        )

    module _ {next : List ℕ} (front : IsFrontOf called next) (further : length wishes < length next)
        (run : HoldsOneKey (λ k. k) (numbers_before called) (length wishes) (length next)) where
      abbrev span : Span
      span = record { from = length wishes; to = length next }

      taken : drop (length wishes) next ≡ part_of (places_of called) span
      taken =
          let n = length wishes in
          let m = length next - n in
          let long : length next ≡ n + m = omega (arith, further) in
          ap (drop n) (front.are ∙ ap (λ k. take k (places_of called)) long) ∙ drop-take n m (places_of called)

      -- what is taken over is a claim
      pub claim_taken : drop (length wishes) next
          ≡ claim_of d p (get_or (line_of d orders p) (length (spans_from 0 ends)) 0)
      claim_taken =
          taken
          ∙ part_read d orders p (places_of called) (numbers_before called) places_are before_are once
          (length wishes) (length next) span (spans_from 0 ends) notes walked.lined left_places further
          (omega (arith, front.within, many_numbers)) run refl refl

      pub walked_more : (more : List ℕ) (new : Noted) (place : ℕ) (is_called : Bool) (i : ℕ)
          → more ≡ ends ++ length next ∷ [] → place ≡ length ends → i ≡ length wishes
          → is_called ≡ nat_lt (get_or called i nobody).before (limit_of d p)
          → IsNoted (drop (length wishes) next) place is_called notes new
          → IsWalked d orders p called next more new
      walked_more more new place is_called i more_is place_is i_is called_is noted =
          let Q = λ (ks : List ℕ). IsNoted ks place is_called notes new in
          let read : (get_or called i nobody).before ≡ get_or (numbers_before called) (length wishes) 0 =
          ap (λ k. (get_or called k nobody).before) i_is
          ∙ sym (get_or-map (λ (x : CalledWish). x.before) called (length wishes) nobody 0 left) in
          let begins : span ≡ record { from = last_end 0 ends; to = length next } =
          ap (λ n. record { from = n; to = length next }) (sym walked.ends_there) in
          record {
            front = front;
            ends_there = ap (last_end 0) more_is ∙ last_more 0 ends (length next);
            lined = lined_more d orders p (places_of called) (numbers_before called) places_are before_are once
                (length wishes) (length next) span (spans_from 0 ends) (spans_from 0 more) notes new place is_called
                walked.lined left_places further (omega (arith, front.within, many_numbers)) run refl refl
                (ap (spans_from 0) more_is ∙ spans_more 0 ends (length next)
                ∙ ap (λ (x : Span). spans_from 0 ends ++ x ∷ []) (sym begins))
                (place_is ∙ sym (length-spans 0 ends))
                (called_is ∙ ap (λ n. nat_lt n (limit_of d p)) read)
                (subst Q taken noted);
          }

  -- the claims that are found are those before the last bound
  pub found_before : {wishes bounds : List ℕ} {notes : Noted} (by : IsWalkedBy d orders p called wishes bounds notes)
      → length bounds ≡ length by.ends + 1
  found_before by = omega (arith, ap length by.bounds_are)

  -- at the end all are taken over
  pub all_taken : {wishes ends : List ℕ} {notes : Noted} → IsWalked d orders p called wishes ends notes
      → length called ≤ length wishes → wishes ≡ places_of called
  all_taken {wishes} walked le =
      walked.front.are ∙ take_all (length wishes) (places_of called) (omega (arith, le, many_places))

  pub walked_all : {wishes bounds : List ℕ} {notes : Noted} → IsWalkedBy d orders p called wishes bounds notes
      → length called ≤ length wishes
      → (map (part_of wishes) (spans_in bounds) ≡ map (claim_of d p) (line_of d orders p))
      × AreSeated d orders (is_passed p (line_of d orders p)) notes
  unfolding spans_in
  walked_all {wishes} {bounds} {notes} by le =
      let walked = by.walked in
      let spans = spans_from 0 by.ends in
      let done = lined_all d orders p (places_of called) (numbers_before called) places_are before_are once
      (length wishes) spans notes walked.lined (omega (arith, le, many_places)) in (
        ap (λ (bs : List ℕ). map (part_of wishes) (spans_in bs)) by.bounds_are
            ∙ ap (λ (ws : List ℕ). map (part_of ws) spans) (all_taken walked le) ∙ done.0,
        done.1,
      )

  pub bounds_within : {wishes bounds : List ℕ} {notes : Noted} → IsWalkedBy d orders p called wishes bounds notes
      → length called ≤ length wishes → All (IsWithin (length wishes)) (spans_in bounds)
  unfolding spans_in
  bounds_within {wishes} {bounds} by le =
      let P = λ (ws : List ℕ). All (IsWithin (length ws)) (spans_from 0 by.ends) in
      let Q = λ (bs : List ℕ). All (IsWithin (length wishes)) (spans_in bs) in
      subst Q (sym by.bounds_are) (subst P (sym (all_taken by.walked le)) by.walked.lined.within)
