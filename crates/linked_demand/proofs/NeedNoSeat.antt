-- Which open wishes need no seat: those that a limit calls, and those beside a live one.
use Rattle.std.proofs.Common.{ℕ, ◌<◌, ◌≡◌, Bool, true, false, ◌&&◌, ◌||◌, List, [], get_or, filter, length}
use Rattle.std.proofs.Common.{inl, inr, Some, refl, sym, ◌∙◌, ap, arith}
use Rattle.std.specs.Prelude.{slice_get}
use Rattle.std.specs.List.{range_with_len}
use Rattle.std.proofs.lemmas.Bool.{and_right, cases_Bool}
use Rattle.std.proofs.lemmas.List.FromFn.{get_or-map-range_with_len}
use Rattle.std.proofs.lemmas.Option.{slice_get_within}
use Rattle.admit_core.proofs.Plain.{and_true}
use Rattle.admit_core.specs.declared.dossier.Wish.{Wish}
use Rattle.admit_core.specs.declared.ranking.CallOrder.{CallOrder}
use Rattle.admit_core.specs.DossierRows.{DossierRows}
use Rattle.admit_core.specs.Lists.{is_among}
use Rattle.admit_core.specs.State.{State}
use Rattle.day_state.specs.Kept.{has_seat_there, wish_in}
use Rattle.day_state.specs.Members.{waits_beside}
use Rattle.day_state.proofs.Waits.{waits_read}
use Rattle.day_state.proofs.Along.{among-filter}
use Rattle.linked_demand.specs.Fronts.{ListsAlso, exempt_open}
use Rattle.linked_demand.specs.Links.{AllOpenWait}
use Rattle.linked_demand.specs.Opens.{exempt_at, all_exempt}
use Rattle.linked_demand.specs.Seats.{is_called_by_limit, limited_wishes}
use Rattle.linked_demand.proofs.Closing.{wish_of, wish_there}
use Rattle.linked_demand.proofs.Waiting.{mark_waits}

-- whether a wish needs no seat, read from the list of all
pub exempt_read : (s : State) (limited : List Bool) (k : ℕ) → k < length s.dossier.wishes
    → get_or (all_exempt s limited) k false ≡ exempt_at s limited k
exempt_read s limited k lt =
    get_or-map-range_with_len (exempt_at s limited) 0 (length s.dossier.wishes) k k false lt (omega arith)

-- the wishes that a limit calls, of so many
pub limited_below : (d : DossierRows) (orders : List CallOrder) (n : ℕ) → n ≡ length d.wishes
    → filter (λ k. is_called_by_limit d orders (wish_in d.wishes k)) (range_with_len 0 n) ≡ limited_wishes d orders
limited_below d orders n is =
    ap (λ m. filter (λ k. is_called_by_limit d orders (wish_in d.wishes k)) (range_with_len 0 m)) is

-- what is listed of both are the open wishes that need no seat
pub exempt_listed : (s : State) → length s.marks ≡ length s.dossier.wishes
    → (orders : List CallOrder) (limited : List Bool)
    → ((i : ℕ) (w : Wish) → slice_get s.dossier.wishes i ≡ Some w
    → get_or limited i false ≡ is_called_by_limit s.dossier orders w)
    → (opens : List Bool) → AllOpenWait s opens
    → (wishes : List ℕ) → wishes ≡ limited_wishes s.dossier orders
    → (others : List ℕ) → ((k : ℕ) → is_among k others ≡ waits_beside s k) → (first now : List ℕ)
    → ListsAlso (λ k. is_among k wishes && get_or opens k false) [] first
    → ListsAlso (λ k. is_among k others && get_or opens k false) first now
    → (k : ℕ) → is_among k now ≡ exempt_open opens (all_exempt s limited) k
exempt_listed s long orders limited called opens waits wishes is others others_are first now by_limit beside k =
    beside k
    ∙ ap (λ b. b || (is_among k others && get_or opens k false)) (by_limit k)
    ∙ elim (cases_Bool (get_or opens k false)) [
      | inl opened ↦
          let d = s.dossier in
          let (w, m, at) = waits k opened in
          let here = wish_of d.wishes s.marks k w m at.here in
          let lt = slice_get_within d.wishes k w here in
          let by_number : is_among k wishes ≡ get_or limited k false =
          ap (is_among k) is
          ∙ among-filter (λ j. is_called_by_limit d orders (wish_in d.wishes j)) k (length d.wishes) lt
          ∙ sym (called k (wish_in d.wishes k) (wish_there d.wishes k (wish_in d.wishes k) lt refl)) in
          let by_bundle : is_among k others ≡ has_seat_there s k =
          others_are k
          ∙ ap (λ b. b && has_seat_there s k) (waits_read s k (omega (arith, lt, long)) ∙ mark_waits s k w m at) in
          rw (opened, by_number, by_bundle, exempt_read s limited k lt)
          (both (get_or limited k false) (has_seat_there s k))
      | inr closed ↦ rw closed (neither (is_among k wishes) (is_among k others))
    ]
  where
    both : (a b : Bool) → ((a && true) || (b && true)) ≡ (true && (a || b))
    both true b = refl
    both false b = and_true b

    neither : (a b : Bool) → ((a && false) || (b && false)) ≡ false
    neither true b = and_right b false refl
    neither false b = and_right b false refl
