-- In a stable matching of automatic days a programme refuses a candidate who has nothing as good only if it is full.
use Rattle.std.proofs.Common.{ℕ, ◌<◌, ◌≤◌, ◌≡◌, Bool, true, false, not, ◌&&◌, ◌||◌, List, [], length, get_or, inl, inr}
use Rattle.std.proofs.Common.{refl, sym, ◌∙◌, ap, subst, arith, nat_eq, nat_lt}
use Rattle.std.specs.Prelude.{nat_le}
use Rattle.std.proofs.lemmas.Bool.{and_from, and_parts, and_cases, both_ways, cases_order, eq-eqb, eqb-true, false≢true}
use Rattle.std.proofs.lemmas.Bool.{false_from_ne_true, le-leb, lt-ltb, ltb-false, ltb-true, not_from_false, or_parts}
use Rattle.std.proofs.lemmas.List.{get_or_default}
use Rattle.std.proofs.lemmas.List.Folds.{Any-from_list_any, list_any_at}
use Rattle.std.proofs.lemmas.Slice.Zip.{get_or-zip}
use Rattle.admit_core.specs.declared.dossier.Wish.{Wish}
use Rattle.admit_core.specs.declared.ranking.CallOrder.{CallOrder}
use Rattle.admit_core.specs.declared.state.Mark.{Mark}
use Rattle.admit_core.specs.Blocking.{behind, envied, has_better, has_envy, is_blocking, is_missed, lacks_school}
use Rattle.admit_core.specs.Blocking.{wants_more}
use Rattle.admit_core.specs.CallOrder.{AreCallOrders}
use Rattle.admit_core.specs.DossierRows.{DossierRows, seats_of}
use Rattle.admit_core.specs.Lists.{is_among}
use Rattle.admit_core.specs.State.{State, entries, holds_seat, is_live, seat_holders, seats_left}
use Rattle.admit_core.specs.Validity.{IsValid}
use Rattle.admit_core.proofs.ClosedEvenings.{among_filter}
use Rattle.admit_core.proofs.Tests.{any_implied}
use Rattle.campaign_laws.specs.AutomaticDay.{IsAllAutomatic, IsStable, NotBothLive, has_as_good}
use Rattle.campaign_laws.proofs.Matchings.{StandsAt, mark_of, no_school, nobody_last, none_placed, one_wish, prefers}
use Rattle.campaign_laws.proofs.Matchings.{stands}

-- a wish whose candidate the matching gives nothing as good does not block it: its programme is
-- full, and nobody behind them is live there
pub record IsRefusedThere (orders : List CallOrder) (d : DossierRows) (m : State) (w : Wish) : Type 0 where
  pub not_live : holds_seat m w.candidate w.programme ≡ false
  pub full : seats_of d w.programme ≤ length (seat_holders m w.programme)
  pub nobody_behind : (x : ℕ) → is_among x (behind m orders w) ≡ true → holds_seat m x w.programme ≡ true → ⊥

module _ (orders : List CallOrder) (d : DossierRows) (m : State) (valid : IsValid d)
    (called : AreCallOrders d.groups orders) (auto : IsAllAutomatic d) (stable : IsStable orders d m) where
  -- the mark of the matching at a place
  mark_there : (k : ℕ) (w : Wish) → StandsAt d k w
      → (x : Mark) × (k < length (entries m)) × (get_or (entries m) k (w, x) ≡ (w, x))
  mark_there k w at = mark_of d m stable.matching.dossier stable.matching.marked k w at

  -- in the matching a candidate has no two live wishes
  pub only_live : (i j : ℕ) (e f : Wish × Mark) → i < length (entries m) → j < length (entries m)
      → get_or (entries m) i e ≡ e → get_or (entries m) j f ≡ f
      → e.0.candidate ≡ f.0.candidate → is_live e.1 ≡ true → is_live f.1 ≡ true → i ≡ j
  only_live i j e f i_lt j_lt at_i at_j same e_live f_live =
      elim (cases_order i j) [
        | inl is ↦ is
        | inr other ↦ elim other [
          | inl below ↦
              let pair = stable.matching.one_each i j e below j_lt in
              let second : get_or (entries m) j e ≡ f = get_or_default (entries m) j e f j_lt ∙ at_j in
              absurd (both_ways (is_live f.1)
              ((subst (λ (y : Wish × Mark). NotBothLive e y) second
              (subst (λ (y : Wish × Mark). NotBothLive y (get_or (entries m) j e)) at_i pair)) same e_live) f_live)
          | inr above ↦
              let pair = stable.matching.one_each j i f above i_lt in
              let second : get_or (entries m) i f ≡ e = get_or_default (entries m) i f e i_lt ∙ at_i in
              absurd (both_ways (is_live e.1)
              ((subst (λ (y : Wish × Mark). NotBothLive f y) second
              (subst (λ (y : Wish × Mark). NotBothLive y (get_or (entries m) i f)) at_j pair)) (sym same) f_live)
              e_live)
        ]
      ]

  pub refused_there : (k : ℕ) (w : Wish) → StandsAt d k w → has_as_good m w.candidate w.preference ≡ false
      → IsRefusedThere orders d m w
  refused_there k w at nothing =
      let c = w.candidate in
      let p = w.programme in
      let (x, lt, here) = mark_there k w at in
      let as_good : Wish × Mark → Bool = λ e. is_live e.1 && nat_eq e.0.candidate c && nat_le e.0.preference
      w.preference in
      let not_live : is_live x ≡ false = false_from_ne_true (is_live x) (λ live.
      let passes : as_good (w, x) ≡ true = and_from (is_live x && nat_eq c c) (nat_le w.preference w.preference)
      (and_from (is_live x) (nat_eq c c) live (eq-eqb c c refl)) (le-leb w.preference w.preference (omega arith)) in
      both_ways (has_as_good m c w.preference) nothing
      (list_any_at as_good (entries m) k (w, x) lt (rw here passes))) in
      let x_at : x ≡ get_or m.marks k x =
      sym (ap (λ (e : Wish × Mark). e.1)
      (sym (get_or-zip m.dossier.wishes m.marks k (w, x) (rw stable.matching.dossier at.within)
      (rw stable.matching.marked at.within)) ∙ here)) in
      let given : (is_live x || is_missed x.status) ≡ true = subst
      (λ (y : Mark). (is_live y || is_missed y.status) ≡ true) (sym x_at)
      (stable.matching.given_up k x (rw stable.matching.marked at.within)) in
      let missed : is_missed x.status ≡ true = rw not_live at given in
      let no_seat : holds_seat m c p ≡ false = false_from_ne_true (holds_seat m c p) (λ held.
      let (j, e, j_lt, e_at, lives) =
      Any-from_list_any (λ (e : Wish × Mark). is_live e.1 && nat_eq e.0.candidate c && nat_eq e.0.programme p)
      (entries m) held in
      let outer = and_parts (is_live e.1 && nat_eq e.0.candidate c) (nat_eq e.0.programme p) lives in
      let inner = and_parts (is_live e.1) (nat_eq e.0.candidate c) outer.0 in
      let same = one_wish d valid auto j k e.0 w
      (stands m d stable.matching.dossier j e j_lt e_at) at (eqb-true e.0.candidate c inner.1)
      (eqb-true e.0.programme p outer.1) in
      let is : e ≡ (w, x) = sym e_at ∙ ap (λ i. get_or (entries m) i e) same
      ∙ get_or_default (entries m) k e (w, x) lt ∙ here in
      both_ways (is_live x) not_live (ap (λ (y : Wish × Mark). is_live y.1) (sym is) ∙ inner.0)) in
      let none_better : has_better m w ≡ false = false_from_ne_true (has_better m w) (λ has.
      both_ways (has_as_good m c w.preference) nothing
      (any_implied (λ (e : Wish × Mark). is_live e.1 && nat_eq e.0.candidate c && nat_lt e.0.preference
      w.preference) as_good
      (λ e t.
      let outer = and_parts (is_live e.1 && nat_eq e.0.candidate c) (nat_lt e.0.preference w.preference) t in
      let lt_there = ltb-true e.0.preference w.preference outer.1 in
      and_from (is_live e.1 && nat_eq e.0.candidate c) (nat_le e.0.preference w.preference) outer.0
      (le-leb e.0.preference w.preference (omega (arith, lt_there)))) (entries m) has)) in
      let lacks : lacks_school w.school ≡ true = rw (no_school d valid auto k w at) refl in
      let ranks : nat_lt 0 w.preference ≡ true = lt-ltb 0 w.preference (prefers d valid auto k w at) in
      let wants : wants_more m w x ≡ true =
      and_from (lacks_school w.school && nat_lt 0 w.preference && is_missed x.status && not (holds_seat m c p))
      (not (has_better m w))
      (and_from (lacks_school w.school && nat_lt 0 w.preference && is_missed x.status) (not (holds_seat m c p))
      (and_from (lacks_school w.school && nat_lt 0 w.preference) (is_missed x.status)
      (and_from (lacks_school w.school) (nat_lt 0 w.preference) lacks ranks) missed)
      (not_from_false (holds_seat m c p) no_seat)) (not_from_false (has_better m w) none_better) in
      let blocks_not : is_blocking m orders w x ≡ false = ap (λ (e : Wish × Mark). is_blocking m orders e.0 e.1)
      (sym here)
      ∙ none_placed (λ (e : Wish × Mark). is_blocking m orders e.0 e.1) 0 (entries m) stable.stable k (w, x) lt in
      let neither : (nat_lt 0 (seats_left m p) || has_envy m orders w) ≡ false =
      elim (and_cases (wants_more m w x) (nat_lt 0 (seats_left m p) || has_envy m orders w) blocks_not) [
        | inl no_wish ↦ absurd (both_ways (wants_more m w x) no_wish wants)
        | inr none ↦ none
      ] in
      let parts = or_parts (nat_lt 0 (seats_left m p)) (has_envy m orders w) neither in
      let full = ltb-false 0 (seats_left m p) parts.0 in
      let seats : seats_of m.dossier p ≡ seats_of d p = ap (λ (y : DossierRows). seats_of y p)
      stable.matching.dossier in
      let none_envied : envied m orders w ≡ [] = nobody_last (envied m orders w) parts.1 in
      record {
        not_live = no_seat;
        full = omega (arith, full, seats);
        nobody_behind =
            λ y among held. false≢true
            (sym (ap (is_among y) none_envied) ∙ among_filter (λ z. holds_seat m z p) y (behind m orders w) among held);
      }
