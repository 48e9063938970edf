-- Those who wait before a candidate never grow in number.
use Rattle.std.proofs.Common.{ℕ, ◌≡◌, Bool, true, ◌&&◌, List, [], ◌∷◌, sym, ◌∙◌, ap, arith, nat_eq, count_by}
use Rattle.std.specs.List.{AllZip, before_first}
use Rattle.admit_core.specs.declared.dossier.Wish.{Wish}
use Rattle.admit_core.specs.declared.ranking.CallOrder.{CallOrder}
use Rattle.admit_core.specs.declared.state.Mark.{Mark}
use Rattle.admit_core.specs.DossierRows.{DossierRows}
use Rattle.admit_core.specs.Proposals.{order_of}
use Rattle.admit_core.specs.State.{State, entries, is_waiting}
use Rattle.admit_core.proofs.Tests.{count_implied}
use Rattle.std.proofs.lemmas.Bool.{and_parts}
use Rattle.campaign_laws.specs.OneMark.{HasLaterMark, IsLater, IsLaterMark}
use Rattle.campaign_laws.specs.WaitingPlace.{NoMoreWaitBefore, WaitingPlaceNeverWorsens, waits_for}
use Rattle.campaign_laws.proofs.GoneStays.{IsLaterOf, two_moments}
use Rattle.campaign_laws.proofs.Holding.{any_back}
use Rattle.campaign_laws.proofs.OneMark.{OfOneWish}

pub as_marks : (xs ys : List (Wish × Mark)) → AllZip HasLaterMark xs ys
    → AllZip (OfOneWish (λ w m n. IsLaterMark m n)) xs ys
as_marks [] [] all = tt
as_marks [] (y ∷ ys) all = absurd all
as_marks (x ∷ xs) [] all = absurd all
as_marks (x ∷ xs) (y ∷ ys) all = ((all.0.wish, all.0.mark), as_marks xs ys all.1)

abbrev waiting_of : ℕ → ℕ → Wish × Mark → Bool
waiting_of p c e = is_waiting e.1 && nat_eq e.0.candidate c && nat_eq e.0.programme p

waited_step : (p c : ℕ) (w : Wish) (m n : Mark) → IsLaterMark m n → waiting_of p c (w, n) ≡ true
    → waiting_of p c (w, m) ≡ true
waited_step p c w m n later t =
    let outer = and_parts (is_waiting n && nat_eq w.candidate c) (nat_eq w.programme p) t in
    let inner = and_parts (is_waiting n) (nat_eq w.candidate c) outer.0 in
    ap (λ (x : Mark). waiting_of p c (w, x)) (sym (later.waited inner.0)) ∙ t

-- who waits for a programme has waited for it
pub has_waited : (s t : State) (p c : ℕ) → IsLater s t → waits_for t p c ≡ true → waits_for s p c ≡ true
has_waited s t p c later waits =
    any_back (λ w m n. IsLaterMark m n) (waiting_of p c) (waiting_of p c) (waited_step p c) (entries s) (entries t)
    (as_marks (entries s) (entries t) later) waits

no_more : (orders : List CallOrder) (s t : State) → IsLaterOf s t → NoMoreWaitBefore orders s t
no_more orders s t later w =
    let p = w.programme in
    let those = λ (d : DossierRows). before_first (nat_eq w.candidate) (order_of d orders p) in
    let fewer = count_implied (waits_for t p) (waits_for s p) (λ c waits. has_waited s t p c later.1 waits)
    (those s.dossier) in
    let same : count_by (waits_for t p) (those t.dossier) ≡ count_by (waits_for t p) (those s.dossier) =
    ap (λ (d : DossierRows). count_by (waits_for t p) (those d)) later.0 in
    omega (arith, fewer, same)

pub waiting_place_never_worsens : WaitingPlaceNeverWorsens
waiting_place_never_worsens terms orders d old days new fit are i j e below lt =
    no_more orders _ _ (two_moments terms orders d old days new fit are i j e below lt)
