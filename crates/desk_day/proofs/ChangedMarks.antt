-- What the automatic answers after a pass changed can be told from the pass's opening.
use Rattle.std.proofs.Common.{ℕ, ◌+◌, ◌≡◌, Bool, true, false, not, List, [], ◌∷◌, map, inl, inr, refl, ap, filter, zip}
use Rattle.std.proofs.Common.{Option, Some, None, nat_lt}
use Rattle.std.specs.Prelude.{◌==◌, if◌then◌else◌}
use Rattle.std.specs.List.{enumerate_from}
use Rattle.std.proofs.lemmas.Bool.{cases_Bool, eq-eqb}
use Rattle.admit_core.specs.declared.ranking.CallOrder.{CallOrder}
use Rattle.admit_core.specs.declared.dossier.Wish.{Wish}
use Rattle.admit_core.specs.declared.state.Status.{Status}
use Rattle.admit_core.specs.declared.state.Status.TheVariants.{Waiting, Offered, Accepted, Refused, Withdrawn, Quit}
use Rattle.admit_core.specs.declared.state.Status.TheVariants.{AutoRefused, AutoWithdrawn, Lapsed}
use Rattle.admit_core.specs.declared.state.Mark.{Mark}
use Rattle.admit_core.specs.declared.state.Stamp.{Stamp}
use Rattle.admit_core.specs.declared.state.Change.{Change}
use Rattle.admit_core.specs.State.{State, is_waiting, status_number, changed_to}
use Rattle.admit_core.specs.Proposals.{is_proposed}
use Rattle.admit_core.specs.AutoAnswer.{auto_mark, auto_status, best_live}
use Rattle.admit_core.proofs.Statuses.{changed_status, status_of_auto, waiting_is}
use Rattle.admit_core.specs.Days.{offered, closing, changes}
use Rattle.desk_day.specs.Changes.{is_answered_change, answered_changes}

number_same : (n : ℕ) → (n == n) ≡ true
number_same n = eq-eqb n n refl

-- an automatic answer on its own
alone : (x : Status) (best worse : Bool)
    → not (status_number x == status_number (auto_status x best worse))
    ≡ is_answered_change x (auto_status x best worse)
alone Waiting best true = refl
alone Waiting best false = refl
alone Offered true worse = refl
alone Offered false worse = refl
alone Accepted true worse = refl
alone Accepted false worse = refl
alone Refused best worse = refl
alone Withdrawn best worse = refl
alone Quit best worse = refl
alone AutoRefused best worse = refl
alone AutoWithdrawn best worse = refl
alone Lapsed best worse = refl

-- an automatic answer after an offer
after_offer : (best worse : Bool)
    → not (status_number Offered == status_number (auto_status Offered best worse)) ≡ is_answered_change Waiting
    (auto_status Offered best worse)
after_offer true worse = refl
after_offer false worse = refl

same_stays : (x : Status) → not (status_number x == status_number x) ≡ is_answered_change x x
same_stays x = rw (number_same (status_number x)) refl

-- one mark: m in the opening, then the offer, then the automatic answer
one_change : (stamp : Stamp) (best : Option (Wish × Mark)) (w : Wish) (m : Mark) (made : Bool)
    → (made ≡ true → is_waiting m ≡ true)
    → let o : Mark = if made then changed_to Offered stamp m else m in
    not (status_number o.status == status_number (auto_mark stamp best w o).status) ≡ is_answered_change m.status
    (auto_mark stamp best w o).status
one_change stamp None w m false waits = same_stays m.status
one_change stamp None w m true waits =
    rw (changed_status Offered stamp m, waiting_is m.status (waits refl)) refl
one_change stamp (Some best) w m false waits =
    rw (status_of_auto stamp best w m) (alone m.status (w.preference == best.0.preference)
    (nat_lt best.0.preference w.preference))
one_change stamp (Some best) w m true waits =
    rw (
      status_of_auto stamp best w (changed_to Offered stamp m),
      changed_status Offered stamp m,
      waiting_is m.status
          (waits refl),
    )
    (after_offer (w.preference == best.0.preference) (nat_lt best.0.preference w.preference))

-- only waiting wishes are proposed
pub proposed_waits : (s : State) (orders : List CallOrder) (bars : List ℕ) (w : Wish) (m : Mark)
    → is_proposed s orders bars w m ≡ true
    → is_waiting m ≡ true
proposed_waits s orders bars w m t =
    elim (cases_Bool (is_waiting m)) [
      | inl waits ↦ waits
      | inr other ↦ absurd (not_then (rw other at t))
    ]
  where
    not_then : false ≡ true → ⊥
    not_then e = (cc)

abbrev pub change_of : ℕ × (Mark × Mark) → Change
change_of x = record { wish = x.0; status = x.1.1.status }

abbrev is_change : ℕ × (Mark × Mark) → Bool
is_change x = not (status_number x.1.0.status == status_number x.1.1.status)

abbrev pub is_answered : ℕ × (Mark × Mark) → Bool
is_answered x = is_answered_change x.1.0.status x.1.1.status

-- where f and then h change each mark so, the changes by h alone are those told from the first marks
alike : (f h : Wish → Mark → Mark)
    →
    ((w : Wish) (m : Mark) → not (status_number (f w m).status == status_number (h w (f w m)).status)
    ≡ is_answered_change m.status
    (h w (f w m)).status)
    → (n : ℕ) (ws : List Wish) (ms : List Mark)
    → let os = map (λ (x : Wish × Mark). f x.0 x.1) (zip ws ms) in
    let cs = map (λ (x : Wish × Mark). h x.0 x.1) (zip ws os) in
    map change_of (filter is_change (enumerate_from n (zip os cs)))
    ≡ map change_of (filter is_answered (enumerate_from n (zip ms cs)))
alike f h same n [] [] = refl
alike f h same n [] (m ∷ ms) = refl
alike f h same n (w ∷ ws) [] = refl
alike f h same n (w ∷ ws) (m ∷ ms) =
    let rest = alike f h same (n + 1) ws ms in
    elim (cases_Bool (is_answered_change m.status (h w (f w m)).status)) [
      | inl passes ↦ rw (same w m, passes) (ap (λ l. record { wish = n; status = (h w (f w m)).status } ∷ l) rest)
      | inr fails ↦ rw (same w m, fails) rest
    ]

pub changes_alike : (s : State) (orders : List CallOrder) (bars : List ℕ) (stamp : Stamp)
    → changes (offered s orders bars stamp) (closing s orders bars stamp)
    ≡ answered_changes s (closing s orders bars stamp)
changes_alike s orders bars stamp =
    let after = offered s orders bars stamp in
    alike (λ w m. if is_proposed s orders bars w m then changed_to Offered stamp m else m)
    (λ w m. auto_mark stamp (best_live after w.candidate) w m)
    (λ w m. one_change stamp (best_live after w.candidate) w m (is_proposed s orders bars w m)
    (proposed_waits s orders bars w m))
    0 s.dossier.wishes s.marks
