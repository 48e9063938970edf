-- The pairs of marks that a loop goes along.
use Rattle.std.proofs.Common.{ℕ, ◌+◌, ◌≤◌, ◌<◌, ◌≡◌, true, false, List, [], ◌∷◌, ◌++◌, length, get_or, refl, ◌∙◌, ap}
use Rattle.std.proofs.Common.{arith, zip}
use Rattle.std.specs.Prelude.{ℤ, pos}
use Rattle.std.specs.List.{enumerate_from}
use Rattle.std.proofs.lemmas.Option.{unwrap_or-slice_get}
use Rattle.std.proofs.lemmas.Slice.Zip.{length-zip, get_or-zip}
use Rattle.std.proofs.lemmas.List.FromFn.{length-enumerate_from, get_or-enumerate_from}
use Rattle.admit_core.proofs.Plain.{zero_plus}
use Rattle.admit_core.specs.declared.state.Status.{Status}
use Rattle.admit_core.specs.declared.state.Mark.{Mark}
use Rattle.admit_core.specs.declared.state.Change.{Change}
use Rattle.admit_core.specs.declared.records.Lapse.{Lapse}
use Rattle.admit_core.specs.Lapses.{lapses, offer_day}
use Rattle.day_state.specs.Kept.{mark_in}
use Rattle.desk_day.specs.Changes.{is_answered_change}
use Rattle.desk_day.proofs.ChangedMarks.{change_of, is_answered}
use Rattle.desk_day.proofs.LapsedOffers.{lapse_of, is_lapse}
use Rattle.desk_day.proofs.Listed.{listed, listed_some, listed_none}

-- a pair with its place
pub pair_at : {X : Type 0} (xs : List X) (ms : List Mark) (k : ℕ) (x : X) → k < length xs → k < length ms
    → get_or (enumerate_from 0 (zip xs ms)) k (0, (x, mark_in [] 0)) ≡ (k, (get_or xs k x, mark_in ms k))
pair_at xs ms k x lt lt_too =
    let d = mark_in [] 0 in
    get_or-enumerate_from 0 (zip xs ms) k (0, (x, d)) (omega (arith, length-zip xs ms))
    ∙ rw (zero_plus k, get_or-zip xs ms k (x, d) lt lt_too, ← unwrap_or-slice_get ms k d) refl

pub pairs_long : {X : Type 0} (xs : List X) (ms : List Mark) → length (enumerate_from 0 (zip xs ms)) ≤ length xs
pairs_long xs ms = omega (arith, length-enumerate_from 0 (zip xs ms), length-zip xs ms)

pair_of_marks : (ms ns : List Mark) (k : ℕ) → k < length ms → k < length ns
    → get_or (enumerate_from 0 (zip ms ns)) k (0, (mark_in [] 0, mark_in [] 0)) ≡ (k, (mark_in ms k, mark_in ns k))
pair_of_marks ms ns k lt lt_too = pair_at ms ns k (mark_in [] 0) lt lt_too
    ∙ rw (← unwrap_or-slice_get ms k (mark_in [] 0)) refl

all_pairs_long : {X : Type 0} (xs : List X) (ms : List Mark) (k : ℕ) → k < length xs → k < length ms
    → k < length (enumerate_from 0 (zip xs ms))
all_pairs_long xs ms k lt lt_too = omega (arith, length-enumerate_from 0 (zip xs ms), length-zip xs ms)

pub changed_here : (ms ns : List Mark) (k : ℕ) (x y : Status) (now : List Change)
    → now ≡ listed change_of is_answered (enumerate_from 0 (zip ms ns)) k
    → k < length ms → k < length ns → x ≡ (mark_in ms k).status → y ≡ (mark_in ns k).status
    → is_answered_change x y ≡ true
    → now ++ record { wish = k; status = y } ∷ [] ≡ listed change_of is_answered (enumerate_from 0 (zip ms ns)) (k + 1)
changed_here ms ns k x y now so_far lt lt_too x_is y_is passes =
    let pairs = enumerate_from 0 (zip ms ns) in
    let e = pair_of_marks ms ns k lt lt_too in
    rw y_is (rw e at (listed_some change_of is_answered pairs k (0, (mark_in [] 0, mark_in [] 0)) now so_far
    (all_pairs_long ms ns k lt lt_too) (ap is_answered e ∙ rw (x_is, y_is) at passes)))

pub unchanged_here : (ms ns : List Mark) (k : ℕ) (x y : Status) (now : List Change)
    → now ≡ listed change_of is_answered (enumerate_from 0 (zip ms ns)) k
    → k < length ms → k < length ns → x ≡ (mark_in ms k).status → y ≡ (mark_in ns k).status
    → is_answered_change x y ≡ false
    → now ≡ listed change_of is_answered (enumerate_from 0 (zip ms ns)) (k + 1)
unchanged_here ms ns k x y now so_far lt lt_too x_is y_is fails =
    let pairs = enumerate_from 0 (zip ms ns) in
    let e = pair_of_marks ms ns k lt lt_too in
    listed_none change_of is_answered pairs k (0, (mark_in [] 0, mark_in [] 0)) now so_far
    (all_pairs_long ms ns k lt lt_too)
    (ap is_answered e ∙ rw (x_is, y_is) at fails)

pub lapsed_here : (term day : ℕ) (xs : List ℤ) (ms : List Mark) (k : ℕ) (x : ℤ) (m : Mark) (offered : ℤ)
    (now : List Lapse)
    → now ≡ listed lapse_of (is_lapse term day) (enumerate_from 0 (zip xs ms)) k
    → k < length xs → k < length ms → x ≡ get_or xs k (pos 0) → m ≡ mark_in ms k → lapses term day x m ≡ true
    → offered ≡ offer_day x m
    → now ++ record { wish = k; offered = offered } ∷ []
    ≡ listed lapse_of (is_lapse term day) (enumerate_from 0 (zip xs ms)) (k + 1)
lapsed_here term day xs ms k x m offered now so_far lt lt_too x_is m_is passes offered_is =
    let pairs = enumerate_from 0 (zip xs ms) in
    let e = pair_at xs ms k (pos 0) lt lt_too in
    rw (offered_is, x_is, m_is)
    (rw e at (listed_some lapse_of (is_lapse term day) pairs k (0, (pos 0, mark_in [] 0)) now so_far
    (all_pairs_long xs ms k lt lt_too) (ap (is_lapse term day) e ∙ rw (x_is, m_is) at passes)))

pub kept_here : (term day : ℕ) (xs : List ℤ) (ms : List Mark) (k : ℕ) (x : ℤ) (m : Mark) (now : List Lapse)
    → now ≡ listed lapse_of (is_lapse term day) (enumerate_from 0 (zip xs ms)) k
    → k < length xs → k < length ms → x ≡ get_or xs k (pos 0) → m ≡ mark_in ms k → lapses term day x m ≡ false
    → now ≡ listed lapse_of (is_lapse term day) (enumerate_from 0 (zip xs ms)) (k + 1)
kept_here term day xs ms k x m now so_far lt lt_too x_is m_is fails =
    let pairs = enumerate_from 0 (zip xs ms) in
    let e = pair_at xs ms k (pos 0) lt lt_too in
    listed_none lapse_of (is_lapse term day) pairs k (0, (pos 0, mark_in [] 0)) now so_far
    (all_pairs_long xs ms k lt lt_too)
    (ap (is_lapse term day) e ∙ rw (x_is, m_is) at fails)
