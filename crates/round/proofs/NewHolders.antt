-- Who becomes live as wishes are offered.
use Rattle.std.proofs.Common.{ℕ, ◌<◌, ◌≡◌, Bool, true, false, ◌&&◌, List, [], ◌∷◌, map, length, get_or, inl, inr, refl}
use Rattle.std.proofs.Common.{sym, ◌∙◌, ap, arith, nat_eq, zip}
use Rattle.std.specs.Prelude.{◌==◌, if◌then◌else◌}
use Rattle.std.specs.List.{list_any}
use Rattle.std.proofs.lemmas.Bool.{cases_Bool, and_parts, and_from, false≢true}
use Rattle.std.proofs.lemmas.Slice.Zip.{length-zip, get_or-zip}
use Rattle.std.proofs.lemmas.List.Folds.{Any-from_list_any, list_any_at}
use Rattle.admit_core.proofs.Plain.{any-map}
use Rattle.admit_core.specs.declared.dossier.Wish.{Wish}
use Rattle.admit_core.specs.declared.state.Mark.{Mark}
use Rattle.admit_core.specs.declared.state.Status.{Status}
use Rattle.admit_core.specs.declared.state.Status.TheVariants.{Waiting, Offered, Accepted, Refused, Withdrawn, Quit}
use Rattle.admit_core.specs.declared.state.Status.TheVariants.{AutoRefused, AutoWithdrawn, Lapsed}
use Rattle.admit_core.specs.declared.state.Stamp.{Stamp}
use Rattle.admit_core.specs.declared.ranking.CallOrder.{CallOrder}
use Rattle.admit_core.specs.State.{State, entries, is_live, changed_to}
use Rattle.admit_core.specs.Proposals.{is_proposed}
use Rattle.admit_core.specs.Days.{offered}
use Rattle.day_state.specs.Kept.{holds_one}

-- the entries of a state whose marks have changed
zip-again : (f : Wish → Mark → Mark) (ws : List Wish) (ms : List Mark)
    → zip ws (map (λ (e : Wish × Mark). f e.0 e.1) (zip ws ms))
    ≡ map (λ (e : Wish × Mark). (e.0, f e.0 e.1)) (zip ws ms)
zip-again f [] ms = refl
zip-again f (w ∷ ws) [] = refl
zip-again f (w ∷ ws) (m ∷ ms) = ap (λ (es : List (Wish × Mark)). (w, f w m) ∷ es) (zip-again f ws ms)

-- an offered mark is live
live-offered : (status : Status) (stamp old : Stamp)
    → is_live (changed_to Offered stamp (record { status = status; stamp = old })) ≡ true
live-offered Waiting stamp old = refl
live-offered Offered stamp old = refl
live-offered Accepted stamp old = refl
live-offered Refused stamp old = refl
live-offered Withdrawn stamp old = refl
live-offered Quit stamp old = refl
live-offered AutoRefused stamp old = refl
live-offered AutoWithdrawn stamp old = refl
live-offered Lapsed stamp old = refl

-- a proposed wish of the candidate that passes the test, with its place
pub record MakesLive (s : State) (orders : List CallOrder) (bars : List ℕ) (test : Wish → Bool) (c : ℕ) : Type 0 where
  pub place : ℕ
  pub entry : Wish × Mark
  pub within : place < length (entries s)
  pub here : get_or (entries s) place entry ≡ entry
  pub offers : is_proposed s orders bars entry.0 entry.1 ≡ true
  pub own : nat_eq entry.0.candidate c ≡ true
  pub passes : test entry.0 ≡ true

-- the wish of an entry is the dossier's at that place
pub entry_wish : (s : State) (k : ℕ) (e : Wish × Mark) → k < length (entries s) → get_or (entries s) k e ≡ e
    → (k < length s.dossier.wishes) × (get_or s.dossier.wishes k e.0 ≡ e.0)
entry_wish s k e lt here =
    let ws = s.dossier.wishes in
    let ms = s.marks in
    let in_wishes : k < length ws = omega (arith, length-zip ws ms) in
    let in_marks : k < length ms = omega (arith, length-zip ws ms) in
    (in_wishes, ap (λ (x : Wish × Mark). x.0) (sym (get_or-zip ws ms k e in_wishes in_marks) ∙ here))

module _ (s : State) (orders : List CallOrder) (bars : List ℕ) (stamp : Stamp) where
  -- the mark of a wish after the offers
  abbrev after : Wish → Mark → Mark
  after w m = if is_proposed s orders bars w m then changed_to Offered stamp m else m

  abbrev lives : (Wish → Bool) → ℕ → Wish × Mark → Bool
  lives test c e = is_live e.1 && (e.0.candidate == c) && test e.0

  -- who is live after the offers
  holds_after : (test : Wish → Bool) (c : ℕ)
      → holds_one test (offered s orders bars stamp) c
      ≡ list_any (λ (e : Wish × Mark). lives test c (e.0, after e.0 e.1)) (entries s)
  holds_after test c =
      ap (list_any (lives test c)) (zip-again after s.dossier.wishes s.marks)
      ∙ any-map (lives test c) (λ (e : Wish × Mark). (e.0, after e.0 e.1)) (entries s)

  -- who is live after the offers and was not before has a proposed wish
  pub becomes_live : (test : Wish → Bool) (c : ℕ) → holds_one test (offered s orders bars stamp) c ≡ true
      → holds_one test s c ≡ false → MakesLive s orders bars test c
  becomes_live test c now before =
      let (k, e, within, here, both) = Any-from_list_any (λ (e : Wish × Mark). lives test c (e.0, after e.0 e.1))
      (entries s) (sym (holds_after test c) ∙ now) in
      let outer = and_parts (is_live (after e.0 e.1) && (e.0.candidate == c)) (test e.0) both in
      let inner = and_parts (is_live (after e.0 e.1)) (e.0.candidate == c) outer.0 in
      elim (cases_Bool (is_proposed s orders bars e.0 e.1)) [
        | inl offers ↦ record {
          place = k;
          entry = e;
          within = within;
          here = here;
          offers = offers;
          own = inner.1;
          passes = outer.1;
        }
        | inr stays ↦
            let live : is_live e.1 ≡ true = rw stays at inner.0 in
            let held : lives test c (get_or (entries s) k e) ≡ true =
            rw here (and_from (is_live e.1 && (e.0.candidate == c)) (test e.0)
            (and_from (is_live e.1) (e.0.candidate == c) live inner.1) outer.1) in
            absurd (false≢true (sym before ∙ list_any_at (lives test c) (entries s) k e within held))
      ]

  -- the candidate of a proposed wish is live after the offers
  pub is_live_after : (test : Wish → Bool) (c : ℕ) → MakesLive s orders bars test c
      → holds_one test (offered s orders bars stamp) c ≡ true
  is_live_after test c makes =
      let e = makes.entry in
      let live : is_live (after e.0 e.1) ≡ true = rw makes.offers (live-offered e.1.status stamp e.1.stamp) in
      let all : lives test c (e.0, after e.0 e.1) ≡ true =
      and_from (is_live (after e.0 e.1) && (e.0.candidate == c)) (test e.0)
      (and_from (is_live (after e.0 e.1)) (e.0.candidate == c) live makes.own) makes.passes in
      let there : lives test c (
        (get_or (entries s) makes.place e).0,
        after (get_or (entries s) makes.place e).0
            (get_or (entries s) makes.place e).1,
      ) ≡ true = rw makes.here all in
      holds_after test c ∙ list_any_at (λ (e : Wish × Mark). lives test c (e.0, after e.0 e.1))
      (entries s) makes.place e makes.within there
