-- A pass with more beds in a school whose bar stands at its ceiling, where those who come find a bed, is the same.
use Rattle.std.proofs.Common.{ℕ, zero, suc, ◌+◌, ◌-◌, ◌≤◌, ◌<◌, ◌≡◌, Bool, true, false, not, ◌&&◌, List, [], ◌∷◌}
use Rattle.std.proofs.Common.{length, map, take, Option, Some, None, inl, inr, refl, sym, ◌∙◌, ap, subst, arith, nat_lt}
use Rattle.std.specs.Prelude.{◌==◌, if◌then◌else◌, slice_index, sum}
use Rattle.std.specs.List.{count_by, enumerate_from, list_all, range_with_len}
use Rattle.std.proofs.lemmas.Bool.{and_from, and_parts, cases_Bool, cases_eq, cases_lt, eq-eqb, false≢true}
use Rattle.std.proofs.lemmas.Bool.{false_from_ne_true, lt-ltb, ne_eqb, not-true, not_from_false}
use Rattle.std.proofs.lemmas.Grind.{get_or-set_at}
use Rattle.std.proofs.lemmas.List.{get_or_past}
use Rattle.admit_core.specs.declared.dossier.Answer.{Answer}
use Rattle.admit_core.specs.declared.dossier.AnswerKind.{AnswerKind}
use Rattle.admit_core.specs.declared.dossier.AnswerKind.TheVariants.{Accept, Quit, Refuse, Withdraw}
use Rattle.admit_core.specs.declared.dossier.School.{School}
use Rattle.admit_core.specs.declared.ranking.CallOrder.{CallOrder}
use Rattle.admit_core.specs.declared.records.Fall.{Fall}
use Rattle.admit_core.specs.declared.records.PassEnd.{PassEnd}
use Rattle.admit_core.specs.declared.records.Terms.{Terms}
use Rattle.admit_core.specs.declared.state.Stamp.{Stamp}
use Rattle.admit_core.specs.Answers.{after, after_all, after_kind, first_unfit, fits}
use Rattle.admit_core.specs.AutoAnswer.{seats_freed}
use Rattle.admit_core.specs.Boarding.{boarding}
use Rattle.admit_core.specs.Days.{IsPassEnd, after_lapse, answers_of, ceiling_on, ceilings_of, closing, freed_after}
use Rattle.admit_core.specs.Days.{lapsed_on, morning, offered, unfit_on}
use Rattle.admit_core.specs.DossierRows.{DossierRows, beds_of, candidates_of}
use Rattle.admit_core.specs.Falls.{AreFalls, FallingSystem, IsAtMost, IsGreatest, IsRunOfFalls, bars_after, fall_of}
use Rattle.admit_core.specs.Falls.{fallen, is_overfilled}
use Rattle.admit_core.specs.LeastBeds.{rebuilt, with_beds}
use Rattle.admit_core.specs.Proposals.{demanded_ranks, is_proposed}
use Rattle.admit_core.specs.State.{State, bed_holders, has_school, holds_bed}
use Rattle.admit_core.specs.Validity.{IsValid}
use Rattle.admit_core.proofs.ClosedEvenings.{free_at}
use Rattle.admit_core.proofs.DemandLaws.{below_bar, boarding_is_lawful}
use Rattle.admit_core.proofs.FallsLaw.{at_set, falls_under, over_in, over_rank, run_is_greatest}
use Rattle.admit_core.proofs.FilledSeats.{live_stays, offer_if}
use Rattle.admit_core.proofs.Holders.{holds_kept}
use Rattle.admit_core.proofs.Rebuilt.{as_many, with_n}
use Rattle.round.proofs.BedLaw.{length-new_bed_holders}
use Rattle.evening_laws.proofs.LastPass.{held_and_new, no_member}
use Rattle.campaign_bars.specs.HeldBeds.{NoMoreThan}

-- ---- what a day reads of a dossier but its beds
after_with : (kind : AnswerKind) (s : State) (target : ℕ) (stamp : Stamp) (h n : ℕ)
    → after_kind kind (with_beds s h n) target stamp ≡ with_beds (after_kind kind s target stamp) h n
after_with Accept s target stamp h n = refl
after_with Refuse s target stamp h n = refl
after_with Withdraw s target stamp h n = refl
after_with Quit s target stamp h n = refl

after_all_with : (s : State) (stamp : Stamp) (answers : List Answer) (h n : ℕ)
    → after_all (with_beds s h n) stamp answers ≡ with_beds (after_all s stamp answers) h n
after_all_with s stamp [] h n = refl
after_all_with s stamp (a ∷ rest) h n =
    ap (λ (t : State). after_all t stamp rest) (after_with a.kind s a.target stamp h n)
    ∙ after_all_with (after s stamp a) stamp rest h n

unfit_with : (k : ℕ) (s : State) (stamp : Stamp) (answers : List Answer) (h n : ℕ)
    → first_unfit k s stamp answers ≡ None → first_unfit k (with_beds s h n) stamp answers ≡ None
unfit_with k s stamp [] h n none = refl
unfit_with k s stamp (a ∷ rest) h n none =
    elim (cases_Bool (fits s a)) [
      | inl fit ↦
          let later = unfit_with (k + 1) (after s stamp a) stamp rest h n (rw fit at none) in
          rw fit (ap (λ (t : State). first_unfit (k + 1) t stamp rest) (after_with a.kind s a.target stamp h n) ∙ later)
      | inr unfit ↦ let some = rw unfit at none in absurd (cc)
    ]

lapse_with : (terms : Option Terms) (day : ℕ) (s : State) (h n : ℕ)
    → after_lapse terms day (with_beds s h n) ≡ with_beds (after_lapse terms day s) h n
lapse_with None day s h n = refl
lapse_with (Some t) day s h n = refl

pub lapsed_with : (terms : Option Terms) (day : ℕ) (s : State) (h n : ℕ)
    → lapsed_on terms day (with_beds s h n) ≡ lapsed_on terms day s
lapsed_with None day s h n = refl
lapsed_with (Some t) day s h n = refl

lapse_keeps : (terms : Option Terms) (day : ℕ) (s : State) → answers_of (after_lapse terms day s).dossier day
    ≡ answers_of s.dossier day
lapse_keeps None day s = refl
lapse_keeps (Some t) day s = refl

pub morning_with : (terms : Option Terms) (day : ℕ) (s : State) (h n : ℕ)
    → morning terms day (with_beds s h n) ≡ with_beds (morning terms day s) h n
morning_with terms day s h n =
    let stamp : Stamp = record { day = day; pass = 0 } in
    ap (λ (t : State). after_all t stamp (answers_of s.dossier day)) (lapse_with terms day s h n)
    ∙ after_all_with (after_lapse terms day s) stamp (answers_of s.dossier day) h n

pub fits_with : (terms : Option Terms) (day : ℕ) (s : State) (h n : ℕ) → unfit_on terms day s ≡ None
    → unfit_on terms day (with_beds s h n) ≡ None
fits_with terms day s h n none =
    let stamp : Stamp = record { day = day; pass = 0 } in
    ap (λ (t : State). first_unfit 0 t stamp (answers_of s.dossier day)) (lapse_with terms day s h n)
    ∙ unfit_with 0 (after_lapse terms day s) stamp (answers_of s.dossier day) h n none

ceiling_stays : (d : DossierRows) (day k n : ℕ) (is : Bool) (s : School)
    → ceiling_on d day k (if is then record s { beds = n } else s) ≡ ceiling_on d day k s
ceiling_stays d day k n true s = refl
ceiling_stays d day k n false s = refl

ceilings_from : (d : DossierRows) (day h n k : ℕ) (schools : List School)
    → map (λ x. ceiling_on d day x.0 x.1) (enumerate_from k (map (with_n h n) (enumerate_from k schools)))
    ≡ map (λ x. ceiling_on d day x.0 x.1) (enumerate_from k schools)
ceilings_from d day h n k [] = refl
ceilings_from d day h n k (s ∷ schools) =
    rw (ceiling_stays d day k n (k == h) s, ceilings_from d day h n (k + 1) schools) refl

pub ceilings_with : (d : DossierRows) (day h n : ℕ) → ceilings_of (rebuilt d h n) day ≡ ceilings_of d day
ceilings_with d day h n = ceilings_from d day h n 0 d.schools

-- the beds of the other schools, and of that one
beds_elsewhere : (k h n : ℕ) (schools : List School) (i : ℕ) → (k + i ≡ h → ⊥)
    → slice_index (map (λ (s : School). s.beds) (map (with_n h n) (enumerate_from k schools))) i
    ≡ slice_index (map (λ (s : School). s.beds) schools) i
beds_elsewhere k h n [] i other = refl
beds_elsewhere k h n (s ∷ schools) zero other =
    let differs : (k == h) ≡ false = ne_eqb k h (λ same. other (omega (arith, same))) in
    rw differs refl
beds_elsewhere k h n (s ∷ schools) (suc i) other =
    beds_elsewhere (k + 1) h n schools i (λ same. other (omega (arith, same)))

beds_there : (k h n : ℕ) (schools : List School) (i : ℕ) → k + i ≡ h → i < length schools
    → slice_index (map (λ (s : School). s.beds) (map (with_n h n) (enumerate_from k schools))) i ≡ n
beds_there k h n [] i is lt = absurd (omega arith)
beds_there k h n (s ∷ schools) zero is lt =
    let here : (k == h) ≡ true = eq-eqb k h (omega (arith, is)) in
    rw here refl
beds_there k h n (s ∷ schools) (suc i) is lt =
    beds_there (k + 1) h n schools i (omega (arith, is)) (omega (arith, lt))

-- ---- a run of falls that leaves the school's bar at its ceiling
all_pass : (p q : ℕ → Bool) → ((x : ℕ) → p x ≡ true → q x ≡ true) → (xs : List ℕ) → list_all p xs ≡ true
    → list_all q xs ≡ true
all_pass p q implies [] t = refl
all_pass p q implies (x ∷ xs) t =
    let parts = and_parts (p x) (list_all p xs) t in
    and_from (q x) (list_all q xs) (implies x parts.0) (all_pass p q implies xs parts.1)

module _ (s : State) (orders : List CallOrder) (ceilings : List ℕ) (h n : ℕ)
    (long : length ceilings ≡ length s.dossier.schools) where
  abbrev now : FallingSystem
  now = boarding s orders ceilings

  abbrev roomy : FallingSystem
  roomy = boarding (with_beds s h n) orders ceilings

  -- the free beds, by the school's beds
  free_by : (i beds : ℕ) → i < length ceilings → beds_of (rebuilt s.dossier h n) i ≡ beds
      → slice_index roomy.free i ≡ beds - length (bed_holders s i)
  free_by i beds lt is =
      free_at (with_beds s h n) orders ceilings i lt ∙ ap (λ (b : ℕ). b - length (bed_holders s i)) is

  same_free : (i : ℕ) → i < length ceilings → (i ≡ h → ⊥) → slice_index roomy.free i ≡ slice_index now.free i
  same_free i lt other =
      free_by i (beds_of s.dossier i) lt
      (beds_elsewhere 0 h n s.dossier.schools i (λ same. other (omega (arith, same))))
      ∙ sym (free_at s orders ceilings i lt)

  -- those who come under these bars find a bed
  abbrev pub HasRoom : List ℕ → Type 0
  HasRoom bars = length (demanded_ranks s orders bars h) ≤ n - length (bed_holders s h)

  -- then no more schools are overfilled
  over_now : (bars : List ℕ) (i : ℕ) → HasRoom bars → is_overfilled roomy bars i ≡ true
      → is_overfilled now bars i ≡ true
  over_now bars i room over =
      let found = over_in roomy (boarding_is_lawful (with_beds s h n) orders ceilings) bars i over in
      elim (cases_eq i h) [
        | inl same ↦
            let free = free_by i n found.0
            (beds_there 0 h n s.dossier.schools i (omega (arith, same)) (omega (arith, found.0, long))) in
            let live : length (bed_holders s i) ≡ length (bed_holders s h) =
            ap (λ (g : ℕ). length (bed_holders s g)) same in
            let come : length (now.ranks bars i) ≡ length (now.ranks bars h) =
            ap (λ (g : ℕ). length (now.ranks bars g)) same in
            absurd (omega (arith, found.1, free, live, come, room))
        | inr other ↦
            and_from (nat_lt i (length ceilings)) (nat_lt (slice_index now.free i) (length (now.ranks bars i)))
            (lt-ltb i (length ceilings) found.0)
            (lt-ltb (slice_index now.free i) (length (now.ranks bars i))
            (omega (arith, found.1, same_free i found.0 other)))
      ]

  over_there : (bars : List ℕ) (i : ℕ) → (i ≡ h → ⊥) → is_overfilled now bars i ≡ true
      → is_overfilled roomy bars i ≡ true
  over_there bars i other over =
      let found = over_in now (boarding_is_lawful s orders ceilings) bars i over in
      and_from (nat_lt i (length ceilings)) (nat_lt (slice_index roomy.free i) (length (now.ranks bars i)))
      (lt-ltb i (length ceilings) found.0)
      (lt-ltb (slice_index roomy.free i) (length (now.ranks bars i))
      (omega (arith, found.1, same_free i found.0 other)))

  same_fall : (bars : List ℕ) (i : ℕ) → i < length ceilings → (i ≡ h → ⊥) → fall_of now bars i ≡ fall_of roomy bars i
  same_fall bars i lt other =
      ap (λ (free : ℕ). record {
        school = i;
        from = slice_index bars i;
        to = slice_index (now.ranks bars i) free - 1;
        wishes = map (now.name bars i) (take (free + 1) (now.ranks bars i));
      }) (sym (same_free i lt other))

  -- falls only lower the school's bar, and where it stays they are those of the roomier system
  record Transfers (bars : List ℕ) (falls : List Fall) : Type 0 where
    below : slice_index (bars_after bars falls) h ≤ slice_index bars h
    falls_too : slice_index bars h ≤ slice_index (bars_after bars falls) h → AreFalls roomy bars falls

  transfers : (bars : List ℕ) (falls : List Fall) → IsAtMost bars ceilings → AreFalls now bars falls
      → Transfers bars falls
  transfers bars [] under are = record { below = omega arith; falls_too = λ stays. tt }
  transfers bars (f ∷ fs) under are =
      let lawful = boarding_is_lawful s orders ceilings in
      let i = f.school in
      let r = slice_index (now.ranks bars i) (slice_index now.free i) in
      let found = over_in now lawful bars i are.0 in
      let rank = over_rank now lawful bars i under are.0 in
      let i_bar : i < length bars = omega (arith, found.0, under.as_many) in
      let to : f.to ≡ r - 1 = ap (λ (g : Fall). g.to) are.1 in
      let step : IsAtMost (fallen bars f) ceilings =
      subst (λ (g : Fall). IsAtMost (fallen bars g) ceilings) (sym are.1) (falls_under now lawful bars i under are.0) in
      let rest = transfers (fallen bars f) fs step are.2 in
      elim (at_set bars i f.to h i_bar) [
        | inl here ↦
            let bar : slice_index bars h ≡ slice_index bars i = ap (slice_index bars) here.0 in
            record {
              below = omega (arith, rest.below, here.1, to, rank.0, rank.1, bar);
              falls_too = λ stays. absurd (omega (arith, stays, rest.below, here.1, to, rank.0, rank.1, bar));
            }
        | inr there ↦
            record {
              below = omega (arith, rest.below, there);
              falls_too = λ stays.
                  elim (cases_eq i h) [
                    | inl same ↦
                        let down : slice_index (fallen bars f) h ≡ f.to =
                        get_or-set_at bars i h f.to 0 (sym same) i_bar in
                        let bar : slice_index bars h ≡ slice_index bars i = ap (slice_index bars) (sym same) in
                        absurd (omega (arith, down, there, to, rank.0, rank.1, bar))
                    | inr other ↦ (
                      over_there bars i other are.0,
                      are.1 ∙ same_fall bars i found.0 other,
                      rest.falls_too (omega (arith, stays, there)),
                    )
                  ];
            }
      ]

  run_with : (falls : List Fall) → slice_index (bars_after ceilings falls) h ≡ slice_index ceilings h
      → HasRoom (bars_after ceilings falls) → IsRunOfFalls now falls → IsRunOfFalls roomy falls
  run_with falls stands room run =
      let start : IsAtMost ceilings ceilings = record { as_many = refl; each = λ i. omega arith } in
      let bars = bars_after ceilings falls in
      record {
        are_falls = (transfers ceilings falls start run.are_falls).falls_too (omega (arith, stands));
        settled = all_pass (λ i. not (is_overfilled now bars i)) (λ i. not (is_overfilled roomy bars i))
            (λ i none. not_from_false (is_overfilled roomy bars i)
            (false_from_ne_true (is_overfilled roomy bars i) (λ over.
            false≢true (sym (not-true (is_overfilled now bars i) none) ∙ over_now bars i room over))))
            (range_with_len 0 (length ceilings)) run.settled;
      }

  -- so the pass is the same, and so is what it frees
  same_freed : (bars : List ℕ) (stamp : Stamp)
      → freed_after s orders bars stamp ≡ freed_after (with_beds s h n) orders bars stamp
  same_freed bars stamp =
      let old = offered s orders bars stamp in
      let new = closing s orders bars stamp in
      ap (λ (m : ℕ). record {
        seats = sum (map (seats_freed old new) (candidates_of s.dossier));
        beds = sum (map (λ (c : ℕ). count_by (λ i. holds_bed old c i && not (holds_bed new c i))
            (range_with_len 0 m)) (candidates_of s.dossier));
      }) (sym (as_many s.dossier.schools h n))

  pub pass_with : (stamp : Stamp) (end : PassEnd) → slice_index end.pass.bars h ≡ slice_index ceilings h
      → HasRoom end.pass.bars
      → IsPassEnd s orders ceilings stamp end → IsPassEnd (with_beds s h n) orders ceilings stamp end
  pass_with stamp end stands room is =
      let falls = end.pass.falls in
      let run = run_with falls (sym (ap (λ (bars : List ℕ). slice_index bars h) is.pass.bars) ∙ stands)
      (subst HasRoom is.pass.bars room) is.pass.falls in
      let lawful = boarding_is_lawful (with_beds s h n) orders ceilings in
      record {
        pass = record {
          greatest = subst (IsGreatest roomy) (sym is.pass.bars) (run_is_greatest roomy lawful falls run);
          falls = run;
          bars = is.pass.bars;
          offers = is.pass.offers;
        };
        autos = is.autos;
        freed = is.freed ∙ same_freed end.pass.bars stamp;
      }

-- ---- why those who come find a bed: there are more of them, or never more live there
pub roomy_by_more : (s : State) (orders : List CallOrder) (ceilings bars : List ℕ) (h n : ℕ)
    → length ceilings ≡ length s.dossier.schools → beds_of s.dossier h ≤ n
    → IsGreatest (boarding s orders ceilings) bars → slice_index bars h ≡ slice_index ceilings h
    → length (demanded_ranks s orders bars h) ≤ n - length (bed_holders s h)
roomy_by_more s orders ceilings bars h n long enough greatest stands =
    elim (cases_lt h (length ceilings)) [
      | inl lt ↦ omega (arith, greatest.fits.room h lt, free_at s orders ceilings h lt, enough)
      | inr past ↦
          let none : slice_index bars h ≡ 0 = stands ∙ get_or_past ceilings h 0 past in
          let nobody = no_member (demanded_ranks s orders bars h)
          (λ r t. let found = below_bar s orders bars h r t in omega (arith, found.0, found.1, none)) in
          omega (arith, nobody)
    ]

pub roomy_by_few : (s : State) (orders : List CallOrder) (bars : List ℕ) (stamp : Stamp) (h n : ℕ) → IsValid s.dossier
    → NoMoreThan h n (offered s orders bars stamp)
    → length (demanded_ranks s orders bars h) ≤ n - length (bed_holders s h)
roomy_by_few s orders bars stamp h n valid few =
    let new = offered s orders bars stamp in
    let split = held_and_new (λ c. holds_bed s c h) (λ c. holds_bed new c h)
    (λ c t. holds_kept (λ u. has_school u h) s (λ w m. offer_if stamp (is_proposed s orders bars w m) m) c
    (λ v mv live. live_stays stamp (is_proposed s orders bars v mv) mv live) t) (candidates_of s.dossier) in
    omega (arith, split, few, length-new_bed_holders s orders bars stamp valid h)
