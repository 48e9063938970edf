-- The places in the record of a day are those of the dossier.
use Rattle.std.proofs.Common.{◌≡◌, ◌∙◌, ℕ, ◌+◌, ◌<◌, ◌≤◌, Bool, List, [], ◌∷◌, Option, None, Some, All, IsTrue, ap}
use Rattle.std.proofs.Common.{arith, filter, find, get_or, inl, inr, length, map, refl, subst, sym, take}
use Rattle.std.specs.Prelude.{ℤ, option_map, unwrap_or, zip}
use Rattle.std.specs.List.{enumerate_from, range_with_len}
use Rattle.std.proofs.lemmas.Bool.{and_parts, cases_Bool, ltb-true}
use Rattle.std.proofs.lemmas.List.{length-map, take_all}
use Rattle.std.proofs.lemmas.List.Elements.{All-cons, All-filter, All-head, All-map, All-nil, All-same, All-tail}
use Rattle.std.proofs.lemmas.List.FromFn.{get_or-enumerate_from, length-enumerate_from, length-range_with_len}
use Rattle.std.proofs.lemmas.Slice.Zip.{length-zip}
use Rattle.admit_core.specs.Boarding.{boarding, name_of}
use Rattle.admit_core.specs.Days.{IsDay, IsPassEnd, Passes, closing, lapsed_on, morning, offered}
use Rattle.admit_core.specs.DossierRows.{DossierRows}
use Rattle.admit_core.specs.Falls.{AreFalls, fall_of, fallen, ranks_up_to_over, is_overfilled}
use Rattle.admit_core.specs.Lapses.{AreTermsFor, lapses, offer_day}
use Rattle.admit_core.specs.Proposals.{demanded_ranks}
use Rattle.admit_core.specs.State.{State, entries, free_beds, seats_left}
use Rattle.admit_core.specs.declared.dossier.Wish.{Wish}
use Rattle.admit_core.specs.declared.ranking.CallOrder.{CallOrder}
use Rattle.admit_core.specs.declared.records.DayRecord.{DayRecord}
use Rattle.admit_core.specs.declared.records.Fall.{Fall}
use Rattle.admit_core.specs.declared.records.Lapse.{Lapse}
use Rattle.admit_core.specs.declared.records.PassEnd.{PassEnd}
use Rattle.admit_core.specs.declared.records.Terms.{Terms}
use Rattle.admit_core.specs.declared.state.Change.{Change}
use Rattle.admit_core.specs.declared.state.Mark.{Mark}
use Rattle.admit_core.specs.declared.state.Stamp.{Stamp}
use Rattle.desk_day.specs.DayPasses.{stamp_of}
use Rattle.desk_day.specs.DayPlaces.{IsDayIn, IsFallIn, IsPassIn}
use Rattle.desk_day.proofs.SameDossier.{morning_dossier, evening_dossier}

places_in : {X : Type 0} (n : ℕ) (xs : List X) → length xs ≤ n → All (λ (x : ℕ × X). x.0 < n) (enumerate_from 0 xs)
places_in {X} n xs le k d lt =
    let within : k < length xs = omega (arith, length-enumerate_from 0 xs) in
    let place : (get_or (enumerate_from 0 xs) k d).0 ≡ 0 + k =
    ap (λ (x : ℕ × X). x.0) (get_or-enumerate_from 0 xs k d within) in
    omega arith

-- what is chosen of an enumerated list
chosen_in : {X : Type 0} (n : ℕ) (test : ℕ × X → Bool) (xs : List X) → length xs ≤ n
    → All (λ (x : ℕ × X). x.0 < n) (filter test (enumerate_from 0 xs))
chosen_in {X} n test xs le = All-filter test (λ (x : ℕ × X). x.0 < n) (enumerate_from 0 xs) (places_in n xs le)

first_found : {X : Type 0} (n : ℕ) (test : ℕ × X → Bool) (ys : List (ℕ × X)) → All (λ (y : ℕ × X). y.0 < n) ys → 0 < n
    → unwrap_or (option_map (λ (y : ℕ × X). y.0) (find test ys)) 0 < n
first_found n test [] all some = some
first_found {X} n test (y ∷ ys) all some =
    elim (cases_Bool (test y)) [
      | inl passes ↦ rw passes (All-head (λ (y : ℕ × X). y.0 < n) y ys all)
      | inr fails ↦ rw fails (first_found n test ys (All-tail (λ (y : ℕ × X). y.0 < n) y ys all) some)
    ]

-- the places by which ranks are named; where nothing is listed there is no rank
names_in : {X : Type 0} (n : ℕ) (es : List X) (test : ℕ → ℕ × X → Bool) (ranks : List ℕ) → (es ≡ [] → ranks ≡ [])
    → length es ≤ n
    → All (λ (w : ℕ). w < n)
    (map (λ r. unwrap_or (option_map (λ (x : ℕ × X). x.0) (find (test r) (enumerate_from 0 es))) 0) ranks)
names_in n [] test ranks none le = rw (none refl) (All-nil (λ (w : ℕ). w < n))
names_in {X} n (e ∷ es) test ranks none le =
    All-map (λ (w : ℕ). w < n)
    (λ r. unwrap_or (option_map (λ (x : ℕ × X). x.0) (find (test r) (enumerate_from 0 (e ∷ es)))) 0) ranks
    (λ i d lt. first_found n (test (get_or ranks i d)) (enumerate_from 0 (e ∷ es)) (places_in n (e ∷ es) le)
    (omega arith))

few_entries : (s : State) → length (entries s) ≤ length s.dossier.wishes
few_entries s = omega (arith, length-zip s.dossier.wishes s.marks)

no_ranks : (s : State) (orders : List CallOrder) (bars : List ℕ) (h k : ℕ) → entries s ≡ []
    → take k (demanded_ranks s orders bars h) ≡ []
no_ranks s orders bars h k none = rw none (take_all k [] (omega arith))

fall_in : (s : State) (orders : List CallOrder) (ceilings bars : List ℕ) (f : Fall)
    → length ceilings ≡ length s.dossier.schools
    → IsTrue (is_overfilled (boarding s orders ceilings) bars f.school)
    → f ≡ fall_of (boarding s orders ceilings) bars f.school
    → IsFallIn s.dossier f
fall_in s orders ceilings bars f same over is = record {
  school =
      let within : f.school < length ceilings = ltb-true f.school (length ceilings) (and_parts _ _ over).0 in
      omega arith;
  wishes =
      let h = f.school in
      let n = length s.dossier.wishes in
      let ranks : List ℕ = ranks_up_to_over (boarding s orders ceilings) bars h in
      All-same (λ (w : ℕ). w < n) f.wishes (map (name_of s orders bars h) ranks) (ap (λ (x : Fall). x.wishes) is)
      (names_in n (entries s) _ ranks (no_ranks s orders bars h _) (few_entries s));
}

falls_in : (s : State) (orders : List CallOrder) (ceilings bars : List ℕ) (falls : List Fall)
    → length ceilings ≡ length s.dossier.schools
    → AreFalls (boarding s orders ceilings) bars falls → All (IsFallIn s.dossier) falls
falls_in s orders ceilings bars [] same are = All-nil (IsFallIn s.dossier)
falls_in s orders ceilings bars (f ∷ fs) same are =
    All-cons (IsFallIn s.dossier) f fs (fall_in s orders ceilings bars f same are.0 are.1)
    (falls_in s orders ceilings (fallen bars f) fs same are.2)

few_offered : (s : State) (orders : List CallOrder) (bars : List ℕ) (stamp : Stamp) (new : List Mark)
    → length (zip (offered s orders bars stamp).marks new) ≤ length s.dossier.wishes
few_offered s orders bars stamp new =
    let as_many : length (offered s orders bars stamp).marks ≡ length (entries s) = length-map (entries s) _ in
    omega (arith, length-zip (offered s orders bars stamp).marks new, few_entries s)

pass_in : (s : State) (orders : List CallOrder) (ceilings : List ℕ) (stamp : Stamp) (end : PassEnd)
    → length ceilings ≡ length s.dossier.schools
    → IsPassEnd s orders ceilings stamp end → IsPassIn s.dossier end
pass_in s orders ceilings stamp end same is =
    let n = length s.dossier.wishes in
    record {
      bars = is.pass.greatest.fits.under_ceilings.as_many ∙ same;
      falls = falls_in s orders ceilings ceilings end.pass.falls same is.pass.falls.are_falls;
      offers =
          All-same (λ (w : ℕ). w < n) end.pass.offers _ is.pass.offers
          (All-map (λ (w : ℕ). w < n) (λ (x : ℕ × (Wish × Mark)). x.0) _ (chosen_in n _ (entries s) (few_entries s)));
      autos =
          All-same (λ (c : Change). c.wish < n) end.autos _ is.autos
          (All-map (λ (c : Change). c.wish < n) (λ (x : ℕ × (Mark × Mark)).
          record { wish = x.0; status = x.1.1.status }) _
          (chosen_in n _ (zip (offered s orders end.pass.bars stamp).marks (closing s orders end.pass.bars stamp).marks)
          (few_offered s orders end.pass.bars stamp _)));
    }

passes_in : (orders : List CallOrder) (ceilings : List ℕ) (day k : ℕ) (s : State) (passes : List PassEnd)
    (evening : State)
    → length ceilings ≡ length s.dossier.schools
    → Passes orders ceilings day k s passes evening → All (IsPassIn s.dossier) passes
passes_in orders ceilings day k s [] evening same p = absurd p
passes_in orders ceilings day k s (pass ∷ []) evening same p =
    All-cons (IsPassIn s.dossier) pass [] (pass_in s orders ceilings (stamp_of day k) pass same p.0)
    (All-nil (IsPassIn s.dossier))
passes_in orders ceilings day k s (pass ∷ next ∷ rest) evening same p =
    All-cons (IsPassIn s.dossier) pass (next ∷ rest) (pass_in s orders ceilings (stamp_of day k) pass same p.0)
    (passes_in orders ceilings day (k + 1) (closing s orders pass.pass.bars (stamp_of day k))
    (next ∷ rest) evening same p.2)

pub lapsed_in : (terms : Option Terms) (day : ℕ) (s : State) → AreTermsFor s.dossier terms
    → All (λ (l : Lapse). l.wish < length s.dossier.wishes) (lapsed_on terms day s)
lapsed_in None day s one_each = All-nil (λ (l : Lapse). l.wish < length s.dossier.wishes)
lapsed_in (Some terms) day s one_each =
    let n = length s.dossier.wishes in
    let each : length terms.before ≡ n = one_each in
    let pairs : length (zip terms.before s.marks) ≤ n = omega (arith, length-zip terms.before s.marks, each) in
    All-map (λ (l : Lapse). l.wish < n) (λ (x : ℕ × (ℤ × Mark)). record { wish = x.0; offered = offer_day x.1.0 x.1.1 })
    _
    (chosen_in n (λ (x : ℕ × (ℤ × Mark)). lapses terms.term day x.1.0 x.1.1) (zip terms.before s.marks) pairs)

-- a day's record speaks of the dossier's wishes, schools and programmes
pub day_in : (terms : Option Terms) (orders : List CallOrder) (ceilings : List ℕ) (old : State) (day : DayRecord)
    (evening : State)
    → AreTermsFor old.dossier terms → length ceilings ≡ length old.dossier.schools
    → IsDay terms orders ceilings old day evening → IsDayIn old.dossier day
day_in terms orders ceilings old day evening before one_each is =
    let s = morning terms day.day old in
    let stays : s.dossier ≡ old.dossier = morning_dossier terms day.day old in
    let same : evening.dossier ≡ old.dossier = evening_dossier terms orders ceilings old day evening is in
    let P : DossierRows → Type 0 = λ d. All (IsPassIn d) day.passes in
    let each : length ceilings ≡ length s.dossier.schools =
    one_each ∙ ap (λ (d : DossierRows). length d.schools) (sym stays) in
    record {
      lapsed = All-same (λ (l : Lapse). l.wish < length old.dossier.wishes) day.lapsed _ is.lapsed
          (lapsed_in terms day.day old before);
      passes = subst P stays (passes_in orders ceilings day.day 1 s day.passes evening each is.passes);
      left =
          ap (λ (l : List ℕ). length l) is.left ∙ length-map (range_with_len 0 (length evening.dossier.programmes))
          (seats_left evening)
          ∙ length-range_with_len 0 (length evening.dossier.programmes)
          ∙ ap (λ (d : DossierRows). length d.programmes) same;
      free =
          ap (λ (l : List ℕ). length l) is.free ∙ length-map (range_with_len 0 (length evening.dossier.schools))
          (free_beds evening)
          ∙ length-range_with_len 0 (length evening.dossier.schools) ∙ ap (λ (d : DossierRows). length d.schools) same;
    }
