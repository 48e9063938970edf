-- The chain of days of the rules is valid for each of them.
use Rattle.std.proofs.Common.{◌≡◌, ℕ, suc, ◌+◌, ◌-◌, ◌<◌, ◌≤◌, true, not, List, [], ◌∷◌, All, length, map, take, get_or}
use Rattle.std.proofs.Common.{Option, Some, None, inl, inr, refl, sym, ap, ◌∙◌, subst, arith, nat_eq, nat_le}
use Rattle.std.specs.Prelude.{◌&&◌, ◌==◌, option_map, slice_index, unwrap_or, IsTrue}
use Rattle.std.specs.List.{IsDistinct, enumerate_from}
use Rattle.std.proofs.lemmas.Bool.{cases_Bool}
use Rattle.std.proofs.lemmas.List.{length-map, length-take-le}
use Rattle.std.proofs.lemmas.List.Elements.{All-cons, All-filter, All-head, All-map, All-nil, All-tail}
use Rattle.std.proofs.lemmas.List.FromFn.{length-enumerate_from}
use Rattle.admit_core.specs.declared.dossier.CeilingChange.{CeilingChange}
use Rattle.admit_core.specs.declared.dossier.School.{School}
use Rattle.admit_core.specs.declared.ranking.CallOrder.{CallOrder}
use Rattle.admit_core.specs.declared.records.DayRecord.{DayRecord}
use Rattle.admit_core.specs.declared.records.Fall.{Fall}
use Rattle.admit_core.specs.declared.records.PassEnd.{PassEnd}
use Rattle.admit_core.specs.declared.records.Terms.{Terms}
use Rattle.admit_core.specs.declared.state.Stamp.{Stamp}
use Rattle.admit_core.specs.Boarding.{boarding, name_of}
use Rattle.admit_core.specs.Chains.{ArePassChains, IsDayChain, IsPassChain, bars_by, closing_by, frees_nothing_by}
use Rattle.admit_core.specs.Days.{Days, IsDay, IsPassEnd, Passes, ceiling_on, ceilings_of, changes_until, closing}
use Rattle.admit_core.specs.Days.{first_evening, freed_after, frees_nothing, morning, unfit_on}
use Rattle.admit_core.specs.DossierRows.{DossierRows}
use Rattle.admit_core.specs.Falls.{AreFalls, IsAtMost, fall_of, fallen, is_overfilled, is_settled}
use Rattle.admit_core.specs.Lists.{least_by, lesser}
use Rattle.admit_core.specs.Proposals.{demanded_ranks}
use Rattle.admit_core.specs.State.{State}
use Rattle.admit_core.specs.Validity.{IsValid}
use Rattle.admit_core.proofs.DemandLaws.{boarding_is_lawful}
use Rattle.admit_core.proofs.FallsLaw.{falls_under, over_in, over_rank}
use Rattle.desk_day.proofs.SameDossier.{evening_dossier, morning_dossier}
use Rattle.certificate.specs.ProvedDays.{AreProvedDays}
use Rattle.certificate.specs.Written.{AreNumbered, CanBeTold, DayCanBeTold, HasFewPasses, PassCanBeTold, day_at}
use Rattle.certificate.specs.Written.{days_from, falls_from, pass_at, passes_from, row_after, row_after_pass}
use Rattle.chain_laws.specs.WrittenLaws.{OwnChainsAreProved}
use Rattle.certificate.proofs.ReadBack.{reads_back, id_small}
use Rattle.chain_laws.proofs.ValidLines.{valid_lines}

-- the ceilings of a day have 32 bits
abbrev IsSmall : ℕ → Type 0
IsSmall n = n ≤ 4294967295

abbrev IsSmallChange : CeilingChange → Type 0
IsSmallChange c = c.ceiling ≤ 4294967295

lesser_small : (key : CeilingChange → ℕ) (c : CeilingChange) (o : Option CeilingChange) → IsSmallChange c
    → unwrap_or (option_map (λ (x : CeilingChange). x.ceiling) o) 0 ≤ 4294967295 → IsSmallChange (lesser key c o)
lesser_small key c None own other = own
lesser_small key c (Some y) own other =
    elim (cases_Bool (nat_le (key c) (key y))) [ inl first ↦ rw first own | inr second ↦ rw second other ]

least_small : (key : CeilingChange → ℕ) (cs : List CeilingChange) (own : ℕ) → own ≤ 4294967295 → All IsSmallChange cs
    → unwrap_or (option_map (λ (x : CeilingChange). x.ceiling) (least_by key cs)) own ≤ 4294967295
least_small key [] own few all = few
least_small key (c ∷ cs) own few all =
    lesser_small key c (least_by key cs) (All-head IsSmallChange c cs all)
    (least_small key cs 0 (omega arith) (All-tail IsSmallChange c cs all))

module _ (d : DossierRows) (valid : IsValid d) where
  ceiling_small : (day h : ℕ) (school : School) → school.ceiling ≤ 4294967295 → ceiling_on d day h school ≤ 4294967295
  ceiling_small day h school few =
      least_small (λ (c : CeilingChange). day - c.day) (changes_until d day h) school.ceiling few
      (All-filter (λ (c : CeilingChange). (c.school == h) && nat_le c.day day) IsSmallChange d.ceilings
      (λ k x lt. let c = (valid.ceilings k x lt).ceiling in omega arith))

  placed_small : (n : ℕ) (schools : List School) → All (λ (x : School). x.ceiling ≤ 4294967295) schools
      → All (λ (x : ℕ × School). x.1.ceiling ≤ 4294967295) (enumerate_from n schools)
  placed_small n [] all = All-nil (λ (x : ℕ × School). x.1.ceiling ≤ 4294967295)
  placed_small n (x ∷ xs) all =
      All-cons (λ (y : ℕ × School). y.1.ceiling ≤ 4294967295) (n, x) _
      (All-head (λ (y : School). y.ceiling ≤ 4294967295) x xs all)
      (placed_small (n + 1) xs (All-tail (λ (y : School). y.ceiling ≤ 4294967295) x xs all))

  ceilings_small : (day : ℕ) → All IsSmall (ceilings_of d day)
  ceilings_small day =
      let placed = placed_small 0 d.schools (λ k x lt. let c = (valid.schools k x lt).ceiling in omega arith) in
      All-map IsSmall (λ (x : ℕ × School). ceiling_on d day x.0 x.1) (enumerate_from 0 d.schools)
      (λ k x lt. let y = get_or (enumerate_from 0 d.schools) k x in ceiling_small day y.0 y.1 (placed k x lt))

  length-ceilings : (day : ℕ) → length (ceilings_of d day) ≡ length d.schools
  length-ceilings day = length-map (enumerate_from 0 d.schools) (λ (x : ℕ × School). ceiling_on d day x.0 x.1)
      ∙ length-enumerate_from 0 d.schools

-- the falls of a run can be told
module _ (s : State) (orders : List CallOrder) (ceilings : List ℕ) (small : All IsSmall ceilings) where
  fall_told : (bars : List ℕ) (f : Fall) → IsAtMost bars ceilings
      → is_overfilled (boarding s orders ceilings) bars f.school ≡ true
      → f ≡ fall_of (boarding s orders ceilings) bars f.school → CanBeTold f
  fall_told bars f under over is =
      let sys = boarding s orders ceilings in
      let h = f.school in
      let top = over_rank sys (boarding_is_lawful s orders ceilings) bars h under over in
      let in_range = over_in sys (boarding_is_lawful s orders ceilings) bars h over in
      let bar : slice_index bars h ≤ 4294967295 = omega (arith, under.each h, id_small ceilings h small) in
      let ranks = demanded_ranks s orders bars h in
      let free = slice_index sys.free h in
      let lt : free < length ranks = in_range.1 in
      let named : length (map (name_of s orders bars h) (take (free + 1) ranks)) ≡ length (take (free + 1) ranks) =
      length-map (take (free + 1) ranks) (name_of s orders bars h) in
      let taken : length (take (free + 1) ranks) ≡ free + 1 = length-take-le (free + 1) ranks (omega (arith, lt)) in
      let wishes : length f.wishes ≡ length (map (name_of s orders bars h) (take (free + 1) ranks)) =
      ap (λ (g : Fall). length g.wishes) is in
      let from : f.from ≡ slice_index bars h = ap (λ (g : Fall). g.from) is in
      let to : f.to ≡ slice_index ranks free - 1 = ap (λ (g : Fall). g.to) is in
      let below : slice_index ranks free ≤ slice_index bars h = top.1 in
      record {
        from = omega (arith, from, bar);
        to = omega (arith, to, below, bar);
        some = omega (arith, wishes, named, taken);
      }

  falls_told : (bars : List ℕ) (falls : List Fall) → IsAtMost bars ceilings
      → AreFalls (boarding s orders ceilings) bars falls → All CanBeTold falls
  falls_told bars [] under are = All-nil CanBeTold
  falls_told bars (f ∷ fs) under are =
      let sys = boarding s orders ceilings in
      let step = falls_under sys (boarding_is_lawful s orders ceilings) bars f.school under are.0 in
      All-cons CanBeTold f fs (fall_told bars f under are.0 are.1)
      (falls_told (fallen bars f) fs (subst (λ (g : Fall). IsAtMost (fallen bars g) ceilings) (sym are.1) step) are.2)

  pass_told : (stamp : Stamp) (end : PassEnd) → IsPassEnd s orders ceilings stamp end → PassCanBeTold end
  pass_told stamp end is = falls_told ceilings end.pass.falls (record { as_many = refl; each = λ i. omega arith })
      is.pass.falls.are_falls

passes_told : (orders : List CallOrder) (ceilings : List ℕ) (day k : ℕ) (s : State) (ends : List PassEnd)
    (evening : State) → All IsSmall ceilings
    → Passes orders ceilings day k s ends evening → All PassCanBeTold ends
passes_told orders ceilings day k s [] evening small are = absurd are
passes_told orders ceilings day k s (end ∷ []) evening small are =
    All-cons PassCanBeTold end [] (pass_told s orders ceilings small (record { day = day; pass = k }) end are.0)
    (All-nil PassCanBeTold)
passes_told orders ceilings day k s (end ∷ next ∷ rest) evening small are =
    let stamp : Stamp = record { day = day; pass = k } in
    All-cons PassCanBeTold end (next ∷ rest) (pass_told s orders ceilings small stamp end are.0)
    (passes_told orders ceilings day (k + 1) (closing s orders end.pass.bars stamp) (next ∷ rest) evening small are.2)

-- a pass of the rules is valid as lines
module _ (s : State) (orders : List CallOrder) (ceilings : List ℕ)
    (distinct : IsDistinct nat_eq (map (λ (x : School). x.id) s.dossier.schools))
    (as_many : length ceilings ≡ length s.dossier.schools)
    (stamp : Stamp) (row : ℕ) (end : PassEnd) (is : IsPassEnd s orders ceilings stamp end) where
  bars_told : bars_by s ceilings (falls_from s.dossier (row + 1) end.pass.falls) ≡ end.pass.bars
  bars_told = (valid_lines s orders ceilings distinct as_many ceilings
      (row + 1) end.pass.falls is.pass.falls.are_falls).1 ∙ sym is.pass.bars

  pass_valid : IsPassChain s orders ceilings (pass_at s.dossier row end)
  pass_valid =
      let lines = valid_lines s orders ceilings distinct as_many ceilings
      (row + 1) end.pass.falls is.pass.falls.are_falls in
      record {
        lines = lines.0;
        settled = subst (λ (bs : List ℕ). IsTrue (is_settled (boarding s orders ceilings) bs))
            (sym lines.1) is.pass.falls.settled;
      }

  frees_so : frees_nothing_by s orders ceilings stamp (pass_at s.dossier row end) ≡ frees_nothing end.freed
  frees_so = ap (λ (bs : List ℕ). frees_nothing (freed_after s orders bs stamp)) bars_told
      ∙ ap frees_nothing (sym is.freed)

  closes_so : closing_by s orders ceilings stamp (pass_at s.dossier row end) ≡ closing s orders end.pass.bars stamp
  closes_so = ap (λ (bs : List ℕ). closing s orders bs stamp) bars_told

passes_valid : (orders : List CallOrder) (ceilings : List ℕ) (day k : ℕ) (s : State) (row : ℕ) (ends : List PassEnd)
    (evening : State) → IsDistinct nat_eq (map (λ (x : School). x.id) s.dossier.schools)
    → length ceilings ≡ length s.dossier.schools → Passes orders ceilings day k s ends evening
    → ArePassChains orders ceilings day k s (passes_from s.dossier row ends) evening
passes_valid orders ceilings day k s row [] evening distinct as_many are = absurd are
passes_valid orders ceilings day k s row (end ∷ []) evening distinct as_many are =
    let stamp : Stamp = record { day = day; pass = k } in (
      pass_valid s orders ceilings distinct as_many stamp row end are.0,
      frees_so s orders ceilings distinct as_many stamp row end are.0 ∙ are.1,
      are.2 ∙ sym (closes_so s orders ceilings distinct as_many stamp row end are.0),
    )
passes_valid orders ceilings day k s row (end ∷ next ∷ rest) evening distinct as_many are =
    let stamp : Stamp = record { day = day; pass = k } in
    let closed = closing s orders end.pass.bars stamp in
    let later = passes_valid orders ceilings day (k + 1) closed (row_after_pass row end)
    (next ∷ rest) evening distinct as_many are.2 in (
      pass_valid s orders ceilings distinct as_many stamp row end are.0,
      ap not (frees_so s orders ceilings distinct as_many stamp row end are.0) ∙ are.1,
      subst (λ (t : State). ArePassChains orders ceilings day (k + 1) t
          (passes_from s.dossier (row_after_pass row end) (next ∷ rest)) evening)
          (sym (closes_so s orders ceilings distinct as_many stamp row end are.0)) later,
    )

-- a day of the rules
module _ (terms : Option Terms) (orders : List CallOrder) (d : ℕ) (old : State) (day : DayRecord) (evening : State)
    (valid : IsValid old.dossier) (number : day.day ≡ d)
    (is : IsDay terms orders (ceilings_of old.dossier d) old day evening) where
  ceilings : List ℕ
  ceilings = ceilings_of old.dossier d

  dawn : State
  dawn = morning terms d old

  here : Passes orders (ceilings_of old.dossier d) d 1 (morning terms d old) day.passes evening
  here = subst (λ n. Passes orders (ceilings_of old.dossier d) n 1 (morning terms n old) day.passes evening) number
      is.passes

  fits : unfit_on terms d old ≡ None
  fits = subst (λ n. unfit_on terms n old ≡ None) number is.fits

  day_valid : (row : ℕ) → IsDayChain orders (ceilings_of old.dossier d) d (morning terms d old)
      (day_at old.dossier row day) evening
  day_valid row =
      let same = morning_dossier terms d old in
      subst (λ (e : DossierRows). ArePassChains orders (ceilings_of old.dossier d) d 1 (morning terms d old)
      (passes_from e (row + 1) day.passes) evening) same
      (passes_valid orders (ceilings_of old.dossier d) d 1 (morning terms d old) (row + 1) day.passes evening
      (subst (λ (e : DossierRows). IsDistinct nat_eq (map (λ (x : School). x.id) e.schools))
      (sym same) valid.ids.schools)
      (subst (λ (e : DossierRows). length (ceilings_of old.dossier d) ≡ length e.schools) (sym same)
      (length-ceilings old.dossier valid d)) here)

  day_told : HasFewPasses day → DayCanBeTold day
  day_told few = record {
    passes = passes_told orders (ceilings_of old.dossier d) d 1
        (morning terms d old) day.passes evening (ceilings_small old.dossier valid d) here;
    few = few;
  }

days_numbered : (terms : Option Terms) (orders : List CallOrder) (d : ℕ) (old : State) (days : List DayRecord)
    (new : State) → Days terms orders d old days new → AreNumbered d days
days_numbered terms orders d old [] new are = tt
days_numbered terms orders d old (day ∷ days) new are = (are.1, days_numbered terms orders (d + 1) are.0 days new are.3)

days_told : (terms : Option Terms) (orders : List CallOrder) (d : ℕ) (old : State) (days : List DayRecord) (new : State)
    → IsValid old.dossier → All HasFewPasses days → Days terms orders d old days new → All DayCanBeTold days
days_told terms orders d old [] new valid few are = All-nil DayCanBeTold
days_told terms orders d old (day ∷ days) new valid few are =
    let same = evening_dossier terms orders (ceilings_of old.dossier d) old day are.0 are.2 in
    All-cons DayCanBeTold day days (day_told terms orders d old day are.0 valid are.1 are.2
    (All-head HasFewPasses day days few))
    (days_told terms orders (d + 1) are.0 days new (subst IsValid (sym same) valid)
    (All-tail HasFewPasses day days few) are.3)

days_valid : (terms : Option Terms) (orders : List CallOrder) (d : ℕ) (old : State) (row : ℕ) (days : List DayRecord)
    (new : State) → IsValid old.dossier → Days terms orders d old days new
    → AreProvedDays terms orders d old (days_from old.dossier row days) new
days_valid terms orders d old row [] new valid are = are
days_valid terms orders d old row (day ∷ days) new valid are =
    let same = evening_dossier terms orders (ceilings_of old.dossier d) old day are.0 are.2 in
    let later = days_valid terms orders (d + 1) are.0 (row_after (row + 1) day.passes) days new
    (subst IsValid (sym same) valid) are.3 in (
      are.0,
      fits terms orders d old day are.0 valid are.1 are.2,
      day_valid terms orders d old day are.0 valid are.1 are.2 row,
      subst (λ (e : DossierRows). AreProvedDays terms orders (d + 1) are.0
          (days_from e (row_after (row + 1) day.passes) days) new) same later,
    )

pub own_chains_are_proved : OwnChainsAreProved
own_chains_are_proved d terms orders days evening valid few passes are = (
  reads_back d valid days (days_numbered terms orders 1 (first_evening d) days evening are) few
      (days_told terms orders 1 (first_evening d) days evening valid passes are),
  days_valid terms orders 1 (first_evening d) 1 days evening valid are,
)
