-- Days whose falls are kept or left out.
use Rattle.std.proofs.Common.{◌≡◌, Bool, true, List, [], ◌∷◌, map, Result, Ok, Err, refl, sym, ◌∙◌, ap}
use Rattle.std.proofs.Common.{subst}
use Rattle.admit_core.specs.declared.records.DayRecord.{DayRecord}
use Rattle.admit_core.specs.declared.records.PassEnd.{PassEnd}
use Rattle.round.specs.KeptFalls.{IsKeptOf}
use Rattle.desk_day.specs.KeptDays.{kept_day, kept_end, kept_result}
use Rattle.desk_day.specs.declared.refusal.DayRefusal.{DayRefusal}

-- where falls are kept, all is
ends_whole : (ends : List PassEnd) → map (kept_end true) ends ≡ ends
ends_whole [] = refl
ends_whole (end ∷ ends) = ap (λ (es : List PassEnd). end ∷ es) (ends_whole ends)

pub day_whole : (day : DayRecord) → kept_day true day ≡ day
day_whole day = ap (λ (es : List PassEnd). record day { passes = es }) (ends_whole day.passes)

result_whole : (result : Result DayRecord DayRefusal) → kept_result true result ≡ result
result_whole (Ok day) = ap Ok (day_whole day)
result_whole (Err refusal) = refl

pub ends_whole_day : (Holds : Result DayRecord DayRefusal → Type 0) (result : Result DayRecord DayRefusal)
    → IsKeptOf (kept_result true) Holds result → Holds result
ends_whole_day Holds result is = subst Holds (sym (result_whole is.0) ∙ sym is.2) is.1

-- what is kept of a day that came about is kept of a day that did
module _ (keeps : Bool) (Holds : Result DayRecord DayRefusal → Type 0) where
  came_about : (kept : DayRecord) (whole : Result DayRecord DayRefusal) → Holds whole
      → Ok kept ≡ kept_result keeps whole
      → IsKeptOf (kept_day keeps) (λ day. Holds (Ok day)) kept
  came_about kept (Ok day) holds same = (day, holds, cc)
  came_about kept (Err refusal) holds same = absurd (cc)

  pub day_kept : {result : Result DayRecord DayRefusal} (kept : DayRecord) → result ≡ Ok kept
      → IsKeptOf (kept_result keeps) Holds result
      → IsKeptOf (kept_day keeps) (λ day. Holds (Ok day)) kept
  day_kept kept came is = came_about kept is.0 is.1 (sym came ∙ is.2)

  -- and of one that did not nothing else is kept
  refused_so : (refusal : DayRefusal) (whole : Result DayRecord DayRefusal) → Holds whole
      → Err refusal ≡ kept_result keeps whole → Holds (Err refusal)
  refused_so refusal (Ok day) holds same = absurd (cc)
  refused_so refusal (Err other) holds same =
      let here : refusal ≡ other = cc in
      subst (λ (r : DayRefusal). Holds (Err r)) (sym here) holds

  pub refusal_kept : {result : Result DayRecord DayRefusal} (refusal : DayRefusal) → result ≡ Err refusal
      → IsKeptOf (kept_result keeps) Holds result → Holds (Err refusal)
  refusal_kept refusal came is = refused_so refusal is.0 is.1 (sym came ∙ is.2)
