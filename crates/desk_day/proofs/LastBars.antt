-- The bars of a day's last pass.
use Rattle.std.proofs.Common.{ℕ, zero, suc, ◌+◌, ◌-◌, ◌≡◌, List, [], ◌∷◌, length, arith, ap, sym, ◌∙◌, Some}
use Rattle.std.specs.Prelude.{slice_get}
use Rattle.std.specs.List.{enumerate_from}
use Rattle.std.proofs.lemmas.List.{length-map}
use Rattle.std.proofs.lemmas.List.FromFn.{length-enumerate_from}
use Rattle.admit_core.specs.declared.ranking.CallOrder.{CallOrder}
use Rattle.admit_core.specs.declared.dossier.School.{School}
use Rattle.admit_core.specs.declared.records.PassEnd.{PassEnd}
use Rattle.admit_core.specs.DossierRows.{DossierRows}
use Rattle.admit_core.specs.State.{State}
use Rattle.admit_core.specs.Days.{Passes, closing, ceiling_on, ceilings_of}
use Rattle.admit_core.specs.EveningLaws.{last_bars}
use Rattle.desk_day.specs.DayPasses.{stamp_of}

-- there is one bar for each ceiling
pub last_bars_long : (orders : List CallOrder) (ceilings : List ℕ) (day k : ℕ) (s evening : State)
    (passes : List PassEnd)
    → Passes orders ceilings day k s passes evening
    → length (last_bars passes) ≡ length ceilings
last_bars_long orders ceilings day k s evening [] are = absurd are
last_bars_long orders ceilings day k s evening (pass ∷ []) are = are.0.pass.greatest.fits.under_ceilings.as_many
last_bars_long orders ceilings day k s evening (pass ∷ next ∷ rest) are =
    last_bars_long orders ceilings day (k + 1) (closing s orders pass.pass.bars (stamp_of day k)) evening
    (next ∷ rest) are.2

-- and one ceiling for each school
pub length-ceilings_of : (d : DossierRows) (day : ℕ) → length (ceilings_of d day) ≡ length d.schools
length-ceilings_of d day =
    length-map (enumerate_from 0 d.schools) (λ (x : ℕ × School). ceiling_on d day x.0 x.1)
    ∙ length-enumerate_from 0 d.schools

some_same : (x y : PassEnd) → Some x ≡ Some y → x ≡ y
some_same x y e = (cc)

-- they are those of the pass that stands last
pub last_bars_are : (passes : List PassEnd) (last : PassEnd) → Some last ≡ slice_get passes (length passes - 1)
    → last_bars passes ≡ last.pass.bars
last_bars_are [] last e = absurd (cc)
last_bars_are (pass ∷ []) last e =
    let at : length (pass ∷ []) - 1 ≡ zero = omega arith in
    ap (λ (p : PassEnd). p.pass.bars) (sym (some_same last pass (e ∙ ap (slice_get (pass ∷ [])) at)))
last_bars_are (pass ∷ next ∷ rest) last e =
    let at : length (pass ∷ next ∷ rest) - 1 ≡ suc (length (next ∷ rest) - 1) = omega arith in
    last_bars_are (next ∷ rest) last (e ∙ ap (slice_get (pass ∷ next ∷ rest)) at)
