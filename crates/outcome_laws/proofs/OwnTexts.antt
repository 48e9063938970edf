-- The chain of days of the rules ends a check as done.
use Rattle.std.proofs.Common.{◌≡◌, ◌∙◌, ℕ, suc, ◌+◌, ◌≤◌, List, [], ◌∷◌, All, Option, ap, arith, length, refl, subst}
use Rattle.std.proofs.Common.{sym}
use Rattle.std.specs.Fmt.{decimal}
use Rattle.std.specs.Prelude.{codes, flat_map}
use Rattle.std.specs.List.{enumerate_from}
use Rattle.std.proofs.lemmas.List.{length-append}
use Rattle.std.proofs.lemmas.List.Elements.{All-cons, All-nil}
use Rattle.std.proofs.lemmas.List.FromFn.{length-enumerate_from}
use Rattle.admit_core.specs.Days.{Days, ceilings_of, first_evening, morning}
use Rattle.admit_core.specs.DossierRows.{DossierRows}
use Rattle.admit_core.specs.State.{State}
use Rattle.admit_core.specs.Validity.{IsValid}
use Rattle.admit_core.specs.declared.chain.DayChain.{DayChain}
use Rattle.admit_core.specs.declared.ranking.CallOrder.{CallOrder}
use Rattle.admit_core.specs.declared.records.DayRecord.{DayRecord}
use Rattle.admit_core.specs.declared.records.PassEnd.{PassEnd}
use Rattle.admit_core.specs.declared.records.Terms.{Terms}
use Rattle.certificate.proofs.Ending.{evening_is}
use Rattle.certificate.specs.ChainText.{chain_text, day_lines, pass_lines, passes_lines}
use Rattle.certificate.specs.ProvedDays.{AreProvedDays, evening_after}
use Rattle.certificate.specs.Written.{HasFewPasses, days_from, row_after}
use Rattle.chain_laws.proofs.ValidDays.{own_chains_are_proved}
use Rattle.intake.specs.Dated.{terms_in}
use Rattle.modes.proofs.CheckedDay.{proved_none}
use Rattle.intake.specs.declared.terms.DatedTerms.{DatedTerms}
use Rattle.modes.specs.Checking.{EndsCheck, IsDoneUnless, IsChecked, IsReply, proved_text}
use Rattle.modes.specs.declared.exit.Exit.{Exit}
use Rattle.modes.specs.declared.exit.Exit.TheVariants.{Done}
use Rattle.report.specs.Words.{further, line}
use Rattle.outcome_laws.specs.Checks.{OwnTextsAreProved}

-- ---- as many passes as a slot has bytes are few
further_long : (byte : ℕ) (words : List (List ℕ)) → 1 ≤ length (further byte words)
further_long byte [] = omega arith
further_long byte (word ∷ words) = omega arith

-- a list of texts is no shorter than the list that they are of
many_long : {X : Type 0} (f : X → List ℕ) → ((x : X) → 1 ≤ length (f x)) → (xs : List X)
    → length xs ≤ length (flat_map f xs)
many_long f long [] = omega arith
many_long f long (x ∷ xs) = omega (arith, length-append (f x) (flat_map f xs), long x, many_long f long xs)

pass_long : (d : DossierRows) (x : ℕ × PassEnd) → 1 ≤ length (pass_lines d x)
pass_long d x = omega arith

passes_few : (d : DossierRows) (day : DayRecord) → length day.passes ≤ length (day_lines d day)
passes_few d day =
    let passes : length (enumerate_from 1 day.passes) ≤ length (passes_lines d day.passes) =
    many_long (pass_lines d) (pass_long d) (enumerate_from 1 day.passes) in
    let whole = length-append (line (codes "day" ∷ decimal day.day ∷ [])) (passes_lines d day.passes) in
    omega (arith, whole, length-enumerate_from 1 day.passes, passes)

few_in : (d : DossierRows) (days : List DayRecord) → length (flat_map (day_lines d) days) ≤ 1073741824
    → All HasFewPasses days
few_in d [] le = All-nil HasFewPasses
few_in d (day ∷ days) le =
    let parts = length-append (day_lines d day) (flat_map (day_lines d) days) in
    All-cons HasFewPasses day days (omega (arith, passes_few d day, parts, le))
    (few_in d days (omega (arith, parts, le)))

few_of : (d : DossierRows) (days : List DayRecord) → length (chain_text d days) ≤ 1073741824
    → All HasFewPasses days
few_of d days le =
    few_in d days (omega (arith, length-append (flat_map (day_lines d) days) (line (codes "end" ∷ [])), le))

-- ---- the evening to which proved days lead
evening_of : (terms : Option Terms) (orders : List CallOrder) (d : ℕ) (old : State) (chains : List DayChain)
    (new : State) → AreProvedDays terms orders d old chains new
    → evening_after terms orders d old chains ≡ new
evening_of terms orders d old [] new are = are
evening_of terms orders d old (chain ∷ chains) new are =
    let leads = evening_is orders (ceilings_of old.dossier d) d 1 (morning terms d old) chain.passes are.0 are.2 in
    ap (λ (s : State). evening_after terms orders (d + 1) s chains) (sym leads)
    ∙ evening_of terms orders (d + 1) are.0 chains new are.3

days_as_many : (d : DossierRows) (row : ℕ) (days : List DayRecord) → length (days_from d row days) ≡ length days
days_as_many d row [] = refl
days_as_many d row (day ∷ days) = ap suc (days_as_many d (row_after (row + 1) day.passes) days)

-- a check of the chain ends so and in no other way
pub ends_as : (d : DossierRows) (dated : Option DatedTerms) (orders : List CallOrder) (days : List DayRecord)
    (evening : State) → IsValid d → length days ≤ 366
    → length (chain_text d days) ≤ 1073741824 → Days (terms_in dated) orders 1 (first_evening d) days evening
    → IsChecked d (chain_text d days) dated orders ≡ IsReply Done (proved_text (length days) evening dated)
ends_as d dated orders days evening valid few fits are =
    let terms : Option Terms = terms_in dated in
    let first : State = first_evening d in
    let own = own_chains_are_proved d terms orders days evening valid few (few_of d days fits) are in
    let chains : List DayChain = days_from d 1 days in
    let whole : List ℕ = proved_text (length chains) (evening_after terms orders 1 first chains) dated in
    ap (EndsCheck d dated orders) own.0
    ∙ ap (λ why. IsDoneUnless d why whole) (proved_none terms orders 1 first chains evening own.1)
    ∙ ap (λ (n : ℕ). IsReply Done (proved_text n (evening_after terms orders 1 first chains) dated))
    (days_as_many d 1 days)
    ∙ ap (λ (s : State). IsReply Done (proved_text (length days) s dated))
    (evening_of terms orders 1 first chains evening own.1)

pub own_texts_are_proved : OwnTextsAreProved
own_texts_are_proved d dated orders days evening exit text valid few fits are checked =
    subst (λ (Ends : Exit → List ℕ → Type 0). Ends exit text)
    (ends_as d dated orders days evening valid few fits are) checked
