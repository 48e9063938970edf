-- How a check of a chain may end.
use Rattle.std.proofs.Common.{◌≡◌, ℕ, List, Option, None, Some, Result, Ok, Err, length, subst, sym}
use Rattle.admit_core.specs.Days.{first_evening}
use Rattle.admit_core.specs.DossierRows.{DossierRows}
use Rattle.admit_core.specs.State.{State}
use Rattle.admit_core.specs.declared.chain.Chain.{Chain}
use Rattle.admit_core.specs.declared.chain.ChainFault.{ChainFault}
use Rattle.admit_core.specs.declared.ranking.CallOrder.{CallOrder}
use Rattle.certificate.specs.Grammar.{read}
use Rattle.certificate.specs.ProvedDays.{AreProvedDays, evening_after}
use Rattle.intake.specs.Dated.{terms_in}
use Rattle.intake.specs.declared.terms.DatedTerms.{DatedTerms}
use Rattle.modes.proofs.CheckedDay.{proved_none}
use Rattle.modes.specs.Checking.{EndsCheck, IsDoneUnless, IsChecked, proved_text}
use Rattle.modes.specs.declared.exit.Exit.{Exit}
use Rattle.modes.specs.declared.exit.Exit.TheVariants as exits
use Rattle.modes.specs.declared.unproved.Why.{Why}
use Rattle.modes.specs.declared.unproved.Why.TheVariants as whys

-- the exits after the days of a run
abbrev pub IsAfterDays : Exit → Type 0
IsAfterDays exits.Done = Unit {0}
IsAfterDays exits.Refused = Unit {0}
IsAfterDays exits.NotProved = Unit {0}
IsAfterDays _ = ⊥

pub is_after : (exit is : Exit) → exit ≡ is → IsAfterDays is → IsAfterDays exit
is_after exit is e after = subst IsAfterDays (sym e) after

proof_exit : (d : DossierRows) (why : Option Why) (whole : List ℕ) (exit : Exit) (text : List ℕ)
    → IsDoneUnless d why whole exit text → IsAfterDays exit
proof_exit d None whole exit text ends = is_after exit exits.Done ends.0 tt
proof_exit d (Some (whys.NoChain fault)) whole exit text ends = is_after exit exits.NotProved ends.0 tt
proof_exit d (Some (whys.Unfit refusal)) whole exit text ends = is_after exit exits.Refused ends.0 tt
proof_exit d (Some (whys.Rejected found)) whole exit text ends = is_after exit exits.NotProved ends.0 tt

read_exit : (d : DossierRows) (dated : Option DatedTerms) (orders : List CallOrder) (chain : Result Chain ChainFault)
    (exit : Exit) (text : List ℕ) → EndsCheck d dated orders chain exit text → IsAfterDays exit
read_exit d dated orders (Err fault) exit text ends = is_after exit exits.NotProved ends.0 tt
read_exit d dated orders (Ok chain) exit text ends = proof_exit d _ _ exit text ends

pub check_exit : (d : DossierRows) (bytes : List ℕ) (dated : Option DatedTerms) (orders : List CallOrder) (exit : Exit)
    (text : List ℕ) → IsChecked d bytes dated orders exit text → IsAfterDays exit
check_exit d bytes dated orders exit text ends = read_exit d dated orders (read bytes) exit text ends

-- where a chain proves its days, nothing is against them
pub check_done : (d : DossierRows) (dated : Option DatedTerms) (orders : List CallOrder) (bytes : List ℕ)
    (chain : Chain) (evening : State) (exit : Exit) (text : List ℕ) → read bytes ≡ Ok chain
    → AreProvedDays (terms_in dated) orders 1 (first_evening d) chain.days evening
    → IsChecked d bytes dated orders exit text → exit ≡ exits.Done
check_done d dated orders bytes chain evening exit text reads are ends =
    let told : EndsCheck d dated orders (Ok chain) exit text =
    subst (λ (r : Result Chain ChainFault). EndsCheck d dated orders r exit text) reads ends in
    let whole = proved_text (length chain.days)
    (evening_after (terms_in dated) orders 1 (first_evening d) chain.days) dated in
    let none = proved_none (terms_in dated) orders 1 (first_evening d) chain.days evening are in
    let done : IsDoneUnless d None whole exit text =
    subst (λ (o : Option Why). IsDoneUnless d o whole exit text) none told in
    done.0
