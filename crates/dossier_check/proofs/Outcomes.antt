-- What a check of several slots answers.
use Rattle.std.proofs.Common.{◌≡◌, Option, None, Some, Result, Ok, Err, IsErr, IsErrAnd, refl, ap, ◌∙◌}
use Rattle.std.specs.Option.{option_or}
use Rattle.std.specs.Prelude.{OnErr}
use Rattle.std.proofs.lemmas.Bool.{false≢true}
use Rattle.admit_core.specs.declared.refusal.Refusal.{Refusal}
use Rattle.admit_core.specs.declared.refusal.InFault.{InFault}
use Rattle.admit_core.specs.declared.refusal.InFault.TheVariants.{Refused, OutOfMemory}
use Rattle.admit_core.specs.declared.slot.Slot.TheVariants as slots
use Rattle.admit_core.specs.declared.tables.Tables.{Tables}
use Rattle.admit_core.specs.Faults.{first_in}
use Rattle.admit_core.specs.Relations.{first_fault, group_tests, programme_tests, school_tests, ranking_tests}
use Rattle.admit_core.specs.Relations.{boarding_tests}
use Rattle.dossier_check.specs.Outcome.{AnswersFault, MayLack, first_in_named, first_in_ranks, first_from_wishes}

-- after a slot without a fault, the first fault is that of the others
pub after_none : {A : Type 0} (result : Result A InFault) (fault rest : Option Refusal) → fault ≡ None
    → AnswersFault result rest → AnswersFault result (option_or fault rest)
after_none result fault rest none answers = rw none answers

-- a fault of a slot is the first, whatever follows
pub first_here : {A : Type 0} (result : Result A InFault) (fault rest : Option Refusal) → IsErr result
    → AnswersFault result fault → AnswersFault result (option_or fault rest)
first_here (Ok a) fault rest stops answers = absurd (false≢true stops)
first_here (Err (Refused refusal)) fault rest stops answers = rw answers refl
first_here (Err OutOfMemory) fault rest stops answers = tt

pub none_then : (fault rest : Option Refusal) → fault ≡ None → rest ≡ None → option_or fault rest ≡ None
none_then fault rest none others = rw (none, others) refl

-- an error that a `?` hands on
pub handed_on : {B : Type 0} (result : Result B InFault) (e : InFault) (fault : Option Refusal)
    → IsErrAnd result (λ x. x ≡ e) → AnswersFault {A = Unit {0}} (Err e) fault → AnswersFault result fault
handed_on (Ok b) e fault err answers = absurd err
handed_on (Err x) e fault err answers = rw err answers

-- want of memory answers any fault
pub out_of_memory : {B : Type 0} (result : Result B InFault) (fault : Option Refusal)
    → IsErrAnd result (λ x. x ≡ OutOfMemory) → AnswersFault result fault
out_of_memory (Ok b) fault err = absurd err
out_of_memory (Err x) fault err = rw err tt

-- what an error tells, and what follows from it
pub on_err_of : {T E P Q : Type 0} (r : Result T E) → (P → Q) → OnErr r P → OnErr r Q
on_err_of (Ok x) more p = tt
on_err_of (Err e) more p = more p

-- what takes memory may lack some
pub may_lack : {B T : Type 0} (result : Result B InFault) → T → MayLack T result
may_lack (Ok b) takes = tt
may_lack (Err (Refused refusal)) takes = tt
may_lack (Err OutOfMemory) takes = takes

-- what takes none lacks none
pub lacks_none : {B T : Type 0} (result : Result B InFault) → (T → ⊥) → MayLack T result → MayLack ⊥ result
lacks_none (Ok b) none lack = tt
lacks_none (Err (Refused refusal)) none lack = tt
lacks_none (Err OutOfMemory) none lack = none lack

-- the first of three and then of others
three_then : (a b c rest : Option Refusal)
    → option_or (option_or a (option_or b (option_or c None))) rest ≡ option_or a (option_or b (option_or c rest))
three_then (Some a) b c rest = refl
three_then None (Some b) c rest = refl
three_then None None (Some c) rest = refl
three_then None None None rest = refl

-- the same of two
two_then : (a b rest : Option Refusal) → option_or (option_or a (option_or b None)) rest
    ≡ option_or a (option_or b rest)
two_then a b rest = three_then a b None rest

-- the first fault, part by part
pub in_parts : (t : Tables) → option_or (first_in_named t) (option_or (first_in_ranks t) (first_from_wishes t))
    ≡ first_fault t
unfolding first_in_named first_in_ranks first_from_wishes
in_parts t =
    let groups : Option Refusal = first_in slots.Groups group_tests t.groups in
    let programmes : Option Refusal = first_in slots.Programmes (programme_tests t) t.programmes in
    let schools : Option Refusal = first_in slots.Schools school_tests t.schools in
    let rankings : Option Refusal = first_in slots.Rankings (ranking_tests t) t.rankings in
    let boarding : Option Refusal = first_in slots.Boarding (boarding_tests t) t.boarding in
    three_then groups programmes schools _
    ∙ ap (λ rest. option_or groups (option_or programmes (option_or schools rest))) (two_then rankings boarding _)
