-- The mode `check`: the days of a chain, tested one after another.
use Rattle.std.specs.Prelude.{◌≡◌, ◌≢◌, ℕ, ◌+◌, ◌<◌, List, [], ◌∷◌, ◌++◌, Option, Some, None, Result, Ok, Err}
use Rattle.std.specs.Prelude.{MatchResult, Vec, codes, length, option_map, ⊤}
use Rattle.std.specs.Fmt.{decimal}
use Rattle.std.specs.Option.{option_or}
use Rattle.std.specs.declared.alloc.Global.{Global}
use Rattle.admit_core.specs.CallOrder.{AreCallOrders}
use Rattle.admit_core.specs.ChainLines.{chain_fault_text}
use Rattle.admit_core.specs.Chains.{day_fault}
use Rattle.admit_core.specs.Days.{ceilings_of, first_evening, morning, unfit_on}
use Rattle.admit_core.specs.DossierRows.{DossierRows}
use Rattle.admit_core.specs.State.{State}
use Rattle.admit_core.specs.declared.chain.Chain.{Chain}
use Rattle.admit_core.specs.declared.chain.ChainFault.{ChainFault}
use Rattle.admit_core.specs.declared.chain.CheckReason.{CheckReason}
use Rattle.admit_core.specs.declared.chain.CheckReason.TheVariants.{PassMissing}
use Rattle.admit_core.specs.declared.chain.DayChain.{DayChain}
use Rattle.admit_core.specs.declared.ranking.CallOrder.{CallOrder}
use Rattle.admit_core.specs.declared.records.Terms.{Terms}
use Rattle.admit_core.specs.declared.refusal.OutOfMemory.{OutOfMemory}
use Rattle.certificate.specs.Grammar.{read}
use Rattle.certificate.specs.ProvedDays.{AreProvedDays, evening_after, evening_by}
use Rattle.certificate.specs.VerdictText.{verdict_text}
use Rattle.desk_day.specs.AnswersOn.{unfit_refusal}
use Rattle.intake.specs.Dated.{terms_in}
use Rattle.intake.specs.Input.{Job}
use Rattle.intake.specs.declared.terms.DatedTerms.{DatedTerms}
use Rattle.report.specs.RefusalText.{refusal_line}
use Rattle.report.specs.Words.{line}
use Rattle.request.specs.declared.modes.Mode.{Mode}
use Rattle.request.specs.declared.modes.Mode.TheVariants.{Check}
use Rattle.modes.specs.Jobs.{FitsAnswers, dossier, terms_of}
use Rattle.modes.specs.Replay.{final_lines}
use Rattle.modes.specs.declared.exit.Exit.{Exit}
use Rattle.modes.specs.declared.exit.Exit.TheVariants.{Done, Refused, NotProved}
use Rattle.modes.specs.declared.reply.Reply.{Reply}
use Rattle.modes.specs.declared.unproved.Unproved.{Unproved}
use Rattle.modes.specs.declared.unproved.Unproved.TheVariants as unproved
use Rattle.modes.specs.declared.unproved.Why.{Why}
use Rattle.modes.specs.declared.unproved.Why.TheVariants.{NoChain, Unfit, Rejected}

-- a fault of a day's chain
abbrev pub rejected_at : Option (ℕ × CheckReason) → Option Why
rejected_at fault = option_map (λ x. Rejected (record { row = x.0; reason = x.1 })) fault

-- why a day is not proved: its first answer that does not fit, or else the first fault of its chain
abbrev pub why_not : Option Terms → List CallOrder → ℕ → State → DayChain → Option Why
why_not terms orders d old chain =
    option_or (option_map (λ x. Unfit (unfit_refusal old.dossier d x)) (unfit_on terms d old))
    (rejected_at (day_fault orders (ceilings_of old.dossier d) d (morning terms d old) chain))

-- why a day is not proved whose chain has no pass
abbrev pub why_without_pass : Option Terms → ℕ → State → DayChain → Option Why
why_without_pass terms d old chain =
    option_or (option_map (λ x. Unfit (unfit_refusal old.dossier d x)) (unfit_on terms d old))
    (Some (Rejected (record { row = chain.next_row; reason = PassMissing })))

-- memory may run out on a day only where its answers fit and its chain has a pass
pub record MayLackMemory (terms : Option Terms) (day : ℕ) (old : State) (chain : DayChain)
    : Type 0 where
  pub fits : unfit_on terms day old ≡ None
  pub has_pass : chain.passes ≢ []

-- on days from this one on it may run out only where it may on the first of them
abbrev pub DaysMayLackMemory : Option Terms → ℕ → State → List DayChain → Type 0
DaysMayLackMemory terms day old [] = ⊥
DaysMayLackMemory terms day old (chain ∷ chains) = MayLackMemory terms day old chain

-- why days from day d on are not all proved: by the first of them that is not
abbrev pub why_not_all : Option Terms → List CallOrder → ℕ → State → List DayChain → Option Why
why_not_all terms orders d old [] = None
why_not_all terms orders d old (chain ∷ chains) =
    option_or (why_not terms orders d old chain)
    (why_not_all terms orders (d + 1) (evening_by terms orders d old chain) chains)

-- the exit and the text of a run
abbrev pub IsReply : Exit → List ℕ → Exit → List ℕ → Type 0
IsReply its_exit its_text exit text = (exit ≡ its_exit) × (text ≡ its_text)

-- the text where so many days are proved
abbrev pub proved_text : ℕ → State → Option DatedTerms → List ℕ
proved_text number evening dated =
    line (codes "proved" ∷ decimal number ∷ []) ++ final_lines evening dated

-- the exit of a run whose chain is refused
abbrev pub exit_by : Why → Exit
exit_by (NoChain fault) = NotProved
exit_by (Unfit refusal) = Refused
exit_by (Rejected found) = NotProved

-- the line that tells why a chain is refused
abbrev pub why_line : DossierRows → Why → List ℕ
why_line d (NoChain fault) = chain_fault_text fault ++ 10 ∷ []
why_line d (Unfit refusal) = refusal_line refusal
why_line d (Rejected found) = verdict_text d found.row found.reason

abbrev pub IsRefused : DossierRows → Why → Exit → List ℕ → Type 0
IsRefused d why = IsReply (exit_by why) (why_line d why)

-- a run is done with its whole text, unless this stands against it: then it is refused
abbrev pub IsDoneUnless : DossierRows → Option Why → List ℕ → Exit → List ℕ → Type 0
IsDoneUnless d None whole = IsReply Done whole
IsDoneUnless d (Some why) whole = IsRefused d why

-- a text that is no chain has one line; else the days of the chain are tested, from the first
-- evening on
abbrev pub EndsCheck : DossierRows → Option DatedTerms → List CallOrder → Result Chain ChainFault
    → Exit → List ℕ → Type 0
EndsCheck d dated orders (Err fault) = IsRefused d (NoChain fault)
EndsCheck d dated orders (Ok chain) =
    IsDoneUnless d (why_not_all (terms_in dated) orders 1 (first_evening d) chain.days)
    (proved_text (length chain.days)
    (evening_after (terms_in dated) orders 1 (first_evening d) chain.days) dated)

-- the reply to a chain that is refused: its line, unless this is longer than the room of one
abbrev pub TellsRefused : DossierRows → Why → Result Reply OutOfMemory → Type 0
TellsRefused d why result =
    MatchResult result (λ reply. IsRefused d why reply.exit reply.text.items)
    (λ _. 128 < length (why_line d why))

-- the reply once the days of a chain have been tested: memory runs out exactly where it did in the
-- test, or for a line that is longer than its room
abbrev pub IsReplyAfterTest : DossierRows → Result (Vec ℕ Global) Unproved
    → Result Reply OutOfMemory → Type 0
IsReplyAfterTest d (Ok text) result =
    MatchResult result (λ reply. IsReply Done text.items reply.exit reply.text.items) (λ _. ⊥)
IsReplyAfterTest d (Err (unproved.Refused why)) result = TellsRefused d why result
IsReplyAfterTest d (Err unproved.OutOfMemory) result = MatchResult result (λ _. ⊥) (λ _. ⊤)

-- how a run ends whose chain slot has these bytes
abbrev pub IsChecked : DossierRows → List ℕ → Option DatedTerms → List CallOrder → Exit
    → List ℕ → Type 0
IsChecked d bytes dated orders = EndsCheck d dated orders (read bytes)

-- a chain that is handed in proves its days
abbrev pub HasProof : Job → Type 0
HasProof job =
    (orders : List CallOrder)
    → AreCallOrders (dossier job).groups orders
    → (chain : Chain) × (evening : State) × (read job.chain ≡ Ok chain)
    × AreProvedDays (terms_of job) orders 1 (first_evening (dossier job)) chain.days evening

abbrev pub HandsInProof : Mode → Job → Type 0
HandsInProof Check job = HasProof job
HandsInProof _ job = Unit {0}

-- nothing that is handed in keeps a job from being done: each answer fits, and the chain proves its
-- days
pub record CanBeDone (job : Job) : Type 0 where
  pub fits : FitsAnswers job
  pub proves : HandsInProof job.request.mode job
