-- What a run answers before anything is written.
use Rattle.std.specs.Prelude.{◌≡◌, ℕ, List, Option, None, Some, Result, Ok, Err, IfOk, IsErrAnd, OnErr}
use Rattle.intake.specs.Input.{IsInputOf, IsJobOf, Job, TakesIn}
use Rattle.intake.specs.Shelves.{OnShelf}
use Rattle.intake.specs.declared.input.Input.{Input}
use Rattle.intake.specs.declared.stop.Stop.{Stop}
use Rattle.modes.specs.Stopping.{HasNoLine, IsStoppedBy}
use Rattle.modes.specs.declared.reply.Reply.{Reply}
use Rattle.played.specs.Lent.{AreBack, Lent}
use Rattle.replay_cli.specs.Answering.{IsOfWords}
use Rattle.morning_cli.specs.SlotWanted.{IsAsked, asked_of}
use Rattle.morning_cli.specs.Morning.{IsSlotEnding}
use Rattle.morning_cli.specs.declared.asked.Asked.{Asked}

-- the input alone
abbrev pub input_in : Result (Asked × Input) Stop → Result Input Stop
input_in (Ok x) = Ok x.1
input_in (Err stop) = Err stop

-- with bad words no slot is touched; otherwise the slots of the run are taken in
abbrev pub TakesFor : Option Asked → OnShelf → OnShelf → Result (Asked × Input) Stop → Type 0
TakesFor None before after result = IsErrAnd result IsOfWords × (after ≡ before)
TakesFor (Some asked) before after result =
    IfOk result (λ x. x.0 ≡ asked) × TakesIn asked.request before after (input_in result)

-- what the words ask for is taken in
pub record TakesAsked (words : List (List ℕ)) (before after : OnShelf)
    (result : Result (Asked × Input) Stop) : Type 0 where
  pub takes : TakesFor (asked_of words) before after result
  pub known : IfOk result (λ x. IsAsked x.0)

-- the reply to what was taken in: the pickers are back, and each job with this input ends by it; or
-- to why nothing was: no picker is asked, and there is no reply only where the stop has no line
abbrev pub RepliesTo : {E : Type 0} → Result (Asked × Input) Stop → Lent → Lent
    → Result Reply E → Type 0
RepliesTo (Ok x) before after result =
    AreBack before after
    × ((job : Job) → IsJobOf x.0.request job → IsInputOf job x.1
    → IfOk result (λ reply. IsSlotEnding x.0.slot job before after reply.exit reply.text.items))
RepliesTo (Err stop) before after result =
    (after ≡ before) × IfOk result (λ reply. IsStoppedBy stop reply.exit reply.text.items)
    × OnErr result (HasNoLine stop)

-- the exit and the text of a run, before anything is written, with the shelf and the pickers before
-- it and after it
pub record RepliesSlot {E : Type 0} (words : List (List ℕ)) (shelf shelf' : OnShelf)
    (before after : Lent) (result : Result Reply E) : Type 0 where
  pub taken : Result (Asked × Input) Stop
  pub takes : TakesAsked words shelf shelf' taken
  pub replies : RepliesTo taken before after result
