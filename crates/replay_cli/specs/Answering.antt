-- What a run answers before anything is written.
use Rattle.std.specs.Prelude.{◌≡◌, ◌⊎◌, ℕ, List, [], Contains, Option, None, Some, Result, IfErr, IfOk}
use Rattle.std.specs.Prelude.{IsErrAnd, IsNone, IsOkAnd, IsTrue, OnErr, ⊤}
use Rattle.admit_core.specs.declared.slot.Slot.{Slot}
use Rattle.intake.specs.Input.{IsInputFor, accepted}
use Rattle.intake.specs.Shelves.{OnShelf, TakesSlots, Tells}
use Rattle.intake.specs.Stops.{Stopped}
use Rattle.intake.specs.declared.input.Input.{Input}
use Rattle.intake.specs.declared.stop.Stop.{Stop}
use Rattle.intake.specs.declared.stop.Stop.TheVariants as stops
use Rattle.modes.specs.Exits.{ends_unasked, is_answer}
use Rattle.modes.specs.Checking.{CanBeDone}
use Rattle.modes.specs.declared.exit.Exit.TheVariants.{BadWords, Done, ReadFault}
use Rattle.modes.specs.declared.reply.Reply.{Reply}
use Rattle.played.specs.Lent.{AreBack, Lent, Untold}
use Rattle.request.specs.Modes.{slots_of}
use Rattle.request.specs.Request.{IsRequest, request_of}
use Rattle.request.specs.declared.request.Request.{Request}
use Rattle.slot_io.specs.Faults.{NoneFell, Rose}
use Rattle.replay_cli.specs.Outcome.{IsBroken, WantsNoPicker, IsOutcome, NamesFault, slots_read}
use Rattle.replay_cli.specs.Run.{IsQuiet, KeepsOthers, SameFaults}

-- what stops the reading of the words
abbrev pub IsOfWords : Stop → Type 0
IsOfWords stops.BadWords = ⊤
IsOfWords stops.OutOfMemory = ⊤
IsOfWords (stops.Refused refusal) = ⊥
IsOfWords (stops.ReadFault slot) = ⊥
IsOfWords (stops.NoSuch name) = ⊥

-- with bad words no slot is touched; otherwise the slots of the mode are taken
abbrev pub TakesAsked : {A : Type 0} → Option Request → OnShelf → OnShelf → Result A Stop → Type 0
TakesAsked None before after result = IsErrAnd result IsOfWords × (after ≡ before)
TakesAsked (Some request) before after result =
    TakesSlots (slots_of request.mode) before after result

-- what the words ask for is taken in
pub record TakesAll (words : List (List ℕ)) (before after : OnShelf)
    (result : Result (Request × Input) Stop) : Type 0 where
  pub asked : IfOk result (λ x. request_of words ≡ Some x.0)
  pub known : IfOk result (λ x. IsRequest x.0)
  pub input : IfOk result (λ x. IsInputFor x.0 before x.1)
  pub stop : IfErr result (λ stop. (slots : Slot → List ℕ)
      → Tells (slots_read (request_of words)) before.left slots
      → Stopped stop (accepted words slots))
  pub slots : TakesAsked (request_of words) before after result

-- the exit and the text of a run, before anything is written, with the shelf and the pickers before
-- it and after it
pub record Replies {E : Type 0} (words : List (List ℕ)) (shelf shelf' : OnShelf)
    (before after : Lent) (result : Result Reply E) : Type 0 where
  pub outcome : IfOk result (λ reply. (slots : Slot → List ℕ)
      → Tells (slots_read (request_of words)) shelf.left slots
      → IsTrue (is_answer reply.exit)
      → IsOutcome words slots before after reply.exit reply.text.items)
  pub broken : (slots : Slot → List ℕ) → Tells (slots_read (request_of words)) shelf.left slots
      → OnErr result (IsBroken words slots before after)
  pub kinds : IfOk result (λ reply. IsTrue (is_answer reply.exit)
      ⊎ ((reply.exit ≡ ReadFault) × NamesFault (request_of words) shelf shelf' reply.text.items))
  pub same_faults : IfOk result (λ reply. IsTrue (is_answer reply.exit)
      → SameFaults (slots_read (request_of words)) shelf shelf')
  pub untold : IfOk result (λ reply. IsTrue (ends_unasked reply.exit) → Untold before after)
  pub bad_words : IfOk result (λ reply. reply.exit ≡ BadWords → IsNone (request_of words))
  pub only_bad : IsNone (request_of words) → IfOk result (λ reply. reply.exit ≡ BadWords)
  pub untouched : IsNone (request_of words) → shelf' ≡ shelf
  pub ends : (slots : Slot → List ℕ) → Tells (slots_read (request_of words)) shelf.left slots
      → IfOk result (λ reply. reply.exit ≡ Done → (slot : Slot)
      → Contains (slots_read (request_of words)) slot → shelf'.left slot ≡ Some [])
  pub others : KeepsOthers (slots_read (request_of words)) shelf shelf'
  pub counts : NoneFell shelf.faults shelf'.faults
  pub quiet : OnErr result (IsQuiet shelf shelf')
  pub back : AreBack before after
  pub idle : WantsNoPicker (request_of words) → Untold before after
  pub complete : (slots : Slot → List ℕ) → Tells (slots_read (request_of words)) shelf.left slots
      → IsOkAnd (accepted words slots) CanBeDone
      → ((slot : Slot) → ¬ Rose (shelf.faults slot) (shelf'.faults slot))
      → IfOk result (λ reply. reply.exit ≡ Done)
