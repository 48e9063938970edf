-- Why a run stops before its days, and the line that is written then.
use Rattle.std.specs.Prelude.{◌≡◌, ℕ, List, [], ◌∷◌, ◌++◌, Option, Some, None, Result, Ok, Err, codes, ⊤}
use Rattle.admit_core.specs.Lines.{refusal_text, slot_name}
use Rattle.admit_core.specs.declared.refusal.InFault.{InFault}
use Rattle.admit_core.specs.declared.refusal.InFault.TheVariants as faults
use Rattle.admit_core.specs.declared.refusal.Reason.TheVariants.{TooLarge}
use Rattle.admit_core.specs.declared.refusal.Refusal.{Refusal}
use Rattle.admit_core.specs.declared.slot.Slot.{Slot}
use Rattle.request.specs.Modes.{name_text}
use Rattle.request.specs.declared.refusal.WordsRefusal.{WordsRefusal}
use Rattle.request.specs.declared.refusal.WordsRefusal.TheVariants as words
use Rattle.slot_io.specs.declared.refusal.SlotRefusal.{SlotRefusal}
use Rattle.slot_io.specs.declared.refusal.SlotRefusal.TheVariants as reads
use Rattle.intake.specs.declared.stop.Stop.{Stop}
use Rattle.intake.specs.declared.stop.Stop.TheVariants as stops

-- the steps of a run, each of which may stop it
infixl 10 ◌>>=◌
abbrev pub ◌>>=◌ : {A B : Type 0} → Result A Stop → (A → Result B Stop) → Result B Stop
(Ok x) >>= f = f x
(Err stop) >>= f = Err stop

-- what words that are not read are to a run
abbrev pub words_stop : WordsRefusal → Stop
words_stop words.Bad = stops.BadWords
words_stop words.OutOfMemory = stops.OutOfMemory

-- what an input's fault is to a run
abbrev pub stop_of : InFault → Stop
stop_of (faults.Refused refusal) = stops.Refused refusal
stop_of faults.OutOfMemory = stops.OutOfMemory

-- what a slot that was not read to its end is to a run
abbrev pub slot_stop : Slot → SlotRefusal → Stop
slot_stop slot reads.ReadFault = stops.ReadFault slot
slot_stop slot reads.TooLarge =
    stops.Refused (record { slot = slot; row = 0; reason = TooLarge })
slot_stop slot reads.OutOfMemory = stops.OutOfMemory

-- what a refusal is to a run
abbrev pub refused_as : {A : Type 0} → Result A Refusal → Result A Stop
refused_as (Ok x) = Ok x
refused_as (Err refusal) = Err (stops.Refused refusal)

-- what words that say nothing are to a run
abbrev pub asked : {A : Type 0} → Option A → Result A Stop
asked None = Err stops.BadWords
asked (Some x) = Ok x

-- the line; running out of memory has none
abbrev pub stop_text : Stop → List ℕ
stop_text stops.BadWords = codes "bad words" ++ 10 ∷ []
stop_text (stops.Refused refusal) = refusal_text refusal ++ 10 ∷ []
stop_text (stops.ReadFault slot) = codes "read fault " ++ slot_name slot ++ 10 ∷ []
stop_text (stops.NoSuch name) = codes "no such " ++ name_text name ++ 10 ∷ []
stop_text stops.OutOfMemory = []

-- a stop is what is expected; nothing is said here of a fault of the shelf and of running out of
-- memory
abbrev pub Stopped : {Y : Type 0} → Stop → Result Y Stop → Type 0
Stopped stops.OutOfMemory expected = ⊤
Stopped (stops.ReadFault slot) expected = ⊤
Stopped stops.BadWords expected = expected ≡ Err stops.BadWords
Stopped (stops.Refused refusal) expected = expected ≡ Err (stops.Refused refusal)
Stopped (stops.NoSuch name) expected = expected ≡ Err (stops.NoSuch name)

-- an answer is what is expected, or the stop is
abbrev pub Gives : {X Y : Type 0} → (X → Y) → Result X Stop → Result Y Stop → Type 0
Gives view (Ok x) expected = expected ≡ Ok (view x)
Gives view (Err stop) expected = Stopped stop expected
