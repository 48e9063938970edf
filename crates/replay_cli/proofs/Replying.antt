-- What a run answers: after its days, or where it stops before them.
use Rattle.std.proofs.Common.{◌≡◌, ℕ, ◌⊎◌, List, [], Option, None, Some, Result, Ok, Err}
use Rattle.std.proofs.Common.{IfOk, IsNone, IsOkAnd, IsTrue, ap, arith, inl, inr, refl, subst, sym}
use Rattle.std.specs.Prelude.{Contains, IsErr, MatchResult, OnErr}
use Rattle.std.proofs.lemmas.Bool.{false≢true}
use Rattle.admit_core.specs.declared.slot.Slot.{Slot}
use Rattle.intake.specs.Input.{IsInputOf, IsJobOf, Job, accepted, job_of}
use Rattle.intake.specs.Shelves.{OnShelf, TakesSlots, Tells}
use Rattle.intake.specs.Stops.{◌>>=◌, Stopped, asked}
use Rattle.intake.proofs.TakenIn.{quiet_in}
use Rattle.intake.specs.declared.input.Input.{Input}
use Rattle.intake.specs.declared.stop.Stop.{Stop}
use Rattle.intake.specs.declared.stop.Stop.TheVariants as stops
use Rattle.modes.specs.Endings.{BreaksJob, IsEnding}
use Rattle.modes.specs.Exits.{ends_unasked, is_answer}
use Rattle.modes.proofs.CheckedExits.{IsAfterDays}
use Rattle.modes.specs.Checking.{CanBeDone}
use Rattle.modes.specs.Jobs.{IsIdle}
use Rattle.modes.specs.Stopping.{HasNoLine, IsStoppedBy}
use Rattle.modes.specs.declared.exit.Exit.{Exit}
use Rattle.modes.specs.declared.exit.Exit.TheVariants as exits
use Rattle.modes.specs.declared.reply.Reply.{Reply}
use Rattle.played.proofs.Naming.{back_untouched}
use Rattle.played.specs.Lent.{AreBack, Lent, Untold}
use Rattle.request.specs.Modes.{slots_of}
use Rattle.request.specs.Request.{request_of}
use Rattle.request.specs.declared.request.Request.{Request}
use Rattle.slot_io.specs.Faults.{NoneFell, Rose}
use Rattle.replay_cli.specs.Answering.{Replies, TakesAll, TakesAsked}
use Rattle.replay_cli.specs.Outcome.{Breaks, Ends, IsBroken, IsOutcome, NamesFault, WantsNoPicker, slots_read}
use Rattle.replay_cli.specs.Run.{IsQuiet, KeepsOthers, SameFaults}
use Rattle.replay_cli.proofs.Played.{breaks_untold, ending_done, ending_exit}
use Rattle.replay_cli.proofs.Quiet.{quiet_stop, quiet_taken, quiet_untouched}
use Rattle.replay_cli.proofs.Taking.{takes_lacking}

no_none : (request : Request) → IsNone (Some request) → ⊥
no_none request none = false≢true (sym none)

-- where a job is accepted its ending is the outcome
outcome_of : (words : List (List ℕ)) (slots : Slot → List ℕ) (job : Job) (before after : Lent) (exit : Exit)
    (text : List ℕ) → accepted words slots ≡ Ok job → IsEnding job before after exit text
    → IsOutcome words slots before after exit text
unfolding IsOutcome
outcome_of words slots job before after exit text is ending =
    subst (λ (a : Result Job Stop). Ends a before after exit text) (sym is) ending

stop_outcome : (words : List (List ℕ)) (slots : Slot → List ℕ) (stop : Stop) (before : Lent) (exit : Exit)
    (text : List ℕ) → accepted words slots ≡ Err stop → IsStoppedBy stop exit text
    → IsOutcome words slots before before exit text
unfolding IsOutcome
stop_outcome words slots stop before exit text is by =
    subst (λ (a : Result Job Stop). Ends a before before exit text) (sym is)
    (record { is_exit = by.is_exit; is_line = by.is_line; untold = λ name. refl })

-- where memory ran out before there was a text
broken_of : (words : List (List ℕ)) (slots : Slot → List ℕ) (job : Job) (before after : Lent)
    → accepted words slots ≡ Ok job → BreaksJob job before after → IsBroken words slots before after
unfolding IsBroken
broken_of words slots job before after is breaks =
    subst (λ (a : Result Job Stop). Breaks a before after) (sym is) breaks

none_broken : (before : Lent) (accepts : Result Job Stop) → Breaks accepts before before
none_broken before (Ok job) = breaks_untold job before
none_broken before (Err stop) = λ name. refl

stop_broken : (words : List (List ℕ)) (slots : Slot → List ℕ) (before : Lent) → IsBroken words slots before before
unfolding IsBroken
stop_broken words slots before = none_broken before (accepted words slots)

-- of an exit after the days
answers_after : (exit : Exit) → IsAfterDays exit → IsTrue (is_answer exit)
answers_after exits.Done after = refl
answers_after exits.Refused after = refl
answers_after exits.NotProved after = refl
answers_after exits.BadWords after = absurd after
answers_after exits.ReadFault after = absurd after
answers_after exits.WriteFault after = absurd after
answers_after exits.NoMemory after = absurd after
answers_after exits.NoSuchWish after = absurd after

asks_after : (exit : Exit) → IsAfterDays exit → IsTrue (ends_unasked exit) → ⊥
asks_after exits.Done after asks = false≢true asks
asks_after exits.Refused after asks = false≢true asks
asks_after exits.NotProved after asks = false≢true asks
asks_after exits.BadWords after asks = after
asks_after exits.ReadFault after asks = after
asks_after exits.WriteFault after asks = after
asks_after exits.NoMemory after asks = after
asks_after exits.NoSuchWish after asks = after

words_after : (exit : Exit) → IsAfterDays exit → exit ≡ exits.BadWords → ⊥
words_after exit after bad = subst IsAfterDays bad after

-- what becomes of the shelf
module _ {A : Type 0} (before after : OnShelf) (r : Result A Stop) where
  others_kept : (request : Option Request) → TakesAsked request before after r
      → KeepsOthers (slots_read request) before after
  others_kept None takes = record {
    left = λ slot none. ap (λ (x : OnShelf). x.left slot) takes.1;
    taken = λ slot none. ap (λ (x : OnShelf). x.taken slot) takes.1;
    faults = λ slot none. ap (λ (x : OnShelf). x.faults slot) takes.1;
  }
  others_kept (Some request) takes = record {
    left = takes.others;
    taken = takes.others_taken;
    faults = takes.others_faults;
  }

  none_fell : (request : Option Request) → TakesAsked request before after r → NoneFell before.faults after.faults
  none_fell None takes = λ slot. omega (arith, ap (λ (x : OnShelf). x.faults slot) takes.1)
  none_fell (Some request) takes = takes.counts

  untouched : (request : Option Request) → TakesAsked request before after r → IsNone request → after ≡ before
  untouched None takes none = takes.1
  untouched (Some request) takes none = absurd (no_none request none)

-- the run came to its days
module _ (words : List (List ℕ)) (shelf shelf' : OnShelf) (before after : Lent) (x : Request × Input)
    (takes : TakesAll words shelf shelf' (Ok x)) (back : AreBack before after)
    (idle : IsIdle x.0 → Untold before after) where
  told_of_mode : (slots : Slot → List ℕ) → Tells (slots_read (request_of words)) shelf.left slots
      → Tells (slots_of x.0.mode) shelf.left slots
  told_of_mode slots = let P : Option Request → Type 0 = λ q. Tells (slots_read q) shelf.left slots in
      subst P takes.asked

  accepted_is : (slots : Slot → List ℕ) → Tells (slots_read (request_of words)) shelf.left slots
      → accepted words slots ≡ Ok takes.input.job
  accepted_is slots tells =
      let P : Option Request → Type 0 = λ q. (asked q >>= (λ request. job_of request slots)) ≡ Ok takes.input.job in
      subst P (sym takes.asked) (takes.input.is_accepted slots (told_of_mode slots tells))

  read : TakesSlots (slots_of x.0.mode) shelf shelf' (Ok x)
  read = let P : Option Request → Type 0 = λ q. TakesAsked q shelf shelf' (Ok x) in subst P takes.asked takes.slots

  good : IsNone (request_of words) → ⊥
  good none = no_none x.0 (subst IsNone takes.asked none)

  asks_none : WantsNoPicker (request_of words) → Untold before after
  asks_none none = idle (subst WantsNoPicker takes.asked none)

  all_read : (slots : Slot → List ℕ) → Tells (slots_read (request_of words)) shelf.left slots → (slot : Slot)
      → Contains (slots_read (request_of words)) slot → shelf'.left slot ≡ Some []
  all_read slots tells slot among =
      let P : Option Request → Type 0 = λ q. Contains (slots_read q) slot in
      read.ends slots (told_of_mode slots tells) slot (subst P takes.asked among)

  read_all : SameFaults (slots_read (request_of words)) shelf shelf'
  read_all slot among = let P : Option Request → Type 0 = λ q. Contains (slots_read q) slot in
      quiet_in (read.told slot (subst P takes.asked among))

  pub replies_played : {E : Type 0} (result : Result Reply E)
      → ((job : Job) → IsJobOf x.0 job → IsInputOf job x.1
      → MatchResult result (λ reply. IsEnding job before after reply.exit reply.text.items)
      (λ _. BreaksJob job before after))
      → Replies words shelf shelf' before after result
  replies_played (Ok reply) ends =
      let ending = ends takes.input.job takes.input.is_job takes.input.is_input in
      let exit = ending_exit takes.input.job before after reply.exit reply.text.items ending in
      record {
        outcome = λ slots tells answers. outcome_of words slots takes.input.job before after reply.exit reply.text.items
            (accepted_is slots tells) ending;
        broken = λ slots tells. tt;
        kinds = inl (answers_after reply.exit exit);
        same_faults = λ answers. read_all;
        untold = λ asks. absurd (asks_after reply.exit exit asks);
        bad_words = λ bad. absurd (words_after reply.exit exit bad);
        only_bad = λ none. absurd (good none);
        untouched = untouched shelf shelf' (Ok x) (request_of words) takes.slots;
        ends = λ slots tells done. all_read slots tells;
        others = others_kept shelf shelf' (Ok x) (request_of words) takes.slots;
        counts = none_fell shelf shelf' (Ok x) (request_of words) takes.slots;
        quiet = tt;
        back = back;
        idle = asks_none;
        complete = λ slots tells fits none.
            ending_done takes.input.job before after reply.exit reply.text.items ending
            (subst (λ (a : Result Job Stop). IsOkAnd a CanBeDone) (accepted_is slots tells) fits);
      }
  replies_played (Err e) ends = record {
    outcome = tt;
    broken = λ slots tells. broken_of words slots takes.input.job before after (accepted_is slots tells)
        (ends takes.input.job takes.input.is_job takes.input.is_input);
    kinds = tt;
    same_faults = tt;
    untold = tt;
    bad_words = tt;
    only_bad = λ none. tt;
    untouched = untouched shelf shelf' (Ok x) (request_of words) takes.slots;
    ends = λ slots tells. tt;
    others = others_kept shelf shelf' (Ok x) (request_of words) takes.slots;
    counts = none_fell shelf shelf' (Ok x) (request_of words) takes.slots;
    quiet = quiet_taken (slots_of x.0.mode) shelf shelf' x read;
    back = back;
    idle = asks_none;
    complete = λ slots tells fits none. tt;
  }

-- the run stopped before its days
module _ (words : List (List ℕ)) (shelf shelf' : OnShelf) (before : Lent) where
  abbrev Slots : Option Request → Stop → Type 0
  Slots request stop = TakesAsked {A = Request × Input} request shelf shelf' (Err stop)

  stop_kind : (request : Option Request) (stop : Stop) (exit : Exit) (text : List ℕ) → Slots request stop
      → IsStoppedBy stop exit text
      → IsTrue (is_answer exit) ⊎ ((exit ≡ exits.ReadFault) × NamesFault request shelf shelf' text)
  stop_kind request stops.BadWords exit text takes by = inl (rw by.is_exit refl)
  stop_kind request (stops.Refused refusal) exit text takes by = inl (rw by.is_exit refl)
  stop_kind request (stops.NoSuch name) exit text takes by = inl (rw by.is_exit refl)
  stop_kind request stops.OutOfMemory exit text takes by = absurd (by.not_memory refl)
  stop_kind None (stops.ReadFault slot) exit text takes by = absurd takes.0
  stop_kind (Some request) (stops.ReadFault slot) exit text takes by =
      inr (by.is_exit, record { good_words = refl; slot = slot; fault = takes.cause; is_line = by.is_line })

  stop_bad : (request : Option Request) (stop : Stop) (exit : Exit) (text : List ℕ) → Slots request stop
      → IsStoppedBy stop exit text → exit ≡ exits.BadWords → IsNone request
  stop_bad None stop exit text takes by bad = refl
  stop_bad (Some request) stops.BadWords exit text takes by bad = absurd takes.cause
  stop_bad (Some request) (stops.Refused refusal) exit text takes by bad = absurd (cc (by.is_exit, bad))
  stop_bad (Some request) (stops.NoSuch name) exit text takes by bad = absurd (cc (by.is_exit, bad))
  stop_bad (Some request) (stops.ReadFault slot) exit text takes by bad = absurd (cc (by.is_exit, bad))
  stop_bad (Some request) stops.OutOfMemory exit text takes by bad = absurd (by.not_memory refl)

  stop_only : (request : Option Request) (stop : Stop) (exit : Exit) (text : List ℕ) → Slots request stop
      → IsStoppedBy stop exit text → IsNone request → exit ≡ exits.BadWords
  stop_only (Some request) stop exit text takes by none = absurd (no_none request none)
  stop_only None stops.BadWords exit text takes by none = by.is_exit
  stop_only None (stops.Refused refusal) exit text takes by none = absurd takes.0
  stop_only None (stops.NoSuch name) exit text takes by none = absurd takes.0
  stop_only None (stops.ReadFault slot) exit text takes by none = absurd takes.0
  stop_only None stops.OutOfMemory exit text takes by none = absurd (by.not_memory refl)

  not_fault : (stop : Stop) (slot : Slot) (exit : Exit) (text : List ℕ) → IsStoppedBy stop exit text
      → IsTrue (is_answer exit) → stop ≡ stops.ReadFault slot → ⊥
  not_fault stop slot exit text by answers is =
      let P : Stop → Type 0 = λ s. IsStoppedBy s exit text in
      let faulted : IsStoppedBy (stops.ReadFault slot) exit text = subst P is by in
      false≢true (rw faulted.is_exit at answers)

  still_there : (stop : Stop) (slot : Slot) (exit : Exit) (text : List ℕ) → IsStoppedBy stop exit text
      → IsTrue (is_answer exit)
      → (shelf'.faults slot ≡ shelf.faults slot) ⊎ (stop ≡ stops.ReadFault slot)
      → shelf'.faults slot ≡ shelf.faults slot
  still_there stop slot exit text by answers (inl same) = same
  still_there stop slot exit text by answers (inr fault) = absurd (not_fault stop slot exit text by answers fault)

  stop_none : (request : Option Request) (stop : Stop) (exit : Exit) (text : List ℕ) → Slots request stop
      → IsStoppedBy stop exit text → IsTrue (is_answer exit)
      → SameFaults (slots_read request) shelf shelf'
  stop_none None stop exit text takes by answers slot among = ap (λ (x : OnShelf). x.faults slot) takes.1
  stop_none (Some request) stop exit text takes by answers slot among =
      still_there stop slot exit text by answers (takes.told slot among)

  stop_done : (stop : Stop) (exit : Exit) (text : List ℕ) → IsStoppedBy stop exit text → exit ≡ exits.Done → ⊥
  stop_done stops.BadWords exit text by done = cc (by.is_exit, done)
  stop_done (stops.Refused refusal) exit text by done = cc (by.is_exit, done)
  stop_done (stops.NoSuch name) exit text by done = cc (by.is_exit, done)
  stop_done (stops.ReadFault slot) exit text by done = cc (by.is_exit, done)
  stop_done stops.OutOfMemory exit text by done = by.not_memory refl

  stop_answers : (slots : Slot → List ℕ) (stop : Stop) (exit : Exit) (text : List ℕ)
      → Stopped stop (accepted words slots) → IsStoppedBy stop exit text → IsTrue (is_answer exit)
      → IsOutcome words slots before before exit text
  stop_answers slots stops.BadWords exit text is by answers =
      stop_outcome words slots stops.BadWords before exit text is by
  stop_answers slots (stops.Refused refusal) exit text is by answers =
      stop_outcome words slots (stops.Refused refusal) before exit text is by
  stop_answers slots (stops.NoSuch name) exit text is by answers =
      stop_outcome words slots (stops.NoSuch name) before exit text is by
  stop_answers slots (stops.ReadFault slot) exit text is by answers = absurd (false≢true (rw by.is_exit at answers))
  stop_answers slots stops.OutOfMemory exit text is by answers = absurd (by.not_memory refl)

  no_job : (slots : Slot → List ℕ) (stop : Stop) → accepted words slots ≡ Err stop
      → IsOkAnd (accepted words slots) CanBeDone → ⊥
  no_job slots stop is fits = subst (λ (a : Result Job Stop). IsOkAnd a CanBeDone) is fits

  -- a stop, though the job is accepted and no read failed
  no_stop : (request : Option Request) (slots : Slot → List ℕ) (stop : Stop) (exit : Exit) (text : List ℕ)
      → Slots request stop → Stopped stop (accepted words slots) → IsStoppedBy stop exit text
      → IsOkAnd (accepted words slots) CanBeDone → ((slot : Slot) → ¬ Rose (shelf.faults slot) (shelf'.faults slot)) → ⊥
  no_stop request slots stops.BadWords exit text takes is by fits none = no_job slots stops.BadWords is fits
  no_stop request slots (stops.Refused refusal) exit text takes is by fits none =
      no_job slots (stops.Refused refusal) is fits
  no_stop request slots (stops.NoSuch name) exit text takes is by fits none = no_job slots (stops.NoSuch name) is fits
  no_stop None slots (stops.ReadFault slot) exit text takes is by fits none = takes.0
  no_stop (Some request) slots (stops.ReadFault slot) exit text takes is by fits none = none slot takes.cause.rose
  no_stop request slots stops.OutOfMemory exit text takes is by fits none = by.not_memory refl

  stop_quiet : (request : Option Request) (stop : Stop) → HasNoLine stop → Slots request stop → IsQuiet shelf shelf'
  stop_quiet None stop none takes = quiet_untouched shelf shelf' takes.1
  stop_quiet (Some request) stop none takes = quiet_stop (slots_of request.mode) shelf shelf' stop none takes

  pub replies_stopped : {E : Type 0} (stop : Stop) (result : Result Reply E) → TakesAll words shelf shelf' (Err stop)
      → IfOk result (λ reply. IsStoppedBy stop reply.exit reply.text.items) → OnErr result (HasNoLine stop)
      → Replies words shelf shelf' before before result
  replies_stopped stop (Ok reply) takes by none = record {
    outcome = λ slots tells answers. stop_answers slots stop reply.exit reply.text.items
        (takes.stop slots tells) by answers;
    broken = λ slots tells. tt;
    kinds = stop_kind (request_of words) stop reply.exit reply.text.items takes.slots by;
    same_faults = stop_none (request_of words) stop reply.exit reply.text.items takes.slots by;
    untold = λ asks name. refl;
    bad_words = stop_bad (request_of words) stop reply.exit reply.text.items takes.slots by;
    only_bad = stop_only (request_of words) stop reply.exit reply.text.items takes.slots by;
    untouched = untouched shelf shelf' _ (request_of words) takes.slots;
    ends = λ slots tells done. absurd (stop_done stop reply.exit reply.text.items by done);
    others = others_kept shelf shelf' _ (request_of words) takes.slots;
    counts = none_fell shelf shelf' _ (request_of words) takes.slots;
    quiet = tt;
    back = back_untouched before;
    idle = λ none name. refl;
    complete = λ slots tells fits none. absurd (no_stop (request_of words) slots stop reply.exit reply.text.items
        takes.slots (takes.stop slots tells) by fits none);
  }
  replies_stopped stop (Err e) takes by none = record {
    outcome = tt;
    broken = λ slots tells. stop_broken words slots before;
    kinds = tt;
    same_faults = tt;
    untold = tt;
    bad_words = tt;
    only_bad = λ none. tt;
    untouched = untouched shelf shelf' _ (request_of words) takes.slots;
    ends = λ slots tells. tt;
    others = others_kept shelf shelf' _ (request_of words) takes.slots;
    counts = none_fell shelf shelf' _ (request_of words) takes.slots;
    quiet = stop_quiet (request_of words) stop none takes.slots;
    back = back_untouched before;
    idle = λ none name. refl;
    complete = λ slots tells fits none. tt;
  }

-- there was no memory for a line, and nothing was read
pub replies_lacking : {E : Type 0} (words : List (List ℕ)) (shelf : OnShelf) (before : Lent) (result : Result Reply E)
    → IsErr result → Replies words shelf shelf before before result
replies_lacking words shelf before (Ok reply) err = absurd (false≢true err)
replies_lacking words shelf before (Err e) err =
    replies_stopped words shelf shelf before stops.OutOfMemory (Err e) (takes_lacking words shelf) tt (inl refl)
