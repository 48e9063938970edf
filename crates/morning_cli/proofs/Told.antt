-- What a run writes where the shelf tells the bytes of its slots.
use Rattle.std.proofs.Common.{◌≡◌, ℕ, List, Option, None, Some, Result, Ok, Err, IsTrue, option_map, refl, subst, sym}
use Rattle.std.proofs.Common.{IfOk, ap, inl, inr}
use Rattle.std.proofs.lemmas.Bool.{false≢true}
use Rattle.admit_core.specs.declared.slot.Slot.{Slot}
use Rattle.intake.specs.Input.{IsJobOf, Job, job_of}
use Rattle.intake.specs.Shelves.{OnShelf, Tells}
use Rattle.intake.specs.Stops.{Stopped}
use Rattle.intake.specs.declared.input.Input.{Input}
use Rattle.intake.specs.declared.stop.Stop.{Stop}
use Rattle.intake.specs.declared.stop.Stop.TheVariants as stops
use Rattle.modes.specs.Exits.{is_answer}
use Rattle.modes.specs.Stopping.{IsStoppedBy}
use Rattle.modes.specs.declared.exit.Exit.{Exit}
use Rattle.modes.specs.declared.exit.Exit.TheVariants as exits
use Rattle.modes.specs.declared.reply.Reply.{Reply}
use Rattle.played.specs.Lent.{Lent}
use Rattle.replay_cli.specs.Answering.{IsOfWords}
use Rattle.replay_cli.specs.Delivering.{Delivers, Takes, exit_after}
use Rattle.replay_cli.specs.Outcome.{IsStop, slots_read}
use Rattle.replay_cli.specs.Run.{Around, AtSink, HidesNone, IsQuiet}
use Rattle.replay_cli.proofs.Quiet.{quiet_stop, quiet_taken, quiet_untouched}
use Rattle.request.specs.Modes.{slots_of}
use Rattle.slot_io.specs.declared.refusal.IoRefusal.{IoRefusal}
use Rattle.slot_io.specs.declared.refusal.IoRefusal.TheVariants as refusals
use Rattle.morning_cli.specs.Answering.{RepliesSlot, RepliesTo, TakesFor}
use Rattle.morning_cli.specs.SlotWanted.{asked_of}
use Rattle.morning_cli.specs.Morning.{IsSlotEnding}
use Rattle.morning_cli.specs.Run.{EndsSlot, OutcomeFor, WritesOutcome}
use Rattle.morning_cli.specs.declared.asked.Asked.{Asked}

module _ (exit : Exit) (text : List ℕ) (answers : IsTrue (is_answer exit)) (before : Lent) where
  is_stop : (stop : Stop) (after : Lent) → after ≡ before → IsStoppedBy stop exit text
      → IsStop stop before after exit text
  is_stop stop after same by = record {
    is_exit = by.is_exit;
    is_line = by.is_line;
    untold = λ name. ap (λ (lent : Lent). lent.told name) same;
  }

  -- the reading of the words stopped
  of_words : (stop : Stop) (after : Lent) → IsOfWords stop → after ≡ before → IsStoppedBy stop exit text
      → IsStop stops.BadWords before after exit text
  of_words stops.BadWords after of same by = is_stop stops.BadWords after same by
  of_words stops.OutOfMemory after of same by = absurd (by.not_memory refl)
  of_words (stops.Refused refusal) after of same by = absurd of
  of_words (stops.ReadFault slot) after of same by = absurd of
  of_words (stops.NoSuch name) after of same by = absurd of

  stopped_at : (slot : Slot) (stop : Stop) (job : Result Job Stop) (after : Lent) → job ≡ Err stop → after ≡ before
      → IsStoppedBy stop exit text → EndsSlot slot job before after exit text
  stopped_at slot stop job after is same by =
      subst (λ (r : Result Job Stop). EndsSlot slot r before after exit text) (sym is) (is_stop stop after same by)

  -- what was asked for stopped
  of_slots : (slot : Slot) (stop : Stop) (job : Result Job Stop) (after : Lent) → Stopped stop job → after ≡ before
      → IsStoppedBy stop exit text → EndsSlot slot job before after exit text
  of_slots slot stops.BadWords job after is same by = stopped_at slot stops.BadWords job after is same by
  of_slots slot (stops.Refused refusal) job after is same by =
      stopped_at slot (stops.Refused refusal) job after is same by
  of_slots slot (stops.NoSuch name) job after is same by = stopped_at slot (stops.NoSuch name) job after is same by
  of_slots slot (stops.ReadFault other) job after is same by = absurd (false≢true (rw by.is_exit at answers))
  of_slots slot stops.OutOfMemory job after is same by = absurd (by.not_memory refl)

module _ (slots : Slot → List ℕ) (shelf shelf' : OnShelf) (before after : Lent) (reply : Reply)
    (answers : IsTrue (is_answer reply.exit)) where
  outcome_for : (asked : Option Asked) (taken : Result (Asked × Input) Stop)
      → Tells (slots_read (option_map (λ x. x.request) asked)) shelf.left slots
      → TakesFor asked shelf shelf' taken → RepliesTo {E = Unit {0}} taken before after (Ok reply)
      → OutcomeFor asked slots before after reply.exit reply.text.items
  outcome_for None (Ok x) tells takes replies = absurd takes.0
  outcome_for None (Err stop) tells takes replies =
      of_words reply.exit reply.text.items answers before stop after takes.0 replies.0 replies.1
  outcome_for (Some asked) (Err stop) tells takes replies =
      of_slots reply.exit reply.text.items answers before asked.slot stop (job_of asked.request slots) after
      (takes.1.value slots tells) replies.0 replies.1
  outcome_for (Some asked) (Ok x) tells takes replies =
      let given = takes.1.value in
      let there : IsJobOf x.0.request given.job =
      subst (λ (q : Asked). IsJobOf q.request given.job) (sym takes.0) given.is_job in
      subst (λ (r : Result Job Stop). EndsSlot asked.slot r before after reply.exit reply.text.items)
      (sym (given.is_accepted slots tells))
      (subst (λ (q : Asked). EndsSlot q.slot (Ok given.job) before after reply.exit reply.text.items) takes.0
      (replies.1 given.job there given.is_input))

-- where there is no reply, no read failed and no slot was too large
quiet_for : {E : Type 0} (asked : Option Asked) (shelf shelf' : OnShelf) (before after : Lent)
    (taken : Result (Asked × Input) Stop) (e : E) → TakesFor asked shelf shelf' taken
    → RepliesTo taken before after (Err e) → IsQuiet shelf shelf'
quiet_for None shelf shelf' before after taken e takes replies = quiet_untouched shelf shelf' takes.1
quiet_for (Some asked) shelf shelf' before after (Ok x) e takes replies =
    quiet_taken (slots_of asked.request.mode) shelf shelf' x.1 takes.1.slots
quiet_for (Some asked) shelf shelf' before after (Err stop) e takes replies =
    quiet_stop (slots_of asked.request.mode) shelf shelf' stop replies.2 takes.1.slots

-- a reply does not say that memory ran out
stop_says : (stop : Stop) (exit : Exit) (text : List ℕ) → IsStoppedBy stop exit text → exit ≡ exits.NoMemory → ⊥
stop_says stops.BadWords exit text by is = absurd (cc (by.is_exit, is))
stop_says (stops.Refused refusal) exit text by is = absurd (cc (by.is_exit, is))
stop_says (stops.ReadFault slot) exit text by is = absurd (cc (by.is_exit, is))
stop_says (stops.NoSuch name) exit text by is = absurd (cc (by.is_exit, is))
stop_says stops.OutOfMemory exit text by is = by.not_memory refl

ending_says : (slot : Slot) (job : Job) (before after : Lent) (exit : Exit) (text : List ℕ)
    → IsSlotEnding slot job before after exit text → exit ≡ exits.NoMemory → ⊥
ending_says slot job before after exit text (inl morning) is = absurd (cc (morning.ends.0, is))
ending_says slot job before after exit text (inr refused) is = absurd (cc (refused.0, is))

reply_says : (E : Type 0) (asked : Option Asked) (shelf shelf' : OnShelf) (before after : Lent)
    (taken : Result (Asked × Input) Stop) (reply : Reply) → TakesFor asked shelf shelf' taken
    → RepliesTo {E = E} taken before after (Ok reply) → reply.exit ≡ exits.NoMemory → ⊥
reply_says E asked shelf shelf' before after (Err stop) reply takes replies is =
    stop_says stop reply.exit reply.text.items replies.1 is
reply_says E None shelf shelf' before after (Ok x) reply takes replies is = absurd takes.0
reply_says E (Some asked) shelf shelf' before after (Ok x) reply takes replies is =
    let given = takes.1.value in
    let there : IsJobOf x.0.request given.job =
    subst (λ (q : Asked). IsJobOf q.request given.job) (sym takes.0) given.is_job in
    ending_says x.0.slot given.job before after reply.exit reply.text.items
    (replies.1 given.job there given.is_input) is

to_unit : (E : Type 0) (taken : Result (Asked × Input) Stop) (before after : Lent) (reply : Reply)
    → RepliesTo {E = E} taken before after (Ok reply) → RepliesTo {E = Unit {0}} taken before after (Ok reply)
to_unit E (Ok x) before after reply replies = replies
to_unit E (Err stop) before after reply replies = replies

module _ {E : Type 0} (words : List (List ℕ)) (before after : Around) where
  -- a reply that was written whole, or not
  taken : (reply : Reply) (refusal : Option IoRefusal)
      → RepliesSlot {E = E} words before.shelf after.shelf before.pickers after.pickers (Ok reply)
      → Takes reply.text.items before.sink after.sink refusal
      → WritesOutcome words before after (exit_after refusal reply.exit)
  taken reply (Some refusals.Failed) replies takes slots tells answers = absurd (false≢true answers)
  taken reply (Some refusals.OutOfMemory) replies takes slots tells answers = absurd (false≢true answers)
  taken reply None replies takes slots tells answers = (
    reply.text.items,
    outcome_for slots before.shelf after.shelf before.pickers after.pickers reply answers (asked_of words) replies.taken
        tells replies.takes.takes (to_unit E replies.taken before.pickers after.pickers reply replies.replies),
    takes,
  )

  pub outcome_written : (result : Result Reply E) (exit : Exit)
      → RepliesSlot words before.shelf after.shelf before.pickers after.pickers result
      → Delivers result before.sink after.sink exit → WritesOutcome words before after exit
  outcome_written (Err lack) exit replies delivers slots tells answers = absurd (false≢true (rw delivers.0 at answers))
  outcome_written (Ok reply) exit replies delivers slots tells answers =
      subst (WritesOutcome words before after) (sym delivers.2) (taken reply delivers.0 replies delivers.1) slots tells
      answers

  -- the exit is want of memory, which the sink can't lack
  pub hidden : (MayLack : Type 0) (result : Result Reply E) (exit : Exit)
      → RepliesSlot words before.shelf after.shelf before.pickers after.pickers result
      → Delivers result before.sink after.sink exit
      → (¬ MayLack → exit ≡ exits.NoMemory → IfOk result (λ reply. reply.exit ≡ exits.NoMemory))
      → HidesNone MayLack before.shelf after.shelf before.sink after.sink exit
  hidden MayLack (Ok reply) exit replies delivers lacks never is =
      absurd (reply_says E (asked_of words) before.shelf after.shelf before.pickers after.pickers replies.taken
      reply replies.takes.takes replies.replies (lacks never is))
  hidden MayLack (Err e) exit replies delivers lacks never is = record {
    reads = quiet_for (asked_of words) before.shelf after.shelf before.pickers after.pickers replies.taken e
        replies.takes.takes replies.replies;
    writes = ap (λ (sink : AtSink). sink.faults) delivers.1;
  }
