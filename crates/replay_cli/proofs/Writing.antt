-- What a run writes of its reply.
use Rattle.std.proofs.Common.{◌≡◌, ◌≢◌, ◌∙◌, false, ℕ, ◌≤◌, ◌⊎◌, List, [], Option, None, Some, Result, Ok, Err, IsTrue}
use Rattle.std.proofs.Common.{IfOk, ap, inl, inr, refl, subst, sym}
use Rattle.std.specs.Io.KnownBytes.{Appends}
use Rattle.std.proofs.lemmas.Bool.{false≢true}
use Rattle.std.proofs.lemmas.List.{append-nil}
use Rattle.admit_core.specs.declared.slot.Slot.{Slot}
use Rattle.intake.specs.Shelves.{Tells}
use Rattle.modes.specs.Exits.{is_answer}
use Rattle.modes.specs.declared.exit.Exit.{Exit}
use Rattle.modes.specs.declared.exit.Exit.TheVariants as exits
use Rattle.modes.specs.declared.reply.Reply.{Reply}
use Rattle.slot_io.specs.Bytes.{AppendsPart}
use Rattle.slot_io.specs.Faults.{Rose}
use Rattle.request.specs.Request.{request_of}
use Rattle.replay_cli.specs.Answering.{Replies}
use Rattle.slot_io.specs.declared.refusal.IoRefusal.{IoRefusal}
use Rattle.slot_io.specs.declared.refusal.IoRefusal.TheVariants as refusals
use Rattle.replay_cli.specs.Delivering.{Delivers, Takes, exit_after}
use Rattle.replay_cli.specs.Outcome.{slots_read}
use Rattle.replay_cli.specs.Run.{Around, AtSink, HidesNone, IsRun, IsWhole}

appends_none : (held : Option (List ℕ)) → Appends held held []
appends_none None = tt
appends_none (Some xs) = sym (append-nil xs)

-- a reply is an answer, or the line of a read fault
not_of_sink : (exit other : Exit) (Fault : Type 0) → is_answer other ≡ false → other ≢ exits.ReadFault
    → IsTrue (is_answer exit) ⊎ ((exit ≡ exits.ReadFault) × Fault) → exit ≡ other → ⊥
not_of_sink exit other Fault none fault kind is =
    elim kind [ inl answers ↦ false≢true (sym none ∙ (rw is at answers)) | inr faulted ↦ fault (sym is ∙ faulted.0) ]

fault_of : (exit : Exit) (Fault : Type 0) → IsTrue (is_answer exit) ⊎ ((exit ≡ exits.ReadFault) × Fault)
    → exit ≡ exits.ReadFault → Fault
fault_of exit Fault kind is = elim kind [
  | inl answers ↦ absurd (false≢true (rw is at answers))
  | inr faulted ↦
      faulted.1
]

module _ {E : Type 0} (words : List (List ℕ)) (before after : Around)
    (counts : before.sink.faults ≤ after.sink.faults) where
  module _ (reply : Reply) (replies : Replies {E = E} words before.shelf after.shelf before.pickers after.pickers
      (Ok reply)) where
    whole : (slots : Slot → List ℕ) → Tells (slots_read (request_of words)) before.shelf.left slots
        → IsWhole words slots before after reply.text.items
    whole slots tells =
        elim replies.kinds [
          | inl answers ↦ inl (reply.exit, replies.outcome slots tells answers)
          | inr faulted ↦ inr (record { names = faulted.1; untold = replies.untold (rw faulted.0 refl) })
        ]

    written : Appends before.sink.held after.sink.held reply.text.items → IsRun words before after reply.exit
    written all =
        record {
          answers = λ slots tells. record {
            outcome = λ is. (reply.text.items, replies.outcome slots tells is, all);
            ends = λ done. replies.ends slots tells done;
            cut_off = λ is. absurd (not_of_sink reply.exit exits.WriteFault _ refl (λ e. cc) replies.kinds is);
            no_memory = λ is. absurd (not_of_sink reply.exit exits.NoMemory _ refl (λ e. cc) replies.kinds is);
            complete = λ fits none. inl (replies.complete slots tells fits none.reads);
          };
          others = replies.others;
          bad_words = replies.bad_words;
          same_faults = replies.same_faults;
          words_first = λ none. record { exits = inl (replies.only_bad none); shelf = replies.untouched none };
          read_fault = λ is. (
            reply.text.items,
            record {
              names = fault_of reply.exit _ replies.kinds is;
              untold = replies.untold (rw is refl);
            },
            all,
          );
          write_fault = λ is. absurd (not_of_sink reply.exit exits.WriteFault _ refl (λ e. cc) replies.kinds is);
          counts = record { reads = replies.counts; writes = counts };
          back = replies.back;
          untold = replies.untold;
          idle = replies.idle;
        }

    failed : AppendsPart before.sink.held after.sink.held reply.text.items → Rose before.sink.faults after.sink.faults
        → IsRun words before after exits.WriteFault
    failed part rose = record {
      answers = λ slots tells. record {
        outcome = λ is. absurd (false≢true is);
        ends = λ is. absurd (cc);
        cut_off = λ is. (reply.text.items, whole slots tells, part);
        no_memory = λ is. absurd (cc);
        complete = λ fits none. absurd (none.writes rose);
      };
      others = replies.others;
      bad_words = λ is. absurd (cc);
      same_faults = λ is. absurd (false≢true is);
      words_first = λ none. record { exits = inr (inl refl); shelf = replies.untouched none };
      read_fault = λ is. absurd (cc);
      write_fault = λ is. rose;
      counts = record { reads = replies.counts; writes = counts };
      back = replies.back;
      untold = λ is. absurd (false≢true is);
      idle = replies.idle;
    }

    cut : AppendsPart before.sink.held after.sink.held reply.text.items → IsRun words before after exits.NoMemory
    cut part = record {
      answers = λ slots tells. record {
        outcome = λ is. absurd (false≢true is);
        ends = λ is. absurd (cc);
        cut_off = λ is. absurd (cc);
        no_memory = λ is. inr (reply.text.items, whole slots tells, part);
        complete = λ fits none. inr refl;
      };
      others = replies.others;
      bad_words = λ is. absurd (cc);
      same_faults = λ is. absurd (false≢true is);
      words_first = λ none. record { exits = inr (inr refl); shelf = replies.untouched none };
      read_fault = λ is. absurd (cc);
      write_fault = λ is. absurd (cc);
      counts = record { reads = replies.counts; writes = counts };
      back = replies.back;
      untold = λ is. absurd (false≢true is);
      idle = replies.idle;
    }

  -- there was no memory for the reply
  unanswered : (e : E) → after.sink ≡ before.sink
      → Replies {E = E} words before.shelf after.shelf before.pickers after.pickers (Err e)
      → IsRun words before after exits.NoMemory
  unanswered e same replies = record {
    answers = λ slots tells. record {
      outcome = λ is. absurd (false≢true is);
      ends = λ is. absurd (cc);
      cut_off = λ is. absurd (cc);
      no_memory = λ is. inl (record {
        unwritten = subst (λ (sink : AtSink). Appends before.sink.held sink.held []) (sym same)
            (appends_none before.sink.held);
        broken = replies.broken slots tells;
      });
      complete = λ fits none. inr refl;
    };
    others = replies.others;
    bad_words = λ is. absurd (cc);
    same_faults = λ is. absurd (false≢true is);
    words_first = λ none. record { exits = inr (inr refl); shelf = replies.untouched none };
    read_fault = λ is. absurd (cc);
    write_fault = λ is. absurd (cc);
    counts = record { reads = replies.counts; writes = counts };
    back = replies.back;
    untold = λ is. absurd (false≢true is);
    idle = replies.idle;
  }

  -- a run whose reply was delivered
  taken : (reply : Reply) → Replies {E = E} words before.shelf after.shelf before.pickers after.pickers (Ok reply)
      → (refusal : Option IoRefusal)
      → Takes reply.text.items before.sink after.sink refusal → IsRun words before after (exit_after refusal reply.exit)
  taken reply replies None takes = written reply replies takes
  taken reply replies (Some refusals.Failed) takes = failed reply replies takes.0 takes.1
  taken reply replies (Some refusals.OutOfMemory) takes = cut reply replies takes.0

  pub delivered : (result : Result Reply E) (exit : Exit)
      → Replies words before.shelf after.shelf before.pickers after.pickers result
      → Delivers result before.sink after.sink exit
      → IsRun words before after exit
  delivered (Ok reply) exit replies delivers =
      subst (IsRun words before after) (sym delivers.2) (taken reply replies delivers.0 delivers.1)
  delivered (Err error) exit replies delivers =
      subst (IsRun words before after) (sym delivers.0) (unanswered error delivers.1 replies)

  -- the exit is want of memory, which the sink can't lack
  pub hidden : (MayLack : Type 0) (result : Result Reply E) (exit : Exit)
      → Replies words before.shelf after.shelf before.pickers after.pickers result
      → Delivers result before.sink after.sink exit
      → (¬ MayLack → exit ≡ exits.NoMemory → IfOk result (λ reply. reply.exit ≡ exits.NoMemory))
      → HidesNone MayLack before.shelf after.shelf before.sink after.sink exit
  hidden MayLack (Ok reply) exit replies delivers lacks never is =
      absurd (not_of_sink reply.exit exits.NoMemory _ refl (λ e. cc) replies.kinds (lacks never is))
  hidden MayLack (Err error) exit replies delivers lacks never is =
      record { reads = replies.quiet; writes = ap (λ (sink : AtSink). sink.faults) delivers.1 }
