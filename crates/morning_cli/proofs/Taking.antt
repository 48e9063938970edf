-- What the words ask for, taken in.
use Rattle.std.proofs.Common.{◌≡◌, ℕ, List, Option, None, Some, Result, Ok, Err, IsErrAnd, arith, inl, refl, subst, sym}
use Rattle.std.specs.Prelude.{IsErr}
use Rattle.std.proofs.lemmas.Bool.{false≢true}
use Rattle.intake.specs.Input.{TakesIn}
use Rattle.intake.specs.Shelves.{OnShelf}
use Rattle.intake.specs.Stops.{words_stop}
use Rattle.intake.specs.declared.input.Input.{Input}
use Rattle.intake.specs.declared.stop.Stop.{Stop}
use Rattle.intake.specs.declared.stop.Stop.TheVariants as stops
use Rattle.modes.specs.declared.reply.Reply.{Reply}
use Rattle.played.specs.Lent.{Lent}
use Rattle.request.specs.declared.refusal.WordsRefusal.{WordsRefusal}
use Rattle.request.specs.declared.refusal.WordsRefusal.TheVariants as refusals
use Rattle.morning_cli.specs.Answering.{RepliesSlot, TakesAsked, TakesFor}
use Rattle.morning_cli.specs.SlotWanted.{IsAsked, ReadsAsked, asked_of}
use Rattle.morning_cli.specs.declared.asked.Asked.{Asked}

-- memory runs out before anything is taken
nothing_for : (asked : Option Asked) (shelf : OnShelf) → TakesFor asked shelf shelf (Err stops.OutOfMemory)
nothing_for None shelf = (tt, refl)
nothing_for (Some asked) shelf = (
  tt,
  record {
    value = λ slots tells. tt;
    slots = record {
      ends = λ slots tells. tt;
      once = λ slot among. omega arith;
      size = λ slot among. inl (omega arith);
      others = λ slot none. refl;
      others_taken = λ slot none. refl;
      counts = λ slot. omega arith;
      cause = tt;
      told = λ slot among. inl refl;
      others_faults = λ slot none. refl;
    };
  },
)

unread_for : (words : List (List ℕ)) (shelf : OnShelf) (refusal : WordsRefusal) → ReadsAsked (Err refusal) words
    → TakesFor (asked_of words) shelf shelf (Err (words_stop refusal))
unread_for words shelf refusals.Bad reads =
    subst (λ (q : Option Asked). TakesFor q shelf shelf (Err stops.BadWords)) (sym reads) (tt, refl)
unread_for words shelf refusals.OutOfMemory reads = nothing_for (asked_of words) shelf

module _ (words : List (List ℕ)) where
  -- the words were not read
  pub takes_unread : (shelf : OnShelf) (refusal : WordsRefusal) (r : Result (Asked × Input) Stop)
      → ReadsAsked (Err refusal) words → IsErrAnd r (λ stop. stop ≡ words_stop refusal)
      → TakesAsked words shelf shelf r
  takes_unread shelf refusal (Ok x) reads from = absurd from
  takes_unread shelf refusal (Err stop) reads from = record {
    takes =
        subst (λ (s : Stop). TakesFor (asked_of words) shelf shelf (Err s)) (sym from)
        (unread_for words shelf refusal reads);
    known = tt;
  }

  module _ (asked : Asked) (before after : OnShelf) (is : asked_of words ≡ Some asked) where
    -- there is no input
    pub takes_stop : (stop : Stop) (r : Result (Asked × Input) Stop) → TakesIn asked.request before after (Err stop)
        → IsErrAnd r (λ s. s ≡ stop) → TakesAsked words before after r
    takes_stop stop (Ok x) takes from = absurd from
    takes_stop stop (Err other) takes from = record {
      takes =
          subst (λ (s : Stop). TakesFor (asked_of words) before after (Err s)) (sym from)
          (subst (λ (q : Option Asked). TakesFor q before after (Err stop)) (sym is) (tt, takes));
      known = tt;
    }

    pub takes_input : (input : Input) → IsAsked asked → TakesIn asked.request before after (Ok input)
        → TakesAsked words before after (Ok (asked, input))
    takes_input input known takes = record {
      takes = subst (λ (q : Option Asked). TakesFor q before after (Ok (asked, input))) (sym is) (refl, takes);
      known = known;
    }

-- there was no memory for a line, and nothing was read
pub replies_lacking : {E : Type 0} (words : List (List ℕ)) (shelf : OnShelf) (before : Lent) (result : Result Reply E)
    → IsErr result → RepliesSlot words shelf shelf before before result
replies_lacking words shelf before (Ok reply) err = absurd (false≢true err)
replies_lacking words shelf before (Err e) err = record {
  taken = Err stops.OutOfMemory;
  takes = record { takes = nothing_for (asked_of words) shelf; known = tt };
  replies = (refl, tt, inl refl);
}
