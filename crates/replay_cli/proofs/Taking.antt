-- What the words ask for, taken in.
use Rattle.std.proofs.Common.{◌≡◌, ◌∙◌, ℕ, List, Option, None, Some, Result, Ok, Err, IsErrAnd, ap, arith}
use Rattle.std.proofs.Common.{inl, refl, subst, sym}
use Rattle.admit_core.specs.declared.slot.Slot.{Slot}
use Rattle.certificate.specs.Checked.{ids_in}
use Rattle.certificate.proofs.Indexed.{ids_are}
use Rattle.intake.specs.Input.{IsInputFor, NamesIn, TakesIn, job_of}
use Rattle.intake.specs.Shelves.{OnShelf, TakesSlots, Tells}
use Rattle.intake.specs.Stops.{◌>>=◌, Stopped, asked, words_stop}
use Rattle.intake.specs.declared.input.Input.{Input}
use Rattle.intake.specs.declared.stop.Stop.{Stop}
use Rattle.intake.specs.declared.stop.Stop.TheVariants as stops
use Rattle.request.specs.Modes.{slots_of}
use Rattle.request.specs.Request.{IsRequest, Reads, request_of}
use Rattle.request.specs.declared.refusal.WordsRefusal.{WordsRefusal}
use Rattle.request.specs.declared.refusal.WordsRefusal.TheVariants as refusals
use Rattle.request.specs.declared.request.Request.{Request}
use Rattle.replay_cli.specs.Answering.{TakesAll, TakesAsked}
use Rattle.replay_cli.specs.Outcome.{slots_read}

-- memory runs out before anything is taken
takes_nothing : (A : Type 0) (order : List Slot) (shelf : OnShelf)
    → TakesSlots {A = A} order shelf shelf (Err stops.OutOfMemory)
takes_nothing A order shelf = record {
  ends = λ slots tells. tt;
  once = λ slot among. omega arith;
  size = λ slot among. inl (omega arith);
  others = λ slot none. refl;
  others_taken = λ slot none. refl;
  counts = λ slot. omega arith;
  cause = tt;
  told = λ slot among. inl refl;
  others_faults = λ slot none. refl;
}

nothing_asked : (request : Option Request) (shelf : OnShelf)
    → TakesAsked {A = Request × Input} request shelf shelf (Err stops.OutOfMemory)
nothing_asked None shelf = (tt, refl)
nothing_asked (Some request) shelf = takes_nothing (Request × Input) (slots_of request.mode) shelf

-- the words are not read
unread : (words : List (List ℕ)) (shelf : OnShelf) (refusal : WordsRefusal) → Reads (Err refusal) (request_of words)
    → TakesAll words shelf shelf (Err (words_stop refusal))
unread words shelf refusals.Bad none = record {
  asked = tt;
  known = tt;
  input = tt;
  stop = λ slots tells.
      let P : Option Request → Type 0 = λ q. (asked q >>= (λ request. job_of request slots)) ≡ Err stops.BadWords in
      subst P (sym none) refl;
  slots = let P : Option Request → Type 0 = λ q. TakesAsked {A = Request × Input} q shelf shelf (Err stops.BadWords) in
      subst P (sym none) (tt, refl);
}
unread words shelf refusals.OutOfMemory none = record {
  asked = tt;
  known = tt;
  input = tt;
  stop = λ slots tells. tt;
  slots = nothing_asked (request_of words) shelf;
}

pub takes_lacking : (words : List (List ℕ)) (shelf : OnShelf)
    → TakesAll words shelf shelf (Err stops.OutOfMemory)
takes_lacking words shelf = unread words shelf refusals.OutOfMemory tt

pub takes_unread : (words : List (List ℕ)) (shelf : OnShelf) (refusal : WordsRefusal)
    (r : Result (Request × Input) Stop) → Reads (Err refusal) (request_of words)
    → IsErrAnd r (λ stop. stop ≡ words_stop refusal)
    → TakesAll words shelf shelf r
takes_unread words shelf refusal (Ok x) reads from = absurd from
takes_unread words shelf refusal (Err stop) reads from =
    subst (λ (s : Stop). TakesAll words shelf shelf (Err s)) (sym from) (unread words shelf refusal reads)

module _ (words : List (List ℕ)) (request : Request) (before after : OnShelf)
    (is : request_of words ≡ Some request) where
  asked_slots : {r : Result (Request × Input) Stop} → TakesSlots (slots_of request.mode) before after r
      → TakesAsked (request_of words) before after r
  asked_slots {r} slots = let P : Option Request → Type 0 = λ q. TakesAsked q before after r in subst P (sym is) slots

  -- there is no input
  no_input : (stop : Stop) → TakesIn request before after (Err stop) → TakesAll words before after (Err stop)
  no_input stop takes = record {
    asked = tt;
    known = tt;
    input = tt;
    stop = λ slots tells.
        let P : Option Request → Type 0 = λ q. Stopped stop (asked q >>= (λ x. job_of x slots)) in
        let Q : Option Request → Type 0 = λ q. Tells (slots_read q) before.left slots in
        subst P (sym is) (takes.value slots (subst Q is tells));
    slots = asked_slots (record {
      ends = λ slots tells. tt;
      once = takes.slots.once;
      size = takes.slots.size;
      others = takes.slots.others;
      others_taken = takes.slots.others_taken;
      counts = takes.slots.counts;
      cause = takes.slots.cause;
      told = takes.slots.told;
      others_faults = takes.slots.others_faults;
    });
  }

  pub takes_stop : (stop : Stop) (r : Result (Request × Input) Stop) → TakesIn request before after (Err stop)
      → IsErrAnd r (λ s. s ≡ stop) → TakesAll words before after r
  takes_stop stop (Ok x) takes from = absurd from
  takes_stop stop (Err other) takes from =
      subst (λ (s : Stop). TakesAll words before after (Err s)) (sym from) (no_input stop takes)

  pub takes_input : (input : Input) → IsRequest request → TakesIn request before after (Ok input)
      → TakesAll words before after (Ok (request, input))
  takes_input input known takes = record {
    asked = is;
    known = known;
    input = takes.value;
    stop = tt;
    slots = asked_slots (record {
      ends = takes.slots.ends;
      once = takes.slots.once;
      size = takes.slots.size;
      others = takes.slots.others;
      others_taken = takes.slots.others_taken;
      counts = takes.slots.counts;
      cause = tt;
      told = takes.slots.told;
      others_faults = takes.slots.others_faults;
    });
  }

-- what a mode names is in its input
pub named_in : (request : Request) (before : OnShelf) (input : Input) → IsInputFor request before input
    → NamesIn request.mode input.index
named_in request before input is = subst (NamesIn request.mode) (sym is.is_input.index) is.is_job.named

-- the index of an input is that of its dossier
pub indexed_in : (request : Request) (before : OnShelf) (input : Input) → IsInputFor request before input
    → input.index ≡ ids_in input.dossier
indexed_in request before input is = is.is_input.index ∙ ids_are is.job.tables ∙ ap ids_in (sym is.is_input.dossier)
