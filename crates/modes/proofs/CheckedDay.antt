-- A day whose chain is tested.
use Rattle.std.proofs.Common.{◌≡◌, ◌≢◌, ◌∙◌, ℕ, ◌+◌, List, [], ◌∷◌, Option, None, Some, Result, Ok, Err, IfOk, IfSome}
use Rattle.std.proofs.Common.{All, ap, length, map, refl, subst, sym}
use Rattle.std.specs.Prelude.{◌==◌, Bool, Vec, false}
use Rattle.std.proofs.lemmas.Bool.{false≢true}
use Rattle.std.specs.declared.alloc.Global.{Global}
use Rattle.std.specs.Prelude.{option_map}
use Rattle.std.specs.List.{range_with_len}
use Rattle.std.specs.Option.{option_or}
use Rattle.admit_core.proofs.ChainLaws.{chains_tell_the_day, no_fault_where_valid}
use Rattle.admit_core.specs.ChainLaws.{passes_told}
use Rattle.admit_core.specs.Chains.{IsDayChain, closing_by, day_fault, passes_fault}
use Rattle.admit_core.specs.Days.{IsDay, ceilings_of, first_evening, lapsed_on, morning, unfit_on}
use Rattle.admit_core.specs.DossierRows.{DossierRows}
use Rattle.admit_core.specs.State.{State, free_beds, seats_left}
use Rattle.admit_core.specs.declared.chain.DayChain.{DayChain}
use Rattle.admit_core.specs.declared.chain.PassChain.{PassChain}
use Rattle.admit_core.specs.declared.ranking.CallOrder.{CallOrder}
use Rattle.admit_core.specs.declared.records.DayRecord.{DayRecord}
use Rattle.admit_core.specs.declared.records.Terms.{Terms}
use Rattle.admit_core.specs.declared.refusal.OutOfMemory.{OutOfMemory}
use Rattle.admit_core.specs.declared.state.Status.{Status}
use Rattle.certificate.proofs.Ending.{evening_is}
use Rattle.certificate.specs.ChainText.{HasPassesOf}
use Rattle.certificate.specs.Checked.{state_after}
use Rattle.certificate.specs.ProvedDays.{AreProvedDays, evening_after, evening_by}
use Rattle.desk_day.proofs.SameDossier.{morning_dossier}
use Rattle.desk_day.proofs.Stamps.{stamps_kept}
use Rattle.desk_day.specs.AnswersOn.{IsUnfitOf, unfit_refusal}
use Rattle.desk_day.specs.RunDay.{IsStampedBy, KeepsStamps}
use Rattle.desk_day.specs.declared.refusal.DayRefusal.{DayRefusal}
use Rattle.desk_day.specs.declared.refusal.DayRefusal.TheVariants as refusals
use Rattle.intake.specs.Dated.{AreDatedFor}
use Rattle.intake.specs.declared.terms.DatedTerms.{DatedTerms}
use Rattle.modes.proofs.Writable.{finals_dated, first_known}
use Rattle.modes.specs.CheckedDays.{IsEveningOfDay, StopsBy, TellsWhy, why_of}
use Rattle.modes.specs.Checking.{IsDoneUnless, IsRefused, IsReply, IsReplyAfterTest, MayLackMemory, rejected_at}
use Rattle.modes.specs.Checking.{why_not, why_not_all, why_without_pass}
use Rattle.modes.specs.Replay.{CanBeDated, CanBeWritten}
use Rattle.modes.specs.declared.exit.Exit.{Exit}
use Rattle.modes.specs.declared.exit.Exit.TheVariants as exits
use Rattle.modes.specs.declared.unproved.Unproved.{Unproved}
use Rattle.modes.specs.declared.reply.Reply.{Reply}
use Rattle.modes.specs.declared.unproved.Unproved.TheVariants as unproved
use Rattle.modes.specs.declared.unproved.Unproved.TheVariants.{Refused}
use Rattle.modes.specs.declared.unproved.Why.{Why}
use Rattle.modes.specs.declared.unproved.Why.TheVariants.{Unfit}

-- a day keeps the dossier, and so do many
passes_stay : (orders : List CallOrder) (ceilings : List ℕ) (day k : ℕ) (s : State) (passes : List PassChain)
    → (state_after orders ceilings day k s passes).dossier ≡ s.dossier
passes_stay orders ceilings day k s [] = refl
passes_stay orders ceilings day k s (pass ∷ rest) =
    passes_stay orders ceilings day (k + 1) (closing_by s orders ceilings (record { day = day; pass = k }) pass) rest

pub evening_stays : (terms : Option Terms) (orders : List CallOrder) (day : ℕ) (old : State) (chain : DayChain)
    → (evening_by terms orders day old chain).dossier ≡ old.dossier
evening_stays terms orders day old chain =
    passes_stay orders (ceilings_of old.dossier day) day 1 (morning terms day old) chain.passes
    ∙ morning_dossier terms day old

pub days_stay : (terms : Option Terms) (orders : List CallOrder) (day : ℕ) (old : State) (chains : List DayChain)
    → (evening_after terms orders day old chains).dossier ≡ old.dossier
days_stay terms orders day old [] = refl
days_stay terms orders day old (chain ∷ chains) =
    days_stay terms orders (day + 1) (evening_by terms orders day old chain) chains
    ∙ evening_stays terms orders day old chain

-- why a day is refused whose chain has no pass
pub without_pass : (terms : Option Terms) (orders : List CallOrder) (day : ℕ) (old : State) (chain : DayChain)
    → chain.passes ≡ [] → why_not terms orders day old chain ≡ why_without_pass terms day old chain
without_pass terms orders day old chain none =
    ap (λ (passes : List PassChain).
    option_or (option_map (λ x. Unfit (unfit_refusal old.dossier day x)) (unfit_on terms day old))
    (rejected_at (passes_fault orders (ceilings_of old.dossier day) day chain.next_row 1 (morning terms day old)
    passes))) none

-- passes of which it was found that they are not empty
pub not_empty : (passes : List PassChain) (is_empty : Bool) → is_empty ≡ (length passes == 0) → is_empty ≡ false
    → passes ≢ []
not_empty passes is_empty is apart none =
    false≢true (sym apart ∙ is ∙ ap (λ (ps : List PassChain). length ps == 0) none)

never_none : (o : Option Why) (why : Why) → option_or o (Some why) ≡ None → ⊥
never_none None why e = cc
never_none (Some x) why e = cc

-- a day that is proved has a pass
has_pass : (terms : Option Terms) (orders : List CallOrder) (day : ℕ) (old : State) (chain : DayChain)
    → why_not terms orders day old chain ≡ None → chain.passes ≢ []
has_pass terms orders day old chain proved none =
    never_none _ _ (sym (without_pass terms orders day old chain none) ∙ proved)

none_first : {A : Type 0} (f : A → Why) (u : Option A) (o : Option Why) → option_or (option_map f u) o ≡ None
    → u ≡ None
none_first f None o e = refl
none_first f (Some x) o e = cc

-- each answer of a day that is proved fits
has_fit : (terms : Option Terms) (orders : List CallOrder) (day : ℕ) (old : State) (chain : DayChain)
    → why_not terms orders day old chain ≡ None → unfit_on terms day old ≡ None
has_fit terms orders day old chain proved =
    none_first (λ (x : ℕ × Status). Unfit (unfit_refusal old.dossier day x)) (unfit_on terms day old)
    (rejected_at (day_fault orders (ceilings_of old.dossier day) day (morning terms day old) chain)) proved

-- so memory may have run out on it
pub may_lack : (terms : Option Terms) (orders : List CallOrder) (day : ℕ) (old : State) (chain : DayChain)
    → why_not terms orders day old chain ≡ None → MayLackMemory terms day old chain
may_lack terms orders day old chain proved = record {
  fits = has_fit terms orders day old chain proved;
  has_pass = has_pass terms orders day old chain proved;
}

-- each answer fits too of a day whose beginning ran out of memory
pub fits_begun : (d : DossierRows) (day : ℕ) (unfit : Option (ℕ × Status)) (refusal : DayRefusal)
    → IsUnfitOf d day unfit refusal → why_of refusal ≡ unproved.OutOfMemory → unfit ≡ None
fits_begun d day unfit (refusals.Unfit refusal) is e = cc
fits_begun d day unfit refusals.OutOfMemory is e = is

-- where all answers fit, the chain's first fault tells why
module _ (terms : Option Terms) (orders : List CallOrder) (day : ℕ) (old dawn : State) (ceilings : List ℕ)
    (chain : DayChain) (fits : unfit_on terms day old ≡ None) (begins : dawn ≡ morning terms day old)
    (under : ceilings ≡ ceilings_of old.dossier day) where
  fault_same : day_fault orders ceilings day dawn chain
      ≡ day_fault orders (ceilings_of old.dossier day) day (morning terms day old) chain
  fault_same = ap (λ (cs : List ℕ). day_fault orders cs day dawn chain) under
      ∙ ap (λ (s : State). day_fault orders (ceilings_of old.dossier day) day s chain) begins

  pub chain_tells : {X : Type 0} (result : Result X Unproved)
      → TellsWhy result (rejected_at (day_fault orders ceilings day dawn chain))
      → TellsWhy result (why_not terms orders day old chain)
  chain_tells result tells =
      subst (TellsWhy result)
      (ap rejected_at fault_same
      ∙ ap (λ (u : Option (ℕ × Status)). option_or (option_map (λ x. Unfit (unfit_refusal old.dossier day x)) u)
      (rejected_at (day_fault orders (ceilings_of old.dossier day) day (morning terms day old) chain))) (sym fits))
      tells

  module _ (evening : State) (valid : IsDayChain orders ceilings day dawn chain evening) where
    valid_here : IsDayChain orders (ceilings_of old.dossier day) day (morning terms day old) chain evening
    valid_here =
        subst (λ (s : State). IsDayChain orders (ceilings_of old.dossier day) day s chain evening) begins
        (subst (λ (cs : List ℕ). IsDayChain orders cs day dawn chain evening) under valid)

    leads : evening ≡ evening_by terms orders day old chain
    leads = evening_is orders (ceilings_of old.dossier day) day 1
        (morning terms day old) chain.passes evening valid_here

    -- a valid chain tells a day of the rules
    told : DayRecord
    told = record {
      day = day;
      passes = passes_told orders (ceilings_of old.dossier day) day 1 (morning terms day old) chain.passes;
      left = map (seats_left evening) (range_with_len 0 (length evening.dossier.programmes));
      free = map (free_beds evening) (range_with_len 0 (length evening.dossier.schools));
      lapsed = lapsed_on terms day old;
    }

    is_day : IsDay terms orders (ceilings_of old.dossier day) old told evening
    unfolding told
    is_day = record {
      lapsed = refl;
      fits = fits;
      passes = chains_tell_the_day orders (ceilings_of old.dossier day) day
          (morning terms day old) chain evening valid_here;
      left = refl;
      free = refl;
    }

    keeps_stamps : KeepsStamps day old evening
    unfolding told
    keeps_stamps = stamps_kept terms orders (ceilings_of old.dossier day) old told evening is_day

    pub is_evening : IsEveningOfDay terms orders day old chain evening
    is_evening = record { is = leads; stamps = keeps_stamps }

-- the days from a place on
pub why_stops : (found : Unproved) (why rest all : Option Why) → all ≡ option_or why rest → StopsBy found why
    → StopsBy found all
why_stops (Refused reason) why rest all is stops = is ∙ ap (λ o. option_or o rest) stops
why_stops unproved.OutOfMemory why rest all is stops = tt

pub why_goes_on : (why rest all : Option Why) → all ≡ option_or why rest → why ≡ None → all ≡ rest
why_goes_on why rest all is none = is ∙ ap (λ o. option_or o rest) none

-- a stop of the test is that of the days
pub stop_ends : (d : DossierRows) (found : Why) (why : Option Why) (whole : List ℕ) (exit : Exit)
    (text : List ℕ) → why ≡ Some found → IsRefused d found exit text → IsDoneUnless d why whole exit text
stop_ends d found why whole exit text stops is =
    subst (λ (o : Option Why). IsDoneUnless d o whole exit text) (sym stops) is

-- days that are proved have nothing against them, and lead to their evening
none_against : (terms : Option Terms) (orders : List CallOrder) (day : ℕ) (old : State) (chain : DayChain)
    (evening : State) → unfit_on terms day old ≡ None
    → IsDayChain orders (ceilings_of old.dossier day) day (morning terms day old) chain evening
    → why_not terms orders day old chain ≡ None
none_against terms orders day old chain evening fits valid =
    ap (λ (u : Option (ℕ × Status)). option_or (option_map (λ x. Unfit (unfit_refusal old.dossier day x)) u)
    (rejected_at (day_fault orders (ceilings_of old.dossier day) day (morning terms day old) chain))) fits
    ∙ ap rejected_at
    ((no_fault_where_valid orders (ceilings_of old.dossier day) day (morning terms day old) chain).1
    (evening, valid))

pub proved_none : (terms : Option Terms) (orders : List CallOrder) (d : ℕ) (old : State) (chains : List DayChain)
    (new : State) → AreProvedDays terms orders d old chains new → why_not_all terms orders d old chains ≡ None
proved_none terms orders d old [] new are = refl
proved_none terms orders d old (chain ∷ chains) new are =
    let evening = are.0 in
    let leads_to = evening_is orders (ceilings_of old.dossier d) d 1 (morning terms d old) chain.passes evening are.2 in
    ap (λ (o : Option Why). option_or o (why_not_all terms orders (d + 1)
    (evening_by terms orders d old chain) chains)) (none_against terms orders d old chain evening are.1 are.2)
    ∙ ap (λ (s : State). why_not_all terms orders (d + 1) s chains) (sym leads_to)
    ∙ proved_none terms orders (d + 1) evening chains new are.3

-- the test goes on after a day that is proved, and stops at one that is not
module _ (terms : Option Terms) (orders : List CallOrder) (k : ℕ) (s next : State) (chain : DayChain)
    (rest : List DayChain) where
  pub days_go_on : (whole : Option Why) → whole ≡ why_not_all terms orders k s (chain ∷ rest)
      → why_not terms orders k s chain ≡ None → next ≡ evening_by terms orders k s chain
      → whole ≡ why_not_all terms orders (k + 1) next rest
  days_go_on whole e none is =
      why_goes_on (why_not terms orders k s chain)
      (why_not_all terms orders (k + 1) (evening_by terms orders k s chain) rest) whole e none
      ∙ ap (λ (t : State). why_not_all terms orders (k + 1) t rest) (sym is)

  pub evening_goes_on : (whole : State) → whole ≡ evening_after terms orders k s (chain ∷ rest)
      → next ≡ evening_by terms orders k s chain → whole ≡ evening_after terms orders (k + 1) next rest
  evening_goes_on whole e is = e ∙ ap (λ (t : State). evening_after terms orders (k + 1) t rest) (sym is)

  pub days_stop : (found : Unproved) (whole : Option Why) → whole ≡ why_not_all terms orders k s (chain ∷ rest)
      → StopsBy found (why_not terms orders k s chain) → StopsBy found whole
  days_stop found whole e stops = why_stops found (why_not terms orders k s chain)
      (why_not_all terms orders (k + 1) (evening_by terms orders k s chain) rest) whole e stops

-- the same days along the same orders from the same evening
module _ {terms told : Option Terms} {orders lent : List CallOrder} {first begun : State} (days : List DayChain)
    (as_told : told ≡ terms) (as_lent : lent ≡ orders) (as_begun : begun ≡ first) where
  pub why_alike : why_not_all told lent 1 begun days ≡ why_not_all terms orders 1 first days
  why_alike = λ i. why_not_all (as_told i) (as_lent i) 1 (as_begun i) days

  pub evening_alike : evening_after told lent 1 begun days ≡ evening_after terms orders 1 first days
  evening_alike = λ i. evening_after (as_told i) (as_lent i) 1 (as_begun i) days

-- a run is done where nothing is against its days
pub proof_ends : (d : DossierRows) (found : Option Why) (whole : List ℕ) (exit : Exit) (text : List ℕ)
    → found ≡ None → IsReply exits.Done whole exit text → IsDoneUnless d found whole exit text
proof_ends d found whole exit text none is =
    subst (λ (o : Option Why). IsDoneUnless d o whole exit text) (sym none) is

-- a reply is by what the test of the days told
pub reply_as_tested : (d : DossierRows) (why : Option Why) (whole : List ℕ) (tested : Result (Vec ℕ Global) Unproved)
    (result : Result Reply OutOfMemory) → TellsWhy tested why → IfOk tested (λ text. text.items ≡ whole)
    → IsReplyAfterTest d tested result → IfOk result (λ reply. IsDoneUnless d why whole reply.exit reply.text.items)
reply_as_tested d why whole (Ok text) (Ok reply) none is ends =
    proof_ends d why whole reply.exit reply.text.items none (ends.0, ends.1 ∙ is)
reply_as_tested d why whole (Err (Refused found)) (Ok reply) stops is ends =
    stop_ends d found why whole reply.exit reply.text.items stops ends
reply_as_tested d why whole (Err unproved.OutOfMemory) (Ok reply) stops is ends = absurd ends
reply_as_tested d why whole tested (Err e) tells is ends = tt

-- the evening after days from the first one on can be written with its dates
pub evening_dated : (d : DossierRows) (dated : Option DatedTerms) (begun evening : State) → begun ≡ first_evening d
    → evening.dossier ≡ begun.dossier → (All (IsStampedBy 366) begun.marks → All (IsStampedBy 366) evening.marks)
    → IfSome dated (AreDatedFor d) → CanBeDated dated evening
evening_dated d dated begun evening first same keeps known =
    finals_dated evening dated (subst (λ (e : DossierRows). IfSome dated (AreDatedFor e))
    (sym (same ∙ ap (λ (s : State). s.dossier) first)) known)
    (keeps (subst (λ (s : State). All (IsStampedBy 366) s.marks) (sym first) (first_known d dated).stamped))

-- the places of days that can be written are those that their chain names
pub chain_written : (d : DossierRows) (dated : Option DatedTerms) (days : List DayRecord)
    → All (CanBeWritten d dated) days → All (HasPassesOf d) days
chain_written d dated days can = λ k x lt n y within. ((can k x lt).passes n y within).falls
