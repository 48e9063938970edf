-- A campaign as a walk from moment to moment, each step a lapse, an answer, the offers of a pass or automatic answers.
use Rattle.std.proofs.Common.{ℕ, ◌+◌, ◌<◌, ◌≡◌, true, zero, suc, List, [], ◌∷◌, ◌++◌, Option, Some, None, inl, inr}
use Rattle.std.proofs.Common.{refl, sym, ◌∙◌, ap, subst, arith, get_or, length}
use Rattle.std.specs.Prelude.{AllPairs}
use Rattle.std.specs.List.{AllByRecursion}
use Rattle.std.proofs.lemmas.Bool.{cases_Bool}
use Rattle.admit_core.specs.declared.dossier.Answer.{Answer}
use Rattle.admit_core.specs.declared.dossier.AnswerKind.{AnswerKind}
use Rattle.admit_core.specs.declared.dossier.AnswerKind.TheVariants.{Accept, Refuse, Withdraw, Quit}
use Rattle.admit_core.specs.declared.ranking.CallOrder.{CallOrder}
use Rattle.admit_core.specs.declared.records.DayRecord.{DayRecord}
use Rattle.admit_core.specs.declared.records.PassEnd.{PassEnd}
use Rattle.admit_core.specs.declared.records.Terms.{Terms}
use Rattle.admit_core.specs.declared.state.Stamp.{Stamp}
use Rattle.admit_core.specs.Answers.{after, after_all, after_kind, first_unfit, fits}
use Rattle.admit_core.specs.AutoAnswer.{auto_all}
use Rattle.admit_core.specs.Boarding.{boarding}
use Rattle.admit_core.specs.Days.{Days, IsDay, Passes, after_lapse, answers_of, ceilings_of, closing, morning, offered}
use Rattle.admit_core.specs.Days.{unfit_on}
use Rattle.admit_core.specs.DossierRows.{DossierRows}
use Rattle.admit_core.specs.Falls.{IsGreatest}
use Rattle.admit_core.specs.Lapses.{lapse}
use Rattle.admit_core.specs.State.{State}
use Rattle.day_state.proofs.Independence.{dossier_after_all}
use Rattle.campaign_laws.specs.Moments.{Opening, after_each, after_passes, day_moments, day_openings, evening_after}
use Rattle.campaign_laws.specs.Moments.{evening_of, moments, openings, pass_openings}

-- from one state to another through these moments
abbrev pub Walk : (State → State → Type 0) → State → List State → State → Type 0
Walk R s [] e = s ≡ e
Walk R s (x ∷ xs) e = R s x × Walk R x xs e

joined : (R : State → State → Type 0) (s : State) (xs ys : List State) (m e : State) → Walk R s xs m → Walk R m ys e
    → Walk R s (xs ++ ys) e
joined R s [] ys m e first rest = subst (λ (t : State). Walk R t ys e) (sym first) rest
joined R s (x ∷ xs) ys m e first rest = (first.0, joined R x xs ys m e first.1 rest)

-- what each step keeps holds at each moment, and at the end
pub record HoldsThroughout (P : State → Type 0) (xs : List State) (e : State) : Type 0 where
  pub moments : AllByRecursion P xs
  pub end : P e

pub throughout : (R : State → State → Type 0) (P : State → Type 0) → ((s t : State) → R s t → P s → P t)
    → (s : State) (xs : List State) (e : State) → Walk R s xs e → P s → HoldsThroughout P xs e
throughout R P keeps s [] e walk p = record { moments = tt; end = subst P walk p }
throughout R P keeps s (x ∷ xs) e walk p =
    let there = keeps s x walk.0 p in
    let rest = throughout R P keeps x xs e walk.1 there in
    record { moments = (there, rest.moments); end = rest.end }

-- what each step needs to have held before it, held at each moment
pub record HeldThroughout (P : State → Type 0) (s : State) (xs : List State) : Type 0 where
  pub moments : AllByRecursion P xs
  pub start : P s

pub all_along : (R : State → State → Type 0) (P : State → Type 0) → ((s t : State) → R s t → P t → P s)
    → (s : State) (xs : List State) (e : State) → Walk R s xs e → P e → HeldThroughout P s xs
all_along R P needs s [] e walk p = record { moments = tt; start = subst P (sym walk) p }
all_along R P needs s (x ∷ xs) e walk p =
    let rest = all_along R P needs x xs e walk.1 p in
    record { moments = (rest.start, rest.moments); start = needs s x walk.0 rest.start }

-- then each step may be taken with it
pub with_fact : (R : State → State → Type 0) (P : State → Type 0) (s : State) (xs : List State) (e : State)
    → Walk R s xs e → HeldThroughout P s xs
    → Walk (λ a b. R a b × P a × P b) s xs e
with_fact R P s [] e walk held = walk
with_fact R P s (x ∷ xs) e walk held = (
  (walk.0, held.start, held.moments.0),
  with_fact R P x xs e walk.1
      (record { moments = held.moments.1; start = held.moments.0 }),
)

-- a relation of each step that can be joined holds between any two moments
pairs_cons : (R : State → State → Type 0) (s : State) (xs : List State) → AllByRecursion (R s) xs → AllPairs R xs
    → AllPairs R (s ∷ xs)
pairs_cons R s xs from pairs zero zero d below lt = absurd (omega arith)
pairs_cons R s xs from pairs zero (suc j) d below lt = at xs from j d (omega arith)
  where
    at : (ys : List State) → AllByRecursion (R s) ys → (k : ℕ) (e : State) → k < length ys → R s (get_or ys k e)
    at [] all k e k_lt = absurd (omega arith)
    at (y ∷ ys) all zero e k_lt = all.0
    at (y ∷ ys) all (suc k) e k_lt = at ys all.1 k e (omega arith)
pairs_cons R s xs from pairs (suc i) zero d below lt = absurd (omega arith)
pairs_cons R s xs from pairs (suc i) (suc j) d below lt = pairs i j d (omega arith) (omega arith)

pub any_two : (R : State → State → Type 0) → ((a b c : State) → R a b → R b c → R a c)
    → (s : State) (xs : List State) (e : State) → Walk R s xs e → AllPairs R (s ∷ xs)
any_two R join s [] e walk = λ i j d below lt. absurd (omega arith)
any_two R join s (x ∷ xs) e walk =
    let rest = throughout R (R s) (λ a b step so_far. join s a b so_far step) x xs e walk.1 walk.0 in
    pairs_cons R s (x ∷ xs) (walk.0, rest.moments) (any_two R join x xs e walk.1)

-- answers leave the dossier as it is
kind_dossier : (kind : AnswerKind) (s : State) (target : ℕ) (stamp : Stamp)
    → (after_kind kind s target stamp).dossier ≡ s.dossier
kind_dossier Accept s target stamp = refl
kind_dossier Refuse s target stamp = refl
kind_dossier Withdraw s target stamp = refl
kind_dossier Quit s target stamp = refl

answer_dossier : (s : State) (stamp : Stamp) (a : Answer) → (after s stamp a).dossier ≡ s.dossier
answer_dossier s stamp a = kind_dossier a.kind s a.target stamp

lapsed_of : (d : DossierRows) (terms : Option Terms) (day : ℕ) (s : State) → s.dossier ≡ d
    → (after_lapse terms day s).dossier ≡ d
lapsed_of d None day s of = of
lapsed_of d (Some t) day s of = of

pub morning_of : (d : DossierRows) (terms : Option Terms) (day : ℕ) (s : State) → s.dossier ≡ d
    → (morning terms day s).dossier ≡ d
morning_of d terms day s of =
    dossier_after_all (after_lapse terms day s) (record { day = day; pass = 0 }) (answers_of s.dossier day)
    ∙ lapsed_of d terms day s of

pub evening_dossier : (orders : List CallOrder) (day k : ℕ) (s : State) (passes : List PassEnd)
    → (evening_after orders day k s passes).dossier ≡ s.dossier
evening_dossier orders day k s [] = refl
evening_dossier orders day k s (pass ∷ rest) =
    evening_dossier orders day (k + 1) (closing s orders pass.pass.bars (record { day = day; pass = k })) rest

-- the evening of a day is the one that its passes leave
pub evening_is : (orders : List CallOrder) (ceilings : List ℕ) (day k : ℕ) (s : State) (passes : List PassEnd)
    (evening : State)
    → Passes orders ceilings day k s passes evening → evening ≡ evening_after orders day k s passes
evening_is orders ceilings day k s [] evening are = absurd are
evening_is orders ceilings day k s (pass ∷ []) evening are = are.2
evening_is orders ceilings day k s (pass ∷ (next ∷ rest)) evening are =
    evening_is orders ceilings day (k + 1) (closing s orders pass.pass.bars (record { day = day; pass = k }))
    (next ∷ rest) evening are.2

pub all_split : {X : Type 0} (P : X → Type 0) (xs ys : List X) → AllByRecursion P (xs ++ ys)
    → AllByRecursion P xs × AllByRecursion P ys
all_split P [] ys all = (tt, all)
all_split P (x ∷ xs) ys all = let rest = all_split P xs ys all.1 in ((all.0, rest.0), rest.1)

-- what relates the state before each kind of step to that after it: of the openings, and of the
-- answers, something may be known
pub record Steps (d : DossierRows) (terms : Option Terms) (orders : List CallOrder) (Q : Opening → Type 0)
    (A : Answer → Type 0)
    (R : State → State → Type 0) : Type 0 where
  pub stays : (s : State) → R s s
  pub lapses : (t : Terms) (day : ℕ) (s : State) → terms ≡ Some t → s.dossier ≡ d → R s (lapse t day s)
  pub answers : (s : State) (stamp : Stamp) (a : Answer) → s.dossier ≡ d → fits s a ≡ true → A a → R s (after s stamp a)
  pub offers : (s : State) (day : ℕ) (bars : List ℕ) (stamp : Stamp) → s.dossier ≡ d
      → IsGreatest (boarding s orders (ceilings_of d day)) bars
      → Q (record { state = s; bars = bars }) → R s (offered s orders bars stamp)
  pub autos : (s : State) (stamp : Stamp) → s.dossier ≡ d → R s (auto_all s stamp)

-- two relations at once
pub both : (d : DossierRows) (terms : Option Terms) (orders : List CallOrder) (Q : Opening → Type 0)
    (A : Answer → Type 0) (R S : State → State → Type 0)
    → Steps d terms orders Q A R → Steps d terms orders Q A S → Steps d terms orders Q A (λ s t. R s t × S s t)
both d terms orders Q A R S first second = record {
  stays = λ s. (first.stays s, second.stays s);
  lapses = λ t day s is of. (first.lapses t day s is of, second.lapses t day s is of);
  answers = λ s stamp a of fit known. (first.answers s stamp a of fit known, second.answers s stamp a of fit known);
  offers = λ s day bars stamp of greatest known.
      (first.offers s day bars stamp of greatest known, second.offers s day bars stamp of greatest known);
  autos = λ s stamp of. (first.autos s stamp of, second.autos s stamp of);
}

abbrev pub SameDossier : State → State → Type 0
SameDossier s t = t.dossier ≡ s.dossier

pub same_dossier : (d : DossierRows) (terms : Option Terms) (orders : List CallOrder) (Q : Opening → Type 0)
    (A : Answer → Type 0) → Steps d terms orders Q A SameDossier
same_dossier d terms orders Q A = record {
  stays = λ s. refl;
  lapses = λ t day s is of. refl;
  answers = λ s stamp a of fit known. answer_dossier s stamp a;
  offers = λ s day bars stamp of greatest known. refl;
  autos = λ s stamp of. refl;
}

module _ (d : DossierRows) (terms : Option Terms) (orders : List CallOrder) (Q : Opening → Type 0) (A : Answer → Type 0)
    (R : State → State → Type 0) (steps : Steps d terms orders Q A R) where
  lapse_step : (given : Option Terms) (day : ℕ) (s : State) → terms ≡ given → s.dossier ≡ d
      → R s (after_lapse given day s)
  lapse_step None day s is of = steps.stays s
  lapse_step (Some t) day s is of = steps.lapses t day s is of

  answer_steps : (i : ℕ) (s : State) (stamp : Stamp) (answers : List Answer) → s.dossier ≡ d
      → first_unfit i s stamp answers ≡ None
      → AllByRecursion A answers → Walk R s (after_each s stamp answers) (after_all s stamp answers)
  answer_steps i s stamp [] of none all = refl
  answer_steps i s stamp (a ∷ rest) of none all =
      elim (cases_Bool (fits s a)) [
        | inl fit ↦ (
          steps.answers s stamp a of fit all.0,
          answer_steps (i + 1) (after s stamp a) stamp rest (answer_dossier s stamp a ∙ of) (rw fit at none) all.1,
        )
        | inr unfit ↦ let some = rw unfit at none in absurd (cc)
      ]

  -- from the evening before to the state in which the passes begin
  pub morning_steps : (old : State) (day : ℕ) → old.dossier ≡ d → unfit_on terms day old ≡ None
      → AllByRecursion A (answers_of old.dossier day)
      → Walk R old (after_lapse terms day old ∷ after_each (after_lapse terms day old) (record { day = day; pass = 0 })
      (answers_of old.dossier day)) (morning terms day old)
  morning_steps old day of fits may = (
    lapse_step terms day old refl of,
    answer_steps 0 (after_lapse terms day old) (record { day = day; pass = 0 }) (answers_of old.dossier day)
        (lapsed_of d terms day old of) fits may,
  )

  pass_steps : (ceilings : List ℕ) (day k : ℕ) (s : State) (passes : List PassEnd) (evening : State)
      → ceilings ≡ ceilings_of d day → s.dossier ≡ d
      → Passes orders ceilings day k s passes evening → AllByRecursion Q (pass_openings orders day k s passes)
      → Walk R s (after_passes orders day k s passes) evening
  pass_steps ceilings day k s [] evening are_ceilings of are all = absurd are
  pass_steps ceilings day k s (pass ∷ []) evening are_ceilings of are all =
      let stamp : Stamp = record { day = day; pass = k } in
      let bars = pass.pass.bars in
      let greatest = subst (λ (cs : List ℕ). IsGreatest (boarding s orders cs) bars) are_ceilings are.0.pass.greatest in
      (steps.offers s day bars stamp of greatest all.0, (steps.autos (offered s orders bars stamp) stamp of, sym are.2))
  pass_steps ceilings day k s (pass ∷ (next ∷ rest)) evening are_ceilings of are all =
      let stamp : Stamp = record { day = day; pass = k } in
      let bars = pass.pass.bars in
      let greatest = subst (λ (cs : List ℕ). IsGreatest (boarding s orders cs) bars) are_ceilings are.0.pass.greatest in
      let after = pass_steps ceilings day (k + 1) (closing s orders bars stamp) (next ∷ rest) evening are_ceilings of
      are.2 all.1 in
      (steps.offers s day bars stamp of greatest all.0, (steps.autos (offered s orders bars stamp) stamp of, after))

  day_steps : (number : ℕ) (old : State) (day : DayRecord) (evening : State) → old.dossier ≡ d → day.day ≡ number
      → IsDay terms orders (ceilings_of old.dossier number) old day evening
      → AllByRecursion Q (day_openings terms orders old day) → AllByRecursion A (answers_of d day.day)
      → Walk R old (day_moments terms orders old day) evening
  day_steps number old day evening of is_number is all may =
      let lapsed = after_lapse terms day.day old in
      let stamp : Stamp = record { day = day.day; pass = 0 } in
      let answers = answers_of old.dossier day.day in
      let are_ceilings : ceilings_of old.dossier number ≡ ceilings_of d day.day = rw (of, is_number) refl in
      let own : AllByRecursion A answers = subst (λ (x : DossierRows). AllByRecursion A (answers_of x day.day))
      (sym of) may in
      let first = morning_steps old day.day of is.fits own in
      let last = pass_steps (ceilings_of old.dossier number) day.day 1 (morning terms day.day old) day.passes evening
      are_ceilings
      (morning_of d terms day.day old of) is.passes all in
      joined R old (lapsed ∷ after_each lapsed stamp answers)
      (after_passes orders day.day 1 (morning terms day.day old) day.passes)
      (morning terms day.day old) evening first last

  pub campaign_steps : (number : ℕ) (old : State) (days : List DayRecord) (new : State) → old.dossier ≡ d
      → Days terms orders number old days new
      → AllByRecursion Q (openings terms orders old days) → AllByRecursion
      (λ day. AllByRecursion A (answers_of d day.day)) days
      → Walk R old (moments terms orders old days) new
  campaign_steps number old [] new of are all may = are
  campaign_steps number old (day ∷ days) new of are all may =
      let (evening, is_number, is_day, rest) = are in
      let parts = all_split Q (day_openings terms orders old day)
      (openings terms orders (evening_of terms orders old day) days) all in
      let left : evening ≡ evening_of terms orders old day =
      evening_is orders (ceilings_of old.dossier number) day.day 1 (morning terms day.day old) day.passes evening
      is_day.passes in
      let kept : evening.dossier ≡ d =
      ap (λ (s : State). s.dossier) left ∙ evening_dossier orders day.day 1 (morning terms day.day old) day.passes
      ∙ morning_of d terms day.day old of in
      let openings_there : AllByRecursion Q (openings terms orders evening days) =
      subst (λ (s : State). AllByRecursion Q (openings terms orders s days)) (sym left) parts.1 in
      let later : Walk R evening (moments terms orders evening days) new =
      campaign_steps (number + 1) evening days new kept rest openings_there may.1 in
      joined R old (day_moments terms orders old day) (moments terms orders (evening_of terms orders old day) days)
      evening new
      (day_steps number old day evening of is_number is_day parts.0 may.0)
      (subst (λ (s : State). Walk R evening (moments terms orders s days) new) left later)

-- where nothing need be known
abbrev pub Nothing : {X : Type 0} → X → Type 0
Nothing x = Unit {0}

pub all_of : {X : Type 0} (P : X → Type 0) → ((x : X) → P x) → (xs : List X) → AllByRecursion P xs
all_of P each [] = tt
all_of P each (x ∷ xs) = (each x, all_of P each xs)

pub plain_steps : (terms : Option Terms) (orders : List CallOrder) (R : State → State → Type 0) (number : ℕ)
    (old : State) (days : List DayRecord) (new : State)
    → Steps old.dossier terms orders Nothing Nothing R → Days terms orders number old days new
    → Walk R old (moments terms orders old days) new
plain_steps terms orders R number old days new steps are =
    campaign_steps old.dossier terms orders Nothing Nothing R steps number old days new refl are
    (all_of Nothing (λ o. tt) (openings terms orders old days))
    (all_of (λ (day : DayRecord). AllByRecursion Nothing (answers_of old.dossier day.day))
    (λ day. all_of Nothing (λ a. tt) (answers_of old.dossier day.day)) days)

-- where something is known of the openings alone
pub steps_by_openings : (terms : Option Terms) (orders : List CallOrder) (Q : Opening → Type 0)
    (R : State → State → Type 0) (number : ℕ) (old : State) (days : List DayRecord) (new : State)
    → Steps old.dossier terms orders Q Nothing R → Days terms orders number old days new
    → AllByRecursion Q (openings terms orders old days)
    → Walk R old (moments terms orders old days) new
steps_by_openings terms orders Q R number old days new steps are all =
    campaign_steps old.dossier terms orders Q Nothing R steps number old days new refl are all
    (all_of (λ (day : DayRecord). AllByRecursion Nothing (answers_of old.dossier day.day))
    (λ day. all_of Nothing (λ a. tt) (answers_of old.dossier day.day)) days)

-- the openings stand among the moments: what holds at all of them holds before and after the offers of each pass
pub record Around (P : State → Type 0) (orders : List CallOrder) (o : Opening) : Type 0 where
  pub stamp : Stamp
  pub before : P o.state
  pub after : P (offered o.state orders o.bars stamp)

all_joined : {X : Type 0} (P : X → Type 0) (xs ys : List X) → AllByRecursion P xs → AllByRecursion P ys
    → AllByRecursion P (xs ++ ys)
all_joined P [] ys first rest = rest
all_joined P (x ∷ xs) ys first rest = (first.0, all_joined P xs ys first.1 rest)

module _ (P : State → Type 0) (terms : Option Terms) (orders : List CallOrder) where
  after_answers : (s : State) (stamp : Stamp) (answers : List Answer) → P s
      → AllByRecursion P (after_each s stamp answers) → P (after_all s stamp answers)
  after_answers s stamp [] p all = p
  after_answers s stamp (a ∷ rest) p all = after_answers (after s stamp a) stamp rest all.0 all.1

  at_evening : (day k : ℕ) (s : State) (passes : List PassEnd) → P s
      → AllByRecursion P (after_passes orders day k s passes) → P (evening_after orders day k s passes)
  at_evening day k s [] p all = p
  at_evening day k s (pass ∷ rest) p all = at_evening day (k + 1)
      (closing s orders pass.pass.bars (record { day = day; pass = k })) rest all.1.0 all.1.1

  around_passes : (day k : ℕ) (s : State) (passes : List PassEnd) → P s
      → AllByRecursion P (after_passes orders day k s passes)
      → AllByRecursion (Around P orders) (pass_openings orders day k s passes)
  around_passes day k s [] p all = tt
  around_passes day k s (pass ∷ rest) p all =
      let stamp : Stamp = record { day = day; pass = k } in (
        record { stamp = stamp; before = p; after = all.0 },
        around_passes day (k + 1)
            (closing s orders pass.pass.bars stamp) rest all.1.0 all.1.1,
      )

  pub around_openings : (old : State) (days : List DayRecord) → P old → AllByRecursion P (moments terms orders old days)
      → AllByRecursion (Around P orders) (openings terms orders old days)
  around_openings old [] p all = tt
  around_openings old (day ∷ days) p all =
      let lapsed = after_lapse terms day.day old in
      let stamp : Stamp = record { day = day.day; pass = 0 } in
      let answers = answers_of old.dossier day.day in
      let dawn = morning terms day.day old in
      let whole = all_split P (day_moments terms orders old day)
      (moments terms orders (evening_of terms orders old day) days) all in
      let parts = all_split P (after_each lapsed stamp answers) (after_passes orders day.day 1 dawn day.passes)
      whole.0.1 in
      let there = after_answers lapsed stamp answers whole.0.0 parts.0 in
      all_joined (Around P orders) (day_openings terms orders old day)
      (openings terms orders (evening_of terms orders old day) days)
      (around_passes day.day 1 dawn day.passes there parts.1)
      (around_openings (evening_of terms orders old day) days (at_evening day.day 1 dawn day.passes there parts.1)
      whole.1)

-- two facts at once
pub all_both : {X : Type 0} (P Q : X → Type 0) (xs : List X) → AllByRecursion P xs → AllByRecursion Q xs
    → AllByRecursion (λ x. P x × Q x) xs
all_both P Q [] first second = tt
all_both P Q (x ∷ xs) first second = ((first.0, second.0), all_both P Q xs first.1 second.1)

pub all_imply : {X : Type 0} (P Q : X → Type 0) → ((x : X) → P x → Q x) → (xs : List X) → AllByRecursion P xs
    → AllByRecursion Q xs
all_imply P Q h [] all = tt
all_imply P Q h (x ∷ xs) all = (h x all.0, all_imply P Q h xs all.1)
