-- The evening of automatic days is a stable matching.
use Rattle.std.proofs.Common.{ℕ, ◌+◌, ◌<◌, ◌≤◌, ◌≡◌, Bool, true, false, ◌&&◌, ◌||◌, filter, List, [], ◌∷◌, length, map}
use Rattle.std.proofs.Common.{get_or, Option, Some, None, inl, inr, refl, sym, ◌∙◌, ap, subst, arith, nat_eq, nat_lt}
use Rattle.std.proofs.Common.{zip}
use Rattle.std.specs.Prelude.{AllPairs, ◌==◌, if◌then◌else◌, unwrap_or}
use Rattle.std.specs.List.{AllByRecursion, list_any}
use Rattle.std.proofs.lemmas.Bool.{and_from, and_parts, both_ways, cases_Bool, eq-eqb, eqb-true, false_from_ne_true}
use Rattle.std.proofs.lemmas.Bool.{lt-ltb}
use Rattle.std.proofs.lemmas.List.{get_or-map, get_or_default, length-map}
use Rattle.std.proofs.lemmas.List.Elements.{All-from_recursion, recursion_from_All}
use Rattle.std.proofs.lemmas.List.Folds.{Any-from_list_any, list_any_at}
use Rattle.admit_core.specs.declared.dossier.Answer.{Answer}
use Rattle.admit_core.specs.declared.dossier.Programme.{Programme}
use Rattle.admit_core.specs.declared.dossier.Wish.{Wish}
use Rattle.admit_core.specs.declared.ranking.CallOrder.{CallOrder}
use Rattle.admit_core.specs.declared.records.DayRecord.{DayRecord}
use Rattle.admit_core.specs.declared.records.PassEnd.{PassEnd}
use Rattle.admit_core.specs.declared.state.Mark.{Mark}
use Rattle.admit_core.specs.declared.state.Stamp.{Stamp}
use Rattle.admit_core.specs.declared.state.Status.{Status}
use Rattle.admit_core.specs.declared.state.Status.TheVariants.{Waiting, Offered, Accepted, Refused, Withdrawn, Quit}
use Rattle.admit_core.specs.declared.state.Status.TheVariants.{AutoRefused, AutoWithdrawn, Lapsed}
use Rattle.admit_core.specs.AutoAnswer.{auto_all, auto_mark, auto_status, best_live}
use Rattle.admit_core.specs.Blocking.{blocking, is_missed}
use Rattle.admit_core.specs.CallOrder.{AreCallOrders}
use Rattle.admit_core.specs.Days.{Days, Passes, answers_of, ceilings_of, closing, first_evening, first_mark, morning}
use Rattle.admit_core.specs.Days.{offered}
use Rattle.admit_core.specs.DossierRows.{DossierRows, candidates_of, seats_of}
use Rattle.admit_core.specs.Proposals.{is_proposed}
use Rattle.admit_core.specs.State.{State, changed_to, entries, holds_seat, is_live, is_live_status, is_waiting}
use Rattle.admit_core.specs.State.{is_waiting_status, seat_holders, with_marks}
use Rattle.admit_core.specs.Validity.{IsApart, IsValid}
use Rattle.admit_core.proofs.Holders.{entries_marked, marked_by}
use Rattle.admit_core.proofs.Plain.{filter_none}
use Rattle.admit_core.proofs.Statuses.{changed_status, status_of_auto}
use Rattle.day_state.proofs.Along.{length-with_marks}
use Rattle.envy.proofs.AutomaticDays.{later_evening_blocks_none}
use Rattle.campaign_laws.specs.AutomaticDay.{AutomaticEveningsAreStable, IsAllAutomatic, NotBothLive}
use Rattle.campaign_laws.specs.Moments.{moments, openings}
use Rattle.campaign_laws.proofs.Matchings.{no_limit, prefers, stands}
use Rattle.campaign_laws.proofs.GoneStays.{live_waits_not}
use Rattle.campaign_laws.proofs.Kept.{none_least, ranked_live}
use Rattle.campaign_laws.proofs.Room.{seats_throughout}
use Rattle.campaign_laws.proofs.Walks.{Nothing, Steps, all_of, campaign_steps, morning_of, throughout}

-- ---- an evening is what automatic answers leave
record IsAnswered (d : DossierRows) (evening : State) : Type 0 where
  state : State
  stamp : Stamp
  is : evening ≡ auto_all state stamp
  of : state.dossier ≡ d

answered_passes : (orders : List CallOrder) (ceilings : List ℕ) (day k : ℕ) (s : State) (passes : List PassEnd)
    (evening : State)
    → Passes orders ceilings day k s passes evening → IsAnswered s.dossier evening
answered_passes orders ceilings day k s [] evening are = absurd are
answered_passes orders ceilings day k s (pass ∷ []) evening are =
    let stamp : Stamp = record { day = day; pass = k } in
    record { state = offered s orders pass.pass.bars stamp; stamp = stamp; is = are.2; of = refl }
answered_passes orders ceilings day k s (pass ∷ (next ∷ rest)) evening are =
    answered_passes orders ceilings day (k + 1) (closing s orders pass.pass.bars (record { day = day; pass = k }))
    (next ∷ rest) evening are.2

answered_day : (d : DossierRows) (old evening : State) → old.dossier ≡ d → IsAnswered old.dossier evening
    → IsAnswered d evening
answered_day d old evening of answered = subst (λ (x : DossierRows). IsAnswered x evening) of answered

dossier_of_answered : (d : DossierRows) (evening : State) → IsAnswered d evening → evening.dossier ≡ d
dossier_of_answered d evening answered = ap (λ (s : State). s.dossier) answered.is ∙ answered.of

answered_days : (d : DossierRows) (orders : List CallOrder) (n : ℕ) (old : State) (days : List DayRecord)
    (evening : State) → old.dossier ≡ d → 0 < length days
    → Days None orders n old days evening → IsAnswered d evening
answered_days d orders n old [] evening of some are = absurd (omega (arith, some))
answered_days d orders n old (day ∷ []) evening of some are =
    let dawn = morning None day.day old in
    let answered = answered_passes orders (ceilings_of old.dossier n) day.day 1 dawn day.passes are.0 are.2.passes in
    subst (IsAnswered d) are.3 (answered_day d dawn are.0 (morning_of d None day.day old of) answered)
answered_days d orders n old (day ∷ (next ∷ rest)) evening of some are =
    let dawn = morning None day.day old in
    let answered = answered_passes orders (ceilings_of old.dossier n) day.day 1 dawn day.passes are.0 are.2.passes in
    answered_days d orders (n + 1) are.0 (next ∷ rest) evening
    (dossier_of_answered d are.0 (answered_day d dawn are.0 (morning_of d None day.day old of) answered))
    (omega arith) are.3

-- ---- then each candidate has at most one live wish
beside_best : (x : Status) (is_behind : Bool) → is_live_status (auto_status x false is_behind) ≡ false
beside_best Waiting true = refl
beside_best Waiting false = refl
beside_best Offered is_behind = refl
beside_best Accepted is_behind = refl
beside_best Refused is_behind = refl
beside_best Withdrawn is_behind = refl
beside_best Quit is_behind = refl
beside_best AutoRefused is_behind = refl
beside_best AutoWithdrawn is_behind = refl
beside_best Lapsed is_behind = refl

module _ (d : DossierRows) (valid : IsValid d) (auto : IsAllAutomatic d) (s : State) (of : s.dossier ≡ d)
    (stamp : Stamp) where
  abbrev answered : Wish → Mark → Mark
  answered w x = auto_mark stamp (best_live s w.candidate) w x

  -- a wish that is live afterwards has the preference of its candidate's best one
  live_is_best : (k : ℕ) (e : Wish × Mark) → k < length (entries s) → get_or (entries s) k e ≡ e
      → (o : Option (Wish × Mark)) → best_live s e.0.candidate ≡ o
      → is_live (auto_mark stamp o e.0 e.1) ≡ true
      → (b : Wish × Mark) × (best_live s e.0.candidate ≡ Some b) × (e.0.preference ≡ b.0.preference)
  live_is_best k e lt at None none live =
      let c = e.0.candidate in
      let ranks = lt-ltb 0 e.0.preference (prefers d valid auto k e.0 (stands s d of k e lt at)) in
      let passes : ranked_live c e ≡ true = and_from (is_live e.1 && nat_eq c c) (nat_lt 0 e.0.preference)
      (and_from (is_live e.1) (nat_eq c c) live (eq-eqb c c refl)) ranks in
      absurd (both_ways (list_any (ranked_live c) (entries s))
      (none_least (ranked_live c) (λ (f : Wish × Mark). f.0.preference) (entries s) none)
      (list_any_at (ranked_live c) (entries s) k e lt (rw at passes)))
  live_is_best k e lt at (Some b) best live =
      elim (cases_Bool (e.0.preference == b.0.preference)) [
        | inl same ↦ (b, best, eqb-true e.0.preference b.0.preference same)
        | inr differs ↦
            let status : (auto_mark stamp (Some b) e.0 e.1).status ≡ auto_status e.1.status false
            (nat_lt b.0.preference e.0.preference) =
            status_of_auto stamp b e.0 e.1
            ∙ ap (λ (t : Bool). auto_status e.1.status t (nat_lt b.0.preference e.0.preference)) differs in
            absurd (both_ways (is_live (auto_mark stamp (Some b) e.0 e.1))
            (ap is_live_status status ∙ beside_best e.1.status (nat_lt b.0.preference e.0.preference)) live)
      ]

  best_of : (b y : Wish × Mark) → Some b ≡ Some y → b.0.preference ≡ y.0.preference
  best_of b y same = ap (λ (o : Option (Wish × Mark)). (unwrap_or o b).0.preference) same

  same_best : (c : ℕ) (b y : Wish × Mark) → best_live s c ≡ Some b → best_live s c ≡ Some y
      → b.0.preference ≡ y.0.preference
  same_best c b y first second = best_of b y (sym first ∙ second)

  apart : (i j : ℕ) (e f : Wish × Mark) → i < length (entries s) → j < length (entries s) → get_or (entries s) i e ≡ e
      → get_or (entries s) j f ≡ f → i < j
      → e.0.candidate ≡ f.0.candidate → is_live (answered e.0 e.1) ≡ true → is_live (answered f.0 f.1) ≡ true → ⊥
  apart i j e f i_lt j_lt e_at f_at below same e_live f_live =
      let v = e.0 in
      let w = f.0 in
      let at_v = stands s d of i e i_lt e_at in
      let at_w = stands s d of j f j_lt f_at in
      let (b, b_best, v_level) = live_is_best i e i_lt e_at (best_live s v.candidate) refl e_live in
      let (y, y_best, w_level) = live_is_best j f j_lt f_at (best_live s w.candidate) refl f_live in
      let level = same_best w.candidate b y (ap (best_live s) (sym same) ∙ b_best) y_best in
      let both : IsApart (get_or d.wishes i v) (get_or d.wishes j v) = valid.wishes_apart i j v below at_w.within in
      let second : get_or d.wishes j v ≡ w = get_or_default d.wishes j v w at_w.within ∙ sym at_w.here in
      let are : IsApart v w = subst (λ (u : Wish). IsApart v u) second
      (subst (λ (u : Wish). IsApart u (get_or d.wishes j v)) (sym at_v.here) both) in
      let none = are.preferences same (omega (arith, v_level, w_level, level)) in
      omega (arith, none, prefers d valid auto i v at_v)

  one_each : AllPairs NotBothLive (entries (auto_all s stamp))
  one_each i j x below lt =
      let es = entries s in
      let long : length (map (marked_by answered) es) ≡ length es = length-map es (marked_by answered) in
      let are : entries (auto_all s stamp) ≡ map (marked_by answered) es = entries_marked s answered in
      let j_lt : j < length es = omega (arith, lt, ap length are, long) in
      let i_lt : i < length es = omega (arith, below, j_lt) in
      let e = get_or es i x in
      let f = get_or es j x in
      let e_is : get_or (entries (auto_all s stamp)) i x ≡ marked_by answered e =
      ap (λ (l : List (Wish × Mark)). get_or l i x) are ∙ get_or-map (marked_by answered) es i x x i_lt in
      let f_is : get_or (entries (auto_all s stamp)) j x ≡ marked_by answered f =
      ap (λ (l : List (Wish × Mark)). get_or l j x) are ∙ get_or-map (marked_by answered) es j x x j_lt in
      let here : NotBothLive (marked_by answered e) (marked_by answered f) =
      λ same e_live. false_from_ne_true (is_live (answered f.0 f.1)) (λ f_live.
      apart i j e f i_lt j_lt (get_or_default es i e x i_lt) (get_or_default es j f x j_lt) below same e_live f_live) in
      subst (λ (l : Wish × Mark). NotBothLive l (get_or (entries (auto_all s stamp)) j x)) (sym e_is)
      (subst (λ (l : Wish × Mark). NotBothLive (marked_by answered e) l) (sym f_is) here)

-- ---- no wish is given up by its candidate
abbrev kept_in : Status → Bool
kept_in x = is_live_status x || is_missed x

auto_kept : (x : Status) (is_best is_behind : Bool) → kept_in x ≡ true
    → kept_in (auto_status x is_best is_behind) ≡ true
auto_kept Waiting is_best true kept = refl
auto_kept Waiting is_best false kept = refl
auto_kept Offered true is_behind kept = refl
auto_kept Offered false is_behind kept = refl
auto_kept Accepted true is_behind kept = refl
auto_kept Accepted false is_behind kept = refl
auto_kept Refused is_best is_behind kept = kept
auto_kept Withdrawn is_best is_behind kept = kept
auto_kept Quit is_best is_behind kept = kept
auto_kept AutoRefused is_best is_behind kept = refl
auto_kept AutoWithdrawn is_best is_behind kept = refl
auto_kept Lapsed is_best is_behind kept = kept

answer_kept : (stamp : Stamp) (o : Option (Wish × Mark)) (w : Wish) (x : Mark) → kept_in x.status ≡ true
    → kept_in (auto_mark stamp o w x).status ≡ true
answer_kept stamp None w x kept = kept
answer_kept stamp (Some b) w x kept =
    ap kept_in (status_of_auto stamp b w x) ∙ auto_kept x.status (w.preference == b.0.preference)
    (nat_lt b.0.preference w.preference) kept

offer_kept : (stamp : Stamp) (t : Bool) (x : Mark) → kept_in x.status ≡ true
    → kept_in (if t then changed_to Offered stamp x else x).status ≡ true
offer_kept stamp true x kept = ap kept_in (changed_status Offered stamp x)
offer_kept stamp false x kept = kept

abbrev IsKeptIn : Mark → Type 0
IsKeptIn x = kept_in x.status ≡ true

all_kept : (f : Wish → Mark → Mark) → ((w : Wish) (x : Mark) → IsKeptIn x → IsKeptIn (f w x))
    → (ws : List Wish) (xs : List Mark) → AllByRecursion IsKeptIn xs
    → AllByRecursion IsKeptIn (map (λ (e : Wish × Mark). f e.0 e.1) (zip ws xs))
all_kept f keeps [] xs all = tt
all_kept f keeps (w ∷ ws) [] all = tt
all_kept f keeps (w ∷ ws) (x ∷ xs) all = (keeps w x all.0, all_kept f keeps ws xs all.1)

waiting_kept : (x : Status) → is_waiting_status x ≡ true → kept_in x ≡ true
waiting_kept Waiting t = refl
waiting_kept Offered t = refl
waiting_kept Accepted t = refl
waiting_kept Refused t = t
waiting_kept Withdrawn t = t
waiting_kept Quit t = t
waiting_kept AutoRefused t = refl
waiting_kept AutoWithdrawn t = refl
waiting_kept Lapsed t = t

all_first : (xs : List Status) → AllByRecursion (λ (x : Status). is_waiting_status x ≡ true) xs
    → AllByRecursion IsKeptIn (map first_mark xs)
all_first [] all = tt
all_first (x ∷ xs) all = (waiting_kept x all.0, all_first xs all.1)

module _ (d : DossierRows) (valid : IsValid d) (auto : IsAllAutomatic d) (orders : List CallOrder) where
  record IsWhole (s : State) : Type 0 where
    of : s.dossier ≡ d
    long : length s.marks ≡ length d.wishes
    kept : AllByRecursion IsKeptIn s.marks

  abbrev Never : Answer → Type 0
  Never a = ⊥

  by_marks : (s : State) (f : Wish → Mark → Mark) → ((w : Wish) (x : Mark) → IsKeptIn x → IsKeptIn (f w x))
      → IsWhole s → IsWhole (with_marks s f)
  by_marks s f keeps whole = record {
    of = whole.of;
    long = length-with_marks f s (whole.long ∙ ap (λ (y : DossierRows). length y.wishes) (sym whole.of)) ∙ whole.long;
    kept = all_kept f keeps s.dossier.wishes s.marks whole.kept;
  }

  whole_steps : Steps d None orders Nothing Never (λ s t. IsWhole s → IsWhole t)
  whole_steps = record {
    stays = λ s whole. whole;
    lapses = λ t day s is of whole. absurd (cc);
    answers = λ s stamp a of fits never whole. absurd never;
    offers = λ s day bars stamp of greatest known.
        by_marks s (λ w x. if is_proposed s orders bars w x then changed_to Offered stamp x else x)
        (λ w x kept. offer_kept stamp (is_proposed s orders bars w x) x kept);
    autos = λ s stamp of. by_marks s (λ w x. auto_mark stamp (best_live s w.candidate) w x)
        (λ w x kept. answer_kept stamp (best_live s w.candidate) w x kept);
  }

  first_whole : IsWhole (first_evening d)
  first_whole = record {
    of = refl;
    long = length-map d.statuses first_mark ∙ valid.one_status_each;
    kept = all_first d.statuses
        (recursion_from_All (λ (x : Status). is_waiting_status x ≡ true) d.statuses auto.waiting);
  }

  none_answered : (day : ℕ) → answers_of d day ≡ []
  none_answered day = ap (λ (answers : List Answer). filter (λ (a : Answer). nat_eq a.day day) answers) auto.no_answers

  silent : (days : List DayRecord) → AllByRecursion (λ (day : DayRecord). AllByRecursion Never (answers_of d day.day))
      days
  silent [] = tt
  silent (day ∷ days) = (subst (AllByRecursion Never) (sym (none_answered day.day)) tt, silent days)

  whole_at_last : (days : List DayRecord) (evening : State) → Days None orders 1 (first_evening d) days evening
      → IsWhole evening
  whole_at_last days evening are =
      let walk = campaign_steps d None orders Nothing Never (λ s t. IsWhole s → IsWhole t) whole_steps 1
      (first_evening d) days evening refl are
      (all_of Nothing (λ o. tt) (openings None orders (first_evening d) days)) (silent days) in
      (throughout (λ s t. IsWhole s → IsWhole t) IsWhole (λ s t step whole. step whole) (first_evening d)
      (moments None orders (first_evening d) days) evening walk first_whole).end

  -- at first nobody is live
  waits_first : (ws : List Wish) (xs : List Status) → AllByRecursion (λ (x : Status). is_waiting_status x ≡ true) xs
      → AllByRecursion (λ (e : Wish × Mark). is_waiting e.1 ≡ true) (zip ws (map first_mark xs))
  waits_first [] xs all = tt
  waits_first (w ∷ ws) [] all = tt
  waits_first (w ∷ ws) (x ∷ xs) all = (all.0, waits_first ws xs all.1)

  nobody_live : (c p : ℕ) → holds_seat (first_evening d) c p ≡ false
  nobody_live c p =
      false_from_ne_true (holds_seat (first_evening d) c p) (λ held.
      let (k, e, lt, at, lives) =
      Any-from_list_any (λ (e : Wish × Mark). is_live e.1 && nat_eq e.0.candidate c && nat_eq e.0.programme p)
      (entries (first_evening d)) held in
      let live = (and_parts (is_live e.1) (nat_eq e.0.candidate c)
      (and_parts (is_live e.1 && nat_eq e.0.candidate c) (nat_eq e.0.programme p) lives).0).0 in
      let all = All-from_recursion (λ (f : Wish × Mark). is_waiting f.1 ≡ true) (entries (first_evening d))
      (waits_first d.wishes d.statuses
      (recursion_from_All (λ (x : Status). is_waiting_status x ≡ true) d.statuses auto.waiting)) in
      let waits : is_waiting e.1 ≡ true = subst (λ (f : Wish × Mark). is_waiting f.1 ≡ true) at (all k e lt) in
      both_ways (is_waiting e.1) (live_waits_not e.1.status live) waits)

  seats_suffice : AreCallOrders d.groups orders → (days : List DayRecord) (evening : State)
      → Days None orders 1 (first_evening d) days evening
      → (p : ℕ) → length (seat_holders evening p) ≤ seats_of d p
  seats_suffice called days evening are p =
      let free = no_limit d.programmes p
      (recursion_from_All (λ (q : Programme). q.limit ≡ 0) d.programmes auto.no_limits) in
      let fits = (seats_throughout None orders 1 (first_evening d) days evening p valid called tt are free).end in
      let none : seat_holders (first_evening d) p ≡ [] = filter_none (λ c. holds_seat (first_evening d) c p)
      (candidates_of d) (λ k c lt. nobody_live (get_or (candidates_of d) k c) p) in
      omega (arith, fits, ap length none)

blocks_none : (orders : List CallOrder) (days : List DayRecord) (evening : State) → IsValid evening.dossier
    → AreCallOrders evening.dossier.groups orders → IsAllAutomatic evening.dossier
    → 0 < length days → Days None orders 1 (first_evening evening.dossier) days evening → blocking evening orders ≡ []
blocks_none orders days evening valid called auto some are =
    later_evening_blocks_none orders evening valid called (record {
      terms = None;
      days = days;
      automatic = record {
        plain = record { schools = auto.schools; preferences = auto.ranked };
        terms_fit = tt;
        waiting = auto.waiting;
      };
      some = some;
      quiet = λ day within. none_answered evening.dossier valid auto orders day;
      are_days = are;
    })

pub automatic_evenings_are_stable : AutomaticEveningsAreStable
automatic_evenings_are_stable orders d days evening valid called auto some are =
    let whole = whole_at_last d valid auto orders days evening are in
    let answered = answered_days d orders 1 (first_evening d) days evening refl some are in
    record {
      matching = record {
        dossier = whole.of;
        marked = whole.long;
        one_each = subst (λ (s : State). AllPairs NotBothLive (entries s)) (sym answered.is)
            (one_each d valid auto answered.state answered.of answered.stamp);
        room = λ p lt. seats_suffice d valid auto orders called days evening are p;
        given_up = All-from_recursion IsKeptIn evening.marks whole.kept;
      };
      stable = subst
          (λ (x : DossierRows). IsValid x → AreCallOrders x.groups orders → IsAllAutomatic x
          → Days None orders 1 (first_evening x) days evening → blocking evening orders ≡ [])
          whole.of (λ v c a ds. blocks_none orders days evening v c a some ds) valid called auto are;
    }
