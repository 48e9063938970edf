-- A state in which each wish has come further than in another, and the steps that keep it so.
use Rattle.std.proofs.Common.{ℕ, ◌<◌, ◌≡◌, ◌⊎◌, Bool, true, false, not, ◌&&◌, ◌||◌, List, Option, Some, None, inl, inr}
use Rattle.std.proofs.Common.{refl, sym, ◌∙◌, ap, arith, nat_eq, nat_lt}
use Rattle.std.specs.Prelude.{◌==◌}
use Rattle.std.specs.List.{list_any}
use Rattle.std.proofs.lemmas.Bool.{and_from, and_parts, both_ways, cases_Bool, eq-eqb, eqb-true, false_from_ne_true}
use Rattle.std.proofs.lemmas.Bool.{false≢true, lt-ltb, ltb-true, ne_eqb}
use Rattle.admit_core.specs.declared.dossier.Wish.{Wish}
use Rattle.admit_core.specs.declared.ranking.CallOrder.{CallOrder}
use Rattle.admit_core.specs.declared.state.Mark.{Mark}
use Rattle.admit_core.specs.declared.state.Stamp.{Stamp}
use Rattle.admit_core.specs.declared.state.Status.{Status}
use Rattle.admit_core.specs.declared.state.Status.TheVariants.{Waiting, Offered, Accepted, Refused, Withdrawn, Quit}
use Rattle.admit_core.specs.declared.state.Status.TheVariants.{AutoRefused, AutoWithdrawn, Lapsed}
use Rattle.admit_core.specs.AutoAnswer.{auto_all, auto_mark, auto_status, best_live}
use Rattle.admit_core.specs.Lists.{is_among}
use Rattle.admit_core.specs.Proposals.{before}
use Rattle.admit_core.specs.State.{State, entries, is_gone, is_live, is_live_status, is_waiting}
use Rattle.admit_core.proofs.FilledSeats.{auto_live, auto_waits}
use Rattle.admit_core.proofs.Statuses.{status_of_auto}
use Rattle.admit_core.proofs.Tests.{any_implied}
use Rattle.campaign_laws.proofs.GoneStays.{live_waits_not}
use Rattle.campaign_laws.proofs.Kept.{ranked_live}
use Rattle.campaign_laws.proofs.Matchings.{false_ne, gone_by_answer, gone_status}
use Rattle.change_laws.proofs.Places.{IsAt, IsOver, any_here, any_there, best_found, best_is_least, mark_given, mark_in}
use Rattle.change_laws.proofs.Places.{none_lives, over_given}

-- ---- marks
pub gone_from : (a b : Bool) → a ≡ false → b ≡ false → not (a || b) ≡ true
gone_from a b dead idle = rw (dead, idle) refl

pub gone_waits_not : (a b : Bool) → not (a || b) ≡ true → b ≡ false
gone_waits_not true b gone = absurd (false≢true gone)
gone_waits_not false true gone = absurd (false≢true gone)
gone_waits_not false false gone = refl

pub gone_lives_not : (a b : Bool) → not (a || b) ≡ true → a ≡ false
gone_lives_not true b gone = absurd (false≢true gone)
gone_lives_not false b gone = refl

pub live_or_gone : (m : Mark) → is_waiting m ≡ false → (is_live m ≡ true) ⊎ (is_gone m ≡ true)
live_or_gone m waits_not =
    elim (cases_Bool (is_live m)) [
      | inl live ↦ inl live
      | inr dead ↦ inr (gone_from (is_live m) (is_waiting m) dead waits_not)
    ]

pub waits_lives_not : (m : Mark) → is_waiting m ≡ true → is_live m ≡ false
waits_lives_not m waits = false_from_ne_true (is_live m) (λ live.
    both_ways (is_waiting m) (live_waits_not m.status live) waits)

pub waits_gone_not : (m : Mark) → is_waiting m ≡ true → is_gone m ≡ false
waits_gone_not m waits = false_from_ne_true (is_gone m) (λ gone.
    both_ways (is_waiting m) (gone_waits_not (is_live m) (is_waiting m) gone) waits)

gone_answered : (x : Status) (is_best is_behind : Bool) → gone_status x ≡ true
    → gone_status (auto_status x is_best is_behind) ≡ true
gone_answered Waiting is_best is_behind gone = absurd (cc)
gone_answered Offered is_best is_behind gone = absurd (cc)
gone_answered Accepted is_best is_behind gone = absurd (cc)
gone_answered Refused is_best is_behind gone = refl
gone_answered Withdrawn is_best is_behind gone = refl
gone_answered Quit is_best is_behind gone = refl
gone_answered AutoRefused is_best is_behind gone = refl
gone_answered AutoWithdrawn is_best is_behind gone = refl
gone_answered Lapsed is_best is_behind gone = refl

best_lives : (x : Status) (is_best is_behind : Bool) → is_best ≡ true → is_live_status x ≡ true
    → is_live_status (auto_status x is_best is_behind) ≡ true
best_lives Waiting is_best is_behind best live = absurd (cc)
best_lives Offered true is_behind best live = refl
best_lives Offered false is_behind best live = absurd (false≢true best)
best_lives Accepted true is_behind best live = refl
best_lives Accepted false is_behind best live = absurd (false≢true best)
best_lives Refused is_best is_behind best live = absurd (cc)
best_lives Withdrawn is_best is_behind best live = absurd (cc)
best_lives Quit is_best is_behind best live = absurd (cc)
best_lives AutoRefused is_best is_behind best live = absurd (cc)
best_lives AutoWithdrawn is_best is_behind best live = absurd (cc)
best_lives Lapsed is_best is_behind best live = absurd (cc)

behind_goes : (x : Status) → gone_status (auto_status x false true) ≡ true
behind_goes Waiting = refl
behind_goes Offered = refl
behind_goes Accepted = refl
behind_goes Refused = refl
behind_goes Withdrawn = refl
behind_goes Quit = refl
behind_goes AutoRefused = refl
behind_goes AutoWithdrawn = refl
behind_goes Lapsed = refl

pub gone_stays : (stamp : Stamp) (o : Option (Wish × Mark)) (w : Wish) (m : Mark) → is_gone m ≡ true
    → is_gone (auto_mark stamp o w m) ≡ true
gone_stays stamp None w m gone = gone
gone_stays stamp (Some b) w m gone =
    ap gone_status (status_of_auto stamp b w m)
    ∙ gone_answered m.status (w.preference == b.0.preference) (nat_lt b.0.preference w.preference) gone

-- ---- what a candidate has that they rank better
abbrev pub has_better : State → ℕ → ℕ → Bool
has_better s c n = list_any (λ (e : Wish × Mark). ranked_live c e && nat_lt e.0.preference n) (entries s)

pub has_more : (t : State) (c k n : ℕ) → k < n → has_better t c k ≡ true → has_better t c n ≡ true
has_more t c k n less has =
    any_implied (λ (e : Wish × Mark). ranked_live c e && nat_lt e.0.preference k)
    (λ (e : Wish × Mark). ranked_live c e && nat_lt e.0.preference n)
    (λ e both.
    let parts = and_parts (ranked_live c e) (nat_lt e.0.preference k) both in
    let below = ltb-true e.0.preference k parts.1 in
    and_from (ranked_live c e) (nat_lt e.0.preference n) parts.0
    (lt-ltb e.0.preference n (omega (arith, below, less)))) (entries t) has

module _ (ws : List Wish) (orders : List CallOrder) (silent : ℕ → Type 0)
    (ranked : (j k : ℕ) (v w : Wish) → IsAt ws j v → IsAt ws k w → v.candidate ≡ w.candidate → 0 < v.preference
    → 0 < w.preference)
    (unranked : (c k : ℕ) (w : Wish) → silent c → IsAt ws k w → w.candidate ≡ c → w.preference ≡ 0) where
  -- the wish's candidate stands before whoever waits for its programme
  abbrev pub IsCalledFirst : State → Wish → Type 0
  IsCalledFirst t w =
      (k : ℕ) (v : Wish) → IsAt ws k v → is_waiting (mark_in t k) ≡ true → v.programme ≡ w.programme
      → is_among w.candidate (before t orders v) ≡ true

  -- a mark of one state, and that of the other
  pub record IsFurther (t : State) (w : Wish) (m n : Mark) : Type 0 where
    pub waits : is_waiting n ≡ true → is_waiting m ≡ true
    pub goes : is_gone m ≡ true → is_gone n ≡ true
    pub better : 0 < w.preference → is_gone m ≡ false → is_gone n ≡ true
        → has_better t w.candidate w.preference ≡ true
    pub first : is_waiting m ≡ true → is_live n ≡ true → IsCalledFirst t w
    pub kept : silent w.candidate → is_gone n ≡ true → is_gone m ≡ true

  pub record IsAhead (s t : State) : Type 0 where
    pub over : IsOver ws s
    pub over_too : IsOver ws t
    pub each : (k : ℕ) (w : Wish) → IsAt ws k w → IsFurther t w (mark_in s k) (mark_in t k)

  -- ---- automatic answers
  module _ (s : State) (over : IsOver ws s) (stamp : Stamp) where
    abbrev answered : State
    answered = auto_all s stamp

    pub over_answered : IsOver ws answered
    over_answered = over_given ws s over (λ w m. auto_mark stamp (best_live s w.candidate) w m)

    pub mark_answered : (k : ℕ) (w : Wish) → IsAt ws k w
        → mark_in answered k ≡ auto_mark stamp (best_live s w.candidate) w (mark_in s k)
    mark_answered k w at = mark_given ws s over (λ v m. auto_mark stamp (best_live s v.candidate) v m) k w at

    pub waited : (k : ℕ) (w : Wish) → IsAt ws k w → is_waiting (mark_in answered k) ≡ true
        → is_waiting (mark_in s k) ≡ true
    waited k w at waits = auto_waits stamp (best_live s w.candidate) w (mark_in s k)
        (ap is_waiting (sym (mark_answered k w at)) ∙ waits)

    pub lived : (k : ℕ) (w : Wish) → IsAt ws k w → is_live (mark_in answered k) ≡ true → is_live (mark_in s k) ≡ true
    lived k w at live = auto_live stamp (best_live s w.candidate) w (mark_in s k)
        (ap is_live (sym (mark_answered k w at)) ∙ live)

    pub still_gone : (k : ℕ) (w : Wish) → IsAt ws k w → is_gone (mark_in s k) ≡ true
        → is_gone (mark_in answered k) ≡ true
    still_gone k w at gone = ap is_gone (mark_answered k w at)
        ∙ gone_stays stamp (best_live s w.candidate) w (mark_in s k) gone

    -- the best wish stays live
    best_stays : (c n : ℕ) (b : Wish × Mark) → best_live s c ≡ Some b → b.0.preference < n
        → has_better answered c n ≡ true
    best_stays c n b best less =
        let found = best_found ws s over c b best in
        let w = found.wish in
        let m = mark_in s found.place in
        let outer = and_parts (ranked_live c (w, m)) (nat_eq w.preference b.0.preference) found.passes in
        let inner = and_parts (is_live m && nat_eq w.candidate c) (nat_lt 0 w.preference) outer.0 in
        let first = and_parts (is_live m) (nat_eq w.candidate c) inner.0 in
        let own : w.candidate ≡ c = eqb-true w.candidate c first.1 in
        let level : w.preference ≡ b.0.preference = eqb-true w.preference b.0.preference outer.1 in
        let is : mark_in answered found.place ≡ auto_mark stamp (Some b) w m =
        mark_answered found.place w found.at
        ∙ ap (λ (o : Option (Wish × Mark)). auto_mark stamp o w m) (ap (best_live s) own ∙ best) in
        let lives : is_live (mark_in answered found.place) ≡ true =
        ap is_live is ∙ ap is_live_status (status_of_auto stamp b w m)
        ∙ best_lives m.status (w.preference == b.0.preference) (nat_lt b.0.preference w.preference)
        (eq-eqb w.preference b.0.preference level) first.0 in
        let x = mark_in answered found.place in
        any_here ws answered over_answered (λ e. ranked_live c e && nat_lt e.0.preference n) found.place w found.at
        (and_from (ranked_live c (w, x)) (nat_lt w.preference n)
        (and_from (is_live x && nat_eq w.candidate c) (nat_lt 0 w.preference)
        (and_from (is_live x) (nat_eq w.candidate c) lives first.1) inner.1)
        (lt-ltb w.preference n (omega (arith, level, less))))

    -- what is given up has a better one beside it
    given_up : (o : Option (Wish × Mark)) (k : ℕ) (w : Wish) → best_live s w.candidate ≡ o → IsAt ws k w
        → is_gone (mark_in s k) ≡ false → is_gone (auto_mark stamp o w (mark_in s k)) ≡ true
        → (b : Wish × Mark) × (best_live s w.candidate ≡ Some b) × (b.0.preference < w.preference)
    given_up None k w best at stood gone = absurd (both_ways (is_gone (mark_in s k)) stood gone)
    given_up (Some b) k w best at stood gone =
        let m = mark_in s k in
        let c = w.candidate in
        elim (gone_by_answer m.status (w.preference == b.0.preference) (nat_lt b.0.preference w.preference)
        (sym (ap gone_status (status_of_auto stamp b w m)) ∙ gone)) [
          | inl was ↦ absurd (both_ways (is_gone m) stood was)
          | inr other ↦ elim other [
            | inl beside ↦
                let found = best_found ws s over c b best in
                let v = found.wish in
                let x = mark_in s found.place in
                let outer = and_parts (ranked_live c (v, x)) (nat_eq v.preference b.0.preference) found.passes in
                let inner = and_parts (is_live x && nat_eq v.candidate c) (nat_lt 0 v.preference) outer.0 in
                let own = eqb-true v.candidate c (and_parts (is_live x) (nat_eq v.candidate c) inner.0).1 in
                let some = ranked found.place k v w found.at at own (ltb-true 0 v.preference inner.1) in
                let passes : ranked_live c (w, m) ≡ true =
                and_from (is_live m && nat_eq c c) (nat_lt 0 w.preference)
                (and_from (is_live m) (nat_eq c c) beside.0 (eq-eqb c c refl)) (lt-ltb 0 w.preference some) in
                let le = best_is_least ws s over c b best k w at passes in
                let differ = false_ne w.preference b.0.preference beside.1 in
                (b, best, omega (arith, le, differ))
            | inr behind ↦ (b, best, ltb-true b.0.preference w.preference behind)
          ]
        ]

    pub gave_up : (k : ℕ) (w : Wish) → IsAt ws k w → is_gone (mark_in s k) ≡ false
        → is_gone (mark_in answered k) ≡ true
        → (b : Wish × Mark) × (best_live s w.candidate ≡ Some b) × (b.0.preference < w.preference)
    gave_up k w at stood gone = given_up (best_live s w.candidate) k w refl at stood
        (ap is_gone (sym (mark_answered k w at)) ∙ gone)

    -- who has a better one keeps one
    kept_better : (o : Option (Wish × Mark)) (c n : ℕ) → best_live s c ≡ o → has_better s c n ≡ true
        → has_better answered c n ≡ true
    kept_better o c n best has =
        let found = any_there ws s over (λ e. ranked_live c e && nat_lt e.0.preference n) has in
        let w = found.wish in
        let m = mark_in s found.place in
        let outer = and_parts (ranked_live c (w, m)) (nat_lt w.preference n) found.passes in
        let less = ltb-true w.preference n outer.1 in
        by_best o best found.place w found.at outer.0 less
      where
        by_best : (o : Option (Wish × Mark)) → best_live s c ≡ o → (k : ℕ) (w : Wish) → IsAt ws k w
            → ranked_live c (w, mark_in s k) ≡ true → w.preference < n → has_better answered c n ≡ true
        by_best None none k w at passes less = absurd (none_lives ws s over c none k w at passes)
        by_best (Some b) best k w at passes less =
            let le = best_is_least ws s over c b best k w at passes in
            best_stays c n b best (omega (arith, le, less))

    pub better_stays : (c n : ℕ) → has_better s c n ≡ true → has_better answered c n ≡ true
    better_stays c n has = kept_better (best_live s c) c n refl has

    -- and has nothing else
    pub nothing_worse : (k : ℕ) (w : Wish) → IsAt ws k w → has_better answered w.candidate w.preference ≡ true
        → is_gone (mark_in answered k) ≡ true
    nothing_worse k w at has =
        let c = w.candidate in
        let found = any_there ws answered over_answered (λ e. ranked_live c e
        && nat_lt e.0.preference w.preference) has in
        let v = found.wish in
        let x = mark_in answered found.place in
        let outer = and_parts (ranked_live c (v, x)) (nat_lt v.preference w.preference) found.passes in
        let inner = and_parts (is_live x && nat_eq v.candidate c) (nat_lt 0 v.preference) outer.0 in
        let first = and_parts (is_live x) (nat_eq v.candidate c) inner.0 in
        let y = mark_in s found.place in
        let passes : ranked_live c (v, y) ≡ true =
        and_from (is_live y && nat_eq v.candidate c) (nat_lt 0 v.preference)
        (and_from (is_live y) (nat_eq v.candidate c) (lived found.place v found.at first.0) first.1) inner.1 in
        ap is_gone (mark_answered k w at)
        ∙ by_best (best_live s c) refl found.place v found.at passes (ltb-true v.preference w.preference outer.1)
      where
        by_best : (o : Option (Wish × Mark)) → best_live s w.candidate ≡ o → (j : ℕ) (v : Wish) → IsAt ws j v
            → ranked_live w.candidate (v, mark_in s j) ≡ true → v.preference < w.preference
            → is_gone (auto_mark stamp o w (mark_in s k)) ≡ true
        by_best None none j v v_at passes less = absurd (none_lives ws s over w.candidate none j v v_at passes)
        by_best (Some b) best j v v_at passes less =
            let m = mark_in s k in
            let le = best_is_least ws s over w.candidate b best j v v_at passes in
            let below : b.0.preference < w.preference = omega (arith, le, less) in
            let status : (auto_mark stamp (Some b) w m).status ≡ auto_status m.status false true =
            status_of_auto stamp b w m
            ∙ ap (λ (t : Bool). auto_status m.status t (nat_lt b.0.preference w.preference))
            (ne_eqb w.preference b.0.preference (λ same. omega (arith, below, same)))
            ∙ ap (auto_status m.status false) (lt-ltb b.0.preference w.preference below) in
            ap gone_status status ∙ behind_goes m.status

  -- the automatic answers of the further state
  pub ahead_of_answers : (s t : State) (stamp : Stamp) → IsAhead s t → IsAhead s (auto_all t stamp)
  ahead_of_answers s t stamp ahead =
      let over = ahead.over_too in
      let t1 = auto_all t stamp in
      record {
        over = ahead.over;
        over_too = over_answered t over stamp;
        each = λ k w at.
            let now = ahead.each k w at in
            record {
              waits = λ waits. now.waits (waited t over stamp k w at waits);
              goes = λ gone. still_gone t over stamp k w at (now.goes gone);
              better = λ some stood gone.
                  elim (cases_Bool (is_gone (mark_in t k))) [
                    | inl was ↦ better_stays t over stamp w.candidate w.preference (now.better some stood was)
                    | inr here ↦
                        let (b, best, less) = gave_up t over stamp k w at here gone in
                        best_stays t over stamp w.candidate w.preference b best less
                  ];
              first = λ waits live j v v_at v_waits same.
                  now.first waits (lived t over stamp k w at live) j v v_at (waited t over stamp j v v_at v_waits) same;
              kept = λ still gone.
                  elim (cases_Bool (is_gone (mark_in t k))) [
                    | inl was ↦ now.kept still was
                    | inr here ↦
                        let (b, best, less) = gave_up t over stamp k w at here gone in
                        absurd (omega (arith, less, unranked w.candidate k w still at refl))
                  ];
            };
      }

  -- those of the other, where the further one is answered for
  pub answers_behind : (s t : State) (stamp : Stamp) → IsAhead s t
      → ((k : ℕ) (w : Wish) → IsAt ws k w → has_better t w.candidate w.preference ≡ true → is_gone (mark_in t k) ≡ true)
      → IsAhead (auto_all s stamp) t
  answers_behind s t stamp ahead settled =
      let over = ahead.over in
      let given : (k : ℕ) (w : Wish) → IsAt ws k w → is_gone (mark_in s k) ≡ false
      → is_gone (mark_in (auto_all s stamp) k) ≡ true → is_gone (mark_in t k) ≡ true =
      λ k w at stood gone.
      let (b, best, less) = gave_up s over stamp k w at stood gone in
      let found = best_found ws s over w.candidate b best in
      let v = found.wish in
      let x = mark_in s found.place in
      let y = mark_in t found.place in
      let c = w.candidate in
      let outer = and_parts (ranked_live c (v, x)) (nat_eq v.preference b.0.preference) found.passes in
      let inner = and_parts (is_live x && nat_eq v.candidate c) (nat_lt 0 v.preference) outer.0 in
      let first = and_parts (is_live x) (nat_eq v.candidate c) inner.0 in
      let own : v.candidate ≡ c = eqb-true v.candidate c first.1 in
      let level = eqb-true v.preference b.0.preference outer.1 in
      let below : v.preference < w.preference = omega (arith, level, less) in
      let there = ahead.each found.place v found.at in
      let y_waits : is_waiting y ≡ false = false_from_ne_true (is_waiting y) (λ waits.
      both_ways (is_live x) (waits_lives_not x (there.waits waits)) first.0) in
      settled k w at (elim (live_or_gone y y_waits) [
        | inl live ↦
            any_here ws t ahead.over_too (λ e. ranked_live c e && nat_lt e.0.preference w.preference) found.place v
            found.at
            (and_from (ranked_live c (v, y)) (nat_lt v.preference w.preference)
            (and_from (is_live y && nat_eq v.candidate c) (nat_lt 0 v.preference)
            (and_from (is_live y) (nat_eq v.candidate c) live first.1) inner.1)
            (lt-ltb v.preference w.preference below))
        | inr gone_there ↦
            let stood_there : is_gone x ≡ false = false_from_ne_true (is_gone x) (λ e.
            both_ways (is_live x) (gone_lives_not (is_live x) (is_waiting x) e) first.0) in
            let has = there.better (ltb-true 0 v.preference inner.1) stood_there gone_there in
            has_more t c v.preference w.preference below (ap (λ (z : ℕ). has_better t z v.preference) (sym own) ∙ has)
      ]) in
      record {
        over = over_answered s over stamp;
        over_too = ahead.over_too;
        each = λ k w at.
            let now = ahead.each k w at in
            record {
              waits = λ waits.
                  let was = now.waits waits in
                  let s1 = auto_all s stamp in
                  elim (cases_Bool (is_waiting (mark_in s1 k))) [
                    | inl still ↦ still
                    | inr none ↦
                        elim (live_or_gone (mark_in s1 k) none) [
                          | inl live ↦ absurd (both_ways (is_live (mark_in s k))
                              (waits_lives_not (mark_in s k) was) (lived s over stamp k w at live))
                          | inr gone ↦ absurd (both_ways (is_waiting (mark_in t k))
                              (gone_waits_not (is_live (mark_in t k)) (is_waiting (mark_in t k))
                              (given k w at (waits_gone_not (mark_in s k) was) gone)) waits)
                        ]
                  ];
              goes = λ gone.
                  elim (cases_Bool (is_gone (mark_in s k))) [
                    | inl was ↦ now.goes was
                    | inr stood ↦ given k w at stood gone
                  ];
              better = λ some stood gone. now.better some
                  (false_from_ne_true (is_gone (mark_in s k)) (λ was.
                  both_ways (is_gone (mark_in (auto_all s stamp) k)) stood (still_gone s over stamp k w at was))) gone;
              first = λ waits live. now.first (waited s over stamp k w at waits) live;
              kept = λ still gone. still_gone s over stamp k w at (now.kept still gone);
            };
      }
