-- The order of the wishes above what a candidate has is never read: the automatic answers are the same.
use Rattle.std.proofs.Common.{ℕ, ◌≡◌, Bool, true, false, ◌&&◌, filter, List, [], ◌∷◌, map, Option, Some, None}
use Rattle.std.proofs.Common.{option_map, inl, inr, refl, sym, ◌∙◌, ap, subst, arith, nat_eq, nat_lt}
use Rattle.std.specs.Prelude.{◌==◌, if◌then◌else◌, nat_le, unwrap_or}
use Rattle.std.specs.List.{AllByRecursion, AllZip, list_any}
use Rattle.std.proofs.lemmas.Bool.{and_from, and_parts, both_ways, cases_Bool, eq-eqb, eqb-true, false_from_ne_true}
use Rattle.std.proofs.lemmas.Bool.{false≢true, le-leb, ltb-true}
use Rattle.admit_core.specs.declared.dossier.Wish.{Wish}
use Rattle.admit_core.specs.declared.state.Mark.{Mark}
use Rattle.admit_core.specs.declared.state.Stamp.{Stamp}
use Rattle.admit_core.specs.declared.state.Status.{Status}
use Rattle.admit_core.specs.declared.state.Status.TheVariants.{Waiting, Offered, Accepted, Refused, Withdrawn, Quit}
use Rattle.admit_core.specs.declared.state.Status.TheVariants.{AutoRefused, AutoWithdrawn, Lapsed}
use Rattle.admit_core.specs.AutoAnswer.{auto_all, auto_mark, auto_status, best_live}
use Rattle.admit_core.specs.Lists.{least_by, lesser}
use Rattle.admit_core.specs.Relations.{is_accepted}
use Rattle.admit_core.specs.State.{State, changed_to, entries, is_live, is_live_status, is_waiting, is_waiting_status}
use Rattle.admit_core.proofs.FilledSeats.{auto_waits}
use Rattle.admit_core.proofs.Holders.{entries_marked, marked_by}
use Rattle.admit_core.proofs.Plain.{any-filter, any-map}
use Rattle.admit_core.proofs.Remaining.{least_passes}
use Rattle.admit_core.proofs.Statuses.{status_of_auto}
use Rattle.admit_core.proofs.Tests.{any_implied}
use Rattle.cut_laws.proofs.Unstamped.{filter_of_map, least_of_map}
use Rattle.campaign_laws.specs.Kept.{NeverDescends, has_accepted}
use Rattle.campaign_laws.specs.OneMark.{HasLaterMark, IsLater}
use Rattle.campaign_laws.proofs.Kept.{ranked_live}
use Rattle.campaign_laws.proofs.Walks.{all_imply}
use Rattle.change_laws.specs.Unread.{IsUnread, with_preference}
use Rattle.change_laws.proofs.Further.{waits_lives_not}
use Rattle.change_laws.proofs.Reranked.{marks_ranked, over, ranked_entries, ranked_entry}

-- ---- lists
of_mapped : {X Y : Type 0} (P : Y → Type 0) (h : X → Y) (xs : List X) → AllByRecursion P (map h xs)
    → AllByRecursion (λ x. P (h x)) xs
of_mapped P h [] all = tt
of_mapped P h (x ∷ xs) all = (all.0, of_mapped P h xs all.1)

of_filtered : {X : Type 0} (P Q : X → Type 0) (q : X → Bool) → ((x : X) → P x → q x ≡ true → Q x) → (xs : List X)
    → AllByRecursion P xs → AllByRecursion Q (filter q xs)
of_filtered P Q q holds [] all = tt
of_filtered P Q q holds (x ∷ xs) all =
    elim (cases_Bool (q x)) [
      | inl passes ↦ rw passes (holds x all.0 passes, of_filtered P Q q holds xs all.1)
      | inr fails ↦ rw fails (of_filtered P Q q holds xs all.1)
    ]

filtered_alike : {X : Type 0} (p q : X → Bool) (xs : List X) → AllByRecursion (λ x. p x ≡ q x) xs
    → filter p xs ≡ filter q xs
filtered_alike p q [] all = refl
filtered_alike p q (x ∷ xs) all =
    elim (cases_Bool (q x)) [
      | inl passes ↦ rw (all.0, passes) (ap (λ l. x ∷ l) (filtered_alike p q xs all.1))
      | inr fails ↦ rw (all.0, fails) (filtered_alike p q xs all.1)
    ]

mapped_alike : {X Y : Type 0} (f g : X → Y) (xs : List X) → AllByRecursion (λ x. f x ≡ g x) xs → map f xs ≡ map g xs
mapped_alike f g [] all = refl
mapped_alike f g (x ∷ xs) all =
    let rest = mapped_alike f g xs all.1 in
    λ i. all.0 i ∷ rest i

-- the least one is one of the list
in_lesser : {X : Type 0} (P : X → Type 0) (key : X → ℕ) (x b : X) (o : Option X) → P x
    → ((y : X) → o ≡ Some y → P y) → lesser key x o ≡ b → P b
in_lesser P key x b None first rest is = subst P is first
in_lesser P key x b (Some y) first rest is =
    elim (cases_Bool (nat_le (key x) (key y))) [
      | inl le ↦ let same : x ≡ b = rw le at is in subst P same first
      | inr gt ↦ let same : y ≡ b = rw gt at is in subst P same (rest y refl)
    ]

least_in : {X : Type 0} (P : X → Type 0) (key : X → ℕ) (xs : List X) (b : X) → AllByRecursion P xs
    → least_by key xs ≡ Some b → P b
least_in P key [] b all least = absurd (cc)
least_in P key (x ∷ xs) b all least =
    in_lesser P key x b (least_by key xs) all.0 (λ y is. least_in P key xs y all.1 is)
    (ap (λ o. unwrap_or o x) least)

lesser_alike : {X : Type 0} (key other : X → ℕ) (x : X) (o : Option X) → key x ≡ other x
    → ((y : X) → o ≡ Some y → key y ≡ other y) → lesser key x o ≡ lesser other x o
lesser_alike key other x None first rest = refl
lesser_alike key other x (Some y) first rest =
    let second = rest y refl in
    λ i. if nat_le (first i) (second i) then x else y

least_alike : {X : Type 0} (key other : X → ℕ) (xs : List X) → AllByRecursion (λ x. key x ≡ other x) xs
    → least_by key xs ≡ least_by other xs
least_alike key other [] all = refl
least_alike key other (x ∷ xs) all =
    ap Some (lesser_alike key other x (least_by key xs) all.0
    (λ y is. least_in (λ z. key z ≡ other z) key xs y all.1 is)
    ∙ ap (lesser other x) (least_alike key other xs all.1))

-- ---- one automatic answer
accepted_by : (x : Status) (is_best is_behind : Bool) → is_best ≡ true → is_live_status x ≡ true
    → is_accepted (auto_status x is_best is_behind) ≡ true
accepted_by Waiting is_best is_behind best live = absurd (cc)
accepted_by Offered true is_behind best live = refl
accepted_by Offered false is_behind best live = absurd (false≢true best)
accepted_by Accepted true is_behind best live = refl
accepted_by Accepted false is_behind best live = absurd (false≢true best)
accepted_by Refused is_best is_behind best live = absurd (cc)
accepted_by Withdrawn is_best is_behind best live = absurd (cc)
accepted_by Quit is_best is_behind best live = absurd (cc)
accepted_by AutoRefused is_best is_behind best live = absurd (cc)
accepted_by AutoWithdrawn is_best is_behind best live = absurd (cc)
accepted_by Lapsed is_best is_behind best live = absurd (cc)

-- a wish that waits and is not behind stays as it is
stays_waiting : (x : Status) (old stamp : Stamp) (is_best is_behind : Bool) → is_waiting_status x ≡ true
    → is_behind ≡ false
    → let m : Mark = record { status = x; stamp = old } in changed_to (auto_status x is_best is_behind) stamp m ≡ m
stays_waiting Waiting old stamp is_best true waits front = absurd (false≢true (sym front))
stays_waiting Waiting old stamp is_best false waits front = refl
stays_waiting Offered old stamp is_best is_behind waits front = absurd (cc)
stays_waiting Accepted old stamp is_best is_behind waits front = absurd (cc)
stays_waiting Refused old stamp is_best is_behind waits front = absurd (cc)
stays_waiting Withdrawn old stamp is_best is_behind waits front = absurd (cc)
stays_waiting Quit old stamp is_best is_behind waits front = absurd (cc)
stays_waiting AutoRefused old stamp is_best is_behind waits front = absurd (cc)
stays_waiting AutoWithdrawn old stamp is_best is_behind waits front = absurd (cc)
stays_waiting Lapsed old stamp is_best is_behind waits front = absurd (cc)

not_behind : (x : Status) (is_best is_behind : Bool) → is_waiting_status x ≡ true
    → is_waiting_status (auto_status x is_best is_behind) ≡ true → is_behind ≡ false
not_behind Waiting is_best true waits still = absurd (cc)
not_behind Waiting is_best false waits still = refl
not_behind Offered is_best is_behind waits still = absurd (cc)
not_behind Accepted is_best is_behind waits still = absurd (cc)
not_behind Refused is_best is_behind waits still = absurd (cc)
not_behind Withdrawn is_best is_behind waits still = absurd (cc)
not_behind Quit is_best is_behind waits still = absurd (cc)
not_behind AutoRefused is_best is_behind waits still = absurd (cc)
not_behind AutoWithdrawn is_best is_behind waits still = absurd (cc)
not_behind Lapsed is_best is_behind waits still = absurd (cc)

abbrev preference_of : Wish × Mark → ℕ
preference_of e = e.0.preference

module _ (rank : Wish → ℕ) (c : ℕ) where
  abbrev pub AllUnread : State → Type 0
  AllUnread s = AllByRecursion (IsUnread rank c s) (entries s)

  module _ (t : State) (stamp : Stamp) (unread : AllUnread (auto_all t stamp)) where
    abbrev u : State
    u = auto_all t stamp

    abbrev answered : Wish → Mark → Mark
    answered w m = auto_mark stamp (best_live t w.candidate) w m

    abbrev Unread : Wish × Mark → Type 0
    Unread e = IsUnread rank c u (marked_by answered e)

    each : AllByRecursion Unread (entries t)
    each = of_mapped (IsUnread rank c u) (marked_by answered) (entries t)
        (subst (AllByRecursion (IsUnread rank c u)) (entries_marked t answered) unread)

    -- a live wish keeps its preference
    live_keeps : (e : Wish × Mark) → Unread e → is_live e.1 ≡ true → rank e.0 ≡ e.0.preference
    live_keeps e (inl same) live = same
    live_keeps e (inr changed) live =
        let waits = auto_waits stamp (best_live t e.0.candidate) e.0 e.1 changed.1 in
        absurd (both_ways (is_live e.1) (waits_lives_not e.1 waits) live)

    same_test : (x : ℕ) (e : Wish × Mark) → Unread e → ranked_live x (ranked_entry rank e) ≡ ranked_live x e
    same_test x e is =
        elim (cases_Bool (is_live e.1)) [
          | inl live ↦
              let same = live_keeps e is live in
              λ i. is_live e.1 && nat_eq e.0.candidate x && nat_lt 0 (same i)
          | inr dead ↦ rw dead refl
        ]

    kept_ranks : (x : ℕ) → AllByRecursion (λ (e : Wish × Mark). rank e.0 ≡ e.0.preference)
        (filter (ranked_live x) (entries t))
    kept_ranks x =
        of_filtered Unread (λ e. rank e.0 ≡ e.0.preference) (ranked_live x)
        (λ e is passes. live_keeps e is
        (and_parts (is_live e.1) (nat_eq e.0.candidate x)
        (and_parts (is_live e.1 && nat_eq e.0.candidate x) (nat_lt 0 e.0.preference) passes).0).0) (entries t) each

    -- so the best live wish is the same one
    same_best : (x : ℕ) → best_live (over rank t) x ≡ option_map (ranked_entry rank) (best_live t x)
    same_best x =
        let es = entries t in
        let passing = filter (ranked_live x) es in
        ap (λ l. least_by preference_of (filter (ranked_live x) l)) (ranked_entries rank t)
        ∙ ap (least_by preference_of) (filter_of_map (ranked_live x) (ranked_entry rank) es)
        ∙ ap (λ l. least_by preference_of (map (ranked_entry rank) l))
        (filtered_alike (λ e. ranked_live x (ranked_entry rank e)) (ranked_live x) es
        (all_imply Unread (λ e. ranked_live x (ranked_entry rank e) ≡ ranked_live x e) (same_test x) es each))
        ∙ least_of_map preference_of (ranked_entry rank) passing
        ∙ ap (option_map (ranked_entry rank))
        (least_alike (λ e. rank e.0) preference_of passing (kept_ranks x))

    -- it is accepted afterwards
    best_accepted : (x : ℕ) (b : Wish × Mark) → best_live t x ≡ Some b → has_accepted u x b.0.preference ≡ true
    best_accepted x b best =
        let n = b.0.preference in
        let level : Wish × Mark → Bool = λ e. nat_eq e.0.preference n in
        let accepted : Wish × Mark → Bool =
        λ e. is_accepted e.1.status && nat_eq e.0.candidate x && nat_lt 0 e.0.preference && nat_le e.0.preference n in
        let found : list_any (λ e. ranked_live x e && level e) (entries t) ≡ true =
        sym (any-filter level (ranked_live x) (entries t))
        ∙ least_passes level preference_of (filter (ranked_live x) (entries t)) b best (eq-eqb n n refl) in
        ap (list_any accepted) (entries_marked t answered) ∙ any-map accepted (marked_by answered) (entries t)
        ∙ any_implied (λ e. ranked_live x e && level e) (λ e. accepted (marked_by answered e))
        (λ e both.
        let w = e.0 in
        let m = e.1 in
        let outer = and_parts (ranked_live x e) (level e) both in
        let inner = and_parts (is_live m && nat_eq w.candidate x) (nat_lt 0 w.preference) outer.0 in
        let first = and_parts (is_live m) (nat_eq w.candidate x) inner.0 in
        let own : w.candidate ≡ x = eqb-true w.candidate x first.1 in
        let same : w.preference ≡ n = eqb-true w.preference n outer.1 in
        let is : answered w m ≡ auto_mark stamp (Some b) w m =
        ap (λ (o : Option (Wish × Mark)). auto_mark stamp o w m) (ap (best_live t) own ∙ best) in
        let status : is_accepted (answered w m).status ≡ true =
        ap (λ (y : Mark). is_accepted y.status) is ∙ ap is_accepted (status_of_auto stamp b w m)
        ∙ accepted_by m.status (w.preference == n) (nat_lt n w.preference) (eq-eqb w.preference n same) first.0 in
        and_from (is_accepted (answered w m).status && nat_eq w.candidate x && nat_lt 0 w.preference)
        (nat_le w.preference n)
        (and_from (is_accepted (answered w m).status && nat_eq w.candidate x) (nat_lt 0 w.preference)
        (and_from (is_accepted (answered w m).status) (nat_eq w.candidate x) status first.1) inner.1)
        (le-leb w.preference n (omega (arith, same)))) (entries t) found

    -- and each wish gets the same answer
    by_best : (e : Wish × Mark) (o : Option (Wish × Mark)) → best_live t e.0.candidate ≡ o → Unread e
        → auto_mark stamp (option_map (ranked_entry rank) o) (with_preference rank e.0) e.1
        ≡ auto_mark stamp o e.0 e.1
    by_best e None best is = refl
    by_best e (Some b) best (inl same) =
        let level = least_in (λ f. rank f.0 ≡ f.0.preference) preference_of
        (filter (ranked_live e.0.candidate) (entries t)) b (kept_ranks e.0.candidate) best in
        λ i. changed_to (auto_status e.1.status (same i == level i) (nat_lt (level i) (same i))) stamp e.1
    by_best e (Some b) best (inr changed) =
        let w = e.0 in
        let m = e.1 in
        let level = least_in (λ f. rank f.0 ≡ f.0.preference) preference_of
        (filter (ranked_live w.candidate) (entries t)) b (kept_ranks w.candidate) best in
        let waits = auto_waits stamp (best_live t w.candidate) w m changed.1 in
        let is : answered w m ≡ auto_mark stamp (Some b) w m =
        ap (λ (o : Option (Wish × Mark)). auto_mark stamp o w m) best in
        let still : is_waiting_status (auto_status m.status (w.preference == b.0.preference)
        (nat_lt b.0.preference w.preference)) ≡ true =
        sym (ap is_waiting_status (status_of_auto stamp b w m)) ∙ ap is_waiting (sym is) ∙ changed.1 in
        let front = not_behind m.status (w.preference == b.0.preference) (nat_lt b.0.preference w.preference) waits
        still in
        let accepted : has_accepted u c b.0.preference ≡ true =
        ap (λ (x : ℕ). has_accepted u x b.0.preference) (sym changed.0) ∙ best_accepted w.candidate b best in
        let le = changed.2 b.0.preference accepted in
        let front_too : nat_lt (rank b.0) (rank w) ≡ false = false_from_ne_true (nat_lt (rank b.0) (rank w)) (λ less.
        let below = ltb-true (rank b.0) (rank w) less in omega (arith, below, level, le)) in
        stays_waiting m.status m.stamp stamp (rank w == rank b.0) (nat_lt (rank b.0) (rank w)) waits front_too
        ∙ sym (stays_waiting m.status m.stamp stamp (w.preference == b.0.preference)
        (nat_lt b.0.preference w.preference) waits front)

    pub same_answers : auto_all (over rank t) stamp ≡ over rank (auto_all t stamp)
    same_answers =
        let given : Wish × Mark → Mark = λ e. auto_mark stamp (best_live (over rank t) e.0.candidate) e.0 e.1 in
        ap (λ (ms : List Mark). record (over rank t) { marks = ms })
        (marks_ranked rank t given
        ∙ mapped_alike (λ e. given (ranked_entry rank e)) (λ e. answered e.0 e.1) (entries t)
        (all_imply Unread (λ e. given (ranked_entry rank e) ≡ answered e.0 e.1)
        (λ e is. ap (λ (o : Option (Wish × Mark)). auto_mark stamp o (with_preference rank e.0) e.1)
        (same_best e.0.candidate) ∙ by_best e (best_live t e.0.candidate) refl is) (entries t) each))

  -- ---- what is unread at last was unread before
  unread_pair : (s new : State) → NeverDescends c s new → (xs ys : List (Wish × Mark)) → AllZip HasLaterMark xs ys
      → AllByRecursion (IsUnread rank c new) ys → AllByRecursion (IsUnread rank c s) xs
  unread_pair s new climbs [] ys later all = tt
  unread_pair s new climbs (x ∷ xs) [] later all = absurd later
  unread_pair s new climbs (x ∷ xs) (y ∷ ys) later all =
      (one later.0 all.0, unread_pair s new climbs xs ys later.1 all.1)
    where
      one : HasLaterMark x y → IsUnread rank c new y → IsUnread rank c s x
      one is (inl same) = inl (ap rank (sym is.wish) ∙ same ∙ ap (λ (w : Wish). w.preference) is.wish)
      one is (inr changed) =
          inr (
            ap (λ (w : Wish). w.candidate) (sym is.wish) ∙ changed.0,
            ap is_waiting (sym (is.mark.waited changed.1)) ∙ changed.1,
            λ n has. let le = changed.2 n (climbs n has) in let at = ap rank is.wish in omega (arith, le, at),
          )

  pub unread_before : (s new : State) → IsLater s new → NeverDescends c s new → AllUnread new → AllUnread s
  unread_before s new later climbs all = unread_pair s new climbs (entries s) (entries new) later all
