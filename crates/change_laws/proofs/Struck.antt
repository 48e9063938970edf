-- A state in which a waiting wish was given up: the same is offered under bars that do not stop it.
use Rattle.std.proofs.Common.{ℕ, ◌-◌, ◌≤◌, ◌<◌, ◌≡◌, ◌≢◌, Bool, true, false, not, ◌&&◌, ◌||◌, filter, List, [], ◌∷◌}
use Rattle.std.proofs.Common.{length, map, take, cond, get_or, Option, Some, None, inl, inr, refl, sym, ◌∙◌, ap, subst}
use Rattle.std.proofs.Common.{arith, nat_eq, nat_lt, count_by, option_map, set}
use Rattle.std.specs.Prelude.{◌==◌, if◌then◌else◌, nat_le, slice_index, unwrap_or}
use Rattle.std.specs.List.{before_first, enumerate_from, find, list_any, position_or_len}
use Rattle.std.proofs.lemmas.Bool.{both_ways, cases_eq, cases_lt, eq-eqb, eqb-true, false_from_ne_true, ltb-true}
use Rattle.std.proofs.lemmas.Bool.{ne_eqb, or_parts}
use Rattle.std.proofs.lemmas.List.{get_or-take, get_or_default, length-take-le}
use Rattle.std.proofs.lemmas.List.Folds.{Any-from_list_any}
use Rattle.std.proofs.lemmas.List.Sums.{sum_by-cons}
use Rattle.admit_core.specs.declared.dossier.Wish.{Wish}
use Rattle.admit_core.specs.declared.ranking.CallOrder.{CallOrder}
use Rattle.admit_core.specs.declared.state.Mark.{Mark}
use Rattle.admit_core.specs.declared.state.Stamp.{Stamp}
use Rattle.admit_core.specs.declared.state.Status.{Status}
use Rattle.admit_core.specs.declared.state.Status.TheVariants.{Waiting, Offered, Accepted, Refused, Withdrawn, Quit}
use Rattle.admit_core.specs.declared.state.Status.TheVariants.{AutoRefused, AutoWithdrawn, Lapsed}
use Rattle.admit_core.specs.AutoAnswer.{auto_all, auto_mark, auto_status, best_live}
use Rattle.admit_core.specs.Boarding.{name_of}
use Rattle.admit_core.specs.Days.{first_mark, offered}
use Rattle.admit_core.specs.DossierRows.{beds_of, candidates_of, limit_of, seats_of}
use Rattle.admit_core.specs.Lists.{ascending, is_among, least_by}
use Rattle.admit_core.specs.Proposals.{demanded_ranks, demands_bed, has_open_wish, is_behind_bar, is_open, is_open_in}
use Rattle.admit_core.specs.Proposals.{is_proposed, order_of, position_of, proposed, wants_seat}
use Rattle.admit_core.specs.State.{State, changed_to, entries, free_beds, has_school, holds_bed, holds_seat, is_gone}
use Rattle.admit_core.specs.State.{is_live, is_waiting, seats_left}
use Rattle.admit_core.proofs.Counting.{count_front, first_at_most}
use Rattle.admit_core.proofs.Plain.{same_test}
use Rattle.fairness.proofs.PassedOver.{place_at_most, refused_by}
use Rattle.campaign_laws.proofs.Kept.{ranked_live}
use Rattle.campaign_laws.proofs.Matchings.{gone_status}
use Rattle.change_laws.proofs.Answering.{set_mark, set_over}
use Rattle.change_laws.proofs.Further.{gone_lives_not, gone_waits_not, waits_lives_not}
use Rattle.change_laws.proofs.Places.{IsAt, IsOver, any_here, any_there, mark_in}
use Rattle.change_laws.proofs.StruckLists.{IsNone, filter_struck, found_struck, map_struck, placed_struck}

-- ---- counts that differ in one candidate alone
count_without : (p q : ℕ → Bool) (c : ℕ) → ((e : ℕ) → e ≢ c → p e ≡ q e) → (xs : List ℕ) → is_among c xs ≡ false
    → count_by p xs ≡ count_by q xs
count_without p q c same [] none = refl
count_without p q c same (x ∷ xs) none =
    let parts = or_parts (nat_eq c x) (is_among c xs) none in
    let first : p x ≡ q x = same x (λ is. both_ways (nat_eq c x) parts.0 (eq-eqb c x (sym is))) in
    let rest = count_without p q c same xs parts.1 in
    let one : ℕ → ℕ = λ y. cond (p y) 1 0 in
    let two : ℕ → ℕ = λ y. cond (q y) 1 0 in
    let same_one : one x ≡ two x = ap (λ (b : Bool). cond b 1 0) first in
    omega (arith, sum_by-cons one x xs, sum_by-cons two x xs, same_one, rest)

not_in_front : (c n : ℕ) (xs : List ℕ) → n ≤ position_or_len (nat_eq c) xs → is_among c (take n xs) ≡ false
not_in_front c n xs le =
    false_from_ne_true (is_among c (take n xs)) (λ among.
    let (i, e, lt, at, same) = Any-from_list_any (nat_eq c) (take n xs) among in
    let long = length-take-le n xs (omega (arith, le, place_at_most xs c)) in
    let i_n : i < n = omega (arith, lt, long) in
    let i_xs : i < length xs = omega (arith, i_n, le, place_at_most xs c) in
    let there : get_or xs i 0 ≡ c = get_or_default xs i 0 e i_xs ∙ sym (get_or-take n xs i e i_n) ∙ at
    ∙ sym (eqb-true c e same) in
    let least = first_at_most c xs i there in
    omega (arith, least, i_n, le))

and_false_last : (a b c : Bool) → (b && c) ≡ false → (a && b && c) ≡ false
and_false_last true b c none = none
and_false_last false b c none = refl

no_programme : (a b : Bool) → b ≡ false → (a && b) ≡ false
no_programme true b none = none
no_programme false b none = refl

-- ---- marks
gone_answered_so : (x : Status) (old stamp : Stamp) (is_best is_behind : Bool) → gone_status x ≡ true
    → let m : Mark = record { status = x; stamp = old } in changed_to (auto_status x is_best is_behind) stamp m ≡ m
gone_answered_so Waiting old stamp is_best is_behind gone = absurd (cc)
gone_answered_so Offered old stamp is_best is_behind gone = absurd (cc)
gone_answered_so Accepted old stamp is_best is_behind gone = absurd (cc)
gone_answered_so Refused old stamp is_best is_behind gone = refl
gone_answered_so Withdrawn old stamp is_best is_behind gone = refl
gone_answered_so Quit old stamp is_best is_behind gone = refl
gone_answered_so AutoRefused old stamp is_best is_behind gone = refl
gone_answered_so AutoWithdrawn old stamp is_best is_behind gone = refl
gone_answered_so Lapsed old stamp is_best is_behind gone = refl

auto_leaves : (stamp : Stamp) (o : Option (Wish × Mark)) (w : Wish) (g : Mark) → is_gone g ≡ true
    → auto_mark stamp o w g ≡ g
auto_leaves stamp None w g gone = refl
auto_leaves stamp (Some b) w g gone =
    gone_answered_so g.status g.stamp stamp (w.preference == b.0.preference) (nat_lt b.0.preference w.preference) gone

-- a state that waits there
pub record IsWaiting (s : State) (place : ℕ) (w : Wish) : Type 0 where
  pub at : IsAt s.dossier.wishes place w
  pub long : length s.marks ≡ length s.dossier.wishes
  pub waits : is_waiting (mark_in s place) ≡ true

module _ (place : ℕ) (w : Wish) (g : Mark) (gone : is_gone g ≡ true) where
  abbrev pub struck : State → State
  struck s = record s { marks = set s.marks place g }

  module _ (s : State) (is : IsWaiting s place w) where
    abbrev z : State
    z = struck s

    abbrev m : Mark
    m = mark_in s place

    whole : IsOver s.dossier.wishes s
    whole = record { wishes = refl; long = is.long }

    whole_too : IsOver s.dossier.wishes z
    whole_too = set_over s.dossier.wishes s place g whole

    marked : place < length s.marks
    marked = omega (arith, is.long, is.at.within)

    both_dead : is_live g ≡ is_live m
    both_dead = gone_lives_not (is_live g) (is_waiting g) gone ∙ sym (waits_lives_not m is.waits)

    same_there : (k : ℕ) (v : Wish) → IsAt s.dossier.wishes k v → k ≡ place → v ≡ w
    same_there k v v_at same =
        sym v_at.here ∙ ap (λ (i : ℕ). get_or s.dossier.wishes i v) same
        ∙ get_or_default s.dossier.wishes place v w is.at.within ∙ is.at.here

    -- who passes a test
    any_struck : (test : Wish × Mark → Bool) → test (w, g) ≡ test (w, m) → list_any test (entries z)
        ≡ list_any test (entries s)
    any_struck test same =
        same_test (list_any test (entries z)) (list_any test (entries s))
        (λ some.
        let found = any_there s.dossier.wishes z whole_too test some in
        let k = found.place in
        let v = found.wish in
        elim (set_mark s.dossier.wishes s place g whole k v found.at) [
          | inl here ↦
              let one : v ≡ w = same_there k v found.at here.0 in
              any_here s.dossier.wishes s whole test place w is.at
              (sym same ∙ sym ((λ i. test (one i, here.1 i))) ∙ found.passes)
          | inr there ↦
              any_here s.dossier.wishes s whole test k v found.at
              (ap (λ (x : Mark). test (v, x)) (sym there.1) ∙ found.passes)
        ])
        (λ some.
        let found = any_there s.dossier.wishes s whole test some in
        let k = found.place in
        let v = found.wish in
        elim (set_mark s.dossier.wishes s place g whole k v found.at) [
          | inl here ↦
              let one : v ≡ w = same_there k v found.at here.0 in
              any_here s.dossier.wishes z whole_too test k v found.at
              (ap (λ (x : Mark). test (v, x)) here.1 ∙ ap (λ (u : Wish). test (u, g)) one ∙ same
              ∙ sym (λ i. test (one i, mark_in s (here.0 i))) ∙ found.passes)
          | inr there ↦
              any_here s.dossier.wishes z whole_too test k v found.at
              (ap (λ (x : Mark). test (v, x)) there.1 ∙ found.passes)
        ])

    none_of : (f : Wish × Mark → Bool) → f (w, m) ≡ false → f (w, g) ≡ false → IsNone f s.dossier.wishes s.marks place g
    none_of f fails fails_too = record {
      first = w;
      mark = m;
      within = is.at.within;
      marked = marked;
      here = is.at.here;
      there = get_or_default s.marks place m (first_mark Waiting) marked;
      fails = fails;
      fails_too = fails_too;
    }

    pub same_seat : (c p : ℕ) → holds_seat z c p ≡ holds_seat s c p
    same_seat c p = any_struck (λ e. is_live e.1 && (e.0.candidate == c) && (e.0.programme == p))
        (λ i. both_dead i && (w.candidate == c) && (w.programme == p))

    pub same_bed : (c h : ℕ) → holds_bed z c h ≡ holds_bed s c h
    same_bed c h = any_struck (λ e. is_live e.1 && (e.0.candidate == c) && has_school e.0 h)
        (λ i. both_dead i && (w.candidate == c) && has_school w h)

    pub same_left : (p : ℕ) → seats_left z p ≡ seats_left s p
    same_left p = λ i. seats_of s.dossier p - length (filter (λ c. same_seat c p i) (candidates_of s.dossier))

    pub same_free : (h : ℕ) → free_beds z h ≡ free_beds s h
    same_free h = λ i. beds_of s.dossier h - length (filter (λ c. same_bed c h i) (candidates_of s.dossier))

    same_behind : (bars : List ℕ) (v : Wish) (school : Option ℕ)
        → is_behind_bar z bars v school ≡ is_behind_bar s bars v school
    same_behind bars v None = refl
    same_behind bars v (Some h) = λ i. not (same_bed v.candidate h i) && nat_lt (slice_index bars h) v.board_rank

    same_open : (bars : List ℕ) (v : Wish) (x : Mark) → is_open z bars v x ≡ is_open s bars v x
    same_open bars v x = λ i. is_waiting x && not (is_waiting x && same_behind bars v v.school i)

    -- whoever else wants a seat
    same_wants : (bars : List ℕ) (q e : ℕ) → (nat_eq w.candidate e && nat_eq w.programme q) ≡ false
        → wants_seat z bars q e ≡ wants_seat s bars q e
    same_wants bars q e other =
        let none : (x : Mark) → is_open_in z bars q e w x ≡ false = λ x.
        and_false_last (is_open z bars w x) (nat_eq w.candidate e) (nat_eq w.programme q) other in
        let open_wish : has_open_wish z bars q e ≡ has_open_wish s bars q e =
        any_struck (λ x. is_open_in z bars q e x.0 x.1) (none g ∙ sym (none m))
        ∙ (λ i. list_any (λ (x : Wish × Mark). same_open bars x.0 x.1 i && (x.0.candidate == e)
        && (x.0.programme == q)) (entries s)) in
        λ i. open_wish i && not (same_seat e q i)

    gone_wants_not : is_waiting g ≡ false
    gone_wants_not = gone_waits_not (is_live g) (is_waiting g) gone

    -- under bars that do not stop the wish, and under which it is not proposed
    module _ (orders : List CallOrder) (bars : List ℕ) (opens : is_open s bars w (mark_in s place) ≡ true)
        (none : is_proposed s orders bars w (mark_in s place) ≡ false) where
      abbrev p : ℕ
      p = w.programme

      abbrev xs : List ℕ
      xs = order_of s.dossier orders p

      abbrev at_w : ℕ
      at_w = position_or_len (nat_eq w.candidate) xs

      elsewhere : (e : ℕ) → e ≢ w.candidate → wants_seat z bars p e ≡ wants_seat s bars p e
      elsewhere e other = same_wants bars p e (ap (λ (b : Bool). b && nat_eq p p)
          (ne_eqb w.candidate e (λ same. other (sym same))))

      same_front : (n : ℕ) → n ≤ at_w → count_by (wants_seat z bars p) (take n xs)
          ≡ count_by (wants_seat s bars p) (take n xs)
      same_front n le = count_without (wants_seat z bars p) (wants_seat s bars p) w.candidate elsewhere (take n xs)
          (not_in_front w.candidate n xs le)

      early_there : (e : ℕ)
          → nat_lt (count_by (wants_seat z bars p) (before_first (nat_eq e) xs)) (seats_left s p)
          ≡ nat_lt (count_by (wants_seat s bars p) (before_first (nat_eq e) xs)) (seats_left s p)
      early_there e =
          let n = position_or_len (nat_eq e) xs in
          let left = seats_left s p in
          let why = refused_by s orders bars w (mark_in s place) opens none in
          elim (cases_lt at_w n) [
            | inr first ↦ ap (λ (k : ℕ). nat_lt k left) (same_front n (omega (arith, first)))
            | inl later ↦
                let more = count_front (wants_seat s bars p) xs at_w n (omega (arith, later)) in
                let more_too = count_front (wants_seat z bars p) xs at_w n (omega (arith, later)) in
                let equal = same_front at_w (omega arith) in
                let late : nat_lt (count_by (wants_seat s bars p) (take n xs)) left ≡ false =
                false_from_ne_true (nat_lt (count_by (wants_seat s bars p) (take n xs)) left) (λ early.
                let few = ltb-true (count_by (wants_seat s bars p) (take n xs)) left early in
                omega (arith, few, more, why.no_seat)) in
                let late_too : nat_lt (count_by (wants_seat z bars p) (take n xs)) left ≡ false =
                false_from_ne_true (nat_lt (count_by (wants_seat z bars p) (take n xs)) left) (λ early.
                let few = ltb-true (count_by (wants_seat z bars p) (take n xs)) left early in
                omega (arith, few, more_too, equal, why.no_seat)) in
                late_too ∙ sym late
          ]

      same_early : (q e : ℕ)
          → nat_lt (count_by (wants_seat z bars q) (before_first (nat_eq e) (order_of s.dossier orders q)))
          (seats_left s q)
          ≡ nat_lt (count_by (wants_seat s bars q) (before_first (nat_eq e) (order_of s.dossier orders q)))
          (seats_left s q)
      same_early q e =
          elim (cases_eq q p) [
            | inl same ↦
                subst (λ (r : ℕ). nat_lt (count_by (wants_seat z bars r) (before_first (nat_eq e) (order_of s.dossier
                orders r))) (seats_left s r)
                ≡ nat_lt (count_by (wants_seat s bars r) (before_first (nat_eq e) (order_of s.dossier orders r)))
                (seats_left s r))
                (sym same) (early_there e)
            | inr other ↦
                let wants : (x : ℕ) → wants_seat z bars q x ≡ wants_seat s bars q x = λ x.
                same_wants bars q x (no_programme (nat_eq w.candidate x) (nat_eq p q)
                (ne_eqb p q (λ same. other (sym same)))) in
                λ i. nat_lt (count_by (λ x. wants x i) (before_first (nat_eq e) (order_of s.dossier orders q)))
                (seats_left s q)
          ]

      -- each other wish is proposed as before
      pub same_proposed : (v : Wish) (x : Mark) → is_proposed z orders bars v x ≡ is_proposed s orders bars v x
      same_proposed v x =
          let q = v.programme in
          let e = v.candidate in
          (λ i. same_open bars v x i && ((same_seat e q i || nat_le (position_of s orders v) (limit_of s.dossier q))
          || nat_lt (count_by (wants_seat z bars q) (before_first (nat_eq e) (order_of s.dossier orders q)))
          (same_left q i)))
          ∙ (λ i. is_open s bars v x && ((holds_seat s e q || nat_le (position_of s orders v) (limit_of s.dossier q))
          || same_early q e i))

      gone_offers_not : (v : Wish) → is_proposed s orders bars v g ≡ false
      gone_offers_not v = rw gone_wants_not refl

      pub same_offers : proposed z orders bars ≡ proposed s orders bars
      same_offers =
          ap (map (λ (x : ℕ × (Wish × Mark)). x.0))
          ((λ i. filter (λ (x : ℕ × (Wish × Mark)). same_proposed x.1.0 x.1.1 i) (enumerate_from 0 (entries z)))
          ∙ placed_struck (λ e. is_proposed s orders bars e.0 e.1) 0 s.dossier.wishes s.marks place g
          (none_of (λ e. is_proposed s orders bars e.0 e.1) none (gone_offers_not w)))

      pub same_after_offers : (stamp : Stamp) → offered z orders bars stamp ≡ struck (offered s orders bars stamp)
      same_after_offers stamp =
          let f : Wish × Mark → Mark = λ e. if is_proposed s orders bars e.0 e.1 then changed_to Offered stamp e.1
          else e.1 in
          ap (λ (ms : List Mark). record s { marks = ms })
          ((λ i. map (λ (e : Wish × Mark). if same_proposed e.0 e.1 i then changed_to Offered stamp e.1 else e.1)
          (entries z))
          ∙ map_struck f s.dossier.wishes s.marks place g (λ v. rw (gone_offers_not v) refl))

      same_demands : (h : ℕ) (v : Wish) (x : Mark) → demands_bed z orders bars h v x ≡ demands_bed s orders bars h v x
      same_demands h v x = λ i. has_school v h && nat_lt 0 v.board_rank && not (same_bed v.candidate h i)
          && same_proposed v x i

      demands_none : (h : ℕ) (x : Mark) → is_proposed s orders bars w x ≡ false → demands_bed s orders bars h w x
          ≡ false
      demands_none h x fails =
          no_programme (has_school w h && nat_lt 0 w.board_rank && not (holds_bed s w.candidate h))
          (is_proposed s orders bars w x) fails

      pub same_ranks : (h : ℕ) → demanded_ranks z orders bars h ≡ demanded_ranks s orders bars h
      same_ranks h =
          let f : Wish × Mark → Bool = λ e. demands_bed s orders bars h e.0 e.1 in
          (λ i. ascending (map (λ (e : Wish × Mark). e.0.board_rank)
          (filter (λ (e : Wish × Mark). same_demands h e.0 e.1 i) (entries z))))
          ∙ ap (λ es. ascending (map (λ (e : Wish × Mark). e.0.board_rank) es))
          (filter_struck f s.dossier.wishes s.marks place g
          (none_of f (demands_none h m none) (demands_none h g (gone_offers_not w))))

      pub same_names : (h r : ℕ) → name_of z orders bars h r ≡ name_of s orders bars h r
      same_names h r =
          let f : Wish × Mark → Bool = λ e. demands_bed s orders bars h e.0 e.1 && (e.0.board_rank == r) in
          let found : Option (ℕ × (Wish × Mark)) → ℕ =
          λ o. unwrap_or (option_map (λ (x : ℕ × (Wish × Mark)). x.0) o) 0 in
          (λ i. found (find (λ (x : ℕ × (Wish × Mark)). same_demands h x.1.0 x.1.1 i && (x.1.0.board_rank == r))
          (enumerate_from 0 (entries z))))
          ∙ ap found (found_struck f 0 s.dossier.wishes s.marks place g
          (none_of f (ap (λ (b : Bool). b && (w.board_rank == r)) (demands_none h m none))
          (ap (λ (b : Bool). b && (w.board_rank == r)) (demands_none h g (gone_offers_not w)))))

    -- automatic answers, where the wish waits before and after them
    pub same_answers : (stamp : Stamp) → auto_all z stamp ≡ struck (auto_all s stamp)
    same_answers stamp =
        let f : Wish × Mark → Mark = λ e. auto_mark stamp (best_live s e.0.candidate) e.0 e.1 in
        let best : (c : ℕ) → best_live z c ≡ best_live s c = λ c.
        ap (least_by (λ (e : Wish × Mark). e.0.preference))
        (filter_struck (ranked_live c) s.dossier.wishes s.marks place g
        (none_of (ranked_live c) (rw (waits_lives_not m is.waits) refl)
        (rw (gone_lives_not (is_live g) (is_waiting g) gone) refl))) in
        ap (λ (ms : List Mark). record s { marks = ms })
        ((λ i. map (λ (e : Wish × Mark). auto_mark stamp (best e.0.candidate i) e.0 e.1) (entries z))
        ∙ map_struck f s.dossier.wishes s.marks place g (λ v. auto_leaves stamp (best_live s v.candidate) v g gone))
