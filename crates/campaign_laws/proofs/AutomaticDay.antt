-- After automatic days every stable matching is no worse for any candidate.
use Rattle.std.proofs.Common.{ℕ, ◌+◌, ◌<◌, ◌≤◌, ◌≡◌, ◌⊎◌, true, false, not, ◌&&◌, ◌||◌, filter, List, [], ◌∷◌, ◌++◌}
use Rattle.std.proofs.Common.{length, map, get_or, Option, Some, None, inl, inr, refl, sym, ◌∙◌, ap, subst, arith}
use Rattle.std.proofs.Common.{nat_eq, nat_lt, zip}
use Rattle.std.specs.Prelude.{◌==◌, if◌then◌else◌, nat_le}
use Rattle.std.specs.List.{AllByRecursion, before_first, list_any}
use Rattle.std.proofs.lemmas.Bool.{and_from, and_parts, both_ways, cases_Bool, eq-eqb, eqb-true, false≢true, leb-true}
use Rattle.std.proofs.lemmas.Bool.{le-leb, lt-ltb, ltb-true, not_from_false, or_cases, or_left, or_right}
use Rattle.std.proofs.lemmas.Cmp.{nat_eq_equiv}
use Rattle.std.proofs.lemmas.List.{get_or_default, length-append, length-map}
use Rattle.std.proofs.lemmas.List.Elements.{All-from_recursion, All-map, All-same, recursion_from_All}
use Rattle.std.proofs.lemmas.List.Folds.{Any-from_list_any, list_any-append, list_any_at}
use Rattle.std.proofs.lemmas.List.Sums.{length-filter}
use Rattle.std.proofs.lemmas.Map.Made.{length-le_from_is_member}
use Rattle.admit_core.specs.declared.dossier.Answer.{Answer}
use Rattle.admit_core.specs.declared.dossier.Programme.{Programme}
use Rattle.admit_core.specs.declared.dossier.Wish.{Wish}
use Rattle.admit_core.specs.declared.ranking.CallOrder.{CallOrder}
use Rattle.admit_core.specs.declared.ranking.Ranked.{Ranked}
use Rattle.admit_core.specs.declared.records.DayRecord.{DayRecord}
use Rattle.admit_core.specs.declared.state.Mark.{Mark}
use Rattle.admit_core.specs.declared.state.Stamp.{Stamp}
use Rattle.admit_core.specs.declared.state.Status.{Status}
use Rattle.admit_core.specs.declared.state.Status.TheVariants.{Offered}
use Rattle.admit_core.specs.AutoAnswer.{auto_all, auto_mark, best_live}
use Rattle.admit_core.specs.CallOrder.{AreCallOrders}
use Rattle.admit_core.specs.Days.{Days, answers_of, first_evening, first_mark, offered}
use Rattle.admit_core.specs.DossierRows.{DossierRows, candidates_of, group_of, limit_of, ranking_of, seats_of}
use Rattle.admit_core.specs.Lists.{is_among}
use Rattle.admit_core.specs.Proposals.{ahead, before, has_open_wish, is_behind_bar, is_open, is_open_in, is_proposed}
use Rattle.admit_core.specs.Proposals.{needs_no_seat, order_of, position_of, wants_seat}
use Rattle.admit_core.specs.State.{State, changed_to, entries, holds_seat, is_gone, is_live, is_waiting}
use Rattle.admit_core.specs.State.{is_waiting_status, seat_holders, seats_left}
use Rattle.admit_core.specs.Validity.{IsValid}
use Rattle.admit_core.proofs.ClosedEvenings.{among_filter}
use Rattle.admit_core.proofs.Counting.{distinct_kept}
use Rattle.admit_core.proofs.Holders.{entries_marked, holder_has_wish, marked_by}
use Rattle.admit_core.proofs.Plain.{any-filter, waits_open}
use Rattle.admit_core.proofs.Remaining.{least_passes}
use Rattle.admit_core.proofs.FilledSeats.{auto_live}
use Rattle.admit_core.proofs.Statuses.{changed_status, status_of_auto}
use Rattle.day_state.proofs.Along.{length-with_marks}
use Rattle.round.proofs.Members.{among_filtered, distinct_once}
use Rattle.campaign_laws.specs.AutomaticDay.{IsAllAutomatic, IsStable, StableMatchingsAreNoWorse, has_as_good}
use Rattle.campaign_laws.specs.Moments.{moments, openings}
use Rattle.campaign_laws.proofs.GoneStays.{live_waits_not}
use Rattle.campaign_laws.proofs.Kept.{least_within, ranked_live}
use Rattle.campaign_laws.proofs.OneMark.{proposed_open, waiting_not_gone}
use Rattle.campaign_laws.proofs.Walks.{Nothing, Steps, all_of, both, campaign_steps, throughout}
use Rattle.campaign_laws.proofs.Matchings.{AllMatched, IsMatched, around, as_good_as, better_by, false_ne}
use Rattle.campaign_laws.proofs.Matchings.{gone_by_answer, gone_status, mark_of, no_limit, no_school, one_wish, prefers}
use Rattle.campaign_laws.proofs.Matchings.{ranked_called, stands}
use Rattle.campaign_laws.proofs.StableThere.{IsRefusedThere, only_live, refused_there}

module _ (orders : List CallOrder) (d : DossierRows) (m : State) (valid : IsValid d)
    (called : AreCallOrders d.groups orders) (auto : IsAllAutomatic d) (stable : IsStable orders d m) where
  -- in a state of the dossier in which all are matched
  module _ (s : State) (of : s.dossier ≡ d) (long : length s.marks ≡ length d.wishes) (matched : AllMatched m s) where
    matched_at : (k : ℕ) (e : Wish × Mark) → k < length (entries s) → get_or (entries s) k e ≡ e → IsMatched m e.0 e.1
    matched_at k e lt at = subst (λ (f : Wish × Mark). IsMatched m f.0 f.1) at (matched k e lt)

    -- who is live in a programme in the matching is live in it here, or wants a seat of it
    there_or_here : (bars : List ℕ) (p x : ℕ) → holds_seat m x p ≡ true
        → (holds_seat s x p ≡ true) ⊎ (wants_seat s bars p x ≡ true)
    there_or_here bars p x held =
        let (j, e, j_lt, e_at, lives) =
        Any-from_list_any (λ (e : Wish × Mark). is_live e.1 && nat_eq e.0.candidate x && nat_eq e.0.programme p)
        (entries m) held in
        let v = e.0 in
        let outer = and_parts (is_live e.1 && nat_eq v.candidate x) (nat_eq v.programme p) lives in
        let inner = and_parts (is_live e.1) (nat_eq v.candidate x) outer.0 in
        let at = stands m d stable.matching.dossier j e j_lt e_at in
        let (y, lt, here) = mark_of d s of long j v at in
        elim (cases_Bool (is_live y)) [
          | inl live ↦
              let lives_here : (is_live y && nat_eq v.candidate x && nat_eq v.programme p) ≡ true =
              and_from (is_live y && nat_eq v.candidate x) (nat_eq v.programme p)
              (and_from (is_live y) (nat_eq v.candidate x) live inner.1) outer.1 in
              inl (list_any_at (λ (f : Wish × Mark). is_live f.1 && nat_eq f.0.candidate x && nat_eq f.0.programme p)
              (entries s) j (v, y) lt (rw here lives_here))
          | inr not_live ↦ elim (cases_Bool (is_waiting y)) [
            | inl waits ↦ elim (cases_Bool (holds_seat s x p)) [
              | inl has ↦ inl has
              | inr has_not ↦
                  let unbarred : is_behind_bar s bars v v.school ≡ false = rw (no_school d valid auto j v at) refl in
                  let opens : is_open s bars v y ≡ true = waits_open (is_waiting y) (is_behind_bar s bars v v.school)
                  waits unbarred in
                  let open_here : is_open_in s bars p x v y ≡ true =
                  and_from (is_open s bars v y && nat_eq v.candidate x) (nat_eq v.programme p)
                  (and_from (is_open s bars v y) (nat_eq v.candidate x) opens inner.1) outer.1 in
                  let some : has_open_wish s bars p x ≡ true =
                  list_any_at (λ (f : Wish × Mark). is_open_in s bars p x f.0 f.1) (entries s) j (v, y) lt
                  (rw here open_here) in
                  inr (and_from (has_open_wish s bars p x) (not (holds_seat s x p)) some
                  (not_from_false (holds_seat s x p) has_not))
            ]
            | inr waits_not ↦
                let gone : is_gone y ≡ true = rw (not_live, waits_not) refl in
                let better = (matched_at j (v, y) lt here).gone gone in
                let (i, f, i_lt, f_at, is_better) = Any-from_list_any
                (λ (f : Wish × Mark). is_live f.1 && nat_eq f.0.candidate v.candidate && nat_lt f.0.preference
                v.preference) (entries m) better in
                let outer_f = and_parts (is_live f.1 && nat_eq f.0.candidate v.candidate)
                (nat_lt f.0.preference v.preference) is_better in
                let inner_f = and_parts (is_live f.1) (nat_eq f.0.candidate v.candidate) outer_f.0 in
                let same = only_live orders d m valid called auto stable i j f e i_lt j_lt f_at e_at
                (eqb-true f.0.candidate v.candidate inner_f.1) inner_f.0 inner.0 in
                let one : f ≡ e = sym f_at ∙ ap (λ z. get_or (entries m) z f) same
                ∙ get_or_default (entries m) j f e j_lt ∙ e_at in
                let less = ltb-true f.0.preference v.preference outer_f.1 in
                let level = ap (λ (g : Wish × Mark). g.0.preference) one in
                absurd (omega (arith, less, level))
          ]
        ]

    -- whoever is live in the programme of a refused wish stands before its candidate
    stands_before : (w : Wish) (why : IsRefusedThere orders d m w) (x : ℕ) → holds_seat m x w.programme ≡ true
        → is_among x (before s orders w) ≡ true
    stands_before w why x held =
        let p = w.programme in
        let c = w.candidate in
        let (j, e, j_lt, e_at, lives) =
        Any-from_list_any (λ (e : Wish × Mark). is_live e.1 && nat_eq e.0.candidate x && nat_eq e.0.programme p)
        (entries m) held in
        let v = e.0 in
        let outer = and_parts (is_live e.1 && nat_eq v.candidate x) (nat_eq v.programme p) lives in
        let inner = and_parts (is_live e.1) (nat_eq v.candidate x) outer.0 in
        let at = stands m d stable.matching.dossier j e j_lt e_at in
        let ranked : is_among v.candidate (map (λ (r : Ranked). r.candidate) (ranking_of d v.programme)) ≡ true =
        subst (λ (u : Wish). is_among u.candidate
        (map (λ (r : Ranked). r.candidate) (ranking_of d u.programme)) ≡ true) (sym at.here)
        (valid.wishes j v at.within).ranked in
        let ranked_x : is_among x (map (λ (r : Ranked). r.candidate) (ranking_of d p)) ≡ true =
        subst (λ (z : ℕ). is_among z (map (λ (r : Ranked). r.candidate) (ranking_of d p)) ≡ true)
        (eqb-true v.candidate x inner.1)
        (subst (λ (q : ℕ). is_among v.candidate (map (λ (r : Ranked). r.candidate) (ranking_of d q)) ≡ true)
        (eqb-true v.programme p outer.1) ranked) in
        let called_x : is_among x (order_of d orders p) ≡ true =
        ranked_called d.groups orders valid.groups called (group_of d p) x ranked_x in
        let called_m : is_among x (order_of m.dossier orders p) ≡ true =
        ap (λ (y : DossierRows). is_among x (order_of y orders p)) stable.matching.dossier ∙ called_x in
        elim (around c x (order_of m.dossier orders p) called_m) [
          | inl first ↦
              ap (λ (y : DossierRows). is_among x (before_first (nat_eq c) (order_of y orders p)))
              (of ∙ sym stable.matching.dossier) ∙ first
          | inr rest ↦ elim rest [
            | inl same ↦ absurd
                (both_ways (holds_seat m c p) why.not_live (ap (λ (z : ℕ). holds_seat m z p) (sym same) ∙ held))
            | inr later ↦ absurd (why.nobody_behind x later held)
          ]
        ]

    -- so the seats are taken up by those who are live and those who stand ahead
    no_seat_left : (bars : List ℕ) (w : Wish) → IsRefusedThere orders d m w
        → seats_of d w.programme ≤ length (seat_holders s w.programme) + ahead s orders bars w
    no_seat_left bars w why =
        let p = w.programme in
        let wants = wants_seat s bars p in
        let those = before s orders w in
        let ys = seat_holders s p ++ filter wants those in
        let once = distinct_kept (λ c. holds_seat m c p) (candidates_of m.dossier)
        (distinct_once (map (λ (v : Wish). v.candidate) m.dossier.wishes)) in
        let fewer = length-le_from_is_member nat_eq_equiv (seat_holders m p) ys once
        (λ q among.
        let held : holds_seat m q p ≡ true =
        (among_filtered (λ c. holds_seat m c p) q (candidates_of m.dossier) among).1 in
        list_any-append (nat_eq q) (seat_holders s p) (filter wants those)
        ∙ elim (there_or_here bars p q held) [
          | inl here ↦
              or_left (is_among q (seat_holders s p)) (is_among q (filter wants those))
              (among_filter (λ c. holds_seat s c p) q (candidates_of s.dossier)
              (holder_has_wish (λ v. nat_eq v.programme p) s q here) here)
          | inr wanted ↦
              or_right (is_among q (seat_holders s p)) (is_among q (filter wants those))
              (among_filter wants q those (stands_before w why q held) wanted)
        ]) in
        omega (arith, why.full, fewer, length-append (seat_holders s p) (filter wants those), length-filter wants those)

    -- hence a proposed wish is matched
    proposed_matched : (bars : List ℕ) (k : ℕ) (w : Wish) (x : Mark) → k < length (entries s)
        → get_or (entries s) k (w, x) ≡ (w, x)
        → is_proposed s orders bars w x ≡ true → has_as_good m w.candidate w.preference ≡ true
    proposed_matched bars k w x lt here offers =
        let c = w.candidate in
        let p = w.programme in
        let at = stands s d of k (w, x) lt here in
        elim (cases_Bool (has_as_good m c w.preference)) [
          | inl good ↦ good
          | inr nothing ↦
              let why = refused_there orders d m valid called auto stable k w at nothing in
              let taken = no_seat_left bars w why in
              let waits = (proposed_open s orders bars w x offers).0 in
              let seat = (and_parts (is_open s bars w x)
              (needs_no_seat s orders w || nat_lt (ahead s orders bars w) (seats_left s p)) offers).1 in
              elim (or_cases (needs_no_seat s orders w) (nat_lt (ahead s orders bars w) (seats_left s p)) seat) [
                | inl none_needed ↦
                    elim (or_cases (holds_seat s c p) (nat_le (position_of s orders w) (limit_of s.dossier p))
                    none_needed) [
                      | inl held ↦
                          let (j, e, j_lt, e_at, lives) = Any-from_list_any
                          (λ (e : Wish × Mark). is_live e.1 && nat_eq e.0.candidate c && nat_eq e.0.programme p)
                          (entries s) held in
                          let outer = and_parts (is_live e.1 && nat_eq e.0.candidate c)
                          (nat_eq e.0.programme p) lives in
                          let inner = and_parts (is_live e.1) (nat_eq e.0.candidate c) outer.0 in
                          let same = one_wish d valid auto j k e.0 w
                          (stands s d of j e j_lt e_at) at (eqb-true e.0.candidate c inner.1)
                          (eqb-true e.0.programme p outer.1) in
                          let one : e ≡ (w, x) = sym e_at ∙ ap (λ z. get_or (entries s) z e) same
                          ∙ get_or_default (entries s) k e (w, x) lt ∙ here in
                          let live : is_live x ≡ true = ap (λ (y : Wish × Mark). is_live y.1) (sym one) ∙ inner.0 in
                          absurd (both_ways (is_waiting x) (live_waits_not x.status live) waits)
                      | inr called_by ↦
                          let limit : limit_of s.dossier p ≡ 0 = ap (λ (y : DossierRows). limit_of y p) of
                          ∙ no_limit d.programmes p
                          (recursion_from_All (λ (q : Programme). q.limit ≡ 0) d.programmes auto.no_limits) in
                          absurd (omega (
                            arith,
                            limit,
                            leb-true (position_of s orders w)
                                (limit_of s.dossier p) called_by,
                          ))
                    ]
                | inr early ↦
                    let seats : seats_of s.dossier p ≡ seats_of d p = ap (λ (y : DossierRows). seats_of y p) of in
                    absurd (omega (arith, seats, taken, ltb-true (ahead s orders bars w) (seats_left s p) early))
              ]
        ]

    offered_matched : (bars : List ℕ) (stamp : Stamp) (k : ℕ) (e : Wish × Mark) → k < length (entries s)
        → get_or (entries s) k e ≡ e
        → IsMatched m e.0 (if is_proposed s orders bars e.0 e.1 then changed_to Offered stamp e.1 else e.1)
    offered_matched bars stamp k e lt at =
        elim (cases_Bool (is_proposed s orders bars e.0 e.1)) [
          | inl offers ↦
              let good = proposed_matched bars k e.0 e.1 lt at offers in
              let status = changed_status Offered stamp e.1 in
              rw offers (record
              { live = λ l. good; gone = λ gone. absurd (false≢true (sym (ap gone_status status) ∙ gone)) })
          | inr none ↦ rw none (matched_at k e lt at)
        ]

    offers_keep : (bars : List ℕ) (stamp : Stamp) → AllMatched m (offered s orders bars stamp)
    offers_keep bars stamp =
        let P : Wish × Mark → Type 0 = λ e. IsMatched m e.0 e.1 in
        let f : Wish → Mark → Mark = λ v x. if is_proposed s orders bars v x then changed_to Offered stamp x else x in
        All-same P (entries (offered s orders bars stamp)) (map (marked_by f) (entries s)) (entries_marked s f)
        (All-map P (marked_by f) (entries s)
        (λ k e lt. offered_matched bars stamp k (get_or (entries s) k e) lt
        (get_or_default (entries s) k (get_or (entries s) k e) e lt)))

    -- the best live wish of a candidate is matched
    best_matched : (c : ℕ) (b : Wish × Mark) → best_live s c ≡ Some b → has_as_good m c b.0.preference ≡ true
    best_matched c b best =
        let test = ranked_live c in
        let level = λ (e : Wish × Mark). nat_eq e.0.preference b.0.preference in
        let found : list_any (λ (e : Wish × Mark). test e && level e) (entries s) ≡ true =
        sym (any-filter level test (entries s)) ∙ least_passes level (λ (e : Wish × Mark). e.0.preference)
        (filter test (entries s)) b best (eq-eqb b.0.preference b.0.preference refl) in
        let (j, e, j_lt, e_at, both) = Any-from_list_any (λ (e : Wish × Mark). test e && level e) (entries s) found in
        let outer = and_parts (test e) (level e) both in
        let inner = and_parts (is_live e.1 && nat_eq e.0.candidate c) (nat_lt 0 e.0.preference) outer.0 in
        let first = and_parts (is_live e.1) (nat_eq e.0.candidate c) inner.0 in
        let good = (matched_at j e j_lt e_at).live first.0 in
        ap (λ (x : ℕ). has_as_good m x b.0.preference) (sym (eqb-true e.0.candidate c first.1))
        ∙ ap (has_as_good m e.0.candidate) (sym (eqb-true e.0.preference b.0.preference outer.1)) ∙ good

    answered_matched : (stamp : Stamp) (o : Option (Wish × Mark)) (k : ℕ) (e : Wish × Mark) → k < length (entries s)
        → get_or (entries s) k e ≡ e
        → best_live s e.0.candidate ≡ o → IsMatched m e.0 (auto_mark stamp o e.0 e.1)
    answered_matched stamp None k e lt at best = matched_at k e lt at
    answered_matched stamp (Some b) k e lt at best =
        let w = e.0 in
        let x = e.1 in
        let c = w.candidate in
        let now = matched_at k e lt at in
        let good = best_matched c b best in
        record {
          live = λ live. now.live (auto_live stamp (Some b) w x live);
          gone = λ gone.
              elim (gone_by_answer x.status (w.preference == b.0.preference) (nat_lt b.0.preference w.preference)
              (sym (ap gone_status (status_of_auto stamp b w x)) ∙ gone)) [
                | inl was ↦ now.gone was
                | inr other ↦ elim other [
                  | inl beside ↦
                      let prefers_some = prefers d valid auto k w (stands s d of k e lt at) in
                      let passes : (ranked_live c e && nat_le w.preference w.preference) ≡ true =
                      and_from (ranked_live c e) (nat_le w.preference w.preference)
                      (and_from (is_live x && nat_eq c c) (nat_lt 0 w.preference)
                      (and_from (is_live x) (nat_eq c c) beside.0 (eq-eqb c c refl))
                      (lt-ltb 0 w.preference prefers_some))
                      (le-leb w.preference w.preference (omega arith)) in
                      let le = least_within (ranked_live c) (λ (f : Wish × Mark). f.0.preference) w.preference
                      (entries s) b best
                      (list_any_at (λ (f : Wish × Mark). ranked_live c f && nat_le f.0.preference w.preference)
                      (entries s) k e lt (rw at passes)) in
                      let differ = false_ne w.preference b.0.preference beside.1 in
                      better_by m c b.0.preference w.preference (omega (arith, le, differ)) good
                  | inr behind_it ↦ better_by m c b.0.preference w.preference
                      (ltb-true b.0.preference w.preference behind_it) good
                ]
              ];
        }

    answers_keep : (stamp : Stamp) → AllMatched m (auto_all s stamp)
    answers_keep stamp =
        let P : Wish × Mark → Type 0 = λ e. IsMatched m e.0 e.1 in
        let f : Wish → Mark → Mark = λ v x. auto_mark stamp (best_live s v.candidate) v x in
        All-same P (entries (auto_all s stamp)) (map (marked_by f) (entries s)) (entries_marked s f)
        (All-map P (marked_by f) (entries s)
        (λ k e lt. let x = get_or (entries s) k e in answered_matched stamp (best_live s x.0.candidate) k x lt
        (get_or_default (entries s) k x e lt) refl))

  record IsKeptHere (s : State) : Type 0 where
    of : s.dossier ≡ d
    long : length s.marks ≡ length d.wishes
    matched : AllMatched m s

  abbrev Never : Answer → Type 0
  Never a = ⊥

  matched_steps : Steps d None orders Nothing Never (λ s t. IsKeptHere s → IsKeptHere t)
  matched_steps = record {
    stays = λ s kept. kept;
    lapses = λ t day s is of kept. absurd (cc);
    answers = λ s stamp a of fits never kept. absurd never;
    offers = λ s day bars stamp of greatest known kept.
        record {
          of = kept.of;
          long = length-with_marks (λ v x. if is_proposed s orders bars v x then changed_to Offered stamp x else x) s
              (kept.long ∙ ap (λ (y : DossierRows). length y.wishes) (sym kept.of)) ∙ kept.long;
          matched = offers_keep s kept.of kept.long kept.matched bars stamp;
        };
    autos = λ s stamp of kept.
        record {
          of = kept.of;
          long = length-with_marks (λ v x. auto_mark stamp (best_live s v.candidate) v x) s
              (kept.long ∙ ap (λ (y : DossierRows). length y.wishes) (sym kept.of)) ∙ kept.long;
          matched = answers_keep s kept.of kept.long kept.matched stamp;
        };
  }

  waiting_matched : (w : Wish) (x : Mark) → is_waiting x ≡ true → IsMatched m w x
  waiting_matched w x waits = record {
    live = λ live. absurd (both_ways (is_waiting x) (live_waits_not x.status live) waits);
    gone = λ gone. absurd (both_ways (is_gone x) (waiting_not_gone (is_live x) (is_waiting x) waits) gone);
  }

  all_wait : (ws : List Wish) (sts : List Status) → AllByRecursion (λ (x : Status). is_waiting_status x ≡ true) sts
      → AllByRecursion (λ (e : Wish × Mark). IsMatched m e.0 e.1) (zip ws (map first_mark sts))
  all_wait [] sts all = tt
  all_wait (w ∷ ws) [] all = tt
  all_wait (w ∷ ws) (x ∷ sts) all = (waiting_matched w (first_mark x) all.0, all_wait ws sts all.1)

  at_first : IsKeptHere (first_evening d)
  at_first = record {
    of = refl;
    long = length-map d.statuses first_mark ∙ valid.one_status_each;
    matched = All-from_recursion (λ (e : Wish × Mark). IsMatched m e.0 e.1) (entries (first_evening d))
        (all_wait d.wishes d.statuses
        (recursion_from_All (λ (x : Status). is_waiting_status x ≡ true) d.statuses auto.waiting));
  }

  no_answers : (days : List DayRecord)
      → AllByRecursion (λ (day : DayRecord). AllByRecursion Never (answers_of d day.day)) days
  no_answers [] = tt
  no_answers (day ∷ days) = (
    subst (λ (answers : List Answer). AllByRecursion Never (filter (λ (a : Answer). nat_eq a.day day.day) answers))
        (sym auto.no_answers) tt,
    no_answers days,
  )

  kept_at_last : (days : List DayRecord) (evening : State) → Days None orders 1 (first_evening d) days evening
      → IsKeptHere evening
  kept_at_last days evening are =
      let walk = campaign_steps d None orders Nothing Never (λ s t. IsKeptHere s → IsKeptHere t) matched_steps 1
      (first_evening d) days evening refl are
      (all_of Nothing (λ o. tt) (openings None orders (first_evening d) days)) (no_answers days) in
      (throughout (λ s t. IsKeptHere s → IsKeptHere t) IsKeptHere (λ s t step kept. step kept) (first_evening d)
      (moments None orders (first_evening d) days) evening walk at_first).end

pub stable_matchings_are_no_worse : StableMatchingsAreNoWorse
stable_matchings_are_no_worse orders d days evening m c n valid called auto are stable has =
    let kept = kept_at_last orders d m valid called auto stable days evening are in
    let (k, e, lt, at, passes) =
    Any-from_list_any (λ (e : Wish × Mark). is_live e.1 && nat_eq e.0.candidate c && nat_le e.0.preference n)
    (entries evening) has in
    let outer = and_parts (is_live e.1 && nat_eq e.0.candidate c) (nat_le e.0.preference n) passes in
    let inner = and_parts (is_live e.1) (nat_eq e.0.candidate c) outer.0 in
    let matched = subst (λ (f : Wish × Mark). IsMatched m f.0 f.1) at (kept.matched k e lt) in
    let own : has_as_good m c e.0.preference ≡ true = ap (λ (x : ℕ). has_as_good m x e.0.preference)
    (sym (eqb-true e.0.candidate c inner.1)) ∙ matched.live inner.0 in
    as_good_as m c e.0.preference n (leb-true e.0.preference n outer.1) own
