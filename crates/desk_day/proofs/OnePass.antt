-- A pass and the automatic answers that follow it.
use Rattle.std.proofs.Common.{ℕ, zero, suc, ◌+◌, ◌≤◌, ◌<◌, ◌≡◌, Bool, true, false, not, cond, ◌||◌, List, [], ◌∷◌}
use Rattle.std.proofs.Common.{length, refl, sym, ◌∙◌, ap, arith, count_by, Option, Some, None, nat_lt}
use Rattle.std.specs.Prelude.{◌==◌, if◌then◌else◌, IsTrue}
use Rattle.std.proofs.lemmas.Bool.{not-true}
use Rattle.std.proofs.lemmas.List.Sums.{sum_by-cons, count_by-le-length}
use Rattle.admit_core.specs.declared.ranking.CallOrder.{CallOrder}
use Rattle.admit_core.specs.declared.dossier.Wish.{Wish}
use Rattle.admit_core.specs.declared.state.Status.{Status}
use Rattle.admit_core.specs.declared.state.Status.TheVariants.{Waiting, Offered, Accepted, Refused, Withdrawn, Quit}
use Rattle.admit_core.specs.declared.state.Status.TheVariants.{AutoRefused, AutoWithdrawn, Lapsed}
use Rattle.admit_core.specs.declared.state.Mark.{Mark}
use Rattle.admit_core.specs.declared.state.Stamp.{Stamp}
use Rattle.admit_core.specs.declared.state.Change.{Change}
use Rattle.admit_core.specs.declared.state.Freed.{Freed}
use Rattle.admit_core.specs.declared.records.PassRecord.{PassRecord}
use Rattle.admit_core.specs.State.{State, is_live, is_waiting, is_live_status, is_waiting_status, changed_to}
use Rattle.admit_core.specs.Proposals.{is_proposed}
use Rattle.admit_core.specs.AutoAnswer.{auto_mark, best_live, auto_all, freed}
use Rattle.admit_core.specs.Days.{IsPass, IsPassEnd, offered, closing, frees_nothing}
use Rattle.day_state.specs.Kept.{mark_in, wish_in}
use Rattle.day_state.proofs.Along.{mark_in-with_marks, length-with_marks}
use Rattle.auto_answer.proofs.Answering.{all_mark}
use Rattle.auto_answer.proofs.Freeing.{freeing_refuses}
use Rattle.desk_day.specs.Changes.{answered_changes}
use Rattle.desk_day.specs.DayPasses.{open_wishes}
use Rattle.desk_day.specs.Running.{opening_after}
use Rattle.admit_core.specs.AutoAnswer.{auto_status}
use Rattle.admit_core.proofs.Statuses.{changed_status, status_of_auto}
use Rattle.desk_day.proofs.ChangedMarks.{changes_alike, proposed_waits}

pub closed : (s off close : State) (orders : List CallOrder) (bars : List ℕ) (stamp : Stamp)
    → off ≡ offered s orders bars stamp → close ≡ auto_all off stamp → close ≡ closing s orders bars stamp
closed s off close orders bars stamp off_is close_is = close_is ∙ ap (λ t. auto_all t stamp) off_is

pub pass_ended : (s off close opening : State) (orders : List CallOrder) (ceilings : List ℕ) (stamp : Stamp)
    (pass : PassRecord)
    (autos : List Change) (all : Freed)
    → IsPass s orders ceilings pass → off ≡ offered s orders pass.bars stamp → close ≡ auto_all off stamp
    → all ≡ freed off close
    → opening ≡ s → autos ≡ answered_changes opening close
    → IsPassEnd s orders ceilings stamp (record { pass = pass; autos = autos; freed = all })
pass_ended s off close opening orders ceilings stamp pass autos all is off_is close_is all_is opening_is autos_is =
    let end = closed s off close orders pass.bars stamp off_is close_is in
    record {
      pass = is;
      autos = autos_is ∙ rw (opening_is, end) (sym (changes_alike s orders pass.bars stamp));
      freed = all_is ∙ rw (end, off_is) refl;
    }

abbrev one : Bool → ℕ
one b = cond b 1 0

abbrev is_open : Mark → Bool
is_open m = is_live m || is_waiting m

abbrev is_open_status : Status → Bool
is_open_status x = is_live_status x || is_waiting_status x

count-cons : (m : Mark) (ms : List Mark) → count_by is_open (m ∷ ms) ≡ one (is_open m) + count_by is_open ms
count-cons m ms = sum_by-cons (λ n. cond (is_open n) 1 0) m ms

no_more : (ms ns : List Mark) → length ms ≡ length ns
    → ((k : ℕ) → k < length ms → one (is_open (mark_in ms k)) ≤ one (is_open (mark_in ns k)))
    → count_by is_open ms ≤ count_by is_open ns
no_more [] [] long each = omega arith
no_more [] (n ∷ ns) long each = absurd (omega arith)
no_more (m ∷ ms) [] long each = absurd (omega arith)
no_more (m ∷ ms) (n ∷ ns) long each =
    let here : one (is_open m) ≤ one (is_open n) = each zero (omega arith) in
    omega (
      arith,
      count-cons m ms,
      count-cons n ns,
      here,
      no_more ms ns (omega arith)
          (λ k lt. each (suc k) (omega arith)),
    )

one_less : (ms ns : List Mark) → length ms ≡ length ns
    → ((k : ℕ) → k < length ms → one (is_open (mark_in ms k)) ≤ one (is_open (mark_in ns k)))
    → (k : ℕ) → k < length ms → is_open (mark_in ms k) ≡ false → is_open (mark_in ns k) ≡ true
    → count_by is_open ms < count_by is_open ns
one_less [] ns long each k lt shut open_one = absurd (omega arith)
one_less (m ∷ ms) [] long each k lt shut open_one = absurd (omega arith)
one_less (m ∷ ms) (n ∷ ns) long each zero lt shut open_one =
    let first : one (is_open m) ≡ 0 = ap one shut in
    let second : one (is_open n) ≡ 1 = ap one open_one in
    omega (
      arith,
      count-cons m ms,
      count-cons n ns,
      first,
      second,
      no_more ms ns (omega arith)
          (λ k lt. each (suc k) (omega arith)),
    )
one_less (m ∷ ms) (n ∷ ns) long each (suc k) lt shut open_one =
    let here : one (is_open m) ≤ one (is_open n) = each zero (omega arith) in
    omega (
      arith,
      count-cons m ms,
      count-cons n ns,
      here,
      one_less ms ns (omega arith) (λ k lt. each (suc k) (omega arith)) k (omega arith)
          shut open_one,
    )

-- an offer keeps a wish open
offer_open : (stamp : Stamp) (m : Mark) (made : Bool) → (made ≡ true → is_waiting m ≡ true)
    → is_open (if made then changed_to Offered stamp m else m) ≡ is_open m
offer_open stamp m false waits = refl
offer_open stamp m true waits = ap is_open_status (changed_status Offered stamp m)
    ∙ sym (waiting_open m.status (waits refl))
  where
    waiting_open : (x : Status) → is_waiting_status x ≡ true → is_open_status x ≡ true
    waiting_open Waiting t = refl
    waiting_open Offered t = absurd (cc)
    waiting_open Accepted t = absurd (cc)
    waiting_open Refused t = absurd (cc)
    waiting_open Withdrawn t = absurd (cc)
    waiting_open Quit t = absurd (cc)
    waiting_open AutoRefused t = absurd (cc)
    waiting_open AutoWithdrawn t = absurd (cc)
    waiting_open Lapsed t = absurd (cc)

open_after : (x : Status) (best worse : Bool) → one (is_open_status (auto_status x best worse)) ≤ one (is_open_status x)
open_after Waiting best true = omega arith
open_after Waiting best false = omega arith
open_after Offered true worse = omega arith
open_after Offered false worse = omega arith
open_after Accepted true worse = omega arith
open_after Accepted false worse = omega arith
open_after Refused best worse = omega arith
open_after Withdrawn best worse = omega arith
open_after Quit best worse = omega arith
open_after AutoRefused best worse = omega arith
open_after AutoWithdrawn best worse = omega arith
open_after Lapsed best worse = omega arith

-- an automatic answer opens none
auto_open : (stamp : Stamp) (best : Option (Wish × Mark)) (w : Wish) (m : Mark)
    → one (is_open (auto_mark stamp best w m)) ≤ one (is_open m)
auto_open stamp None w m = omega arith
auto_open stamp (Some best) w m =
    let P = λ (x : Status). one (is_open_status x) ≤ one (is_open_status m.status) in
    rw (status_of_auto stamp best w m) (open_after m.status (w.preference == best.0.preference)
    (nat_lt best.0.preference w.preference))

live_open : (m : Mark) → is_live m ≡ true → is_open m ≡ true
live_open m live = rw live refl

-- THE MEASURE: where something was freed, fewer wishes are open
pub fewer_open : (s off close : State) (orders : List CallOrder) (bars : List ℕ) (stamp : Stamp) (all : Freed)
    → length s.marks ≡ length s.dossier.wishes
    → off ≡ offered s orders bars stamp → close ≡ auto_all off stamp → all ≡ freed off close
    → IsTrue (not (frees_nothing all))
    → open_wishes close < open_wishes s
fewer_open s off close orders bars stamp all long off_is close_is all_is some =
    rw (close_is, off_is)
    (fewer (not-true (frees_nothing (freed first (auto_all first stamp))) (rw (all_is, close_is, off_is) at some)))
  where
    first : State
    first = offered s orders bars stamp

    fewer : frees_nothing (freed (offered s orders bars stamp) (auto_all (offered s orders bars stamp) stamp)) ≡ false
        → open_wishes (auto_all (offered s orders bars stamp) stamp) < open_wishes s
    fewer e =
        let o = offered s orders bars stamp in
        let f = λ (w : Wish) (m : Mark). if is_proposed s orders bars w m then changed_to Offered stamp m else m in
        let o_long : length o.marks ≡ length s.marks = length-with_marks f s long in
        let c = auto_all o stamp in
        let c_long : length c.marks ≡ length o.marks = length-with_marks (all_mark o stamp) o (o_long ∙ long) in
        let found = freeing_refuses o stamp (o_long ∙ long) e in
        let offer_at : (k : ℕ) → k < length s.marks → is_open (mark_in o.marks k) ≡ is_open (mark_in s.marks k) =
        λ k lt.
        ap is_open (mark_in-with_marks f s long k lt)
        ∙ offer_open stamp (mark_in s.marks k) (is_proposed s orders bars (wish_in s.dossier.wishes k)
        (mark_in s.marks k))
        (proposed_waits s orders bars (wish_in s.dossier.wishes k) (mark_in s.marks k)) in
        let at : (k : ℕ) → k < length c.marks → one (is_open (mark_in c.marks k)) ≤ one (is_open (mark_in s.marks k)) =
        λ k lt.
        let in_o : k < length o.marks = omega (arith, c_long) in
        let auto_at = ap (λ (m : Mark). one (is_open m))
        (mark_in-with_marks (all_mark o stamp) o (o_long ∙ long) k in_o) in
        let less = auto_open stamp (best_live o (wish_in o.dossier.wishes k).candidate) (wish_in o.dossier.wishes k)
        (mark_in o.marks k) in
        let same = ap one (offer_at k (omega (arith, o_long))) in
        omega (arith, auto_at, less, same) in
        let k = found.0 in
        let is = found.1 in
        let in_c : k < length c.marks = omega (arith, is.in_range, c_long, o_long, long) in
        one_less c.marks s.marks (c_long ∙ o_long) at k in_c (ap is_open_status is.refused)
        (sym (offer_at k (omega (arith, in_c, c_long, o_long))) ∙ live_open (mark_in o.marks k) is.lived)

pub open_at_most : (s : State) → length s.marks ≡ length s.dossier.wishes → open_wishes s ≤ length s.dossier.wishes
open_at_most s long = omega (arith, count_by-le-length is_open s.marks, long)

pub closed_long : (s close : State) (orders : List CallOrder) (bars : List ℕ) (stamp : Stamp)
    → length s.marks ≡ length s.dossier.wishes
    → close ≡ closing s orders bars stamp → length close.marks ≡ length close.dossier.wishes
closed_long s close orders bars stamp long close_is =
    let o = offered s orders bars stamp in
    let f = λ (w : Wish) (m : Mark). if is_proposed s orders bars w m then changed_to Offered stamp m else m in
    let o_long : length o.marks ≡ length s.marks = length-with_marks f s long in
    rw close_is (length-with_marks (all_mark o stamp) o (o_long ∙ long) ∙ o_long ∙ long)

-- the opening after a pass is of the dossier of its closing
pub next_dossier : (all : Freed) (opening close next : State) → next ≡ opening_after all opening close
    → opening.dossier ≡ close.dossier → next.dossier ≡ close.dossier
next_dossier all opening close next next_is same =
    ap (λ (t : State). t.dossier) next_is ∙ either (frees_nothing all)
  where
    either : (last : Bool) → (if last then opening else close).dossier ≡ close.dossier
    either true = same
    either false = refl
