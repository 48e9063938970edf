-- What a change of a mark leads to.
use Rattle.std.proofs.Common.{ℕ, ◌≡◌, Bool, true, false, cond, inl, inr, refl, sym, ◌∙◌, ap, nat_eq, Some}
use Rattle.std.specs.Prelude.{◌==◌, nat_lt}
use Rattle.std.proofs.lemmas.Bool.{cases_Bool, eqb-true}
use Rattle.admit_core.specs.declared.dossier.Wish.{Wish}
use Rattle.admit_core.specs.declared.state.Mark.{Mark}
use Rattle.admit_core.specs.declared.state.Stamp.{Stamp}
use Rattle.admit_core.specs.declared.state.Status.{Status}
use Rattle.admit_core.specs.declared.state.Status.TheVariants.{Waiting, Offered, Accepted, Refused, Withdrawn, Quit}
use Rattle.admit_core.specs.declared.state.Status.TheVariants.{AutoRefused, AutoWithdrawn, Lapsed}
use Rattle.admit_core.specs.State.{is_live_status, is_waiting_status, status_number, changed_to}
use Rattle.admit_core.specs.AutoAnswer.{auto_mark, auto_status}

-- statuses with one number are one
numbered : ℕ → Status
numbered n =
    cond (nat_eq n 0) Waiting
    (cond (nat_eq n 1) Offered (cond (nat_eq n 2) Accepted (cond (nat_eq n 3) Refused (cond (nat_eq n 4) Withdrawn
    (cond (nat_eq n 5) Quit (cond (nat_eq n 6) AutoRefused (cond (nat_eq n 7) AutoWithdrawn Lapsed)))))))

numbered-number : (x : Status) → numbered (status_number x) ≡ x
unfolding numbered
numbered-number Waiting = refl
numbered-number Offered = refl
numbered-number Accepted = refl
numbered-number Refused = refl
numbered-number Withdrawn = refl
numbered-number Quit = refl
numbered-number AutoRefused = refl
numbered-number AutoWithdrawn = refl
numbered-number Lapsed = refl

-- a mark gets the status that it is changed to
pub changed_status : (x : Status) (stamp : Stamp) (m : Mark) → (changed_to x stamp m).status ≡ x
changed_status x stamp m =
    elim (cases_Bool (status_number m.status == status_number x)) [
      | inl same ↦ rw same (sym (numbered-number m.status) ∙ ap numbered
          (eqb-true (status_number m.status) (status_number x) same) ∙ numbered-number x)
      | inr other ↦ rw other refl
    ]

-- automatic answers make no wish live, and none wait
pub live_before_answer : (x : Status) (is_best is_behind : Bool)
    → is_live_status (auto_status x is_best is_behind) ≡ true → is_live_status x ≡ true
live_before_answer Waiting is_best true live = absurd (cc)
live_before_answer Waiting is_best false live = absurd (cc)
live_before_answer Offered true is_behind live = refl
live_before_answer Offered false is_behind live = refl
live_before_answer Accepted true is_behind live = refl
live_before_answer Accepted false is_behind live = refl
live_before_answer Refused is_best is_behind live = absurd (cc)
live_before_answer Withdrawn is_best is_behind live = absurd (cc)
live_before_answer Quit is_best is_behind live = absurd (cc)
live_before_answer AutoRefused is_best is_behind live = absurd (cc)
live_before_answer AutoWithdrawn is_best is_behind live = absurd (cc)
live_before_answer Lapsed is_best is_behind live = absurd (cc)

pub waiting_before_answer : (x : Status) (is_best is_behind : Bool)
    → is_waiting_status (auto_status x is_best is_behind) ≡ true → is_waiting_status x ≡ true
waiting_before_answer Waiting is_best true waits = refl
waiting_before_answer Waiting is_best false waits = refl
waiting_before_answer Offered true is_behind waits = absurd (cc)
waiting_before_answer Offered false is_behind waits = absurd (cc)
waiting_before_answer Accepted true is_behind waits = absurd (cc)
waiting_before_answer Accepted false is_behind waits = absurd (cc)
waiting_before_answer Refused is_best is_behind waits = absurd (cc)
waiting_before_answer Withdrawn is_best is_behind waits = absurd (cc)
waiting_before_answer Quit is_best is_behind waits = absurd (cc)
waiting_before_answer AutoRefused is_best is_behind waits = absurd (cc)
waiting_before_answer AutoWithdrawn is_best is_behind waits = absurd (cc)
waiting_before_answer Lapsed is_best is_behind waits = absurd (cc)

-- what is accepted after an automatic answer is the best
pub accepted_is_best : (x : Status) (is_best is_behind : Bool) → auto_status x is_best is_behind ≡ Accepted
    → is_best ≡ true
accepted_is_best Waiting is_best true accepted = absurd (cc)
accepted_is_best Waiting is_best false accepted = absurd (cc)
accepted_is_best Offered true is_behind accepted = refl
accepted_is_best Offered false is_behind accepted = absurd (cc)
accepted_is_best Accepted true is_behind accepted = refl
accepted_is_best Accepted false is_behind accepted = absurd (cc)
accepted_is_best Refused is_best is_behind accepted = absurd (cc)
accepted_is_best Withdrawn is_best is_behind accepted = absurd (cc)
accepted_is_best Quit is_best is_behind accepted = absurd (cc)
accepted_is_best AutoRefused is_best is_behind accepted = absurd (cc)
accepted_is_best AutoWithdrawn is_best is_behind accepted = absurd (cc)
accepted_is_best Lapsed is_best is_behind accepted = absurd (cc)

-- a live wish that is live no longer was given up
pub given_up_by_answer : (x : Status) (is_best is_behind : Bool) → is_live_status x ≡ true
    → is_live_status (auto_status x is_best is_behind) ≡ false
    → auto_status x is_best is_behind ≡ AutoRefused
given_up_by_answer Waiting is_best is_behind live gone = absurd (cc)
given_up_by_answer Offered true is_behind live gone = absurd (cc)
given_up_by_answer Offered false is_behind live gone = refl
given_up_by_answer Accepted true is_behind live gone = absurd (cc)
given_up_by_answer Accepted false is_behind live gone = refl
given_up_by_answer Refused is_best is_behind live gone = absurd (cc)
given_up_by_answer Withdrawn is_best is_behind live gone = absurd (cc)
given_up_by_answer Quit is_best is_behind live gone = absurd (cc)
given_up_by_answer AutoRefused is_best is_behind live gone = absurd (cc)
given_up_by_answer AutoWithdrawn is_best is_behind live gone = absurd (cc)
given_up_by_answer Lapsed is_best is_behind live gone = absurd (cc)

-- the status that an automatic answer leads to
pub status_of_auto : (stamp : Stamp) (best : Wish × Mark) (w : Wish) (m : Mark)
    → (auto_mark stamp (Some best) w m).status
    ≡ auto_status m.status (w.preference == best.0.preference) (nat_lt best.0.preference w.preference)
status_of_auto stamp best w m =
    changed_status (auto_status m.status (w.preference == best.0.preference) (nat_lt best.0.preference w.preference))
    stamp m

pub waiting_is : (x : Status) → is_waiting_status x ≡ true → x ≡ Waiting
waiting_is Waiting t = refl
waiting_is Offered t = absurd (cc)
waiting_is Accepted t = absurd (cc)
waiting_is Refused t = absurd (cc)
waiting_is Withdrawn t = absurd (cc)
waiting_is Quit t = absurd (cc)
waiting_is AutoRefused t = absurd (cc)
waiting_is AutoWithdrawn t = absurd (cc)
waiting_is Lapsed t = absurd (cc)
