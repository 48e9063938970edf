-- What is gone stays gone, and what is live never waits again.
use Rattle.std.proofs.Common.{ℕ, ◌≡◌, Bool, true, false, List, [], ◌∷◌, length, Option, Some, inl, inr, refl, sym, ◌∙◌}
use Rattle.std.proofs.Common.{ap, subst}
use Rattle.std.specs.Prelude.{AllPairs}
use Rattle.std.specs.List.{AllZip}
use Rattle.std.proofs.lemmas.Bool.{cases_Bool, false≢true}
use Rattle.admit_core.specs.declared.dossier.Answer.{Answer}
use Rattle.admit_core.specs.declared.dossier.Wish.{Wish}
use Rattle.admit_core.specs.declared.ranking.CallOrder.{CallOrder}
use Rattle.admit_core.specs.declared.records.DayRecord.{DayRecord}
use Rattle.admit_core.specs.declared.records.Terms.{Terms}
use Rattle.admit_core.specs.declared.state.Mark.{Mark}
use Rattle.admit_core.specs.declared.state.Stamp.{Stamp}
use Rattle.admit_core.specs.declared.state.Status.{Status}
use Rattle.admit_core.specs.declared.state.Status.TheVariants.{Waiting, Offered, Accepted, Refused, Withdrawn, Quit}
use Rattle.admit_core.specs.declared.state.Status.TheVariants.{AutoRefused, AutoWithdrawn, Lapsed}
use Rattle.admit_core.specs.Answers.{after}
use Rattle.admit_core.specs.AutoAnswer.{auto_all}
use Rattle.admit_core.specs.Days.{Days, offered}
use Rattle.admit_core.specs.DossierRows.{DossierRows}
use Rattle.admit_core.specs.Lapses.{AreTermsFor, lapse}
use Rattle.admit_core.specs.State.{State, entries, is_gone, is_live, is_live_status, is_waiting, is_waiting_status}
use Rattle.admit_core.proofs.Statuses.{changed_status}
use Rattle.campaign_laws.specs.Moments.{Opening, moments}
use Rattle.campaign_laws.specs.OneMark.{GoneStaysGone, HasLaterMark, IsLater, IsLaterMark}
use Rattle.campaign_laws.proofs.OneMark.{IsTouched, KeptOrLapsed, KeptOrOffered, KeptOrTouched, Marks, OfOneWish}
use Rattle.campaign_laws.proofs.OneMark.{TouchedOf, a_lapse, an_answer, automatic_answers, lapsed_touched, marks_imply}
use Rattle.campaign_laws.proofs.OneMark.{of_kind, offers_of_a_pass, proposed_open, waiting_not_gone}
use Rattle.campaign_laws.proofs.Walks.{Nothing, SameDossier, Steps, any_two, both, plain_steps, same_dossier}

differs : {P : Type 0} (b : Bool) → b ≡ false → b ≡ true → P
differs b fails holds = absurd (false≢true (sym fails ∙ holds))

pub live_waits_not : (x : Status) → is_live_status x ≡ true → is_waiting_status x ≡ false
live_waits_not Waiting live = absurd (cc)
live_waits_not Offered live = refl
live_waits_not Accepted live = refl
live_waits_not Refused live = refl
live_waits_not Withdrawn live = refl
live_waits_not Quit live = refl
live_waits_not AutoRefused live = refl
live_waits_not AutoWithdrawn live = refl
live_waits_not Lapsed live = refl

pub later_refl : (m : Mark) → IsLaterMark m m
later_refl m = record { gone_stays = λ e. refl; never_again = live_waits_not m.status; waited = λ e. refl }

later_kept : (m n : Mark) → n ≡ m → IsLaterMark m n
later_kept m n same = subst (IsLaterMark m) (sym same) (later_refl m)

later_touched : (m n : Mark) → IsTouched m n → IsLaterMark m n
later_touched m n touched = record {
  gone_stays = λ gone. differs (is_gone m) touched.not_gone gone;
  never_again = λ live. touched.not_waiting;
  waited = λ waits. differs (is_waiting n) touched.not_waiting waits;
}

later_either : (w : Wish) (m n : Mark) → KeptOrTouched w m n → IsLaterMark m n
later_either w m n (inl kept) = later_kept m n kept
later_either w m n (inr touched) = later_touched m n touched

later_answered : (c : ℕ) (w : Wish) (m n : Mark) → TouchedOf c w m n → IsLaterMark m n
later_answered c w m n (inl kept) = later_kept m n kept
later_answered c w m n (inr own) = later_touched m n own.1

later_offered : (s : State) (orders : List CallOrder) (bars : List ℕ) (stamp : Stamp) (w : Wish) (m n : Mark)
    → KeptOrOffered s orders bars stamp w m n → IsLaterMark m n
later_offered s orders bars stamp w m n (inl kept) = later_kept m n kept.1
later_offered s orders bars stamp w m n (inr given) =
    let waits = (proposed_open s orders bars w m given.0).0 in
    let waits_not : is_waiting n ≡ false = ap is_waiting given.1
    ∙ ap is_waiting_status (changed_status Offered stamp m) in
    record {
      gone_stays = λ gone. differs (is_gone m) (waiting_not_gone (is_live m) (is_waiting m) waits) gone;
      never_again = λ live. waits_not;
      waited = λ again. differs (is_waiting n) waits_not again;
    }

pub later_join : (l m n : Mark) → IsLaterMark l m → IsLaterMark m n → IsLaterMark l n
later_join l m n first second = record {
  gone_stays = λ gone. let same = first.gone_stays gone in second.gone_stays (ap is_gone same ∙ gone) ∙ same;
  never_again = λ live.
      elim (cases_Bool (is_waiting n)) [
        | inl waits ↦ differs (is_waiting n) (ap is_waiting (second.waited waits) ∙ first.never_again live) waits
        | inr none ↦ none
      ];
  waited = λ waits. let same = second.waited waits in same ∙ first.waited (ap is_waiting (sym same) ∙ waits);
}

-- with the wish
as_entries : (xs ys : List (Wish × Mark)) → AllZip (OfOneWish (λ w m n. IsLaterMark m n)) xs ys
    → AllZip HasLaterMark xs ys
as_entries [] [] all = tt
as_entries [] (y ∷ ys) all = absurd all
as_entries (x ∷ xs) [] all = absurd all
as_entries (x ∷ xs) (y ∷ ys) all = (record { wish = all.0.0; mark = all.0.1 }, as_entries xs ys all.1)

same_entries : (xs : List (Wish × Mark)) → AllZip HasLaterMark xs xs
same_entries [] = tt
same_entries (x ∷ xs) = (record { wish = refl; mark = later_refl x.1 }, same_entries xs)

joined_entries : (xs ys zs : List (Wish × Mark)) → AllZip HasLaterMark xs ys → AllZip HasLaterMark ys zs
    → AllZip HasLaterMark xs zs
joined_entries [] [] zs first second = second
joined_entries [] (y ∷ ys) zs first second = absurd first
joined_entries (x ∷ xs) [] zs first second = absurd first
joined_entries (x ∷ xs) (y ∷ ys) [] first second = absurd second
joined_entries (x ∷ xs) (y ∷ ys) (z ∷ zs) first second = (
  record { wish = second.0.wish ∙ first.0.wish; mark = later_join x.1 y.1 z.1 first.0.mark second.0.mark },
  joined_entries xs ys zs first.1 second.1,
)

pub later : (T : Wish → Mark → Mark → Type 0) (s t : State) → ((w : Wish) (m n : Mark) → T w m n → IsLaterMark m n)
    → Marks T s t → IsLater s t
later T s t each marks =
    as_entries (entries s) (entries t) (marks_imply T (λ w m n. IsLaterMark m n) each (entries s) (entries t) marks)

pub terms_long : (d : DossierRows) (terms : Option Terms) (t : Terms) → AreTermsFor d terms → terms ≡ Some t
    → length t.before ≡ length d.wishes
terms_long d terms t fit is = let here : AreTermsFor d (Some t) = subst (AreTermsFor d) is fit in here

pub later_steps : (d : DossierRows) (terms : Option Terms) (orders : List CallOrder) (Q : Opening → Type 0)
    (A : Answer → Type 0) → AreTermsFor d terms → Steps d terms orders Q A IsLater
later_steps d terms orders Q A fit = record {
  stays = λ s. same_entries (entries s);
  lapses = λ t day s is of. later KeptOrLapsed s (lapse t day s)
      (λ w m n kept. later_either w m n (lapsed_touched w m n kept))
      (a_lapse t day s (terms_long d terms t fit is ∙ ap (λ (x : DossierRows). length x.wishes) (sym of)));
  answers = λ s stamp a of fits_here known. later (TouchedOf (of_kind a.kind s a.target)) s (after s stamp a)
      (later_answered (of_kind a.kind s a.target)) (an_answer s stamp a fits_here);
  offers = λ s day bars stamp of greatest known. later (KeptOrOffered s orders bars stamp) s
      (offered s orders bars stamp) (later_offered s orders bars stamp) (offers_of_a_pass s orders bars stamp);
  autos = λ s stamp of. later KeptOrTouched s (auto_all s stamp) later_either (automatic_answers s stamp);
}

-- THE LAW
pub gone_stays_gone : GoneStaysGone
gone_stays_gone terms orders d old days new fit are =
    any_two IsLater (λ a b c first second. joined_entries (entries a) (entries b) (entries c) first second) old
    (moments terms orders old days) new
    (plain_steps terms orders IsLater d old days new (later_steps old.dossier terms orders Nothing Nothing fit) are)

-- with the dossier, which stays
abbrev pub IsLaterOf : State → State → Type 0
IsLaterOf s t = SameDossier s t × IsLater s t

pub later_of_steps : (d : DossierRows) (terms : Option Terms) (orders : List CallOrder) (Q : Opening → Type 0)
    (A : Answer → Type 0) → AreTermsFor d terms → Steps d terms orders Q A IsLaterOf
later_of_steps d terms orders Q A fit = both d terms orders Q A SameDossier IsLater (same_dossier d terms orders Q A)
    (later_steps d terms orders Q A fit)

pub two_moments : (terms : Option Terms) (orders : List CallOrder) (d : ℕ) (old : State) (days : List DayRecord)
    (new : State)
    → AreTermsFor old.dossier terms → Days terms orders d old days new
    → AllPairs IsLaterOf (old ∷ moments terms orders old days)
two_moments terms orders d old days new fit are =
    any_two IsLaterOf
    (λ a b c first second.
    (second.0 ∙ first.0, joined_entries (entries a) (entries b) (entries c) first.1 second.1)) old
    (moments terms orders old days) new
    (plain_steps terms orders IsLaterOf d old days new (later_of_steps old.dossier terms orders Nothing Nothing fit)
    are)
