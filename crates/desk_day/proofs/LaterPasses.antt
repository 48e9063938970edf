-- Where all have been answered for but those who have one of some wishes, only they and those with an offer are
-- answered for, and change.
use Rattle.std.proofs.Common.{ℕ, ◌<◌, ◌≡◌, true, false, List, [], ◌∷◌, ◌++◌, arith, map, length, inl, inr, refl, sym}
use Rattle.std.proofs.Common.{◌∙◌, ap}
use Rattle.std.proofs.Common.{subst, nat_eq}
use Rattle.std.specs.Prelude.{All, if◌then◌else◌}
use Rattle.std.proofs.lemmas.Bool.{cases_Bool, eqb-true, false≢true, or_parts}
use Rattle.std.proofs.lemmas.List.{map-append}
use Rattle.std.proofs.lemmas.List.Folds.{list_any-append}
use Rattle.admit_core.specs.declared.ranking.CallOrder.{CallOrder}
use Rattle.admit_core.specs.declared.dossier.Wish.{Wish}
use Rattle.admit_core.specs.declared.state.Status.TheVariants.{Offered}
use Rattle.admit_core.specs.declared.state.Mark.{Mark}
use Rattle.admit_core.specs.declared.state.Stamp.{Stamp}
use Rattle.admit_core.specs.DossierRows.{DossierRows, candidate_of}
use Rattle.admit_core.specs.Lists.{is_among}
use Rattle.admit_core.specs.State.{State, entries, changed_to}
use Rattle.admit_core.specs.Proposals.{is_proposed, proposed}
use Rattle.admit_core.specs.AutoAnswer.{auto_all}
use Rattle.admit_core.specs.Days.{offered}
use Rattle.admit_core.proofs.Tests.{among-map}
use Rattle.day_state.specs.Kept.{mark_in}
use Rattle.day_state.specs.Along.{change_along}
use Rattle.day_state.proofs.Along.{along_at, length-with_marks, same_marks, same_state}
use Rattle.day_state.proofs.Independence.{Agrees}
use Rattle.day_state.proofs.Places.{candidate_in}
use Rattle.day_state.specs.Others.{SameOthers, SameOwnMarks}
use Rattle.auto_answer.specs.Laws.{AreAnsweredBut}
use Rattle.auto_answer.proofs.Answering.{all_mark, turned, joined, all_both}
use Rattle.auto_answer.proofs.LawsOfAnswers.{agrees, same_own}
use Rattle.round.proofs.Offering.{apart_places, offers_made, proposed_are_wishes}
use Rattle.desk_day.specs.DayPasses.{IsAnswered, IsAnsweredBut, offered_along}

-- who is in or_parts of two lists
pub in_neither : (f : ℕ → ℕ) (c : ℕ) (xs ys : List ℕ) → is_among c (map f (xs ++ ys)) ≡ false
    → (is_among c (map f xs) ≡ false) × (is_among c (map f ys) ≡ false)
in_neither f c xs ys none =
    or_parts (is_among c (map f xs)) (is_among c (map f ys))
    (sym (ap (is_among c) (map-append f xs ys) ∙ list_any-append (nat_eq c) (map f xs) (map f ys)) ∙ none)

module _ (s : State) (orders : List CallOrder) (bars : List ℕ) (stamp : Stamp)
    (long : length s.marks ≡ length s.dossier.wishes) where
  abbrev after : State
  after = offered s orders bars stamp

  abbrev offer : Wish → Mark → Mark
  offer w m = if is_proposed s orders bars w m then changed_to Offered stamp m else m

  -- whoever has no offer keeps their marks in the pass
  not_offered : (c : ℕ) → is_among c (map (candidate_of s.dossier) (proposed s orders bars)) ≡ false → Agrees c s after
  not_offered c none = record {
    dossier = refl;
    long = long;
    long_too = length-with_marks offer s long ∙ long;
    same = λ k lt own.
        let ks = proposed s orders bars in
        let give = λ (w : Wish) (m : Mark). changed_to Offered stamp m in
        elim (cases_Bool (is_among k ks)) [
          | inl made ↦
              let c_is : candidate_of s.dossier k ≡ c = candidate_in s.dossier.wishes k ∙ own in
              absurd (false≢true (sym none ∙ rw c_is at (among-map (candidate_of s.dossier) k ks made)))
          | inr other ↦
              let within : All (λ j. j < length s.marks) ks = rw long (proposed_are_wishes s orders bars) in
              let apart = apart_places (λ (e : Wish × Mark). is_proposed s orders bars e.0 e.1) 0 (entries s) in
              let given : mark_in (change_along give ks s).marks k ≡ mark_in s.marks k =
              along_at give ks s apart within k
              ∙ rw other refl in
              sym given ∙ ap (λ (t : State). mark_in t.marks k) (offers_made s orders bars stamp long)
        ];
  }

  -- and in the automatic answers that follow it, where they had been answered for
  not_changed : (c : ℕ) → SameOwnMarks c s (auto_all s stamp)
      → is_among c (map (candidate_of s.dossier) (proposed s orders bars)) ≡ false
      → Agrees c s (auto_all after stamp)
  not_changed c answered none =
      joined c s (auto_all s stamp) (auto_all after stamp)
      (agrees c s (auto_all s stamp) long (length-with_marks (all_mark s stamp) s long ∙ long) answered)
      (all_both c s after stamp (not_offered c none))

  module _ (beside : List ℕ) (answered : AreAnsweredBut beside s stamp) where
    others_answered : AreAnsweredBut (beside ++ proposed s orders bars) after stamp
    others_answered c none =
        let parts = in_neither (candidate_of s.dossier) c beside (proposed s orders bars) none in
        same_own c after (auto_all after stamp)
        (joined c after s (auto_all after stamp) (turned c s after (not_offered c parts.1))
        (not_changed c (answered c parts.0) parts.1))

    others_same : SameOthers (beside ++ proposed s orders bars) s (auto_all after stamp)
    others_same c none =
        let parts = in_neither (candidate_of s.dossier) c beside (proposed s orders bars) none in
        same_own c s (auto_all after stamp) (not_changed c (answered c parts.0) parts.1)

-- the same of the states and the offers that a pass has left
pub offers_within : (s t : State) (orders : List CallOrder) (bars offers : List ℕ) → t.dossier ≡ s.dossier
    → offers ≡ proposed s orders bars
    → All (λ k. k < length t.dossier.wishes) offers
offers_within s t orders bars offers same are = rw (same, are) (proposed_are_wishes s orders bars)

pub answered_but : (s off : State) (orders : List CallOrder) (bars beside offers asked : List ℕ) (stamp : Stamp)
    → length s.marks ≡ length s.dossier.wishes
    → off ≡ offered s orders bars stamp → offers ≡ proposed s orders bars → asked ≡ beside ++ offers
    → AreAnsweredBut beside s stamp
    → AreAnsweredBut asked off stamp
answered_but s off orders bars beside offers asked stamp long off_is are asked_are answered =
    rw (off_is, asked_are, are) (others_answered s orders bars stamp long beside answered)

pub same_but : (s off close opening : State) (orders : List CallOrder) (bars beside offers asked : List ℕ)
    (stamp : Stamp)
    → length s.marks ≡ length s.dossier.wishes
    → off ≡ offered s orders bars stamp → close ≡ auto_all off stamp → opening ≡ s → offers ≡ proposed s orders bars
    → asked ≡ beside ++ offers
    → AreAnsweredBut beside s stamp → SameOthers asked opening close
same_but s off close opening orders bars beside offers asked stamp long off_is close_is opening_is are asked_are
    answered =
    rw (opening_is, close_is, off_is, asked_are, are) (others_same s orders bars stamp long beside answered)

-- the opening of a pass, and what its steps lead to
pub offered_there : (s opening : State) (orders : List CallOrder) (bars offers : List ℕ) (stamp : Stamp)
    → length s.marks ≡ length s.dossier.wishes
    → opening ≡ s → offers ≡ proposed s orders bars → offered_along offers stamp opening ≡ offered s orders bars stamp
offered_there s opening orders bars offers stamp long opening_is are =
    rw (opening_is, are) (offers_made s orders bars stamp long)

-- where all have been answered for, no wish has to be named
pub answered_all : (s : State) → IsAnswered s → (none : List ℕ) → IsAnsweredBut none s
answered_all s answered none stamp c apart =
    subst (λ (t : State). SameOwnMarks c s t) (sym (answered stamp))
    (record { dossier = refl; each = λ place lt own. refl })

pub no_items : {X : Type 0} (xs : List X) → nat_eq (length xs) 0 ≡ true → xs ≡ []
no_items [] none = refl
no_items (x ∷ xs) none = absurd (omega (arith, eqb-true (length (x ∷ xs)) 0 none))

-- where nobody is left out, two states are one
pub nobody_differs : (s t : State) (none : List ℕ) → length s.marks ≡ length s.dossier.wishes
    → length t.marks ≡ length t.dossier.wishes → t.dossier ≡ s.dossier → none ≡ [] → SameOthers none s t → t ≡ s
nobody_differs s t none long long_too same empty others =
    let as_long : length t.marks ≡ length s.marks =
    long_too ∙ ap (λ (d : DossierRows). length d.wishes) same ∙ sym long in
    same_state t s same (same_marks t.marks s.marks as_long (λ k lt.
    let c = candidate_of s.dossier k in
    let k_in : k < length s.dossier.wishes = omega (arith, as_long, long, lt) in
    let own : SameOwnMarks c s t =
    others c (ap (λ (ks : List ℕ). is_among c (map (candidate_of s.dossier) ks)) empty) in
    sym (own.each k k_in refl)))

-- and all have been answered for
pub settled : (s : State) (beside : List ℕ) → length s.marks ≡ length s.dossier.wishes → beside ≡ []
    → IsAnsweredBut beside s → IsAnswered s
settled s beside long none answered stamp =
    let t = auto_all s stamp in
    nobody_differs s t beside long (length-with_marks (all_mark s stamp) s long ∙ long) refl none (answered stamp)
