-- Whoever has no offer that lapses and does not answer keeps their marks until the passes of a day begin.
use Rattle.std.proofs.Common.{ℕ, ◌+◌, ◌<◌, ◌≡◌, true, false, List, [], ◌∷◌, ◌++◌, Option, None, Some, map, length}
use Rattle.std.proofs.Common.{filter, inl, inr, refl, sym, ◌∙◌, ap, subst, arith, nat_eq, take, zip}
use Rattle.std.specs.Prelude.{ℤ, pos, ◌==◌, All, slice_index_or}
use Rattle.std.specs.List.{enumerate_from, flat_map}
use Rattle.std.proofs.lemmas.Bool.{cases_Bool, eqb-true, eq-eqb, false≢true, or_left}
use Rattle.std.proofs.lemmas.List.Concat.{flat_map-cons}
use Rattle.std.proofs.lemmas.List.Elements.{All-append, All-cons, All-head, All-map, All-nil, All-tail, All-take}
use Rattle.std.proofs.lemmas.Option.{unwrap_or-slice_get}
use Rattle.std.proofs.lemmas.Slice.Zip.{length-zip, get_or-zip}
use Rattle.admit_core.specs.declared.dossier.Answer.{Answer}
use Rattle.admit_core.specs.declared.dossier.AnswerKind.{AnswerKind}
use Rattle.admit_core.specs.declared.dossier.AnswerKind.TheVariants.{Accept, Refuse, Withdraw, Quit}
use Rattle.admit_core.specs.declared.records.Lapse.{Lapse}
use Rattle.admit_core.specs.declared.records.Terms.{Terms}
use Rattle.admit_core.specs.declared.state.Mark.{Mark}
use Rattle.admit_core.specs.Answers.{after_all, candidate_at, is_own_kind, own}
use Rattle.admit_core.specs.AutoAnswer.{auto_all}
use Rattle.admit_core.specs.Days.{after_lapse, answers_of, lapsed_on, morning}
use Rattle.admit_core.specs.DossierRows.{DossierRows, candidate_of}
use Rattle.admit_core.specs.Lapses.{AreTermsFor, lapse, lapses, lapses_of}
use Rattle.admit_core.specs.Lists.{is_among}
use Rattle.admit_core.specs.OwnWishes.{own_places}
use Rattle.admit_core.specs.State.{State}
use Rattle.admit_core.specs.Validity.{IsTarget}
use Rattle.admit_core.proofs.Tests.{among-map}
use Rattle.auto_answer.proofs.Answering.{turned, joined, all_both}
use Rattle.auto_answer.proofs.LawsOfAnswers.{same_own}
use Rattle.day_state.specs.Kept.{mark_in}
use Rattle.day_state.specs.Others.{SameOthers}
use Rattle.day_state.proofs.Along.{among-filter}
use Rattle.day_state.proofs.Change.{own_within}
use Rattle.day_state.proofs.Independence.{Agrees, agrees_self, agrees_after}
use Rattle.day_state.proofs.Lapsing.{lapse_at, length-lapse}
use Rattle.day_state.proofs.Places.{candidate_in}
use Rattle.round.proofs.Offering.{among_places}
use Rattle.desk_day.specs.DayPasses.{IsAnswered, IsAnsweredBut, stamp_of}
use Rattle.desk_day.specs.DayPlaces.{AreWishesOf}
use Rattle.desk_day.specs.Touched.{touched, wishes_of_answer, wishes_of_kind}
use Rattle.desk_day.proofs.LapsedOffers.{lapse_of}
use Rattle.desk_day.proofs.LaterPasses.{in_neither}
use Rattle.desk_day.proofs.OnceEach.{own_same}
use Rattle.desk_day.proofs.SameDossier.{morning_dossier}

abbrev wishes_of : List Lapse → List ℕ
wishes_of ls = map (λ (l : Lapse). l.wish) ls

wishes_are : (xs : List (ℕ × (ℤ × Mark))) → wishes_of (map lapse_of xs) ≡ map (λ (x : ℕ × (ℤ × Mark)). x.0) xs
wishes_are [] = refl
wishes_are (x ∷ xs) = ap (λ (ns : List ℕ). x.0 ∷ ns) (wishes_are xs)

-- THE LAPSE names each wish whose offer ends
named_lapse : (terms : Terms) (day : ℕ) (s : State) (k : ℕ) → length terms.before ≡ length s.marks → k < length s.marks
    → lapses terms.term day (slice_index_or terms.before k (pos 0)) (mark_in s.marks k) ≡ true
    → is_among k (wishes_of (lapses_of terms day s)) ≡ true
named_lapse terms day s k long lt passes =
    let e : ℤ × Mark = (pos 0, mark_in [] 0) in
    let p = λ (x : ℤ × Mark). lapses terms.term day x.0 x.1 in
    let xs = zip terms.before s.marks in
    let none : 0 + k ≡ k = omega arith in
    ap (is_among k) (wishes_are (filter (λ (x : ℕ × (ℤ × Mark)). p x.1) (enumerate_from 0 xs)))
    ∙ (rw none at (among_places p 0 k xs e (omega (arith, length-zip terms.before s.marks, long))))
    ∙ ap p (get_or-zip terms.before s.marks k e (omega (arith, long)) lt)
    ∙ (rw (unwrap_or-slice_get s.marks k (mark_in [] 0)) at passes)

lapsed_other : (terms : Option Terms) (day c : ℕ) (s : State) → length s.marks ≡ length s.dossier.wishes
    → AreTermsFor s.dossier terms
    → is_among c (map (candidate_of s.dossier) (wishes_of (lapsed_on terms day s))) ≡ false
    → Agrees c s (after_lapse terms day s)
lapsed_other None day c s long each none = agrees_self c s long
lapsed_other (Some terms) day c s long each none =
    let before : length terms.before ≡ length s.marks = each ∙ sym long in
    let names = wishes_of (lapses_of terms day s) in
    record {
      dossier = refl;
      long = long;
      long_too = length-lapse terms day s before ∙ long;
      same = λ k lt mine.
          let k_in : k < length s.marks = omega (arith, long) in
          elim (cases_Bool (lapses terms.term day (slice_index_or terms.before k (pos 0)) (mark_in s.marks k))) [
            | inl passes ↦
                let c_is : candidate_of s.dossier k ≡ c = candidate_in s.dossier.wishes k ∙ mine in
                absurd (false≢true (sym none ∙ rw c_is at (among-map (candidate_of s.dossier) k names
                (named_lapse terms day s k before k_in passes))))
            | inr stays ↦ sym (unwrap_or-slice_get (lapse terms day s).marks k (mark_in [] 0)
                ∙ lapse_at terms day s before k k_in
                ∙ rw stays refl)
          ];
    }

-- THE ANSWERS: each names a wish of its candidate
named_target : (s : State) (c target : ℕ) → (candidate_at s target == c) ≡ true
    → is_among c (map (candidate_of s.dossier) (target ∷ [])) ≡ true
named_target s c target mine =
    or_left (nat_eq c (candidate_of s.dossier target)) false (eq-eqb c (candidate_of s.dossier target)
    (sym (eqb-true (candidate_at s target) c mine)))

-- the first wish of a candidate who has some names them
first_named : (d : DossierRows) (c target : ℕ) (own : List ℕ) → own ≡ own_places d target → target ≡ c → (k : ℕ)
    → is_among k own ≡ true → is_among c (map (candidate_of d) (take 1 own)) ≡ true
first_named d c target [] is same k here = absurd (false≢true here)
first_named d c target (j ∷ rest) is same k here =
    or_left (nat_eq c (candidate_of d j)) false (eq-eqb c (candidate_of d j)
    (sym ((own_same d target (j ∷ rest) is 0 (omega arith)).1 ∙ same)))

named_answer : (s : State) (kind : AnswerKind) (c target k : ℕ) → k < length s.dossier.wishes → candidate_at s k ≡ c
    → is_own_kind kind s c target ≡ true
    → is_among c (map (candidate_of s.dossier) (wishes_of_kind s.dossier kind target)) ≡ true
named_answer s Accept c target k lt its mine = named_target s c target mine
named_answer s Refuse c target k lt its mine = named_target s c target mine
named_answer s Withdraw c target k lt its mine = named_target s c target mine
named_answer s Quit c target k lt its mine =
    let d = s.dossier in
    let who : candidate_of d k ≡ target = its ∙ sym (eqb-true target c mine) in
    let here : is_among k (own_places d target) ≡ true =
    among-filter (λ (j : ℕ). candidate_of d j == target) k (length d.wishes) lt
    ∙ eq-eqb (candidate_of d k) target who in
    first_named d c target (own_places d target) refl (eqb-true target c mine) k here

none_own : (s : State) (c k : ℕ) (answers : List Answer) → k < length s.dossier.wishes → candidate_at s k ≡ c
    → is_among c (map (candidate_of s.dossier) (flat_map (wishes_of_answer s.dossier) answers)) ≡ false
    → own s c answers ≡ []
none_own s c k [] lt its none = refl
none_own s c k (a ∷ rest) lt its none =
    let d = s.dossier in
    let parts = in_neither (candidate_of d) c (wishes_of_answer d a) (flat_map (wishes_of_answer d) rest)
    (sym (ap (λ (l : List ℕ). is_among c (map (candidate_of d) l)) (flat_map-cons (wishes_of_answer d) a rest))
    ∙ none) in
    elim (cases_Bool (is_own_kind a.kind s c a.target)) [
      | inl mine ↦ absurd (false≢true (sym parts.0 ∙ named_answer s a.kind c a.target k lt its mine))
      | inr other ↦ rw other (none_own s c k rest lt its parts.1)
    ]

-- whoever has none of the wishes that are named keeps their marks
kept : (terms : Option Terms) (day c : ℕ) (s : State) (k : ℕ) → length s.marks ≡ length s.dossier.wishes
    → AreTermsFor s.dossier terms → k < length s.dossier.wishes → candidate_at s k ≡ c
    → is_among c (map (candidate_of s.dossier) (touched s.dossier (lapsed_on terms day s) day)) ≡ false
    → Agrees c s (morning terms day s)
kept terms day c s k long each lt its none =
    let d = s.dossier in
    let answers = answers_of d day in
    let parts = in_neither (candidate_of d) c (wishes_of (lapsed_on terms day s))
    (flat_map (wishes_of_answer d) answers) none in
    let l = after_lapse terms day s in
    let first : Agrees c s l = lapsed_other terms day c s long each parts.0 in
    let l_long : length l.marks ≡ length l.dossier.wishes = first.long_too
    ∙ ap (λ (x : DossierRows). length x.wishes) (sym first.dossier) in
    let back : Agrees c (morning terms day s) l =
    subst (λ (own_ones : List Answer). Agrees c (morning terms day s) (after_all l (stamp_of day 0) own_ones))
    (none_own s c k answers lt its parts.1)
    (agrees_after c s l l (stamp_of day 0) first.dossier (agrees_self c l l_long) answers) in
    joined c s l (morning terms day s) first (turned c (morning terms day s) l back)

lapse_long : (terms : Option Terms) (day : ℕ) (s : State) → length s.marks ≡ length s.dossier.wishes
    → AreTermsFor s.dossier terms
    → let l = after_lapse terms day s in (l.dossier ≡ s.dossier) × (length l.marks ≡ length l.dossier.wishes)
lapse_long None day s long each = (refl, long)
lapse_long (Some terms) day s long each = (refl, length-lapse terms day s (each ∙ sym long) ∙ long)

-- so the morning changes nobody else
others_kept : (terms : Option Terms) (day : ℕ) (s : State) → length s.marks ≡ length s.dossier.wishes
    → AreTermsFor s.dossier terms
    → SameOthers (touched s.dossier (lapsed_on terms day s) day) s (morning terms day s)
others_kept terms day s long each c none = record {
  dossier = morning_dossier terms day s;
  each = λ place lt its.
      (same_own c s (morning terms day s) (kept terms day c s place long each lt its none)).each place lt its;
}

untouched : (terms : Option Terms) (day : ℕ) (s : State) → length s.marks ≡ length s.dossier.wishes
    → AreTermsFor s.dossier terms → IsAnswered s
    → IsAnsweredBut (touched s.dossier (lapsed_on terms day s) day) (morning terms day s)
untouched terms day s long each answered stamp c none =
    let m = morning terms day s in
    let same = morning_dossier terms day s in
    record {
      dossier = refl;
      each = λ place lt its.
          let stays : Agrees c s m = kept terms day c s place long each (rw same at lt) (rw same at its)
          (rw same at none) in
          let end : Agrees c s (auto_all m stamp) =
          subst (λ (t : State). Agrees c t (auto_all m stamp)) (answered stamp)
          (all_both c s m stamp stays) in
          (same_own c m (auto_all m stamp) (joined c m s (auto_all m stamp) (turned c s m stays) end)).each place lt
          its;
    }

-- THE MORNING: all have been answered for but maybe those who are named
pub morning_answered : (terms : Option Terms) (day : ℕ) (s m : State) (lapsed : List Lapse) (beside : List ℕ)
    → length s.marks ≡ length s.dossier.wishes
    → AreTermsFor s.dossier terms → m ≡ morning terms day s → lapsed ≡ lapsed_on terms day s
    → beside ≡ touched m.dossier lapsed day → IsAnswered s → IsAnsweredBut beside m
morning_answered terms day s m lapsed beside long each m_is lapsed_is beside_is answered =
    let same : m.dossier ≡ s.dossier = ap (λ (t : State). t.dossier) m_is ∙ morning_dossier terms day s in
    let named : beside ≡ touched s.dossier (lapsed_on terms day s) day =
    beside_is ∙ ap (λ (d : DossierRows). touched d lapsed day) same
    ∙ ap (λ (ls : List Lapse). touched s.dossier ls day) lapsed_is in
    subst (λ (t : State). IsAnsweredBut beside t) (sym m_is)
    (subst (λ (ks : List ℕ). IsAnsweredBut ks (morning terms day s)) (sym named)
    (untouched terms day s long each answered))

pub morning_others : (terms : Option Terms) (day : ℕ) (s m : State) (lapsed : List Lapse) (beside : List ℕ)
    → length s.marks ≡ length s.dossier.wishes
    → AreTermsFor s.dossier terms → m ≡ morning terms day s → lapsed ≡ lapsed_on terms day s
    → beside ≡ touched m.dossier lapsed day → SameOthers beside s m
morning_others terms day s m lapsed beside long each m_is lapsed_is beside_is =
    let same : m.dossier ≡ s.dossier = ap (λ (t : State). t.dossier) m_is ∙ morning_dossier terms day s in
    let named : beside ≡ touched s.dossier (lapsed_on terms day s) day =
    beside_is ∙ ap (λ (d : DossierRows). touched d lapsed day) same
    ∙ ap (λ (ls : List Lapse). touched s.dossier ls day) lapsed_is in
    subst (λ (t : State). SameOthers beside s t) (sym m_is)
    (subst (λ (ks : List ℕ). SameOthers ks s (morning terms day s)) (sym named) (others_kept terms day s long each))

-- and those are wishes of the dossier
kind_within : (d : DossierRows) (kind : AnswerKind) (target : ℕ) → IsTarget d kind target
    → AreWishesOf d (wishes_of_kind d kind target)
kind_within d Accept target is = All-cons (λ (k : ℕ). k < length d.wishes) target [] is
    (All-nil (λ (k : ℕ). k < length d.wishes))
kind_within d Refuse target is = All-cons (λ (k : ℕ). k < length d.wishes) target [] is
    (All-nil (λ (k : ℕ). k < length d.wishes))
kind_within d Withdraw target is = All-cons (λ (k : ℕ). k < length d.wishes) target [] is
    (All-nil (λ (k : ℕ). k < length d.wishes))
kind_within d Quit target is = All-take (λ (k : ℕ). k < length d.wishes) 1 (own_places d target) (own_within d target)

answers_within : (d : DossierRows) (answers : List Answer) → All (λ (a : Answer). IsTarget d a.kind a.target) answers
    → AreWishesOf d (flat_map (wishes_of_answer d) answers)
answers_within d [] are = All-nil (λ (k : ℕ). k < length d.wishes)
answers_within d (a ∷ rest) are =
    let P = λ (x : Answer). IsTarget d x.kind x.target in
    rw (flat_map-cons (wishes_of_answer d) a rest) (All-append (λ (k : ℕ). k < length d.wishes) (wishes_of_answer d a)
    (flat_map (wishes_of_answer d) rest)
    (kind_within d a.kind a.target (All-head P a rest are)) (answers_within d rest (All-tail P a rest are)))

pub touched_within : (d : DossierRows) (lapsed : List Lapse) (answers : List Answer) (places : List ℕ)
    → All (λ (l : Lapse). l.wish < length d.wishes) lapsed
    → All (λ (a : Answer). IsTarget d a.kind a.target) answers
    → places ≡ wishes_of lapsed ++ flat_map (wishes_of_answer d) answers
    → AreWishesOf d places
touched_within d lapsed answers places within targets are =
    let P = λ (k : ℕ). k < length d.wishes in
    rw are (All-append P (wishes_of lapsed) (flat_map (wishes_of_answer d) answers)
    (All-map P (λ (l : Lapse). l.wish) lapsed within) (answers_within d answers targets))
