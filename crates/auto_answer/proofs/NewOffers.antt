-- Some candidates are answered for, at any of their wishes and maybe more than once; all others have been answered for.
use Rattle.std.proofs.Common.{ℕ, ◌+◌, ◌≤◌, ◌<◌, ◌^◌, ◌≡◌, true, false, not, ◌&&◌, ◌||◌, List, [], ◌∷◌, ◌++◌, map}
use Rattle.std.proofs.Common.{length, take, get_or, inl, inr, refl, sym, ◌∙◌, ap, arith, nat_eq, sum}
use Rattle.std.specs.Prelude.{if◌then◌else◌}
use Rattle.std.specs.List.{range_with_len}
use Rattle.std.proofs.lemmas.Bool.{cases_Bool, cases_eq, eq-eqb, ne_eqb, or_left, or_right, or_parts, false≢true}
use Rattle.std.proofs.lemmas.List.{length-map, map-append, take_more, take_all}
use Rattle.std.proofs.lemmas.List.Folds.{list_any-append}
use Rattle.std.proofs.lemmas.List.Sums.{sum_by-cons}
use Rattle.admit_core.proofs.Plain.{and_not, or_false}
use Rattle.admit_core.specs.declared.dossier.Wish.{Wish}
use Rattle.admit_core.specs.declared.state.Stamp.{Stamp}
use Rattle.admit_core.specs.declared.state.Freed.{Freed}
use Rattle.admit_core.specs.DossierRows.{DossierRows, candidate_of}
use Rattle.admit_core.specs.Lists.{is_among, distinct}
use Rattle.admit_core.specs.State.{State, holds_seat, holds_bed}
use Rattle.admit_core.specs.AutoAnswer.{auto_one, auto_all, seats_freed, beds_freed, freed_by, freed}
use Rattle.day_state.proofs.Along.{length-with_marks}
use Rattle.day_state.proofs.Independence.{Agrees, agrees_self}
use Rattle.day_state.proofs.Places.{candidate_in}
use Rattle.auto_answer.specs.AnsweredAt.{IsCount, answered_at, freed_at}
use Rattle.auto_answer.specs.Laws.{SameOwnMarks, AreAnsweredBut}
use Rattle.auto_answer.proofs.Again.{answered_once}
use Rattle.auto_answer.proofs.Answering.{all_mark, joined, one_other, one_here, same_freed, seats_of_all, beds_of_all}
use Rattle.auto_answer.proofs.Answering.{own_among, same_numbers}
use Rattle.auto_answer.proofs.Bounds.{count_none, few_seats, few_beds, wishers}
use Rattle.auto_answer.proofs.LawsOfAnswers.{agrees, all_agree}
use Rattle.auto_answer.proofs.Once.{total_again, total_new, total_at_most}

-- what is counted for those who are not among these
abbrev but : List ℕ → (ℕ → ℕ) → ℕ → ℕ
but done f c = if is_among c done then 0 else f c

-- over candidates of whom one is not: counts that are the same for all others
none_out : (g h : ℕ → ℕ) (x : ℕ) → ((c : ℕ) → (c ≡ x → ⊥) → g c ≡ h c) → (cs : List ℕ) → is_among x cs ≡ false
    → sum (map g (distinct cs)) ≡ sum (map h (distinct cs))
none_out g h x same [] none = refl
none_out g h x same (n ∷ ns) none =
    let parts = or_parts (nat_eq x n) (is_among x ns) none in
    let rest = none_out g h x same ns parts.1 in
    elim (cases_Bool (is_among n ns)) [
      | inl again ↦ omega (arith, total_again g n ns again, total_again h n ns again, rest)
      | inr new ↦
          let here : g n ≡ h n = same n (λ e. false≢true (sym parts.0 ∙ eq-eqb x n (sym e))) in
          omega (arith, total_new g n ns new, total_new h n ns new, rest, here)
    ]

-- and of whom one is: their count is taken out
one_out : (g h : ℕ → ℕ) (x : ℕ) → h x ≡ 0 → ((c : ℕ) → (c ≡ x → ⊥) → g c ≡ h c) → (cs : List ℕ) → is_among x cs ≡ true
    → sum (map g (distinct cs)) ≡ g x + sum (map h (distinct cs))
one_out g h x gone same [] some = absurd (cc)
one_out g h x gone same (n ∷ ns) some =
    elim (cases_Bool (is_among n ns)) [
      | inl again ↦
          let rest = one_out g h x gone same ns (elim (cases_eq x n) [
            | inl is ↦ rw is again
            | inr other ↦ rw (ne_eqb x n other) at some
          ]) in
          omega (arith, total_again g n ns again, total_again h n ns again, rest)
      | inr new ↦ elim (cases_eq x n) [
        | inl is ↦
            let rest = none_out g h x same ns (rw is new) in
            let first : g n ≡ g x = ap g (sym is) in
            let last : h n ≡ 0 = ap h (sym is) ∙ gone in
            omega (arith, total_new g n ns new, total_new h n ns new, rest, first, last)
        | inr other ↦
            let rest = one_out g h x gone same ns (rw (ne_eqb x n other) at some) in
            let here : g n ≡ h n = same n (λ e. other (sym e)) in
            omega (arith, total_new g n ns new, total_new h n ns new, rest, here)
      ]
    ]

sum_none : (f : ℕ → ℕ) → ((c : ℕ) → f c ≡ 0) → (cs : List ℕ) → sum (map f cs) ≡ 0
sum_none f none [] = refl
sum_none f none (c ∷ cs) = omega (arith, sum_by-cons (λ (x : ℕ). x) (f c) (map f cs), none c, sum_none f none cs)

-- where nothing changes nothing is freed
same_frees : (s : State) (c : ℕ) → freed_by s s c ≡ record { seats = 0; beds = 0 }
same_frees s c =
    same_numbers (freed_by s s c) (record { seats = 0; beds = 0 })
    (count_none (λ p. holds_seat s c p && not (holds_seat s c p)) (λ p. and_not (holds_seat s c p))
    (range_with_len 0 (length s.dossier.programmes)))
    (count_none (λ h. holds_bed s c h && not (holds_bed s c h)) (λ h. and_not (holds_bed s c h))
    (range_with_len 0 (length s.dossier.schools)))

-- those in the list have been answered for, the others not yet
pub record AreAnswered (start now : State) (stamp : Stamp) (cs : List ℕ) (all : Freed) : Type 0 where
  pub long : length start.marks ≡ length start.dossier.wishes
  pub done : (c : ℕ) → is_among c cs ≡ true → Agrees c now (auto_all start stamp)
  pub waits : (c : ℕ) → is_among c cs ≡ false → Agrees c now start
  pub seats : all.seats + sum (map (but cs (seats_freed start (auto_all start stamp)))
      (distinct (wishers start.dossier))) ≡ seats_of_all start (auto_all start stamp) (wishers start.dossier)
  pub beds : all.beds + sum (map (but cs (beds_freed start (auto_all start stamp)))
      (distinct (wishers start.dossier))) ≡ beds_of_all start (auto_all start stamp) (wishers start.dossier)

pub answered_nobody : (s : State) (stamp : Stamp) → length s.marks ≡ length s.dossier.wishes
    → AreAnswered s s stamp [] (record { seats = 0; beds = 0 })
answered_nobody s stamp long = record {
  long = long;
  done = λ c some. absurd (cc);
  waits = λ c none. agrees_self c s long;
  seats = omega arith;
  beds = omega arith;
}

pub dossier_stays : (start now : State) (stamp : Stamp) (cs : List ℕ) (all : Freed)
    → AreAnswered start now stamp cs all → now.dossier ≡ start.dossier
dossier_stays start now stamp cs all so_far =
    elim (cases_Bool (is_among 0 cs)) [
      | inl some ↦ sym (so_far.done 0 some).dossier
      | inr none ↦ sym (so_far.waits 0 none).dossier
    ]

pub among_more : (c x : ℕ) (cs : List ℕ) → is_among c (cs ++ x ∷ []) ≡ (is_among c cs || (nat_eq c x || false))
among_more c x cs = list_any-append (nat_eq c) cs (x ∷ [])

pub among_last : (x : ℕ) (cs : List ℕ) → is_among x (cs ++ x ∷ []) ≡ true
among_last x cs = among_more x x cs ∙ or_right (is_among x cs) (nat_eq x x || false)
    (or_left (nat_eq x x) false (eq-eqb x x refl))

among_other : (c x : ℕ) (cs : List ℕ) → (c ≡ x → ⊥) → is_among c (cs ++ x ∷ []) ≡ is_among c cs
among_other c x cs other = among_more c x cs ∙ rw (ne_eqb c x other) (or_false (is_among c cs))

-- what one more candidate does
module _ (start now : State) (stamp : Stamp) (x : ℕ) (cs : List ℕ) (all : Freed)
    (so_far : AreAnswered start now stamp cs all) where
  abbrev end : State
  end = auto_all start stamp

  end_long : length end.marks ≡ length end.dossier.wishes
  end_long = length-with_marks (all_mark start stamp) start so_far.long ∙ so_far.long

  -- who is answered for again is not changed, and frees nothing
  here : (Agrees x (auto_one now x stamp) end)
      × (seats_freed now (auto_one now x stamp) x ≡ but cs (seats_freed start end) x)
      × (beds_freed now (auto_one now x stamp) x ≡ but cs (beds_freed start end) x)
  here = elim (cases_Bool (is_among x cs)) [
    | inl again ↦
        let before = so_far.done x again in
        let after : Agrees x (auto_one now x stamp) end =
        rw (← answered_once start stamp so_far.long stamp) (one_here x now end stamp before) in
        let none : freed_by now (auto_one now x stamp) x ≡ record { seats = 0; beds = 0 } =
        same_freed x now (auto_one now x stamp) end end before after ∙ same_frees end x in
        (after, ap (λ (f : Freed). f.seats) none ∙ rw again refl, ap (λ (f : Freed). f.beds) none ∙ rw again refl)
    | inr new ↦
        let before = so_far.waits x new in
        let after = one_here x now start stamp before in
        let frees : freed_by now (auto_one now x stamp) x ≡ freed_by start end x =
        same_freed x now (auto_one now x stamp) start end before after in
        (after, ap (λ (f : Freed). f.seats) frees ∙ rw new refl, ap (λ (f : Freed). f.beds) frees ∙ rw new refl)
  ]

  -- the sum over all loses what they free
  taken_out : (f : ℕ → ℕ) → is_among x (wishers start.dossier) ≡ true
      → sum (map (but cs f) (distinct (wishers start.dossier)))
      ≡ but cs f x + sum (map (but (cs ++ x ∷ []) f) (distinct (wishers start.dossier)))
  taken_out f wishes =
      one_out (but cs f) (but (cs ++ x ∷ []) f) x (rw (among_last x cs) refl)
      (λ c other. rw (among_other c x cs other) refl) (wishers start.dossier) wishes

  pub room : is_among x (wishers start.dossier) ≡ true
      → (all.seats + seats_freed now (auto_one now x stamp) x ≤ length start.dossier.wishes)
      × (all.beds + beds_freed now (auto_one now x stamp) x ≤ length start.dossier.wishes)
  room wishes =
      let long = length-map start.dossier.wishes (λ (w : Wish). w.candidate) in (
        let most = total_at_most (seats_freed start end) (wishers start.dossier) (λ c. few_seats start end c) in
            omega (arith, so_far.seats, here.1, taken_out (seats_freed start end) wishes, most, long),
        let most = total_at_most (beds_freed start end) (wishers start.dossier) (λ c. few_beds start end c) in
            omega (arith, so_far.beds, here.2, taken_out (beds_freed start end) wishes, most, long),
      )

  pub one_more : (next_all : Freed) → is_among x (wishers start.dossier) ≡ true
      → next_all.seats ≡ all.seats + seats_freed now (auto_one now x stamp) x
      → next_all.beds ≡ all.beds + beds_freed now (auto_one now x stamp) x
      → AreAnswered start (auto_one now x stamp) stamp (cs ++ x ∷ []) next_all
  one_more next_all wishes seats beds = record {
    long = so_far.long;
    done = λ c some. elim (cases_eq c x) [
      | inl is ↦ rw is here.0
      | inr other ↦ one_other c x now end stamp (λ e. other (sym e))
          (so_far.done c (sym (among_other c x cs other) ∙ some))
    ];
    waits = λ c none. elim (cases_eq c x) [
      | inl is ↦ absurd (false≢true (sym (rw is at none) ∙ among_last x cs))
      | inr other ↦ one_other c x now start stamp (λ e. other (sym e))
          (so_far.waits c (sym (among_other c x cs other) ∙ none))
    ];
    seats = omega (arith, so_far.seats, here.1, taken_out (seats_freed start end) wishes, seats);
    beds = omega (arith, so_far.beds, here.2, taken_out (beds_freed start end) wishes, beds);
  }

-- where all others have been answered for, all have
pub all_answered : (start now : State) (stamp : Stamp) (cs : List ℕ) (all : Freed) → AreAnswered start now stamp cs all
    → ((c : ℕ) → is_among c cs ≡ false → SameOwnMarks c start (auto_all start stamp))
    → (now ≡ auto_all start stamp) × (all ≡ freed start (auto_all start stamp))
all_answered start now stamp cs all so_far others =
    let end = auto_all start stamp in
    let end_long : length end.marks ≡ length end.dossier.wishes =
    length-with_marks (all_mark start stamp) start so_far.long ∙ so_far.long in
    let stays : (c : ℕ) → is_among c cs ≡ false → Agrees c start end =
    λ c none. agrees c start end so_far.long end_long (others c none) in
    let each : (c : ℕ) → Agrees c now end = λ c.
    elim (cases_Bool (is_among c cs)) [
      | inl some ↦ so_far.done c some
      | inr none ↦ joined c now start end (so_far.waits c none) (stays c none)
    ] in
    let frees_none : (c : ℕ) → is_among c cs ≡ false → freed_by start end c ≡ record { seats = 0; beds = 0 } = λ c none.
    same_freed c start end end end (stays c none) (agrees_self c end end_long) ∙ same_frees end c in
    let no_seats : (c : ℕ) → but cs (seats_freed start end) c ≡ 0 = λ c.
    elim (cases_Bool (is_among c cs)) [
      | inl some ↦ rw some refl
      | inr none ↦ rw none (ap (λ (f : Freed). f.seats) (frees_none c none))
    ] in
    let no_beds : (c : ℕ) → but cs (beds_freed start end) c ≡ 0 = λ c.
    elim (cases_Bool (is_among c cs)) [
      | inl some ↦ rw some refl
      | inr none ↦ rw none (ap (λ (f : Freed). f.beds) (frees_none c none))
    ] in
    let seats : all.seats ≡ seats_of_all start end (wishers start.dossier) =
    omega (
      arith,
      so_far.seats,
      sum_none (but cs (seats_freed start end)) no_seats
          (distinct (wishers start.dossier)),
    ) in
    let beds : all.beds ≡ beds_of_all start end (wishers start.dossier) =
    omega (arith, so_far.beds, sum_none (but cs (beds_freed start end)) no_beds (distinct (wishers start.dossier))) in
    (all_agree now end each, same_numbers all (freed start end) seats beds)

-- the candidate of a wish has one
pub wishes_here : (d : DossierRows) (k : ℕ) → k < length d.wishes → is_among (candidate_of d k) (wishers d) ≡ true
wishes_here d k lt = ap (λ c. is_among c (wishers d)) (candidate_in d.wishes k) ∙ own_among d.wishes k lt

-- the candidates of the first places
abbrev pub first_candidates : DossierRows → List ℕ → ℕ → List ℕ
first_candidates d places i = map (candidate_of d) (take i places)

more_candidates : (d : DossierRows) (places : List ℕ) (i p : ℕ) → i < length places → get_or places i 0 ≡ p
    → first_candidates d places (i + 1) ≡ first_candidates d places i ++ candidate_of d p ∷ []
more_candidates d places i p lt here =
    ap (map (candidate_of d)) (take_more places i 0 lt)
    ∙ map-append (candidate_of d) (take i places) (get_or places i 0 ∷ [])
    ∙ ap (λ (k : ℕ). first_candidates d places i ++ candidate_of d k ∷ []) here

-- the answer beside a wish, by the candidate that it has in the dossier of the start
pub at_start : (start now next : State) (stamp : Stamp) (cs : List ℕ) (p : ℕ) (all own : Freed)
    → AreAnswered start now stamp cs all
    → next ≡ auto_one now (candidate_of now.dossier p) stamp → own ≡ freed_by now next (candidate_of now.dossier p)
    → let x = candidate_of start.dossier p in
    (next ≡ auto_one now x stamp) × (own ≡ freed_by now (auto_one now x stamp) x)
at_start start now next stamp cs p all own so_far next_is own_is =
    let x = candidate_of start.dossier p in
    let x_is : candidate_of now.dossier p ≡ x =
    ap (λ (d : DossierRows). candidate_of d p) (dossier_stays start now stamp cs all so_far) in
    let next_here : next ≡ auto_one now x stamp = next_is ∙ ap (λ (c : ℕ). auto_one now c stamp) x_is in
    (next_here, own_is ∙ ap (λ (c : ℕ). freed_by now next c) x_is ∙ ap (λ (t : State). freed_by now t x) next_here)

-- THE STEP, as the loops have it: what is freed fits, and one more has been answered for
next_room : (start now next : State) (stamp : Stamp) (cs : List ℕ) (p : ℕ) (all own : Freed)
    → AreAnswered start now stamp cs all
    → p < length start.dossier.wishes → next ≡ auto_one now (candidate_of now.dossier p) stamp
    → own ≡ freed_by now next (candidate_of now.dossier p)
    → (all.seats + own.seats ≤ length start.dossier.wishes) × (all.beds + own.beds ≤ length start.dossier.wishes)
next_room start now next stamp cs p all own so_far lt next_is own_is =
    let (next_here, own_here) = at_start start now next stamp cs p all own so_far next_is own_is in
    rw own_here (room start now stamp (candidate_of start.dossier p) cs all so_far (wishes_here start.dossier p lt))

pub counts_next : (start now : State) (stamp : Stamp) (cs : List ℕ) (p : ℕ) (all : Freed)
    → AreAnswered start now stamp cs all → p < length start.dossier.wishes
    → length start.dossier.wishes < 2 ^ 32 → IsCount (freed_at now p stamp all)
counts_next start now stamp cs p all so_far lt few =
    let fits = next_room start now (answered_at now p stamp) stamp cs p all
    (freed_by now (answered_at now p stamp) (candidate_of now.dossier p)) so_far lt refl refl in
    record { seats = omega (arith, fits.0, few); beds = omega (arith, fits.1, few) }

pub next_place : (start now next : State) (stamp : Stamp) (places : List ℕ) (i p : ℕ) (all next_all : Freed)
    → AreAnswered start now stamp (first_candidates start.dossier places i) all
    → i < length places → get_or places i 0 ≡ p → p < length start.dossier.wishes
    → next ≡ answered_at now p stamp → next_all ≡ freed_at now p stamp all
    → AreAnswered start next stamp (first_candidates start.dossier places (i + 1)) next_all
next_place start now next stamp places i p all next_all so_far lt here in_range next_is in_all =
    let cs = first_candidates start.dossier places i in
    let x = candidate_of start.dossier p in
    let there : State = answered_at now p stamp in
    let own : Freed = freed_by now there (candidate_of now.dossier p) in
    let (next_here, own_here) = at_start start now there stamp cs p all own so_far refl refl in
    rw (more_candidates start.dossier places i p lt here, next_is ∙ next_here)
    (one_more start now stamp x cs all so_far next_all (wishes_here start.dossier p in_range)
    (ap (λ (f : Freed). f.seats) in_all ∙ ap (λ (f : Freed). all.seats + f.seats) own_here)
    (ap (λ (f : Freed). f.beds) in_all ∙ ap (λ (f : Freed). all.beds + f.beds) own_here))

pub places_end : (start now : State) (stamp : Stamp) (places : List ℕ) (i : ℕ) (all : Freed)
    → AreAnswered start now stamp (first_candidates start.dossier places i) all → length places ≤ i
    → AreAnsweredBut places start stamp
    → (now ≡ auto_all start stamp) × (all ≡ freed start (auto_all start stamp))
places_end start now stamp places i all so_far le others =
    all_answered start now stamp (first_candidates start.dossier places i) all so_far
    (λ c none. others c (ap (λ (l : List ℕ). is_among c (map (candidate_of start.dossier) l))
    (sym (take_all i places le)) ∙ none))
