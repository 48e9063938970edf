-- The passes that a day has made.
use Rattle.std.proofs.Common.{ℕ, ◌+◌, ◌≤◌, ◌<◌, ◌≡◌, not, List, [], ◌∷◌, ◌++◌, length, refl, sym, ◌∙◌, ap, arith, inl}
use Rattle.std.proofs.Common.{inr, append_assoc}
use Rattle.std.specs.Prelude.{IsTrue}
use Rattle.std.proofs.lemmas.List.{append-nil, flat_map_more, length_push}
use Rattle.admit_core.specs.declared.ranking.CallOrder.{CallOrder}
use Rattle.admit_core.specs.declared.records.PassEnd.{PassEnd}
use Rattle.bar_fixpoint.specs.Runs.{schools_of}
use Rattle.bar_fixpoint.specs.Chosen.{AreChosen, TellsOfFalls}
use Rattle.admit_core.specs.Boarding.{boarding}
use Rattle.admit_core.specs.Falls.{FallingSystem}
use Rattle.admit_core.specs.State.{State}
use Rattle.admit_core.specs.Days.{IsPassEnd, Passes, closing, frees_nothing}
use Rattle.desk_day.specs.DayPasses.{AreChosenPasses, TellsMore, last_opening, schools_of_passes, open_wishes, stamp_of}

-- passes from s on, each of which freed something, lead to the present state
abbrev pub Earlier : List CallOrder → List ℕ → ℕ → ℕ → State → List PassEnd → State → Type 0
Earlier orders ceilings day k s [] now = now ≡ s
Earlier orders ceilings day k s (pass ∷ rest) now =
    IsPassEnd s orders ceilings (stamp_of day k) pass
    × IsTrue (not (frees_nothing pass.freed))
    × Earlier orders ceilings day (k + 1) (closing s orders pass.pass.bars (stamp_of day k)) rest now

-- one more pass that freed something
pub earlier_more : (orders : List CallOrder) (ceilings : List ℕ) (day k j : ℕ) (s : State) (passes : List PassEnd)
    (now next : State)
    (pass : PassEnd)
    → Earlier orders ceilings day k s passes now → k + length passes ≡ j
    → IsPassEnd now orders ceilings (stamp_of day j) pass → IsTrue (not (frees_nothing pass.freed))
    → next ≡ closing now orders pass.pass.bars (stamp_of day j)
    → Earlier orders ceilings day k s (passes ++ pass ∷ []) next
earlier_more orders ceilings day k j s [] now next pass so_far e is some next_is =
    let here : j ≡ k = omega arith in
    (rw (so_far, here) at is, some, next_is ∙ rw (so_far, here) refl)
earlier_more orders ceilings day k j s (p ∷ ps) now next pass so_far e is some next_is = (
  so_far.0,
  so_far.1,
  earlier_more orders ceilings day (k + 1) j (closing s orders p.pass.bars (stamp_of day k)) ps now next pass
      so_far.2 (omega arith) is some next_is,
)

-- the last pass, which freed nothing
pub passes_end : (orders : List CallOrder) (ceilings : List ℕ) (day k j : ℕ) (s : State) (passes : List PassEnd)
    (now evening : State)
    (pass : PassEnd)
    → Earlier orders ceilings day k s passes now → k + length passes ≡ j
    → IsPassEnd now orders ceilings (stamp_of day j) pass → IsTrue (frees_nothing pass.freed)
    → evening ≡ closing now orders pass.pass.bars (stamp_of day j)
    → Passes orders ceilings day k s (passes ++ pass ∷ []) evening
    × (last_opening orders day k s (passes ++ pass ∷ []) ≡ now)
passes_end orders ceilings day k j s [] now evening pass so_far e is none evening_is =
    let here : j ≡ k = omega arith in
    ((rw (so_far, here) at is, none, evening_is ∙ rw (so_far, here) refl), sym so_far)
passes_end orders ceilings day k j s (p ∷ []) now evening pass so_far e is none evening_is =
    let rest = passes_end orders ceilings day (k + 1) j (closing s orders p.pass.bars (stamp_of day k))
    [] now evening pass so_far.2
    (omega arith) is none evening_is in
    ((so_far.0, so_far.1, rest.0), rest.1)
passes_end orders ceilings day k j s (p ∷ q ∷ ps) now evening pass so_far e is none evening_is =
    let rest = passes_end orders ceilings day (k + 1) j (closing s orders p.pass.bars (stamp_of day k))
    (q ∷ ps) now evening pass so_far.2
    (omega arith) is none evening_is in
    ((so_far.0, so_far.1, rest.0), rest.1)

-- what the loop keeps
pub record SoFar (orders : List CallOrder) (ceilings : List ℕ) (day number : ℕ) (start now : State)
    (passes : List PassEnd) : Type 0 where
  pub earlier : Earlier orders ceilings day 1 start passes now
  pub numbered : 1 + length passes ≡ number
  pub open_ones : number + open_wishes now ≤ length start.dossier.wishes + 1
  pub dossier : now.dossier ≡ start.dossier
  pub marked : length now.marks ≡ length now.dossier.wishes

pub so_far_none : (orders : List CallOrder) (ceilings : List ℕ) (day : ℕ) (s : State) (passes : List PassEnd)
    → passes ≡ []
    → length s.marks ≡ length s.dossier.wishes → open_wishes s ≤ length s.dossier.wishes
    → SoFar orders ceilings day 1 s s passes
so_far_none orders ceilings day s passes none long few =
    rw none (record { earlier = refl; numbered = omega arith; open_ones = omega arith; dossier = refl; marked = long })

pub so_far_more : (orders : List CallOrder) (ceilings : List ℕ) (day number : ℕ) (start now next : State)
    (passes ends : List PassEnd)
    (pass : PassEnd)
    → SoFar orders ceilings day number start now passes
    → IsPassEnd now orders ceilings (stamp_of day number) pass → IsTrue (not (frees_nothing pass.freed))
    → next ≡ closing now orders pass.pass.bars (stamp_of day number)
    → open_wishes next < open_wishes now → length next.marks ≡ length next.dossier.wishes → next.dossier ≡ now.dossier
    → ends ≡ passes ++ pass ∷ []
    → SoFar orders ceilings day (number + 1) start next ends
so_far_more orders ceilings day number start now next passes ends pass so_far is some next_is fewer long same ends_is =
    rw ends_is (record {
      earlier = earlier_more orders ceilings day 1 number start passes now next pass so_far.earlier so_far.numbered is
          some next_is;
      numbered = omega (arith, so_far.numbered, length_push passes pass);
      open_ones = omega (arith, so_far.open_ones, fewer);
      dossier = same ∙ so_far.dossier;
      marked = long;
    })

pub so_far_end : (orders : List CallOrder) (ceilings : List ℕ) (day number : ℕ) (start now evening : State)
    (passes ends : List PassEnd)
    (pass : PassEnd)
    → SoFar orders ceilings day number start now passes
    → IsPassEnd now orders ceilings (stamp_of day number) pass → IsTrue (frees_nothing pass.freed)
    → evening ≡ closing now orders pass.pass.bars (stamp_of day number)
    → ends ≡ passes ++ pass ∷ []
    → Passes orders ceilings day 1 start ends evening × (last_opening orders day 1 start ends ≡ now) ×
    (length ends ≤ length start.dossier.wishes + 1)
so_far_end orders ceilings day number start now evening passes ends pass so_far is none evening_is ends_is =
    let end = passes_end orders ceilings day 1 number start passes now evening pass so_far.earlier so_far.numbered is
    none evening_is in
    rw ends_is (end.0, end.1, omega (arith, so_far.numbered, so_far.open_ones, length_push passes pass))

-- what the picker told of
pub told_more : (first told next : List ℕ) (passes ends : List PassEnd) (pass : PassEnd)
    → told ≡ first ++ schools_of_passes passes
    → next ≡ told ++ schools_of pass.pass.falls
    → ends ≡ passes ++ pass ∷ [] → next ≡ first ++ schools_of_passes ends
told_more first told next passes ends pass so_far more ends_is =
    more ∙ ap (λ (l : List ℕ). l ++ schools_of pass.pass.falls) so_far
    ∙ flat_map_more (λ (end : PassEnd). schools_of end.pass.falls) first passes pass
    ∙ ap (λ (l : List PassEnd). first ++ schools_of_passes l) (sym ends_is)

-- one more pass whose schools were chosen
chosen_on : (orders : List CallOrder) (ceilings : List ℕ) (day k : ℕ) (s : State) (choice : List ℕ → List ℕ → ℕ)
    (first told : List ℕ)
    (passes : List PassEnd) (now : State) (pass : PassEnd)
    → Earlier orders ceilings day k s passes now
    → AreChosenPasses orders ceilings (stamp_of day k) s choice first passes
    → told ≡ first ++ schools_of_passes passes
    → AreChosen (boarding now orders ceilings) choice told ceilings pass.pass.falls
    → AreChosenPasses orders ceilings (stamp_of day k) s choice first (passes ++ pass ∷ [])
chosen_on orders ceilings day k s choice first told [] now pass so_far chosen told_is is =
    (rw (so_far, told_is ∙ append-nil first) at is, tt)
chosen_on orders ceilings day k s choice first told (p ∷ ps) now pass so_far chosen told_is is = (
  chosen.0,
  chosen_on orders ceilings day (k + 1) (closing s orders p.pass.bars (stamp_of day k)) choice
      (first ++ schools_of p.pass.falls) told ps
      now pass so_far.2 chosen.1
      (told_is ∙ sym (append_assoc first (schools_of p.pass.falls) (schools_of_passes ps))) is,
)

pub chosen_none : (orders : List CallOrder) (ceilings : List ℕ) (day k : ℕ) (s : State) (choice : List ℕ → List ℕ → ℕ)
    (first : List ℕ)
    (passes : List PassEnd) → passes ≡ []
    → AreChosenPasses orders ceilings (stamp_of day k) s choice first passes
chosen_none orders ceilings day k s choice first passes none = rw none tt

pub chosen_more : (orders : List CallOrder) (ceilings : List ℕ) (day number : ℕ) (s : State)
    (choice choice_now : List ℕ → List ℕ → ℕ)
    (first told : List ℕ) (passes ends : List PassEnd)
    (now : State) (pass : PassEnd) → SoFar orders ceilings day number s now passes
    → AreChosenPasses orders ceilings (stamp_of day 1) s choice first passes
    → told ≡ first ++ schools_of_passes passes → choice_now ≡ choice
    → AreChosen (boarding now orders ceilings) choice_now told ceilings pass.pass.falls
    → ends ≡ passes ++ pass ∷ [] → AreChosenPasses orders ceilings (stamp_of day 1) s choice first ends
chosen_more orders ceilings day number s choice choice_now first told passes ends now pass so_far chosen told_is same is
    ends_are =
    rw ends_are (chosen_on orders ceilings day 1 s choice first told passes now pass so_far.earlier chosen told_is
    (rw same at is))

-- what a picker told where memory ran out
pub tells_still : (before after : List ℕ) → after ≡ before → TellsMore before after
tells_still before after same = ([], same ∙ sym (append-nil before))

pub tells_from : (before mid after : List ℕ) (picks : List ℕ) → mid ≡ before ++ picks → TellsMore mid after
    → TellsMore before after
tells_from before mid after picks first then =
    (picks ++ then.0, then.1 ∙ ap (λ (l : List ℕ). l ++ then.0) first ∙ append_assoc before picks then.0)

pub tells_on : (before mid after : List ℕ) → TellsMore before mid → TellsMore mid after → TellsMore before after
tells_on before mid after one two = tells_from before mid after one.0 one.1 two

pub tells_of_falls : (sys : FallingSystem) (choice : List ℕ → List ℕ → ℕ) (before after : List ℕ)
    → TellsOfFalls sys choice before after
    → TellsMore before after
tells_of_falls sys choice before after told =
    elim told.1.told_of [
      | inl all ↦ (schools_of told.1.falls, all)
      | inr one ↦ (
        schools_of told.1.falls ++ one.place ∷ [],
        one.told_of
            ∙ append_assoc before (schools_of told.1.falls) (one.place ∷ []),
      )
    ]
