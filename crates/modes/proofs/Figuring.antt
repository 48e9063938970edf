-- The figures of a school, and what the picker told as they were found.
use Rattle.std.proofs.Common.{◌≡◌, ◌∙◌, ℕ, ◌-◌, List, Option, Some, Result, Ok, Err, IfOk, ap, length, nat_eq, position}
use Rattle.std.proofs.Common.{inr, refl, subst, sym}
use Rattle.std.specs.Prelude.{OnErr}
use Rattle.admit_core.specs.Boarding.{boarding}
use Rattle.admit_core.specs.CallOrder.{AreCallOrders}
use Rattle.admit_core.specs.DossierRows.{DossierRows, beds_of}
use Rattle.admit_core.specs.Explanations.{LastPass}
use Rattle.admit_core.specs.LeastBeds.{IsLeastBeds}
use Rattle.admit_core.specs.State.{State}
use Rattle.admit_core.specs.declared.ranking.CallOrder.{CallOrder}
use Rattle.admit_core.specs.declared.records.DayRecord.{DayRecord}
use Rattle.bed_need.specs.Figures.{AreFigures, Figures, TellsOfFigures, lacks, question}
use Rattle.bed_need.specs.Growing.{IsGrowth, with_more_beds, with_n_beds}
use Rattle.bed_need.specs.Questions.{Questions}
use Rattle.bed_need.specs.Telling.{TellsOfBoth, TellsOfFallsOfBoth, TellsOfRun}
use Rattle.bed_need.specs.Text.{beds_text}
use Rattle.bed_need.proofs.Growing.{figures_are_fixed}
use Rattle.bar_fixpoint.specs.Runs.{schools_of}
use Rattle.desk_day.proofs.PassesSoFar.{tells_from}
use Rattle.desk_day.specs.DayPasses.{TellsMore}
use Rattle.desk_day.specs.LastPasses.{IsLastPass}
use Rattle.played.specs.LastDays.{IsDeskAfter, IsLastOf, pass_on}
use Rattle.round.proofs.EarlyEnds.{told_of_all}
use Rattle.modes.specs.LentPicker.{TellsPicks}
use Rattle.modes.specs.AfterDays.{AfterDays}
use Rattle.modes.specs.Beds.{BreaksFigures, BreaksFiguring, IsAsked, IsOnlyText, IsTextOf, PicksForFigures}
use Rattle.modes.specs.Beds.{TellsFigures}

-- the figures that were found, with what the picker told
module _ (s : State) (d : DossierRows) (orders : List CallOrder) (ceilings : List ℕ) (place need more : ℕ)
    (before after : List ℕ) (choice choice' : List ℕ → List ℕ → ℕ) (told between told' : List ℕ)
    (same : s.dossier ≡ d) (lack : more ≡ need - beds_of d place) (least : IsLeastBeds s orders ceilings place need)
    (growth : IsGrowth (boarding s orders ceilings) (with_more_beds s orders ceilings place more) before after)
    (told_least : TellsOfRun (with_n_beds s orders ceilings place 2000000000) choice told between)
    (chooses : choice' ≡ choice)
    (told_growth : TellsOfBoth (boarding s orders ceilings)
    (with_more_beds s orders ceilings place more) choice' between told') where
  lacks_so : more ≡ lacks s place need
  lacks_so = lack ∙ ap (λ (e : DossierRows). need - beds_of e place) (sym same)

  found : Figures
  found = record { need = need; before = before; after = after }

  figured : (text : List ℕ) → text ≡ beds_text d place need before after
      → (figures : Figures) × IsTextOf d s orders ceilings place figures text
      × TellsOfFigures (question s orders ceilings place) figures.need choice told told'
  unfolding found
  figured text is = (
    found,
    record {
      are_figures = record {
        need = least;
        growth = subst (λ (n : ℕ). IsGrowth (boarding s orders ceilings) (with_more_beds s orders ceilings place n)
            before after) lacks_so growth;
      };
      is_text = is;
    },
    record {
      between = between;
      least = told_least;
      grown = subst (λ (n : ℕ). TellsOfBoth (boarding s orders ceilings)
          (with_more_beds s orders ceilings place n) choice between told') lacks_so
          (subst (λ c. TellsOfBoth (boarding s orders ceilings)
          (with_more_beds s orders ceilings place more) c between told') chooses told_growth);
    },
  )

  pub all_figured : {T E : Type 0} (bytes : T → List ℕ) (r : Result T E)
      → IfOk r (λ text. bytes text ≡ beds_text d place need before after)
      → IfOk r (λ text. (figures : Figures) × IsTextOf d s orders ceilings place figures (bytes text)
      × TellsOfFigures (question s orders ceilings place) figures.need choice told told')
  all_figured bytes (Ok text) is = figured (bytes text) is
  all_figured bytes (Err e) is = tt

-- what was figured of questions holds of what they are of
pub figured_there : {T E : Type 0} (d : DossierRows) (ceilings : List ℕ) (place : ℕ) (choice : List ℕ → List ℕ → ℕ)
    (told after : List ℕ) (bytes : T → List ℕ) (r : Result T E) (one other : Questions) → one ≡ other
    → IfOk r (λ text. (figures : Figures) × IsTextOf d one.state one.orders ceilings place figures (bytes text)
    × TellsOfFigures (question one.state one.orders ceilings place) figures.need choice told after)
    → IfOk r (λ text. (figures : Figures) × IsTextOf d other.state other.orders ceilings place figures (bytes text)
    × TellsOfFigures (question other.state other.orders ceilings place) figures.need choice told after)
figured_there d ceilings place choice told after bytes r one other same =
    subst (λ (q : Questions). IfOk r (λ text. (figures : Figures)
    × IsTextOf d q.state q.orders ceilings place figures (bytes text)
    × TellsOfFigures (question q.state q.orders ceilings place) figures.need choice told after)) same

-- what the picker told where memory ran out
module _ (s : State) (orders : List CallOrder) (ceilings : List ℕ) (place need more : ℕ)
    (choice choice' : List ℕ → List ℕ → ℕ) (told between after : List ℕ) (d : DossierRows) (same : s.dossier ≡ d)
    (lack : more ≡ need - beds_of d place) (least : IsLeastBeds s orders ceilings place need)
    (told_least : TellsOfRun (with_n_beds s orders ceilings place 2000000000) choice told between)
    (chooses : choice' ≡ choice) where
  abbrev Grown : ℕ → (List ℕ → List ℕ → ℕ) → Type 0
  Grown n c =
      TellsOfFallsOfBoth (boarding s orders ceilings) (with_more_beds s orders ceilings place n) c between after

  pub breaks_grown : Grown more choice' → BreaksFiguring s orders ceilings place choice told after
  breaks_grown grown = inr (record {
    need = need;
    is_need = least;
    between = between;
    least = told_least;
    grown = subst (λ (n : ℕ). Grown n choice) (lack ∙ ap (λ (e : DossierRows). need - beds_of e place) (sym same))
        (subst (λ c. Grown more c) chooses grown);
  })

  pub breaks_behind : TellsOfBoth (boarding s orders ceilings) (with_more_beds s orders ceilings place more) choice'
      between after → BreaksFiguring s orders ceilings place choice told after
  breaks_behind both =
      let sys = with_more_beds s orders ceilings place more in
      let then = both.second in
      breaks_grown (inr (
        both.between,
        both.first,
        told_of_all sys sys choice' both.between after then.falls refl then.is_run then.chosen then.told_of,
      ))

-- the same of what questions are of
pub breaks_there : {T E : Type 0} (ceilings : List ℕ) (place : ℕ) (choice : List ℕ → List ℕ → ℕ)
    (told after : List ℕ) (r : Result T E) (one other : Questions) → one ≡ other
    → OnErr r (BreaksFiguring one.state one.orders ceilings place choice told after)
    → OnErr r (BreaksFiguring other.state other.orders ceilings place choice told after)
breaks_there ceilings place choice told after r one other same =
    subst (λ (q : Questions). OnErr r (BreaksFiguring q.state q.orders ceilings place choice told after)) same

-- what a picker had told is a prefix of what it tells as figures are found
figures_more : (s : State) (orders : List CallOrder) (ceilings : List ℕ) (place need : ℕ)
    (choice : List ℕ → List ℕ → ℕ) (told after : List ℕ)
    → TellsOfFigures (question s orders ceilings place) need choice told after
    → TellsMore told after
figures_more s orders ceilings place need choice told after tells =
    let grown = tells.grown in
    tells_from told tells.between after (schools_of tells.least.falls) tells.least.told_of
    (tells_from tells.between grown.between after (schools_of grown.first.falls) grown.first.told_of
    (schools_of grown.second.falls, grown.second.told_of))

-- one place has an id, and one day is the last
one_place : (found one other : ℕ) (p : Option ℕ) → p ≡ Some one → p ≡ Some other → one ≡ other
one_place found one other p is also = cc (is, also)

module _ (left : AfterDays) (school : ℕ) where
  one_day : (one other : DayRecord) → IsLastOf left.days one → IsLastOf left.days other → one ≡ other
  one_day one other is also = cc (is, also)

  one_pass : (p q : ℕ) (one other : LastPass) → IsAsked left school p one → IsAsked left school q other
      → (p ≡ q) × (one ≡ other)
  one_pass p q one other is also = (
    one_place p p q (position (nat_eq school) left.index.schools) is.is_place also.is_place,
    is.is_pass ∙ ap (λ (day : DayRecord). pass_on left.dossier left.orders day left.desk)
        (one_day is.day also.day is.is_last also.is_last) ∙ sym also.is_pass,
  )

  -- one text tells the figures
  pub only_text : (one other : List ℕ) → TellsFigures left school one → TellsFigures left school other → other ≡ one
  only_text one other is also =
      let d = left.dossier in
      let same = one_pass also.place is.place also.pass is.pass also.is_asked is.is_asked in
      let P : ℕ → LastPass → Type 0 = λ p x. AreFigures x.opening x.orders x.ceilings p also.figures in
      let there : P is.place is.pass =
      subst (λ (x : LastPass). P is.place x) same.1
      (subst (λ (p : ℕ). P p also.pass) same.0 also.is_text.are_figures) in
      let figures : also.figures ≡ is.figures =
      figures_are_fixed is.pass.opening is.pass.orders is.pass.ceilings is.place also.figures is.figures there
      is.is_text.are_figures in
      also.is_text.is_text ∙ ap (λ (p : ℕ). beds_text d p also.figures.need also.figures.before also.figures.after)
      same.0
      ∙ ap (λ (f : Figures). beds_text d is.place f.need f.before f.after) figures ∙ sym is.is_text.is_text

-- the school of an id in the last pass
module _ (left : AfterDays) (school place : ℕ) (day : DayRecord)
    (is_place : position (nat_eq school) left.index.schools ≡ Some place) (is_last : IsLastOf left.days day)
    (after : IsDeskAfter left.dossier left.orders left.days left.desk) where
  abbrev last : LastPass
  last = pass_on left.dossier left.orders day left.desk

  ends_so : IsLastPass last left.desk.present
  ends_so = after.last day is_last

  asked_so : IsAsked left school place last
  asked_so = record { is_place = is_place; day = day; is_last = is_last; is_pass = refl }

  pub opening_dossier : left.desk.opening.dossier ≡ left.dossier
  opening_dossier = sym (ap (λ (s : State). s.dossier) ends_so.leaves) ∙ after.dossier

  pub opening_called : AreCallOrders left.desk.opening.dossier.groups left.orders
  opening_called = ends_so.of_dossier.called

  pub opening_ceilings : length last.ceilings ≡ length left.desk.opening.dossier.schools
  opening_ceilings = ends_so.of_dossier.ceilings

  -- where memory ran out in the opening, by the call orders of a roster, under the day's ceilings
  pub all_broken : {T E : Type 0} (opening : State) (called : List CallOrder) (ceilings : List ℕ)
      (choice : List ℕ → List ℕ → ℕ) (told after : List ℕ) → opening ≡ left.desk.opening → called ≡ left.orders
      → ceilings ≡ last.ceilings → (r : Result T E)
      → OnErr r (BreaksFiguring opening called ceilings place choice told after)
      → OnErr r (BreaksFigures left school (record { before = told; after = after; choice = choice }))
  all_broken opening called ceilings choice told after opens calls ceil (Ok text) breaks = tt
  all_broken opening called ceilings choice told after opens calls ceil (Err e) breaks =
      let P : State → List CallOrder → List ℕ → Type 0 =
      λ o os cs. BreaksFiguring o os cs place choice told after in
      inr (record {
        place = place;
        pass = last;
        is_asked = asked_so;
        breaks = subst (λ (o : State). P o left.orders last.ceilings) opens
            (subst (λ (os : List CallOrder). P opening os last.ceilings) calls
            (subst (λ (cs : List ℕ). P opening called cs) ceil breaks));
      })

  -- what was figured in the opening, by the call orders of a roster, under the day's ceilings
  module _ (opening : State) (called : List CallOrder) (ceilings : List ℕ) (choice : List ℕ → List ℕ → ℕ)
      (told told' : List ℕ) (opens : opening ≡ left.desk.opening) (calls : called ≡ left.orders)
      (ceil : ceilings ≡ last.ceilings) where
    abbrev Figured : List ℕ → Type 0
    Figured text = (figures : Figures) × IsTextOf left.dossier opening called ceilings place figures text
        × TellsOfFigures (question opening called ceilings place) figures.need choice told told'

    in_last : (text : List ℕ) → Figured text
        → (figures : Figures) × IsTextOf left.dossier last.opening left.orders last.ceilings place figures text
        × TellsOfFigures (question last.opening left.orders last.ceilings place) figures.need choice told told'
    in_last text figured =
        let P : State → List CallOrder → List ℕ → Type 0 =
        λ o os cs. (figures : Figures) × IsTextOf left.dossier o os cs place figures text
        × TellsOfFigures (question o os cs place) figures.need choice told told' in
        subst (λ (o : State). P o left.orders last.ceilings) opens
        (subst (λ (os : List CallOrder). P opening os last.ceilings) calls
        (subst (λ (cs : List ℕ). P opening called cs) ceil figured))

    tells : (text : List ℕ) → Figured text → TellsFigures left school text
    tells text figured =
        let found = in_last text figured in record {
          place = place;
          pass = last;
          figures = found.0;
          is_asked = asked_so;
          is_text = found.1;
        }

    picks : (text : List ℕ) → Figured text → TellsPicks (PicksForFigures left school choice told) told told'
    picks text figured =
        let found = in_last text figured in
        let more = figures_more last.opening left.orders last.ceilings place found.0.need choice told told' found.2 in (
          more.0,
          record {
            place = place;
            pass = last;
            figures = found.0;
            is_asked = asked_so;
            are_figures = found.1.are_figures;
            tells = subst (λ (l : List ℕ). TellsOfFigures (question last.opening left.orders last.ceilings place)
                found.0.need choice told l) more.1 found.2;
          },
          more.1,
        )

    pub all_tell : {T E : Type 0} (bytes : T → List ℕ) (r : Result T E) → IfOk r (λ text. Figured (bytes text))
        → IfOk r (λ text. TellsFigures left school (bytes text))
    all_tell bytes (Ok text) figured = tells (bytes text) figured
    all_tell bytes (Err e) figured = tt

    pub all_only : {T E : Type 0} (bytes : T → List ℕ) (r : Result T E) → IfOk r (λ text. Figured (bytes text))
        → IfOk r (λ text. IsOnlyText left school (bytes text))
    all_only bytes (Ok text) figured = λ other also. only_text left school (bytes text) other
        (tells (bytes text) figured) also
    all_only bytes (Err e) figured = tt

    pub all_picked : {T E : Type 0} (bytes : T → List ℕ) (r : Result T E) → IfOk r (λ text. Figured (bytes text))
        → IfOk r (λ text. TellsPicks (PicksForFigures left school choice told) told told')
    all_picked bytes (Ok text) figured = picks (bytes text) figured
    all_picked bytes (Err e) figured = tt
