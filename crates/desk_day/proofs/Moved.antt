-- Whose wishes have changed from one state to another.
use Rattle.std.proofs.Common.{ℕ, ◌<◌, ◌≡◌, Bool, true, false, length, map, refl, sym, ◌∙◌, subst}
use Rattle.std.specs.Prelude.{if◌then◌else◌}
use Rattle.std.proofs.lemmas.List.Elements.{All-append, All-nil}
use Rattle.admit_core.specs.DossierRows.{DossierRows, candidate_of}
use Rattle.admit_core.specs.Lists.{is_among}
use Rattle.admit_core.specs.State.{State}
use Rattle.admit_core.specs.Days.{frees_nothing}
use Rattle.admit_core.specs.declared.state.Freed.{Freed}
use Rattle.desk_day.specs.DayPlaces.{AreWishesOf}
use Rattle.desk_day.specs.Running.{IsRunning, opening_after}
use Rattle.desk_day.specs.Who.{AreOf, ChangesOnly, Joins, Moves, is_nobody}
use Rattle.desk_day.specs.declared.who.Who.{Who}
use Rattle.desk_day.specs.declared.who.Who.TheVariants.{Anyone, CandidatesOf}
use Rattle.desk_day.proofs.LaterPasses.{in_neither, no_items}

-- whoever they are, from a state to itself no wishes change
pub stays : (these : Who) (s : State) → AreOf s.dossier these → ChangesOnly these s s
stays Anyone s are = tt
stays (CandidatesOf places) s are = (are, λ c apart. record { dossier = refl; each = λ place lt own. refl })

pub of_moved : (these : Who) (s t : State) → ChangesOnly these s t → AreOf s.dossier these
of_moved Anyone s t moved = tt
of_moved (CandidatesOf places) s t moved = moved.0

pub nobody_of : (these : Who) (d : DossierRows) → is_nobody these ≡ true → AreOf d these
nobody_of Anyone d none = tt
nobody_of (CandidatesOf places) d none = rw (no_items places.items none) (All-nil (λ (k : ℕ). k < length d.wishes))

-- two steps, one after the other
moved_on : (these others all : Who) (r s t : State) → s.dossier ≡ r.dossier → t.dossier ≡ s.dossier
    → Joins these others all → ChangesOnly these r s → ChangesOnly others s t → ChangesOnly all r t
moved_on Anyone others all r s t same same_too joins first next =
    subst (λ (w : Who). ChangesOnly w r t) (sym joins) tt
moved_on (CandidatesOf places) Anyone all r s t same same_too joins first next =
    subst (λ (w : Who). ChangesOnly w r t) (sym joins) tt
moved_on (CandidatesOf places) (CandidatesOf more) Anyone r s t same same_too joins first next = tt
moved_on (CandidatesOf places) (CandidatesOf more) (CandidatesOf all) r s t same same_too joins first next =
    let within : AreWishesOf r.dossier more.items =
    subst (λ (d : DossierRows). AreWishesOf d more.items) same next.0 in (
      rw joins (All-append (λ (k : ℕ). k < length r.dossier.wishes) places.items more.items first.0 within),
      λ c none.
          let parts = in_neither (candidate_of r.dossier) c places.items more.items (rw joins at none) in
          let before = first.1 c parts.0 in
          let after = next.1 c (subst (λ (d : DossierRows). is_among c (map (candidate_of d) more.items) ≡ false)
          (sym same) parts.1) in
          record {
            dossier = same_too ∙ same;
            each = λ place lt own. before.each place lt own
                ∙ after.each place (subst (λ (d : DossierRows). place < length d.wishes) (sym same) lt)
                (subst (λ (d : DossierRows). candidate_of d place ≡ c) (sym same) own);
          },
    )

pub moves_by : (s t : State) (others before after : Who) → t.dossier ≡ s.dossier → ChangesOnly others s t
    → Joins before others after → Moves s t before after
moves_by s t others before after same changes joins start of_start moved =
    moved_on before others after start s t (sym of_start) same joins moved changes

pub moves_then : (s t u : State) (before between after : Who) → t.dossier ≡ s.dossier → Moves s t before between
    → Moves t u between after → Moves s u before after
moves_then s t u before between after same first next start of_start moved =
    next start (of_start ∙ sym same) (first start of_start moved)

pub none_moved : (none : Who) (s : State) → is_nobody none ≡ true → ChangesOnly none s s
none_moved none s is = stays none s (nobody_of none s.dossier is)

-- since a step began with nobody
pub moves_from : (s t : State) (none after : Who) → is_nobody none ≡ true → Moves s t none after
    → ChangesOnly after s t
moves_from s t none after is moves = moves s refl (none_moved none s is)

-- behind a pass its opening, or that of the next one, differs from its closing in those who were asked alone
opening_moved : (freed_none : Bool) (s close : State) (asked : Who) → close.dossier ≡ s.dossier
    → ChangesOnly asked s close
    → IsRunning asked (record { present = close; opening = (if freed_none then s else close) })
opening_moved true s close asked same moved = record { dossier = sym same; others = moved }
opening_moved false s close asked same moved = record {
  dossier = refl;
  others = stays asked close (subst (λ (d : DossierRows). AreOf d asked) (sym same) (of_moved asked s close moved));
}

pub running_after : (freed : Freed) (s close opening : State) (asked : Who) → opening ≡ opening_after freed s close
    → close.dossier ≡ s.dossier → ChangesOnly asked s close
    → IsRunning asked (record { present = close; opening = opening })
running_after freed s close opening asked is same moved =
    subst (λ (o : State). IsRunning asked (record { present = close; opening = o })) (sym is)
    (opening_moved (frees_nothing freed) s close asked same moved)
