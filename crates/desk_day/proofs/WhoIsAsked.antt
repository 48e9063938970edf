-- Who may not have been answered for: whom the answers after offers ask, and who is left behind a morning.
use Rattle.std.proofs.Common.{ℕ, ◌≡◌, Bool, true, false, List, ◌++◌, length, refl, Vec, ap, ◌∙◌, subst}
use Rattle.std.specs.Prelude.{if◌then◌else◌}
use Rattle.std.proofs.lemmas.Bool.{false≢true}
use Rattle.admit_core.specs.AutoAnswer.{auto_all}
use Rattle.admit_core.specs.DossierRows.{DossierRows}
use Rattle.admit_core.specs.Proposals.{proposed}
use Rattle.admit_core.specs.State.{State, changed_to}
use Rattle.admit_core.specs.declared.ranking.CallOrder.{CallOrder}
use Rattle.admit_core.specs.declared.state.Stamp.{Stamp}
use Rattle.admit_core.specs.declared.state.Status.TheVariants.{Offered}
use Rattle.day_state.proofs.Along.{along_dossier}
use Rattle.desk_day.specs.DayPasses.{IsAnswered, offered_along}
use Rattle.desk_day.specs.Running.{TouchesOnly}
use Rattle.desk_day.specs.Unanswered.{AnswersOnly, AreAsked, AsksAfter}
use Rattle.desk_day.specs.DayPlaces.{AreWishesOf}
use Rattle.desk_day.specs.Who.{AreOf, ChangesOnly, is_nobody}
use Rattle.desk_day.specs.declared.who.Who.{Who}
use Rattle.desk_day.specs.declared.who.Who.TheVariants.{Anyone, CandidatesOf}
use Rattle.desk_day.proofs.LaterPasses.{answered_all, answered_but, offered_there, offers_within, same_but, settled}
use Rattle.desk_day.proofs.LaterPasses.{no_items}
use Rattle.desk_day.proofs.Moved.{nobody_of}
use Rattle.desk_day.proofs.OnceEach.{names_along, others_stay}
use Rattle.std.specs.declared.alloc.Global.{Global}

-- where it is nobody, all have been answered for
pub settled_all : (these : Who) (s : State) → length s.marks ≡ length s.dossier.wishes
    → is_nobody these ≡ true → AnswersOnly these s → IsAnswered s
settled_all Anyone s long none only = absurd (false≢true none)
settled_all (CandidatesOf places) s long none only =
    settled s places.items long (no_items places.items none) (λ stamp. (only stamp).1)

pub are_of : (these : Who) (s : State) → AnswersOnly these s → AreOf s.dossier these
are_of Anyone s only = tt
are_of (CandidatesOf places) s only = (only (record { day = 0; pass = 0 })).0

-- whom the answers after offers ask
pub asks_after : (these asked : Who) (s : State) (orders : List CallOrder) (bars offers : List ℕ)
    (stamp : Stamp) → length s.marks ≡ length s.dossier.wishes → offers ≡ proposed s orders bars
    → AnswersOnly these s → AreAsked s.dossier offers these asked → AsksAfter s offers stamp asked
asks_after Anyone Anyone s orders bars offers stamp long are only asks =
    record { within = offers_within s s orders bars offers refl are; answers = tt; changes = tt }
asks_after Anyone (CandidatesOf list) s orders bars offers stamp long are only asks = absurd asks
asks_after (CandidatesOf places) Anyone s orders bars offers stamp long are only asks = absurd asks
asks_after (CandidatesOf places) (CandidatesOf list) s orders bars offers stamp long are only asks =
    let old = places.items ++ offers in
    let along = offered_along offers stamp s in
    let made = offered_there s s orders bars offers stamp long refl are in
    let there = names_along s offers stamp old list.items asks.0 in
    record {
      within = offers_within s s orders bars offers refl are;
      answers = (
        there.within,
        others_stay along (auto_all along stamp) old list.items there
            (answered_but s along orders bars places.items offers old stamp long made are refl (only stamp).1),
      );
      changes = (
        asks.0.within,
        others_stay s (auto_all along stamp) old list.items asks.0
            (same_but s along (auto_all along stamp) s orders bars places.items offers old stamp long made refl refl are
            refl (only stamp).1),
      );
    }

-- the offers and the answers leave the dossier
pub along_closed : (s close : State) (offers : List ℕ) (stamp : Stamp)
    → close ≡ auto_all (offered_along offers stamp s) stamp → close.dossier ≡ s.dossier
along_closed s close offers stamp closes =
    ap (λ (t : State). t.dossier) closes ∙ along_dossier (λ w m. changed_to Offered stamp m) offers s

-- where all have been answered for, the answers change nobody
pub only_none : (s : State) (none : Who) → is_nobody none ≡ true → IsAnswered s → AnswersOnly none s
only_none s Anyone empty answered = absurd (false≢true empty)
only_none s (CandidatesOf places) empty answered =
    λ stamp. (nobody_of (CandidatesOf places) s.dossier empty, answered_all s answered places.items stamp)

-- behind a morning those are left whom it touched, where all had been answered for
pub left_only : (was_settled : Bool) (touched : Vec ℕ Global) (s m : State)
    → (was_settled ≡ true → IsAnswered s) → TouchesOnly touched.items s m
    → AnswersOnly (if was_settled then CandidatesOf touched else Anyone) m
left_only true touched s m answered touches stamp = (touches.within, touches.answered (answered refl) stamp)
left_only false touched s m answered touches stamp = tt

-- and no others changed
pub touched_moved : (touched : Vec ℕ Global) (s m : State) → m.dossier ≡ s.dossier
    → TouchesOnly touched.items s m → ChangesOnly (CandidatesOf touched) s m
touched_moved touched s m same touches =
    (subst (λ (d : DossierRows). AreWishesOf d touched.items) same touches.within, touches.others)
