-- Passes of a day whose falls are kept or left out.
use Rattle.std.proofs.Common.{ℕ, ◌+◌, ◌<◌, ◌≤◌, ◌≡◌, not, Bool, true, false, List, [], ◌∷◌, ◌++◌, length, map, refl}
use Rattle.std.proofs.Common.{sym, ◌∙◌, ap}
use Rattle.std.specs.Prelude.{IsTrue, if◌then◌else◌}
use Rattle.std.proofs.lemmas.Bool.{not_from_false}
use Rattle.std.proofs.lemmas.List.{append-nil, map-append}
use Rattle.admit_core.specs.declared.ranking.CallOrder.{CallOrder}
use Rattle.admit_core.specs.declared.records.PassEnd.{PassEnd}
use Rattle.admit_core.specs.declared.records.PassRecord.{PassRecord}
use Rattle.admit_core.specs.declared.state.Stamp.{Stamp}
use Rattle.admit_core.specs.Days.{frees_nothing}
use Rattle.admit_core.specs.Proposals.{proposed}
use Rattle.admit_core.specs.State.{State}
use Rattle.round.specs.KeptFalls.{IsKeptOf, IsPassOffered, kept_pass}
use Rattle.desk_day.specs.DayPasses.{AreChosenPasses, open_wishes, schools_of_passes, stamp_of}
use Rattle.desk_day.specs.KeptDays.{ArePassesPicked, IsPassPicked, kept_end}
use Rattle.desk_day.specs.Running.{RunningStates}
use Rattle.desk_day.specs.Telling.{Telling}
use Rattle.desk_day.proofs.PassesSoFar.{SoFar, chosen_more, so_far_end, so_far_more, so_far_none, told_more}

-- what is kept of a pass offers what the pass does
pub offered_when_made : (keeps : Bool) {s new : State} {orders : List CallOrder} {ceilings : List ℕ} {stamp : Stamp}
    {telling : Telling} {found : PassRecord}
    → (is : IsKeptOf (kept_pass keeps) (IsPassOffered s new orders ceilings stamp telling) found)
    → found.offers ≡ proposed s orders is.0.bars
offered_when_made keeps is =
    ap (λ (p : PassRecord). p.offers) is.2 ∙ is.1.by.is_pass.offers

-- one more is kept
pub kept_more : {A B : Type 0} (keep : A → B) (whole : List A) (one : A) (kept more : List B) (last : B)
    → kept ≡ map keep whole → last ≡ keep one → more ≡ kept ++ last ∷ [] → more ≡ map keep (whole ++ one ∷ [])
kept_more keep whole one kept more last are is pushed =
    pushed ∙ ap (λ xs. xs ++ last ∷ []) are ∙ ap (λ x. map keep whole ++ x ∷ []) is
    ∙ sym (map-append keep whole (one ∷ []))

-- the passes before the one with this stamp, none of which was the last, and what the picker was asked and told
pub record PickedSoFar (orders : List CallOrder) (ceilings : List ℕ) (next : Stamp) (start now : State)
    (telling : Telling) (passes : List PassEnd) : Type 0 where
  pub so_far : SoFar orders ceilings next.day next.pass start now passes
  pub chosen : AreChosenPasses orders ceilings (stamp_of next.day 1) start telling.choice telling.before passes
  pub told_of : telling.after ≡ telling.before ++ schools_of_passes passes

-- none is made yet
pub picked_none : (keeps : Bool) (orders : List CallOrder) (ceilings : List ℕ) (day : ℕ) (s : State)
    (choice : List ℕ → List ℕ → ℕ) (told : List ℕ) (kept : List PassEnd) → kept ≡ []
    → length s.marks ≡ length s.dossier.wishes → open_wishes s ≤ length s.dossier.wishes
    → IsKeptOf (map (kept_end keeps)) (PickedSoFar orders ceilings (stamp_of day 1) s s
    (record { before = told; after = told; choice = choice })) kept
picked_none keeps orders ceilings day s choice told kept none long few = (
  [],
  record {
    so_far = so_far_none orders ceilings day s [] refl long few;
    chosen = tt;
    told_of = sym (append-nil told);
  },
  none,
)

-- one more
module _ (keeps : Bool) {orders : List CallOrder} {ceilings : List ℕ} {day number : ℕ} {start now : State}
    {choice choice_now : List ℕ → List ℕ → ℕ} {told told_now told_next : List ℕ} {kept more : List PassEnd}
    {end : PassEnd} {after : RunningStates}
    (so_far : IsKeptOf (map (kept_end keeps))
    (PickedSoFar orders ceilings (stamp_of day number) start now
    (record { before = told; after = told_now; choice = choice })) kept)
    (picked : IsKeptOf (kept_end keeps)
    (IsPassPicked orders ceilings (stamp_of day number) now
    (record { before = told_now; after = told_next; choice = choice_now }) after) end)
    (same : choice_now ≡ choice) (pushed : more ≡ kept ++ end ∷ []) where
  abbrev passes : List PassEnd
  passes = so_far.0

  abbrev pass : PassEnd
  pass = picked.0

  frees : frees_nothing pass.freed ≡ frees_nothing end.freed
  frees = ap (λ (e : PassEnd). frees_nothing e.freed) (sym picked.2)

  chosen : AreChosenPasses orders ceilings (stamp_of day 1) start choice told (passes ++ pass ∷ [])
  chosen = chosen_more orders ceilings day number start choice choice_now told told_now passes (passes ++ pass ∷ [])
      now pass so_far.1.so_far so_far.1.chosen so_far.1.told_of same picked.1.chosen refl

  told_of : told_next ≡ told ++ schools_of_passes (passes ++ pass ∷ [])
  told_of = told_more told told_now told_next passes (passes ++ pass ∷ []) pass so_far.1.told_of picked.1.told_of refl

  kept_all : more ≡ map (kept_end keeps) (passes ++ pass ∷ [])
  kept_all = kept_more (kept_end keeps) passes pass kept more end so_far.2 picked.2 pushed

  some : frees_nothing end.freed ≡ false → IsTrue (not (frees_nothing pass.freed))
  some none = not_from_false (frees_nothing pass.freed) (frees ∙ none)

  -- that freed something
  pub picked_fewer : frees_nothing end.freed ≡ false → open_wishes after.present < open_wishes now
  picked_fewer none = picked.1.made.fewer (some none)

  pub picked_opening : frees_nothing end.freed ≡ false → after.opening ≡ after.present
  picked_opening none =
      picked.1.made.opening ∙ ap (λ (last : Bool). if last then now else after.present) (frees ∙ none)

  pub picked_more : frees_nothing end.freed ≡ false → after.present.dossier ≡ now.dossier
      → IsKeptOf (map (kept_end keeps))
      (PickedSoFar orders ceilings (stamp_of day (number + 1)) start after.present
      (record { before = told; after = told_next; choice = choice })) more
  picked_more none there = (
    passes ++ pass ∷ [],
    record {
      so_far = so_far_more orders ceilings day number start now after.present passes (passes ++ pass ∷ []) pass
          so_far.1.so_far picked.1.made.ended (some none) picked.1.made.present (picked_fewer none)
          picked.1.made.marks there refl;
      chosen = chosen;
      told_of = told_of;
    },
    kept_all,
  )

  -- that freed nothing: it is the last one
  pub picked_all : frees_nothing end.freed ≡ true
      → IsKeptOf (map (kept_end keeps)) (ArePassesPicked orders ceilings day start
      (record { before = told; after = told_next; choice = choice }) after) more
  picked_all last =
      let all = so_far_end orders ceilings day number start now after.present passes (passes ++ pass ∷ []) pass
      so_far.1.so_far picked.1.made.ended (frees ∙ last) picked.1.made.present refl in (
        passes ++ pass ∷ [],
        record {
          made = record {
            passes = all.0;
            opening =
                picked.1.made.opening ∙ ap (λ (is : Bool). if is then now else after.present) (frees ∙ last)
                ∙ sym all.1;
            few = all.2;
          };
          told_of = told_of;
          chosen = chosen;
        },
        kept_all,
      )
