-- The text of a mode whose days keep no falls is that of the days themselves.
use Rattle.std.proofs.Common.{◌≡◌, ◌∙◌, ℕ, Bool, List, Option, None, Some, Result, Ok, Err, ap, inl, inr, map, refl}
use Rattle.std.proofs.Common.{subst}
use Rattle.std.proofs.lemmas.Result.{IfOk-weaker, on_err_weaker}
use Rattle.admit_core.specs.Explanations.{LastPass}
use Rattle.admit_core.specs.declared.refusal.Refusal.{Refusal}
use Rattle.desk_day.specs.DeskStates.{DeskStates}
use Rattle.desk_day.specs.KeptDays.{kept_day}
use Rattle.explanations.specs.Sayings.{Explains}
use Rattle.played.proofs.KeptDays.{played_whole}
use Rattle.played.proofs.LastDay.{last_whole, pass_kept}
use Rattle.played.specs.KeptDays.{kept_played}
use Rattle.played.specs.Lent.{Lent}
use Rattle.played.specs.PlayedDays.{Played}
use Rattle.request.specs.declared.modes.Mode.{Mode}
use Rattle.request.specs.declared.modes.Mode.TheVariants as modes
use Rattle.request.specs.declared.pickers.PickerName.{PickerName}
use Rattle.modes.specs.LentPicker.{ArePicks, Asked, BreaksEnding, BreaksLent, BreaksPicks, TellsAfter, TellsLent}
use Rattle.modes.specs.AfterDays.{AfterDays, seen_after}
use Rattle.modes.specs.Beds.{IsAsked}
use Rattle.modes.specs.Endings.{EndsAfter, EndsWith, IsEndOf, IsRefusedWith, lines_before}
use Rattle.modes.specs.Explained.{IsExplained}
use Rattle.modes.specs.Jobs.{JobView, keeps_falls, picker_after}
use Rattle.modes.specs.declared.exit.Exit.{Exit}
use Rattle.modes.specs.declared.reply.Reply.{Reply}

-- what is asked of the last day
asked_whole : (keeps : Bool) (left : AfterDays) (school place : ℕ) (pass : LastPass)
    → IsAsked (record left { days = map (kept_day keeps) left.days }) school place pass
    → IsAsked left school place pass
asked_whole keeps left school place pass is =
    let last = last_whole keeps left.days is.day is.is_last in
    record {
      is_place = is.is_place;
      day = last.0;
      is_last = last.1;
      is_pass = is.is_pass ∙ pass_kept keeps left.dossier left.orders is.day last.0 left.desk last.2;
    }

explained_whole : (keeps : Bool) (left : AfterDays) (wish : ℕ) (text : List ℕ)
    → IsExplained (record left { days = map (kept_day keeps) left.days }) wish text → IsExplained left wish text
explained_whole keeps left wish text is =
    let last = last_whole keeps left.days is.day is.is_last in
    record {
      place = is.place;
      is_place = is.is_place;
      day = last.0;
      is_last = last.1;
      explanation = is.explanation;
      explains = subst (λ (pass : LastPass). Explains pass left.desk.present is.place is.explanation)
          (pass_kept keeps left.dossier left.orders is.day last.0 left.desk last.2) is.explains;
      is_line = is.is_line;
    }

-- what was played, by what its mode keeps of it
abbrev kept_in : Mode → Played → Played
kept_in mode whole = kept_played (keeps_falls mode) whole

module _ (view : JobView) (whole : Played) where
  end_whole : (mode : Mode) (desk : DeskStates) (exit : Exit) (text : List ℕ)
      → IsEndOf mode view (kept_in mode whole) desk exit text → IsEndOf mode view whole desk exit text
  end_whole modes.Replay desk exit text ends =
      subst (λ (p : Played). IsEndOf modes.Replay view p desk exit text) (played_whole whole) ends
  end_whole modes.Chain desk exit text ends =
      subst (λ (p : Played). IsEndOf modes.Chain view p desk exit text) (played_whole whole) ends
  end_whole (modes.Explain wish) desk exit text ends = (
    ends.0,
    explained_whole (keeps_falls (modes.Explain wish)) (seen_after view whole desk) wish text ends.1,
  )
  end_whole (modes.Beds school) desk exit text ends =
      let keeps = keeps_falls (modes.Beds school) in
      let tells = ends.1 in (
        ends.0,
        record {
          place = tells.place;
          pass = tells.pass;
          figures = tells.figures;
          is_asked = asked_whole keeps (seen_after view whole desk) school tells.place tells.pass tells.is_asked;
          is_text = tells.is_text;
        },
      )
  end_whole (modes.Sample number) desk exit text ends =
      subst (λ (p : Played). IsEndOf (modes.Sample number) view p desk exit text) (played_whole whole) ends
  end_whole _ desk exit text ends = ends

  lines_whole : (mode : Mode) → lines_before mode view (kept_in mode whole) ≡ lines_before mode view whole
  lines_whole modes.Replay = ap (λ (p : Played). lines_before modes.Replay view p) (played_whole whole)
  lines_whole _ = refl

  with_whole : (end : Result DeskStates Refusal) (exit : Exit) (text : List ℕ)
      → EndsWith end view (kept_in view.request.mode whole) exit text → EndsWith end view whole exit text
  with_whole (Ok desk) exit text ends = end_whole view.request.mode desk exit text ends
  with_whole (Err refusal) exit text ends =
      subst (λ (lines : List ℕ). IsRefusedWith refusal lines exit text) (lines_whole view.request.mode) ends

  -- what the picker tells that is lent
  picks_whole : (mode : Mode) (desk : DeskStates) (before : Asked) (picks : List ℕ)
      → ArePicks mode view (kept_in mode whole) desk before picks → ArePicks mode view whole desk before picks
  picks_whole (modes.Beds school) desk before picks are =
      let keeps = keeps_falls (modes.Beds school) in
      record {
        place = are.place;
        pass = are.pass;
        figures = are.figures;
        is_asked = asked_whole keeps (seen_after view whole desk) school are.place are.pass are.is_asked;
        are_figures = are.are_figures;
        tells = are.tells;
      }
  picks_whole _ desk before picks are = are

  lent_whole : (name : Option PickerName) (desk : DeskStates) (before after : Lent)
      → TellsLent name (ArePicks view.request.mode view (kept_in view.request.mode whole) desk) before after
      → TellsLent name (ArePicks view.request.mode view whole desk) before after
  lent_whole None desk before after tells = tt
  lent_whole (Some name) desk before after tells =
      (tells.0, picks_whole view.request.mode desk _ tells.0 tells.1, tells.2)

  tells_whole : (end : Result DeskStates Refusal) (before after : Lent)
      → TellsAfter end view (kept_in view.request.mode whole) before after → TellsAfter end view whole before after
  tells_whole (Ok desk) before after tells = lent_whole (picker_after view.request) desk before after tells
  tells_whole (Err refusal) before after tells = tells

  -- what it told where memory ran out
  broken_whole : (mode : Mode) (desk : DeskStates) (before : Asked) (told : List ℕ)
      → BreaksPicks mode view (kept_in mode whole) desk before told → BreaksPicks mode view whole desk before told
  broken_whole (modes.Beds school) desk before told (inl same) = inl same
  broken_whole (modes.Beds school) desk before told (inr breaks) =
      let keeps = keeps_falls (modes.Beds school) in
      inr (record {
        place = breaks.place;
        pass = breaks.pass;
        is_asked = asked_whole keeps (seen_after view whole desk) school breaks.place breaks.pass breaks.is_asked;
        breaks = breaks.breaks;
      })
  broken_whole _ desk before told breaks = breaks

  broken_lent : (name : Option PickerName) (desk : DeskStates) (before after : Lent)
      → BreaksLent name (BreaksPicks view.request.mode view (kept_in view.request.mode whole) desk) before after
      → BreaksLent name (BreaksPicks view.request.mode view whole desk) before after
  broken_lent None desk before after breaks = tt
  broken_lent (Some name) desk before after breaks =
      broken_whole view.request.mode desk _ (after.told name) breaks

  breaks_whole : (end : Result DeskStates Refusal) (before after : Lent)
      → BreaksEnding end view (kept_in view.request.mode whole) before after → BreaksEnding end view whole before after
  breaks_whole (Ok desk) before after breaks = broken_lent (picker_after view.request) desk before after breaks
  breaks_whole (Err refusal) before after breaks = breaks

  kept_after : {E : Type 0} (between after : Lent) (result : Result Reply E)
      → EndsAfter whole.end view (kept_in view.request.mode whole) between after result
      → EndsAfter whole.end view whole between after result
  kept_after between after result ends = record {
    ends = IfOk-weaker result _ _ (λ reply is. with_whole whole.end reply.exit reply.text.items is) ends.ends;
    tells = IfOk-weaker result _ _ (λ reply is. tells_whole whole.end between after is) ends.tells;
    breaks = on_err_weaker result (λ is. breaks_whole whole.end between after is) ends.breaks;
    lends = ends.lends;
  }

-- how a run ends after days of which its mode keeps what it tells
pub ends_after_whole : {E : Type 0} (view : JobView) (kept whole : Played) (between after : Lent)
    (result : Result Reply E)
    → kept ≡ kept_played (keeps_falls view.request.mode) whole
    → EndsAfter kept.end view kept between after result → EndsAfter whole.end view whole between after result
ends_after_whole view kept whole between after result same ends =
    kept_after view whole between after result
    (subst (λ (p : Played). EndsAfter p.end view p between after result) same ends)
