-- How a day ends with the picker of the day.
use Rattle.std.proofs.Common.{◌≡◌, ◌∙◌, ℕ, List, [], ◌∷◌, ◌++◌, Result, Ok, Err, ap, subst, sym}
use Rattle.std.proofs.lemmas.List.{append-nil}
use Rattle.admit_core.specs.Days.{ceilings_of, morning}
use Rattle.admit_core.specs.declared.records.DayRecord.{DayRecord}
use Rattle.desk_day.specs.DayPasses.{TellsMore, schools_of_passes}
use Rattle.desk_day.proofs.ToldPasses.{told_more}
use Rattle.desk_day.specs.RunDay.{IsDayDone}
use Rattle.desk_day.specs.declared.refusal.DayRefusal.{DayRefusal}
use Rattle.desk_day.specs.declared.refusal.DayRefusal.TheVariants as refusals
use Rattle.request.specs.Pickers.{picker_on}
use Rattle.request.specs.declared.pickers.PickerName.{PickerName}
use Rattle.played.specs.Lent.{Told, is_named, picked_by}
use Rattle.played.specs.OneDay.{DayEndsWith}
use Rattle.played.specs.PlayedDays.{EndsNext, IsNext, Plan, RunMoment, moment_of}
use Rattle.played.proofs.Naming.{OnlyNamed, each_named, named_self, picked_here, picked_none}

module _ (plan : Plan) (d : ℕ) (before after : RunMoment)
    (only : OnlyNamed (picker_on plan.who d) before.pickers after.pickers) where
  abbrev name : PickerName
  name = picker_on plan.who d

  abbrev Ends : Result DayRecord DayRefusal → Type 0
  Ends r = DayEndsWith plan.orders plan.terms d (moment_of plan d before.desk before.pickers)
      (moment_of plan d after.desk after.pickers) r

  choices : after.pickers.choice name ≡ before.pickers.choice name
      → (n : PickerName) → after.pickers.choice n ≡ before.pickers.choice n
  choices same = each_named (λ n. after.pickers.choice n ≡ before.pickers.choice n) name same only.choice

  more : TellsMore (before.pickers.told name) (after.pickers.told name)
      → (n : PickerName) → TellsMore (before.pickers.told n) (after.pickers.told n)
  more told = each_named (λ n. TellsMore (before.pickers.told n) (after.pickers.told n)) name told
      (λ other none. ([], only.told other none ∙ sym (append-nil (before.pickers.told other))))

  picked : (day : DayRecord) → day.day ≡ d → picked_by plan.who name (day ∷ []) ≡ schools_of_passes day.passes
  picked day number = picked_here plan.who name day
      (ap (λ n. is_named name (picker_on plan.who n)) number ∙ named_self name)

  -- what the pickers told on a day that came about
  told_on : (day : DayRecord) → day.day ≡ d
      → after.pickers.told name ≡ before.pickers.told name ++ schools_of_passes day.passes
      → Told plan.who (day ∷ []) before.pickers after.pickers
  told_on day number told =
      each_named (λ n. after.pickers.told n ≡ before.pickers.told n ++ picked_by plan.who n (day ∷ [])) name
      (told ∙ ap (λ l. before.pickers.told name ++ l) (sym (picked day number)))
      (λ other none.
      only.told other none ∙ sym (append-nil (before.pickers.told other))
      ∙ ap (λ l. before.pickers.told other ++ l)
      (sym (picked_none plan.who other day
      (ap (λ n. is_named other (picker_on plan.who n)) number ∙ none))))

  is_next : (day : DayRecord) → Ends (Ok day) → IsNext plan d before.desk before.pickers day after.desk
  is_next day ends =
      let P : List ℕ → (List ℕ → List ℕ → ℕ) → Type 0 =
      λ told choice. IsDayDone plan.terms plan.orders (ceilings_of before.desk.present.dossier d) d
      (moment_of plan d before.desk before.pickers) day (record { desk = after.desk; told = told; choice = choice }) in
      record {
        done = subst (λ choice. P (before.pickers.told name ++ picked_by plan.who name (day ∷ [])) choice) ends.choice
            (subst (λ told. P told (after.pickers.choice name)) (ends.done.rule.told
            ∙ ap (λ l. before.pickers.told name ++ l) (sym (picked day ends.done.rule.number))) ends.done);
        evening = ends.evening;
        dossier = ends.dossier;
      }

  pub ends_at : (r : Result DayRecord DayRefusal) → Ends r → EndsNext plan d before r after
  ends_at (Ok day) ends = record {
    done = is_next day ends;
    told = told_on day ends.done.rule.number ends.done.rule.told;
    unfit = tt;
    undone = tt;
    back = record { choice = choices ends.choice; told = more (schools_of_passes day.passes, ends.done.rule.told) };
  }
  ends_at (Err (refusals.Unfit refusal)) ends = record {
    done = tt;
    told = tt;
    unfit = ends.unfit;
    undone = each_named (λ n. after.pickers.told n ≡ before.pickers.told n) name ends.undone only.told;
    back = record {
      choice = choices ends.choice;
      told = more ([], ends.undone ∙ sym (append-nil (before.pickers.told name)));
    };
  }
  ends_at (Err refusals.OutOfMemory) ends = record {
    done = tt;
    told = tt;
    unfit = ends.unfit;
    undone = record { own = ends.undone; others = only.told; fits = ends.unfit };
    back = record {
      choice = choices ends.choice;
      told = more (told_more {s = morning plan.terms d before.desk.present} {orders = plan.orders}
          {ceilings = ceilings_of before.desk.present.dossier d} {day = d} {choice = before.pickers.choice name}
          {told = before.pickers.told name} {told_after = after.pickers.told name} ends.undone);
    };
  }

-- the same of a picker whose name was found
pub ends_next : (plan : Plan) (d : ℕ) (before after : RunMoment) (n : PickerName)
    (r : Result DayRecord DayRefusal) → n ≡ picker_on plan.who d → OnlyNamed n before.pickers after.pickers
    → DayEndsWith plan.orders plan.terms d
    (record { desk = before.desk; told = before.pickers.told n; choice = before.pickers.choice n })
    (record { desk = after.desk; told = after.pickers.told n; choice = after.pickers.choice n }) r
    → EndsNext plan d before r after
ends_next plan d before after n r is only ends =
    ends_at plan d before after (subst (λ x. OnlyNamed x before.pickers after.pickers) is only) r
    (subst
    (λ x. DayEndsWith plan.orders plan.terms d
    (record { desk = before.desk; told = before.pickers.told x; choice = before.pickers.choice x })
    (record { desk = after.desk; told = after.pickers.told x; choice = after.pickers.choice x }) r)
    is ends)
