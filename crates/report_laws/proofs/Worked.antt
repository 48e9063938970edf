-- The worked cases, by computation.
use Rattle.std.proofs.Common.{◌≡◌, ℕ, ◌<◌, ◌≤◌, true, List, [], ◌∷◌, All, arith, ap, get_or, length, map, nat_eq}
use Rattle.std.proofs.Common.{nat_le, nat_lt, negsuc, refl, rules, subst, sym}
use Rattle.std.specs.Prelude.{slice_index_or}
use Rattle.std.specs.List.{IsDistinct, list_all}
use Rattle.std.proofs.lemmas.Bool.{leb-true, ltb-true}
use Rattle.std.proofs.lemmas.List.Elements.{All-cons, All-nil}
use Rattle.std.proofs.lemmas.List.Sums.{AllPass-from_list_all}
use Rattle.jiff_core.proofs.SignedLemmas.{signed_arith}
use Rattle.admit_core.proofs.SmallDossier.{small_dossier_holds}
use Rattle.admit_core.specs.DossierRows.{DossierRows}
use Rattle.admit_core.specs.WorkedRows.{cascade, first_pass, greatest_bar, greatest_bar_day, nothing_freed, old_offer}
use Rattle.admit_core.specs.WorkedRows.{realistic, realistic_days, realistic_order, rows, school, small_dossier, terms}
use Rattle.admit_core.specs.WorkedRows.{the_fall, two_offers}
use Rattle.admit_core.specs.declared.ranking.CallOrder.{CallOrder}
use Rattle.admit_core.specs.declared.records.DayRecord.{DayRecord}
use Rattle.admit_core.specs.declared.records.Fall.{Fall}
use Rattle.admit_core.specs.declared.records.Lapse.{Lapse}
use Rattle.admit_core.specs.declared.records.PassEnd.{PassEnd}
use Rattle.admit_core.specs.declared.state.Change.{Change}
use Rattle.admit_core.specs.declared.state.Freed.{Freed}
use Rattle.admit_core.specs.declared.state.Stamp.{Stamp}
use Rattle.admit_core.specs.declared.state.Status.TheVariants.{Accepted}
use Rattle.report.specs.DayText.{IsLapseOf}
use Rattle.report.specs.WorkedTexts.{june, lapsing_day}
use Rattle.report_laws.specs.Days.{IsDated, IsUndated}
use Rattle.report_laws.specs.Told.{HasNames, HasNumbers, IsNumberEach, IsSmall, IsToldAuto, IsToldFall, IsToldFreed}
use Rattle.report_laws.specs.Told.{IsToldPass, IsWishOf}
use Rattle.report_laws.specs.Witnesses.{AutosAreToldWitness, BarsAreToldWitness, DatedDaysAreToldWitness}
use Rattle.report_laws.specs.Witnesses.{DatedRunsAreToldWitness, DaysAreToldWitness, EveningsAreToldWitness}
use Rattle.report_laws.specs.Witnesses.{FallsAreToldWitness, FreedIsToldWitness, LapsesAreToldWitness}
use Rattle.report_laws.specs.Witnesses.{OffersAreToldWitness, OrdersAreToldWitness, PassesAreToldWitness}
use Rattle.report_laws.specs.Witnesses.{RunsAreToldWitness, SharedIdsHideFalls, ValidDossiersHaveNamesWitness}
use Rattle.report_laws.specs.Witnesses.{lapsed_run, quiet_day, realistic_run, rules_day, unstamped_run, written_pass}
use Rattle.report_laws.specs.Whole.{AreToldOrders, IsDatedRunOf, IsRunOf}
use Rattle.report_laws.proofs.Whole.{orders_are_told, runs_are_told}
use Rattle.report_laws.proofs.WholeDated.{dated_runs_are_told}
use Rattle.report_laws.proofs.Telling.{autos_are_told, bars_are_told, dated_days_are_told, days_are_told}
use Rattle.report_laws.proofs.Telling.{evenings_are_told, falls_are_told, freed_is_told, lapses_are_told, names_of}
use Rattle.report_laws.proofs.Telling.{offers_are_told, passes_are_told}

-- ---- tests that compute
small_by : (ns : List ℕ) → list_all (λ n. nat_le n 4294967295) ns ≡ true → All IsSmall ns
small_by ns t k d lt =
    leb-true (get_or ns k d) 4294967295 (AllPass-from_list_all (λ n. nat_le n 4294967295) ns t k d lt)

within_by : (limit : ℕ) (ns : List ℕ) → list_all (λ n. nat_lt n limit) ns ≡ true → All (λ n. n < limit) ns
within_by limit ns t k d lt = ltb-true (get_or ns k d) limit (AllPass-from_list_all (λ n. nat_lt n limit) ns t k d lt)

each_by : {X : Type 0} (items : List X) (ns : List ℕ) → length ns ≡ length items
    → list_all (λ n. nat_le n 4294967295) ns ≡ true → IsNumberEach items ns
each_by items ns long t = record { one_each = long; small = small_by ns t }

names_by : (d : DossierRows) → list_all (λ n. nat_le n 4294967295) (map (λ g. g.id) d.groups) ≡ true
    → list_all (λ n. nat_le n 4294967295) (map (λ p. p.id) d.programmes) ≡ true
    → list_all (λ n. nat_le n 4294967295) (map (λ h. h.id) d.schools) ≡ true
    → list_all (λ n. nat_le n 4294967295) (map (λ w. w.id) d.wishes) ≡ true
    → IsDistinct nat_eq (map (λ g. g.id) d.groups) → IsDistinct nat_eq (map (λ p. p.id) d.programmes)
    → IsDistinct nat_eq (map (λ h. h.id) d.schools)
    → IsDistinct nat_eq (map (λ w. w.id) d.wishes) → HasNames d
names_by d groups programmes schools wishes alone apart beside own = record {
  groups = record { small = small_by (map (λ g. g.id) d.groups) groups; distinct = alone };
  programmes = record { small = small_by (map (λ p. p.id) d.programmes) programmes; distinct = apart };
  schools = record { small = small_by (map (λ h. h.id) d.schools) schools; distinct = beside };
  wishes = record { small = small_by (map (λ w. w.id) d.wishes) wishes; distinct = own };
}

fall_by : (d : DossierRows) (fall : Fall) → fall.school < length d.schools
    → list_all (λ w. nat_lt w (length d.wishes)) fall.wishes ≡ true
    → IsSmall fall.from → IsSmall fall.to → IsToldFall d fall
fall_by d fall school wishes from to = record {
  places = record { school = school; wishes = within_by (length d.wishes) fall.wishes wishes };
  from = from;
  to = to;
}

pub names_witness : ValidDossiersHaveNamesWitness
names_witness = (small_dossier_holds, names_of small_dossier small_dossier_holds)

-- ---- lines
cascade_names : HasNames cascade.dossier
unfolding IsDistinct
cascade_names = names_by cascade.dossier refl refl refl refl (search rules) (search rules)
    (search rules) (search rules)

second_fall : Fall
second_fall = record { school = 1; from = 9; to = 1; wishes = 2 ∷ 3 ∷ [] }

cascade_fall : IsToldFall cascade.dossier second_fall
unfolding second_fall
cascade_fall = fall_by cascade.dossier second_fall (omega arith) refl (omega arith) (omega arith)

pub falls_witness : FallsAreToldWitness
unfolding second_fall
falls_witness = (
  cascade_names,
  cascade_fall,
  cascade_fall,
  refl,
  falls_are_told cascade.dossier second_fall second_fall cascade_names cascade_fall cascade_fall refl,
)

pub offers_witness : OffersAreToldWitness
offers_witness =
    let within : 4 < 5 = omega arith in
    (cascade_names, within, within, refl, offers_are_told cascade.dossier 4 4 cascade_names within within refl)

offers_names : HasNames two_offers.dossier
unfolding IsDistinct
offers_names = names_by two_offers.dossier refl refl refl refl (search rules) (search rules)
    (search rules) (search rules)

pub autos_witness : AutosAreToldWitness
autos_witness =
    let within : 1 < 3 = omega arith in
    let accepted : Change = record { wish = 1; status = Accepted } in (
      offers_names,
      within,
      within,
      refl,
      autos_are_told two_offers.dossier accepted accepted offers_names within
          within refl,
    )

pub freed_witness : FreedIsToldWitness
freed_witness =
    let one : Freed = record { seats = 1; beds = 0 } in
    let small : IsToldFreed one = record { seats = omega arith; beds = omega arith } in
    (small, small, refl, freed_is_told one one small small refl)

old_names : HasNames old_offer.dossier
unfolding IsDistinct
old_names = names_by old_offer.dossier refl refl refl refl (search rules) (search rules)
    (search rules) (search rules)

old_lapse : Lapse
old_lapse = record { wish = 0; offered = negsuc 0 }

lapse_in : IsLapseOf old_offer.dossier june 1 old_lapse
unfolding old_lapse
lapse_in = record {
  wish = omega arith;
  offered = (omega (arith, signed_arith), omega (arith, signed_arith));
  deadline = omega (arith, signed_arith);
}

pub lapses_witness : LapsesAreToldWitness
unfolding old_lapse
lapses_witness = (
  old_names,
  lapse_in,
  lapse_in,
  refl,
  lapses_are_told old_offer.dossier june 1 old_lapse old_lapse old_names lapse_in lapse_in refl,
)

-- ---- passes and days
bar_names : HasNames greatest_bar.dossier
unfolding IsDistinct
bar_names = names_by greatest_bar.dossier refl refl refl refl (search rules) (search rules)
    (search rules) (search rules)

bars_each : IsNumberEach greatest_bar.dossier.schools (2 ∷ [])
bars_each = each_by greatest_bar.dossier.schools (2 ∷ []) refl refl

pub bars_witness : BarsAreToldWitness
bars_witness = (
  bar_names,
  bars_each,
  bars_each,
  refl,
  bars_are_told greatest_bar.dossier (2 ∷ []) (2 ∷ []) bar_names bars_each bars_each refl,
)

evening_numbers : HasNumbers greatest_bar.dossier greatest_bar_day
evening_numbers = record {
  left = each_by greatest_bar.dossier.programmes (0 ∷ 1 ∷ []) refl refl;
  free = each_by greatest_bar.dossier.schools (0 ∷ []) refl refl;
}

quiet_numbers : HasNumbers greatest_bar.dossier quiet_day
quiet_numbers = record { left = evening_numbers.left; free = evening_numbers.free }

rules_numbers : HasNumbers greatest_bar.dossier rules_day
rules_numbers = record { left = evening_numbers.left; free = evening_numbers.free }

pub evenings_witness : EveningsAreToldWitness
evenings_witness =
    let told = evenings_are_told greatest_bar.dossier rules_day quiet_day bar_names rules_numbers quiet_numbers refl in
    (bar_names, rules_numbers, quiet_numbers, refl, told.0, told.1)

abbrev bar_fall : Fall
bar_fall = record { school = 0; from = 10; to = 2; wishes = 0 ∷ 2 ∷ [] }

bar_fall_in : IsToldFall greatest_bar.dossier bar_fall
bar_fall_in = fall_by greatest_bar.dossier bar_fall (omega arith) refl (omega arith) (omega arith)

pass_in : IsToldPass greatest_bar.dossier written_pass
pass_in = record {
  falls =
      All-cons (IsToldFall greatest_bar.dossier) bar_fall [] bar_fall_in (All-nil (IsToldFall greatest_bar.dossier));
  bars = bars_each;
  offers = within_by 3 (0 ∷ []) refl;
  autos = All-nil (IsToldAuto greatest_bar.dossier);
  freed = record { seats = omega arith; beds = omega arith };
}

pub passes_witness : PassesAreToldWitness
passes_witness =
    let small : 1 ≤ 4294967295 = omega arith in
    let told = passes_are_told greatest_bar.dossier 1 1 written_pass written_pass bar_names small small pass_in
    pass_in refl in
    (bar_names, small, small, pass_in, pass_in, refl, told.0, told.1)

first_in : IsUndated greatest_bar.dossier greatest_bar_day
first_in = record {
  day = record {
    day = omega arith;
    passes = All-cons (IsToldPass greatest_bar.dossier) written_pass [] pass_in
        (All-nil (IsToldPass greatest_bar.dossier));
    evening = evening_numbers;
  };
  no_lapse = refl;
}

second_in : IsUndated greatest_bar.dossier quiet_day
second_in = record {
  day = record {
    day = omega arith;
    passes =
        All-cons (IsToldPass greatest_bar.dossier) (record {
          pass = record
              { bars = 10 ∷ []; falls = []; offers = [] };
          autos = [];
          freed = nothing_freed;
        }) [] (record {
          falls = All-nil (IsToldFall greatest_bar.dossier);
          bars = each_by greatest_bar.dossier.schools (10 ∷ []) refl refl;
          offers = All-nil (IsWishOf greatest_bar.dossier);
          autos = All-nil (IsToldAuto greatest_bar.dossier);
          freed = record { seats = omega arith; beds = omega arith };
        }) (All-nil (IsToldPass greatest_bar.dossier));
    evening = quiet_numbers;
  };
  no_lapse = refl;
}

both_in : All (IsUndated greatest_bar.dossier) (greatest_bar_day ∷ quiet_day ∷ [])
both_in =
    All-cons (IsUndated greatest_bar.dossier) greatest_bar_day (quiet_day ∷ []) first_in
    (All-cons (IsUndated greatest_bar.dossier) quiet_day [] second_in (All-nil (IsUndated greatest_bar.dossier)))

pub days_witness : DaysAreToldWitness
days_witness = (
  bar_names,
  both_in,
  both_in,
  refl,
  days_are_told greatest_bar.dossier (greatest_bar_day ∷ quiet_day ∷ []) (greatest_bar_day ∷ quiet_day ∷ []) bar_names
      both_in both_in refl,
)

lapsing_in : IsDated old_offer.dossier june 1 (lapsing_day 1 (negsuc 0))
unfolding old_lapse
lapsing_in = record {
  day = record {
    day = omega arith;
    passes =
        All-cons (IsToldPass old_offer.dossier) (record {
          pass = record { bars = []; falls = []; offers = 1 ∷ [] };
          autos = [];
          freed = nothing_freed;
        }) [] (record {
          falls = All-nil (IsToldFall old_offer.dossier);
          bars = each_by old_offer.dossier.schools [] refl refl;
          offers = within_by 2 (1 ∷ []) refl;
          autos = All-nil (IsToldAuto old_offer.dossier);
          freed = record { seats = omega arith; beds = omega arith };
        }) (All-nil (IsToldPass old_offer.dossier));
    evening = record {
      left = each_by old_offer.dossier.programmes (0 ∷ []) refl refl;
      free = each_by old_offer.dossier.schools [] refl refl;
    };
  };
  lapses = All-cons (IsLapseOf old_offer.dossier june 1) old_lapse [] lapse_in
      (All-nil (IsLapseOf old_offer.dossier june 1));
}

lapsing_all : All (IsDated old_offer.dossier june 1) (lapsing_day 1 (negsuc 0) ∷ [])
lapsing_all =
    All-cons (IsDated old_offer.dossier june 1) (lapsing_day 1 (negsuc 0)) [] lapsing_in
    (All-nil (IsDated old_offer.dossier june 1))

pub dated_days_witness : DatedDaysAreToldWitness
dated_days_witness =
    let days : List DayRecord = lapsing_day 1 (negsuc 0) ∷ [] in (
      old_names,
      lapsing_all,
      lapsing_all,
      refl,
      dated_days_are_told old_offer.dossier june 1 days days old_names lapsing_all lapsing_all refl,
    )

-- ---- two days of a realistic dossier
autos_by : (d : DossierRows) (autos : List Change) → list_all (λ c. nat_lt c.wish (length d.wishes)) autos ≡ true
    → All (IsToldAuto d) autos
autos_by d autos t k c lt =
    ltb-true (get_or autos k c).wish (length d.wishes)
    (AllPass-from_list_all (λ (x : Change). nat_lt x.wish (length d.wishes)) autos t k c lt)

pass_by : (d : DossierRows) (end : PassEnd) → All (IsToldFall d) end.pass.falls
    → length end.pass.bars ≡ length d.schools
    → list_all (λ n. nat_le n 4294967295) end.pass.bars ≡ true
    → list_all (λ n. nat_lt n (length d.wishes)) end.pass.offers ≡ true
    → list_all (λ c. nat_lt c.wish (length d.wishes)) end.autos ≡ true → IsToldFreed end.freed → IsToldPass d end
pass_by d end falls long bars offers autos freed = record {
  falls = falls;
  bars = each_by d.schools end.pass.bars long bars;
  offers = within_by (length d.wishes) end.pass.offers offers;
  autos = autos_by d end.autos autos;
  freed = freed;
}

realistic_names : HasNames realistic
unfolding IsDistinct
realistic_names = names_by realistic refl refl refl refl (search rules) (search rules)
    (search rules) (search rules)

some_fall : All (IsToldFall realistic) (the_fall ∷ [])
some_fall =
    All-cons (IsToldFall realistic) the_fall []
    (fall_by realistic the_fall (omega arith) refl (omega arith) (omega arith))
    (All-nil (IsToldFall realistic))

no_falls : All (IsToldFall realistic) []
no_falls = All-nil (IsToldFall realistic)

realistic_numbers : (day : DayRecord) → day.left ≡ 0 ∷ 0 ∷ [] → day.free ≡ 0 ∷ [] → HasNumbers realistic day
realistic_numbers day left free = record {
  left = subst (IsNumberEach realistic.programmes) (sym left) (each_by realistic.programmes (0 ∷ 0 ∷ []) refl refl);
  free = subst (IsNumberEach realistic.schools) (sym free) (each_by realistic.schools (0 ∷ []) refl refl);
}

abbrev realistic_day : ℕ → DayRecord
realistic_day k = slice_index_or realistic_days k quiet_day

abbrev realistic_pass : ℕ → ℕ → PassEnd
realistic_pass k j = slice_index_or (realistic_day k).passes j written_pass

freed_some : IsToldFreed (record { seats = 1; beds = 0 })
freed_some = record { seats = omega arith; beds = omega arith }

freed_none : IsToldFreed nothing_freed
freed_none = record { seats = omega arith; beds = omega arith }

first_passes : All (IsToldPass realistic) (realistic_day 0).passes
first_passes =
    All-cons (IsToldPass realistic) (realistic_pass 0 0) (realistic_pass 0 1 ∷ [])
    (pass_by realistic (realistic_pass 0 0) no_falls refl refl refl refl freed_some)
    (All-cons (IsToldPass realistic) (realistic_pass 0 1) []
    (pass_by realistic (realistic_pass 0 1) some_fall refl refl refl refl freed_none) (All-nil (IsToldPass realistic)))

second_passes : All (IsToldPass realistic) (realistic_day 1).passes
second_passes =
    All-cons (IsToldPass realistic) (realistic_pass 1 0) []
    (pass_by realistic (realistic_pass 1 0) no_falls refl refl refl refl freed_none) (All-nil (IsToldPass realistic))

first_undated : IsUndated realistic (realistic_day 0)
first_undated = record {
  day = record { day = omega arith; passes = first_passes; evening = realistic_numbers (realistic_day 0) refl refl };
  no_lapse = refl;
}

second_undated : IsUndated realistic (realistic_day 1)
second_undated = record {
  day = record { day = omega arith; passes = second_passes; evening = realistic_numbers (realistic_day 1) refl refl };
  no_lapse = refl;
}

realistic_in : All (IsUndated realistic) realistic_days
realistic_in =
    All-cons (IsUndated realistic) (realistic_day 0) (realistic_day 1 ∷ []) first_undated
    (All-cons (IsUndated realistic) (realistic_day 1) [] second_undated (All-nil (IsUndated realistic)))

realistic_orders : AreToldOrders realistic (realistic_order ∷ [])
realistic_orders = record {
  one_each = refl;
  candidates = All-cons (λ (o : CallOrder). All IsSmall o.list) realistic_order []
      (small_by (102 ∷ 101 ∷ 103 ∷ 104 ∷ []) refl) (All-nil (λ (o : CallOrder). All IsSmall o.list));
}

pub orders_witness : OrdersAreToldWitness
orders_witness = (
  realistic_names,
  realistic_orders,
  realistic_orders,
  refl,
  orders_are_told realistic (realistic_order ∷ []) (realistic_order ∷ [])
      realistic_names realistic_orders realistic_orders refl,
)

run_in : IsRunOf realistic realistic_run
run_in = record { told_orders = realistic_orders; told_days = realistic_in; same_dossier = refl }

other_in : IsRunOf realistic unstamped_run
other_in = record { told_orders = realistic_orders; told_days = realistic_in; same_dossier = refl }

pub runs_witness : RunsAreToldWitness
runs_witness =
    let told = runs_are_told realistic realistic_run unstamped_run realistic_names run_in other_in refl in
    (realistic_names, run_in, other_in, refl, told.0, told.1, told.2)

dated_run_in : (stamp : Stamp) → IsDatedRunOf old_offer.dossier june 1 (lapsed_run stamp)
dated_run_in stamp = record {
  told_orders = record { one_each = refl; candidates = All-nil (λ (o : CallOrder). All IsSmall o.list) };
  told_days = lapsing_all;
  same_dossier = refl;
}

pub dated_runs_witness : DatedRunsAreToldWitness
dated_runs_witness =
    let early : Stamp = record { day = 1; pass = 0 } in
    let one = dated_run_in early in
    let other = dated_run_in first_pass in
    let told = dated_runs_are_told old_offer.dossier june 1 (terms 1).before (lapsed_run early) (lapsed_run first_pass)
    old_names one other refl in
    (old_names, one, other, refl, told.0, told.1, told.2)

pub shared_ids : SharedIdsHideFalls
shared_ids =
    let twins : DossierRows = rows [] (school 5 1 9 ∷ school 5 1 9 ∷ []) [] [] in (
      fall_by twins (record { school = 0; from = 9; to = 2; wishes = [] }) (omega arith) refl (omega arith)
          (omega arith),
      fall_by twins (record { school = 1; from = 9; to = 2; wishes = [] }) (omega arith) refl (omega arith)
          (omega arith),
      refl,
      λ e. let same : 0 ≡ 1 = ap (λ (f : Fall). f.school) e in absurd (omega arith),
    )
