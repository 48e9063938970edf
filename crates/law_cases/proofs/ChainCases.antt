-- The witnesses of the laws of written chains, by computation and by the laws.
use Rattle.std.proofs.Common.{◌≡◌, Bool, true, ◌&&◌, List, [], ◌∷◌, refl, lit≤, None, length, nat_lt}
use Rattle.std.specs.Prelude.{nat_le}
use Rattle.std.specs.List.{All, list_all}
use Rattle.std.proofs.lemmas.Bool.{and_parts, leb-true, ltb-true}
use Rattle.admit_core.specs.declared.ranking.CallOrder.{CallOrder}
use Rattle.admit_core.specs.declared.records.DayRecord.{DayRecord}
use Rattle.admit_core.specs.declared.records.Fall.{Fall}
use Rattle.admit_core.specs.declared.records.PassEnd.{PassEnd}
use Rattle.admit_core.specs.State.{State}
use Rattle.admit_core.specs.WorkedRows.{last_marks, realistic, realistic_days, realistic_order}
use Rattle.admit_core.proofs.Rows.{two_days_hold}
use Rattle.certificate.specs.Written.{CanBeTold, DayCanBeTold, HasFewPasses, PassCanBeTold}
use Rattle.certificate.proofs.ReadBack.{reads_back}
use Rattle.chain_laws.proofs.ValidDays.{own_chains_are_proved}
use Rattle.law_cases.specs.WrittenChains.{OwnChainsAreProvedWitness, ReadsBackWitness}
use Rattle.law_cases.proofs.Tested.{all_by}
use Rattle.law_cases.proofs.Valid.{valid_by}

abbrev fall_test : Fall → Bool
fall_test fall = nat_le fall.from 4294967295 && (nat_le fall.to 4294967295 && nat_lt 0 (length fall.wishes))

fall_by : (fall : Fall) → fall_test fall ≡ true → CanBeTold fall
fall_by fall t =
    let parts = and_parts (nat_le fall.from 4294967295) _ t in
    let back = and_parts (nat_le fall.to 4294967295) _ parts.1 in
    record {
      from = leb-true fall.from 4294967295 parts.0;
      to = leb-true fall.to 4294967295 back.0;
      some = ltb-true 0 (length fall.wishes) back.1;
    }

abbrev passes_test : PassEnd → Bool
passes_test end = list_all fall_test end.pass.falls

passes_by : (end : PassEnd) → passes_test end ≡ true → PassCanBeTold end
passes_by end t = all_by CanBeTold fall_test fall_by end.pass.falls t

abbrev few_test : DayRecord → Bool
few_test day = nat_le (length day.passes) 4294967295

few_by : (day : DayRecord) → few_test day ≡ true → HasFewPasses day
few_by day t = leb-true (length day.passes) 4294967295 t

abbrev day_test : DayRecord → Bool
day_test day = list_all passes_test day.passes && few_test day

day_by : (day : DayRecord) → day_test day ≡ true → DayCanBeTold day
day_by day t =
    let parts = and_parts (list_all passes_test day.passes) (few_test day) t in
    record { passes = all_by PassCanBeTold passes_test passes_by day.passes parts.0; few = few_by day parts.1 }

can_be_told : All DayCanBeTold realistic_days
can_be_told = all_by DayCanBeTold day_test day_by realistic_days refl

pub reads_back_here : ReadsBackWitness
reads_back_here =
    let valid = valid_by realistic refl in (
      valid,
      (refl, (refl, tt)),
      lit≤ tt,
      can_be_told,
      reads_back realistic valid realistic_days (refl, (refl, tt))
          (lit≤ tt) can_be_told,
    )

few : All HasFewPasses realistic_days
few = all_by HasFewPasses few_test few_by realistic_days refl

pub own_chains_are_proved_here : OwnChainsAreProvedWitness
own_chains_are_proved_here =
    let valid = valid_by realistic refl in
    let orders : List CallOrder = realistic_order ∷ [] in
    let evening : State = record { dossier = realistic; marks = last_marks } in
    let proved = own_chains_are_proved realistic None orders realistic_days evening valid
    (lit≤ tt) few two_days_hold.1 in
    (valid, lit≤ tt, few, two_days_hold.1, proved.0, proved.1)
