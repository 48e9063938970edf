-- The worked cases of definitions, by computation.
use Rattle.std.proofs.Common.{refl}
use Rattle.admit_core.specs.Faults.{first_after}
use Rattle.law_cases.specs.Definitions.{FreedByOne, LimitExplained, MixedTheOtherWay, NameOfRank, OneIsAnsweredFor}
use Rattle.law_cases.specs.Definitions.{OwnAnswers, PickersChoose, RepeatedRows, StillOverBehind, UnfitRow}
use Rattle.law_cases.specs.Definitions.{UnknownNames}

pub name_of_rank : NameOfRank
name_of_rank = refl

pub limit_explained : LimitExplained
limit_explained = refl

pub still_over_behind : StillOverBehind
still_over_behind = refl

pub one_is_answered_for : OneIsAnsweredFor
one_is_answered_for = (refl, refl)

pub freed_by_one : FreedByOne
freed_by_one = (refl, refl)

pub own_answers : OwnAnswers
own_answers = (refl, refl)

pub unfit_row : UnfitRow
unfit_row = (refl, refl)

pub pickers_choose : PickersChoose
pickers_choose = (refl, refl, refl, refl, refl)

pub mixed_the_other_way : MixedTheOtherWay
unfolding first_after
mixed_the_other_way = refl

pub repeated_rows : RepeatedRows
unfolding first_after
repeated_rows = (refl, refl, refl, refl, refl)

pub unknown_names : UnknownNames
unfolding first_after
unknown_names = (refl, refl, refl, refl, refl)
