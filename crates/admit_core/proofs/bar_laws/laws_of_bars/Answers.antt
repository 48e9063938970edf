use Rattle.std.proofs.Common.{◌||◌, [], map, nat_lt, filter}
use Rattle.std.proofs.lemmas.Bool.{and_parts, and_from}
use Rattle.admit_core.specs.declared.dossier.Wish.{Wish}
use Rattle.admit_core.specs.declared.state.Mark.{Mark}
use Rattle.admit_core.specs.State.{entries, seats_left}
use Rattle.admit_core.specs.Proposals.{is_open, ahead, needs_no_seat, demands_bed}
use Rattle.admit_core.specs.BarLaws.{RanksRise, WishesStayProposed}
use Rattle.admit_core.proofs.Tests.{increasing-ascending}
use Rattle.admit_core.proofs.DemandLaws.{below_bar, stay_demanded, open_under_higher, ahead_at_most, seat_stays}
use Rattle.admit_core.proofs.DemandLaws.{boarding_is_lawful}
use Rattle.admit_core.proofs.FallsLaw.{run_is_greatest}
use Rattle.admit_core.proofs.FullBeds.{full_below}
use Rattle.admit_core.specs.Boarding.{boarding}
use Rattle.admit_core.proofs.bar_laws.laws_of_bars.Goals as goal

ranks_rise : RanksRise
ranks_rise s orders bars h = increasing-ascending (map (λ (e : Wish × Mark). e.0.board_rank)
    (filter (λ (e : Wish × Mark). demands_bed s orders bars h e.0 e.1) (entries s)))

stays_proposed : WishesStayProposed
stays_proposed s orders lower upper le w m t opens =
    let left = seats_left s w.programme in
    let parts = and_parts (is_open s upper w m) (needs_no_seat s orders w || nat_lt (ahead s orders upper w) left) t in
    and_from (is_open s lower w m) (needs_no_seat s orders w || nat_lt (ahead s orders lower w) left) opens
    (seat_stays s orders lower upper le w parts.1)

pub returns : goal.returns
returns c =
    record {
      ranks_rise = ranks_rise;
      below_bars = below_bar;
      stay_demanded = stay_demanded;
      stay_open = λ s lower upper le w m t. open_under_higher s [] lower upper le w m t;
      ahead = ahead_at_most;
      stay_proposed = stays_proposed;
      runs = λ s orders ceilings falls run. run_is_greatest (boarding s orders ceilings)
          (boarding_is_lawful s orders ceilings) falls run;
      full = full_below;
    }
