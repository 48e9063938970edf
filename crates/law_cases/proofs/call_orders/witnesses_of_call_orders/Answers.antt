use Rattle.law_cases.proofs.OrderCases.{call_orders_keep_laws, call_orders_keep_laws_other}
use Rattle.law_cases.proofs.OrderCases.{calls_resident_scholars_first, each_ranking_has_one_order, keeps_rate_after}
use Rattle.law_cases.proofs.OrderCases.{keeps_resident_rate, only_one_order}
use Rattle.law_cases.proofs.call_orders.witnesses_of_call_orders.Goals as goal

pub returns : goal.returns
returns c = record {
  laws = call_orders_keep_laws;
  scholarship_alone = call_orders_keep_laws_other;
  one = each_ranking_has_one_order;
  only = only_one_order;
  rate = keeps_rate_after;
  resident_rate = keeps_resident_rate;
  resident_scholars = calls_resident_scholars_first;
}
