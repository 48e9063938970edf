-- Every call order of every ranking keeps the laws.
use Rattle.admit_core.specs.CallOrderLaws.{CallOrdersKeepLaws}
use Rattle.admit_core.proofs.OrderPermutes.{order_permutes, length-order, distinct-order, among-order}
use Rattle.admit_core.proofs.OneOrder.{same_order}
use Rattle.admit_core.proofs.ScholarsFirst.{scholars_come_first}
use Rattle.admit_core.proofs.RatesKept.{scholar_rate_kept, resident_rate_kept}
use Rattle.admit_core.proofs.LeastOrder.{scholar_order_least, resident_order_least}

pub laws_kept : CallOrdersKeepLaws
laws_kept g order ranking calls =
    record {
      permutation = order_permutes g order ranking calls;
      whole = length-order g order ranking calls;
      distinct = distinct-order g order ranking calls;
      candidates = among-order g order ranking calls;
      only = λ other others. same_order g other order others calls;
      scholar_rate = scholar_rate_kept g order ranking calls;
      resident_rate = resident_rate_kept g order ranking calls;
      resident_scholars = scholars_come_first g order ranking calls;
      least_by_scholars = scholar_order_least g order ranking calls;
      least_by_residents = resident_order_least g order ranking calls;
    }
