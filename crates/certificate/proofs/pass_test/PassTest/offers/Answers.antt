use Rattle.certificate.proofs.Lowering.{offers_told}
use Rattle.certificate.proofs.pass_test.PassTest.offers.Goals as goal

pub returns-clause-offers : goal.returns-clause-offers
returns-clause-offers g c =
    offers_told c.args.self.now c.check_lines.new.self _ _ _ c.requires c.in_ok-check_lines.ensures.bars
    c.as_slice.ensures c.in_ok-proposed.ensures
