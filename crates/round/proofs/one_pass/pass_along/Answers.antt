use Rattle.std.proofs.lemmas.Result.{IfOk-weaker}
use Rattle.round.proofs.KeptFalls.{all_of}
use Rattle.round.proofs.one_pass.pass_along.Goals as goal

pub returns : goal.returns
returns g c =
    let found = c.pass_keeping.result in
    let made = all_of _ found c.pass_keeping.ensures.pass in
    record {
      pass = IfOk-weaker found _ _ (λ pass is. is.by.is_pass) made;
      state = IfOk-weaker found _ _ (λ pass is. is.offers) made;
      picks = record {
        told = IfOk-weaker found _ _ (λ pass is. is.by.told_of) made;
        chosen = IfOk-weaker found _ _ (λ pass is. is.by.chosen) made;
        told_by_then = c.pass_keeping.ensures.told_by_then;
        choice = c.pass_keeping.ensures.choice;
      };
      laws = IfOk-weaker found _ _ (λ pass is. is.laws) made;
      refused = c.pass_keeping.ensures.refused;
    }
